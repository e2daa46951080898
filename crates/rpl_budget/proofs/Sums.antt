-- Sums and products of numbers that stop above a limit are what stops of the whole sum or product.
use Rattle.std.proofs.Common.{◌≡◌, ℕ, zero, suc, ◌+◌, ◌*◌, ◌≤◌, ◌<◌, max, Bool, true, false, nat_lt, refl, sym, ap, ◌∙◌, arith}
use Rattle.rpl_tree.specs.Budget.{capped}

abbrev pub plus : ℕ → ℕ → ℕ → ℕ
plus limit first second = capped limit (first + second)

pub sum : (limit first second : ℕ) → plus limit (capped limit first) (capped limit second) ≡ capped limit (first + second)
sum limit first second = omega arith

-- ---- products

below : (limit times second : ℕ) → second ≤ limit → capped limit (times * capped limit second) ≡ capped limit (times * second)
below limit times second at_most = let stops_so : capped limit second ≡ second = omega (arith, at_most) in ap (λ x. capped limit (times * x)) stops_so

at_least : (times second : ℕ) → second ≤ suc times * second
at_least times second = omega arith

beyond : (limit times second : ℕ) → limit < second → capped limit (times * capped limit second) ≡ capped limit (times * second)
beyond limit zero second less = omega arith
beyond limit (suc times) second less =
    let stops_so : capped limit second ≡ suc limit = omega (arith, less) in
    let whole : capped limit (suc times * second) ≡ suc limit = omega (arith, less, at_least times second) in
    let stopped : capped limit (suc times * suc limit) ≡ suc limit = omega (arith, at_least times (suc limit)) in
    ap (λ x. capped limit (suc times * x)) stops_so ∙ stopped ∙ sym whole

pub product : (limit times second : ℕ) → capped limit (times * capped limit second) ≡ capped limit (times * second)
product limit times second = by (nat_lt limit second) refl
  where
    by : (test : Bool) → nat_lt limit second ≡ test → capped limit (times * capped limit second) ≡ capped limit (times * second)
    by true test_is = let holds : limit < second = grind arith in beyond limit times second holds
    by false test_is = let holds : second ≤ limit = grind arith in below limit times second holds

-- ---- one price. A number v is what stops of a step s

-- of a value that is given the room of its place
pub room : (limit first step_cost step_stopped : ℕ) → step_stopped ≡ capped limit step_cost
    → plus limit (capped limit first) (plus limit step_stopped 0) ≡ capped limit (first + step_cost)
room limit first step_cost step_stopped step_is = omega (arith, step_is)

pub choice : (limit condition if_true if_false true_room false_room true_stopped false_stopped step_cost step_stopped : ℕ)
    → true_stopped ≡ capped limit true_room → false_stopped ≡ capped limit false_room → step_stopped ≡ capped limit step_cost
    → plus limit (capped limit condition)
    (plus limit
    (max (plus limit (capped limit if_true) (plus limit true_stopped 0)) (plus limit (capped limit if_false) (plus limit false_stopped 0)))
    step_stopped)
    ≡ capped limit (condition + (max (if_true + true_room) (if_false + false_room) + step_cost))
choice limit condition if_true if_false true_room false_room true_stopped false_stopped step_cost step_stopped true_is false_is step_is =
    omega (arith, true_is, false_is, step_is)

pub bind : (limit first step_cost step_stopped second : ℕ) → step_stopped ≡ capped limit step_cost
    → plus limit (capped limit first) (plus limit step_stopped (capped limit second)) ≡ capped limit (first + (step_cost + second))
bind limit first step_cost step_stopped second step_is = omega (arith, step_is)

pub turn : (limit second room_cost room_stopped step_cost step_stopped : ℕ) → room_stopped ≡ capped limit room_cost
    → step_stopped ≡ capped limit step_cost
    → plus limit (plus limit (capped limit second) (plus limit room_stopped 0)) step_stopped ≡ capped limit (second + (room_cost + step_cost))
turn limit second room_cost room_stopped step_cost step_stopped room_is step_is = omega (arith, room_is, step_is)

pub each : (limit first initial step_cost step_stopped turn_cost times : ℕ) → step_stopped ≡ capped limit step_cost
    → plus limit (plus limit (capped limit first) (capped limit initial))
    (plus limit (plus limit step_stopped (plus limit 0 0)) (capped limit (times * capped limit turn_cost)))
    ≡ capped limit (first + (initial + (step_cost + times * turn_cost)))
each limit first initial step_cost step_stopped turn_cost times step_is = omega (arith, step_is, product limit times turn_cost)

pub mapped : (limit first step_cost step_stopped second times : ℕ) → step_stopped ≡ capped limit step_cost
    → plus limit (capped limit first) (plus limit (plus limit step_stopped 0) (capped limit (times * plus limit (capped limit second) step_stopped)))
    ≡ capped limit (first + (step_cost + times * (second + step_cost)))
mapped limit first step_cost step_stopped second times step_is =
    let inner : plus limit (capped limit second) step_stopped ≡ capped limit (second + step_cost) = omega (arith, step_is) in
    let turns : capped limit (times * plus limit (capped limit second) step_stopped) ≡ capped limit (times * (second + step_cost)) =
    ap (λ x. capped limit (times * x)) inner ∙ product limit times (second + step_cost) in
    omega (arith, step_is, turns)

pub step : (limit first step_cost step_stopped : ℕ) → step_stopped ≡ capped limit step_cost
    → plus limit (capped limit first) step_stopped ≡ capped limit (first + step_cost)
step limit first step_cost step_stopped step_is = omega (arith, step_is)

pub listed : (limit first step_cost step_stopped : ℕ) → step_stopped ≡ capped limit step_cost
    → plus limit (capped limit first) (plus limit step_stopped 0) ≡ capped limit (first + step_cost)
listed limit first step_cost step_stopped step_is = omega (arith, step_is)

pub two : (limit first second step_cost step_stopped : ℕ) → step_stopped ≡ capped limit step_cost
    → plus limit (capped limit first) (plus limit (capped limit second) step_stopped) ≡ capped limit (first + (second + step_cost))
two limit first second step_cost step_stopped step_is = omega (arith, step_is)

pub or_first : (limit first second step_cost step_stopped other_cost other_stopped : ℕ) → step_stopped ≡ capped limit step_cost
    → other_stopped ≡ capped limit other_cost
    → plus limit (capped limit first) (plus limit (max step_stopped (capped limit second)) other_stopped)
    ≡ capped limit (first + (max step_cost second + other_cost))
or_first limit first second step_cost step_stopped other_cost other_stopped step_is other_is = omega (arith, step_is, other_is)

pub or_last : (limit first second step_cost step_stopped other_cost other_stopped : ℕ) → step_stopped ≡ capped limit step_cost
    → other_stopped ≡ capped limit other_cost
    → plus limit (capped limit first) (plus limit (max step_stopped (capped limit second)) other_stopped)
    ≡ capped limit (first + (max second step_cost + other_cost))
or_last limit first second step_cost step_stopped other_cost other_stopped step_is other_is = omega (arith, step_is, other_is)

pub branch : (limit condition first second step_cost step_stopped : ℕ) → step_stopped ≡ capped limit step_cost
    → plus limit (capped limit condition) (plus limit (max (capped limit first) (capped limit second)) step_stopped)
    ≡ capped limit (condition + (max first second + step_cost))
branch limit condition first second step_cost step_stopped step_is = omega (arith, step_is)

pub argument : (limit first room_cost room_stopped second : ℕ) → room_stopped ≡ capped limit room_cost
    → plus limit (plus limit (capped limit first) (plus limit room_stopped 0)) (capped limit second) ≡ capped limit (first + (room_cost + second))
argument limit first room_cost room_stopped second room_is = omega (arith, room_is)
