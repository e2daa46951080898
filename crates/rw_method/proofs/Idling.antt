-- An object that is idle doesn't know all its terms, so that nothing is asked of its balance.
use Rattle.rw_method.proofs.Common.{AllByRecursion, Balanced, Bifurcation, Bool, ByRule, Canal, Conflicts, Confluence, Content, DataObject, Gage}
use Rattle.rw_method.proofs.Common.{Given, Holds, Idle, IdleAnswer, Kind, List, None, Option, Put, Reach, Request, Reservoir, RoutedReach, Solved}
use Rattle.rw_method.proofs.Common.{Some, Term, View, WaterUser, [], all_or_misfit, answer, ap, ap₂, arith, balance_of, balanced_of, difference}
use Rattle.rw_method.proofs.Common.{false, fault_of_contents, first_misfit, fits, if◌then◌else◌, inl, inr, int_eq, is_some, known, map, missing}
use Rattle.rw_method.proofs.Common.{nat_le, nat_tests, net_of, none-some, option_map, pos, puts_of, refl, solved_balance, solved_at, solve_of, solves}
use Rattle.rw_method.proofs.Common.{suc}
use Rattle.rw_method.proofs.Common.{known_sum, sym, true, value_from_others, weakest, zero, ℕ, ℤ, ◌+ℤ◌, ◌+◌, ◌-ℤ◌, ◌==◌, ◌∙◌, ◌∷◌, ◌≡◌, ◌≢◌, ◌≤◌}
use Rattle.rw_method.proofs.Common.{PowerReservoir, first_fault, unless_faulty}
use Rattle.rw_method.specs.Balanced.{IsBalanced, IsHeld}
use Rattle.rw_method.specs.Left.{Left}
use Rattle.rw_method.proofs.Leaving.{from_left}
use Rattle.rw_method.proofs.Netting.{AreDistinct}
use Rattle.rw_method.proofs.Among.{Among, all_at}
use Rattle.rw_method.proofs.BalanceFacts.{balanced_code}
use Rattle.rw_method.proofs.Terms.{Sort, given_in, shape_of, some_value, term_in, terms_are}
use Rattle.rw_method.proofs.SolvedPuts.{IsFaulty, answer_code, contents_faulty, first_faulty}

-- ---- an answer of Idle comes of an idle balance

misfit_busy : (puts : List Put) (misfit : Option Put) → 1 ≤ answer_code (all_or_misfit puts misfit)
misfit_busy puts None = omega arith
misfit_busy puts (Some put) = omega arith

idle_of : (fit : Put → Bool) (puts : List Put) (balanced : Balanced) (fault : Option Solved) → IsFaulty fault
    → answer fit puts balanced fault ≡ IdleAnswer → balanced_code balanced ≡ 0
idle_of fit puts Idle fault busy e = refl
idle_of fit puts (Conflicts place held solved) None busy e = absurd (let code = ap answer_code e in omega (arith, code))
idle_of fit puts balanced (Some found) busy e = absurd (let code = ap answer_code e in omega (arith, busy, code))
idle_of fit puts balanced None busy e =
    absurd (let code = ap answer_code e in let some = misfit_busy puts (first_misfit fit puts) in omega (arith, some, code))

idle_after : (first : Option Solved) (solved : Solved) → IsFaulty first → unless_faulty first solved ≡ IdleAnswer → solved ≡ IdleAnswer
idle_after None solved busy e = e
idle_after (Some fault) solved busy e = absurd (let code = ap answer_code e in omega (arith, busy, code))

pub idle_balance : (kind : Kind) (view : View) → solve_of kind view ≡ IdleAnswer → balanced_code (balanced_of kind view) ≡ 0
idle_balance kind view e =
    idle_of (fits kind view) (puts_of kind view (balanced_of kind view)) (balanced_of kind view) (fault_of_contents kind view)
    (contents_faulty kind view)
    (idle_after (first_fault kind view) _ (first_faulty kind view) e)

-- ---- two terms that aren't given

solved_at_busy : (steady : ℤ) (terms : List Term) (term : Term) (held : Option Given) → 1 ≤ balanced_code (solved_at steady terms term held)
solved_at_busy steady terms term None = omega arith
solved_at_busy steady terms term (Some held) = by (int_eq (steady +ℤ net_of terms) (pos 0)) (held.number == 0)
  where
    by : (balanced none : Bool) → 1 ≤ balanced_code
        (if balanced then Holds else (if none then Conflicts term.place held.value (value_from_others steady terms term) else solves steady
        terms term))
    by true none = omega arith
    by false true = omega arith
    by false false = omega arith

many_missing : (steady : ℤ) (terms : List Term) → balanced_code (solved_balance (Some steady) terms) ≡ 0 → 2 ≤ missing terms
many_missing steady [] idle = absurd (omega (arith, idle))
many_missing steady (first ∷ rest) idle = by (nat_le 2 (missing (first ∷ rest))) refl idle
  where
    by : (test : Bool) → nat_le 2 (missing (first ∷ rest)) ≡ test
        → balanced_code (if test then Idle else solved_at steady (first ∷ rest) (weakest first rest) (weakest first rest).given) ≡ 0
        → 2 ≤ missing (first ∷ rest)
    by true many idle = grind (arith, nat_tests, many)
    by false few idle =
        absurd (let busy = solved_at_busy steady (first ∷ rest) (weakest first rest) (weakest first rest).given in omega (arith, busy, idle))

record IsOpen (view : View) (shape : List Sort) : Type 0 where
  at : Sort
  has : Among shape at
  none : given_in view at ≡ None

one_open : (view : View) (shape : List Sort) → 1 ≤ missing (map (term_in view) shape) → IsOpen view shape
one_open view [] some = absurd (omega (arith, some))
one_open view (s ∷ shape) some = by (given_in view s) refl some (one_open view shape)
  where
    by : (held : Option Given) → given_in view s ≡ held → 1 ≤ (if is_some held then 0 else 1) + missing (map (term_in view) shape)
        → (1 ≤ missing (map (term_in view) shape) → IsOpen view shape) → IsOpen view (s ∷ shape)
    by None is some later = record { at = s; has = inl refl; none = is }
    by (Some held) is some later = let rest = later (omega (arith, some)) in record { at = rest.at; has = inr rest.has; none = rest.none }

record AreOpen (view : View) (shape : List Sort) : Type 0 where
  one : IsOpen view shape
  other : IsOpen view shape
  apart : other.at.place ≢ one.at.place

two_open : (view : View) (shape : List Sort) → AreDistinct shape → 2 ≤ missing (map (term_in view) shape) → AreOpen view shape
two_open view [] distinct many = absurd (omega (arith, many))
two_open view (s ∷ shape) distinct many = by (given_in view s) refl many (two_open view shape distinct.1)
  where
    by : (held : Option Given) → given_in view s ≡ held → 2 ≤ (if is_some held then 0 else 1) + missing (map (term_in view) shape)
        → (2 ≤ missing (map (term_in view) shape) → AreOpen view shape) → AreOpen view (s ∷ shape)
    by None is many later =
        let rest = one_open view shape (omega (arith, many)) in
        record {
          one = record { at = s; has = inl refl; none = is };
          other = record { at = rest.at; has = inr rest.has; none = rest.none };
          apart = λ same. all_at (λ (r : Sort). s.place ≢ r.place) shape rest.at distinct.0 rest.has (sym same);
        }
    by (Some held) is many later =
        let rest = later (omega (arith, many)) in
        record {
          one = record { at = rest.one.at; has = inr rest.one.has; none = rest.one.none };
          other = record { at = rest.other.at; has = inr rest.other.has; none = rest.other.none };
          apart = rest.apart;
        }

-- ---- nothing is asked of the balance of an idle object

held_known : (view : View) (place : ℕ) (value : ℤ) → IsHeld view place value → (content : Content) × (known view place ≡ Some content)
held_known view place value held = some_value (known view place) value held

abbrev AllKnown : View → List Sort → Type 0
AllKnown view shape = AllByRecursion (λ (s : Sort). (content : Content) × (known view s.place ≡ Some content)) shape

-- where all terms are known and what else is brought is, the object isn't idle
never : (kind : Kind) (view : View) (steady : ℤ) → Left kind view → AreDistinct (shape_of kind) → (balance_of kind view).steady ≡ Some steady
    → AllKnown view (shape_of kind)
    → solve_of kind view ≡ IdleAnswer → ⊥
never kind view steady left distinct is all idle =
    let code : balanced_code (solved_balance (Some steady) (map (term_in view) (shape_of kind))) ≡ 0 =
    ap₂ (λ s ts. balanced_code (solved_balance s ts)) (sym is) (sym (terms_are kind view)) ∙ idle_balance kind view idle in
    let open_two = two_open view (shape_of kind) distinct (many_missing steady (map (term_in view) (shape_of kind)) code) in
    let there =
    all_at (λ (s : Sort). (content : Content) × (known view s.place ≡ Some content)) (shape_of kind) open_two.one.at all open_two.one.has in
    let up =
    (from_left kind view left).terms open_two.one.at open_two.other.at there.0 open_two.one.has open_two.other.has open_two.apart
    open_two.one.none there.1 in
    none-some up.held (sym open_two.other.none ∙ up.is)

pub idle_balanced : (kind : Kind) (view : View) → Left kind view → solve_of kind view ≡ IdleAnswer → IsBalanced kind view
idle_balanced (DataObject slots) view left idle = tt
idle_balanced Gage view left idle = λ inflow outflow held_in held_out.
    absurd (never Gage view (pos 0) left (((λ same. omega (arith, same)), tt), (tt, tt)) refl
    (held_known view 0 inflow held_in, (held_known view 1 outflow held_out, tt)) idle)
idle_balanced Confluence view left idle = λ one two outflow held_one held_two held_out.
    absurd (never Confluence view (pos 0) left
    (((λ same. omega (arith, same)), ((λ same. omega (arith, same)), tt)), (((λ same. omega (arith, same)), tt), (tt, tt))) refl
    (held_known view 0 one held_one, (held_known view 1 two held_two, (held_known view 2 outflow held_out, tt))) idle)
idle_balanced Bifurcation view left idle = λ inflow one two held_in held_one held_two.
    absurd (never Bifurcation view (pos 0) left
    (((λ same. omega (arith, same)), ((λ same. omega (arith, same)), tt)), (((λ same. omega (arith, same)), tt), (tt, tt))) refl
    (held_known view 0 inflow held_in, (held_known view 1 one held_one, (held_known view 2 two held_two, tt))) idle)
idle_balanced (Reach zero history local_inflow diversion return_flow) view left idle = λ inflow outflow side held_in held_out sides.
    absurd (never (Reach zero history local_inflow diversion return_flow) view side left (((λ same. omega (arith, same)), tt), (tt, tt)) sides
    (held_known view 0 inflow held_in, (held_known view 1 outflow held_out, tt)) idle)
idle_balanced (Reach (suc lag) history local_inflow diversion return_flow) view left idle = λ past outflow side past_is held_out sides.
    absurd (never (Reach (suc lag) history local_inflow diversion return_flow) view (past +ℤ side) left (tt, tt)
    (ap₂ (λ a b. known_sum a b) past_is sides)
    (held_known view 1 outflow held_out, tt) idle)
idle_balanced (Reservoir initial_storage table local_inflow diversion return_flow evaporation max_release) view left idle =
    λ past inflow outflow storage side evaporates past_is held_in held_out held_storage sides evaporates_is.
    absurd (never (Reservoir initial_storage table local_inflow diversion return_flow evaporation max_release) view
    ((past +ℤ side) -ℤ evaporates) left
    (((λ same. omega (arith, same)), ((λ same. omega (arith, same)), tt)), (((λ same. omega (arith, same)), tt), (tt, tt)))
    (ap₂ (λ a b. difference a b) (ap₂ (λ a b. known_sum a b) past_is sides) evaporates_is)
    (held_known view 0 inflow held_in, (held_known view 1 outflow held_out, (held_known view 2 storage held_storage, tt))) idle)
idle_balanced (PowerReservoir initial_storage table max_release tailwater power) view left idle =
    λ past inflow outflow storage past_is held_in held_out held_storage.
    absurd (never (PowerReservoir initial_storage table max_release tailwater power) view past left
    (((λ same. omega (arith, same)), ((λ same. omega (arith, same)), tt)), (((λ same. omega (arith, same)), tt), (tt, tt))) past_is
    (held_known view 0 inflow held_in, (held_known view 1 outflow held_out, (held_known view 2 storage held_storage, tt))) idle)
idle_balanced (WaterUser depletion Request) view left idle = λ request diversion held_request held_diversion.
    absurd (never (WaterUser depletion Request) view request left (tt, tt) held_request (held_known view 1 diversion held_diversion, tt) idle)
idle_balanced (WaterUser depletion ByRule) view left idle = λ diversion held_diversion.
    absurd (never (WaterUser depletion ByRule) view diversion left tt held_diversion tt idle)
idle_balanced (Canal seepage) view left idle = λ inflow outflow held_in held_out.
    absurd (never (Canal seepage) view (pos 0) left (((λ same. omega (arith, same)), tt), (tt, tt)) refl
    (held_known view 0 inflow held_in, (held_known view 1 outflow held_out, tt)) idle)
idle_balanced (RoutedReach initial_content release) view left idle = λ past inflow outflow past_is held_in held_out.
    absurd (never (RoutedReach initial_content release) view (pos 0) left (((λ same. omega (arith, same)), tt), (tt, tt))
    (ap (option_map (λ z. pos 0)) past_is)
    (held_known view 0 inflow held_in, (held_known view 1 outflow held_out, tt)) idle)
