-- Puts of which the first are asked for together, and what is answered of all.
use Rattle.rw_base.proofs.Common.{Bool, Err, List, None, Ok, OnOk, Option, Result, Some, [], ap, arith, false, if◌then◌else◌, inl, inr, length, refl}
use Rattle.rw_base.proofs.Common.{sym, true, ℕ, ℤ, ◌++◌, ◌+◌, ◌==◌, ◌∙◌, ◌∷◌, ◌≡◌, ◌≤◌, ◌⊎◌}
use Rattle.std.proofs.lemmas.List.{length-append}
use Rattle.rw_table.specs.Table.{Row}
use Rattle.rw_model.specs.declared.kind.Kind.TheVariants.{PowerReservoir}
use Rattle.rw_method.specs.declared.balanced.Balanced.{Balanced}
use Rattle.rw_method.specs.declared.balanced.Balanced.TheVariants.{Conflicts, Holds, Idle, Solves}
use Rattle.rw_method.specs.declared.given.Given.{Given}
use Rattle.rw_method.specs.declared.put.Put.{Put}
use Rattle.rw_method.specs.declared.solved.Solved.{Solved}
use Rattle.rw_method.specs.declared.term.Term.{Term}
use Rattle.rw_method.specs.Asking.{Asks, IsRefused, can_get}
use Rattle.rw_method.specs.declared.places.TheConstants.{OUTFLOW}
use Rattle.rw_method.specs.declared.view.View.{View}
use Rattle.rw_method.specs.Balance.{power_balance}
use Rattle.rw_method.specs.Power.{Plant, asked_of, head_of, plant}
use Rattle.rw_method.specs.Puts.{asked_number, asked_put, energy_puts, flow_puts, held_after_puts, put, puts_or_answer, solved_put}
use Rattle.rw_method.specs.Solve.{AllFit, answer, answer_of_puts, fault_of_level, fault_of_power, solve_of, unless_faulty}
use Rattle.rw_method.proofs.Misfits.{all_fit, asks_at_once, judged_all, judged_refused, refused_at_once, refused_later}
use Rattle.rw_method.proofs.PutFacts.{first_fits}
use Rattle.rw_power.specs.Answering.{asked_puts, front_puts, power_answer, power_balanced}

-- what follows puts of which one is refused isn't asked for
pub asks_front : {X Y : Type 0} (fit : Put → Bool) (front back old mid new : List Put) (answer : Solved) → Asks {X = X} fit front old mid (Err answer)
    → Asks {X = Y} fit (front ++ back) old new (Err answer)
asks_front fit front back old mid new answer asks = asks_at_once fit front back old new answer asks.refused

-- what is answered where one of the first is refused
pub front_refused : (plant : Plant) (view : View) (head : ℤ) (asked : Option Given) (terms : List Term) (balanced : Balanced) (answer : Solved)
    → IsRefused (can_get (Some plant.table) view) (front_puts plant.table view asked terms balanced) answer
    → answer ≡ answer_of_puts (can_get (Some plant.table) view) (asked_puts plant view head asked terms balanced)
front_refused plant view head asked terms balanced answer refused =
    let fit : Put → Bool = can_get (Some plant.table) view in
    let front : List Put = front_puts plant.table view asked terms balanced in
    let energies : List Put = energy_puts plant head (held_after_puts view (flow_puts asked terms balanced) OUTFLOW) in
    sym (judged_refused fit (front ++ energies) answer (refused_at_once fit front energies answer refused))

-- what is answered of all, where the first fit and the others were asked for behind them
pub behind : {X : Type 0} (fit : Put → Bool) (front back old new : List Put) (result : Result X Solved) → AllFit fit front → old ≡ front
    → Asks fit back old new result → puts_or_answer new result ≡ answer_of_puts fit (front ++ back)
behind fit front back old new (Ok done) fits is asks =
    sym (rw (asks.added, is) (judged_all fit (front ++ back) (all_fit fit front back fits asks.fits)))
behind fit front back old new (Err answer) fits is asks =
    sym (judged_refused fit (front ++ back) answer (refused_later fit front back answer fits asks.refused))

-- the solved term fits where the flows do
pub solved_fits : (fit : Put → Bool) (asked : Option Given) (terms : List Term) (balanced : Balanced) → AllFit fit (flow_puts asked terms balanced)
    → AllFit fit (solved_put balanced)
solved_fits fit None terms balanced all = all
solved_fits fit (Some asked) terms Idle all = refl
solved_fits fit (Some asked) terms Holds all = refl
solved_fits fit (Some asked) terms (Conflicts place held found) all = refl
solved_fits fit (Some asked) terms (Solves place value number) all = by (place == 1) (place == 0) all
  where
    solved : Put
    solved = put place value number

    beside : Put
    beside = asked_put terms (Solves place value number) asked

    by : (out in_ : Bool) → AllFit fit (if out then solved ∷ [] else (if in_ then solved ∷ beside ∷ [] else beside ∷ solved ∷ []))
        → AllFit fit (solved ∷ [])
    by true in_ all = all
    by false true all = rw ((first_fits fit solved (beside ∷ []) all).0) refl
    by false false all = (first_fits fit beside (solved ∷ []) all).1

-- so many puts at most are there then
pub room : {X : Type 0} (fit : Put → Bool) (puts old new : List Put) (result : Result X Solved) (most : ℕ) → length puts ≤ most
    → Asks fit puts old new result
    → OnOk result (length new ≤ length old + most)
room fit puts old new (Ok done) most few asks = let same = ap length asks.added in let sum = length-append old puts in omega (arith, same, sum, few)
room fit puts old new (Err answer) most few asks = tt

-- where no term was solved, the outflow that is asked for is put alone
abbrev pub IsUnsolved : Balanced → Type 0
IsUnsolved balanced =
    (balanced ≡ Idle) ⊎ ((balanced ≡ Holds) ⊎ ((place : ℕ) × (held : ℤ) × (solved : ℤ) × (balanced ≡ Conflicts place held solved)))

pub unsolved : (asked : Given) (terms : List Term) (balanced : Balanced) → IsUnsolved balanced
    → (put OUTFLOW asked.value (asked_number terms balanced asked.number) ∷ []) ≡ flow_puts (Some asked) terms balanced
unsolved asked terms balanced (inl is) = rw is refl
unsolved asked terms balanced (inr (inl is)) = rw is refl
unsolved asked terms balanced (inr (inr (place, held, solved, is))) = rw is refl

-- what is answered once the balance is solved, with what was reckoned for it
pub answered_by : (plant : Plant) (view : View) (head : ℤ) (asked : Option Given) (terms : List Term) (balanced : Balanced) (fault : Option Solved)
    (solved : Solved)
    → head ≡ head_of plant view → asked ≡ asked_of plant view → terms ≡ (power_balance plant view).terms → balanced ≡ power_balanced plant view
    → fault ≡ fault_of_level (Some plant.table) view
    → solved ≡ answer_of_puts (can_get (Some plant.table) view) (asked_puts plant view head asked terms balanced)
    → ((fit : Put → Bool) (puts : List Put) → answer fit puts balanced fault ≡ answer_of_puts fit puts)
    → solved ≡ power_answer plant view
answered_by plant view head asked terms balanced fault solved head_is asked_is terms_are balanced_is fault_is is ends =
    let fit : Put → Bool = can_get (Some plant.table) view in
    let puts : List Put = asked_puts plant view head asked terms balanced in
    let answered : solved ≡ answer fit puts balanced fault = is ∙ sym (ends fit puts) in
    rw (head_is, asked_is, terms_are, balanced_is, fault_is) at answered

pub three_same : (a b c x y z : Term) → a ≡ x → b ≡ y → c ≡ z → (a ∷ b ∷ c ∷ []) ≡ (x ∷ y ∷ z ∷ [])
three_same a b c x y z first second third =
    ap (λ t. t ∷ b ∷ c ∷ []) first ∙ ap (λ t. x ∷ t ∷ c ∷ []) second ∙ ap (λ t. x ∷ y ∷ t ∷ []) third

-- where nothing is wrong before all else
pub solved_as : (initial_storage : ℤ) (table : List Row) (max_release tailwater : ℤ) (power : ℕ) (view : View)
    → fault_of_power (plant table max_release tailwater power) view ≡ None
    → power_answer (plant table max_release tailwater power) view ≡ solve_of (PowerReservoir initial_storage table max_release tailwater power) view
solved_as initial_storage table max_release tailwater power view fine =
    sym (ap (λ first. unless_faulty first (power_answer (plant table max_release tailwater power) view)) fine)
