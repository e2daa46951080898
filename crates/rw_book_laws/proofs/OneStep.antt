-- What a timestep brings to the book of an object that is balanced.
use Rattle.rw_base.proofs.Common.{Bool, IsSome, List, None, Option, Some, ap, ap₂, arith, false, false≢true, ints, none-some, pos, refl, same_Some}
use Rattle.rw_base.proofs.Common.{sym, true, unwrap_or, ◌+ℤ◌, ◌-ℤ◌, ◌∙◌, ◌≡◌, ℕ, ℤ}
use Rattle.rw_table.specs.Table.{Row}
use Rattle.rw_model.specs.Kind.{IsKind, IsStored}
use Rattle.rw_model.specs.declared.kind.Kind.{Kind}
use Rattle.rw_model.specs.declared.kind.Kind.TheVariants.{PowerReservoir, Reservoir, RoutedReach}
use Rattle.rw_method.specs.Balance.{evaporation_from, evaporation_of, known_sum, side_flows}
use Rattle.rw_method.specs.Balanced.{IsBalanced, IsLost}
use Rattle.rw_method.specs.Contents.{difference, evaporated}
use Rattle.rw_method.specs.View.{known_value}
use Rattle.rw_method.specs.declared.view.View.{View}
use Rattle.rw_books.specs.declared.turnover.Turnover.{Turnover}
use Rattle.rw_books.specs.Turnover.{if_chosen, turnover, turnover_beside, turnover_of}

pub record IsTurnover (a b c : Option ℤ) (turn : Turnover) : Type 0 where
  pub inflow : a ≡ Some turn.inflow
  pub outflow : b ≡ Some turn.outflow
  pub held : c ≡ Some turn.held

known : (inflow outflow held : Option ℤ) (turn : Turnover) → turnover inflow outflow held ≡ Some turn → IsTurnover inflow outflow held turn
known None outflow held turn is = absurd (none-some turn is)
known (Some i) None held turn is = absurd (none-some turn is)
known (Some i) (Some o) None turn is = absurd (none-some turn is)
known (Some i) (Some o) (Some h) turn is = let same = same_Some _ _ is in record {
  inflow = ap (λ (t : Turnover). Some t.inflow) same;
  outflow = ap (λ (t : Turnover). Some t.outflow) same;
  held = ap (λ (t : Turnover). Some t.held) same;
}

record IsSum (a b : Option ℤ) (sum : ℤ) : Type 0 where
  first : ℤ
  second : ℤ
  one : a ≡ Some first
  other : b ≡ Some second
  is : first +ℤ second ≡ sum

summed : (a b : Option ℤ) (sum : ℤ) → known_sum a b ≡ Some sum → IsSum a b sum
summed None b sum is = absurd (none-some sum is)
summed (Some a) None sum is = absurd (none-some sum is)
summed (Some a) (Some b) sum is = record { first = a; second = b; one = refl; other = refl; is = same_Some _ _ is }

record IsWithKnown (other : Option ℤ) (value : Option Turnover) (turn : Turnover) : Type 0 where
  there : ℤ
  known : other ≡ Some there
  is : value ≡ Some turn

with_known : (other : Option ℤ) (value : Option Turnover) (turn : Turnover) → turnover_beside other value ≡ Some turn → IsWithKnown other value turn
with_known None value turn is = absurd (none-some turn is)
with_known (Some other) value turn is = record { there = other; known = refl; is = is }

-- ---- what evaporates

lost_is : (evaporation : Bool) (table : Option (List Row)) (view : View) (past rate : ℤ) → view.past ≡ Some past
    → if_chosen evaporation (known_value view 7) ≡ Some rate → (lost : ℤ) × (evaporation_of evaporation table view ≡ Some lost)
lost_is evaporation None view past rate before rate_is = (pos 0, refl)
lost_is false (Some rows) view past rate before rate_is = (pos 0, refl)
lost_is true (Some rows) view past rate before rate_is = (unwrap_or (evaporated rows past rate) (pos 0), ap₂ (evaporation_from rows) before rate_is)

lost_same : (evaporation : Bool) (table : Option (List Row)) (view : View) (past lost held : ℤ) → ((evaporation ≡ true) → IsSome table)
    → evaporation_of evaporation table view ≡ Some lost → IsLost evaporation table view past lost
    → if_chosen evaporation (known_value view 8) ≡ Some held → lost ≡ held
lost_same false None view past lost held has is balanced held_is = same_Some _ _ (sym is ∙ held_is)
lost_same false (Some rows) view past lost held has is balanced held_is = same_Some _ _ (sym is ∙ held_is)
lost_same true None view past lost held has is balanced held_is = absurd (false≢true (has refl))
lost_same true (Some rows) view past lost held has is balanced held_is = same_Some _ _ (sym balanced.held ∙ held_is)

-- ---- a kind each

reservoir_turns : (initial_storage : ℤ) (table : Option (List Row)) (local_inflow diversion return_flow evaporation : Bool) (max_release : Option ℤ)
    (view : View) (past : ℤ) (turn : Turnover)
    → IsStored initial_storage table evaporation max_release
    → IsBalanced (Reservoir initial_storage table local_inflow diversion return_flow evaporation max_release) view → view.past ≡ Some past
    → turnover_of (Reservoir initial_storage table local_inflow diversion return_flow evaporation max_release) (known_value view) ≡ Some turn
    → past +ℤ turn.inflow -ℤ turn.outflow ≡ turn.held
reservoir_turns initial_storage table local_inflow diversion return_flow evaporation max_release view past turn sound balanced before is =
    let rated = with_known (if_chosen evaporation (known_value view 7)) _ turn is in
    let turns = known
    (known_sum (known_sum (known_value view 0) (if_chosen local_inflow (known_value view 4))) (if_chosen return_flow (known_value view 6)))
    (known_sum (known_sum (known_value view 1) (if_chosen diversion (known_value view 5))) (if_chosen evaporation (known_value view 8)))
    (known_value view 2) turn rated.is in
    let ins = summed (known_sum (known_value view 0) (if_chosen local_inflow (known_value view 4)))
    (if_chosen return_flow (known_value view 6)) turn.inflow turns.inflow in
    let first = summed (known_value view 0) (if_chosen local_inflow (known_value view 4)) ins.first ins.one in
    let outs = summed (known_sum (known_value view 1) (if_chosen diversion (known_value view 5)))
    (if_chosen evaporation (known_value view 8)) turn.outflow turns.outflow in
    let leaves = summed (known_value view 1) (if_chosen diversion (known_value view 5)) outs.first outs.one in
    let lost = lost_is evaporation table view past rated.there before rated.known in
    let side : side_flows view 4 local_inflow diversion return_flow ≡ Some (first.second +ℤ ins.second -ℤ leaves.second) =
    ap₂ (λ a b. difference a b) (ap₂ known_sum first.other ins.other) leaves.other in
    let step = balanced past first.first leaves.first turn.held
    (first.second +ℤ ins.second -ℤ leaves.second) lost.0 before first.one leaves.one turns.held side lost.1 in
    let same = lost_same evaporation table view past lost.0 outs.second sound.evaporates lost.1 step.evaporated outs.other in
    let a = step.balance in let b = first.is in let c = ins.is in let d = leaves.is in let e = outs.is in
    omega (arith, ints, a, b, c, d, e, same)

-- the book goes on
pub turns_over : (kind : Kind) (view : View) (past : ℤ) (turn : Turnover) → IsKind kind → IsBalanced kind view → view.past ≡ Some past
    → turnover_of kind (known_value view) ≡ Some turn → past +ℤ turn.inflow -ℤ turn.outflow ≡ turn.held
turns_over (Reservoir initial_storage table local_inflow diversion return_flow evaporation max_release) view past turn sound balanced before is =
    reservoir_turns initial_storage table local_inflow diversion return_flow evaporation max_release view past turn sound balanced before is
turns_over (PowerReservoir initial_storage table max_release tailwater power) view past turn sound balanced before is =
    let turns = known (known_value view 0) (known_value view 1) (known_value view 2) turn is in
    let step = balanced past turn.inflow turn.outflow turn.held before turns.inflow turns.outflow turns.held in
    let a = step.balance in omega (arith, ints, a)
turns_over (RoutedReach initial_content release) view past turn sound balanced before is =
    let turns = known (known_value view 0) (known_value view 1) (known_value view 2) turn is in
    let step = balanced past turn.inflow turn.outflow before turns.inflow turns.outflow in
    let a : past +ℤ turn.inflow -ℤ turn.outflow ≡ turn.held = same_Some _ _ (sym step.1 ∙ turns.held) in a
turns_over kind view past turn sound balanced before is = absurd (none-some turn is)

-- what is held stands in place 2
pub held_is : (kind : Kind) (values : ℕ → Option ℤ) (turn : Turnover) → turnover_of kind values ≡ Some turn → values 2 ≡ Some turn.held
held_is (Reservoir initial_storage table local_inflow diversion return_flow evaporation max_release) values turn is =
    let rated = with_known (if_chosen evaporation (values 7)) _ turn is in
    (known
    (known_sum (known_sum (values 0) (if_chosen local_inflow (values 4))) (if_chosen return_flow (values 6)))
    (known_sum (known_sum (values 1) (if_chosen diversion (values 5))) (if_chosen evaporation (values 8)))
    (values 2) turn rated.is).held
held_is (PowerReservoir initial_storage table max_release tailwater power) values turn is = (known (values 0) (values 1) (values 2) turn is).held
held_is (RoutedReach initial_content release) values turn is = (known (values 0) (values 1) (values 2) turn is).held
held_is kind values turn is = absurd (none-some turn is)
