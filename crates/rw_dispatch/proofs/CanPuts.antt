-- What an object puts, it can put.
use Rattle.rw_dispatch.proofs.Common.{ArePuts, CanPut, IsSome, Kind, List, None, Option, Put, Some, View, and_parts, ap, arith, bounds_in_view}
use Rattle.rw_dispatch.proofs.Common.{int_le, ints, is_between, known, option_map, refl, slice_index_or, sym, true, unwrap_or, ℕ, ℤ, ◌&&◌, ◌<◌, ◌∙◌}
use Rattle.rw_dispatch.proofs.Common.{◌≡◌}
use Rattle.rw_model.proofs.Common.{IsKind, Bounds, all_quantities, slot_in, slot_in_place, Object, object_at, Draft, IsObject, IsBetween}
use Rattle.rw_base.proofs.Common.{All-nil}
use Rattle.rw_base.proofs.Lists.{some_there}
use Rattle.rw_dispatch.specs.Answer.{asked_by_solution}
use Rattle.rw_method.specs.declared.solved.Solved.{Solved}
use Rattle.rw_method.specs.declared.solved.Solved.TheVariants.{Idle, Puts}
use Rattle.rw_method.specs.Puts.{is_bounded}
use Rattle.rw_method.specs.Solve.{solve_of}
use Rattle.rw_run.proofs.Common.{Cells, asked_by, bounds_in_place, cell_at, view_of, solved_by}
use Rattle.rw_method.proofs.SolvedPuts.{solve-puts}
use Rattle.rw_dispatch.proofs.Viewed.{has_slot, bounds_at-view, content-slot, known-view}

-- a put to a slot of the kind, of a value that the slot can have
pub record IsFitting (kind : Kind) (view : View) (put : Put) : Type 0 where
  pub near : put.place < 12
  pub slot : IsSome (slot_in kind put.place)
  pub bounded : is_bounded view put ≡ true

between : (seen bounds : Bounds) (value : ℤ) → seen ≡ bounds → (is_between seen value && is_between all_quantities value) ≡ true
    → IsBetween bounds value
between seen bounds value same inside =
    let parts =
    and_parts (int_le seen.0 value) (int_le value seen.1) (and_parts (is_between seen value) (is_between all_quantities value) inside).0 in
    let low : int_le bounds.0 value ≡ true = ap (λ (b : Bounds). int_le b.0 value) (sym same) ∙ parts.0 in
    let high : int_le value bounds.1 ≡ true = ap (λ (b : Bounds). int_le value b.1) (sym same) ∙ parts.1 in
    record { low = omega (arith, ints); high = omega (arith, ints) }

pub CanPut-fitting : (basin : Draft) (cells : Cells) (object step : ℕ) (kind : Kind) (put : Put) → IsObject basin.objects object
    → option_map (λ (found : Object). found.kind) (object_at basin.objects object) ≡ Some kind → IsFitting kind (view_of basin cells object step) put
    → CanPut basin object put
CanPut-fitting basin cells object step kind put own is fitting =
    let slot = some_there (slot_in kind put.place) fitting.slot in
    let at = has_slot basin.objects object put.place kind slot.0 own.first is slot.1 in
    record {
      few = fitting.near;
      slot = rw at.1 refl;
      between = between (bounds_in_view (view_of basin cells object step) put.place) (bounds_in_place basin object put.place) put.value
          (bounds_at-view basin cells object step put.place fitting.near) fitting.bounded;
    }

are_puts : (basin : Draft) (cells : Cells) (object step : ℕ) (kind : Kind) (seen : View) (puts : List Put) → IsObject basin.objects object
    → option_map (λ (found : Object). found.kind) (object_at basin.objects object) ≡ Some kind → IsKind kind → seen ≡ view_of basin cells object step
    → solve_of kind seen ≡ Puts puts
    → ArePuts basin object puts
are_puts basin cells object step kind seen puts own is sound same solved =
    let by = solve-puts kind (view_of basin cells object step) puts sound (ap (solve_of kind) (sym same) ∙ solved) in record {
      few = by.1;
      can = λ k d near.
          let put = by.0 k d near in
          CanPut-fitting basin cells object step kind (slice_index_or puts k d) own is
          (record { near = put.own.few; slot = put.own.slot; bounded = put.bounded });
    }

asked_puts : (basin : Draft) (object : ℕ) (solved : Solved) → ((puts : List Put) → solved ≡ Puts puts → ArePuts basin object puts)
    → ArePuts basin object (asked_by_solution solved)
asked_puts basin object (Puts puts) each = each puts refl
asked_puts basin object solved each = record { few = omega arith; can = All-nil (CanPut basin object) }

of_object : (found : Option Object) (kind : Kind) (view : View) → option_map (λ (object : Object). object.kind) found ≡ Some kind
    → solve_of kind view ≡ unwrap_or (option_map (λ (object : Object). solve_of object.kind view) found) Idle
of_object None kind view is = absurd (cc)
of_object (Some object) kind view is = let same : kind ≡ object.kind = cc in ap (λ k. solve_of k view) same

solved-is : (basin : Draft) (cells : Cells) (object step : ℕ) (kind : Kind) (seen : View)
    → option_map (λ (found : Object). found.kind) (object_at basin.objects object) ≡ Some kind
    → seen ≡ view_of basin cells object step → solve_of kind seen ≡ solved_by basin cells object step
solved-is basin cells object step kind seen is same =
    ap (solve_of kind) same ∙ of_object (object_at basin.objects object) kind (view_of basin cells object step) is

-- what a method answers by a view of what an object sees
module _ (basin : Draft) (cells : Cells) (object step : ℕ) (kind : Kind) (seen : View) (solved : Solved)
    (is : option_map (λ (found : Object). found.kind) (object_at basin.objects object) ≡ Some kind) (same : seen ≡ view_of basin cells object step)
    (answers : solved ≡ solve_of kind seen) where
  pub solved-seen : solved ≡ solved_by basin cells object step
  solved-seen = answers ∙ solved-is basin cells object step kind seen is same

  pub puts-seen : IsObject basin.objects object → IsKind kind → ArePuts basin object (asked_by_solution solved)
  puts-seen own sound =
      asked_puts basin object solved (λ puts asks. are_puts basin cells object step kind seen puts own is sound same (sym answers ∙ asks))

-- what stands in a put's place is what its cell holds
pub held_in_view : (basin : Draft) (cells : Cells) (object step : ℕ) (view : View) (put : Put) → view ≡ view_of basin cells object step
    → CanPut basin object put
    → cells (asked_by basin object step put).cell ≡ known view put.place
held_in_view basin cells object step view put seen can =
    let slot = some_there (slot_in_place basin.objects object put.place) can.slot in
    ap (λ s. cells (cell_at (unwrap_or s 0) step)) slot.1
    ∙ sym (ap (λ (v : View). known v put.place) seen ∙ known-view basin cells object step put.place can.few
    ∙ content-slot basin cells object step put.place (Some slot.0) slot.1)
