-- What a dispatch of the plain reservoir is, from the flows that are given and the storage before.
use Rattle.rw_plain_reservoir.proofs.Common.{Bool, Content, Kind, List, Look, None, ObjectOutOfRange, Option, Reservoir, Some, [], ap, arith, false}
use Rattle.rw_plain_reservoir.proofs.Common.{if◌then◌else◌, inl, inr, int_le, ints, map, neg_ℤ, plain_reservoir, pos, refl, replicate, slice_index_or}
use Rattle.rw_plain_reservoir.proofs.Common.{true, ℕ, ℤ, ◌&&◌, ◌+ℤ◌, ◌-ℤ◌, ◌∙◌, ◌∷◌, ◌≡◌, ◌⊎◌}
use Rattle.rw_table.proofs.Comparison.{below_or_not, le_fails}
use Rattle.rw_base.specs.Quantity.{quantity_max}
use Rattle.rw_model.specs.declared.writer.Writer.TheVariants.{Object}
use Rattle.rw_model.proofs.Common.{IsAmount, bounds_in, end_of_put, Bounds, from_zero, all_quantities}
use Rattle.rw_method.specs.declared.solved.Solved.{Solved}
use Rattle.rw_method.specs.declared.view.View.{View}
use Rattle.rw_method.specs.View.{is_between}
use Rattle.rw_method.specs.Puts.{put}
use Rattle.rw_method.specs.Solve.{solve_of, all_or_misfit, fits}
use Rattle.rw_run.proofs.Common.{Asked, Cells, Dispatch, Event, solved, fault, input_content, cell_at, places, bounds_in_place, past_value}
use Rattle.rw_run.proofs.Common.{looked_cells, looks_at, dispatched, answered, or_fault, denied_by, is_written}
use Rattle.rw_plain_reservoir.proofs.Alone.{Case, basin_of}

-- ---- whether a storage is in range

abbrev pub is_amount : ℤ → Bool
is_amount z = is_between from_zero z && is_between all_quantities z

fails_high : (a b c : Bool) → b ≡ false → ((a && b) && c) ≡ false
fails_high false b c e = refl
fails_high true b c e = ap (λ t. t && c) e

pub amount_or_not : (z : ℤ) → (IsAmount z × (is_amount z ≡ true)) ⊎ ((¬ IsAmount z) × (is_amount z ≡ false))
amount_or_not z = elim (below_or_not z (pos 0)) [
  | inl low ↦ inr (
    λ (h : IsAmount z). let l = h.low in absurd (omega (arith, ints, low, l)),
    ap (λ t. (t && int_le z quantity_max) && is_between all_quantities z) (le_fails (pos 0) z low),
  )
  | inr least ↦ elim (below_or_not quantity_max z) [
    | inl high ↦ inr (
      λ (h : IsAmount z). let u = h.high in absurd (omega (arith, ints, high, u)),
      fails_high _ _ _ (le_fails z quantity_max high),
    )
    | inr most ↦ inl (record { low = least; high = most }, grind (arith, ints, least, most))
  ]
]

-- ---- what the method answers

abbrev plain : ℤ → Kind
plain initial = Reservoir initial None false false false false None

-- what it sees: what stands in its three places, and the storage before
abbrev seen : Option Content → Option Content → Option Content → Option ℤ → List Bounds → View
seen inflow outflow storage past bounds = record {
  own = record { 0 = 1 };
  now = inflow ∷ outflow ∷ storage ∷ replicate 9 None;
  past = past;
  bounds = bounds;
}

abbrev facing : ℤ → ℤ → ℤ → List Bounds → View
facing inflow outflow past bounds = seen (Some (input_content inflow)) (Some (input_content outflow)) None (Some past) bounds

-- a storage that fits is put, with priority 0, and any other is told
abbrev told : Bool → ℤ → Solved
told fit z = all_or_misfit (put 2 z 0 ∷ []) (if fit then None else Some (put 2 z 0))

abbrev pub after : ℤ → ℤ → ℤ → ℤ
after past inflow outflow = (past +ℤ inflow) -ℤ outflow

solves : (initial inflow outflow past : ℤ) (bounds : List Bounds) → slice_index_or bounds 2 (pos 0, pos 0) ≡ from_zero
    → solve_of (plain initial) (facing inflow outflow past bounds) ≡ told (is_amount (after past inflow outflow)) (after past inflow outflow)
solves initial inflow outflow past bounds usual =
    let raw : ℤ = neg_ℤ (neg_ℤ (((past +ℤ pos 0) -ℤ pos 0) +ℤ ((inflow +ℤ (neg_ℤ outflow +ℤ pos 0)) -ℤ pos 0))) in
    let same : raw ≡ after past inflow outflow = omega (arith, ints) in
    let z : ℤ = after past inflow outflow in
    ap (λ v. told (fits (plain initial) (facing inflow outflow past bounds) (put 2 v 0)) v) same
    ∙ ap (λ (b : Bounds). told (is_between b z && is_between all_quantities z) z) usual

-- ---- the event

-- what is put of a storage
abbrev pub storing : ℕ → ℤ → Asked
storing step z = record { cell = cell_at 3 step; content = record { value = z; number = 0; writer = Object (record { 0 = 1 }) } }

abbrev pub stores_at : List Look → ℕ → ℤ → Dispatch
stores_at looked step z = record { object = 1; step = step; looked = looked; asked = storing step z ∷ []; written = storing step z ∷ [] }

abbrev pub leaves_range : ℕ → ℤ → Event
leaves_range step z = fault (ObjectOutOfRange (record { 0 = 1 }) (record { 0 = 3 }) (record { 0 = step }) z)

-- a storage in range is put, and any other is the fault's value
abbrev pub event_of : Bool → List Look → ℕ → ℤ → Event
event_of true looked step z = solved (stores_at looked step z)
event_of false looked step z = leaves_range step z

abbrev pub looked_by : Case → Cells → ℕ → List Look
looked_by s cells step = looks_at cells (looked_cells (basin_of s) 1 step)

-- what is answered where the three places hold this
abbrev answer_of : Case → Cells → ℕ → Option Content → Option Content → Option Content → Option ℤ → Event
answer_of s cells step inflow outflow storage past =
    answered (basin_of s) cells (looked_by s cells step) 1 step
    (solve_of (plain s.initial) (seen inflow outflow storage past (map (bounds_in_place (basin_of s) 1) places)))

-- what becomes of the put, by what its cell holds
abbrev put_to : List Look → ℕ → ℤ → Option Content → Event
put_to looked step z held =
    or_fault (denied_by (end_of_put held (storing step z).content) (storing step z)) 1 (storing step z)
    (solved (record {
      object = 1;
      step = step;
      looked = looked;
      asked = storing step z ∷ [];
      written = if is_written (end_of_put held (storing step z).content) then storing step z ∷ [] else [];
    }))

ends_as : (s : Case) (cells : Cells) (looked : List Look) (step : ℕ) (z : ℤ) (fit : Bool) → cells (cell_at 3 step) ≡ None
    → answered (basin_of s) cells looked 1 step (told fit z) ≡ event_of fit looked step z
ends_as s cells looked step z true unknown = ap (put_to looked step z) unknown
ends_as s cells looked step z false unknown = refl

-- the flows are given, the storage isn't known, and the one before is
pub record Meets (s : Case) (cells : Cells) (step : ℕ) (inflow outflow past : ℤ) : Type 0 where
  pub is_inflow : cells (cell_at 1 step) ≡ Some (input_content inflow)
  pub is_outflow : cells (cell_at 2 step) ≡ Some (input_content outflow)
  pub is_unknown : cells (cell_at 3 step) ≡ None
  pub is_past : past_value (basin_of s) cells 1 step ≡ Some past
  pub usual : bounds_in (plain_reservoir s.name s.initial ∷ []) [] s.bounds 3 ≡ from_zero

pub dispatches : (s : Case) (cells : Cells) (step : ℕ) (inflow outflow past : ℤ) → Meets s cells step inflow outflow past
    → dispatched (basin_of s) cells 1 step
    ≡ event_of (is_amount (after past inflow outflow)) (looked_by s cells step) step (after past inflow outflow)
dispatches s cells step inflow outflow past met =
    let f = answer_of s cells step in
    let z : ℤ = after past inflow outflow in
    let looked : List Look = looked_by s cells step in
    let before : Option ℤ = past_value (basin_of s) cells 1 step in
    ap (λ a. f a (cells (cell_at 2 step)) (cells (cell_at 3 step)) before) met.is_inflow
    ∙ ap (λ a. f (Some (input_content inflow)) a (cells (cell_at 3 step)) before) met.is_outflow
    ∙ ap (λ a. f (Some (input_content inflow)) (Some (input_content outflow)) a before) met.is_unknown
    ∙ ap (f (Some (input_content inflow)) (Some (input_content outflow)) None) met.is_past
    ∙ ap (answered (basin_of s) cells looked 1 step) (solves s.initial inflow outflow past (map (bounds_in_place (basin_of s) 1) places) met.usual)
    ∙ ends_as s cells looked step z (is_amount z) met.is_unknown
