-- One plain reservoir alone with its flows. It has no links, since a link joins slots of two objects.
use Rattle.rw_plain_reservoir.proofs.Common.{All, FirstModel, List, Some, [], arith, nat_tests, plain_reservoir, pos, refl, slice_index_or}
use Rattle.rw_plain_reservoir.proofs.Common.{storage_at, suc, zero, ℕ, ℤ, ◌+◌, ◌<◌, ◌∷◌, ◌≡◌, ◌≤◌}
use Rattle.std.specs.List.{IsDistinct}
use Rattle.rw_model.specs.declared.control.RunControl.{RunControl}
use Rattle.rw_model.proofs.Common.{Bound, Draft, IsLink, owner_of}
use Rattle.rw_run.proofs.Common.{Cells, cell_at, value_in}

pub record Case : Type 0 where
  pub control : RunControl
  pub name : List ℕ
  pub initial : ℤ
  pub bounds : List Bound
  pub inflows : List ℤ
  pub outflows : List ℤ

abbrev pub basin_of : Case → Draft
basin_of s = record { control = s.control; objects = plain_reservoir s.name s.initial ∷ []; links = []; bounds = s.bounds }

abbrev pub model_of : Case → FirstModel
model_of s = record { name = s.name; initial = s.initial; run = s.control.stamps }

abbrev pub count_of : Case → ℕ
count_of s = s.control.stamps.count

abbrev pub inflow_at : Case → ℕ → ℤ
inflow_at s t = slice_index_or s.inflows t (pos 0)

abbrev pub outflow_at : Case → ℕ → ℤ
outflow_at s t = slice_index_or s.outflows t (pos 0)

abbrev pub storage_of : Case → ℕ → ℤ
storage_of s t = storage_at s.initial s.inflows s.outflows t

-- the values of the first timesteps
pub record HasValues (s : Case) (cells : Cells) (closed : ℕ) : Type 0 where
  pub inflow : (t : ℕ) → t < closed → value_in cells (cell_at 1 (t + 1)) ≡ Some (inflow_at s t)
  pub outflow : (t : ℕ) → t < closed → value_in cells (cell_at 2 (t + 1)) ≡ Some (outflow_at s t)
  pub storage : (t : ℕ) → t < closed → value_in cells (cell_at 3 (t + 1)) ≡ Some (storage_of s (t + 1))

-- ---- no links

owner : (name : List ℕ) (initial : ℤ) (slot : ℕ) → 1 ≤ slot → slot ≤ 3 → owner_of (plain_reservoir name initial ∷ []) slot ≡ 1
owner name initial zero low high = absurd (omega (arith, low))
owner name initial (suc zero) low high = refl
owner name initial (suc (suc zero)) low high = refl
owner name initial (suc (suc (suc zero))) low high = refl
owner name initial (suc (suc (suc (suc more)))) low high = absurd (omega (arith, high))

no_link : (name : List ℕ) (initial : ℤ) (link : List ℕ) → IsLink (plain_reservoir name initial ∷ []) link → ⊥
unfolding IsDistinct
no_link name initial [] h = absurd (omega (arith, h.some))
no_link name initial (a ∷ []) h = absurd (omega (arith, h.some))
no_link name initial (a ∷ b ∷ rest) h =
    let first = h.known 0 a (omega arith) in
    let second = h.known 1 a (omega arith) in
    let e = owner name initial a first.first first.last in
    let f = owner name initial b second.first second.last in
    let apart = h.apart.0.0 in
    absurd (grind (arith, nat_tests, e, f, apart))

pub no-links : (name : List ℕ) (initial : ℤ) (links : List (List ℕ)) → All (IsLink (plain_reservoir name initial ∷ [])) links → links ≡ []
no-links name initial [] h = refl
no-links name initial (link ∷ rest) h = absurd (no_link name initial link (h 0 link (omega arith)))
