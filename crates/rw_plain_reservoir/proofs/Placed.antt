-- What the cells hold once the inputs are placed.
use Rattle.rw_plain_reservoir.proofs.Common.{Bool, Cell, Inputs, List, None, Option, Some, [], ap, arith, false, placings_of, placings_to, if_placed}
use Rattle.rw_plain_reservoir.proofs.Common.{if◌then◌else◌, nat_tests, option_map, option_or, refl, suc, true, value_at, zero, ℕ, ℤ, ◌++◌, ◌==◌, ◌∙◌}
use Rattle.rw_plain_reservoir.proofs.Common.{◌∷◌, ◌≡◌, ◌≤◌}
use Rattle.rw_model.specs.Draft.{Draft}
use Rattle.rw_series.specs.Series.{is_shared}
use Rattle.rw_run.proofs.Common.{Log, placed, cells_of, input_content, cell_at, with_inputs}
use Rattle.rw_plain_reservoir.proofs.Alone.{Case, basin_of}

or_none : {A : Type 0} → (a : Option A) → option_or a None ≡ a
or_none None = refl
or_none (Some x) = refl

placed-append : (log : Log) (xs ys : List (Cell × ℤ)) → with_inputs log (xs ++ ys) ≡ with_inputs (with_inputs log xs) ys
placed-append log [] ys = refl
placed-append log (x ∷ xs) ys = placed-append (placed x.0 x.1 ∷ log) xs ys

-- ---- the inputs of one slot, behind a log

module _ (basin : Draft) (inputs : Inputs) (log : Log) (slot : ℕ) where
  abbrev behind : ℕ → Log
  behind n = with_inputs log (placings_of inputs slot n)

  -- one timestep more, whose value the cell shares or not
  one_more : (cell : Cell) (n : ℕ) (shared : Bool) → is_shared basin (cell_at slot (suc n)) cell ≡ shared
      → cells_of basin (behind (suc n)) cell
      ≡ option_or (if shared then option_map input_content (value_at inputs slot (suc n)) else None) (cells_of basin (behind n) cell)
  one_more cell n shared e =
      ap (λ l. cells_of basin l cell) (placed-append log (placings_of inputs slot n) (if_placed slot (suc n) (value_at inputs slot (suc n))))
      ∙ at_once (value_at inputs slot (suc n)) shared e
    where
      at_once : (value : Option ℤ) (shared : Bool) → is_shared basin (cell_at slot (suc n)) cell ≡ shared
          → cells_of basin (with_inputs (behind n) (if_placed slot (suc n) value)) cell
          ≡ option_or (if shared then option_map input_content value else None) (cells_of basin (behind n) cell)
      at_once None true is = refl
      at_once None false is = refl
      at_once (Some v) shared is = ap (λ t. option_or (if t then Some (input_content v) else None) (cells_of basin (behind n) cell)) is

  -- they leave nothing where none of them is
  nothing : (cell : Cell) (n : ℕ) → ((step : ℕ) → step ≤ n → is_shared basin (cell_at slot step) cell ≡ false)
      → cells_of basin (behind n) cell ≡ cells_of basin log cell
  nothing cell zero apart = refl
  nothing cell (suc n) apart = one_more cell n false (apart (suc n) (omega arith)) ∙ nothing cell n (λ step le. apart step (omega (arith, le)))

  -- and in a cell that shares with none but itself what is given there
  own : (step n : ℕ) → ((k : ℕ) → is_shared basin (cell_at slot k) (cell_at slot step) ≡ (step == k)) → 1 ≤ step → step ≤ n
      → cells_of basin (behind n) (cell_at slot step)
      ≡ option_or (option_map input_content (value_at inputs slot step)) (cells_of basin log (cell_at slot step))
  own step zero alone low high = absurd (omega (arith, low, high))
  own step (suc n) alone low high = newest (step == suc n) refl (λ le. own step n alone low le)
    where
      newest : (same : Bool) → (step == suc n) ≡ same
          → (step ≤ n → cells_of basin (behind n) (cell_at slot step)
          ≡ option_or (option_map input_content (value_at inputs slot step)) (cells_of basin log (cell_at slot step)))
          → cells_of basin (behind (suc n)) (cell_at slot step)
          ≡ option_or (option_map input_content (value_at inputs slot step)) (cells_of basin log (cell_at slot step))
      newest true e earlier =
          let here : suc n ≡ step = grind (arith, nat_tests, e) in
          one_more (cell_at slot step) n true (alone (suc n) ∙ e)
          ∙ ap (λ k. option_or (option_map input_content (value_at inputs slot k)) (cells_of basin (behind n) (cell_at slot step))) here
          ∙ ap (option_or (option_map input_content (value_at inputs slot step)))
          (nothing (cell_at slot step) n (λ k le. alone k ∙ grind (arith, nat_tests, le, here)))
      newest false e earlier = one_more (cell_at slot step) n false (alone (suc n) ∙ e) ∙ earlier (grind (arith, nat_tests, e, high))

-- ---- the three slots of a plain reservoir

module _ (s : Case) (inputs : Inputs) (step n : ℕ) (low : 1 ≤ step) (high : step ≤ n) where
  abbrev after_inflows : Log
  after_inflows = with_inputs [] (placings_of inputs 1 n)

  abbrev after_flows : Log
  after_flows = with_inputs after_inflows (placings_of inputs 2 n)

  in_turn : (cell : Cell) → cells_of (basin_of s) (with_inputs [] (placings_to inputs 3 n)) cell
      ≡ cells_of (basin_of s) (with_inputs after_flows (placings_of inputs 3 n)) cell
  in_turn cell =
      ap (λ l. cells_of (basin_of s) l cell) (placed-append [] (placings_of inputs 1 n ++ placings_of inputs 2 n) (placings_of inputs 3 n)
      ∙ ap (λ l. with_inputs l (placings_of inputs 3 n)) (placed-append [] (placings_of inputs 1 n) (placings_of inputs 2 n)))

  -- the cell of a slot holds what is given there
  abbrev HoldsGiven : ℕ → Type 0
  HoldsGiven slot =
      cells_of (basin_of s) (with_inputs [] (placings_to inputs 3 n)) (cell_at slot step) ≡ option_map input_content (value_at inputs slot step)

  pub inflow-placed : HoldsGiven 1
  inflow-placed =
      in_turn (cell_at 1 step)
      ∙ nothing (basin_of s) inputs after_flows 3 (cell_at 1 step) n (λ k le. refl)
      ∙ nothing (basin_of s) inputs after_inflows 2 (cell_at 1 step) n (λ k le. refl)
      ∙ own (basin_of s) inputs [] 1 step n (λ k. refl) low high ∙ or_none _

  pub outflow-placed : HoldsGiven 2
  outflow-placed =
      in_turn (cell_at 2 step)
      ∙ nothing (basin_of s) inputs after_flows 3 (cell_at 2 step) n (λ k le. refl)
      ∙ own (basin_of s) inputs after_inflows 2 step n (λ k. refl) low high
      ∙ ap (option_or _) (nothing (basin_of s) inputs [] 1 (cell_at 2 step) n (λ k le. refl)) ∙ or_none _

  pub storage-placed : HoldsGiven 3
  storage-placed =
      in_turn (cell_at 3 step)
      ∙ own (basin_of s) inputs after_flows 3 step n (λ k. refl) low high
      ∙ ap (option_or _) (nothing (basin_of s) inputs after_inflows 2 (cell_at 3 step) n (λ k le. refl)
      ∙ nothing (basin_of s) inputs [] 1 (cell_at 3 step) n (λ k le. refl)) ∙ or_none _
