-- Between which timesteps cells are.
use Rattle.rw_record.proofs.Common.{Bool, Cell, Held, List, Some, [], ap, arith, false, is_noted, is_same_cell, length, nat_tests}
use Rattle.rw_record.proofs.Common.{refl, slice_get, sym, take, take_more, true, ℕ, ◌+◌, ◌++◌, ◌<◌, ◌||◌, ◌∙◌, ◌∷◌, ◌≡◌, ◌≤◌}
use Rattle.rw_base.proofs.Common.{get_or, max, min, same_Some, suc, zero}
use Rattle.rw_record.specs.Record.{greatest_step, least_step}

least_push : (cells : List Held) (one : Held) → least_step (cells ++ one ∷ []) ≡ min (least_step cells) one.cell.step.0
least_push [] one = omega arith
least_push (first ∷ cells) one = let rest = least_push cells one in rw rest (omega arith)

greatest_push : (cells : List Held) (one : Held) → greatest_step (cells ++ one ∷ []) ≡ max (greatest_step cells) one.cell.step.0
greatest_push [] one = omega arith
greatest_push (first ∷ cells) one = let rest = greatest_push cells one in rw rest (omega arith)

-- with one cell more
module _ (cells : List Held) (at : ℕ) (one : Held) (near : at < length cells) (is : one ≡ get_or cells at one) where
  next : take (at + 1) cells ≡ take at cells ++ one ∷ []
  next = take_more cells at one near ∙ ap (λ last. take at cells ++ last ∷ []) (sym is)

  pub least_more : (least result : ℕ) → least ≡ least_step (take at cells) → result ≡ min least one.cell.step.0
      → result ≡ least_step (take (at + 1) cells)
  least_more least result before now =
      now ∙ ap (λ n. min n one.cell.step.0) before ∙ sym (ap least_step next ∙ least_push (take at cells) one)

  pub greatest_more : (greatest result : ℕ) → greatest ≡ greatest_step (take at cells) → result ≡ max greatest one.cell.step.0
      → result ≡ greatest_step (take (at + 1) cells)
  greatest_more greatest result before now =
      now ∙ ap (λ n. max n one.cell.step.0) before ∙ sym (ap greatest_step next ∙ greatest_push (take at cells) one)

-- ---- each of them is from the one up to the other

pub least_at : (cells : List Held) (place : ℕ) (one : Held) → slice_get cells place ≡ Some one → least_step cells ≤ one.cell.step.0
least_at [] place one at = absurd (cc)
least_at (first ∷ cells) zero one at =
    let same : first.cell.step.0 ≡ one.cell.step.0 = ap (λ (held : Held). held.cell.step.0) (same_Some first one at) in omega (arith, same)
least_at (first ∷ cells) (suc place) one at = let rest = least_at cells place one at in omega (arith, rest)

-- ---- no other timestep has one

or_none : (a b : Bool) → a ≡ false → b ≡ false → (a || b) ≡ false
or_none true b some none = absurd (cc)
or_none false b some none = none

pub none_earlier : (cells : List Held) (cell : Cell) → cell.step.0 < least_step cells → is_noted cells cell ≡ false
none_earlier [] cell less = refl
none_earlier (first ∷ cells) cell less =
    let apart : cell.step.0 < first.cell.step.0 = omega (arith, less) in
    or_none (is_same_cell cell first.cell) (is_noted cells cell) (grind (arith, nat_tests, apart)) (none_earlier cells cell (omega (arith, less)))

pub none_later : (cells : List Held) (cell : Cell) → greatest_step cells < cell.step.0 → is_noted cells cell ≡ false
none_later [] cell more = refl
none_later (first ∷ cells) cell more =
    let apart : first.cell.step.0 < cell.step.0 = omega (arith, more) in
    or_none (is_same_cell cell first.cell) (is_noted cells cell) (grind (arith, nat_tests, apart)) (none_later cells cell (omega (arith, more)))
