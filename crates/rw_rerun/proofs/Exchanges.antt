-- Changes take the place of what was kept, the last one first.
use Rattle.rw_base.proofs.Common.{◌≡◌, ◌≤◌, ◌<◌, ◌∙◌, ℕ, suc, List, [], ◌∷◌, ◌++◌, Option, Some, None, unwrap_or, length, refl, sym, ap, arith, set}
use Rattle.rw_base.proofs.Common.{drop, length-append, length-set}
use Rattle.rw_record.specs.Record.{StepRecord}
use Rattle.rw_rerun.specs.Kept.{changed}

-- what is kept once this change has taken its place
abbrev pub placed_in : List (Option StepRecord) → ℕ → Option (Option StepRecord) → List (Option StepRecord)
placed_in kept place None = kept
placed_in kept place (Some record') = set kept place record'

placed_later : (one : Option StepRecord) (kept : List (Option StepRecord)) (place : ℕ) (change : Option (Option StepRecord))
    → placed_in (one ∷ kept) (suc place) change ≡ one ∷ placed_in kept place change
placed_later one kept place None = refl
placed_later one kept place (Some record') = refl

placed_first : (one : Option StepRecord) (kept : List (Option StepRecord)) (change : Option (Option StepRecord))
    → placed_in (one ∷ kept) 0 change ≡ unwrap_or change one ∷ kept
placed_first one kept None = refl
placed_first one kept (Some record') = refl

-- what is changed so far, and what isn't yet
abbrev pub both : List (Option StepRecord) → List (Option (Option StepRecord)) → List (Option StepRecord)
both kept changes = changed kept changes ++ drop (length changes) kept

pub one_less : (kept : List (Option StepRecord)) (changes : List (Option (Option StepRecord))) (change : Option (Option StepRecord))
    → length changes < length kept → both (placed_in kept (length changes) change) changes ≡ both kept (changes ++ change ∷ [])
one_less [] changes change near = absurd (omega (arith, near))
one_less (one ∷ kept) [] change near = placed_first one kept change
one_less (one ∷ kept) (first ∷ changes) change near =
    ap (λ ks. both ks (first ∷ changes)) (placed_later one kept (length changes) change)
    ∙ ap (λ rest. unwrap_or first one ∷ rest) (one_less kept changes change (omega (arith, near)))

length_placed : (kept : List (Option StepRecord)) (place : ℕ) (change : Option (Option StepRecord))
    → length (placed_in kept place change) ≡ length kept
length_placed kept place None = refl
length_placed kept place (Some record') = length-set kept place record'

-- one change fewer is left, and what comes of all of them is the same
pub exchange_on : (kept was : List (Option StepRecord)) (all changes : List (Option (Option StepRecord))) (change : Option (Option StepRecord))
    (place : ℕ)
    → place ≡ length changes → all ≡ changes ++ change ∷ [] → length all ≤ length kept → both kept all ≡ was
    → (length changes ≤ length (placed_in kept place change)) × (both (placed_in kept place change) changes ≡ was)
exchange_on kept was all changes change place at popped near whole =
    let many = ap length popped ∙ length-append changes (change ∷ []) in
    let same = length_placed kept place change in (
      omega (arith, many, near, same),
      ap (λ k. both (placed_in kept k change) changes) at ∙ one_less kept changes change (omega (arith, many, near))
          ∙ ap (both kept) (sym popped) ∙ whole,
    )
