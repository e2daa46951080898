-- Cells of which nothing is kept.
use Rattle.rw_base.proofs.Common.{◌≡◌, ◌≤◌, ℕ, Bool, true, false, List, [], ◌++◌, length, Option, None, sym, ap, ◌∙◌, refl, arith, slice_index_or}
use Rattle.rw_base.proofs.Common.{map, nat_le, replicate, take, take-nil, get_or-eq_default, get_or-replicate, length-replicate, cond_both, nat_tests}
use Rattle.std.proofs.Math.ListN.{get_or-map}
use Rattle.rw_series.specs.Cells.{is_kept, position_of, kept_at}

module _ {X A : Type 0} (read : X → Option A) (blank : X) (nothing : read blank ≡ None) where
  alike : (count k : ℕ) → (test : Bool) → nat_le count k ≡ test → slice_index_or (replicate count blank) k blank ≡ blank
  alike count k true past = let far : length (replicate count blank) ≤ k =
      grind (arith, nat_tests, past, length-replicate count blank) in get_or-eq_default (replicate count blank) blank far
  alike count k false near = get_or-replicate count k blank blank (grind (arith, nat_tests, near))

  unknown : (count k : ℕ) → slice_index_or (map read (replicate count blank)) k None ≡ None
  unknown count k =
      ap (slice_index_or (map read (replicate count blank)) k) (sym nothing)
      ∙ get_or-map read (replicate count blank) k blank
      ∙ ap read (alike count k (nat_le count k) refl)
      ∙ nothing

  pub all-unknown : (slots steps first count : ℕ) (before cells : List X) → before ≡ [] → cells ≡ take first before ++ replicate count blank
      → (s t : ℕ) → kept_at slots steps (map read cells) s t ≡ None
  all-unknown slots steps first count before cells none filled s t =
      let is : cells ≡ replicate count blank =
      filled ∙ ap (λ xs. take first xs ++ replicate count blank) none ∙ ap (λ xs. xs ++ replicate count blank) (take-nil first) in
      ap (λ xs. kept_at slots steps (map read xs) s t) is
      ∙ cond_both (is_kept slots steps s t) (slice_index_or (map read (replicate count blank)) (position_of slots s t) None) None (λ x. x ≡ None)
      (λ _. unknown count (position_of slots s t)) (λ _. refl)
