-- That cells hold what they held.
use Rattle.rw_record.proofs.Common.{AreHeld, Cells, Contains, Contains-push_cases, Held, List, [], ap, inl, inr, length, slice_index_or, subst, sym}
use Rattle.rw_record.proofs.Common.{take, take_all, take_more, ℕ, ◌++◌, ◌+◌, ◌<◌, ◌∙◌, ◌∷◌, ◌≡◌, ◌≤◌, ◌⊎◌}

pub one_more : (cells : Cells) (items : List Held) (count : ℕ) (one : Held) → count < length items → one ≡ slice_index_or items count one
    → cells one.cell ≡ one.content → AreHeld cells (take count items) → AreHeld cells (take (count + 1) items)
one_more cells items count one near is same held it has =
    by (Contains-push_cases (take count items) one it (subst (λ all. Contains all it)
    (take_more items count one near ∙ ap (λ last. take count items ++ last ∷ []) (sym is)) has))
  where
    by : Contains (take count items) it ⊎ (one ≡ it) → cells it.cell ≡ it.content
    by (inl old) = held it old
    by (inr at) = subst (λ (last : Held). cells last.cell ≡ last.content) at same

pub all_of : (cells : Cells) (items : List Held) (count : ℕ) → length items ≤ count → AreHeld cells (take count items) → AreHeld cells items
all_of cells items count past held = subst (AreHeld cells) (take_all count items past) held
