use Rattle.rw_base.proofs.Common.{◌≡◌, ℕ, ◌<◌, slice_index_or, map}
use Rattle.rw_model.proofs.name.is_among.Given as goal

abbrev pub invariant-loop-word : goal.invariant-loop-word
invariant-loop-word l = (k : ℕ) → k < l.word-index → slice_index_or (map (λ word. word.now) l.words) k l.text ≡ l.text → ⊥
