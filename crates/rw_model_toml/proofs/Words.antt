-- Words that are others.
use Rattle.rw_base.proofs.Common.{◌≡◌, List, ℕ, false, sym, bytes_eq, bytes_eq-Decides}
use Rattle.rw_base.proofs.Tests.{fails}

-- the word is another
pub other-word : (known word : List ℕ) → (word ≡ known → ⊥) → bytes_eq known word ≡ false
other-word known word apart = fails (bytes_eq known word) (bytes_eq-Decides known word) (λ same. apart (sym same))
