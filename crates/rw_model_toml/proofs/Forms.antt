-- Texts of another length than a form don't have it.
use Rattle.rw_base.proofs.Common.{◌≡◌, ◌≢◌, ◌<◌, ℕ, zero, suc, List, [], ◌∷◌, length, slice_index, Bool, true, false, ◌&&◌, IsTrue, refl, arith}
use Rattle.rw_base.proofs.Common.{and_parts, false≢true}
use Rattle.rw_model_toml.specs.StartText.{fits_forms, fits_byte}

both-false : (b : Bool) {c : Bool} → c ≡ false → (b && c) ≡ false
both-false true e = e
both-false false e = refl

pub fits-lengths : (form text : List ℕ) → length form ≢ length text → fits_forms form text ≡ false
fits-lengths [] [] other = absurd (other refl)
fits-lengths [] (b ∷ text) other = refl
fits-lengths (f ∷ form) [] other = refl
fits-lengths (f ∷ form) (b ∷ text) other = both-false (fits_byte f b) (fits-lengths form text (λ e. other (omega (arith, e))))

-- a text of the form has in each place what the form has there
pub fits-at : (form text : List ℕ) (k : ℕ) → IsTrue (fits_forms form text) → k < length form
    → IsTrue (fits_byte (slice_index form k) (slice_index text k))
fits-at [] text k h within = absurd (omega arith)
fits-at (f ∷ form) [] k h within = absurd (false≢true h)
fits-at (f ∷ form) (b ∷ text) zero h within = (and_parts (fits_byte f b) (fits_forms form text) h).0
fits-at (f ∷ form) (b ∷ text) (suc k) h within = fits-at form text k (and_parts (fits_byte f b) (fits_forms form text) h).1 (omega arith)
