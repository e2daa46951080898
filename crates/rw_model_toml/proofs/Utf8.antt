-- What the toolchain's reader says of bytes, in the words of the definition.
use Rattle.rw_base.proofs.Common.{◌≡◌, ℕ, List, Some, None, inl, inr, refl, IsUtf8, is_utf8, IsUtf8-from_is_utf8, is_utf8-from_IsUtf8, cases_Bool}
use Rattle.toml.specs.Data.{Members}
use Rattle.toml.specs.Parse.{parse_document}
use Rattle.rw_model_toml.specs.Model.{toml_of}

pub toml-read : (bytes : List ℕ) (t : Members) → IsUtf8 bytes → parse_document bytes ≡ Some t → toml_of bytes ≡ Some t
toml-read bytes t h e = rw (is_utf8-from_IsUtf8 bytes h) e

pub toml-refused : (bytes : List ℕ) → (IsUtf8 bytes → parse_document bytes ≡ None) → toml_of bytes ≡ None
toml-refused bytes h = elim (cases_Bool (is_utf8 bytes)) [
  | inl e ↦ rw e (h (IsUtf8-from_is_utf8 bytes e))
  | inr e ↦ rw e refl
]
