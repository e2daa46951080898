-- The format of a table, as the map holds it.
use Rattle.std.proofs.Common.{◌≡◌, pos, List, [], ◌∷◌, None, string_bytes, nat_cmp, is_eq, codes, inl, inr, refl}
use Rattle.std.proofs.lemmas.Bool.{cases_Bool}
use Rattle.std.specs.BTreeMap.{is_at}
use Rattle.std.specs.Cmp.Lexicographic.{slice_cmp}
use Rattle.std.specs.Map.{lookup, set_value}
use Rattle.toml.specs.Data.{integer}
use Rattle.toml.specs.View.{view, members_view}
use Rattle.toml.specs.declared.value.Value.{Value}
use Rattle.toml.proofs.Views.{Entry}
use Rattle.rw_model_toml.specs.Migrated.{with_format_2}

-- a new format in its place
pub format_set : (es : List Entry) (w : Value) → view w ≡ integer (pos 2)
    → members_view (set_value (is_at (λ key. slice_cmp nat_cmp (codes "format") (string_bytes key))) es w) ≡ with_format_2 (members_view es)
format_set [] w seen = refl
format_set (e ∷ es) w seen = elim (cases_Bool (is_eq (slice_cmp nat_cmp (codes "format") (string_bytes e.0)))) [
  | inl same ↦ rw (same, seen) refl
  | inr other ↦ rw (other, format_set es w seen) refl
]

-- where there is no format, nothing is changed
pub format_missing : (es : List Entry) → lookup (is_at (λ key. slice_cmp nat_cmp (codes "format") (string_bytes key))) es ≡ None
    → members_view es ≡ with_format_2 (members_view es)
format_missing [] none = refl
format_missing (e ∷ es) none = elim (cases_Bool (is_eq (slice_cmp nat_cmp (codes "format") (string_bytes e.0)))) [
  | inl same ↦ let found = rw same at none in absurd cc
  | inr other ↦ rw (other, ← format_missing es (rw other at none)) refl
]
