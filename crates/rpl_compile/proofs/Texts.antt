-- A word as code spells it: itself, where it is text.
use Rattle.rpl_compile.proofs.Common.{Bool, IsUtf8, IsUtf8-from_is_utf8, List, [], ap, cases_Bool, false, if◌then◌else◌, inl, inr, is_utf8}
use Rattle.rpl_compile.proofs.Common.{is_utf8-from_IsUtf8, refl, spelt_name, sym, true, ℕ, ◌∙◌, ◌≡◌}

spelt_by : (test : Bool) (word left : List ℕ) → is_utf8 word ≡ test → left ≡ (if test then word else []) → left ≡ spelt_name word
spelt_by test word left same left_is = left_is ∙ ap (λ (t : Bool). if t then word else []) (sym same)

pub spelt_text : (word : List ℕ) → IsUtf8 word → word ≡ spelt_name word
spelt_text word h = spelt_by true word word (is_utf8-from_IsUtf8 word h) refl

pub spelt_none : (word : List ℕ) → ¬ (IsUtf8 word) → [] ≡ spelt_name word
spelt_none word not = elim (cases_Bool (is_utf8 word)) [
  | inl e ↦ absurd (not (IsUtf8-from_is_utf8 word e))
  | inr e ↦ spelt_by false word [] e refl
]
