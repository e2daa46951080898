-- What is written where a ruleset is kinded is what TRANSLATE says: numbers, names, kinds and functions.
use Rattle.rpl_compile.proofs.Common.{AllByRecursion, Bool, Callee, Dimension, Draft, HasHead, IsBasin, IsLiteral, IsSome, IsTrue, IsUtf8, List, None}
use Rattle.rpl_compile.proofs.Common.{Option, Some, [], ap, arith, byte, bytes_eq, bytes_eq-Decides, call_by, call_instruction, call_line}
use Rattle.rpl_compile.proofs.Common.{callee_heads, callee_named, cases_Bool, factor_of, false, false≢true, inl, inr, is_quantity, is_utf8}
use Rattle.rpl_compile.proofs.Common.{is_utf8-from_IsUtf8, lt-ltb, nat_lt, number_in_units, pos, refl, result_named}
use Rattle.rpl_compile.proofs.Common.{short, slot_named, spelt_name, subst, sym, table_named, takes_named, true, unit_in, units, unwrap_or}
use Rattle.rpl_compile.proofs.Common.{where-true, within, ℕ, ℤ, ◌*ℤ◌, ◌||◌, ◌∷◌, ◌≡◌, ◌≤◌}
use Rattle.rpl_code.specs.declared.instruction.Instruction.TheVariants as I
use Rattle.rpl_types.proofs.Texts.{object_text, slot_texts}
use Rattle.rpl_compile.proofs.SpeltNames.{table_object}
use Rattle.rpl_compile.proofs.Found.{by_test}

-- ---- numbers

pub short_is : (n : ℕ) → n ≤ 4096 → short n ≡ n
short_is n few = where-true (nat_lt n 65536) n 0 (lt-ltb n 65536 (omega (arith, few)))

pub byte_is : (n : ℕ) → n ≤ 255 → byte n ≡ n
byte_is n few = where-true (nat_lt n 256) n 0 (lt-ltb n 256 (omega (arith, few)))

literal_by : (number : ℤ) (found : Option (Dimension × ℤ)) → IsLiteral number found → within (number *ℤ factor_of found) ≡ number *ℤ factor_of found
literal_by number None is_literal = absurd is_literal
literal_by number (Some unit) is_literal = where-true (is_quantity (number *ℤ unit.1)) (number *ℤ unit.1) (pos 0) is_literal

pub number_is : (number : ℤ) (unit : Option (List ℕ)) → IsLiteral number (unit_in units (unwrap_or unit []))
    → number_in_units number unit ≡ number *ℤ factor_of (unit_in units (unwrap_or unit []))
number_is number unit is_literal = literal_by number (unit_in units (unwrap_or unit [])) is_literal

-- ---- names

pub spelt_is : (word : List ℕ) → IsUtf8 word → spelt_name word ≡ word
spelt_is word text = where-true (is_utf8 word) word [] (is_utf8-from_IsUtf8 word text)

module _ (basin : Draft) (valid : IsBasin basin) where
  pub owner_spelt : (object slot_name : List ℕ) → IsSome (slot_named basin.objects object slot_name) → spelt_name object ≡ object
  owner_spelt object slot_name has = spelt_is object (slot_texts basin valid object slot_name has).0

  pub slot_spelt : (object slot_name : List ℕ) → IsSome (slot_named basin.objects object slot_name) → spelt_name slot_name ≡ slot_name
  slot_spelt object slot_name has = spelt_is slot_name (slot_texts basin valid object slot_name has).1

-- ---- functions

-- the name of a predefined function is text
abbrev pub IsSpelt : Callee → Type 0
IsSpelt callee = callee.block ≡ None → IsUtf8 callee.head.name

pub takes_is : (callees : List Callee) (function_name : List ℕ)
    → (callee_named callees function_name).head.takes ≡ takes_named (callee_heads callees) function_name
takes_is [] function_name = refl
takes_is (callee ∷ callees) function_name =
    by_test (λ (other_callee : Callee). other_callee.head.takes) (bytes_eq callee.head.name function_name) callee
    (callee_named callees function_name) _ (takes_is callees function_name)

pub result_is : (callees : List Callee) (function_name : List ℕ)
    → (callee_named callees function_name).head.result ≡ result_named (callee_heads callees) function_name
result_is [] function_name = refl
result_is (callee ∷ callees) function_name =
    by_test (λ (other_callee : Callee). other_callee.head.result) (bytes_eq callee.head.name function_name) callee
    (callee_named callees function_name) _ (result_is callees function_name)

called : (function_name : List ℕ) (block : Option ℕ) → (block ≡ None → IsUtf8 function_name)
    → call_instruction function_name block ≡ call_by function_name block
called function_name None is_text = ap I.Call (spelt_is function_name (is_text refl))
called function_name (Some number) is_text = refl

other_head : (test rest : Bool) → test ≡ false → IsTrue (test || rest) → IsTrue rest
other_head true rest fails holds = absurd (false≢true (sym fails))
other_head false rest fails holds = holds

pub call_is : (callees : List Callee) (function_name : List ℕ) → AllByRecursion IsSpelt callees → HasHead (callee_heads callees) function_name
    → call_instruction function_name (callee_named callees function_name).block ≡ call_line callees function_name
call_is [] function_name spelt has_head = absurd (false≢true has_head)
call_is (callee ∷ callees) function_name spelt has_head = elim (cases_Bool (bytes_eq callee.head.name function_name)) [
  | inl e ↦ rw e (called function_name callee.block (λ none. subst IsUtf8 ((bytes_eq-Decides callee.head.name function_name).0 e) (spelt.0 none)))
  | inr e ↦ rw e (call_is callees function_name spelt.1 (other_head (bytes_eq callee.head.name function_name) _ e has_head))
]

module _ (basin : Draft) (valid : IsBasin basin) where
  pub table_spelt : (object : List ℕ) → IsSome (table_named basin object) → spelt_name object ≡ object
  table_spelt object has = spelt_is object (object_text basin object valid (table_object basin valid object has))
