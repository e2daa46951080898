-- The head of a function that is accepted can be spelt, and it has fewer parameters than words.
use Rattle.rpl_compile.proofs.Common.{AreDeclared, Bool, Costed, Decides-int_le, Declared, Dimension, Draft, DuplicateName, Err, IsLength, IsTyped}
use Rattle.rpl_compile.proofs.Common.{Kind, List, ListTooLong, None, NumericList, Ok, Option, Parameter, RplType, Signature, SlotList, Some, TypeName}
use Rattle.rpl_compile.proofs.Common.{Typed, [], acts_local_kinds, and_function, and_parts, ap, append_assoc, arith, budget_of, cost_refusal}
use Rattle.rpl_compile.proofs.Common.{costed_heads, false, function, get_or-append_seam, head_misfit, head_refusal, height, height_of_acts}
use Rattle.rpl_compile.proofs.Common.{if◌then◌else◌, int_le, ints, is_duplicate, kind_of_type, length, local_kinds, longest, max, min, negsuc}
use Rattle.rpl_compile.proofs.Common.{numbers_kind, numeric_list, param_kinds, param_names, pos, predefined_costs, refl, refusal_in, rule}
use Rattle.rpl_compile.proofs.Common.{slice_index, slot_list, slots_kind, spared, subst, suc, sym, true, unit_in, units, unsigned_abs, weight}
use Rattle.rpl_compile.proofs.Common.{weights, with_room, with_unit, words_from, words_of_rules, written_type, ℕ, ℤ, ◌&&◌, ◌++◌, ◌+◌, ◌-◌, ◌∙◌, ◌∷◌}
use Rattle.rpl_compile.proofs.Common.{◌≡◌, ◌≤ℤ◌, ◌≤◌}
use Rattle.rpl_compile.proofs.TypeKinds.{none_of_two}
use Rattle.rpl_compile.proofs.SpeltKinds.{AreSpelt, IsSpelt}
use Rattle.rpl_compile.proofs.CompiledFits.{next_number}
use Rattle.rpl_compile.proofs.CompiledBudgets.{limited}

-- ---- types as they are written

length_of_room : (room : ℤ) → (int_le (pos 1) room && int_le room (pos longest)) ≡ true → IsLength (unsigned_abs room)
length_of_room room holds =
    let parts = and_parts (int_le (pos 1) room) (int_le room (pos longest)) holds in
    by room ((Decides-int_le (pos 1) room).0 parts.0) ((Decides-int_le room (pos longest)).0 parts.1)
  where
    by : (room : ℤ) → pos 1 ≤ℤ room → room ≤ℤ pos 4096 → IsLength (unsigned_abs room)
    by (pos n) low high = (omega (arith, ints, low), omega (arith, ints, high))
    by (negsuc n) low high = absurd (omega (arith, ints, low))

room_spelt : (room : ℤ) (made : ℕ → RplType) → refusal_in (with_room room made) ≡ None → IsLength (unsigned_abs room)
room_spelt room made none = length_of_room room (by (int_le (pos 1) room && int_le room (pos longest)) none)
  where
    accepted : RplType → Typed
    accepted its_type = Ok its_type

    by : (test : Bool) → refusal_in (if test then accepted (made (unsigned_abs room)) else Err ListTooLong) ≡ None → test ≡ true
    by true none = refl
    by false none = absurd (cc none)

unit_known : (found : Option (Dimension × ℤ)) (made : Dimension → Typed) → refusal_in (with_unit found made) ≡ None
    → (dimension : Dimension) × (refusal_in (made dimension) ≡ None)
unit_known None made none = absurd (cc none)
unit_known (Some unit) made none = (unit.0, none)

pub written_spelt : (type_name : TypeName) → refusal_in (written_type type_name) ≡ None → IsSpelt (kind_of_type type_name)
written_spelt (numeric_list room unit) none =
    let q = unit_known (unit_in units unit) (λ d. with_room room (λ n. NumericList n d)) none in room_spelt room (λ n. NumericList n q.0) q.1
written_spelt (slot_list room unit) none =
    let q = unit_known (unit_in units unit) (λ d. with_room room (λ n. SlotList n d)) none in room_spelt room (λ n. SlotList n q.0) q.1
written_spelt _ none = tt

-- ---- heads

abbrev pub IsHeadSpelt : List Parameter → TypeName → Type 0
IsHeadSpelt parameters result = AreSpelt (param_kinds parameters) × IsSpelt (kind_of_type result)

fitting_head : (parameters : List Parameter) (result : TypeName) → head_misfit parameters result ≡ None → IsHeadSpelt parameters result
fitting_head [] result none = (tt, written_spelt result none)
fitting_head (parameter ∷ parameters) result none =
    let parts = none_of_two (refusal_in (written_type parameter.of_type)) (head_misfit parameters result) none in
    let rest = fitting_head parameters result parts.1 in
    ((written_spelt parameter.of_type parts.0, rest.0), rest.1)

head_spelt : (earlier : List Signature) (function_name : List ℕ) (parameters : List Parameter) (result : TypeName)
    → head_refusal earlier function_name parameters result ≡ None
    → IsHeadSpelt parameters result
head_spelt earlier function_name parameters result none =
    fitting_head parameters result (spared (is_duplicate earlier function_name parameters) (head_misfit parameters result) DuplicateName none).1

-- ---- parameters are words

own_words : (parameters : List Parameter) → length parameters ≤ weights (param_kinds parameters)
own_words [] = omega arith
own_words (parameter ∷ parameters) =
    let rest = own_words parameters in
    let one = at_least_one (kind_of_type parameter.of_type) in
    omega (arith, rest, one)
  where
    at_least_one : (kind : Kind) → 1 ≤ weight kind
    at_least_one (numbers_kind room) = omega arith
    at_least_one (slots_kind room) = omega arith
    at_least_one _ = omega arith

uncapped : (n : ℕ) → min n 1000001 ≤ 1000000 → n ≤ 1000000
uncapped n at_most = omega (arith, at_most)

-- the words of a declaration are those at its number
words_at : (rules : List Declared) (number : ℕ) (before later : List ℕ) (own : ℕ) → before ++ own ∷ later ≡ words_of_rules rules
    → number ≡ suc (length before)
    → cost_refusal (budget_of rules number) ≡ None → own ≤ 1000000
words_at rules number before later own whole counted none =
    let same : number - 1 ≡ length before = omega (arith, counted) in
    let found : slice_index (words_of_rules rules) (number - 1) ≡ own =
    ap (λ (ns : List ℕ). slice_index ns (number - 1)) (sym whole) ∙ ap (slice_index (before ++ own ∷ later)) same
    ∙ get_or-append_seam before own later 0 in
    uncapped own (subst (λ n. min n 1000001 ≤ 1000000) found (limited (budget_of rules number) none).words)

-- ---- rulesets

-- each head can be spelt, and parameters are no more than words
abbrev pub AreHeads : List Declared → Type 0
AreHeads [] = Unit {0}
AreHeads (rule called_so body ∷ rest) = AreHeads rest
AreHeads (function called_so parameters result body ∷ rest) = IsHeadSpelt parameters result × (length parameters ≤ 1000000) × AreHeads rest

heads_from : (basin : Draft) (rules : List Declared) (number : ℕ) (earlier : List Signature) (functions : List Costed) (before : List ℕ)
    (declarations : List Declared) → before ++ words_from functions declarations ≡ words_of_rules rules → number ≡ suc (length before)
    → AreDeclared basin rules number earlier declarations
    → AreHeads declarations
heads_from basin rules number earlier functions before [] whole counted are_declared = tt
heads_from basin rules number earlier functions before (rule called_so body ∷ declarations) whole counted are_declared =
    let own = weights (acts_local_kinds (costed_heads functions) [] body) + height_of_acts functions [] body in
    heads_from basin rules (number + 1) earlier functions (before ++ own ∷ []) declarations
    (append_assoc before (own ∷ []) (words_from functions declarations) ∙ whole) (next_number before own number counted) are_declared.2
heads_from basin rules number earlier functions before (function called_so parameters result body ∷ declarations) whole counted are_declared =
    let takes = param_kinds parameters in
    let kind = kind_of_type result in
    let names = param_names parameters in
    let own = weights takes + (weights (local_kinds (costed_heads functions) names body) + max (height functions names body) (weight kind)) in
    let known : Costed = record { head = record { name = called_so; takes = takes; result = kind }; most = own } in
    let most = words_at rules number before (words_from (known ∷ functions) declarations) own whole counted are_declared.1 in
    let least = own_words parameters in (
      head_spelt earlier called_so parameters result are_declared.0.0,
      omega (arith, most, least),
      heads_from basin rules (number + 1) (and_function (function called_so parameters result body) earlier) (known ∷ functions)
          (before ++ own ∷ []) declarations
          (append_assoc before (own ∷ []) (words_from (known ∷ functions) declarations) ∙ whole)
          (next_number before own number counted) are_declared.2,
    )

pub typed_heads : (basin : Draft) (rules : List Declared) → IsTyped basin rules → AreHeads rules
typed_heads basin rules is_typed = heads_from basin rules 1 [] (predefined_costs 0) [] rules refl refl is_typed
