-- Each instruction of compiled code can be spelt: by recursion on the tree, a line or two for each form.
use Rattle.rpl_compile.proofs.Common.{AllByRecursion, And, Bool, BoundName, Callee, ConvertWord, Decides-from_to, Dimension, Draft}
use Rattle.rpl_compile.proofs.Common.{ElevationToStorage, Equal, FitsIn, Greater, GreaterEqual, HasHead, Head, Instruction, IsBasin, IsInstruction}
use Rattle.rpl_compile.proofs.Common.{IsLiteral, IsNumber, IsTarget, IsTrue, Kind, Less, LessEqual, Less_by, List, None, Not, OneWord, Option, Or}
use Rattle.rpl_compile.proofs.Common.{Plus, Site, Some, StorageToElevation, TwoWord, Unequal, [], arith, at_most_30, bytes_eq, bytes_eq-Decides}
use Rattle.rpl_compile.proofs.Common.{call_by, call_line, callee_heads, choice_lines, code_kinds, cond_both, convert_line, date_kind, difference_line}
use Rattle.rpl_compile.proofs.Common.{factor_of, false, false≢true, if◌then◌else◌, inl, inr, is_same_kind, list_any, local_named, names_in}
use Rattle.rpl_compile.proofs.Common.{number_kind, number_line, numbers_kind, one_line, refl, slot_kind, slot_named, slots_kind, subst, sum_line, sym}
use Rattle.rpl_compile.proofs.Common.{target, test_line, true, truth_kind, two_lines, unit_in, units, unsigned_abs, unwrap_or, widening, ℕ, ℤ, ◌*ℤ◌}
use Rattle.rpl_compile.proofs.Common.{◌++◌, ◌+◌, ◌||◌, ◌∙◌, ◌∷◌, ◌≡◌, ◌≢◌, ◌≤◌, ◌⊎◌}
use Rattle.rw_base.specs.Quantity.{IsQuantity}
use Rattle.rpl_code.specs.declared.instruction.Instruction.TheVariants as I
use Rattle.rpl_compile.proofs.SpeltNames.{CanBeSpelt}
use Rattle.rw_model.proofs.Plain.{slot_is_plain}
use Rattle.rpl_compile.proofs.SpeltKinds.{AreHeadsSpelt, AreNamesSpelt, AreSpelt, IsSpelt, all_reverse, both_all, kinds_of_code}
use Rattle.rpl_compile.proofs.Found.{is_there}

abbrev pub AreLines : List Instruction → Type 0
AreLines = AllByRecursion IsInstruction

pub behind : (first second : List Instruction) → AreLines first → AreLines second → AreLines (first ++ second)
behind first second first_spelt second_spelt = both_all IsInstruction first second first_spelt second_spelt

pub below_bound : (n most : ℕ) → n ≤ most → IsNumber most → IsNumber n
below_bound n most at_most is_number = omega (arith, at_most, is_number)

-- ---- single lines

pub number_spelt : (number : ℤ) (unit : Option (List ℕ)) → IsLiteral number (unit_in units (unwrap_or unit []))
    → IsInstruction (number_line number unit)
number_spelt number unit is_literal = by (unit_in units (unwrap_or unit [])) is_literal
  where
    by : (found : Option (Dimension × ℤ)) → IsLiteral number found → IsQuantity (number *ℤ factor_of found)
    by None is_literal = absurd is_literal
    by (Some known) is_literal = let q = (Decides-from_to _ _ (number *ℤ known.1)).0 is_literal in record { low = q.0; high = q.1 }

pub one_line_spelt : (word : OneWord) → IsInstruction (one_line word)
one_line_spelt Not = tt
one_line_spelt _ = tt

test_spelt : (kind : Kind) (of_numbers of_dates : Instruction) → IsInstruction of_numbers → IsInstruction of_dates
    → IsInstruction (test_line kind of_numbers of_dates)
test_spelt date_kind of_numbers of_dates numbers_spelt dates_spelt = dates_spelt
test_spelt _ of_numbers of_dates numbers_spelt dates_spelt = numbers_spelt

sum_spelt : (kind : Kind) → IsInstruction (sum_line kind)
sum_spelt date_kind = tt
sum_spelt _ = tt

difference_line_spelt : (kind other_kind : Kind) → IsInstruction (difference_line kind other_kind)
difference_line_spelt date_kind date_kind = tt
difference_line_spelt _ _ = tt

pub two_lines_spelt : (word : TwoWord) (kind other_kind : Kind) → AreLines (two_lines word kind other_kind)
two_lines_spelt Or kind other_kind = tt
two_lines_spelt And kind other_kind = tt
two_lines_spelt Equal kind other_kind = (test_spelt kind I.Eq I.Deq tt tt, tt)
two_lines_spelt Unequal kind other_kind = (test_spelt kind I.Eq I.Deq tt tt, (tt, tt))
two_lines_spelt Less kind other_kind = (test_spelt kind I.Lt I.Dlt tt tt, tt)
two_lines_spelt LessEqual kind other_kind = (test_spelt kind I.Le I.Dle tt tt, tt)
two_lines_spelt Greater kind other_kind = (test_spelt kind I.Le I.Dle tt tt, (tt, tt))
two_lines_spelt GreaterEqual kind other_kind = (test_spelt kind I.Lt I.Dlt tt tt, (tt, tt))
two_lines_spelt Plus kind other_kind = (sum_spelt kind, tt)
two_lines_spelt Less_by kind other_kind = (difference_line_spelt kind other_kind, tt)
two_lines_spelt _ kind other_kind = (tt, tt)

pub convert_spelt : (word : ConvertWord) (object : List ℕ) → CanBeSpelt object → IsInstruction (convert_line word object)
convert_spelt StorageToElevation object can_be_spelt = can_be_spelt
convert_spelt ElevationToStorage object can_be_spelt = can_be_spelt

pub put_spelt : (basin : Draft) (object slot_name : List ℕ) (ahead : ℤ) → IsBasin basin
    → IsTarget basin [] (slot_named basin.objects object slot_name) ahead
    → IsInstruction (I.Put object slot_name (unsigned_abs ahead))
put_spelt basin object slot_name ahead valid is_target =
    by (slot_is_plain basin valid object slot_name (is_there (slot_named basin.objects object slot_name) _ is_target.0))
  where
    by : CanBeSpelt object × CanBeSpelt slot_name → IsInstruction (I.Put object slot_name (unsigned_abs ahead))
    by names = let few = at_most_30 basin ahead valid is_target.1 in (names.0, names.1, omega (arith, few))

pub target_spelt : (kinds : List Kind) → AreSpelt kinds → IsInstruction (target kinds)
target_spelt kinds are_spelt = all_reverse _ (code_kinds kinds) (kinds_of_code kinds are_spelt)

-- ---- room

-- what is no list is never widened
plain : (place kind : Kind) → is_same_kind place place ≡ true → ((m : ℕ) → place ≢ numbers_kind m) → ((m : ℕ) → place ≢ slots_kind m)
    → FitsIn place kind
    → AreLines (widening place kind)
plain place kind same not_numbers not_slots (inl e) =
    subst (λ k. AreLines (widening place k)) e (cond_both _ _ _ AreLines (λ e. tt) (λ e. absurd (false≢true (sym e ∙ same))))
plain place kind same not_numbers not_slots (inr h) = by h.3
  where
    by : ((place ≡ numbers_kind h.0) × (kind ≡ numbers_kind h.1)) ⊎ ((place ≡ slots_kind h.0) × (kind ≡ slots_kind h.1))
        → AreLines (widening place kind)
    by (inl e) = absurd (not_numbers h.0 e.0)
    by (inr e) = absurd (not_slots h.0 e.0)

pub widening_spelt : (place kind : Kind) → FitsIn place kind → IsSpelt place → AreLines (widening place kind)
widening_spelt (numbers_kind room) kind fits_in is_spelt =
    cond_both (is_same_kind (numbers_kind room) kind) [] (I.Widen room ∷ []) AreLines (λ e. tt) (λ e. (is_spelt, tt))
widening_spelt (slots_kind room) kind fits_in is_spelt =
    cond_both (is_same_kind (slots_kind room) kind) [] (I.Widen room ∷ []) AreLines (λ e. tt) (λ e. (is_spelt, tt))
widening_spelt number_kind kind fits_in is_spelt = plain number_kind kind refl (λ m e. absurd (cc e)) (λ m e. absurd (cc e)) fits_in
widening_spelt truth_kind kind fits_in is_spelt = plain truth_kind kind refl (λ m e. absurd (cc e)) (λ m e. absurd (cc e)) fits_in
widening_spelt date_kind kind fits_in is_spelt = plain date_kind kind refl (λ m e. absurd (cc e)) (λ m e. absurd (cc e)) fits_in
widening_spelt slot_kind kind fits_in is_spelt = plain slot_kind kind refl (λ m e. absurd (cc e)) (λ m e. absurd (cc e)) fits_in

-- ---- functions

-- that it is called by
abbrev pub IsCallSpelt : List ℕ → Option ℕ → Type 0
IsCallSpelt function_name None = CanBeSpelt function_name
IsCallSpelt function_name (Some number) = IsNumber number

abbrev pub AreCalleesSpelt : List Callee → Type 0
AreCalleesSpelt [] = Unit {0}
AreCalleesSpelt (callee ∷ callees) = AreSpelt callee.head.takes × IsSpelt callee.head.result × IsCallSpelt callee.head.name callee.block
    × AreCalleesSpelt callees

pub callees_known : (callees : List Callee) → AreCalleesSpelt callees → AreHeadsSpelt (callee_heads callees)
callees_known [] are_callees_spelt = tt
callees_known (callee ∷ callees) are_callees_spelt = (are_callees_spelt.0, are_callees_spelt.1, callees_known callees are_callees_spelt.3)

call_by_spelt : (function_name : List ℕ) (block : Option ℕ) → IsCallSpelt function_name block → IsInstruction (call_by function_name block)
call_by_spelt function_name None is_call_spelt = is_call_spelt
call_by_spelt function_name (Some number) is_call_spelt = is_call_spelt

pub call_spelt : (callees : List Callee) (function_name : List ℕ) → AreCalleesSpelt callees → HasHead (callee_heads callees) function_name
    → IsInstruction (call_line callees function_name)
call_spelt [] function_name are_callees_spelt has_head = absurd (cc has_head)
call_spelt (callee ∷ callees) function_name are_callees_spelt has_head =
    by (bytes_eq callee.head.name function_name) refl has_head (λ g. call_spelt callees function_name are_callees_spelt.3 g)
  where
    by : (test : Bool) → bytes_eq callee.head.name function_name ≡ test
        → IsTrue (test || list_any (λ (head : Head). bytes_eq head.name function_name) (callee_heads callees))
        → (HasHead (callee_heads callees) function_name → IsInstruction (call_line callees function_name))
        → IsInstruction (if test then call_by function_name callee.block else call_line callees function_name)
    by true equal is_true later =
        call_by_spelt function_name callee.block
        (subst (λ name. IsCallSpelt name callee.block) ((bytes_eq-Decides callee.head.name function_name).0 equal) are_callees_spelt.2)
    by false equal is_true later = later is_true

-- ---- names

abbrev pub AreBoundSpelt : List BoundName → Type 0
AreBoundSpelt [] = Unit {0}
AreBoundSpelt (bound_name ∷ scope) = IsSpelt bound_name.kind × IsNumber bound_name.local × AreBoundSpelt scope

pub names_known : (scope : List BoundName) → AreBoundSpelt scope → AreNamesSpelt (names_in scope)
names_known [] are_bound_spelt = tt
names_known (bound_name ∷ scope) are_bound_spelt = (are_bound_spelt.0, names_known scope are_bound_spelt.2)

pub local_spelt : (scope : List BoundName) (new_name : List ℕ) → AreBoundSpelt scope → IsNumber (local_named scope new_name)
local_spelt [] new_name are_bound_spelt = omega arith
local_spelt (bound_name ∷ scope) new_name are_bound_spelt =
    cond_both _ _ _ IsNumber (λ e. are_bound_spelt.1) (λ e. local_spelt scope new_name are_bound_spelt.2)

-- ---- an IF

pub choice_spelt : (middle last : Site) (result : List Kind) (condition first second : List Instruction) → AreLines condition → AreLines first
    → AreLines second
    → IsNumber (middle.place + 1) → IsNumber last.place → AreSpelt middle.below → AreSpelt result
    → AreLines (choice_lines middle last result condition first second)
choice_spelt middle last result condition first second condition_spelt first_spelt second_spelt is_number end below own =
    behind condition _ condition_spelt
    (is_number, behind first _ first_spelt (end, (target_spelt middle.below below, behind second _ second_spelt (target_spelt result own, tt))))
