-- A call finds the function that its type was found by: predefined ones and declared ones are looked up in different orders, but no two
-- have one name.
use Rattle.rpl_compile.proofs.Common.{Bool, Boolean, Callable, Datetime, Dimension, DuplicateName, Err, FitsIn, HasHead, Head, Kind, List}
use Rattle.rpl_compile.proofs.Common.{ListTooLong, Names, None, NotEarlier, Numeric, NumericList, Ok, Option, Parameter, RplType, Signature, Slot}
use Rattle.rpl_compile.proofs.Common.{SlotList, Some, TypeName, TypeScope, Typed, UnknownName, WrongCount, [], a_dimension, ap, ap₂, arguments_misfit}
use Rattle.rpl_compile.proofs.Common.{arith, boolean, bytes_eq, bytes_eq-Decides, call_type, called_type, cond_both, count_named, datetime}
use Rattle.rpl_compile.proofs.Common.{declared_type, false, function_heads, head_misfit, head_refusal, if◌then◌else◌, inl, int_le, is_duplicate}
use Rattle.rpl_compile.proofs.Common.{is_some, kind_of_type, length, list_any, longest, made_by, map, measured_by, misfit, misfit_among}
use Rattle.rpl_compile.proofs.Common.{misfit_in_places, nat_tests, number_kind, numbers_type, numeric, numeric_list, param_kinds, param_names}
use Rattle.rpl_compile.proofs.Common.{param_scope, pos, predefined_count, predefined_functions, product_over_type, refl, refusal_in, repeats_name}
use Rattle.rpl_compile.proofs.Common.{replicate, result_named, signature, signature_named, slot_list, slot_type, subst, sym, takes_named}
use Rattle.rpl_compile.proofs.Common.{times_per_of, true, type_here, type_or_plain, unit_in, units, unknown_type, unsigned_abs, with_room, with_unit}
use Rattle.rpl_compile.proofs.Common.{written_type, ℕ, ℤ, ◌&&◌, ◌++◌, ◌==◌, ◌||◌, ◌∙◌, ◌∷◌, ◌≡◌}
use Rattle.rpl_compile.proofs.TypeKinds.{AreAlike, kind_of_rpl_type, kinds_fit, measured, none_of_two, numbers_alike, same_kind, typed, unrefused}

abbrev pub kinds_of_types : List RplType → List Kind
kinds_of_types types = map kind_of_rpl_type types

-- what is found of a function: the kinds that it takes, and that of its result
pub record Finds (heads : List Head) (function_name : List ℕ) (takes : List Kind) (result : Kind) : Type 0 where
  pub takes_are : takes_named heads function_name ≡ takes
  pub result_is : result_named heads function_name ≡ result
  pub has : HasHead heads function_name

-- ---- the first in a list

found_first : (head : Head) (heads : List Head) (function_name : List ℕ) → bytes_eq head.name function_name ≡ true
    → Finds (head ∷ heads) function_name head.takes head.result
found_first head heads function_name equal = by (bytes_eq head.name function_name) equal refl
  where
    by : (test : Bool) → test ≡ true → bytes_eq head.name function_name ≡ test → Finds (head ∷ heads) function_name head.takes head.result
    by true found_so equal = record {
      takes_are = ap (λ (test : Bool). if test then head.takes else takes_named heads function_name) equal;
      result_is = ap (λ (test : Bool). if test then head.result else result_named heads function_name) equal;
      has = ap (λ (test : Bool). test || list_any (λ (h : Head). bytes_eq h.name function_name) heads) equal;
    }
    by false found_so equal = absurd (cc found_so)

found_later : (head : Head) (heads : List Head) (function_name : List ℕ) (takes : List Kind) (result : Kind)
    → bytes_eq head.name function_name ≡ false
    → Finds heads function_name takes result
    → Finds (head ∷ heads) function_name takes result
found_later head heads function_name takes result unequal found = record {
  takes_are = ap (λ (test : Bool). if test then head.takes else takes_named heads function_name) unequal ∙ found.takes_are;
  result_is = ap (λ (test : Bool). if test then head.result else result_named heads function_name) unequal ∙ found.result_is;
  has = ap (λ (test : Bool). test || list_any (λ (h : Head). bytes_eq h.name function_name) heads) unequal ∙ found.has;
}

-- ---- predefined functions

-- each takes numbers and answers one
abbrev AreOfNumbers : List Head → Type 0
AreOfNumbers [] = Unit {0}
AreOfNumbers (head ∷ heads) = (head.takes ≡ replicate (length head.takes) number_kind) × (head.result ≡ number_kind) × AreOfNumbers heads

found_numbers : (heads : List Head) (function_name : List ℕ) (count : ℕ) → AreOfNumbers heads → count_named heads function_name ≡ Some count
    → Finds heads function_name (replicate count number_kind) number_kind
found_numbers [] function_name count are found_so = absurd (cc found_so)
found_numbers (head ∷ heads) function_name count are found_so =
    by (bytes_eq head.name function_name) refl found_so (λ g. found_numbers heads function_name count are.2 g)
  where
    by : (test : Bool) → bytes_eq head.name function_name ≡ test
        → (if test then Some (length head.takes) else count_named heads function_name) ≡ Some count
        → (count_named heads function_name ≡ Some count → Finds heads function_name (replicate count number_kind) number_kind)
        → Finds (head ∷ heads) function_name (replicate count number_kind) number_kind
    by true equal found_so later =
        let counted : length head.takes ≡ count = cc found_so in
        let found = found_first head heads function_name equal in
        record {
          takes_are = found.takes_are ∙ are.0 ∙ ap (λ m. replicate m number_kind) counted;
          result_is = found.result_is ∙ are.1;
          has = found.has;
        }
    by false equal found_so later = found_later head heads function_name (replicate count number_kind) number_kind equal (later found_so)

-- ---- declared functions

-- what is found of the functions of these signatures among heads
pub record Matches (earlier : List Signature) (heads : List Head) : Type 0 where
  pub predefined : (function_name : List ℕ) (count : ℕ) → predefined_count function_name ≡ Some count
      → Finds heads function_name (replicate count number_kind) number_kind
  pub declared : (function_name : List ℕ) (known : Signature) → predefined_count function_name ≡ None
      → signature_named earlier function_name ≡ Some known
      → Finds heads function_name (kinds_of_types known.takes) (kind_of_rpl_type known.result)

pub matches_none : Matches [] (function_heads predefined_functions)
matches_none = record {
  predefined = λ f count h. found_numbers (function_heads predefined_functions) f count
      (refl, refl, (refl, refl, (refl, refl, (refl, refl, (refl, refl, (refl, refl, (refl, refl, tt))))))) h;
  declared = λ f known h e. absurd (cc e);
}

some_none : {A : Type 0} (found : Option A) (x : A) → found ≡ None → found ≡ Some x → ⊥
some_none found x none some = cc

not_found : (earlier : List Signature) (own : Signature) (function_name : List ℕ) → bytes_eq own.name function_name ≡ false
    → signature_named (earlier ++ own ∷ []) function_name ≡ signature_named earlier function_name
not_found [] own function_name unequal = ap (λ (test : Bool). if test then Some own else None) unequal
not_found (known ∷ earlier) own function_name unequal =
    ap (λ (found : Option Signature). if bytes_eq known.name function_name then Some known else found) (not_found earlier own function_name unequal)

found_last : (earlier : List Signature) (own : Signature) (function_name : List ℕ) → signature_named earlier function_name ≡ None
    → bytes_eq own.name function_name ≡ true
    → signature_named (earlier ++ own ∷ []) function_name ≡ Some own
found_last [] own function_name none equal = ap (λ (test : Bool). if test then Some own else None) equal
found_last (known ∷ earlier) own function_name none equal =
    by (bytes_eq known.name function_name) none (λ g. found_last earlier own function_name g equal)
  where
    by : (test : Bool) → (if test then Some known else signature_named earlier function_name) ≡ None
        → (signature_named earlier function_name ≡ None → signature_named (earlier ++ own ∷ []) function_name ≡ Some own)
        → (if test then Some known else signature_named (earlier ++ own ∷ []) function_name) ≡ Some own
    by true none later = absurd (cc none)
    by false none later = later none

-- with one function more, whose name no other has
pub matches_more : (earlier : List Signature) (heads : List Head) (own : Signature) (head : Head) → Matches earlier heads
    → head.name ≡ own.name → head.takes ≡ kinds_of_types own.takes → head.result ≡ kind_of_rpl_type own.result
    → predefined_count own.name ≡ None → signature_named earlier own.name ≡ None → Matches (earlier ++ own ∷ []) (head ∷ heads)
matches_more earlier heads own head before name takes result new none = record { predefined = predefined; declared = declared }
  where
    same_name : (function_name : List ℕ) → bytes_eq head.name function_name ≡ true → own.name ≡ function_name
    same_name function_name equal = sym name ∙ (bytes_eq-Decides head.name function_name).0 equal

    predefined : (function_name : List ℕ) (count : ℕ) → predefined_count function_name ≡ Some count
        → Finds (head ∷ heads) function_name (replicate count number_kind) number_kind
    predefined function_name count found_so = by (bytes_eq head.name function_name) refl
      where
        by : (test : Bool) → bytes_eq head.name function_name ≡ test → Finds (head ∷ heads) function_name (replicate count number_kind) number_kind
        by true equal =
            absurd (some_none (predefined_count function_name) count (ap predefined_count (sym (same_name function_name equal)) ∙ new) found_so)
        by false equal = found_later head heads function_name _ _ equal (before.predefined function_name count found_so)

    declared : (function_name : List ℕ) (known : Signature) → predefined_count function_name ≡ None
        → signature_named (earlier ++ own ∷ []) function_name ≡ Some known
        → Finds (head ∷ heads) function_name (kinds_of_types known.takes) (kind_of_rpl_type known.result)
    declared function_name known no_other found_so = by (bytes_eq head.name function_name) refl
      where
        by : (test : Bool) → bytes_eq head.name function_name ≡ test
            → Finds (head ∷ heads) function_name (kinds_of_types known.takes) (kind_of_rpl_type known.result)
        by true equal =
            let counted = same_name function_name equal in
            let here = found_last earlier own function_name (ap (signature_named earlier) (sym counted) ∙ none)
            (ap (λ m. bytes_eq m function_name) (sym name) ∙ equal) in
            let own_is : own ≡ known = cc (here, found_so) in
            let found = found_first head heads function_name equal in
            record {
              takes_are = found.takes_are ∙ takes ∙ ap (λ (k : Signature). kinds_of_types k.takes) own_is;
              result_is = found.result_is ∙ result ∙ ap (λ (k : Signature). kind_of_rpl_type k.result) own_is;
              has = found.has;
            }
        by false equal =
            let other = not_found earlier own function_name (ap (λ m. bytes_eq m function_name) (sym name) ∙ equal) in
            found_later head heads function_name _ _ equal (before.declared function_name known no_other (sym other ∙ found_so))

-- ---- types as they are written

unit_found : (found : Option (Dimension × ℤ)) (made : Dimension → Typed) (its_type : RplType) → with_unit found made ≡ Ok its_type
    → (dimension : Dimension) × (made dimension ≡ Ok its_type)
unit_found None made its_type accepted = absurd (cc accepted)
unit_found (Some unit) made its_type accepted = (unit.0, accepted)

room_found : (room : ℤ) (made : ℕ → RplType) (its_type : RplType) → with_room room made ≡ Ok its_type
    → kind_of_rpl_type (made (unsigned_abs room)) ≡ kind_of_rpl_type its_type
room_found room made its_type accepted =
    cond_both (int_le (pos 1) room && int_le room (pos longest)) (typed (made (unsigned_abs room))) (Err ListTooLong)
    (λ judged. judged ≡ Ok its_type → kind_of_rpl_type (made (unsigned_abs room)) ≡ kind_of_rpl_type its_type)
    (λ e. same_kind (made (unsigned_abs room)) its_type) (λ e h. absurd (cc h)) accepted

written_kind : (type_name : TypeName) (its_type : RplType) → written_type type_name ≡ Ok its_type → kind_of_type type_name ≡ kind_of_rpl_type its_type
written_kind (numeric unit) its_type accepted = let parts = unit_found (unit_in units unit) (λ d. Ok (Numeric d)) its_type accepted in
    same_kind (Numeric parts.0) its_type parts.1
written_kind boolean its_type accepted = same_kind Boolean its_type accepted
written_kind datetime its_type accepted = same_kind Datetime its_type accepted
written_kind (slot_type unit) its_type accepted = let parts = unit_found (unit_in units unit) (λ d. Ok (Slot d)) its_type accepted in
    same_kind (Slot parts.0) its_type parts.1
written_kind (numeric_list room unit) its_type accepted =
    let parts = unit_found (unit_in units unit) (λ d. with_room room (λ n. NumericList n d)) its_type accepted in
    room_found room (λ n. NumericList n parts.0) its_type parts.1
written_kind (slot_list room unit) its_type accepted =
    let parts = unit_found (unit_in units unit) (λ d. with_room room (λ n. SlotList n d)) its_type accepted in
    room_found room (λ n. SlotList n parts.0) its_type parts.1

kind_here : (type_name : TypeName) → refusal_in (written_type type_name) ≡ None → kind_of_rpl_type (type_here type_name) ≡ kind_of_type type_name
kind_here type_name none = by (written_type type_name) refl none
  where
    by : (r : Typed) → written_type type_name ≡ r → refusal_in r ≡ None → kind_of_rpl_type (type_here type_name) ≡ kind_of_type type_name
    by (Ok t) same found_so = ap (λ (r : Typed). kind_of_rpl_type (type_or_plain r)) same ∙ sym (written_kind type_name t same)
    by (Err kind) same found_so = absurd (cc found_so)

-- the kinds of the names whose types these are
abbrev pub type_names : TypeScope → Names
type_names [] = []
type_names (variable ∷ scope) = (variable.0, kind_of_rpl_type variable.1) ∷ type_names scope

pub record HeadKinds (parameters : List Parameter) (result : TypeName) : Type 0 where
  pub takes : kinds_of_types (map (λ (parameter : Parameter). type_here parameter.of_type) parameters) ≡ param_kinds parameters
  pub names : type_names (param_scope parameters) ≡ param_names parameters
  pub result_is : kind_of_rpl_type (type_here result) ≡ kind_of_type result

head_kinds : (parameters : List Parameter) (result : TypeName) → head_misfit parameters result ≡ None → HeadKinds parameters result
head_kinds [] result none = record { takes = refl; names = refl; result_is = kind_here result none }
head_kinds (parameter ∷ parameters) result none =
    let parts = none_of_two (refusal_in (written_type parameter.of_type)) (head_misfit parameters result) none in
    let own_kind = kind_here parameter.of_type parts.0 in
    let rest = head_kinds parameters result parts.1 in
    record {
      takes = ap₂ (λ k kinds. k ∷ kinds) own_kind rest.takes;
      names = ap₂ (λ k (names : Names). (parameter.name, k) ∷ names) own_kind rest.names;
      result_is = rest.result_is;
    }

both_false : (a test : Bool) → (a || test) ≡ false → (a ≡ false) × (test ≡ false)
both_false true test fails = absurd (cc fails)
both_false false test fails = (refl, fails)

nothing : {A : Type 0} (found : Option A) → is_some found ≡ false → found ≡ None
nothing None fails = refl
nothing (Some x) fails = absurd (cc fails)

-- a function whose head isn't refused
pub record Fresh (earlier : List Signature) (function_name : List ℕ) (parameters : List Parameter) (result : TypeName) : Type 0 where
  pub not_predefined : predefined_count function_name ≡ None
  pub not_declared : signature_named earlier function_name ≡ None
  pub kinds : HeadKinds parameters result

pub fresh : (earlier : List Signature) (function_name : List ℕ) (parameters : List Parameter) (result : TypeName)
    → head_refusal earlier function_name parameters result ≡ None
    → Fresh earlier function_name parameters result
fresh earlier function_name parameters result none = by (is_duplicate earlier function_name parameters) refl none
  where
    by : (test : Bool) → is_duplicate earlier function_name parameters ≡ test
        → (if test then Some DuplicateName else head_misfit parameters result) ≡ None → Fresh earlier function_name parameters result
    by true same found_so = absurd (cc found_so)
    by false same found_so =
        let parts =
        both_false (is_some (predefined_count function_name) || is_some (signature_named earlier function_name)) (repeats_name parameters) same in
        let more_parts = both_false (is_some (predefined_count function_name)) (is_some (signature_named earlier function_name)) parts.0 in
        record {
          not_predefined = nothing (predefined_count function_name) more_parts.0;
          not_declared = nothing (signature_named earlier function_name) more_parts.1;
          kinds = head_kinds parameters result found_so;
        }

-- a function that is declared, behind those before it
pub with_function : (earlier : List Signature) (heads : List Head) (function_name : List ℕ) (parameters : List Parameter) (result : TypeName)
    → Matches earlier heads
    → Fresh earlier function_name parameters result
    → Matches (earlier ++ signature function_name parameters result ∷ [])
    (record { name = function_name; takes = param_kinds parameters; result = kind_of_type result } ∷ heads)
with_function earlier heads function_name parameters result before new =
    matches_more earlier heads (signature function_name parameters result)
    (record { name = function_name; takes = param_kinds parameters; result = kind_of_type result }) before refl
    (sym new.kinds.takes) (sym new.kinds.result_is) new.not_predefined new.not_declared

-- ---- calls

-- each can stand in its place
abbrev pub FitTypes : List Kind → List RplType → Type 0
FitTypes [] [] = Unit {0}
FitTypes (kind ∷ kinds) (its_type ∷ types) = FitsIn kind (kind_of_rpl_type its_type) × FitTypes kinds types
FitTypes _ _ = ⊥

numbers_stand : (types : List RplType) → AreAlike number_kind types → FitTypes (replicate (length types) number_kind) types
numbers_stand [] are_alike = tt
numbers_stand (its_type ∷ types) are_alike = (inl (sym are_alike.0), numbers_stand types are_alike.1)

all_stand : (types asked : List RplType) → length types ≡ length asked → misfit_in_places types asked ≡ None → FitTypes (kinds_of_types asked) types
all_stand [] [] types_counted none = tt
all_stand [] (place_type ∷ asked) types_counted none = absurd (omega (arith, types_counted))
all_stand (its_type ∷ types) [] types_counted none = absurd (omega (arith, types_counted))
all_stand (its_type ∷ types) (place_type ∷ asked) types_counted none =
    let parts = none_of_two (misfit its_type place_type) (misfit_in_places types asked) none in
    (kinds_fit its_type place_type parts.0, all_stand types asked (omega (arith, types_counted)) parts.1)

as_many : (types asked : List RplType) (test : Bool) → (length types == length asked) ≡ test
    → (if test then misfit_in_places types asked else Some WrongCount) ≡ None
    → FitTypes (kinds_of_types asked) types
as_many types asked false same none = absurd (cc none)
as_many types asked true same none = let types_counted : length types ≡ length asked = grind (arith, nat_tests, same) in
    all_stand types asked types_counted none

pub record Called (heads : List Head) (function_name : List ℕ) (types : List RplType) (its_type : RplType) : Type 0 where
  pub result_is : result_named heads function_name ≡ kind_of_rpl_type its_type
  pub has : HasHead heads function_name
  pub fit : FitTypes (takes_named heads function_name) types

called_so : (heads : List Head) (function_name : List ℕ) (types : List RplType) (its_type : RplType) (takes : List Kind) (result : Kind)
    → Finds heads function_name takes result
    → result ≡ kind_of_rpl_type its_type → FitTypes takes types → Called heads function_name types its_type
called_so heads function_name types its_type takes result found result_is fit =
    record { result_is = found.result_is ∙ result_is; has = found.has; fit = subst (λ kinds. FitTypes kinds types) (sym found.takes_are) fit }

made_of_numbers : (made : Dimension → Dimension) (types : List RplType) (its_type : RplType) → numbers_type made types ≡ Ok its_type
    → (number_kind ≡ kind_of_rpl_type its_type) × AreAlike number_kind types
made_of_numbers made [] its_type accepted = absurd (cc accepted)
made_of_numbers made (Numeric dimension ∷ types) its_type accepted =
    let parts = unrefused (misfit_among types (Numeric dimension)) (Numeric (made dimension)) its_type accepted in
    (parts.1, (refl, numbers_alike types dimension parts.0))
made_of_numbers made (_ ∷ types) its_type accepted = absurd (cc accepted)

made_of_product : (types : List RplType) (its_type : RplType) → product_over_type types ≡ Ok its_type → (number_kind ≡ kind_of_rpl_type its_type)
    × AreAlike number_kind types
made_of_product (Numeric left_dimension ∷ Numeric right_dimension ∷ Numeric third_dimension ∷ []) its_type accepted =
    (measured (a_dimension (times_per_of left_dimension right_dimension third_dimension)) its_type accepted, (refl, (refl, (refl, tt))))
made_of_product _ its_type accepted = absurd (cc accepted)

made_of_arguments : (function_name : List ℕ) (types : List RplType) (its_type : RplType) → made_by function_name types ≡ Ok its_type
    → (number_kind ≡ kind_of_rpl_type its_type) × AreAlike number_kind types
made_of_arguments function_name types its_type accepted =
    cond_both _ _ _ (λ made. made ≡ Ok its_type → (number_kind ≡ kind_of_rpl_type its_type) × AreAlike number_kind types)
    (λ e. made_of_product types its_type)
    (λ e. made_of_numbers (measured_by function_name) types its_type) accepted

pub call_takes : (callable : Callable) (heads : List Head) (function_name : List ℕ) (types : List RplType) (its_type : RplType)
    → Matches callable.earlier heads
    → call_type callable function_name types ≡ Ok its_type
    → Called heads function_name types its_type
call_takes callable heads function_name types its_type matches accepted = by (predefined_count function_name) refl accepted
  where
    counted : (count : ℕ) → predefined_count function_name ≡ Some count → (test : Bool) → (length types == count) ≡ test
        → (if test then made_by function_name types else Err WrongCount) ≡ Ok its_type → Called heads function_name types its_type
    counted count found false same accepted = absurd (cc accepted)
    counted count found true same accepted =
        let parts = made_of_arguments function_name types its_type accepted in
        let types_counted : length types ≡ count = grind (arith, nat_tests, same) in
        called_so heads function_name types its_type _ _ (matches.predefined function_name count found) parts.0
        (subst (λ m. FitTypes (replicate m number_kind) types) types_counted (numbers_stand types parts.1))

    later : (names : List (List ℕ)) → unknown_type names function_name ≡ Ok its_type → ⊥
    later names accepted = by_test (list_any (bytes_eq function_name) names) accepted
      where
        by_test : (test : Bool) → (if test then Err NotEarlier else Err UnknownName) ≡ typed its_type → ⊥
        by_test true same = cc same
        by_test false same = cc same

    declared : predefined_count function_name ≡ None → (found : Option Signature) → signature_named callable.earlier function_name ≡ found
        → declared_type callable function_name found types ≡ Ok its_type
        → Called heads function_name types its_type
    declared none None same found_so = absurd (later callable.later found_so)
    declared none (Some known) same found_so =
        let parts = unrefused (arguments_misfit types known.takes) known.result its_type found_so in
        called_so heads function_name types its_type _ _ (matches.declared function_name known none same) parts.1
        (as_many types known.takes (length types == length known.takes) refl parts.0)

    by : (found : Option ℕ) → predefined_count function_name ≡ found → called_type callable function_name found types ≡ Ok its_type
        → Called heads function_name types its_type
    by (Some count) same found_so = counted count same (length types == count) refl found_so
    by None same found_so = declared same (signature_named callable.earlier function_name) refl found_so
