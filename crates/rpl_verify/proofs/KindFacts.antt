-- What tests on kinds and on results mean, and values of kinds.
use Rattle.rw_base.proofs.Common.{◌≡◌, ℕ, zero, suc, ◌≤◌, ℤ, Bool, true, false, ◌&&◌, List, [], ◌∷◌, ◌++◌, length, map, take, drop, set, Option, Some}
use Rattle.rw_base.proofs.Common.{None, Result, Ok, Err, refl, sym, ap, ap₂, ◌∙◌, subst, arith, rules, if◌then◌else◌, slice_get}
use Rattle.rpl_code.specs.declared.kind.ValueKind.{ValueKind}
use Rattle.rpl_code.specs.declared.kind.ValueKind.TheVariants as K
use Rattle.rpl_tree.specs.Value.{Value, a_number, a_truth, a_date, a_slot, numbers, slots}
use Rattle.rpl_verify.specs.declared.verify_kind.VerifyKind.{VerifyKind}
use Rattle.rpl_verify.specs.Kinds.{is_same_value_kind, are_same_kinds, is_that_kind}
use Rattle.rpl_verify.specs.Fits.{if_fits, unless_misfit, then_do}
use Rattle.rpl_verify.specs.Operations.{kind_of, kinds_of, blank}

-- ---- tests

pub and_true : (truth test : Bool) → (truth && test) ≡ true → (truth ≡ true) × (test ≡ true)
and_true true test truth_is = (refl, truth_is)
and_true false test truth_is = absurd (cc truth_is)

pub same_kind_true : (kind other_kind : ValueKind) → is_same_value_kind kind other_kind ≡ true → kind ≡ other_kind
same_kind_true K.N K.N is_same_value_kind_is = refl
same_kind_true K.B K.B is_same_value_kind_is = refl
same_kind_true K.D K.D is_same_value_kind_is = refl
same_kind_true K.S K.S is_same_value_kind_is = refl
same_kind_true (K.NList m) (K.NList n) is_same_value_kind_is = let m_is : m ≡ n = search rules in ap K.NList m_is
same_kind_true (K.SList m) (K.SList n) is_same_value_kind_is = let m_is : m ≡ n = search rules in ap K.SList m_is
same_kind_true _ _ is_same_value_kind_is = absurd (cc is_same_value_kind_is)

pub same_kind_refl : (kind : ValueKind) → is_same_value_kind kind kind ≡ true
same_kind_refl K.N = refl
same_kind_refl K.B = refl
same_kind_refl K.D = refl
same_kind_refl K.S = refl
same_kind_refl (K.NList m) = search rules
same_kind_refl (K.SList m) = search rules

pub same_kinds_true : (kinds left_kinds : List ValueKind) → are_same_kinds kinds left_kinds ≡ true → kinds ≡ left_kinds
same_kinds_true [] [] are_same_kinds_is = refl
same_kinds_true (kind ∷ kinds) (other_kind ∷ left_kinds) are_same_kinds_is = let and_true_so =
    and_true (is_same_value_kind kind other_kind) (are_same_kinds kinds left_kinds) are_same_kinds_is in ap₂ (λ a b. a ∷ b)
    (same_kind_true kind other_kind and_true_so.0) (same_kinds_true kinds left_kinds and_true_so.1)
same_kinds_true _ _ are_same_kinds_is = absurd (cc are_same_kinds_is)

pub same_kinds_refl : (kinds : List ValueKind) → are_same_kinds kinds kinds ≡ true
same_kinds_refl [] = refl
same_kinds_refl (kind ∷ kinds) = rw (same_kind_refl kind, same_kinds_refl kinds) refl

pub is_kind_true : (found an_option : Option ValueKind) → is_that_kind found an_option ≡ true
    → (kind : ValueKind) × (found ≡ Some kind) × (an_option ≡ Some kind)
is_kind_true (Some kind) (Some other_kind) is_that_kind_is = (kind, refl, ap Some (sym (same_kind_true kind other_kind is_that_kind_is)))
is_kind_true _ _ is_that_kind_is = absurd (cc is_that_kind_is)

pub is_kind_refl : (kind : ValueKind) → is_that_kind (Some kind) (Some kind) ≡ true
is_kind_refl kind = same_kind_refl kind

-- ---- results

pub then_do_ok : {A B E : Type 0} (result : Result A E) (go : A → Result B E) (b : B) → then_do result go ≡ Ok b
    → (thing : A) × (result ≡ Ok thing) × (go thing ≡ Ok b)
then_do_ok (Ok thing) go b then_do_is = (thing, refl, then_do_is)
then_do_ok (Err why) go b then_do_is = absurd (cc then_do_is)

abbrev pub ok_of : (A E : Type 0) → A → Result A E
ok_of A E thing = Ok thing

pub same_ok : {A E : Type 0} (thing other_thing : A) → ok_of A E thing ≡ Ok other_thing → thing ≡ other_thing
same_ok thing other_thing ok_of_is = cc ok_of_is

pub fits_ok : {A : Type 0} (test : Bool) (thing other_thing : A) → if_fits test thing ≡ Ok other_thing → (test ≡ true) × (thing ≡ other_thing)
fits_ok true thing other_thing if_fits_is = (refl, same_ok thing other_thing if_fits_is)
fits_ok false thing other_thing if_fits_is = absurd (cc if_fits_is)

pub test_ok : {A E : Type 0} (test : Bool) (result : Result A E) (why : E) (thing : A) → (if test then result else Err why) ≡ Ok thing
    → (test ≡ true) × (result ≡ Ok thing)
test_ok true result why thing if_is = (refl, if_is)
test_ok false result why thing if_is = absurd (cc if_is)

pub no_misfit : {A : Type 0} (misfit : Option VerifyKind) (result : Result A VerifyKind) (thing : A) → unless_misfit misfit result ≡ Ok thing
    → (misfit ≡ None) × (result ≡ Ok thing)
no_misfit None result thing unless_misfit_is = (refl, unless_misfit_is)
no_misfit (Some misfit) result thing unless_misfit_is = absurd (cc unless_misfit_is)

-- ---- values

-- a list is no longer than it has room
abbrev pub IsRoomy : Value → Type 0
IsRoomy (numbers m quantities) = length quantities ≤ m
IsRoomy (slots m slot_numbers) = length slot_numbers ≤ m
IsRoomy _ = Unit {0}

abbrev pub AreRoomy : List Value → Type 0
AreRoomy [] = Unit {0}
AreRoomy (a_value ∷ values) = IsRoomy a_value × AreRoomy values

pub roomy_take : (n : ℕ) (values : List Value) → AreRoomy values → AreRoomy (take n values)
roomy_take zero values roomy = tt
roomy_take (suc n) [] roomy = tt
roomy_take (suc n) (a_value ∷ values) roomy = (roomy.0, roomy_take n values roomy.1)

pub roomy_drop : (n : ℕ) (values : List Value) → AreRoomy values → AreRoomy (drop n values)
roomy_drop zero values roomy = roomy
roomy_drop (suc n) [] roomy = tt
roomy_drop (suc n) (a_value ∷ values) roomy = roomy_drop n values roomy.1

pub roomy_append : (values other_values : List Value) → AreRoomy values → AreRoomy other_values → AreRoomy (values ++ other_values)
roomy_append [] other_values roomy roomy_so = roomy_so
roomy_append (a_value ∷ values) other_values roomy roomy_so = (roomy.0, roomy_append values other_values roomy.1 roomy_so)

pub roomy_get : (values : List Value) (n : ℕ) (a_value : Value) → AreRoomy values → slice_get values n ≡ Some a_value → IsRoomy a_value
roomy_get [] n a_value roomy found = absurd (cc found)
roomy_get (other_value ∷ values) zero a_value roomy found =
    let other_value_is : other_value ≡ a_value = cc found in subst IsRoomy other_value_is roomy.0
roomy_get (other_value ∷ values) (suc n) a_value roomy found = roomy_get values n a_value roomy.1 found

pub roomy_set : (values : List Value) (n : ℕ) (a_value : Value) → AreRoomy values → IsRoomy a_value → AreRoomy (set values n a_value)
roomy_set [] n a_value roomy roomy_so = tt
roomy_set (other_value ∷ values) zero a_value roomy roomy_so = (roomy_so, roomy.1)
roomy_set (other_value ∷ values) (suc n) a_value roomy roomy_so = (roomy.0, roomy_set values n a_value roomy.1 roomy_so)

pub kinds_take : (n : ℕ) (values : List Value) → kinds_of (take n values) ≡ take n (kinds_of values)
kinds_take zero values = refl
kinds_take (suc n) [] = refl
kinds_take (suc n) (a_value ∷ values) = ap (λ l. kind_of a_value ∷ l) (kinds_take n values)

pub kinds_drop : (n : ℕ) (values : List Value) → kinds_of (drop n values) ≡ drop n (kinds_of values)
kinds_drop zero values = refl
kinds_drop (suc n) [] = refl
kinds_drop (suc n) (a_value ∷ values) = kinds_drop n values

pub kinds_append : (values other_values : List Value) → kinds_of (values ++ other_values) ≡ kinds_of values ++ kinds_of other_values
kinds_append [] other_values = refl
kinds_append (a_value ∷ values) other_values = ap (λ l. kind_of a_value ∷ l) (kinds_append values other_values)

pub kinds_length : (values : List Value) → length (kinds_of values) ≡ length values
kinds_length [] = refl
kinds_length (a_value ∷ values) = ap suc (kinds_length values)

pub kinds_get : (values : List Value) (n : ℕ) (kind : ValueKind) → slice_get (kinds_of values) n ≡ Some kind
    → (a_value : Value) × (slice_get values n ≡ Some a_value) × (kind_of a_value ≡ kind)
kinds_get [] n kind found = absurd (cc found)
kinds_get (a_value ∷ values) zero kind found = let kind_of_is : kind_of a_value ≡ kind = cc found in (a_value, refl, kind_of_is)
kinds_get (a_value ∷ values) (suc n) kind found = kinds_get values n kind found

pub kinds_set : (values : List Value) (n : ℕ) (a_value : Value) (kind : ValueKind) → slice_get (kinds_of values) n ≡ Some kind
    → kind_of a_value ≡ kind
    → kinds_of (set values n a_value) ≡ kinds_of values
kinds_set [] n a_value kind found kind_of_is = refl
kinds_set (other_value ∷ values) zero a_value kind found kind_of_is =
    let kind_of_is_so : kind_of other_value ≡ kind = cc found in ap (λ l. l ∷ kinds_of values) (kind_of_is ∙ sym kind_of_is_so)
kinds_set (other_value ∷ values) (suc n) a_value kind found kind_of_is =
    ap (λ l. kind_of other_value ∷ l) (kinds_set values n a_value kind found kind_of_is)

pub kinds_blank : (kinds : List ValueKind) → kinds_of (map blank kinds) ≡ kinds
kinds_blank [] = refl
kinds_blank (kind ∷ kinds) = ap₂ (λ a b. a ∷ b) (blank_kind kind) (kinds_blank kinds)
  where
    blank_kind : (kind : ValueKind) → kind_of (blank kind) ≡ kind
    blank_kind K.N = refl
    blank_kind K.B = refl
    blank_kind K.D = refl
    blank_kind K.S = refl
    blank_kind (K.NList m) = refl
    blank_kind (K.SList m) = refl

pub roomy_blank : (kinds : List ValueKind) → AreRoomy (map blank kinds)
roomy_blank [] = tt
roomy_blank (kind ∷ kinds) = (blank_roomy kind, roomy_blank kinds)
  where
    blank_roomy : (kind : ValueKind) → IsRoomy (blank kind)
    blank_roomy K.N = tt
    blank_roomy K.B = tt
    blank_roomy K.D = tt
    blank_roomy K.S = tt
    blank_roomy (K.NList m) = omega arith
    blank_roomy (K.SList m) = omega arith

-- ---- values of one kind

pub number_is : (a_value : Value) → kind_of a_value ≡ K.N → (quantity : ℤ) × (a_value ≡ a_number quantity)
number_is (a_number quantity) kind_is = (quantity, refl)
number_is _ kind_is = absurd (cc kind_is)

pub truth_is : (a_value : Value) → kind_of a_value ≡ K.B → (truth : Bool) × (a_value ≡ a_truth truth)
truth_is (a_truth truth) kind_is = (truth, refl)
truth_is _ kind_is = absurd (cc kind_is)

pub date_is : (a_value : Value) → kind_of a_value ≡ K.D → (date : ℤ) × (a_value ≡ a_date date)
date_is (a_date date) kind_is = (date, refl)
date_is _ kind_is = absurd (cc kind_is)

pub slot_is : (a_value : Value) → kind_of a_value ≡ K.S → (slot : ℕ) × (a_value ≡ a_slot slot)
slot_is (a_slot slot) kind_is = (slot, refl)
slot_is _ kind_is = absurd (cc kind_is)

pub one_is : (values : List Value) (kind : ValueKind) → kind ∷ [] ≡ kinds_of values
    → (a_value : Value) × (values ≡ a_value ∷ []) × (kind_of a_value ≡ kind)
one_is (a_value ∷ []) kind kind_is = let kind_of_is : kind_of a_value ≡ kind = cc kind_is in (a_value, refl, kind_of_is)
one_is [] kind kind_is = absurd (cc kind_is)
one_is (a_value ∷ other_value ∷ values) kind kind_is = absurd (cc kind_is)

pub two_are : (values : List Value) (kind other_kind : ValueKind) → kind ∷ other_kind ∷ [] ≡ kinds_of values
    → (a_value : Value) × (other_value : Value) × (values ≡ a_value ∷ other_value ∷ []) × (kind_of a_value ≡ kind)
    × (kind_of other_value ≡ other_kind)
two_are (a_value ∷ other_value ∷ []) kind other_kind kind_is =
    let kind_of_is : kind_of a_value ≡ kind = cc kind_is in
    let kind_of_is_so : kind_of other_value ≡ other_kind = cc kind_is in (a_value, other_value, refl, kind_of_is, kind_of_is_so)
two_are [] kind other_kind kind_is = absurd (cc kind_is)
two_are (a_value ∷ []) kind other_kind kind_is = absurd (cc kind_is)
two_are (a_value ∷ other_value ∷ third_value ∷ values) kind other_kind kind_is = absurd (cc kind_is)
