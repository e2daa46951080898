-- Values of a kind, and lists that stand in others from a place on.
use Rattle.rpl_compile.proofs.Common.{Bool, IsRoomy, Kind, List, Some, Value, ValueKind, [], a_number, a_truth, ap, append-nil, append_assoc, ap₂}
use Rattle.rpl_compile.proofs.Common.{arith, code_kind, code_kind_of, code_kinds, date_kind, drop, drop-drop, false, is_same_kind, kind_of_value}
use Rattle.rpl_compile.proofs.Common.{kinds_of, length, length-append, nat_lt, nat_tests, number_kind, number_of, numbers_kind, refl, rules, set}
use Rattle.rpl_compile.proofs.Common.{slice_get, slot_kind, slots_kind, subst, suc, sym, take, true, truth_kind, truth_of, weight, weights, words_of}
use Rattle.rpl_compile.proofs.Common.{words_of_all, zero, ℕ, ℤ, ◌++◌, ◌+◌, ◌<◌, ◌==◌, ◌∙◌, ◌∷◌, ◌≡◌, ◌≤◌}
use Rattle.rpl_code.specs.declared.kind.ValueKind.TheVariants as K

-- ---- kinds

abbrev pub HasKind : Kind → Value → Type 0
HasKind kind a_value = (kind_of_value a_value ≡ kind) × IsRoomy a_value

abbrev pub HaveKinds : List Kind → List Value → Type 0
HaveKinds [] [] = Unit {0}
HaveKinds (kind ∷ kinds) (a_value ∷ values) = HasKind kind a_value × HaveKinds kinds values
HaveKinds _ _ = ⊥

pub coded : (a_value : Value) → code_kind_of a_value ≡ code_kind (kind_of_value a_value)
coded (a_number quantity) = refl
coded a_value = refl

-- the kind that code has of it
pub kind_coded : (kind : Kind) (a_value : Value) → HasKind kind a_value → code_kind_of a_value ≡ code_kind kind
kind_coded kind a_value has_kind = coded a_value ∙ ap code_kind has_kind.0

abbrev plain_kind : ValueKind → Kind
plain_kind K.N = number_kind
plain_kind K.B = truth_kind
plain_kind K.D = date_kind
plain_kind K.S = slot_kind
plain_kind (K.NList m) = numbers_kind m
plain_kind (K.SList m) = slots_kind m

plain_coded : (kind : Kind) → plain_kind (code_kind kind) ≡ kind
plain_coded number_kind = refl
plain_coded kind = refl

pub kind_from_code : (kind : Kind) (a_value : Value) → code_kind_of a_value ≡ code_kind kind → kind_of_value a_value ≡ kind
kind_from_code kind a_value same = sym (plain_coded (kind_of_value a_value)) ∙ ap plain_kind (sym (coded a_value) ∙ same) ∙ plain_coded kind

pub words_coded : (kind : Kind) → words_of (code_kind kind) ≡ weight kind
words_coded number_kind = refl
words_coded kind = refl

-- how many words a value takes
pub value_words : (a_value : Value) → words_of (code_kind_of a_value) ≡ weight (kind_of_value a_value)
value_words a_value = ap words_of (coded a_value) ∙ words_coded (kind_of_value a_value)

pub all_words_coded : (kinds : List Kind) → words_of_all (code_kinds kinds) ≡ weights kinds
all_words_coded [] = refl
all_words_coded (kind ∷ kinds) = ap₂ (λ a b. a + b) (words_coded kind) (all_words_coded kinds)

pub same_kind_refl : (kind : Kind) → is_same_kind kind kind ≡ true
same_kind_refl (numbers_kind room) = search rules
same_kind_refl (slots_kind room) = search rules
same_kind_refl kind = refl

pub number_is : (a_value : Value) → HasKind number_kind a_value → (quantity : ℤ) × (a_value ≡ a_number quantity)
number_is a_value has_kind = number_of a_value (kind_coded number_kind a_value has_kind)

pub truth_is : (a_value : Value) → HasKind truth_kind a_value → (test : Bool) × (a_value ≡ a_truth test)
truth_is a_value has_kind = truth_of a_value (kind_coded truth_kind a_value has_kind)

pub kinds_are : (kinds : List Kind) (values : List Value) → HaveKinds kinds values → kinds_of values ≡ code_kinds kinds
kinds_are [] [] have_kinds = refl
kinds_are (kind ∷ kinds) (a_value ∷ values) have_kinds =
    ap₂ (λ a b. a ∷ b) (kind_coded kind a_value have_kinds.0) (kinds_are kinds values have_kinds.1)
kinds_are [] (a_value ∷ values) have_kinds = absurd have_kinds
kinds_are (kind ∷ kinds) [] have_kinds = absurd have_kinds

pub as_many : (kinds : List Kind) (values : List Value) → HaveKinds kinds values → length values ≡ length kinds
as_many [] [] have_kinds = refl
as_many (kind ∷ kinds) (a_value ∷ values) have_kinds = ap suc (as_many kinds values have_kinds.1)
as_many [] (a_value ∷ values) have_kinds = absurd have_kinds
as_many (kind ∷ kinds) [] have_kinds = absurd have_kinds

-- any kinds of code are those of kinds
pub coded_kinds : (kinds : List ValueKind) → (other_kinds : List Kind) × (kinds ≡ code_kinds other_kinds)
coded_kinds [] = ([], refl)
coded_kinds (kind ∷ kinds) = let others = coded_kinds kinds in (plain_kind kind ∷ others.0, ap₂ (λ a b. a ∷ b) (by kind) others.1)
  where
    by : (kind : ValueKind) → kind ≡ code_kind (plain_kind kind)
    by K.N = refl
    by kind = refl

-- ---- what stands in a list from a place on

abbrev pub At : {A : Type 0} → List A → ℕ → List A → Type 0
At {A} xs place ys = (rest : List A) × (drop place xs ≡ ys ++ rest)

pub at_front : {A : Type 0} (xs : List A) (place : ℕ) (first second : List A) → At xs place (first ++ second) → At xs place first
at_front xs place first second placed = (second ++ placed.0, placed.1 ∙ append_assoc first second placed.0)

pub take_front : {A : Type 0} (first second : List A) (n : ℕ) → length first ≡ n → take n (first ++ second) ≡ first
take_front [] second n a_counted = ap (λ m. take m second) (sym a_counted)
take_front (x ∷ first) second zero a_counted = absurd (omega (arith, a_counted))
take_front (x ∷ first) second (suc n) a_counted = ap (λ l. x ∷ l) (take_front first second n (omega (arith, a_counted)))

pub drop_front : {A : Type 0} (first second : List A) (n : ℕ) → length first ≡ n → drop n (first ++ second) ≡ second
drop_front [] second n a_counted = ap (λ m. drop m second) (sym a_counted)
drop_front (x ∷ first) second zero a_counted = absurd (omega (arith, a_counted))
drop_front (x ∷ first) second (suc n) a_counted = drop_front first second n (omega (arith, a_counted))

pub at_back : {A : Type 0} (xs : List A) (place n : ℕ) (first second : List A) → length first ≡ n → At xs place (first ++ second)
    → At xs (place + n) second
at_back xs place n first second a_counted placed = (
  placed.0,
  sym (drop-drop n place xs) ∙ ap (drop n) (placed.1 ∙ append_assoc first second placed.0)
      ∙ drop_front first (second ++ placed.0) n a_counted,
)

pub at_tail : {A : Type 0} (xs : List A) (place : ℕ) (head : A) (tail : List A) → At xs place (head ∷ tail) → At xs (place + 1) tail
at_tail xs place head tail placed = at_back xs place 1 (head ∷ []) tail refl placed

head_of : {A : Type 0} (xs : List A) (place : ℕ) (head : A) (tail : List A) → drop place xs ≡ head ∷ tail → slice_get xs place ≡ Some head
head_of [] zero head tail same = absurd (cc same)
head_of [] (suc p) head tail same = absurd (cc same)
head_of (x ∷ xs) zero head tail same = let x_is : x ≡ head = cc same in ap Some x_is
head_of (x ∷ xs) (suc p) head tail same = head_of xs p head tail same

pub at_head : {A : Type 0} (xs : List A) (place : ℕ) (head : A) (tail : List A) → At xs place (head ∷ tail) → slice_get xs place ≡ Some head
at_head xs place head tail placed = head_of xs place head (tail ++ placed.0) placed.1

pub at_moved : {A : Type 0} (xs : List A) (place same_place : ℕ) (ys : List A) → place ≡ same_place → At xs place ys → At xs same_place ys
at_moved xs place same_place ys place_is placed = subst (λ n. At xs n ys) place_is placed

-- the second of two
pub at_second : {A : Type 0} (xs : List A) (place : ℕ) (y z : A) (ys : List A) → At xs place (y ∷ z ∷ ys) → At xs (place + 2) ys
at_second xs place y z ys placed = at_back xs place 2 (y ∷ z ∷ []) ys refl placed

-- a list stands in itself
pub at_all : {A : Type 0} (xs : List A) → At xs 0 xs
at_all xs = ([], sym (append-nil xs))

-- ---- operands on top, and room

pub enough : (kinds below : List ValueKind) (count : ℕ) → length kinds ≡ count → nat_lt (length (kinds ++ below)) count ≡ false
enough kinds below count kinds_counted = let at_most : count ≤ length (kinds ++ below) = omega (arith, length-append kinds below, kinds_counted) in
    grind (arith, nat_tests, at_most)

pub other_room : (place_room room : ℕ) → room < place_room → (place_room == room) ≡ false
other_room place_room room less = grind (arith, nat_tests, less)

-- ---- a place that is set

pub set_here : {A : Type 0} (xs : List A) (place : ℕ) (x : A) → place < length xs → slice_get (set xs place x) place ≡ Some x
set_here [] place x less = absurd (omega (arith, less))
set_here (y ∷ xs) zero x less = refl
set_here (y ∷ xs) (suc place) x less = set_here xs place x (omega (arith, less))

pub set_before : {A : Type 0} (xs : List A) (place other_place : ℕ) (x : A) → other_place < place
    → slice_get (set xs place x) other_place ≡ slice_get xs other_place
set_before [] place other_place x less = refl
set_before (y ∷ xs) zero other_place x less = absurd (omega (arith, less))
set_before (y ∷ xs) (suc place) zero x less = refl
set_before (y ∷ xs) (suc place) (suc other_place) x less = set_before xs place other_place x (omega (arith, less))

pub set_behind : {A : Type 0} (xs : List A) (place other_place : ℕ) (x : A) → place < other_place
    → slice_get (set xs place x) other_place ≡ slice_get xs other_place
set_behind [] place other_place x less = refl
set_behind (y ∷ xs) zero zero x less = absurd (omega (arith, less))
set_behind (y ∷ xs) zero (suc other_place) x less = refl
set_behind (y ∷ xs) (suc place) zero x less = absurd (omega (arith, less))
set_behind (y ∷ xs) (suc place) (suc other_place) x less = set_behind xs place other_place x (omega (arith, less))

pub set_long : {A : Type 0} (xs : List A) (place : ℕ) (x : A) → length (set xs place x) ≡ length xs
set_long [] place x = refl
set_long (y ∷ xs) zero x = refl
set_long (y ∷ xs) (suc place) x = ap suc (set_long xs place x)
