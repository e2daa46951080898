-- A word that is read is what is written of what it was read as.
use Rattle.rw_base.specs.declared.limits.TheConstants.{LIST_MAX}
use Rattle.rw_base.proofs.Common.{◌≡◌, ℕ, zero, suc, List, [], ◌∷◌, ◌++◌, Bool, true, false, refl, sym, ap, ap₂, subst, ◌∙◌, append-nil, ◌≤◌, arith}
use Rattle.rw_base.proofs.Common.{ℤ, pos, ◌==◌, ◌&&◌, if◌then◌else◌, nat_le, Option, Some, None, is_some, unwrap_or, option_map, option_and_then, map}
use Rattle.rw_base.proofs.Common.{codes, neg_ℤ, AllByRecursion, bytes_eq, digits_value, decimal, signed_decimal, bytes_eq-Decides, eqb-true, leb-true}
use Rattle.rw_base.proofs.Common.{and_parts, false≢true, ints}
use Rattle.rw_base.specs.Quantity.{IsQuantity}
use Rattle.rw_model.specs.Name.{is_plain}
use Rattle.rpl_code.specs.declared.kind.ValueKind.{ValueKind}
use Rattle.rpl_code.specs.Bounds.{IsNumber, IsLength, IsCodeName, IsCodeKind, AreKinds}
use Rattle.rpl_code.specs.Parting.{parted, in_front}
use Rattle.rpl_code.specs.Words.{if_so, entry_at, number_in, count_in, length_in, quantity_in, truths, plain_kinds, list_kinds, truth_in, name_in}
use Rattle.rpl_code.specs.Words.{slot_spelt, slot_of, kind_in, kind_spelt, kinds_in, each_kind}
use Rattle.rpl_code.specs.Spelling.{texts_joined, kind_text, kinds_text, slot_text, truth_text}

-- ---- what an answer tells of its parts

pub same_some : {A : Type 0} (x y : A) → Some x ≡ Some y → x ≡ y
same_some x y e = ap (λ o. unwrap_or o x) e

pub none_some : {A : Type 0} {B : Type 0} (y : A) → None ≡ Some y → B
none_some y e = absurd (false≢true (ap is_some e))

pub if_so_back : {A : Type 0} (t : Bool) (x y : A) → if_so t x ≡ Some y → (t ≡ true) × (x ≡ y)
if_so_back true x y e = (refl, same_some x y e)
if_so_back false x y e = none_some y e

pub mapped_back : {A B : Type 0} (f : A → B) (o : Option A) (y : B) → option_map f o ≡ Some y → (x : A) × (o ≡ Some x) × (f x ≡ y)
mapped_back f None y e = none_some y e
mapped_back f (Some x) y e = (x, refl, same_some (f x) y e)

pub then_back : {A B : Type 0} (f : A → Option B) (o : Option A) (y : B) → option_and_then f o ≡ Some y → (x : A) × (o ≡ Some x) × (f x ≡ Some y)
then_back f None y e = none_some y e
then_back f (Some x) y e = (x, refl, e)

-- an entry that is found is one of the rows
entry_by : {A : Type 0} (P : List ℕ → A → Type 0) (w v : List ℕ) (a b : A) (rest : Option A) (t : Bool)
    → bytes_eq w v ≡ t → P v a → (rest ≡ Some b → P w b) → (if t then Some a else rest) ≡ Some b → P w b
entry_by P w v a b rest true same here later e =
    subst (λ x. P w x) (same_some a b e) (subst (λ x. P x a) (sym ((bytes_eq-Decides w v).0 same)) here)
entry_by P w v a b rest false same here later e = later e

pub entry_back : {A : Type 0} (P : List ℕ → A → Type 0) (rows : List ((List ℕ) × A)) (w : List ℕ) (b : A)
    → AllByRecursion (λ row. P row.0 row.1) rows → entry_at rows w ≡ Some b → P w b
entry_back P [] w b rows e = none_some b e
entry_back P (row ∷ rows) w b holds e =
    entry_by P w row.0 row.1 b (entry_at rows w) (bytes_eq w row.0) refl holds.0 (λ f. entry_back P rows w b holds.1 f) e

-- ---- joining what was parted

joined_front : (c b : ℕ) (texts : List (List ℕ)) → texts_joined c (in_front b texts) ≡ b ∷ texts_joined c texts
joined_front c b [] = refl
joined_front c b (text ∷ texts) = refl

abbrev pub IsMore : List (List ℕ) → Type 0
IsMore [] = ⊥
IsMore (text ∷ texts) = Unit {0}

joined_empty : (c : ℕ) (texts : List (List ℕ)) → IsMore texts → texts_joined c ([] ∷ texts) ≡ c ∷ texts_joined c texts
joined_empty c [] more = absurd more
joined_empty c (text ∷ texts) more = refl

front_more : (b : ℕ) (texts : List (List ℕ)) → IsMore (in_front b texts)
front_more b [] = tt
front_more b (text ∷ texts) = tt

more_by : (t : Bool) (b : ℕ) (texts : List (List ℕ)) → IsMore (if t then [] ∷ texts else in_front b texts)
more_by true b texts = tt
more_by false b texts = front_more b texts

pub parted_more : (c : ℕ) (text : List ℕ) → IsMore (parted c text)
parted_more c [] = tt
parted_more c (b ∷ bs) = more_by (b == c) b (parted c bs)

joined_by : (t : Bool) (c b : ℕ) (bs : List ℕ) (texts : List (List ℕ)) → (b == c) ≡ t → IsMore texts → texts_joined c texts ≡ bs
    → texts_joined c (if t then [] ∷ texts else in_front b texts) ≡ b ∷ bs
joined_by true c b bs texts same more is = joined_empty c texts more ∙ ap₂ (λ x xs. x ∷ xs) (sym (eqb-true b c same)) is
joined_by false c b bs texts same more is = joined_front c b texts ∙ ap (λ xs. b ∷ xs) is

pub joined_parted : (c : ℕ) (text : List ℕ) → texts_joined c (parted c text) ≡ text
joined_parted c [] = refl
joined_parted c (b ∷ bs) = joined_by (b == c) c b bs (parted c bs) refl (parted_more c bs) (joined_parted c bs)

-- ---- numbers

pub number_back : (least most n : ℕ) (text : List ℕ) → number_in least most text ≡ Some n → (text ≡ decimal n) × (least ≤ n) × (n ≤ most)
number_back least most n text e =
    let value = digits_value 10 text in
    let found = if_so_back (nat_le least value && (nat_le value most && bytes_eq text (decimal value))) value n e in
    let low = and_parts (nat_le least value) (nat_le value most && bytes_eq text (decimal value)) found.0 in
    let high = and_parts (nat_le value most) (bytes_eq text (decimal value)) low.1 in (
      (bytes_eq-Decides text (decimal value)).0 high.1 ∙ ap decimal found.1,
      subst (λ m. least ≤ m) found.1 (leb-true least value low.0),
      subst (λ m. m ≤ most) found.1 (leb-true value most high.0),
    )

pub count_back : (n : ℕ) (text : List ℕ) → count_in text ≡ Some n → (text ≡ decimal n) × IsNumber n
count_back n text e = let back = number_back 0 4294967295 n text e in (back.0, omega (arith, back.2))

pub length_back : (n : ℕ) (text : List ℕ) → length_in text ≡ Some n → (text ≡ decimal n) × IsLength n
length_back n text e = let back = number_back 1 LIST_MAX n text e in (back.0, (back.1, back.2))

negative_back : (n b : ℕ) (bs : List ℕ) (z : ℤ) → b ≡ 45 → bs ≡ decimal n → 1 ≤ n → n ≤ 100000000000000000 → neg_ℤ (pos n) ≡ z
    → ((b ∷ bs) ≡ signed_decimal z) × IsQuantity z
negative_back zero b bs z minus digits low high e = absurd (omega (arith, low))
negative_back (suc n) b bs z minus digits low high e = (
  ap₂ (λ x xs. x ∷ xs) minus digits ∙ ap signed_decimal e,
  subst IsQuantity e (record { low = omega (arith, ints, high); high = omega (arith, ints) }),
)

quantity_by : (t : Bool) (b : ℕ) (bs : List ℕ) (z : ℤ) → (b == 45) ≡ t
    → (if t then option_map (λ n. neg_ℤ (pos n)) (number_in 1 100000000000000000 bs) else option_map pos
    (number_in 0 100000000000000000 (b ∷ bs))) ≡ Some z
    → ((b ∷ bs) ≡ signed_decimal z) × IsQuantity z
quantity_by true b bs z same e =
    let found = mapped_back (λ n. neg_ℤ (pos n)) (number_in 1 100000000000000000 bs) z e in
    let back = number_back 1 100000000000000000 found.0 bs found.1 in
    negative_back found.0 b bs z (eqb-true b 45 same) back.0 back.1 back.2 found.2
quantity_by false b bs z same e =
    let found = mapped_back pos (number_in 0 100000000000000000 (b ∷ bs)) z e in
    let back = number_back 0 100000000000000000 found.0 (b ∷ bs) found.1 in (
      back.0 ∙ ap signed_decimal found.2,
      subst IsQuantity found.2 (record { low = omega (arith, ints); high = omega (arith, ints, back.2) }),
    )

pub quantity_back : (z : ℤ) (text : List ℕ) → quantity_in text ≡ Some z → (text ≡ signed_decimal z) × IsQuantity z
quantity_back z [] e = none_some z e
quantity_back z (b ∷ bs) e = quantity_by (b == 45) b bs z refl e

pub truth_back : (truth : Bool) (text : List ℕ) → truth_in text ≡ Some truth → text ≡ truth_text truth
truth_back truth text e = entry_back (λ word b. word ≡ truth_text b) truths text truth (refl, (refl, tt)) e

-- ---- names

pub name_back : (name text : List ℕ) → name_in text ≡ Some name → (text ≡ name) × IsCodeName name
name_back name text e = let found = if_so_back (is_plain text) text name e in (found.1, subst IsCodeName found.1 found.0)

abbrev pub AreNames : (List ℕ) × (List ℕ) → Type 0
AreNames names = IsCodeName names.0 × IsCodeName names.1

slot_of_back : (texts : List (List ℕ)) (names : (List ℕ) × (List ℕ)) → slot_of texts ≡ Some names
    → (texts_joined 46 texts ≡ slot_text names.0 names.1) × AreNames names
slot_of_back [] names e = none_some names e
slot_of_back (object ∷ []) names e = none_some names e
slot_of_back (object ∷ slot ∷ []) names e =
    let pair : (List ℕ) × (List ℕ) = (object, slot) in
    let found = if_so_back (is_plain object && is_plain slot) pair names e in (
      ap (λ text. object ++ 46 ∷ text) (append-nil slot) ∙ ap (λ (both : (List ℕ) × (List ℕ)). slot_text both.0 both.1) found.1,
      subst AreNames found.1 (and_parts (is_plain object) (is_plain slot) found.0),
    )
slot_of_back (object ∷ slot ∷ other ∷ texts) names e = none_some names e

pub slot_back : (names : (List ℕ) × (List ℕ)) (text : List ℕ) → slot_spelt text ≡ Some names → (text ≡ slot_text names.0 names.1) × AreNames names
slot_back names text e = let back = slot_of_back (parted 46 text) names e in (sym (joined_parted 46 text) ∙ back.0, back.1)

-- ---- kinds

kind_of_back : (texts : List (List ℕ)) (kind : ValueKind) → kind_spelt texts ≡ Some kind → (texts_joined 42 texts ≡ kind_text kind) × IsCodeKind kind
kind_of_back [] kind e = none_some kind e
kind_of_back (letter ∷ []) kind e =
    entry_back (λ word k. (texts_joined 42 (word ∷ []) ≡ kind_text k) × IsCodeKind k) plain_kinds letter kind
    ((refl, tt), ((refl, tt), ((refl, tt), ((refl, tt), tt)))) e
kind_of_back (letter ∷ digits ∷ []) kind e =
    let found = then_back (λ (of_most : ℕ → ValueKind). option_map of_most (length_in digits)) (entry_at list_kinds letter) kind e in
    let most = mapped_back found.0 (length_in digits) kind found.2 in
    let back = length_back most.0 digits most.1 in
    let made =
    entry_back (λ word (of_most : ℕ → ValueKind). (m : ℕ) → IsLength m
    → (texts_joined 42 (word ∷ decimal m ∷ []) ≡ kind_text (of_most m)) × IsCodeKind (of_most m))
    list_kinds letter found.0 (
      (λ m h. (ap (λ text. codes "N*" ++ text) (append-nil (decimal m)), h)),
      ((λ m h. (ap (λ text. codes "S*" ++ text) (append-nil (decimal m)), h)), tt),
    )
    found.1 most.0 back.1 in
    (ap (λ text. texts_joined 42 (letter ∷ text ∷ [])) back.0 ∙ made.0 ∙ ap kind_text most.2, subst IsCodeKind most.2 made.1)
kind_of_back (letter ∷ digits ∷ other ∷ texts) kind e = none_some kind e

pub kind_back : (kind : ValueKind) (text : List ℕ) → kind_in text ≡ Some kind → (text ≡ kind_text kind) × IsCodeKind kind
kind_back kind text e = let back = kind_of_back (parted 42 text) kind e in (sym (joined_parted 42 text) ∙ back.0, back.1)

each_back : (texts : List (List ℕ)) (kinds : List ValueKind) → each_kind texts ≡ Some kinds → (texts ≡ map kind_text kinds) × AreKinds kinds
each_back [] kinds e = let is = same_some [] kinds e in subst (λ ks. ([] ≡ map kind_text ks) × AreKinds ks) is (refl, tt)
each_back (text ∷ texts) kinds e =
    let first = then_back (λ kind. option_map (λ ks. kind ∷ ks) (each_kind texts)) (kind_in text) kinds e in
    let others = mapped_back (λ ks. first.0 ∷ ks) (each_kind texts) kinds first.2 in
    let one = kind_back first.0 text first.1 in
    let rest = each_back texts others.0 others.1 in
    subst (λ ks. ((text ∷ texts) ≡ map kind_text ks) × AreKinds ks) others.2 (ap₂ (λ x xs. x ∷ xs) one.0 rest.0, (one.1, rest.1))

some_kinds : (texts : List (List ℕ)) (kinds : List ValueKind) → IsMore texts → texts ≡ map kind_text kinds → texts_joined 44 texts ≡ kinds_text kinds
some_kinds [] kinds more e = absurd more
some_kinds (text ∷ texts) [] more e = absurd (subst IsMore e tt)
some_kinds (text ∷ texts) (kind ∷ kinds) more e = ap (texts_joined 44) e

kinds_by : (t : Bool) (text : List ℕ) (kinds : List ValueKind) → bytes_eq text (codes "-") ≡ t
    → (if t then Some [] else each_kind (parted 44 text)) ≡ Some kinds → (text ≡ kinds_text kinds) × AreKinds kinds
kinds_by true text kinds same e =
    subst (λ ks. (text ≡ kinds_text ks) × AreKinds ks) (same_some [] kinds e) ((bytes_eq-Decides text (codes "-")).0 same, tt)
kinds_by false text kinds same e =
    let back = each_back (parted 44 text) kinds e in
    (sym (joined_parted 44 text) ∙ some_kinds (parted 44 text) kinds (parted_more 44 text) back.0, back.1)

pub kinds_back : (kinds : List ValueKind) (text : List ℕ) → kinds_in text ≡ Some kinds → (text ≡ kinds_text kinds) × AreKinds kinds
kinds_back kinds text e = kinds_by (bytes_eq text (codes "-")) text kinds refl e
