-- What words come to, where it is known how they were cut.
use Rattle.rw_base.proofs.Common.{◌≡◌, ◌⊎◌, inl, inr, ℕ, List, [], ◌∷◌, ◌++◌, refl, sym, ap, ap₂, subst, ◌∙◌, append-nil, arith, length, Bool}
use Rattle.rw_base.proofs.Common.{true, false, ◌&&◌, Option, Some, None, is_some, Result, Ok, Err, option_map, option_and_then}
use Rattle.rw_base.proofs.Common.{IsErrAnd, and_parts, false≢true}
use Rattle.rw_model.specs.Name.{is_plain}
use Rattle.rpl_code.specs.declared.kind.ValueKind.{ValueKind}
use Rattle.rpl_code.specs.Parting.{parted}
use Rattle.rpl_code.specs.Words.{if_so, entry_at, length_in, name_in, slot_spelt, slot_of, list_kinds, kind_in, kind_spelt, each_kind}
use Rattle.rpl_code.specs.Spelling.{texts_joined}
use Rattle.rpl_code.specs.declared.line_fault.LineFault.{LineFault}
use Rattle.rpl_code.specs.declared.line_fault.LineFault.TheVariants.{Bad}
use Rattle.rpl_code.specs.Answers.{Says}
use Rattle.rpl_code.proofs.Parted.{Lacks, lacks_above, parted_whole}
use Rattle.rpl_code.proofs.WordsRead.{decimal_above, name_above}
use Rattle.rpl_code.proofs.WordsBack.{IsMore, same_some, none_some, if_so_back, mapped_back, then_back, length_back, parted_more, joined_parted}
use Rattle.rpl_code.proofs.NumbersTried.{none_but}

-- a fault that is handed on says what it said
pub says_none : {A : Type 0} (meant : Option A) (result : Result A LineFault) (fault : LineFault)
    → IsErrAnd result (λ e. e ≡ fault) → (fault ≡ Bad → meant ≡ None) → Says meant result
says_none meant (Ok x) fault same none = absurd same
says_none meant (Err e) fault same none = λ bad. none (sym same ∙ bad)

-- ---- a text is one part, or has two or more

abbrev pub OneOrMore : ℕ → List ℕ → Type 0
OneOrMore c text =
    (parted c text ≡ text ∷ []) ⊎ ((first : List ℕ) × (second : List ℕ) × (rest : List (List ℕ)) × (parted c text ≡ first ∷ second ∷ rest))

one_or_by : (c : ℕ) (text : List ℕ) (parts : List (List ℕ)) → parted c text ≡ parts → IsMore parts → texts_joined c parts ≡ text → OneOrMore c text
one_or_by c text [] e more whole = absurd more
one_or_by c text (part ∷ []) e more whole = inl (e ∙ ap (λ p. p ∷ []) (sym (append-nil part) ∙ whole))
one_or_by c text (first ∷ second ∷ rest) e more whole = inr (first, second, rest, e)

one_or_more : (c : ℕ) (text : List ℕ) → OneOrMore c text
one_or_more c text = one_or_by c text (parted c text) refl (parted_more c text) (joined_parted c text)

one_not_more : (c : ℕ) (text first second : List ℕ) (rest : List (List ℕ)) → Lacks c text → parted c text ≡ first ∷ second ∷ rest → ⊥
one_not_more c text first second rest lacks e =
    let lengths : 1 ≡ length (first ∷ second ∷ rest) = ap length (sym (parted_whole c text lacks) ∙ e) in omega (arith, lengths)

-- ---- kinds

abbrev pub listed_kind : List ℕ → List ℕ → Option ValueKind
listed_kind letter digits = option_and_then (λ (of_most : ℕ → ValueKind). option_map of_most (length_in digits)) (entry_at list_kinds letter)

not_listed : (letter digits first second : List ℕ) (rest : List (List ℕ)) → parted 42 digits ≡ first ∷ second ∷ rest
    → listed_kind letter digits ≡ None
not_listed letter digits first second rest e = none_but (listed_kind letter digits)
    (λ kind is. let row = then_back (λ (of_most : ℕ → ValueKind). option_map of_most (length_in digits)) (entry_at list_kinds letter) kind is in
    let most = mapped_back row.0 (length_in digits) kind row.2 in
    let back = length_back most.0 digits most.1 in
    one_not_more 42 digits first second rest
    (subst (Lacks 42) (sym back.0) (lacks_above 46 42 _ (omega arith) (decimal_above most.0 (omega (arith, back.1.1))))) e)

pub kind_cut : (word letter digits : List ℕ) → parted 42 word ≡ letter ∷ parted 42 digits → kind_in word ≡ listed_kind letter digits
kind_cut word letter digits e =
    elim (one_or_more 42 digits) [
      | inl one ↦ ap kind_spelt (e ∙ ap (λ parts. letter ∷ parts) one)
      | inr more ↦ ap kind_spelt (e ∙ ap (λ parts. letter ∷ parts) more.3) ∙ sym (not_listed letter digits more.0 more.1 more.2 more.3)
    ]

-- ---- slots

abbrev pub both_names : List ℕ → List ℕ → Option ((List ℕ) × (List ℕ))
both_names object slot = if_so (is_plain object && is_plain slot) (object, slot)

not_both : (object slot first second : List ℕ) (rest : List (List ℕ)) → parted 46 slot ≡ first ∷ second ∷ rest → both_names object slot ≡ None
not_both object slot first second rest e = none_but (both_names object slot)
    (λ names is. let pair : (List ℕ) × (List ℕ) = (object, slot) in
    let both = and_parts (is_plain object) (is_plain slot) (if_so_back (is_plain object && is_plain slot) pair names is).0 in
    one_not_more 46 slot first second rest (lacks_above 46 46 slot (omega arith) (name_above slot both.1)) e)

pub slot_cut : (word object slot : List ℕ) → parted 46 word ≡ object ∷ parted 46 slot → slot_spelt word ≡ both_names object slot
slot_cut word object slot e =
    elim (one_or_more 46 slot) [
      | inl one ↦ ap slot_of (e ∙ ap (λ parts. object ∷ parts) one)
      | inr more ↦ ap slot_of (e ∙ ap (λ parts. object ∷ parts) more.3) ∙ sym (not_both object slot more.0 more.1 more.2 more.3)
    ]

-- ---- kinds one after the other: those that were read, and those that are left

abbrev pub kinds_with : List ValueKind → List (List ℕ) → Option (List ValueKind)
kinds_with kinds words = option_map (λ more. kinds ++ more) (each_kind words)

abbrev pair : List ℕ → List ℕ → (List ℕ) × (List ℕ)
pair x y = (x, y)

both_true : (s t : Bool) (x y a b : List ℕ) → if_so s a ≡ Some x → if_so t b ≡ Some y → if_so (s && t) (pair a b) ≡ Some (pair x y)
both_true true true x y a b e f = ap₂ (λ p q. Some (pair p q)) (same_some a x e) (same_some b y f)
both_true true false x y a b e f = none_some y f
both_true false t x y a b e f = none_some x e

second_false : (s t : Bool) (a b : List ℕ) → if_so t b ≡ None → if_so (s && t) (pair a b) ≡ None
second_false true true a b e = absurd (false≢true (sym (ap is_some e)))
second_false true false a b e = refl
second_false false t a b e = refl

pub slot_named : (word object slot x y : List ℕ) → parted 46 word ≡ object ∷ parted 46 slot → name_in object ≡ Some x → name_in slot ≡ Some y
    → slot_spelt word ≡ Some (x, y)
slot_named word object slot x y e first second =
    slot_cut word object slot e ∙ both_true (is_plain object) (is_plain slot) x y object slot first second

pub slot_unnamed : (word object slot : List ℕ) → parted 46 word ≡ object ∷ parted 46 slot → name_in slot ≡ None → slot_spelt word ≡ None
slot_unnamed word object slot e none = slot_cut word object slot e ∙ second_false (is_plain object) (is_plain slot) object slot none
