-- What a word of a line stands for, if it stands for anything.
use Rattle.std.specs.Prelude.{ℕ, ◌==◌, ◌&&◌, Bool, true, false, if◌then◌else◌, nat_le, ℤ, pos, neg_ℤ, Option, Some, None, option_map, option_and_then, List, [], ◌∷◌, codes}
use Rattle.std.specs.Str.{bytes_eq}
use Rattle.std.specs.Str.Parse.{digits_value}
use Rattle.std.specs.Fmt.{decimal}
use Rattle.rw_base.specs.declared.limits.TheConstants.{LIST_MAX}
use Rattle.rw_model.specs.Name.{is_plain}
use Rattle.rpl_code.specs.declared.numbers.TheConstants.{GREATEST}
use Rattle.rpl_code.specs.declared.kind.ValueKind.{ValueKind}
use Rattle.rpl_code.specs.declared.kind.ValueKind.TheVariants as K
use Rattle.rpl_code.specs.Parting.{parted}

-- x where the test holds, and nothing elsewhere
abbrev pub if_so : {A : Type 0} → Bool → A → Option A
if_so true x = Some x
if_so false x = None

-- the entry at a word
abbrev pub entry_at : {A : Type 0} → List ((List ℕ) × A) → List ℕ → Option A
entry_at [] word = None
entry_at (row ∷ rows) word = if bytes_eq word row.0 then Some row.1 else entry_at rows word

-- the number whose digits these are, with no leading zeros, from least to most
abbrev pub number_in : ℕ → ℕ → List ℕ → Option ℕ
number_in least most text =
    let n = digits_value 10 text in if_so (nat_le least n && (nat_le n most && bytes_eq text (decimal n))) n

-- the number of a place, a local or a block
abbrev pub count_in : List ℕ → Option ℕ
count_in = number_in 0 4294967295

-- the greatest length of a list
abbrev pub length_in : List ℕ → Option ℕ
length_in = number_in 1 LIST_MAX

-- a quantity, which has a `-` before its digits where it is below 0
abbrev pub quantity_in : List ℕ → Option ℤ
quantity_in [] = None
quantity_in (b ∷ bs) =
    if b == 45 then option_map (λ n. neg_ℤ (pos n)) (number_in 1 GREATEST bs)
    else option_map pos (number_in 0 GREATEST (b ∷ bs))

abbrev pub truths : List ((List ℕ) × Bool)
truths = (codes "true", true) ∷ (codes "false", false) ∷ []

abbrev pub truth_in : List ℕ → Option Bool
truth_in = entry_at truths

abbrev pub name_in : List ℕ → Option (List ℕ)
name_in text = if_so (is_plain text) text

-- an object's name and a slot's, with a point between them
abbrev pub slot_of : List (List ℕ) → Option ((List ℕ) × (List ℕ))
slot_of (object ∷ slot ∷ []) = if_so (is_plain object && is_plain slot) (object, slot)
slot_of _ = None

abbrev pub slot_spelt : List ℕ → Option ((List ℕ) × (List ℕ))
slot_spelt text = slot_of (parted 46 text)

abbrev pub plain_kinds : List ((List ℕ) × ValueKind)
plain_kinds = (codes "N", K.N) ∷ (codes "B", K.B) ∷ (codes "D", K.D) ∷ (codes "S", K.S) ∷ []

-- kinds of lists, by their greatest length
abbrev pub list_kinds : List ((List ℕ) × (ℕ → ValueKind))
list_kinds = (codes "N", K.NList) ∷ (codes "S", K.SList) ∷ []

-- a kind without a length, or with one behind `*`
abbrev pub kind_spelt : List (List ℕ) → Option ValueKind
kind_spelt (letter ∷ []) = entry_at plain_kinds letter
kind_spelt (letter ∷ digits ∷ []) =
    option_and_then (λ (of_most : ℕ → ValueKind). option_map of_most (length_in digits)) (entry_at list_kinds letter)
kind_spelt _ = None

abbrev pub kind_in : List ℕ → Option ValueKind
kind_in text = kind_spelt (parted 42 text)

abbrev pub each_kind : List (List ℕ) → Option (List ValueKind)
each_kind [] = Some []
each_kind (text ∷ texts) = option_and_then (λ kind. option_map (λ kinds. kind ∷ kinds) (each_kind texts)) (kind_in text)

-- kinds with commas, and `-` for none
abbrev pub kinds_in : List ℕ → Option (List ValueKind)
kinds_in text = if bytes_eq text (codes "-") then Some [] else each_kind (parted 44 text)
