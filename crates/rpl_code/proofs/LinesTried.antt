-- What lines come to, where it is known how they were cut.
use Rattle.rw_base.proofs.Common.{◌≡◌, ℕ, List, [], ◌∷◌, refl, ap, ◌∙◌, Bool, true, nat_lt, Option, Some, None, list_all, AllByRecursion, IsAscii}
use Rattle.rw_base.proofs.Common.{IsUtf8, IsUtf8-from_ascii, IsAscii-nil, IsAscii-cons, and_parts, ltb-true}
use Rattle.rpl_code.specs.declared.said.Said.{Said}
use Rattle.rpl_code.specs.Parting.{parted}
use Rattle.rpl_code.specs.Words.{entry_at}
use Rattle.rpl_code.specs.Reading.{alone, with_one, with_two, said_by}
use Rattle.rpl_code.proofs.WordsBack.{IsMore, parted_more, none_some, then_back, entry_back}
use Rattle.rpl_code.proofs.NumbersTried.{none_but}

-- ---- a word that is no text begins no line

abbrev is_small : List ℕ → Bool
is_small = list_all (λ b. nat_lt b 128)

small_ascii : (word : List ℕ) → is_small word ≡ true → IsAscii word
small_ascii [] h = IsAscii-nil
small_ascii (b ∷ bs) h =
    let parts = and_parts (nat_lt b 128) (is_small bs) h in IsAscii-cons b bs (ltb-true b 128 parts.0) (small_ascii bs parts.1)

rows_text : {A : Type 0} (rows : List ((List ℕ) × A)) → list_all (λ row. is_small row.0) rows ≡ true → AllByRecursion (λ row. IsUtf8 row.0) rows
rows_text [] h = tt
rows_text (row ∷ rows) h =
    let parts = and_parts (is_small row.0) (list_all (λ r. is_small r.0) rows) h in
    (IsUtf8-from_ascii row.0 (small_ascii row.0 parts.0), rows_text rows parts.1)

begins_with_text : (word : List ℕ) (words : List (List ℕ)) (says : Said) → said_by (word ∷ words) ≡ Some says → IsUtf8 word
begins_with_text word [] says e = entry_back (λ w s. IsUtf8 w) alone word says (rows_text alone refl) e
begins_with_text word (one ∷ []) says e =
    let found = then_back (λ (reads : List ℕ → Option Said). reads one) (entry_at with_one word) says e in
    entry_back (λ w reads. IsUtf8 w) with_one word found.0 (rows_text with_one refl) found.1
begins_with_text word (one ∷ two ∷ []) says e =
    let found = then_back (λ (reads : List ℕ → List ℕ → Option Said). reads one two) (entry_at with_two word) says e in
    entry_back (λ w reads. IsUtf8 w) with_two word found.0 (rows_text with_two refl) found.1
begins_with_text word (one ∷ two ∷ three ∷ words) says e = none_some says e

pub no_text : (line word : List ℕ) (words : List (List ℕ)) → parted 32 line ≡ word ∷ words → (IsUtf8 word → ⊥) → said_by (parted 32 line) ≡ None
no_text line word words e not = ap said_by e ∙ none_but (said_by (word ∷ words)) (λ says is. not (begins_with_text word words says is))

-- ---- no line has four words

four_words : (word one two : List ℕ) (words : List (List ℕ)) → IsMore words → said_by (word ∷ one ∷ two ∷ words) ≡ None
four_words word one two [] more = absurd more
four_words word one two (three ∷ words) more = refl

pub too_many : (word others one two three behind : List ℕ) → parted 32 others ≡ one ∷ parted 32 two → parted 32 two ≡ three ∷ parted 32 behind
    → said_by (word ∷ parted 32 others) ≡ None
too_many word others one two three behind first second =
    ap (λ words. said_by (word ∷ words)) (first ∙ ap (λ words. one ∷ words) second)
    ∙ four_words word one three (parted 32 behind) (parted_more 32 behind)
