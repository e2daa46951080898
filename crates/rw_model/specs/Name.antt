-- The names that objects and data slots may have.
use Rattle.std.specs.Prelude.{ℕ, ◌≤◌, ◌⊎◌, ◌≡◌, nat_le, Bool, false, ◌&&◌, ◌||◌, not, List, [], ◌∷◌, length, All, Contains, slice_index, codes, bytes_eq}
use Rattle.std.specs.List.{list_all, list_any}
use Rattle.rw_base.specs.Byte.{is_digit, is_letter}
use Rattle.rw_model.specs.declared.limits.TheConstants.{NAME_MAX}

-- a letter, or `_`
abbrev pub IsLetter : ℕ → Type 0
IsLetter b = ((97 ≤ b) × (b ≤ 122)) ⊎ (((65 ≤ b) × (b ≤ 90)) ⊎ (b ≡ 95))

abbrev pub IsDigit : ℕ → Type 0
IsDigit b = (48 ≤ b) × (b ≤ 57)

-- the words that the language of rules keeps for itself
abbrev pub reserved_words : List (List ℕ)
reserved_words =
    codes "RULE" ∷ codes "ENDRULE" ∷ codes "FUNCTION" ∷ codes "ENDFUNCTION" ∷ codes "IS" ∷
    codes "IF" ∷ codes "THEN" ∷ codes "ELSE" ∷ codes "ENDIF" ∷ codes "WITH" ∷ codes "DO" ∷ codes "ENDWITH" ∷
    codes "LET" ∷ codes "IN" ∷ codes "ENDLET" ∷ codes "FOR" ∷ codes "ENDFOR" ∷ codes "MAP" ∷ codes "ENDMAP" ∷
    codes "AND" ∷ codes "OR" ∷ codes "NOT" ∷ codes "TRUE" ∷ codes "FALSE" ∷ codes "KNOWN" ∷
    codes "APPEND" ∷ codes "ITEM" ∷ codes "LENGTH" ∷ codes "MONTH" ∷ codes "DAY" ∷ codes "YEAR" ∷
    codes "StorageToElevation" ∷ codes "ElevationToStorage" ∷
    codes "NUMERIC" ∷ codes "BOOLEAN" ∷ codes "DATETIME" ∷ codes "SLOT" ∷ codes "LIST" ∷ codes "OF" ∷ codes "t" ∷
    []

-- a plain name: a letter or `_`, then letters, digits and `_`, 32 bytes at most. So it has no comma, quote, blank or line end
pub record IsPlain (text : List ℕ) : Type 0 where
  pub some : 1 ≤ length text
  pub short : length text ≤ NAME_MAX
  pub starts : IsLetter (slice_index text 0)
  pub goes_on : All (λ b. IsLetter b ⊎ IsDigit b) text

-- a plain name that is no reserved word
pub record IsName (text : List ℕ) : Type 0 where
  pub plain : IsPlain text
  pub free : ¬ Contains reserved_words text

-- ---- the same, as tests

-- the text is one of the words
abbrev pub is_word : List (List ℕ) → List ℕ → Bool
is_word words text = list_any (bytes_eq text) words

abbrev pub is_plain : List ℕ → Bool
is_plain [] = false
is_plain (b ∷ bs) = nat_le (length (b ∷ bs)) NAME_MAX && (is_letter b && list_all (λ c. is_letter c || is_digit c) bs)

abbrev pub is_name : List ℕ → Bool
is_name text = is_plain text && not (is_word reserved_words text)
