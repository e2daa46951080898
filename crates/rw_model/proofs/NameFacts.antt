-- The test of a name decides what a name is.
use Rattle.rw_base.proofs.Common.{◌≡◌, ◌⊎◌, ◌<◌, ℕ, zero, suc, List, [], ◌∷◌, length, slice_index_or, Bool, true, false, ◌||◌, refl, sym}
use Rattle.rw_base.proofs.Common.{arith, inl, inr, Contains, bytes_eq, Decides, list_all, cases_Bool, false≢true, Decides-and, Decides-or}
use Rattle.rw_base.proofs.Common.{Decides-not, Decides-eqb, Decides-like, Decides-by_and, bytes_eq-Decides, All-cons, All-tail}
use Rattle.rw_base.proofs.Tests.{Decides-le}
use Rattle.rw_base.specs.Byte.{is_letter, is_digit}
use Rattle.rw_base.proofs.Lists.{or_second}
use Rattle.rw_model.specs.declared.limits.TheConstants.{NAME_MAX}
use Rattle.rw_model.specs.Name.{IsLetter, IsDigit, IsPlain, IsName, reserved_words, is_word, is_plain, is_name}

Decides-letter : (b : ℕ) → Decides (is_letter b) (IsLetter b)
Decides-letter b =
    Decides-or _ _ (Decides-and _ _ (Decides-le 97 b) (Decides-le b 122))
    (Decides-or _ _ (Decides-and _ _ (Decides-le 65 b) (Decides-le b 90)) (Decides-eqb b 95))

Decides-digit : (b : ℕ) → Decides (is_digit b) (IsDigit b)
Decides-digit b = Decides-and _ _ (Decides-le 48 b) (Decides-le b 57)

or-left : (x y : Bool) → x ≡ true → (x || y) ≡ true
or-left x y e = rw e refl

word-found : (key : List ℕ) (keys : List (List ℕ)) (k : ℕ) → k < length keys → slice_index_or keys k key ≡ key → is_word keys key ≡ true
word-found key [] k within same = absurd (omega arith)
word-found key (listed ∷ keys) zero within same = or-left (bytes_eq key listed) (is_word keys key) ((bytes_eq-Decides key listed).1 (sym same))
word-found key (listed ∷ keys) (suc k) within same = or_second (bytes_eq key listed) (is_word keys key) (word-found key keys k (omega arith) same)

one-later : (key listed : List ℕ) (keys : List (List ℕ)) → Contains keys key → Contains (listed ∷ keys) key
one-later key listed keys (k, within, same) = (suc k, omega arith, same)

word-stands : (key : List ℕ) (keys : List (List ℕ)) → is_word keys key ≡ true → Contains keys key
word-stands key [] e = absurd (false≢true e)
word-stands key (listed ∷ keys) e = elim (cases_Bool (bytes_eq key listed)) [
  | inl here ↦ (0, omega arith, sym ((bytes_eq-Decides key listed).0 here))
  | inr other ↦ one-later key listed keys (word-stands key keys (rw other at e))
]

word-has : (key : List ℕ) (keys : List (List ℕ)) → Contains keys key → is_word keys key ≡ true
word-has key keys (k, within, same) = word-found key keys k within same

Decides-word : (keys : List (List ℕ)) (key : List ℕ) → Decides (is_word keys key) (Contains keys key)
Decides-word keys key = (word-stands key keys, word-has key keys)

pub Decides-plain : (text : List ℕ) → Decides (is_plain text) (IsPlain text)
Decides-plain [] = (λ e. absurd (false≢true e), λ plain. absurd (omega (arith, plain.some)))
Decides-plain (b ∷ bs) = Decides-like (is_plain (b ∷ bs))
    (λ parts. record {
      some = omega arith;
      short = parts.0;
      starts = parts.1.0;
      goes_on = All-cons (λ c. IsLetter c ⊎ IsDigit c) b bs (inl parts.1.0) parts.1.1;
    })
    (λ plain. (plain.short, (plain.starts, All-tail (λ c. IsLetter c ⊎ IsDigit c) b bs plain.goes_on)))
    (Decides-and _ _ (Decides-le (length (b ∷ bs)) NAME_MAX) (Decides-and _ _ (Decides-letter b)
    (Decides-by_and (λ c. is_letter c || is_digit c) (λ c. IsLetter c ⊎ IsDigit c) (list_all (λ c. is_letter c || is_digit c))
    (λ c. Decides-or _ _ (Decides-letter c) (Decides-digit c)) refl (λ _ _. refl) bs)))

pub Decides-name : (text : List ℕ) → Decides (is_name text) (IsName text)
Decides-name text = Decides-like (is_name text)
    (λ parts. record { plain = parts.0; free = parts.1 }) (λ name. (name.plain, name.free))
    (Decides-and _ _ (Decides-plain text) (Decides-not _ (Decides-word reserved_words text)))
