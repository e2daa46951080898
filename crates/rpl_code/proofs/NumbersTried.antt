-- What a word is read as, where it is known whether digits stand there and which.
use Rattle.rw_base.proofs.Common.{◌≡◌, ℕ, List, refl, sym, ap, subst, ◌∙◌, ◌<◌, ◌≤◌, ◌^◌, arith, Option, Some, None, Result, Err, Ok, is_ok, false}
use Rattle.rw_base.proofs.Common.{bytes_eq, IsUtf8, IsAscii, bytes_eq-Decides, ParsesUnsigned, decimal_injective, parse-decimal, IsAscii-decimal}
use Rattle.rw_base.proofs.Common.{IsUtf8-from_ascii, false≢true, decimal}
use Rattle.rpl_code.specs.Words.{number_in}
use Rattle.rpl_code.proofs.WordsRead.{number_is}
use Rattle.rpl_code.proofs.WordsBack.{number_back}

-- what isn't something is nothing
pub none_but : {A : Type 0} (o : Option A) → ((x : A) → o ≡ Some x → ⊥) → o ≡ None
none_but None never = refl
none_but (Some x) never = absurd (never x refl)

pub number_spelt : (least most n : ℕ) (word : List ℕ) → word ≡ decimal n → n < 2 ^ 64 → least ≤ n → n ≤ most → number_in least most word ≡ Some n
number_spelt least most n word is small low high = ap (number_in least most) is ∙ number_is least most n low high small

pub number_outside : (least most n : ℕ) (word : List ℕ) → word ≡ decimal n → n < 2 ^ 64 → most < 2 ^ 64 → (least ≤ n → n ≤ most → ⊥)
    → number_in least most word ≡ None
number_outside least most n word is small greatest outside = none_but (number_in least most word)
    (λ m e. let back = number_back least most m word e in
    let same : m ≡ n = decimal_injective m n (omega (arith, greatest, back.2)) small (sym back.0 ∙ is) in
    outside (omega (arith, same, back.1)) (omega (arith, same, back.2)))

pub never_utf8 : (n : ℕ) (word : List ℕ) → n < 2 ^ 64 → word ≡ decimal n → (IsUtf8 word → ⊥) → ⊥
never_utf8 n word small is not = not (IsUtf8-from_ascii word (subst IsAscii (sym is) (IsAscii-decimal n small)))

pub never_parsed : {E : Type 0} (n : ℕ) (word : List ℕ) (fault : E) → n < 2 ^ 64 → word ≡ decimal n → ParsesUnsigned 64 10 word (Err fault) → ⊥
never_parsed n word fault small is parsed = false≢true (ap is_ok (parse-decimal 64 n word (Err fault) small small is parsed))

abbrev ok_or : ℕ → Result ℕ ℕ → ℕ
ok_or n (Ok m) = m
ok_or n (Err fault) = n

-- what was read is written otherwise
pub never_written : (n number : ℕ) (digits : List ℕ) → n < 2 ^ 64 → digits ≡ decimal n → ParsesUnsigned {E = ℕ} 64 10 digits (Ok number)
    → bytes_eq (decimal number) digits ≡ false → ⊥
never_written n number digits small is parsed other =
    let same : number ≡ n = ap (ok_or n) (parse-decimal 64 n digits (Ok number) small small is parsed) in
    false≢true (sym other ∙ (bytes_eq-Decides (decimal number) digits).1 (ap decimal same ∙ sym is))
