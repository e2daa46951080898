-- The text of a plain string is the string between quotes.
use Rattle.std.proofs.Common.{◌≡◌, ℕ, ◌<◌, ◌≤◌, Bool, true, false, not, ◌&&◌, ◌==◌, ◌^◌, nat_le, List, [], ◌∷◌, ◌++◌, length, get_or, ap}
use Rattle.std.proofs.Common.{sym, refl, arith}
use Rattle.std.proofs.lemmas.Bool.{and_parts, or_from, and_from}
use Rattle.std.proofs.lemmas.Bool.Decides.{nat_tests}
use Rattle.std.specs.List.{list_all, list_any}
use Rattle.std.specs.Fmt.{decimal}
use Rattle.std.specs.Str.Parse.{AllDigits, digits_value}
use Rattle.std.specs.Char.{digit_value}
use Rattle.std.proofs.lemmas.Str.Parse.{IsNumeralModel, digit_from_value}
use Rattle.std.proofs.lemmas.Fmt.{decimal-digits_value, decimal_is_IsNumeral}
use Rattle.toml_writer.specs.Text.{encoding_of, escaped, is_control, needs_escape, quotes_after, string_text}

-- letters, digits and what stands near them, but no backslash
abbrev pub is_plain : ℕ → Bool
is_plain c = nat_le 45 c && (nat_le c 122 && not (c == 92))

record Plain (c : ℕ) : Type 0 where
  low : 45 ≤ c
  high : c ≤ 122
  slash : (c == 92) ≡ false

not_so : (b : Bool) → not b ≡ true → b ≡ false
not_so true e = sym e
not_so false e = refl

parts : (c : ℕ) → is_plain c ≡ true → Plain c
parts c is =
    let all = and_parts (nat_le 45 c) (nat_le c 122 && not (c == 92)) is in
    let more = and_parts (nat_le c 122) (not (c == 92)) all.1 in
    let l = all.0 in let h = more.0 in
    record { low = grind (arith, nat_tests, l); high = grind (arith, nat_tests, h); slash = not_so (c == 92) more.1 }

record Tests (c : ℕ) : Type 0 where
  tab : (c == 9) ≡ false
  feed : (c == 10) ≡ false
  quote : (c == 34) ≡ false
  low : nat_le 32 c ≡ true
  delete : (c == 127) ≡ false

tests : (c : ℕ) → Plain c → Tests c
tests c p = let l = p.low in let h = p.high in record {
  tab = grind (arith, nat_tests, l);
  feed = grind (arith, nat_tests, l);
  quote = grind (arith, nat_tests, l);
  low = grind (arith, nat_tests, l);
  delete = grind (arith, nat_tests, h);
}

-- no byte of it is of a kind that a plain byte isn't
none_of : (test : ℕ → Bool) → ((c : ℕ) → is_plain c ≡ true → test c ≡ false) → (s : List ℕ) → list_all is_plain s ≡ true → list_any test s ≡ false
none_of test apart [] all = refl
none_of test apart (c ∷ s) all =
    let here = and_parts (is_plain c) (list_all is_plain s) all in
    or_from (test c) (list_any test s) (apart c here.0) (none_of test apart s here.1)

not_control : (c : ℕ) → is_plain c ≡ true → is_control c ≡ false
not_control c is = let t = tests c (parts c is) in rw (t.tab, t.low, t.delete) refl

unescaped : (s : List ℕ) → list_all is_plain s ≡ true → escaped false 0 s ≡ s
unfolding escaped needs_escape quotes_after
unescaped [] all = refl
unescaped (c ∷ s) all =
    let here = and_parts (is_plain c) (list_all is_plain s) all in
    let p = parts c here.0 in
    let t = tests c p in
    rw (t.quote, t.feed, p.slash, t.tab, t.low, t.delete) (ap (λ rest. c ∷ rest) (unescaped s here.1))

pub plain_text : (s : List ℕ) → list_all is_plain s ≡ true → string_text s ≡ 34 ∷ (s ++ 34 ∷ [])
unfolding string_text encoding_of
plain_text s all =
    let control = none_of is_control not_control s all in
    let slash = none_of (λ c. c == 92) (λ c is. (parts c is).slash) s all in
    let quote = none_of (λ c. c == 34) (λ c is. (tests c (parts c is)).quote) s all in
    let feed = none_of (λ c. c == 10) (λ c is. (tests c (parts c is)).feed) s all in
    rw (control, slash, quote, feed, unescaped s all) refl

-- ---- names with a number in them

digit_plain : (c : ℕ) → digit_value c < 10 → is_plain c ≡ true
digit_plain c small =
    let range = digit_from_value c small in
    let low : nat_le 45 c ≡ true = grind (arith, nat_tests, range) in
    let high : nat_le c 122 ≡ true = grind (arith, nat_tests, range) in
    let slash : (c == 92) ≡ false = grind (arith, nat_tests, range) in
    rw (low, high, slash) refl

digits_plain : (digits tail : List ℕ) → AllDigits 10 digits → list_all is_plain tail ≡ true → list_all is_plain (digits ++ tail) ≡ true
digits_plain [] tail all rest = rest
digits_plain (c ∷ digits) tail all rest = and_from (is_plain c) _ (digit_plain c all.0) (digits_plain digits tail all.1 rest)

pub numbered_plain : (n : ℕ) (tail : List ℕ) → n < 1000 → list_all is_plain tail ≡ true → list_all is_plain (decimal n ++ tail) ≡ true
numbered_plain n tail small rest = digits_plain (decimal n) tail (decimal_is_IsNumeral n (omega arith)).0.1 rest

-- ---- decimals of literals

own : IsNumeralModel (AllDigits 10) (digits_value 10)
own = record { to = λ ds all. all; from = λ ds all. all; same = λ ds all. refl }

pub spelt : (ds : List ℕ) → AllDigits 10 ds → 0 < length ds → (get_or ds 0 0 ≡ 48 → length ds ≡ 1)
    → digits_value 10 ds < 2 ^ 64 → decimal (digits_value 10 ds) ≡ ds
spelt ds = decimal-digits_value own ds
