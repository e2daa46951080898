-- The model's text is UTF-8.
use Rattle.std.proofs.Common.{◌≡◌, ℕ, zero, suc, ◌+◌, ◌<◌, Bool, true, nat_lt, List, [], ◌∷◌, ◌++◌, arith, refl, codes}
use Rattle.std.proofs.lemmas.Bool.{and_parts, and_from}
use Rattle.std.proofs.lemmas.Bool.Decides.{nat_tests}
use Rattle.std.proofs.lemmas.Str.{IsUtf8-from_ascii, is_utf8-from_IsUtf8}
use Rattle.std.proofs.lemmas.Str.Ascii.{IsAscii-cons, IsAscii-nil}
use Rattle.std.proofs.lemmas.Str.Parse.{digit_from_value}
use Rattle.std.proofs.lemmas.Fmt.{decimal_is_IsNumeral}
use Rattle.std.specs.Fmt.{decimal}
use Rattle.std.specs.List.{list_all}
use Rattle.std.specs.Str.{IsAscii, is_utf8}
use Rattle.std.specs.Str.Parse.{AllDigits}
use Rattle.rw_report.specs.Section.{for_each}
use Rattle.rw_sample.specs.Texts.{run_words, reservoir_words, reach_words, link_words, sample_model}

abbrev pub is_ascii_byte : ℕ → Bool
is_ascii_byte byte = nat_lt byte 128

unfoldable ascii : List ℕ → Bool
ascii text = list_all is_ascii_byte text

joined : (text more : List ℕ) → ascii text ≡ true → ascii more ≡ true → ascii (text ++ more) ≡ true
unfolding ascii
joined [] more is behind = behind
joined (byte ∷ text) more is behind =
    let here = and_parts (is_ascii_byte byte) (list_all is_ascii_byte text) is in
    and_from (is_ascii_byte byte) _ here.0 (joined text more here.1 behind)

digits_ascii : (digits : List ℕ) → AllDigits 10 digits → ascii digits ≡ true
unfolding ascii
digits_ascii [] all = refl
digits_ascii (digit ∷ digits) all =
    let range = digit_from_value digit all.0 in
    let here : is_ascii_byte digit ≡ true = grind (arith, nat_tests, range) in
    and_from (is_ascii_byte digit) _ here (digits_ascii digits all.1)

number : (n : ℕ) → n < 1000 → ascii (decimal n) ≡ true
number n small = digits_ascii (decimal n) (decimal_is_IsNumeral n (omega arith)).0.1

all_ascii : (words : ℕ → List ℕ) → ((n : ℕ) → n < 999 → ascii (words n) ≡ true) → (count : ℕ) → count < 999 → ascii (for_each words count) ≡ true
unfolding ascii
all_ascii words each zero few = refl
all_ascii words each (suc before) few =
    joined (for_each words before) (words (suc before)) (all_ascii words each before (omega (arith, few))) (each (suc before) few)

numbered : (before behind : List ℕ) (n : ℕ) → n < 1000 → ascii before ≡ true → ascii behind ≡ true → ascii (before ++ (decimal n ++ behind)) ≡ true
numbered before behind n small first last = joined before (decimal n ++ behind) first (joined (decimal n) behind (number n small) last)

reservoir_ascii : (n : ℕ) → n < 999 → ascii (reservoir_words n) ≡ true
unfolding ascii
reservoir_ascii n small = numbered (codes "\n[[object]]\nname = \"D") _ n (omega (arith, small)) refl refl

reach_ascii : (n : ℕ) → n < 999 → ascii (reach_words n) ≡ true
unfolding ascii
reach_ascii n small = numbered (codes "\n[[object]]\nname = \"R") _ n (omega (arith, small)) refl refl

link_ascii : (n : ℕ) → n < 999 → ascii (link_words n) ≡ true
unfolding ascii
link_ascii n small =
    numbered (codes "\n[[link]]\nslots = [\"D") _ n (omega (arith, small)) refl
    (numbered (codes ".Outflow\", \"R") _ n (omega (arith, small)) refl
    (numbered (codes ".Inflow\"]\n\n[[link]]\nslots = [\"R") _ n (omega (arith, small)) refl
    (numbered (codes ".Outflow\", \"D") _ (n + 1) (omega (arith, small)) refl refl)))

to_ascii : (text : List ℕ) → ascii text ≡ true → IsAscii text
unfolding ascii
to_ascii [] is = IsAscii-nil
to_ascii (byte ∷ text) is =
    let here = and_parts (is_ascii_byte byte) (list_all is_ascii_byte text) is in
    let small : byte < 128 = let h = here.0 in grind (arith, nat_tests, h) in
    IsAscii-cons byte text small (to_ascii text here.1)

pub text_utf8 : (text : List ℕ) → list_all is_ascii_byte text ≡ true → is_utf8 text ≡ true
unfolding ascii
text_utf8 text is = is_utf8-from_IsUtf8 text (IsUtf8-from_ascii text (to_ascii text is))

run_ascii : ascii run_words ≡ true
unfolding ascii
run_ascii = refl

words_ascii : (reservoirs reaches links : ℕ) → reservoirs < 999 → reaches < 999 → links < 999
    → ascii (run_words ++ (for_each reservoir_words reservoirs ++ (for_each reach_words reaches ++ for_each link_words links))) ≡ true
words_ascii reservoirs reaches links few_reservoirs few_reaches few_links =
    joined run_words _ run_ascii (joined (for_each reservoir_words reservoirs) _ (all_ascii reservoir_words reservoir_ascii reservoirs few_reservoirs)
    (joined (for_each reach_words reaches) (for_each link_words links) (all_ascii reach_words reach_ascii reaches few_reaches)
    (all_ascii link_words link_ascii links few_links)))

pub model_utf8 : is_utf8 sample_model ≡ true
unfolding sample_model
model_utf8 = is_utf8-from_IsUtf8 _ (IsUtf8-from_ascii _ (to_ascii _ (words_ascii 20 19 19 (omega arith) (omega arith) (omega arith))))
