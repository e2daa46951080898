-- The ruleset of the sample is shorter than a file may be.
use Rattle.rw_base.proofs.Common.{arith, codes, decimal, length, length-append, refl, zero, suc, ℕ, List, ◌++◌, ◌+◌, ◌*◌, ◌^◌, ◌<◌, ◌≤◌, ◌≡◌}
use Rattle.std.proofs.lemmas.Fmt.{length-decimal-le}
use Rattle.rw_report.specs.Section.{for_each}
use Rattle.rw_sample.specs.Texts.{rule_words, sample_rules}

-- two texts, one behind the other
both : (first second : List ℕ) (m n : ℕ) → length first ≤ m → length second ≤ n → length (first ++ second) ≤ m + n
both first second m n one other = let whole = length-append first second in omega (arith, whole, one, other)

literal : (text : List ℕ) (n : ℕ) → length text ≡ n → length text ≤ n
literal text n is = omega (arith, is)

rule_length : (number : ℕ) → number ≤ 20 → length (rule_words number) ≤ 75
rule_length number small =
    let digits : length (decimal number) ≤ 2 = length-decimal-le 2 number (omega arith) (omega (arith, small)) (omega (arith, small)) in
    let last = codes ".Inflow[t], 500 \"m3/step\");\nENDRULE\n" in
    let third = decimal number ++ last in
    let second = decimal number ++ (codes ".Outflow[t] := Min(D" ++ third) in
    let first = decimal number ++ (codes "\":\n  D" ++ second) in
    both (codes "RULE \"D") first 7 68 (literal (codes "RULE \"D") 7 refl)
    (both (decimal number) (codes "\":\n  D" ++ second) 2 66 digits
    (both (codes "\":\n  D") second 6 60 (literal (codes "\":\n  D") 6 refl)
    (both (decimal number) (codes ".Outflow[t] := Min(D" ++ third) 2 58 digits
    (both (codes ".Outflow[t] := Min(D") third 20 38 (literal (codes ".Outflow[t] := Min(D") 20 refl)
    (both (decimal number) last 2 36 digits (literal last 36 refl))))))

rules_length : (count : ℕ) → count ≤ 20 → length (for_each rule_words count) ≤ count * 75
rules_length zero small = omega arith
rules_length (suc before) small =
    let fewer = rules_length before (omega (arith, small)) in
    let one = rule_length (suc before) small in
    let whole = length-append (for_each rule_words before) (rule_words (suc before)) in
    omega (arith, fewer, one, whole)

pub rules_short : length sample_rules ≤ 16777216
unfolding sample_rules
rules_short = let most = rules_length 20 (omega arith) in omega (arith, most)
