-- Parts of the sample, with their numbers as texts.
use Rattle.rw_base.proofs.Common.{◌≡◌, ◌++◌, List, ℕ, ap, ap₂, arith, codes, decimal, decimal_digit, pos}
use Rattle.rw_sample.specs.Line.{line_with}
use Rattle.rw_sample.specs.Texts.{link_words, reach_words, reservoir_words, rule_words}

three : decimal 3 ≡ codes "3"
three = decimal_digit 3 (omega arith)

four : decimal 4 ≡ codes "4"
four = decimal_digit 4 (omega arith)

abbrev reservoir_with : List ℕ → List ℕ
reservoir_with number = codes "\n[[object]]\nname = \"D" ++ (number ++ codes "\"\nkind = \"reservoir\"\ninitial_storage = 100000\n")

pub reservoir : reservoir_words 3 ≡ reservoir_with (codes "3")
reservoir = ap reservoir_with three

abbrev reach_with : List ℕ → List ℕ
reach_with number = codes "\n[[object]]\nname = \"R" ++ (number ++ codes "\"\nkind = \"reach\"\nlag = 1\nhistory = [100]\n")

pub reach : reach_words 3 ≡ reach_with (codes "3")
reach = ap reach_with three

abbrev link_with : (number next : List ℕ) → List ℕ
link_with number next =
    codes "\n[[link]]\nslots = [\"D" ++ (number ++ (codes ".Outflow\", \"R" ++ (number
    ++ (codes ".Inflow\"]\n\n[[link]]\nslots = [\"R" ++ (number ++ (codes ".Outflow\", \"D" ++ (next
    ++ codes ".Inflow\"]\n")))))))

pub link : link_words 3 ≡ link_with (codes "3") (codes "4")
link = ap₂ link_with three four

abbrev rule_with : List ℕ → List ℕ
rule_with number =
    codes "RULE \"D" ++ (number ++ (codes "\":\n  D" ++ (number ++ (codes ".Outflow[t] := Min(D" ++ (number
    ++ codes ".Inflow[t], 500 \"m3/step\");\nENDRULE\n")))))

pub rule : rule_words 3 ≡ rule_with (codes "3")
rule = ap rule_with three

abbrev line_as : (three four : List ℕ) → List ℕ
line_as three four =
    codes "sample " ++ (three ++ (codes " " ++ (codes "settled" ++ (codes " steps 365 dispatches " ++ (four
    ++ (codes " firings " ++ (three ++ (codes " storage " ++ (four ++ codes "\n")))))))))

pub line : line_with 3 (codes "settled") 4 3 (pos 4) ≡ line_as (codes "3") (codes "4")
line = ap₂ line_as three four
