-- The sample's rules are read as its ruleset, which is accepted with its basin.
use Rattle.rw_base.proofs.Common.{◌≡◌, ℕ, zero, suc, ◌+◌, ◌*◌, ◌<◌, ◌==◌, false, true, List, [], ◌∷◌, ◌++◌, length, map, pos, codes, Ok, refl}
use Rattle.rw_base.proofs.Common.{sym, subst, ap, ap₂, ◌∙◌, arith, nat_tests, append-nil, append_assoc, inr, is_ok}
use Rattle.rpl_tree.specs.Tree.{Declared}
use Rattle.rpl_parse.specs.Declarations.{IsDue, IsDueOf, IsReading, Piece, piece, pieces}
use Rattle.rpl_parse.specs.Reading.{read_tree, level, chain, steps, items, climbed}
use Rattle.rpl_parse.specs.ReadingActs.{read_acts, more_acts}
use Rattle.rpl_parse.specs.Scan.{Front, all, bad, front, gap, scan, token, tokens}
use Rattle.rpl_parse.specs.Statements.{IsDeclaration}
use Rattle.rpl_parse.specs.Tokens.{Lined, Tok, digits, lined, text, word}
use Rattle.rpl_parse.proofs.Both.{declared_sound}
use Rattle.rpl_types.specs.Checked.{checked}
use Rattle.rw_report.specs.Section.{for_each}
use Rattle.rw_sample.specs.Texts.{rule_words, sample_rules}
use Rattle.rw_promise.specs.Cascade.{sample_basin, year_of_days}
use Rattle.rw_promise.specs.Ruleset.{release_rule, release_rules, sample_ruleset}
use Rattle.rw_promise.proofs.Judged.{digits_of, drafted, in_digits, same_basin}

abbrev reservoir_name : ℕ → List ℕ
reservoir_name number = codes "D" ++ digits_of number

abbrev rule_text : List ℕ → List ℕ
rule_text name = codes "RULE \"" ++ (name ++ (codes "\":\n  " ++ (name ++ (codes ".Outflow[t] := Min(" ++ (name
    ++ codes ".Inflow[t], 500 \"m3/step\");\nENDRULE\n")))))

abbrev rules_in_digits : ℕ → List ℕ
rules_in_digits zero = []
rules_in_digits (suc before) = rules_in_digits before ++ rule_text (reservoir_name (suc before))

abbrev ruleset_in_digits : ℕ → List Declared
ruleset_in_digits zero = []
ruleset_in_digits (suc before) = ruleset_in_digits before ++ release_rule (reservoir_name (suc before)) ∷ []

same_rules : (count : ℕ) → count < 100 → for_each rule_words count ≡ rules_in_digits count
same_rules zero few = refl
same_rules (suc before) few =
    ap₂ (λ front number. front ++ rule_text (codes "D" ++ number)) (same_rules before (omega (arith, few))) (in_digits (suc before) few)

same_ruleset : (count : ℕ) → count < 100 → release_rules count ≡ ruleset_in_digits count
same_ruleset zero few = refl
same_ruleset (suc before) few =
    ap₂ (λ front number. front ++ release_rule (codes "D" ++ number) ∷ []) (same_ruleset before (omega (arith, few))) (in_digits (suc before) few)

-- ---- tokens

-- the token at the front of some bytes. Marks are not exported, so they are named by what is written for them
abbrev token_in : Front → Tok
token_in (token t n) = t
token_in (gap n) = word []
token_in bad = word []

abbrev sign : List ℕ → Tok
sign bytes = token_in (front bytes)

-- a slot at the timestep of the rule
abbrev slot_tokens : List ℕ → List ℕ → List Tok
slot_tokens name slot = word name ∷ sign (codes ".") ∷ word slot ∷ sign (codes "[") ∷ sign (codes "t") ∷ sign (codes "]") ∷ []

abbrev release_tokens : List ℕ → List Tok
release_tokens name = slot_tokens name (codes "Outflow") ++ (sign (codes ":=") ∷ word (codes "Min") ∷ sign (codes "(")
    ∷ (slot_tokens name (codes "Inflow")
    ++ (sign (codes ",") ∷ digits (pos 500) ∷ text (codes "m3/step") ∷ sign (codes ")") ∷ sign (codes ";") ∷ [])))

abbrev lines_of : List ℕ → ℕ → List Lined
lines_of name line = (lined (sign (codes "RULE")) line ∷ lined (text name) line ∷ lined (sign (codes ":")) line ∷ [])
    ++ (map (λ release. lined release (line + 1)) (release_tokens name) ++ lined (sign (codes "ENDRULE")) (line + 2) ∷ [])

abbrev all_lines_of : ℕ → List Lined
all_lines_of zero = []
all_lines_of (suc before) = all_lines_of before ++ lines_of (reservoir_name (suc before)) (3 * before + 1)

scanned : tokens (rules_in_digits 20) ≡ all (all_lines_of 20)
unfolding scan
scanned = refl

-- ---- declarations

abbrev tokens_of : List ℕ → List Tok
tokens_of name = map (λ (one : Lined). one.tok) (lines_of name 1)

declares : (name : List ℕ) → IsDeclaration (tokens_of name) (release_rule name)
unfolding read_tree level chain steps items climbed read_acts more_acts
declares name = declared_sound (tokens_of name) (release_rule name) refl

abbrev names_to : ℕ → List (List ℕ)
names_to zero = []
names_to (suc before) = names_to before ++ reservoir_name (suc before) ∷ []

abbrev pieces_of : ℕ → List (List ℕ) → List Piece
pieces_of line [] = []
pieces_of line (name ∷ names) = piece (tokens_of name) line ∷ pieces_of (line + 3) names

cut : pieces (all_lines_of 20) ≡ pieces_of 1 (names_to 20)
cut = refl

due : (names : List (List ℕ)) (k rules line : ℕ) (before : List Declared) → rules + length names < 200
    → IsDue k rules 0 before (pieces_of line names) (Ok (before ++ map release_rule names))
due [] k rules line before few = ap Ok (append-nil before)
due (name ∷ names) k rules line before few =
    let room : (rules == 200) ≡ false = grind (arith, nat_tests, few) in
    inr (inr (
      room,
      (
        release_rule name,
        declares name,
        subst (λ read. IsDue (k + 1) (rules + 1) 0 (before ++ release_rule name ∷ [])
            (pieces_of (line + 3) names) (Ok read)) (append_assoc before (release_rule name ∷ []) (map release_rule names))
            (due names (k + 1) (rules + 1) (line + 3) (before ++ release_rule name ∷ []) (omega (arith, few))),
      ),
    ))

in_digits_read : IsReading (rules_in_digits 20) (Ok (ruleset_in_digits 20))
in_digits_read =
    subst (λ found. IsDueOf found (Ok (ruleset_in_digits 20))) (sym scanned)
    (subst (λ cuts. IsDue 1 0 0 [] cuts (Ok (ruleset_in_digits 20))) (sym cut) (due (names_to 20) 1 0 1 [] (omega arith)))

pub rules_read : IsReading sample_rules (Ok sample_ruleset)
unfolding sample_rules sample_ruleset
rules_read =
    subst (λ source. IsReading source (Ok (release_rules 20))) (sym (same_rules 20 (omega arith)))
    (subst (λ rules. IsReading (rules_in_digits 20) (Ok rules)) (sym (same_ruleset 20 (omega arith))) in_digits_read)

-- ---- types

judged : is_ok (checked (drafted year_of_days 20 19 19) (ruleset_in_digits 20)) ≡ true
judged = refl

pub rules_accepted : is_ok (checked sample_basin sample_ruleset) ≡ true
unfolding sample_ruleset
rules_accepted =
    ap₂ (λ basin rules. is_ok (checked basin rules)) same_basin (same_ruleset 20 (omega arith)) ∙ judged
