-- The model's text is that of its lines.
use Rattle.std.proofs.Common.{◌≡◌, ℕ, zero, suc, ◌+◌, ◌<◌, true, false, List, [], ◌∷◌, ◌++◌, ap, sym, refl, arith, ◌∙◌, pos, subst}
use Rattle.std.proofs.Common.{append_assoc, append-nil, codes}
use Rattle.std.proofs.lemmas.Bool.{and_from}
use Rattle.std.specs.List.{list_all}
use Rattle.std.specs.Fmt.{decimal}
use Rattle.toml_writer.specs.Text.{key_text}
use Rattle.toml.specs.Data.{Data, string, integer, array, no_items, item}
use Rattle.toml.specs.Tables.{Expression, key_value, std_table, array_table}
use Rattle.toml.specs.Text.{IsValueText, IsLineText, IsLinesText}
use Rattle.toml.proofs.ReadLines.{AllPrinted}
use Rattle.rw_report.specs.Section.{for_each}
use Rattle.rw_sample.specs.Texts.{run_words, reservoir_words, reach_words, link_words}
use Rattle.rw_promise.proofs.Strings.{is_plain, numbered_plain, plain_text, spelt}

abbrev pub pair : List ℕ → Data → Expression
pair key value = (([], key), key_value value)

abbrev pub header : List ℕ → Expression
header key = (([], key), array_table)

abbrev pub name : List ℕ → ℕ → List ℕ → List ℕ
name letter number tail = letter ++ (decimal number ++ tail)

abbrev pub run_lines : List Expression
run_lines = pair (codes "format") (integer (pos 1)) ∷ (([], codes "run"), std_table) ∷ pair (codes "start") (string (codes "2020-01-01T00:00"))
    ∷ pair (codes "step") (string (codes "24h")) ∷ pair (codes "steps") (integer (pos 365)) ∷ []

abbrev pub reservoir_lines : ℕ → List Expression
reservoir_lines number = header (codes "object")
    ∷ pair (codes "name") (string (codes "D" ++ decimal number)) ∷ pair (codes "kind") (string (codes "reservoir"))
    ∷ pair (codes "initial_storage") (integer (pos 100000)) ∷ []

abbrev pub reach_lines : ℕ → List Expression
reach_lines number = header (codes "object")
    ∷ pair (codes "name") (string (codes "R" ++ decimal number)) ∷ pair (codes "kind") (string (codes "reach"))
    ∷ pair (codes "lag") (integer (pos 1)) ∷ pair (codes "history") (array (item (integer (pos 100)) no_items)) ∷ []

abbrev pub link_lines : List ℕ → ℕ → List ℕ → ℕ → List Expression
link_lines from m to n = header (codes "link")
    ∷ pair (codes "slots") (array (item (string (name from m (codes ".Outflow"))) (item (string (name to n (codes ".Inflow"))) no_items))) ∷ []

-- the text of lines that stand behind others
pub record Lines (es : List Expression) (text : List ℕ) : Type 0 where
  pub lines : IsLinesText false true es text

abbrev Value : Data → List ℕ → Type 0
Value what text = IsValueText false what text

line : (e : Expression) (es : List Expression) (this rest : List ℕ)
    → IsLineText false true e.0 e.1 this → Lines es rest → Lines (e ∷ es) (this ++ rest)
line e es this rest is more = record { lines = (this, rest, refl, is, more.lines) }

none : Lines [] []
none = record { lines = refl }

appended : (es fs : List Expression) (text more : List ℕ) → IsLinesText false true es text → IsLinesText false true fs more
    → IsLinesText false true (es ++ fs) (text ++ more)
appended [] fs text more is behind = subst (λ t. IsLinesText false true fs (t ++ more)) (sym is) behind
appended (e ∷ es) fs text more (this, rest, whole, here, below) behind =
    (this, rest ++ more, ap (λ t. t ++ more) whole ∙ append_assoc this rest more, here, appended es fs rest more below behind)

pub lines_append : (es fs : List Expression) (text more : List ℕ) → Lines es text → Lines fs more → Lines (es ++ fs) (text ++ more)
lines_append es fs text more is behind = record { lines = appended es fs text more is.lines behind.lines }

pair_line : (key v : List ℕ) (what : Data) → key_text key ≡ key → Value what v
    → IsLineText false true ([], key) (key_value what) (key ++ (codes " = " ++ (v ++ 10 ∷ [])))
pair_line key v what bare is = (v, ap (λ t. t ++ (codes " = " ++ (v ++ 10 ∷ []))) (sym bare), is)

quoted_value : (s : List ℕ) → list_all is_plain s ≡ true → Value (string s) (34 ∷ (s ++ 34 ∷ []))
quoted_value s all = sym (plain_text s all)

hundred_thousand : Value (integer (pos 100000)) (codes "100000")
hundred_thousand = (
  sym (spelt (codes "100000") (omega arith, (omega arith, (omega arith, (omega arith, (omega arith, (omega arith, tt))))))
      (omega arith) (λ e. omega (arith, e)) (omega arith)),
  omega arith,
)

hundred : Value (integer (pos 100)) (codes "100")
hundred = (sym (spelt (codes "100") (omega arith, (omega arith, (omega arith, tt))) (omega arith) (λ e. omega (arith, e)) (omega arith)), omega arith)

one : Value (integer (pos 1)) (codes "1")
one = (sym (spelt (codes "1") (omega arith, tt) (omega arith) (λ e. omega (arith, e)) (omega arith)), omega arith)

days : Value (integer (pos 365)) (codes "365")
days = (sym (spelt (codes "365") (omega arith, (omega arith, (omega arith, tt))) (omega arith) (λ e. omega (arith, e)) (omega arith)), omega arith)

flat : (d a b rest : List ℕ) → (((d ++ a) ++ b) ++ rest) ≡ d ++ (a ++ (b ++ rest))
flat d a b rest = append_assoc (d ++ a) b rest ∙ append_assoc d a (b ++ rest)

numbered_alone : (n : ℕ) → n < 1000 → list_all is_plain (decimal n) ≡ true
numbered_alone n small = ap (list_all is_plain) (sym (append-nil (decimal n))) ∙ numbered_plain n [] small refl

-- ---- a reservoir, a reach and two links

pub reservoir_text : (n : ℕ) → n < 1000 → Lines (reservoir_lines n) (reservoir_words n)
unfolding key_text
reservoir_text n small =
    let named = codes "D" ++ decimal n in
    let all =
    line (header (codes "object")) _ (codes "\n[[object]]\n") _ refl
    (line (pair (codes "name") (string named)) _ _ _ (pair_line (codes "name") (34 ∷ (named ++ 34 ∷ [])) (string named) refl
    (quoted_value named (numbered_alone n small)))
    (line (pair (codes "kind") (string (codes "reservoir"))) _ _ _
    (pair_line (codes "kind") (codes "\"reservoir\"") (string (codes "reservoir")) refl (quoted_value (codes "reservoir") refl))
    (line (pair (codes "initial_storage") (integer (pos 100000))) [] _ _
    (pair_line (codes "initial_storage") (codes "100000") (integer (pos 100000)) refl hundred_thousand) none))) in
    let rest = codes "kind = \"reservoir\"\ninitial_storage = 100000\n" in
    subst (Lines (reservoir_lines n)) (ap (λ t. codes "\n[[object]]\nname = \"D" ++ t)
    (flat (decimal n) (34 ∷ []) (10 ∷ []) rest)) all

pub reach_text : (n : ℕ) → n < 1000 → Lines (reach_lines n) (reach_words n)
unfolding key_text
reach_text n small =
    let named = codes "R" ++ decimal n in
    let all =
    line (header (codes "object")) _ (codes "\n[[object]]\n") _ refl
    (line (pair (codes "name") (string named)) _ _ _ (pair_line (codes "name") (34 ∷ (named ++ 34 ∷ [])) (string named) refl
    (quoted_value named (numbered_alone n small)))
    (line (pair (codes "kind") (string (codes "reach"))) _ _ _
    (pair_line (codes "kind") (codes "\"reach\"") (string (codes "reach")) refl (quoted_value (codes "reach") refl))
    (line (pair (codes "lag") (integer (pos 1))) _ _ _ (pair_line (codes "lag") (codes "1") (integer (pos 1)) refl one)
    (line (pair (codes "history") (array (item (integer (pos 100)) no_items))) [] _ _
    (pair_line (codes "history") (codes "[100]") (array (item (integer (pos 100)) no_items)) refl
    (codes "100]", refl, (codes "100", codes "]", refl, hundred, refl))) none)))) in
    let rest = codes "kind = \"reach\"\nlag = 1\nhistory = [100]\n" in
    subst (Lines (reach_lines n)) (ap (λ t. codes "\n[[object]]\nname = \"R" ++ t)
    (flat (decimal n) (34 ∷ []) (10 ∷ []) rest)) all

-- a link of the outflow of one object and the inflow of another
pub link_text : (from to : ℕ) (m n : ℕ) → is_plain from ≡ true → is_plain to ≡ true → m < 1000 → n < 1000
    → Lines (link_lines (from ∷ []) m (to ∷ []) n)
    (codes "\n[[link]]\nslots = [\"" ++ (from ∷ (decimal m ++ (codes ".Outflow\", \"" ++ (to ∷ (decimal n ++ codes ".Inflow\"]\n"))))))
unfolding key_text
link_text from to m n from_plain to_plain small_m small_n =
    let first = name (from ∷ []) m (codes ".Outflow") in
    let second = name (to ∷ []) n (codes ".Inflow") in
    let first_value = quoted_value first (and_from (is_plain from) _ from_plain (numbered_plain m (codes ".Outflow") small_m refl)) in
    let second_value = quoted_value second (and_from (is_plain to) _ to_plain (numbered_plain n (codes ".Inflow") small_n refl)) in
    let second_text = 44 ∷ 32 ∷ ((34 ∷ (second ++ 34 ∷ [])) ++ 93 ∷ []) in
    let items = (34 ∷ (first ++ 34 ∷ [])) ++ second_text in
    let all =
    line (header (codes "link")) _ (codes "\n[[link]]\n") _ refl
    (line (pair (codes "slots") (array (item (string first) (item (string second) no_items)))) [] _ _
    (pair_line (codes "slots") (91 ∷ items) (array (item (string first) (item (string second) no_items))) refl (
      items,
      refl,
      (
        34 ∷ (first ++ 34 ∷ []),
        second_text,
        refl,
        first_value,
        (34 ∷ (second ++ 34 ∷ []), 93 ∷ [], refl, second_value, refl),
      ),
    )) none) in
    let second_flat : (((decimal n ++ codes ".Inflow") ++ 34 ∷ []) ++ 93 ∷ []) ≡ decimal n ++ codes ".Inflow\"]" =
    flat (decimal n) (codes ".Inflow") (34 ∷ []) (93 ∷ []) in
    let whole : ((first ++ 34 ∷ []) ++ second_text) ++ 10 ∷ []
    ≡ from ∷ (decimal m ++ (codes ".Outflow\", \"" ++ (to ∷ (decimal n ++ codes ".Inflow\"]\n")))) =
    ap (λ t. ((first ++ 34 ∷ []) ++ (44 ∷ 32 ∷ 34 ∷ to ∷ t)) ++ 10 ∷ []) second_flat
    ∙ ap (λ t. (from ∷ t) ++ 10 ∷ []) (flat (decimal m) (codes ".Outflow") (34 ∷ []) (44 ∷ 32 ∷ 34 ∷ to ∷ (decimal n ++ codes ".Inflow\"]")))
    ∙ ap (λ t. from ∷ t) (append_assoc (decimal m) (codes ".Outflow\", \"" ++ (to ∷ (decimal n ++ codes ".Inflow\"]"))) (10 ∷ [])
    ∙ ap (λ t. decimal m ++ (codes ".Outflow\", \"" ++ (to ∷ t))) (append_assoc (decimal n) (codes ".Inflow\"]") (10 ∷ []))) in
    subst (Lines (link_lines (from ∷ []) m (to ∷ []) n)) (ap (λ t. codes "\n[[link]]\nslots = [\"" ++ t) (append-nil _ ∙ whole)) all

-- ---- what stands before them, with any lines behind it

pub run_text : (es : List Expression) (text : List ℕ) → Lines es text → IsLinesText false false (run_lines ++ es) (run_words ++ text)
unfolding key_text
run_text es text behind =
    let below =
    line (([], codes "run"), std_table) _ (codes "\n[run]\n") _ refl
    (line (pair (codes "start") (string (codes "2020-01-01T00:00"))) _ _ _
    (pair_line (codes "start") (codes "\"2020-01-01T00:00\"") (string (codes "2020-01-01T00:00")) refl
    (quoted_value (codes "2020-01-01T00:00") refl))
    (line (pair (codes "step") (string (codes "24h"))) _ _ _
    (pair_line (codes "step") (codes "\"24h\"") (string (codes "24h")) refl (quoted_value (codes "24h") refl))
    (line (pair (codes "steps") (integer (pos 365))) es _ text
    (pair_line (codes "steps") (codes "365") (integer (pos 365)) refl days) behind))) in (
      codes "format = 1\n",
      codes "\n[run]\nstart = \"2020-01-01T00:00\"\nstep = \"24h\"\nsteps = 365\n" ++ text,
      refl,
      (codes "1", refl, one),
      below.lines,
    )

-- ---- as many as there are

abbrev pub all_lines : (ℕ → List Expression) → ℕ → List Expression
all_lines each zero = []
all_lines each (suc before) = all_lines each before ++ each (suc before)

all_text : (each : ℕ → List Expression) (words : ℕ → List ℕ) → ((n : ℕ) → n < 999 → Lines (each n) (words n))
    → (count : ℕ) → count < 999 → Lines (all_lines each count) (for_each words count)
all_text each words text zero few = none
all_text each words text (suc before) few =
    lines_append (all_lines each before) (each (suc before)) (for_each words before) (words (suc before))
    (all_text each words text before (omega (arith, few))) (text (suc before) few)

abbrev pub both_links : ℕ → List Expression
both_links n = link_lines (codes "D") n (codes "R") n ++ link_lines (codes "R") n (codes "D") (n + 1)

both_text : (n : ℕ) → n < 999 → Lines (both_links n) (link_words n)
both_text n small =
    let out = codes ".Inflow\"]\n" in
    let second = codes "\n[[link]]\nslots = [\"R" ++ (decimal n ++ (codes ".Outflow\", \"D" ++ (decimal (n + 1) ++ out))) in
    subst (Lines (both_links n)) (ap (λ t. codes "\n[[link]]\nslots = [\"D" ++ t)
    (append_assoc (decimal n) (codes ".Outflow\", \"R" ++ (decimal n ++ out)) second
    ∙ ap (λ t. decimal n ++ (codes ".Outflow\", \"R" ++ t)) (append_assoc (decimal n) out second)))
    (lines_append (link_lines (codes "D") n (codes "R") n) (link_lines (codes "R") n (codes "D") (n + 1))
    (codes "\n[[link]]\nslots = [\"D" ++ (decimal n ++ (codes ".Outflow\", \"R" ++ (decimal n ++ out)))) second
    (link_text 68 82 n n refl refl (omega (arith, small)) (omega (arith, small)))
    (link_text 82 68 n (n + 1) refl refl (omega (arith, small)) (omega (arith, small))))

-- all lines of a model of so many reservoirs, reaches and pairs of links
abbrev pub model_lines : ℕ → ℕ → ℕ → List Expression
model_lines reservoirs reaches links =
    run_lines ++ (all_lines reservoir_lines reservoirs ++ (all_lines reach_lines reaches ++ all_lines both_links links))

abbrev pub model_words : ℕ → ℕ → ℕ → List ℕ
model_words reservoirs reaches links =
    run_words ++ (for_each reservoir_words reservoirs ++ (for_each reach_words reaches ++ for_each link_words links))

pub model_text : (reservoirs reaches links : ℕ) → reservoirs < 999 → reaches < 999 → links < 999
    → IsLinesText false false (model_lines reservoirs reaches links) (model_words reservoirs reaches links)
model_text reservoirs reaches links few_reservoirs few_reaches few_links =
    run_text _ _ (lines_append (all_lines reservoir_lines reservoirs) _ (for_each reservoir_words reservoirs) _
    (all_text reservoir_lines reservoir_words (λ n small. reservoir_text n (omega (arith, small))) reservoirs few_reservoirs)
    (lines_append (all_lines reach_lines reaches) (all_lines both_links links) (for_each reach_words reaches) (for_each link_words links)
    (all_text reach_lines reach_words (λ n small. reach_text n (omega (arith, small))) reaches few_reaches)
    (all_text both_links link_words both_text links few_links)))

-- ---- each is of the kind that is read

printed_append : (es fs : List Expression) → AllPrinted es → AllPrinted fs → AllPrinted (es ++ fs)
printed_append [] fs is behind = behind
printed_append (e ∷ es) fs is behind = (is.0, printed_append es fs is.1 behind)

printed_all : (each : ℕ → List Expression) → ((n : ℕ) → AllPrinted (each n)) → (count : ℕ) → AllPrinted (all_lines each count)
printed_all each is zero = tt
printed_all each is (suc before) = printed_append (all_lines each before) (each (suc before)) (printed_all each is before) (is (suc before))

link_printed : (from to : List ℕ) (m n : ℕ) → AllPrinted (link_lines from m to n)
link_printed from to m n = (omega arith, ((refl, omega arith, refl), tt))

pub model_printed : (reservoirs reaches links : ℕ) → AllPrinted (model_lines reservoirs reaches links)
model_printed reservoirs reaches links =
    printed_append run_lines _
    ((refl, omega arith, refl), (omega arith, ((refl, omega arith, refl), ((refl, omega arith, refl), ((refl, omega arith, refl), tt)))))
    (printed_append (all_lines reservoir_lines reservoirs) _
    (printed_all reservoir_lines
    (λ n. (omega arith, ((refl, omega arith, refl), ((refl, omega arith, refl), ((refl, omega arith, refl), tt))))) reservoirs)
    (printed_append (all_lines reach_lines reaches) (all_lines both_links links)
    (printed_all reach_lines
    (λ n. (
      omega arith,
      (
        (refl, omega arith, refl),
        (
          (refl, omega arith, refl),
          (
            (refl, omega arith, refl),
            ((refl, omega arith, refl), tt),
          ),
        ),
      ),
    )) reaches)
    (printed_all both_links (λ n. printed_append (link_lines (codes "D") n (codes "R") n) (link_lines (codes "R") n (codes "D") (n + 1))
    (link_printed (codes "D") (codes "R") n n) (link_printed (codes "R") (codes "D") n (n + 1))) links)))
