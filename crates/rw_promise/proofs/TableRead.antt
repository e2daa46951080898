-- The model's text is a table of TOML.
use Rattle.std.proofs.Common.{Bool, None, if◌then◌else◌, ◌≡◌, ℕ, ◌<◌, suc, false, List, [], ◌++◌, length, Some, option_map, ap, arith, refl, ◌∙◌}
use Rattle.toml.specs.Tables.{no_nodes, close}
use Rattle.toml.specs.Parse.{lines, parse_document, skip_bom}
use Rattle.toml.proofs.ReadLines.{read_lines}
use Rattle.rw_sample.specs.Texts.{run_words, sample_model}
use Rattle.rw_promise.specs.ModelTable.{cascade_table, sample_table}
use Rattle.rw_promise.proofs.Lines.{model_lines, model_printed, model_text, model_words}
use Rattle.rw_model_toml.specs.Model.{toml_of}
use Rattle.rw_promise.proofs.Ascii.{model_utf8}
use Rattle.rw_promise.proofs.Defined.{model_defines}

from_start : (rest : List ℕ) → parse_document (run_words ++ rest)
    ≡ option_map (λ doc. close doc.0) (lines (suc (length (run_words ++ rest))) (no_nodes, []) (run_words ++ rest))
unfolding parse_document skip_bom
from_start rest = refl

table_read : (reservoirs reaches links : ℕ) → suc reservoirs < 999 → reaches < 999 → suc links < 999
    → parse_document (model_words (suc reservoirs) reaches (suc links)) ≡ Some (cascade_table (suc reservoirs) reaches (suc links))
table_read reservoirs reaches links few_reservoirs few_reaches few_links =
    let text = model_words (suc reservoirs) reaches (suc links) in
    let es = model_lines (suc reservoirs) reaches (suc links) in
    let defines = model_defines reservoirs reaches links in
    from_start _ ∙ ap (option_map (λ doc. close doc.0)) (read_lines false false es text text (no_nodes, []) (suc (length text))
    (model_text (suc reservoirs) reaches (suc links) few_reservoirs few_reaches few_links)
    (model_printed (suc reservoirs) reaches (suc links)) refl (omega arith) ∙ defines.is) ∙ ap Some defines.closed

model_read : parse_document sample_model ≡ Some sample_table
unfolding sample_model sample_table
model_read = table_read 19 19 18 (omega arith) (omega arith) (omega arith)

pub toml_read : toml_of sample_model ≡ Some sample_table
toml_read = ap (λ (valid : Bool). if valid then parse_document sample_model else None) model_utf8 ∙ model_read
