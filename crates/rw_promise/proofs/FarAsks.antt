-- What became of each put doesn't go by how far ahead rules may put.
use Rattle.rw_commands.proofs.Common.{List, None, Option, Some, [], ap, ap₂, refl, sym, ℕ, ℤ, ◌++◌, ◌∙◌, ◌∷◌, ◌≡◌}
use Rattle.rw_base.proofs.Common.{Ok, ◌≤◌}
use Rattle.std.specs.Prelude.{codes, false, if◌then◌else◌, map}
use Rattle.std.specs.Fmt.{decimal}
use Rattle.rw_base.specs.declared.number.StepNo.{StepNo}
use Rattle.rw_model.specs.Draft.{Draft}
use Rattle.rpl_code.specs.declared.block.Block.{Block}
use Rattle.rpl_verify.specs.Verified.{Accepted, verified}
use Rattle.rpl_policy.specs.Policy.{policy_of_code}
use Rattle.rw_run.specs.Log.{Asked, Cells, Event, Firing, Log, cells_of, fired, solved, value_in}
use Rattle.rw_run.specs.Next.{Policy}
use Rattle.rw_run.specs.declared.run.RunEnd.TheVariants as End
use Rattle.rw_run.specs.declared.trace.TraceEvent.{TraceEvent}
use Rattle.rw_run.specs.declared.trace.TraceEvent.TheVariants.{Closed, Fire, Idle, Opened, Solve, Written}
use Rattle.rw_run.specs.declared.trace.TraceEvent.TheVariants as Trace
use Rattle.rw_report.specs.Flags.{content_words}
use Rattle.rw_report.specs.Lines.{line_words}
use Rattle.rw_asked.specs.Asked.{AskedLine, asked_lines, asked_trace, asks_of, fate_of, fates_of, left_line, line_of_event, lines_of_asks, over_line}
use Rattle.rw_asked.specs.Asked.{plain_line, wanted_by, wanted_of}
use Rattle.rw_asked.specs.Words.{asked_line_words, asked_lines_words, asked_trace_words, fate_words, held_words}
use Rattle.rw_migrated.proofs.FarTables.{end_same, slot_same, text_same}
use Rattle.rw_commands.specs.RunText.{asked_section_text}
use Rattle.rw_commands.specs.declared.extras.Extras.{Extras}
use Rattle.rw_ahead.proofs.SameRuns.{cells_same}
use Rattle.rw_ahead.specs.Ahead.{DoTheSame, ahead_to}
use Rattle.rpl_ahead.proofs.Ruled.{accepted_puts}
use Rattle.rpl_ahead.proofs.Same.{fire_same}

module _ (basin : Draft) (most : ℕ) where
  abbrev far : Draft
  far = ahead_to most basin

  fates_same : (cells : Cells) (puts : List Asked) → fates_of far cells puts ≡ fates_of basin cells puts
  fates_same cells [] = refl
  fates_same cells (put ∷ later) =
      ap (λ asks. record { put = put; fate = fate_of basin cells put later } ∷ asks) (fates_same cells later)

  module _ (policy other : Policy) (alike : DoTheSame policy other) where
    wanted_same : (cells : Cells) (firing : Firing) → wanted_by other cells firing ≡ wanted_by policy cells firing
    wanted_same cells firing =
        ap (λ fire. if firing.is_done then wanted_of firing.rule firing.step fire else [])
        (sym (alike.fire firing.rule firing.step (value_in cells)))

    asks_same : (cells : Cells) (event : Event) → asks_of far other cells event ≡ asks_of basin policy cells event
    asks_same cells (solved dispatch) = refl
    asks_same cells (fired firing) =
        fates_same cells (wanted_by other cells firing) ∙ ap (fates_of basin cells) (wanted_same cells firing)
    asks_same cells event = refl

    lines_same : (cells : Cells) (event : Event) → asked_lines far other cells event ≡ asked_lines basin policy cells event
    lines_same cells event = ap (λ asks. map plain_line (line_of_event event) ++ lines_of_asks asks) (asks_same cells event)

    pub trace_same : (log : Log) → asked_trace far other log ≡ asked_trace basin policy log
    trace_same [] = refl
    trace_same (event ∷ log) =
        ap₂ (λ before lines. before ++ lines) (trace_same log)
        (ap (λ cells. asked_lines far other cells event) (cells_same basin most log) ∙ lines_same (cells_of basin log) event)

module _ (basin : Draft) (most : ℕ) where
  line_same : (line : TraceEvent) → line_words (far basin most) line ≡ line_words basin line
  line_same (Opened step) = refl
  line_same (Idle object) = refl
  line_same (Solve object) = refl
  line_same (Fire rule done count) = refl
  line_same (Written slot step content) =
      ap (λ (words : List ℕ). (codes "  " ++ (words ++ (codes " " ++ decimal step.0))) ++ (codes " " ++ content_words content))
      (slot_same basin most slot.0)
  line_same (Closed step) = refl
  line_same (Trace.Fault fault) = end_same basin most (End.Fault fault)

  told_same : (line : AskedLine) → asked_line_words (far basin most) line ≡ asked_line_words basin line
  told_same (plain_line line) = line_same line
  told_same (left_line put fate) =
      ap (λ (words : List ℕ). (codes "  " ++ (fate_words fate ++ ((codes " " ++ (words ++ (codes " " ++ decimal put.cell.step.0)))
      ++ (codes " " ++ content_words put.content)))) ++ held_words fate) (slot_same basin most put.cell.slot.0)
  told_same (over_line cell held) =
      ap (λ (words : List ℕ). codes "  " ++ (codes "over" ++ ((codes " " ++ (words ++ (codes " " ++ decimal cell.step.0)))
      ++ (codes " " ++ content_words held)))) (slot_same basin most cell.slot.0)

  all_told : (lines : List AskedLine) → asked_lines_words (far basin most) lines ≡ asked_lines_words basin lines
  all_told [] = refl
  all_told (line ∷ lines) = ap₂ (λ (words rest : List ℕ). (words ++ codes "\n") ++ rest) (told_same line) (all_told lines)

  words_same : (lines : List AskedLine) → asked_trace_words (far basin most) lines ≡ asked_trace_words basin lines
  words_same lines = ap (λ (words : List ℕ). codes "# trace\n" ++ words) (all_told lines)

pub asks_of_code : (basin : Draft) (most : ℕ) (code : List Block) (policy : Accepted) (log : Log) → basin.control.ahead ≤ most
    → verified basin code ≡ Ok policy
    → asked_trace (ahead_to most basin) (policy_of_code (ahead_to most basin) code) log ≡ asked_trace basin (policy_of_code basin code) log
asks_of_code basin most code policy log more is =
    let puts = accepted_puts basin most code policy more is in
    let same : DoTheSame (policy_of_code basin code) (policy_of_code (ahead_to most basin) code) = record {
      rules = refl;
      fire = λ rule step values. fire_same basin most code rule step values puts more;
    } in
    trace_same basin most (policy_of_code basin code) (policy_of_code (ahead_to most basin) code) same log

pub sections_of_code : (basin : Draft) (most number : ℕ) (code : List Block) (policy : Accepted) (extras : Extras) (reran : Option (List StepNo))
    (log : Log) → basin.control.ahead ≤ most → verified basin code ≡ Ok policy
    → asked_section_text (ahead_to most basin) (policy_of_code (ahead_to most basin) code) extras number reran log
    ≡ asked_section_text basin (policy_of_code basin code) extras number reran log
sections_of_code basin most number code policy extras reran log more is =
    ap₂ (λ (table asks : List ℕ). table ++ asks) (text_same basin most number log reran extras.flags false)
    (words_same basin most (asked_trace (ahead_to most basin) (policy_of_code (ahead_to most basin) code) log)
    ∙ ap (asked_trace_words basin) (asks_of_code basin most code policy log more is))
