-- The text of a run doesn't go by how far ahead rules may put.
use Rattle.rw_base.proofs.Common.{ap, ap₂, Bool, codes, decimal, if◌then◌else◌, length, List, nat_le, None, Option, refl, signed_decimal, Some, ℕ}
use Rattle.rw_base.proofs.Common.{◌&&◌, ◌++◌, ◌∙◌, ◌∷◌, ◌≡◌, []}
use Rattle.rw_base.specs.declared.number.StepNo.{StepNo}
use Rattle.rw_model.specs.Draft.{Draft}
use Rattle.rw_model.specs.Objects.{Placed, all_slots, slot_at}
use Rattle.rw_run.specs.Log.{Log}
use Rattle.rw_run.specs.RunOf.{end_of, last_closed, trace_of}
use Rattle.rw_run.specs.declared.fault.RunFault.{RunFault}
use Rattle.rw_run.specs.declared.fault.RunFault.TheVariants.{Conflict, ObjectLimit, ObjectOutOfRange, RuleLimit, RuleOutOfRange, ZeroDivisor}
use Rattle.rw_run.specs.declared.run.RunEnd.{RunEnd}
use Rattle.rw_run.specs.declared.run.RunEnd.TheVariants.{Fault, Settled}
use Rattle.rw_run.specs.declared.trace.TraceEvent.{TraceEvent}
use Rattle.rw_run.specs.declared.trace.TraceEvent.TheVariants.{Closed, Fire, Idle, Opened, Solve, Written}
use Rattle.rw_run.specs.declared.trace.TraceEvent.TheVariants as Trace
use Rattle.rw_report.specs.Flags.{content_words, flag_row, flag_table}
use Rattle.rw_report.specs.Lines.{line_words, lines_words, trace_words}
use Rattle.rw_report.specs.Outcome.{RunOutcome, outcome_by}
use Rattle.rw_report.specs.Section.{end_words, fault_words, for_each, for_slots, heading, object_words, place_words, placed_words, rows, slot_words}
use Rattle.rw_report.specs.Section.{values_in}
use Rattle.rw_report.specs.Whole.{if_asked, reran_words, run_table, section_top, whole_of}
use Rattle.rw_ahead.proofs.SameRuns.{cells_same}
use Rattle.rw_ahead.specs.Ahead.{ahead_to}

module _ (basin : Draft) (most : ℕ) where
  abbrev far : Draft
  far = ahead_to most basin

  placed_same : (placed : Option Placed) → placed_words far placed ≡ placed_words basin placed
  placed_same None = refl
  placed_same (Some placed) = refl

  pub slot_same : (slot : ℕ) → slot_words far slot ≡ slot_words basin slot
  slot_same slot =
      ap (λ words. if nat_le 1 slot && nat_le slot (length (all_slots basin.objects)) then words else [])
      (placed_same (slot_at basin.objects slot))

  place_same : (what : List ℕ) (object slot step : ℕ) → place_words far what object slot step ≡ place_words basin what object slot step
  place_same what object slot step =
      ap (λ words. what ++ (codes " object " ++ (object_words basin object ++ (codes " slot " ++ (words ++ (codes " step " ++ decimal step))))))
      (slot_same slot)

  fault_same : (fault : RunFault) → fault_words far fault ≡ fault_words basin fault
  fault_same (Conflict object slot step held solved) =
      ap (λ words. words ++ (codes " held " ++ (signed_decimal held ++ (codes " solved " ++ signed_decimal solved))))
      (place_same (codes "conflict") object.0 slot.0 step.0)
  fault_same (ZeroDivisor rule step) = refl
  fault_same (ObjectOutOfRange object slot step value) =
      ap (λ words. words ++ (codes " value " ++ signed_decimal value)) (place_same (codes "out of range") object.0 slot.0 step.0)
  fault_same (RuleOutOfRange rule step value) = refl
  fault_same (ObjectLimit object step count) = refl
  fault_same (RuleLimit rule step count) = refl

  pub end_same : (end : RunEnd) → end_words far end ≡ end_words basin end
  end_same Settled = refl
  end_same (Fault fault) = ap (λ words. codes "fault " ++ words) (fault_same fault)

  pub heading_same : (number : ℕ) (end : RunEnd) → heading far number end ≡ heading basin number end
  heading_same number end = ap (λ words. codes "# batch " ++ (decimal number ++ (codes " " ++ (words ++ codes "\n")))) (end_same end)

  pub names_same : for_slots far (λ slot. codes "," ++ slot_words far slot) ≡ for_slots basin (λ slot. codes "," ++ slot_words basin slot)
  names_same = ap (for_slots basin) (λ i slot. codes "," ++ (slot_same slot) i)

  line_same : (line : TraceEvent) → line_words far line ≡ line_words basin line
  line_same (Opened step) = refl
  line_same (Idle object) = refl
  line_same (Solve object) = refl
  line_same (Fire rule done count) = refl
  line_same (Written slot step content) =
      ap (λ words. (codes "  " ++ (words ++ (codes " " ++ decimal step.0))) ++ (codes " " ++ content_words content)) (slot_same slot.0)
  line_same (Closed step) = refl
  line_same (Trace.Fault fault) = ap (λ words. codes "fault " ++ words) (fault_same fault)

  lines_same : (lines : List TraceEvent) → lines_words far lines ≡ lines_words basin lines
  lines_same [] = refl
  lines_same (line ∷ lines) = ap₂ (λ words rest. (words ++ codes "\n") ++ rest) (line_same line) (lines_same lines)

  section_same : (number : ℕ) (run : RunOutcome) (reran : Option (List StepNo)) (flags trace : Bool)
      → whole_of far number run reran flags trace ≡ whole_of basin number run reran flags trace
  section_same number run reran flags trace =
      ap (λ words. (words ++ reran_words reran) ++ (run_table far run ++ (if_asked flags (flag_table far run.cells run.closed)
      ++ if_asked trace (trace_words far run.lines)))) (heading_same number run.end)
      ∙ ap (λ names. section_top basin number run reran ++ (((codes "step,stamp" ++ (names ++ codes "\n"))
      ++ rows basin (values_in run.cells) run.closed) ++ (if_asked flags (codes "# flags\n" ++ ((codes "step" ++ (names ++ codes "\n"))
      ++ for_each (flag_row basin run.cells) run.closed)) ++ if_asked trace (trace_words far run.lines)))) names_same
      ∙ ap (λ lines. section_top basin number run reran ++ (run_table basin run ++ (if_asked flags (flag_table basin run.cells run.closed)
      ++ if_asked trace (codes "# trace\n" ++ lines)))) (lines_same run.lines)

pub text_same : (basin : Draft) (most number : ℕ) (log : Log) (reran : Option (List StepNo)) (flags trace : Bool)
    → whole_of (ahead_to most basin) number (outcome_by (ahead_to most basin) log) reran flags trace
    ≡ whole_of basin number (outcome_by basin log) reran flags trace
text_same basin most number log reran flags trace =
    ap (λ cells. whole_of (ahead_to most basin) number
    (record { end = end_of log; closed = last_closed log; cells = cells; lines = trace_of log }) reran flags trace) (cells_same basin most log)
    ∙ section_same basin most number (outcome_by basin log) reran flags trace
