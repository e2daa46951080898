-- The section of what a run comes to.
use Rattle.rw_commands.proofs.Common.{IsRunText, IsSome, List, Option, false, sym, ℕ, ◌∙◌, ◌≡◌}
use Rattle.rw_base.proofs.Common.{Bool, IsTrue}
use Rattle.rw_base.specs.declared.number.StepNo.{StepNo}
use Rattle.rw_model.proofs.Common.{Draft}
use Rattle.rw_engine.specs.Passing.{ComesTo}
use Rattle.rw_inputs.specs.Inputs.{Inputs}
use Rattle.rw_report.specs.Outcome.{outcome_by, outcome_of}
use Rattle.rw_report.specs.Whole.{whole_of}
use Rattle.rw_run.proofs.Common.{Log, Policy}
use Rattle.rw_run.specs.RunOf.{IsRunOf}
use Rattle.rw_run.specs.declared.run.Run.{Run}
use Rattle.rw_commands.proofs.RulesText.{told_plain}
use Rattle.rw_commands.specs.RunText.{tells_asks}
use Rattle.rw_commands.specs.declared.extras.Extras.{Extras}

pub text_is_run : ((basin : Draft) (batch : ℕ) (log : Log) (run : Run) (reran : Option (List StepNo)) (flags trace : Bool)
    → IsRunOf basin log run → (IsTrue trace → IsSome run.trace)
    → whole_of basin batch (outcome_of run) reran flags trace ≡ whole_of basin batch (outcome_by basin log) reran flags trace)
    → (basin : Draft) (policy : Policy) (extras : Extras) (reran : Option (List StepNo)) (number : ℕ) (inputs : Inputs) (run : Run) (text : List ℕ)
    → ComesTo basin policy inputs run
    → (IsTrue extras.trace → IsSome run.trace) → tells_asks extras ≡ false → text ≡ whole_of basin number (outcome_of run) reran extras.flags extras.trace
    → IsRunText basin policy extras reran number inputs run.end text
text_is_run texts basin policy extras reran number inputs run text comes kept silent is = record {
  log = comes.log;
  run = comes.whole;
  end_is = comes.is.end;
  text_is = is ∙ texts basin number comes.log run reran extras.flags extras.trace comes.is kept
      ∙ sym (told_plain basin policy extras number reran comes.log silent);
}
