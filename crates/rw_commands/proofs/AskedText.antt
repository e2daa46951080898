-- The section of a run with what became of each put that was asked for.
use Rattle.rw_commands.proofs.Common.{List, None, Option, Some, false, refl, sym, true, ap, ℕ, ◌++◌, ◌∙◌, ◌≡◌}
use Rattle.rw_base.proofs.Common.{not, Bool, IfSome, IsSome, IsTrue, false≢true, if◌then◌else◌, ◌&&◌}
use Rattle.rw_model.proofs.Common.{Draft}
use Rattle.rw_report.specs.Outcome.{outcome_by, outcome_of}
use Rattle.rw_report.specs.Whole.{whole_of}
use Rattle.rw_run.proofs.Common.{Log, Policy}
use Rattle.rw_run.specs.RunOf.{IsRunOf, trace_of}
use Rattle.rw_run.specs.Trace.{lines_in}
use Rattle.rw_run.specs.declared.run.Run.{Run}
use Rattle.rw_run.specs.declared.trace.TraceEvent.{TraceEvent}
use Rattle.rw_asked.specs.Asked.{asked_trace}
use Rattle.rw_asked.specs.Words.{asked_trace_words}
use Rattle.rw_commands.proofs.RulesText.{TextsOfRuns}
use Rattle.rw_commands.specs.RunText.{asked_section_text, section_text, tells_asks, told_section}
use Rattle.rw_commands.specs.declared.extras.Extras.{Extras}

-- it isn't told where timesteps are reused
pub reused_silent : (asked reuse : Bool) → reuse ≡ true → (asked && not reuse) ≡ false
reused_silent true true is = refl
reused_silent true false is = absurd (false≢true is)
reused_silent false reuse is = refl

pub asks_plain : (asked reuse : Bool) → (asked && not reuse) ≡ true → reuse ≡ false
asks_plain true true is = absurd (false≢true is)
asks_plain true false is = refl
asks_plain false reuse is = absurd (false≢true is)

-- the lines of a trace that is kept
pub kept_lines : (trace : Option (List TraceEvent)) (lines : List TraceEvent) → IsSome trace → IfSome trace (λ told. told ≡ lines) → lines_in trace ≡ lines
kept_lines None lines kept are = absurd cc
kept_lines (Some told) lines kept are = are

pub asked_told : TextsOfRuns → (basin : Draft) (code policy : Policy) (extras : Extras) (number : ℕ) (log : Log) (run : Run) (text : List ℕ)
    → tells_asks extras ≡ true → IsRunOf basin log run → asked_trace basin code log ≡ asked_trace basin policy log
    → text ≡ whole_of basin number (outcome_of run) None extras.flags false ++ asked_trace_words basin (asked_trace basin code log)
    → text ≡ told_section basin policy extras number None log
asked_told texts basin code policy extras number log run text asks isrun same is =
    is
    ∙ ap (λ whole. whole ++ asked_trace_words basin (asked_trace basin code log))
    (texts basin number log run None extras.flags false isrun (λ asked. absurd (false≢true asked)))
    ∙ ap (λ told. whole_of basin number (outcome_by basin log) None extras.flags false ++ asked_trace_words basin told) same
    ∙ sym (ap (λ k. if k then asked_section_text basin policy extras number None log else section_text basin extras number None log) asks)
