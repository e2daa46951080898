-- The text of a run.
use Rattle.std.specs.Prelude.{◌≡◌, ◌+◌, ℕ, Bool, true, false, List, length, IsSomeAnd, Option, Some, None, Ok, ◌++◌, ◌&&◌, not, if◌then◌else◌}
use Rattle.rw_base.specs.declared.number.StepNo.{StepNo}
use Rattle.rw_run.specs.Reuse.{AreOpened, AreRerun}
use Rattle.rw_rerun.specs.Session.{numbers_of_steps}
use Rattle.rw_rules.specs.Rules.{policy_in}
use Rattle.rw_engine.specs.Passing.{ComesTo}
use Rattle.rw_inputs.specs.Edits.{Batch}
use Rattle.rw_io.specs.Outside.{Change}
use Rattle.rpl_verify.specs.Verified.{Accepted}
use Rattle.rw_commands.specs.Sections.{CountsAll, GivenInputs, first_given}
use Rattle.rw_commands.specs.declared.extras.Extras.{Extras}
use Rattle.rw_words.specs.declared.order.Order.{Order}
use Rattle.rw_words.specs.declared.order.Order.TheVariants.{Oldest, Newest}
use Rattle.rw_dispatch.specs.Pick.{IsPickedRun, newest}
use Rattle.rw_model.specs.Draft.{Draft}
use Rattle.rw_inputs.specs.Inputs.{Inputs}
use Rattle.rw_inputs.specs.Placings.{placings}
use Rattle.rw_run.specs.declared.run.Run.{Run}
use Rattle.rw_run.specs.declared.run.RunEnd.{RunEnd}
use Rattle.rw_run.specs.Log.{Log}
use Rattle.rw_run.specs.Next.{Policy, no_rules}
use Rattle.rw_run.specs.Runs.{IsRun}
use Rattle.rw_run.specs.RunOf.{IsRunOf, end_of}
use Rattle.rw_report.specs.Outcome.{outcome_by}
use Rattle.rw_base.specs.declared.number.Cell.{Cell}
use Rattle.rw_report.specs.Whole.{whole_of}
use Rattle.rw_asked.specs.Asked.{asked_trace}
use Rattle.rw_asked.specs.Words.{asked_trace_words}
use Rattle.rw_report.specs.Why.{why_of}
use Rattle.rw_books.specs.Text.{balance_of_run}
use Rattle.rpl_tree.specs.Budget.{Budget}
use Rattle.rpl_verify.specs.Budget.{AreAccepted}
use Rattle.rpl_policy.specs.Firings.{AreVerified}
use Rattle.rpl_policy.specs.Policy.{policy_of_code}
use Rattle.rpl_rulesets.specs.RulesPolicy.{policy_of_rules}
use Rattle.rw_model_toml.specs.Model.{model_of}
use Rattle.rw_inputs.specs.Reading.{Reads}
use Rattle.rpl_tree.specs.Tree.{Declared}
use Rattle.rw_sample.specs.Line.{sample_line}
use Rattle.rw_sample.specs.Texts.{sample_inputs, sample_model, sample_rules}
use Rattle.rw_commands.specs.Policy.{IsRulesetOf, PolicyFile as Rules, Ruleset, Code, code_in_file}

-- nothing but the table
abbrev pub no_extras : Extras
no_extras = record { flags = false; trace = false; asked = false; reuse = false; order = Oldest }

-- the section of a log, with this number and the timesteps that were run again, where they are told, and with flags and trace where they
-- are asked for
abbrev pub section_text : Draft → Extras → ℕ → Option (List StepNo) → Log → List ℕ
section_text basin extras number reran log = whole_of basin number (outcome_by basin log) reran extras.flags extras.trace

-- the same, where the trace tells what became of each put that was asked for
abbrev pub asked_section_text : Draft → Policy → Extras → ℕ → Option (List StepNo) → Log → List ℕ
asked_section_text basin policy extras number reran log =
    whole_of basin number (outcome_by basin log) reran extras.flags false ++ asked_trace_words basin (asked_trace basin policy log)

-- that is told where it is asked for. Words that ask for it where timesteps are reused, or for no trace, are refused
abbrev pub tells_asks : Extras → Bool
tells_asks extras = extras.asked && not extras.reuse

abbrev pub told_section : Draft → Policy → Extras → ℕ → Option (List StepNo) → Log → List ℕ
told_section basin policy extras number reran log =
    if tells_asks extras then asked_section_text basin policy extras number reran log else section_text basin extras number reran log

-- the section of this number, of the run of a basin by a policy from inputs, and how the run ends
pub record IsRunText (basin : Draft) (policy : Policy) (extras : Extras) (reran : Option (List StepNo)) (number : ℕ) (inputs : Inputs) (end : RunEnd) (text : List ℕ) : Type 0 where
  pub log : Log
  pub run : IsRun basin policy (placings basin inputs) log
  pub end_is : end ≡ end_of log
  pub text_is : text ≡ told_section basin policy extras number reran log

-- the section of the run without rules in which the object is dispatched that has waited shortest
pub record IsNewestText (basin : Draft) (extras : Extras) (number : ℕ) (inputs : Inputs) (end : RunEnd) (text : List ℕ) : Type 0 where
  pub log : Log
  pub run : IsPickedRun basin no_rules newest (placings basin inputs) log
  pub end_is : end ≡ end_of log
  pub text_is : text ≡ told_section basin no_rules extras number None log

-- the section of the run without rules, in this order of dispatches
abbrev pub IsSimulated : Order → Draft → Extras → ℕ → Inputs → RunEnd → List ℕ → Type 0
IsSimulated Oldest basin extras number inputs end text = IsRunText basin no_rules extras None number inputs end text
IsSimulated Newest basin extras number inputs end text = IsNewestText basin extras number inputs end text

abbrev pub IsPlainText : Draft → Extras → ℕ → GivenInputs → RunEnd → List ℕ → Type 0
IsPlainText basin extras number given end text = IsSimulated extras.order basin extras number given.inputs end text

-- how a cell came to what it holds in that run, and how the run ends
pub record IsWhyText (basin : Draft) (policy : Policy) (inputs : Inputs) (cell : Cell) (end : RunEnd) (text : List ℕ) : Type 0 where
  pub log : Log
  pub run : IsRun basin policy (placings basin inputs) log
  pub end_is : end ≡ end_of log
  pub text_is : text ≡ why_of basin inputs (outcome_by basin log) cell

-- the books of water of that run, and how it ends
pub record IsBalanceText (basin : Draft) (policy : Policy) (inputs : Inputs) (end : RunEnd) (text : List ℕ) : Type 0 where
  pub log : Log
  pub run : IsRun basin policy (placings basin inputs) log
  pub end_is : end ≡ end_of log
  pub text_is : text ≡ balance_of_run basin (outcome_by basin log)

-- ---- by the policy of a file

-- its policy in a run: what its rules mean, or what its code does
abbrev pub policy_in_run : Draft → Rules → Policy
policy_in_run basin (Ruleset rules) = policy_of_rules basin rules
policy_in_run basin (Code blocks budgets) = policy_of_code basin blocks

-- its code is accepted, and each firing in the log is the machine's on that code, never stuck and within its budget
pub record IsVerifiedRun (basin : Draft) (policy : Rules) (log : Log) : Type 0 where
  pub budgets : List Budget
  pub accepted : AreAccepted basin (code_in_file policy) budgets
  pub firings : AreVerified basin (code_in_file policy) budgets log

-- the run comes to what the run by it does, in which each firing is verified
pub record ComesBy (basin : Draft) (policy : Rules) (inputs : Inputs) (run : Run) : Type 0 where
  pub log : Log
  pub whole : IsRun basin (policy_in_run basin policy) (placings basin inputs) log
  pub is : IsRunOf basin log run
  pub verified : IsVerifiedRun basin policy log

-- the runs of the code are those by it, in which each firing is verified, and they ask for the same
pub record IsCodeOf (basin : Draft) (policy : Rules) (code : Accepted) : Type 0 where
  pub comes : (inputs : Inputs) (run : Run) → ComesTo basin (policy_in basin code) inputs run → ComesBy basin policy inputs run
  pub runs : (inputs : Inputs) (log : Log) → IsRun basin (policy_in basin code) (placings basin inputs) log
      → IsRun basin (policy_in_run basin policy) (placings basin inputs) log
  pub asks : (inputs : Inputs) (log : Log) → IsRun basin (policy_in basin code) (placings basin inputs) log
      → asked_trace basin (policy_in basin code) log ≡ asked_trace basin (policy_in_run basin policy) log

-- the timesteps that are told of a run: none, or, where timesteps are to be reused and there was a run before it, those that aren't
abbrev pub IsRerun : Draft → Policy → (reuse : Bool) → GivenInputs → Log → Option (List StepNo) → Type 0
IsRerun basin policy false given log reran = reran ≡ None
IsRerun basin policy true given log None = given.before ≡ None
IsRerun basin policy true given log (Some steps) =
    IsSomeAnd given.before (λ before. (earlier : Log) × IsRun basin policy (placings basin before) earlier × AreRerun basin earlier log (numbers_of_steps steps))

-- the section of the run by it, in which each firing is verified
pub record IsRulesText (basin : Draft) (policy : Rules) (extras : Extras) (number : ℕ) (given : GivenInputs) (end : RunEnd) (text : List ℕ) : Type 0 where
  pub reran : Option (List StepNo)
  pub run_text : IsRunText basin (policy_in_run basin policy) extras reran number given.inputs end text
  pub verified : IsVerifiedRun basin policy run_text.log
  pub rerun : IsRerun basin (policy_in_run basin policy) extras.reuse given run_text.log reran

-- where timesteps are reused so many are run: those that the run opened, or, after another run, those that aren't reused
abbrev pub CountsOf : Draft → Policy → Option Inputs → Log → ℕ → Type 0
CountsOf basin policy None log count = (steps : List ℕ) × AreOpened log steps × (count ≡ length steps)
CountsOf basin policy (Some before) log count =
    (earlier : Log) × (steps : List ℕ) × IsRun basin policy (placings basin before) earlier × AreRerun basin earlier log steps × (count ≡ length steps)

abbrev pub CountsRun : Draft → Policy → GivenInputs → ℕ → Type 0
CountsRun basin policy given count = (log : Log) × IsRun basin policy (placings basin given.inputs) log × CountsOf basin policy given.before log count

-- and so many were counted for all sections
abbrev pub CountsSections : Draft → Rules → Inputs → List Batch → Change ℕ → Type 0
CountsSections basin policy inputs batches steps =
    (count : ℕ) × (steps.after ≡ steps.before + count) × CountsAll (CountsRun basin (policy_in_run basin policy)) (first_given inputs) batches count

-- how a cell came to what it holds in the run by it, in which each firing is verified
pub record IsWhyOfRules (basin : Draft) (policy : Rules) (inputs : Inputs) (cell : Cell) (end : RunEnd) (text : List ℕ) : Type 0 where
  pub run_text : IsWhyText basin (policy_in_run basin policy) inputs cell end text
  pub verified : IsVerifiedRun basin policy run_text.log

-- the books of the run by it, in which each firing is verified
pub record IsBalanceOfRules (basin : Draft) (policy : Rules) (inputs : Inputs) (end : RunEnd) (text : List ℕ) : Type 0 where
  pub run_text : IsBalanceText basin (policy_in_run basin policy) inputs end text
  pub verified : IsVerifiedRun basin policy run_text.log

-- ---- the sample

-- the line on the run of this basin by this policy from these inputs, in which each firing is verified
pub record IsSampleText (basin : Draft) (policy : Rules) (inputs : Inputs) (seed : ℕ) (text : List ℕ) : Type 0 where
  pub log : Log
  pub run : IsRun basin (policy_in_run basin policy) (placings basin inputs) log
  pub verified : IsVerifiedRun basin policy log
  pub text_is : text ≡ sample_line basin seed (outcome_by basin log)

-- the line of a seed: that on the run of the basin that the text of the model gives, by the ruleset that the text of the rules
-- spells, from the inputs that the text of the seed gives
pub record IsSampleOf (seed : ℕ) (text : List ℕ) : Type 0 where
  pub basin : Draft
  pub model : model_of sample_model ≡ Ok basin
  pub rules : List Declared
  pub spelt : IsRulesetOf basin sample_rules rules
  pub inputs : Inputs
  pub given : Reads basin (sample_inputs seed) inputs
  pub line : IsSampleText basin (Ruleset rules) inputs seed text
