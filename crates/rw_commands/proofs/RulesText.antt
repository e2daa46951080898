-- The run by a policy, from the run by its code, and its section.
use Rattle.rw_commands.proofs.Common.{Declared, IsRunText, List, Err, None, Ok, Option, Result, RunEnd, [], arith, false, refl, subst, sym, ℕ, ℤ, ◌∙◌, ◌≡◌}
use Rattle.rw_base.proofs.Common.{◌≤◌, Bool, IsOk, IsSome, IsTrue, ap, if◌then◌else◌}
use Rattle.rw_base.specs.declared.number.Cell.{Cell}
use Rattle.rw_base.specs.declared.number.StepNo.{StepNo}
use Rattle.rw_engine.specs.Passing.{ComesTo}
use Rattle.rw_report.specs.Outcome.{outcome_by, outcome_of}
use Rattle.rw_report.specs.Whole.{whole_of}
use Rattle.rw_run.specs.RunOf.{IsRunOf}
use Rattle.rw_run.specs.declared.run.Run.{Run}
use Rattle.rw_inputs.specs.Placings.{placings}
use Rattle.rw_inputs.specs.Inputs.{Inputs}
use Rattle.rw_model.proofs.Common.{Draft}
use Rattle.rw_run.proofs.Common.{IsRun, Log, Policy}
use Rattle.rw_run.specs.Next.{no_rules}
use Rattle.rw_run.specs.Policy.{FireAlike}
use Rattle.rpl_code.specs.declared.block.Block.{Block}
use Rattle.rpl_compile.specs.Budgets.{code_budgets_of}
use Rattle.rpl_compile.specs.Translate.{translate}
use Rattle.rpl_policy.specs.Firings.{AreVerified}
use Rattle.rpl_policy.specs.Policy.{policy_of_code}
use Rattle.rpl_rulesets.specs.RulesPolicy.{policy_of_rules}
use Rattle.rpl_types.specs.Judged.{TypeRefusal as NodeRefusal}
use Rattle.rpl_types.specs.Nodes.{Types}
use Rattle.rpl_verify.specs.Budget.{AreAccepted}
use Rattle.rpl_verify.specs.Verified.{Accepted}
use Rattle.rw_commands.specs.Policy.{PolicyFile as Rules, Ruleset, Code}
use Rattle.rw_asked.specs.Asked.{asked_trace}
use Rattle.rw_commands.specs.RunText.{ComesBy, IsCodeOf, IsRerun, IsRulesText, asked_section_text, policy_in_run, section_text, tells_asks, told_section}
use Rattle.rw_commands.specs.Sections.{GivenInputs}
use Rattle.rw_commands.specs.declared.extras.Extras.{Extras}

-- what is accepted has types
pub types_of : (result : Result (List Types) NodeRefusal) → IsOk result → (types : List Types) × (result ≡ Ok types)
types_of (Ok types) is = (types, refl)
types_of (Err why) is = absurd cc

-- where what became of puts isn't told, no policy is asked for it
pub told_plain : (basin : Draft) (policy : Policy) (extras : Extras) (number : ℕ) (reran : Option (List StepNo)) (log : Log) → tells_asks extras ≡ false
    → told_section basin policy extras number reran log ≡ section_text basin extras number reran log
told_plain basin policy extras number reran log none =
    ap (λ k. if k then asked_section_text basin policy extras number reran log else section_text basin extras number reran log) none

-- a run by a policy, as one by another that has it too
by_other : (basin : Draft) (one other : Policy) (extras : Extras) (reran : Option (List StepNo)) (number : ℕ) (inputs : Inputs) (end : RunEnd)
    (text : List ℕ)
    → ((log : Log) → IsRun basin one (placings basin inputs) log → IsRun basin other (placings basin inputs) log) → tells_asks extras ≡ false
    → IsRunText basin one extras reran number inputs end text → IsRunText basin other extras reran number inputs end text
by_other basin one other extras reran number inputs end text has none is = record {
  log = is.log;
  run = has is.log is.run;
  end_is = is.end_is;
  text_is = is.text_is ∙ told_plain basin one extras number reran is.log none ∙ sym (told_plain basin other extras number reran is.log none);
}

-- to do the same goes both ways
pub alike_turned : {one other : Policy} → FireAlike one other → FireAlike other one
alike_turned alike = record {
  rules = sym alike.rules;
  same = λ rule step values is. sym (alike.same rule step values (record { first = is.first; last = subst (λ n. rule ≤ n) (sym alike.rules) is.last }));
}

-- code without blocks lets nothing fire
pub none_alike : (basin : Draft) (blocks : List Block) → blocks ≡ [] → FireAlike (policy_of_code basin blocks) no_rules
none_alike basin blocks none =
    subst (λ bs. FireAlike (policy_of_code basin bs) no_rules) (sym none)
    (record { rules = refl; same = λ rule step values is. absurd (omega (arith, is.first, is.last)) })

pub without_rules : ((basin : Draft) (one other : Policy) (inputs : List (Cell × ℤ)) (log : Log) → FireAlike one other → IsRun basin one inputs log
    → IsRun basin other inputs log)
    → (basin : Draft) (blocks : List Block) (extras : Extras) (reran : Option (List StepNo)) (number : ℕ) (inputs : Inputs) (end : RunEnd)
    (text : List ℕ) → blocks ≡ [] → tells_asks extras ≡ false
    → IsRunText basin (policy_of_code basin blocks) extras reran number inputs end text → IsRunText basin no_rules extras reran number inputs end text
without_rules same_runs basin blocks extras reran number inputs end text none silent is =
    by_other basin (policy_of_code basin blocks) no_rules extras reran number inputs end text
    (λ log run. same_runs basin (policy_of_code basin blocks) no_rules (placings basin inputs) log (none_alike basin blocks none) run) silent is

-- by code
pub by_code : (basin : Draft) (code : Accepted) (inputs : Inputs) (run : Run) → AreAccepted basin code.blocks code.budgets
    → ((log : Log) → IsRun basin (policy_of_code basin code.blocks) (placings basin inputs) log → AreVerified basin code.blocks code.budgets log)
    → ComesTo basin (policy_of_code basin code.blocks) inputs run → ComesBy basin (Code code.blocks code.budgets) inputs run
by_code basin code inputs run accepted firings comes = record {
  log = comes.log;
  whole = comes.whole;
  is = comes.is;
  verified = record { budgets = code.budgets; accepted = accepted; firings = firings comes.log comes.whole };
}

-- by a ruleset
pub by_ruleset : (basin : Draft) (rules : List Declared) (blocks : List Block) (inputs : Inputs) (run : Run)
    → blocks ≡ translate rules → AreAccepted basin (translate rules) (code_budgets_of rules)
    → ((log : Log) → IsRun basin (policy_of_code basin (translate rules)) (placings basin inputs) log
    → IsRun basin (policy_of_rules basin rules) (placings basin inputs) log)
    → ((log : Log) → IsRun basin (policy_of_rules basin rules) (placings basin inputs) log
    → AreVerified basin (translate rules) (code_budgets_of rules) log)
    → ComesTo basin (policy_of_code basin blocks) inputs run → ComesBy basin (Ruleset rules) inputs run
by_ruleset basin rules blocks inputs run same accepted means firings comes =
    let its : ComesTo basin (policy_of_code basin (translate rules)) inputs run =
    subst (λ bs. ComesTo basin (policy_of_code basin bs) inputs run) same comes in
    let whole = means its.log its.whole in
    record {
      log = its.log;
      whole = whole;
      is = its.is;
      verified = record { budgets = code_budgets_of rules; accepted = accepted; firings = firings its.log whole };
    }

-- the code that is compiled of it
pub code_of_ruleset : (basin : Draft) (rules : List Declared) (code : Accepted) → code.blocks ≡ translate rules
    → AreAccepted basin (translate rules) (code_budgets_of rules)
    → ((inputs : Inputs) (log : Log) → IsRun basin (policy_of_code basin (translate rules)) (placings basin inputs) log
    → IsRun basin (policy_of_rules basin rules) (placings basin inputs) log)
    → ((inputs : Inputs) (log : Log) → IsRun basin (policy_of_rules basin rules) (placings basin inputs) log
    → AreVerified basin (translate rules) (code_budgets_of rules) log)
    → ((inputs : Inputs) (log : Log) → IsRun basin (policy_of_code basin (translate rules)) (placings basin inputs) log
    → asked_trace basin (policy_of_code basin (translate rules)) log ≡ asked_trace basin (policy_of_rules basin rules) log)
    → IsCodeOf basin (Ruleset rules) code
code_of_ruleset basin rules code same accepted means firings asks = record {
  comes = λ inputs run'. by_ruleset basin rules code.blocks inputs run' same accepted (means inputs) (firings inputs);
  runs = λ inputs log whole. means inputs log (subst (λ bs. IsRun basin (policy_of_code basin bs) (placings basin inputs) log) same whole);
  asks = λ inputs log whole.
      ap (λ bs. asked_trace basin (policy_of_code basin bs) log) same
      ∙ asks inputs log (subst (λ bs. IsRun basin (policy_of_code basin bs) (placings basin inputs) log) same whole);
}

-- what the law says of the text of a run, by its log
abbrev pub TextsOfRuns : Type 0
TextsOfRuns = (basin : Draft) (batch : ℕ) (log : Log) (run : Run) (reran : Option (List StepNo)) (flags trace : Bool) → IsRunOf basin log run
    → (IsTrue trace → IsSome run.trace) → whole_of basin batch (outcome_of run) reran flags trace
    ≡ whole_of basin batch (outcome_by basin log) reran flags trace

-- what a sheet tells is of its basin
pub of_basin : (own basin : Draft) (number : ℕ) (run : Run) (reran : Option (List StepNo)) (extras : Extras) (text : List ℕ) → own ≡ basin
    → text ≡ whole_of own number (outcome_of run) reran extras.flags extras.trace
    → text ≡ whole_of basin number (outcome_of run) reran extras.flags extras.trace
of_basin own basin number run reran extras text same is = is ∙ ap (λ b. whole_of b number (outcome_of run) reran extras.flags extras.trace) same

-- the section of what the run comes to, with the timesteps that were run again
pub section_by : TextsOfRuns → (basin : Draft) (policy : Rules) (extras : Extras) (reran : Option (List StepNo)) (number : ℕ) (given : GivenInputs)
    (run : Run) (text : List ℕ)
    → (comes : ComesBy basin policy given.inputs run) → (IsTrue extras.trace → IsSome run.trace) → tells_asks extras ≡ false
    → IsRerun basin (policy_in_run basin policy) extras.reuse given comes.log reran
    → text ≡ whole_of basin number (outcome_of run) reran extras.flags extras.trace → IsRulesText basin policy extras number given run.end text
section_by texts basin policy extras reran number given run text comes kept silent again is = record {
  reran = reran;
  run_text = record {
    log = comes.log;
    run = comes.whole;
    end_is = comes.is.end;
    text_is = is ∙ texts basin number comes.log run reran extras.flags extras.trace comes.is kept
        ∙ sym (told_plain basin (policy_in_run basin policy) extras number reran comes.log silent);
  };
  verified = comes.verified;
  rerun = again;
}

-- none are told where timesteps aren't reused
pub untold : (basin : Draft) (policy : Policy) (reuse : Bool) (given : GivenInputs) (log : Log) → reuse ≡ false
    → IsRerun basin policy reuse given log None
untold basin policy reuse given log plain = subst (λ r. IsRerun basin policy r given log None) (sym plain) refl
