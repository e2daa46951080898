-- A policy's text that is accepted is accepted where rules may put further ahead, and has the same run.
use Rattle.rw_base.proofs.Common.{ap, arith, Bool, Err, inl, inr, List, Ok, Result, ℕ, ℤ, ◌≡◌, ◌≤◌}
use Rattle.rw_base.specs.declared.number.Cell.{Cell}
use Rattle.rw_model.specs.Basin.{IsBasin}
use Rattle.rw_model.specs.Draft.{Draft}
use Rattle.rw_run.specs.Log.{Log}
use Rattle.rw_run.specs.Runs.{IsRun}
use Rattle.rpl_code.specs.declared.block.Block.{Block}
use Rattle.rpl_tree.proofs.Common.{Budget, Declared}
use Rattle.rpl_tree.specs.Bounds.{function_count, rule_count}
use Rattle.rpl_types.specs.Judged.{rules_judged}
use Rattle.rpl_types.specs.Nodes.{Types}
use Rattle.rpl_verify.specs.Budget.{ruling}
use Rattle.rpl_verify.specs.Fits.{Refusal}
use Rattle.rpl_verify.specs.Resolved.{resolved_code}
use Rattle.rpl_verify.specs.Verified.{Accepted, verified, with_budgets}
use Rattle.rpl_policy.specs.Policy.{policy_of_code}
use Rattle.rpl_rulesets.specs.RulesPolicy.{policy_of_rules}
use Rattle.rw_commands.specs.Policy.{Code, IsPolicyFileOf, PolicyFile, Ruleset}
use Rattle.rw_commands.specs.RunText.{policy_in_run}
use Rattle.rw_ahead.specs.Ahead.{ahead_to}
use Rattle.rw_promise.proofs.Counted.{few_declared}

-- a valid basin lets rules put at most 30 timesteps ahead
pub within_30 : (basin : Draft) → IsBasin basin → basin.control.ahead ≤ 30
within_30 basin valid = elim valid.whole.control.ahead [
  | inl here ↦ omega (arith, here)
  | inr ahead ↦ omega (arith, ahead)
]

budgets_were : (basin : Draft) (blocks : List Block) (ruled : Result (List Budget) Refusal) (policy : Accepted)
    → with_budgets basin blocks ruled ≡ Ok policy → ruled ≡ Ok policy.budgets
budgets_were basin blocks (Ok budgets) policy is = ap (λ (found : Result Accepted Refusal). budgets_in found) is
  where
    budgets_in : Result Accepted Refusal → Result (List Budget) Refusal
    budgets_in (Ok policy) = Ok policy.budgets
    budgets_in (Err why) = Err why
budgets_were basin blocks (Err why) policy is = absurd (cc)

-- the laws below that are cited
pub record Laws (basin : Draft) : Type 0 where
  pub typed : (rules : List Declared) (types : List Types) → rules_judged basin rules ≡ Ok types → rules_judged (ahead_to 30 basin) rules ≡ Ok types
  pub verifies : (code : List Block) (policy : Accepted) → verified basin code ≡ Ok policy → verified (ahead_to 30 basin) code ≡ Ok policy
  pub by_rules : (rules : List Declared) (types : List Types) (inputs : List (Cell × ℤ)) (log : Log) → rules_judged basin rules ≡ Ok types
      → rule_count rules ≤ 200 → function_count rules ≤ 200 → IsRun basin (policy_of_rules basin rules) inputs log
      → IsRun (ahead_to 30 basin) (policy_of_rules (ahead_to 30 basin) rules) inputs log
  pub by_code : (code : List Block) (policy : Accepted) (inputs : List (Cell × ℤ)) (log : Log) → verified basin code ≡ Ok policy
      → IsRun basin (policy_of_code basin code) inputs log
      → IsRun (ahead_to 30 basin) (policy_of_code (ahead_to 30 basin) code) inputs log

abbrev its_code : Draft → List Block → List Budget → Accepted
its_code basin blocks budgets = record { blocks = blocks; budgets = budgets; resolved = resolved_code basin blocks }

pub policy_stays : (basin : Draft) (text : List ℕ) (as_code : Bool) (policy : PolicyFile) → Laws basin → IsPolicyFileOf as_code basin text policy
    → IsPolicyFileOf as_code (ahead_to 30 basin) text policy
policy_stays basin text as_code (Ruleset rules) laws is =
    (is.0, record { spells = is.1.spells; types = is.1.types; typed = laws.typed rules is.1.types is.1.typed })
policy_stays basin text as_code (Code blocks budgets) laws is =
    let code = its_code basin blocks budgets in
    let there = laws.verifies blocks code (ap (with_budgets basin blocks) is.1.accepted) in
    (is.0, record { spells = is.1.spells; accepted = budgets_were (ahead_to 30 basin) blocks (ruling (ahead_to 30 basin) blocks) code there })

pub run_stays : (basin : Draft) (text : List ℕ) (as_code : Bool) (policy : PolicyFile) (inputs : List (Cell × ℤ)) (log : Log) → Laws basin
    → IsPolicyFileOf as_code basin text policy → IsRun basin (policy_in_run basin policy) inputs log
    → IsRun (ahead_to 30 basin) (policy_in_run (ahead_to 30 basin) policy) inputs log
run_stays basin text as_code (Ruleset rules) inputs log laws is run =
    let few = few_declared text rules is.1.spells in laws.by_rules rules is.1.types inputs log is.1.typed few.rules few.functions run
run_stays basin text as_code (Code blocks budgets) inputs log laws is run =
    laws.by_code blocks (its_code basin blocks budgets) inputs log (ap (with_budgets basin blocks) is.1.accepted) run
