-- The policy of an accepted ruleset does what that of its code does.
use Rattle.rw_base.proofs.Common.{ℕ, ℤ, List, Option, arith, sym}
use Rattle.rw_base.specs.declared.number.Cell.{Cell}
use Rattle.rw_model.proofs.Common.{Draft}
use Rattle.rw_run.specs.Next.{Policy}
use Rattle.rw_run.specs.Policy.{FireAlike}
use Rattle.rpl_tree.proofs.Common.{Declared}
use Rattle.rpl_compile.specs.Fires.{FiresAlike, HasRule}
use Rattle.rpl_compile.specs.Translate.{predefined_callees, translate}
use Rattle.rpl_compile.proofs.CompiledFits.{rules_counted}
use Rattle.rpl_policy.specs.Policy.{policy_of_code}
use Rattle.rpl_rulesets.specs.RulesPolicy.{policy_of_rules}

pub fire_alike : (basin : Draft) (rules : List Declared)
    → ((number step : ℕ) (values : Cell → Option ℤ) → HasRule rules number → FiresAlike rules basin number step values)
    → FireAlike (policy_of_rules basin rules) (policy_of_code basin (translate rules))
fire_alike basin rules alike = record {
  rules = sym (rules_counted predefined_callees 1 rules);
  same = λ rule step values known. sym (alike rule step values (known.first, known.last));
}

pub alike_back : {one other : Policy} → FireAlike one other → FireAlike other one
alike_back alike = record {
  rules = sym alike.rules;
  same = λ rule step values known. sym (alike.same rule step values (record { first = known.first; last = omega (arith, known.last, alike.rules) }));
}
