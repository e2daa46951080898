use Rattle.rw_base.proofs.Common.{◌≡◌, ◌+◌, Some, arith, sym}
use Rattle.rpl_budget.specs.Seen.{budget_seen}
use Rattle.rpl_tree.specs.Seen.{rules_of}
use Rattle.rpl_types.specs.Checked.{declaration_of_rule, rule_budget}
use Rattle.rpl_types.proofs.Counting.{as_many, budget_of_rule, its_budget, rule_within}
use Rattle.rpl_types.proofs.typed.Typed.cost.Goals as goal

pub index-requires : goal.index-requires
index-requires c =
    let rules = rules_of c.self.inside.rules in
    let found : declaration_of_rule rules c.args.rule.0 ≡ Some (c.in-Some.place + 1) = rw c.deref.ensures.value at (sym c.in-Some.ensures) in
    let within = rule_within rules c.args.rule.0 c.in-Some.place found in
    let many = as_many c.self.inside.costs.items rules c.self.invariant.1 in
    let fits = c.self.inside.costs.ok.0 in
    omega (arith, within, many, fits)

pub returns : goal.returns
returns c =
    let rules = rules_of c.self.inside.rules in
    let found : declaration_of_rule rules c.args.rule.0 ≡ Some (c.in-Some.place + 1) = rw c.deref.ensures.value at (sym c.in-Some.ensures) in
    let within = rule_within rules c.args.rule.0 c.in-Some.place found in
    let its =
    its_budget c.self.inside.costs.items rules c.self.invariant.1 c.in-Some.place c.index.result.now c.index.result.now within c.index.ensures in
    let known : rule_budget rules c.args.rule.0 ≡ Some (budget_seen c.index.result.now) =
    budget_of_rule rules c.args.rule.0 c.in-Some.place (budget_seen c.index.result.now) found its in
    rw (sym c.self.view_is) known
