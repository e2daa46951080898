use Rattle.std.proofs.Common.{◌≤◌}
use Rattle.rpl_tree.specs.Bounds.{rule_count}
use Rattle.rpl_tree.specs.Seen.{rules_of}
use Rattle.rpl_types.proofs.typed.Typed.rule_count.Goals as goal

pub rules_in-requires : goal.rules_in-requires
rules_in-requires c = rw c.deref.ensures.value c.self.invariant.0.rules

pub returns-clause-most : goal.returns-clause-most
returns-clause-most c =
    let most : rule_count (rules_of c.self.inside.rules) ≤ 200 = c.self.invariant.0.rules in
    rw (c.rules_in.ensures, c.deref.ensures.value) most
