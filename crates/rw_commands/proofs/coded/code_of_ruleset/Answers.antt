use Rattle.rw_commands.proofs.Common.{ap, subst, ◌∙◌}
use Rattle.rpl_tree.specs.Bounds.{AreLimited}
use Rattle.rpl_tree.specs.Seen.{rules_of}
use Rattle.rpl_tree.specs.declared.rules.ParsedRules.{ParsedRules}
use Rattle.rpl_verify.specs.Verified.{verified}
use Rattle.rw_commands.proofs.coded.code_of_ruleset.Goals as goal

pub returns-clause-fits : goal.returns-clause-fits
returns-clause-fits c = ap (verified c.args.basin.now) c.in_ok-code.ensures.code ∙ c.in_ok-code.ensures.verified

pub returns-clause-runs : goal.returns-clause-runs
returns-clause-runs c =
    let bounded : AreLimited (rules_of c.args.typed.rules) =
    subst (λ (r : ParsedRules). AreLimited (rules_of r)) c.rules-rules.ensures.rules c.rules-rules.ensures.limited in
    c.rules_run.ensures c.args.basin.now (rules_of c.args.typed.rules) c.in_ok-code.code c.requires bounded c.in_ok-code.ensures.code
