use Rattle.std.proofs.Common.{string_bytes}
use Rattle.rw_report.proofs.Growing.{next}
use Rattle.rw_sample.specs.Texts.{rule_words}
use Rattle.rw_sample.proofs.rules.push_rules.Goals as goal

pub loop-before-preserved : goal.loop-before-preserved
loop-before-preserved c =
    next rule_words c.loop-before.before (string_bytes c.args.text.now) (string_bytes c.loop-before.text) (string_bytes c.push_rule.new.text)
    c.loop-before.invariant c.in_ok-push_rule.ensures
