use Rattle.rpl_compile.proofs.Common.{accepted_code}
use Rattle.rpl_compile.proofs.meaning.rules_fire_alike.Goals as goal

pub returns : goal.returns
returns c basin declared typed rules functions number step values has =
    c.accepted_code_means_its_rule.ensures basin declared (c.typed_is_kinded.ensures basin declared typed) number step values has
    (accepted_code basin declared) (c.compiled_code_is_accepted.ensures basin declared typed rules functions)
