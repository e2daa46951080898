use Rattle.std.proofs.Common.{sym, ◌∙◌}
use Rattle.rpl_code.proofs.NumbersTried.{never_utf8, never_parsed, never_written}
use Rattle.rpl_code.proofs.numbers.digits_in.Goals as goal

pub returns-in_default-clause-digits : goal.returns-in_default-clause-digits
returns-in_default-clause-digits c = λ n small e. never_utf8 n c.args.word.now small e c.in_default.ensures.cases.0

pub returns-in_default-parse-clause-digits : goal.returns-in_default-parse-clause-digits
returns-in_default-parse-clause-digits c = λ n small e.
    never_parsed n c.in-Ok.digits.now c.in_default-parse.field-0 small (c.in-Ok.ensures.cases.0 ∙ e) c.in_default-parse.ensures.value.0

pub returns-else-spells-clause-digits : goal.returns-else-spells-clause-digits
returns-else-spells-clause-digits c = λ n small e.
    never_written n c.in-Ok-parse.number c.in-Ok.digits.now small (c.in-Ok.ensures.cases.0 ∙ e) c.in-Ok-parse.ensures.value.0
    (sym c.if-spells.ensures)
