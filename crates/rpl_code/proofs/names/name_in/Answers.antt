use Rattle.std.proofs.Common.{sym}
use Rattle.rw_model.proofs.Plain.{plain_utf8}
use Rattle.rpl_code.proofs.names.name_in.Goals as goal

pub returns-in_default : goal.returns-in_default
returns-in_default c = absurd (c.in_default.ensures.cases.0 (plain_utf8 c.args.word.now (sym c.if-not-is_plain.ensures)))
