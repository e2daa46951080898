use Rattle.std.proofs.Common.{sym, ap, ◌∙◌}
use Rattle.rpl_types.proofs.Heading.{found_type, type_found}
use Rattle.rpl_types.proofs.progress.name_type.Goals as goal

pub returns-in-Some : goal.returns-in-Some
returns-in-Some c = ap type_found c.in-Some.ensures ∙ sym (found_type c.args.progress.now.scope c.args.name.now)

pub returns-in-None : goal.returns-in-None
returns-in-None c = ap type_found c.in-None.ensures ∙ sym (found_type c.args.progress.now.scope c.args.name.now)
