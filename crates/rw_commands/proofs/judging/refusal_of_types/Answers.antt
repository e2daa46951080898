use Rattle.std.proofs.Common.{inr, refl, ap}
use Rattle.rpl_types.specs.Refused.{type_refusal_of}
use Rattle.rpl_types.specs.Judged.{type_refusal}
use Rattle.rw_commands.specs.Policy.{BadNode, BadRules}
use Rattle.rw_commands.proofs.judging.refusal_of_types.Goals as goal

pub returns-in-Refused : goal.returns-in-Refused
returns-in-Refused c =
    let why =
    type_refusal c.in-Refused.kind c.in-Refused.declaration c.in-Refused.node in
    inr (BadRules (BadNode why), refl, (refl, c.requires why (ap type_refusal_of c.in-Refused.is)))
