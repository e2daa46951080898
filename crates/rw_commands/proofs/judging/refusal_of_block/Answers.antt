use Rattle.std.proofs.Common.{inr, refl, ap}
use Rattle.rpl_verify.proofs.Common.{refusal, misfit_refusal_of}
use Rattle.rw_commands.specs.Policy.{Misfit, BadBlocks}
use Rattle.rw_commands.proofs.judging.refusal_of_block.Goals as goal

pub returns-in-Refused : goal.returns-in-Refused
returns-in-Refused c =
    let why = refusal c.in-Refused.kind c.in-Refused.block c.in-Refused.place in
    inr (BadBlocks (Misfit why), refl, (refl, c.requires why (ap misfit_refusal_of c.in-Refused.is)))
