use Rattle.rw_base.proofs.Common.{subst}
use Rattle.rw_commands.specs.Command.{AskForCommand}
use Rattle.rw_promise.proofs.SampleStatus.{answers}
use Rattle.rw_promise.proofs.law.sample_statuses.Goals as goal

pub returns : goal.returns
returns c = λ call status seed command promise asked same.
    let read = c.sample_is_read.ensures in
    let rules = c.rules_are_accepted.ensures in
    let alone = subst (AskForCommand call.words) (c.sample_words.ensures call.words command seed asked same) asked in
    answers read.model read.inputs rules.read rules.types call seed alone status promise
