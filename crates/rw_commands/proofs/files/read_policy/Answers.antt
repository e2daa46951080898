use Rattle.rw_commands.proofs.CauseLemmas.{policy_cause}
use Rattle.rw_commands.proofs.Common.{command_said}
use Rattle.rw_commands.proofs.SampleText.{short_policy}
use Rattle.rw_commands.proofs.Findings.{reaches_policy}
use Rattle.rw_commands.proofs.files.read_policy.Goals as goal

pub read_text-requires-clause-reached : goal.read_text-requires-clause-reached
read_text-requires-clause-reached g c = reaches_policy _ _ c.args.basin.now c.requires.model

pub returns-in-Ok-clause-read : goal.returns-in-Ok-clause-read
returns-in-Ok-clause-read g c =
    policy_cause _ _ c.args.basin.now c.in-Ok.text.items c.requires.model c.in-Ok.ensures.read c.in-Err-judge_for.refusal
    (rw c.deref.ensures.value at c.in-Err-judge_for.ensures)

pub judge_for-requires : goal.judge_for-requires
judge_for-requires g c =
    rw c.deref.ensures.value (short_policy (command_said c.args.command.now) (g.S.Shelf.seen c.args.shelf.now).holds c.in-Ok.text.items
    c.in-Ok.ensures.read)
