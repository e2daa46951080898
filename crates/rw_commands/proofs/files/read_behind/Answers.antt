use Rattle.rw_commands.proofs.CauseLemmas.{cause_earlier, none_fell}
use Rattle.rw_commands.proofs.FilesRead.{inputs_reached}
use Rattle.rw_commands.proofs.files.read_behind.Goals as goal

pub read_given-requires-clause-reached : goal.read_given-requires-clause-reached
read_given-requires-clause-reached g c =
    inputs_reached _ _ _ c.in-Ok.ensures.held c.args.basin.now c.in-Ok.policy c.requires.model c.in-Ok.ensures.read

pub returns-in-Err-read_given-clause-read : goal.returns-in-Err-read_given-clause-read
returns-in-Err-read_given-clause-read g c =
    cause_earlier _ _ _ _ c.in-Err-read_given.refusal c.in-Ok.ensures.held c.in-Ok.ensures.later c.in-Err-read_given.ensures.read

pub returns-in-Ok-read_given-clause-later : goal.returns-in-Ok-read_given-clause-later
returns-in-Ok-read_given-clause-later g c = none_fell c.in-Ok.ensures.later c.in-Ok-read_given.ensures.later

pub returns-in-Err-read_given-clause-later : goal.returns-in-Err-read_given-clause-later
returns-in-Err-read_given-clause-later g c = none_fell c.in-Ok.ensures.later c.in-Err-read_given.ensures.later
