use Rattle.std.proofs.Common.{ap, refl}
use Rattle.std.specs.Prelude.{option_and_then}
use Rattle.rw_commands.specs.Command.{path_in}
use Rattle.rw_commands.proofs.CauseLemmas.{read_cause}
use Rattle.rw_commands.proofs.files.read_file.Goals as goal

pub returns-in-Err-clause-read : goal.returns-in-Err-clause-read
returns-in-Err-clause-read g c =
    rw c.after.ensures
    (read_cause _ _ c.args.file c.args.path.now c.in-Err.end _ refl (ap (option_and_then path_in) c.requires.named)
    c.requires.reached c.in-Err.ensures.fault (λ is. (c.in-Err.ensures.long is).taken)
    (λ is. (c.in-Err.ensures.long is).longer))
