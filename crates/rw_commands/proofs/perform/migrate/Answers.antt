use Rattle.rw_commands.proofs.Common.{ap, files_seen, option_map}
use Rattle.rw_commands.proofs.MigratedText.{one_migrated}
use Rattle.rw_commands.proofs.perform.migrate.Goals as goal

pub returns : goal.returns
returns c = λ extras.
    one_migrated extras (files_seen c.args.files.now) c.in-Some.text.items _ (ap (option_map (λ bytes. bytes.items)) c.in-Some.is)
    (rw c.deref.ensures.value at c.in_ok-migrated_text.ensures)
