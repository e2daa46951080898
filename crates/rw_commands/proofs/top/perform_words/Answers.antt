use Rattle.rw_commands.proofs.Common.{AskNothing, AskForCommand, ap, option_map, refl, sym, ◌∙◌}
use Rattle.rw_words.specs.Command.{command_seen, texts_of}
use Rattle.rw_commands.proofs.PromiseLemmas.{promised_memory, promised_refusal, promised_text, promised_words}
use Rattle.rw_commands.proofs.top.perform_words.Goals as goal

pub returns-in-Ok-None : goal.returns-in-Ok-None
returns-in-Ok-None g c =
    let nothing : AskNothing (texts_of c.args.words.now) = sym c.in-Ok-None.ensures.command ∙ ap (option_map command_seen) c.in-Ok-None.field-0-is in
    promised_words _ (λ path. refl) _ c.status.ensures (record { nothing = nothing; still = refl; told = c.tell_words.ensures })

pub returns-in-Err : goal.returns-in-Err
returns-in-Err g c = promised_memory _ (λ path. refl) _ c.status-in-Err.ensures (record { still = refl; told = c.tell_memory.ensures })

pub returns-in-Ok : goal.returns-in-Ok
returns-in-Ok g c =
    let asked : AskForCommand (texts_of c.args.words.now) (command_seen c.in-Ok-Some.words) =
    sym c.in-Ok-Some.ensures.command ∙ ap (option_map command_seen) c.in-Ok-Some.field-0-is in
    promised_text _ c.in-Ok.ensures.held _
    (record { command = command_seen c.in-Ok-Some.words; asked = asked; text = c.in-Ok.ensures.wrote; silent = refl }) c.in-Ok.ensures.counted

pub returns : goal.returns
returns g c =
    let asked : AskForCommand (texts_of c.args.words.now) (command_seen c.in-Ok-Some.words) =
    sym c.in-Ok-Some.ensures.command ∙ ap (option_map command_seen) c.in-Ok-Some.field-0-is in
    promised_refusal _ c.in-Err-perform.ensures.held c.in-Err-perform.refusal _ c.status-in-Err-perform.ensures
    (record { command = command_seen c.in-Ok-Some.words; asked = asked; cause = c.in-Err-perform.ensures.cause; told = c.tell.ensures })
