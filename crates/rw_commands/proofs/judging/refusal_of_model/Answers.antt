use Rattle.rw_commands.proofs.Common.{BadModel, ap, inr, option_map}
use Rattle.rw_model_toml.specs.Fault.{model_refusal_of}
use Rattle.rw_commands.proofs.CauseLemmas.{tells_why}
use Rattle.rw_commands.proofs.judging.refusal_of_model.Goals as goal

pub returns-in_default : goal.returns-in_default
returns-in_default c =
    let told = tells_why (model_refusal_of c.args.fault) (λ none. c.in_default.not-NoMemory (c.requires.1 none)) in
    inr (told.0, ap (λ why. option_map (λ bad. BadModel bad) why) told.1, c.requires.0 told.0 told.1)
