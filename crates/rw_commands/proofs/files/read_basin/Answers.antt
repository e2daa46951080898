use Rattle.rw_commands.proofs.files.read_basin.Goals as goal

pub returns-in-Ok-judge_model-clause-read : goal.returns-in-Ok-judge_model-clause-read
returns-in-Ok-judge_model-clause-read g c = record {
  model = record { text = c.in-Ok.text.items; read = c.in-Ok.ensures.read; is = rw c.deref.ensures.value at c.in-Ok-judge_model.ensures };
  text_is = c.wanted.ensures;
}
