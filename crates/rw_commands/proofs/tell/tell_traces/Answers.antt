use Rattle.rw_commands.proofs.tell.tell_traces.Goals as goal

pub returns : goal.returns
returns g c = rw (c.from.ensures, c.input_words.ensures) at c.tell_place.ensures
