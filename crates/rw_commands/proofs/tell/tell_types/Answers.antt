use Rattle.rw_commands.proofs.tell.tell_types.Goals as goal

pub returns : goal.returns
returns g c = rw c.type_words.ensures at c.tell_place.ensures
