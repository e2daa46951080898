use Rattle.rw_commands.proofs.tell.tell_block.Goals as goal

pub returns : goal.returns
returns g c = rw c.verify_words.ensures at c.tell_place.ensures
