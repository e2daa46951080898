use Rattle.rw_engine.proofs.replaying.write_put.Goals as goal

pub make-requires-clause-can : goal.make-requires-clause-can
make-requires-clause-can c = rw c.in-Some.is at c.requires.can
