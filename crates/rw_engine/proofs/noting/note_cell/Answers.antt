use Rattle.rw_engine.proofs.Common.{[], held, sym, ◌∷◌}
use Rattle.rw_engine.proofs.Notings.{adds_all, with_none}
use Rattle.rw_engine.proofs.noting.note_cell.Goals as goal

pub returns-in-Some : goal.returns-in-Some
returns-in-Some c =
    rw c.in-Some.is (adds_all (held c.args.series.now) (c.in-Some.cell ∷ []) c.args.noted.now c.note.new.self c.note.result c.note.ensures.noted)

pub returns-in-None : goal.returns-in-None
returns-in-None c = rw c.in-None.is (sym (with_none (held c.args.series.now) c.args.noted.now))
