use Rattle.rw_engine.proofs.Common.{[], held, sym, ◌++◌}
use Rattle.rw_run.specs.Frame.{cells_looked}
use Rattle.rw_run.specs.Step.{cells_reached}
use Rattle.std.specs.Prelude.{Err}
use Rattle.rw_engine.proofs.Notings.{adds_all, notes_on, notes_stop, with_none}
use Rattle.rw_engine.proofs.noting.note_seen.Goals as goal

pub returns-in_err-note_looks : goal.returns-in_err-note_looks
returns-in_err-note_looks c =
    let cells = held c.args.series.now in
    let looked = cells_looked c.args.looked.now in
    let want = c.in_err-note_looks.field-0.0 in
    notes_stop cells [] looked (looked ++ cells_reached c.args.basin.now c.args.asked.now) c.args.noted.now c.args.noted.now
    c.note_looks.new.self want _
    c.from_residual.result c.from_residual.ensures.1 (sym (with_none cells c.args.noted.now))
    (adds_all cells looked c.args.noted.now c.note_looks.new.self (Err want) c.in_err-note_looks.ensures)

pub returns : goal.returns
returns c =
    let cells = held c.args.series.now in
    let reached = cells_reached c.args.basin.now c.args.asked.now in
    notes_on cells (cells_looked c.args.looked.now) reached c.args.noted.now c.note_looks.new.self c.note_reached.new.self c.note_reached.result
    c.in_ok-note_looks.ensures (adds_all cells reached c.note_looks.new.self c.note_reached.new.self c.note_reached.result c.note_reached.ensures)
