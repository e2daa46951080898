use Rattle.rw_engine.proofs.Common.{[], ap, filter_map, held, places, sym, ◌++◌, ◌∙◌}
use Rattle.rw_run.specs.Dispatch.{cell_in, if_cell, looked_cells}
use Rattle.rw_run.specs.Step.{cells_reached}
use Rattle.rw_record.specs.Noted.{with_noted}
use Rattle.std.specs.Prelude.{Ok}
use Rattle.rw_engine.proofs.Notings.{adds_all, notes_on, notes_stop, with_none}
use Rattle.rw_engine.proofs.noting.note_all.Goals as goal

pub returns-in_err-note_slots : goal.returns-in_err-note_slots
returns-in_err-note_slots c =
    let cells = held c.args.series.now in
    notes_stop cells [] (filter_map (cell_in c.args.basin.now c.args.object.0 c.args.step.0) places)
    (looked_cells c.args.basin.now c.args.object.0 c.args.step.0 ++ cells_reached c.args.basin.now c.args.asked.now) c.args.noted.now c.args.noted.now
    c.note_slots.new.noted
    c.in_err-note_slots.field-0.0 _ c.from_residual.result c.from_residual.ensures.1 (sym (with_none cells c.args.noted.now))
    c.in_err-note_slots.ensures

pub returns-in_err-note_cell : goal.returns-in_err-note_cell
returns-in_err-note_cell c =
    let cells = held c.args.series.now in
    notes_stop cells (filter_map (cell_in c.args.basin.now c.args.object.0 c.args.step.0) places) (if_cell c.past_cell.result)
    (looked_cells c.args.basin.now c.args.object.0 c.args.step.0 ++ cells_reached c.args.basin.now c.args.asked.now) c.args.noted.now
    c.note_slots.new.noted c.note_cell.new.noted
    c.in_err-note_cell.field-0.0 _ c.from_residual-in_err-note_cell.result c.from_residual-in_err-note_cell.ensures.1 c.in_ok-note_slots.ensures
    c.in_err-note_cell.ensures

pub returns : goal.returns
returns c =
    let cells = held c.args.series.now in
    let slots = filter_map (cell_in c.args.basin.now c.args.object.0 c.args.step.0) places in
    let reached = cells_reached c.args.basin.now c.args.asked.now in
    let looked =
    notes_on cells slots (if_cell c.past_cell.result) c.args.noted.now c.note_slots.new.noted c.note_cell.new.noted (Ok tt)
    c.in_ok-note_slots.ensures c.in_ok-note_cell.ensures
    ∙ ap (λ cell. with_noted cells (slots ++ if_cell cell) c.args.noted.now) c.past_cell.ensures.cell in
    notes_on cells (looked_cells c.args.basin.now c.args.object.0 c.args.step.0) reached c.args.noted.now c.note_cell.new.noted
    c.note_reached.new.self
    c.note_reached.result looked (adds_all cells reached c.note_cell.new.noted c.note_reached.new.self c.note_reached.result c.note_reached.ensures)
