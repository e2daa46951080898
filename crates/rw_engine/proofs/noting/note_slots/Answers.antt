use Rattle.rw_engine.proofs.Common.{ap, filter_map, held, places, subst, ◌∙◌, ◌≡◌}
use Rattle.rw_run.specs.Dispatch.{cell_in}
use Rattle.rw_record.specs.Noted.{AddsNotes, row_cells}
use Rattle.rw_record.proofs.Rows.{row_is}
use Rattle.rw_engine.proofs.Notings.{adds_all}
use Rattle.rw_engine.proofs.noting.note_slots.Goals as goal

pub returns : goal.returns
returns c =
    let cells = held c.args.series.now in
    let step = c.args.step.0 in
    let all = filter_map (cell_in c.args.basin.now c.args.object.0 step) places in
    let same : row_cells step c.row.result.now ≡ all = ap (row_cells step) c.row.ensures ∙ row_is c.args.basin.now c.args.object.0 step in
    adds_all cells all c.args.noted.now c.note_row.new.self c.note_row.result
    (subst (λ them. AddsNotes cells them c.args.noted.now c.note_row.new.self c.note_row.result) same c.note_row.ensures)
