use Rattle.rw_record.proofs.Common.{ap, cell_at, cells_with, group_of, held, is_noted, map, numbers_of, subst, sym, true, with_noted, ◌∙◌, ◌∷◌, ◌≡◌}
use Rattle.std.specs.List.{list_all}
use Rattle.rw_record.specs.Noted.{AddsNotes}
use Rattle.rw_record.proofs.Rows.{row_known, with_group}
use Rattle.rw_record.proofs.noted.Noted.note_group.Goals as goal

pub returns-then-are_slots_noted : goal.returns-then-are_slots_noted
returns-then-are_slots_noted c =
    let basin = c.args.basin.now in
    let cell = c.args.cell in
    let items = c.self.inside.notes in
    let cells = held c.args.series.now in
    let all : list_all (is_noted items) (map (λ slot. cell_at slot cell.step.0) (numbers_of c.group-group.result.now)) ≡ true =
    sym c.are_slots_noted.ensures ∙ c.if-are_slots_noted.true in
    let group : list_all (is_noted items) (map (λ slot. cell_at slot cell.step.0) (group_of basin.objects basin.links cell.slot.0)) ≡ true =
    ap (λ slots. list_all (is_noted items) (map (λ slot. cell_at slot cell.step.0) slots)) (sym c.group-group.ensures.group) ∙ all in
    subst (λ view. view ≡ with_noted cells (cells_with basin cell) view) c.self.view_is
    (row_known c.self.inside.kept items cells (cells_with basin cell) (with_group basin cell (is_noted items) c.requires group))

pub returns : goal.returns
returns c =
    let cell = c.args.cell in
    subst (λ slots. AddsNotes (held c.args.series.now) (cell ∷ map (λ slot. cell_at slot cell.step.0) slots) c.args.self.now c.note_new.new.self
    c.note_new.result) c.group-group.ensures.group c.note_new.ensures
