use Rattle.rw_record.proofs.Common.{[], cell_at, held, map, numbers_of, rules, subst, sym, ◌∷◌, ◌≡◌}
use Rattle.std.specs.Prelude.{Err}
use Rattle.rw_record.specs.Noted.{AddsNotes}
use Rattle.rw_record.proofs.Adding.{fails, none_yet, then_all}
use Rattle.rw_record.proofs.noted.Noted.note_new.Goals as goal

pub returns-in_err-note : goal.returns-in_err-note
returns-in_err-note c =
    let cell = c.args.cell in
    let cells = held c.args.series.now in
    let err : c.from_residual.result ≡ Err c.in_err-note.field-0.0 = search rules in
    let rest = map (λ slot. cell_at slot cell.step.0) (numbers_of c.args.group.now) in
    subst (AddsNotes cells (cell ∷ rest) c.args.self.now c.note.new.self) (sym err)
    (fails cells [] (cell ∷ []) c.args.self.now c.args.self.now c.note.new.self (none_yet cells c.args.self.now) rest c.in_err-note.field-0.0
    c.in_err-note.ensures.noted)

pub returns : goal.returns
returns c =
    let cell = c.args.cell in
    then_all (held c.args.series.now) (cell ∷ []) (map (λ slot. cell_at slot cell.step.0) (numbers_of c.args.group.now)) c.args.self.now c.note.new.self
    c.note_slots.new.self
    c.note_slots.result c.in_ok-note.ensures.noted c.note_slots.ensures
