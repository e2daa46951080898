use Rattle.rw_record.proofs.Common.{None, Option, Some, get_or_default, held, is_noted, refl, rules, slice_index_or, sym, true, [], ℕ, ◌∙◌, ◌∷◌, ◌≡◌}
use Rattle.std.specs.List.{list_all}
use Rattle.std.specs.Prelude.{Err}
use Rattle.rw_record.specs.Noted.{row_cells}
use Rattle.rw_record.proofs.Adding.{stopped, turned}
use Rattle.rw_record.proofs.Rows.{row_known, row_sum}
use Rattle.rw_record.proofs.cell_notes.CellNotes.add_row.Goals as goal

pub returns-then-are_noted : goal.returns-then-are_noted
returns-then-are_noted c =
    let rows = row_cells c.args.step.0 c.args.numbers.now in
    let all : list_all (is_noted c.args.self.now) rows ≡ true = sym c.are_noted.ensures ∙ c.if-are_noted.true in
    row_known true c.args.self.now (held c.args.series.now) rows all

pub returns-in_err-add_number : goal.returns-in_err-add_number
returns-in_err-add_number c =
    let step = c.args.step.0 in
    let none : Option ℕ = None in
    let at = c.loop-number.number-index in
    let number : Option ℕ = slice_index_or c.args.numbers.now at none in
    let err : c.from_residual.result ≡ Err c.in_err-add_number.field-0.0 = search rules in
    stopped (row_cells step) (row_sum step) (held c.args.series.now) c.args.numbers.now at number c.loop-number-test.true
    (get_or_default c.args.numbers.now at none number c.loop-number-test.true) (row_cells step (number ∷ [])) refl
    (Some c.args.self.now) (Some c.loop-number.self) (Some c.add_number.new.self) c.loop-number.invariant
    c.from_residual.result c.in_err-add_number.field-0.0 err c.in_err-add_number.ensures

pub loop-number-preserved : goal.loop-number-preserved
loop-number-preserved c =
    let step = c.args.step.0 in
    let none : Option ℕ = None in
    let at = c.loop-number.number-index in
    let number : Option ℕ = slice_index_or c.args.numbers.now at none in
    turned (row_cells step) (row_sum step) (held c.args.series.now) c.args.numbers.now at number c.loop-number-test.true
    (get_or_default c.args.numbers.now at none number c.loop-number-test.true) (row_cells step (number ∷ [])) refl
    (Some c.args.self.now) (Some c.loop-number.self) (Some c.add_number.new.self) c.loop-number.invariant c.in_ok-add_number.ensures
