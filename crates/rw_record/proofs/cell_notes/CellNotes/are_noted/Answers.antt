use Rattle.rw_record.proofs.Common.{None, [], is_noted, rules, subst, sym, false, true, ◌∙◌, ◌∷◌, ◌≡◌}
use Rattle.rw_base.proofs.Common.{get_or}
use Rattle.std.specs.List.{list_all}
use Rattle.rw_record.specs.Noted.{row_cells}
use Rattle.rw_record.proofs.Rows.{row_ends, row_more, row_sum}
use Rattle.rw_record.proofs.cell_notes.CellNotes.are_noted.Goals as goal

pub returns-then-not-is_number_noted : goal.returns-then-not-is_number_noted
returns-then-not-is_number_noted c =
    let numbers = c.args.numbers.now in
    let at = c.loop-number.number-index in
    let not_it : c.is_number_noted.result ≡ false = search rules in
    sym (row_ends (row_cells c.args.step.0) (row_sum c.args.step.0) (is_noted c.args.self.now) numbers at None c.loop-number-test.true
    (subst (λ these. list_all (is_noted these) (row_cells c.args.step.0 (get_or numbers at None ∷ [])) ≡ false) c.as_slice-items.ensures.noted
    (sym c.is_number_noted.ensures ∙ not_it)))

pub loop-number-preserved : goal.loop-number-preserved
loop-number-preserved c =
    let numbers = c.args.numbers.now in
    let at = c.loop-number.number-index in
    let it : c.is_number_noted.result ≡ true = search rules in
    row_more (row_cells c.args.step.0) (row_sum c.args.step.0) (is_noted c.args.self.now) numbers at None c.loop-number-test.true
    c.loop-number.invariant
    (subst (λ these. list_all (is_noted these) (row_cells c.args.step.0 (get_or numbers at None ∷ [])) ≡ true) c.as_slice-items.ensures.noted
    (sym c.is_number_noted.ensures ∙ it))
