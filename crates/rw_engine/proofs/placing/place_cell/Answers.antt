use Rattle.rw_base.proofs.Common.{IfSome}
use Rattle.rw_inputs.specs.Inputs.{IsKeptValue}
use Rattle.rw_engine.proofs.Common.{[], ap, cells_of, if_placed, input_content, last_put, option_or, subst, with_inputs, put-set, sym, ◌∙◌, ◌∷◌}
use Rattle.rw_engine.proofs.Places.{given-bounded}
use Rattle.rw_engine.proofs.placing.place_cell.Goals as goal

pub returns-in-Some-clause-made : goal.returns-in-Some-clause-made
returns-in-Some-clause-made c = record {
  made = c.restore.ensures.made;
  bounded =
      given-bounded c.args.basin.now c.args.cell c.in-Some.value c.args.series.now c.restore.new.self
      (subst (λ value. IfSome value (IsKeptValue c.args.basin.now c.args.cell.slot.0)) c.in-Some.is c.requires.value) c.requires.made.bounded
      c.restore.ensures.cells;
}

pub returns-in-Some-clause-placed : goal.returns-in-Some-clause-placed
returns-in-Some-clause-placed c log cell holds =
    put-set c.args.basin.now (record { cell = c.args.cell; content = input_content c.in-Some.value }) c.args.series.now c.restore.new.self
    c.restore.ensures.cells cell
    ∙ ap (option_or (last_put c.args.basin.now (record { cell = c.args.cell; content = input_content c.in-Some.value } ∷ []) cell)) holds
    ∙ ap (λ given. cells_of c.args.basin.now (with_inputs log (if_placed c.args.cell.slot.0 c.args.cell.step.0 given)) cell) (sym c.in-Some.is)
