use Rattle.rw_engine.proofs.Common.{List, Option, ap, arith, held, if_placed, length, refl, rules, subst, sym, ℕ, ℤ, ◌+◌, ◌∙◌, ◌≡◌, ◌≤◌}
use Rattle.rw_inputs.specs.Column.{Column, value_in_column}
use Rattle.rw_inputs.specs.Inputs.{slot_column}
use Rattle.rw_engine.specs.Placed.{PlacesAtSteps, if_in_block, placing_at}
use Rattle.rw_engine.proofs.Places.{given-kept, no_steps, none-given, step-more}
use Rattle.rw_engine.proofs.placing.place_slot.Goals as goal

pub loop-before-init : goal.loop-before-init
loop-before-init c = record {
  made = c.requires.made;
  order = omega arith;
  placed_so_far = no_steps c.args.basin.now (placing_at c.args.inputs.now c.args.slot.0) c.args.first (held c.args.series.now);
}

-- what is read of the column is what is given at that timestep
value-read : (columns : List Column) (slot step : ℕ) (column : Column) (value : Option ℤ) → column ≡ slot_column columns slot
    → value ≡ value_in_column column step → value ≡ value_in_column (slot_column columns slot) step
value-read columns slot step column value of_slot is = is ∙ ap (λ column. value_in_column column step) of_slot

pub place_cell-requires-clause-value : goal.place_cell-requires-clause-value
place_cell-requires-clause-value c =
    given-kept c.args.basin.now c.args.inputs.now c.args.slot.0 _ c.value_in.result c.requires.inputs
    (sym (value-read c.args.inputs.now.columns c.args.slot.0 _ c.column-column.result.now c.value_in.result c.column-column.ensures c.value_in.ensures))

pub loop-before-preserved : goal.loop-before-preserved
loop-before-preserved c = record {
  made = c.place_cell.ensures.made;
  order = omega (arith, c.loop-before.invariant.order);
  placed_so_far =
      step-more c.args.basin.now c.args.inputs.now c.args.slot.0 c.args.first c.loop-before.before _ (held c.args.series.now)
      (held c.loop-before.series) (held c.place_cell.new.series) c.loop-before.invariant.order refl c.loop-before.invariant.placed_so_far
      (subst (λ given. PlacesAtSteps c.args.basin.now (λ step. if_placed c.args.slot.0 (c.loop-before.before + 1) given) (held c.loop-before.series)
      (held c.place_cell.new.series))
      (value-read c.args.inputs.now.columns c.args.slot.0 _ c.column-column.result.now c.value_in.result c.column-column.ensures c.value_in.ensures)
      c.place_cell.ensures.placed);
}

pub returns-clause-placed : goal.returns-clause-placed
returns-clause-placed c =
    let all : c.loop-before.before ≡ c.args.last = omega (arith, c.loop-before-test.false, c.loop-before.auto.before-end) in
    subst (λ n. PlacesAtSteps c.args.basin.now (λ step. if_in_block c.args.first n step (placing_at c.args.inputs.now c.args.slot.0 step))
    (held c.args.series.now) (held c.loop-before.series)) all c.loop-before.invariant.placed_so_far

pub returns-then-column-from-clause-placed : goal.returns-then-column-from-clause-placed
returns-then-column-from-clause-placed c =
    let short : length c.column-column.result.now ≤ c.args.last = search rules in
    none-given c.args.basin.now c.args.inputs.now c.args.slot.0 c.args.first c.args.last (held c.args.series.now) c.requires.inputs
    (subst (λ column. length column ≤ c.args.last) c.column-column.ensures short) c.requires.steps
