use Rattle.rw_base.proofs.Common.{IfSome, rules, sym, subst}
use Rattle.rw_inputs.specs.Inputs.{IsKeptValue}
use Rattle.rw_inputs.proofs.Setting.{kept_change}
use Rattle.rw_inputs.proofs.edit_row.read_edit.Goals as goal

pub returns-clause-sound : goal.returns-clause-sound
returns-clause-sound c = record {
  slot = c.kept_slot.ensures.known;
  first = search rules;
  order = search rules;
  last = search rules;
  kept = subst (λ slot. IfSome c.in_ok-value.value (IsKeptValue c.args.basin.now slot)) (sym c.kept_slot.ensures.least)
      (kept_change c.args.basin.now c.in_ok-slot.slot c.in_ok-value.value c.in_ok-value.ensures.within);
}
