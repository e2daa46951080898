use Rattle.rw_base.proofs.Common.{ap, subst, sym, ◌∙◌}
use Rattle.rw_model.specs.Draft.{Draft, IsSlot}
use Rattle.rw_series.specs.Series.{held}
use Rattle.rw_asked.specs.Asked.{fate_of}
use Rattle.rw_asked.proofs.tells.fate_told.Goals as goal

pub fate_of-requires : goal.fate_of-requires
fate_of-requires c = subst (λ (basin : Draft). IsSlot basin.objects c.args.put.now.cell.slot.0) (sym c.basin.ensures) c.requires

pub returns : goal.returns
returns c =
    c.fate_of.ensures
    ∙ ap (λ (basin : Draft). fate_of basin (held c.args.series.now) c.args.put.now c.args.later.now) c.basin.ensures
