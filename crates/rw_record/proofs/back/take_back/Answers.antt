use Rattle.rw_record.proofs.Common.{held, subst, sym}
use Rattle.rw_record.specs.Notes.{CanTakeBack}
use Rattle.rw_record.proofs.Backing.{cells_held}
use Rattle.rw_record.proofs.back.take_back.Goals as goal

pub returns-clause-back : goal.returns-clause-back
returns-clause-back c before was can cell =
    c.put_back.ensures.back (held before) (cells_held c.args.basin.now before was)
    (subst (CanTakeBack (held before) (held c.args.series.now)) (sym c.as_slice.ensures.noted) can) cell
