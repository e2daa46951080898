use Rattle.rw_record.proofs.Common.{[], rules, subst, sym, ◌++◌, ◌∷◌}
use Rattle.rw_record.specs.HeldList.{AreListed}
use Rattle.rw_record.proofs.Listing.{one_listed}
use Rattle.rw_record.proofs.held_list.add.Goals as goal

pub returns : goal.returns
returns c = λ before listed.
    subst (λ cells. AreListed (before ++ c.args.one.now ∷ []) cells c.keep.new.contents.items) (sym c.in_ok-push.ensures.items)
    (one_listed before c.args.cells.now.items c.args.contents.now.items c.keep.new.contents.items c.args.one.now c.in_ok-place.place listed
    (search rules) c.in_ok-place.ensures)
