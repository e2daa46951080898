use Rattle.std.proofs.Common.{sym, subst, All}
use Rattle.rw_model.specs.Draft.{IsSlot}
use Rattle.rw_model.proofs.Grouping.{all_numbered}
use Rattle.rw_model.proofs.Bounding.{linked_with-known}
use Rattle.rw_model.proofs.bounds.bounds_in.Goals as goal

pub meet_all-requires : goal.meet_all-requires
meet_all-requires c =
    all_numbered (IsSlot c.args.objects.now) c.with.result.now
    (subst (λ slots. All (IsSlot c.args.objects.now) slots) (sym c.with.ensures)
    (linked_with-known c.args.objects.now c.args.links.now c.args.slot c.requires.links))
