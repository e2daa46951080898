use Rattle.rw_base.proofs.Common.{◌≡◌, drop}
use Rattle.rw_model.specs.Links.{meet_all}
use Rattle.rw_model.specs.Kept.{numbers_of}
use Rattle.rw_model.proofs.bounds.meet_all.Given as goal

abbrev pub invariant-loop-slot : goal.invariant-loop-slot
invariant-loop-slot l =
    meet_all l.objects l.own l.met (numbers_of (drop l.slot-index l.slots)) ≡ meet_all l.objects l.own l.fn.bounds (numbers_of l.slots)
