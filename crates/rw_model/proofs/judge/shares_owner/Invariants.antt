use Rattle.rw_base.proofs.Common.{◌≡◌, drop}
use Rattle.rw_model.specs.Links.{shares_owner}
use Rattle.rw_model.specs.Kept.{numbers_of}
use Rattle.rw_model.proofs.judge.shares_owner.Given as goal

abbrev pub invariant-loop-other : goal.invariant-loop-other
invariant-loop-other l =
    shares_owner l.objects l.slot (numbers_of (drop l.other-index l.before)) ≡ shares_owner l.objects l.slot (numbers_of l.before)
