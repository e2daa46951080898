use Rattle.rw_base.proofs.Common.{drop, ◌≡◌}
use Rattle.rw_model.specs.Kept.{numbers_of}
use Rattle.rw_model.specs.Links.{is_among}
use Rattle.rw_series.proofs.shared.is_in.Given as goal

abbrev pub invariant-loop-other : goal.invariant-loop-other
invariant-loop-other l = is_among l.slot.0 (numbers_of (drop l.other-index l.group)) ≡ is_among l.slot.0 (numbers_of l.group)
