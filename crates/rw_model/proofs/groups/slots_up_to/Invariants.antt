use Rattle.rw_base.proofs.Common.{◌≡◌, range_with_len}
use Rattle.rw_model.specs.Kept.{numbers_of}
use Rattle.rw_model.proofs.groups.slots_up_to.Given as goal

abbrev pub invariant-loop-before : goal.invariant-loop-before
invariant-loop-before l = numbers_of l.slots.items ≡ range_with_len 1 l.before
