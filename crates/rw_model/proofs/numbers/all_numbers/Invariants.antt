use Rattle.std.proofs.Common.{◌≡◌, ◌*◌}
use Rattle.rw_model.specs.Kept.{numbers_up_to}
use Rattle.rw_model.proofs.numbers.all_numbers.Given as goal

abbrev pub invariant-loop-before : goal.invariant-loop-before
invariant-loop-before l = l.all.items ≡ numbers_up_to l.objects (l.before * 12)
