use Rattle.std.proofs.Common.{◌≡◌, ◌+◌, ◌*◌}
use Rattle.rw_model.specs.Kept.{numbers_up_to}
use Rattle.rw_model.proofs.numbers.push_numbers.Given as goal

abbrev pub invariant-loop-place : goal.invariant-loop-place
invariant-loop-place l = l.all.items ≡ numbers_up_to l.objects (l.before * 12 + l.place)
