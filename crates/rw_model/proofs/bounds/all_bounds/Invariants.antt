use Rattle.rw_base.proofs.Common.{◌≡◌, map, range_with_len}
use Rattle.rw_model.specs.Links.{bounds_in}
use Rattle.rw_model.proofs.bounds.all_bounds.Given as goal

abbrev pub invariant-loop-before : goal.invariant-loop-before
invariant-loop-before l = l.all.items ≡ map (bounds_in l.objects l.links l.own) (range_with_len 1 l.before)
