use Rattle.rw_base.proofs.Common.{◌≡◌, false, list_any, range_with_len}
use Rattle.rw_model.specs.Links.{bounds_in}
use Rattle.rw_model.specs.Basin.{is_crossed}
use Rattle.rw_model.proofs.bounds.has_crossed_bounds.Given as goal

abbrev pub invariant-loop-before : goal.invariant-loop-before
invariant-loop-before l = list_any (λ slot. is_crossed (bounds_in l.objects l.links l.own slot)) (range_with_len 1 l.before) ≡ false
