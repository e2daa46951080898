use Rattle.std.proofs.Common.{◌≡◌, drop}
use Rattle.rpl_types.specs.Fits.{misfit_in_places, sooner}
use Rattle.rpl_types.proofs.calls.misfit_in_places.Given as goal

abbrev pub invariant-loop-k : goal.invariant-loop-k
invariant-loop-k l = sooner l.found (misfit_in_places (drop l.k l.given) (drop l.k l.asked)) ≡ misfit_in_places l.given l.asked
