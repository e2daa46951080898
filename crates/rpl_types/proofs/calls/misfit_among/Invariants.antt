use Rattle.std.proofs.Common.{◌≡◌, drop}
use Rattle.rpl_types.specs.Fits.{misfit_among, sooner}
use Rattle.rpl_types.proofs.calls.misfit_among.Given as goal

-- what is found and what is left make the whole
abbrev pub invariant-loop-t : goal.invariant-loop-t
invariant-loop-t l = sooner l.found (misfit_among (drop l.t-index l.given) l.asked) ≡ misfit_among l.given l.asked
