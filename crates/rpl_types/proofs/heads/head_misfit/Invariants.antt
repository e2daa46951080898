use Rattle.std.proofs.Common.{◌≡◌, drop, map}
use Rattle.rpl_tree.specs.Seen.{parameter_of, type_of}
use Rattle.rpl_types.specs.Fits.{sooner}
use Rattle.rpl_types.specs.Functions.{head_misfit}
use Rattle.rpl_types.proofs.heads.head_misfit.Given as goal

-- what is found and what is left make the whole
abbrev pub invariant-loop-param : goal.invariant-loop-param
invariant-loop-param l =
    sooner l.found (head_misfit (map parameter_of (drop l.param-index l.params)) (type_of l.answers))
    ≡ head_misfit (map parameter_of l.params) (type_of l.answers)
