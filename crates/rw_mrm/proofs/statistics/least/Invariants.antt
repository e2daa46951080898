use Rattle.std.specs.List.{fold}
use Rattle.rw_base.proofs.Common.{◌≡◌, get_or, int_min, take, pos}
use Rattle.rw_mrm.proofs.statistics.least.Given as goal

-- the lesser of the first and of those so far
abbrev pub invariant-loop-place : goal.invariant-loop-place
invariant-loop-place l = l.least ≡ fold int_min (get_or l.values 0 (pos 0)) (take l.place l.values)
