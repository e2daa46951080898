use Rattle.rw_record.proofs.Common.{AreHeld, held, take}
use Rattle.rw_record.proofs.alike.is_kept_alike.Given as goal

abbrev pub invariant-loop-place : goal.invariant-loop-place
invariant-loop-place l = AreHeld (held l.series) (take l.place l.looked)
