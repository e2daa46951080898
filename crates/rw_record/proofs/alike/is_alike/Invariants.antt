use Rattle.rw_record.proofs.Common.{AreHeld, held, take}
use Rattle.rw_record.proofs.alike.is_alike.Given as goal

abbrev pub invariant-loop-one : goal.invariant-loop-one
invariant-loop-one l = AreHeld (held l.series) (take l.one-index l.looked)
