use Rattle.rw_dispatch.proofs.Common.{IsHeldIn, drop, held}
use Rattle.rw_dispatch.proofs.Makes.{IsPutting}
use Rattle.rw_dispatch.proofs.written.make.Given as goal

abbrev pub invariant-loop-write : goal.invariant-loop-write
invariant-loop-write l = record {
  putting : IsPutting l.basin (held l.fn.series) (held l.series) l.writes (drop l.write-index l.writes);
  made : IsHeldIn l.basin l.series;
}
