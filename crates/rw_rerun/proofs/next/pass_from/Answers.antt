use Rattle.rw_base.proofs.Common.{refl}
use Rattle.rw_rerun.proofs.Beginning.{begins_by}
use Rattle.rw_rerun.proofs.next.pass_from.Goals as goal

pub returns-in-Ok : goal.returns-in-Ok
returns-in-Ok c = record {
  new = c.make_ready.new.spare;
  ready = c.in-Ok.ensures.ready;
  begins = begins_by c.make_ready.new.spare _ refl c.in-Ok.ensures.changes c.new.ensures.items refl;
}
