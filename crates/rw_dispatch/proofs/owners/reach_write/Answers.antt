use Rattle.rw_base.proofs.Common.{option_map}
use Rattle.rw_base.specs.declared.number.ObjectNo.{ObjectNo}
use Rattle.rw_run.specs.Waiting.{is_owner}
use Rattle.rw_dispatch.proofs.Owning.{written-at}
use Rattle.rw_dispatch.proofs.owners.reach_write.Goals as goal

pub returns-then-write-step : goal.returns-then-write-step
returns-then-write-step c = λ slots has.
    written-at (option_map (λ (other : ObjectNo). other.0) c.args.but) c.args.basin.now c.args.step.0 slots c.args.write.now c.reach_group.new.reached
    c.if-write-step.true
    (c.reach_group.ensures (is_owner c.args.basin.now slots) has)
