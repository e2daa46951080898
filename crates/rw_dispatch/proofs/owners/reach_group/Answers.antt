use Rattle.rw_base.proofs.Common.{◌==◌, ◌||◌, take, list_any, option_map}
use Rattle.rw_base.specs.declared.number.ObjectNo.{ObjectNo}
use Rattle.rw_model.proofs.Common.{owner_of, numbers_of}
use Rattle.rw_dispatch.proofs.Owning.{other-more, others-all}
use Rattle.rw_dispatch.proofs.owners.reach_group.Goals as goal

pub loop-other-preserved : goal.loop-other-preserved
loop-other-preserved c = λ seen has.
    other-more (option_map (λ (other : ObjectNo). other.0) c.args.but) c.args.basin.now seen c.group-group.result.now c.loop-other.other-index _
    c.owner_of.result c.reach.new.reached c.loop-other-test.true
    c.owner_of.ensures.owner
    (c.reach.ensures
    (λ object. list_any (λ other. owner_of c.args.basin.now.objects other == object)
    (numbers_of (take c.loop-other.other-index c.group-group.result.now)) || seen object)
    (c.loop-other.invariant seen has))

pub returns : goal.returns
returns c = λ seen has.
    others-all (option_map (λ (other : ObjectNo). other.0) c.args.but) c.args.basin.now c.args.slot.0 seen c.group-group.result.now
    c.loop-other.other-index
    c.loop-other.reached c.loop-other-test.false
    c.group-group.ensures.group
    (c.loop-other.invariant seen has)
