use Rattle.rw_base.proofs.Common.{◌≡◌, drop, list_all}
use Rattle.rw_model.specs.Objects.{Object}
use Rattle.rw_order.specs.Free.{is_free}
use Rattle.rw_order.proofs.free.all_are_free.Given as goal

abbrev pub invariant-loop-before : goal.invariant-loop-before
invariant-loop-before l =
    list_all (λ (object : Object). is_free object.kind) (drop l.before l.basin.objects)
    ≡ list_all (λ (object : Object). is_free object.kind) l.basin.objects
