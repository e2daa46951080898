use Rattle.std.proofs.Common.{◌≡◌, ◌+◌, drop}
use Rattle.rw_model.specs.Objects.{object_from, object_named}
use Rattle.rpl_types.proofs.names.object_named.Given as goal

abbrev pub invariant-loop-before : goal.invariant-loop-before
invariant-loop-before l =
    object_from (l.before + 1) (drop l.before l.basin.objects) l.name ≡ object_named l.basin.objects l.name
