use Rattle.rw_base.proofs.Common.{◌≡◌, bytes_eq, drop, map, list_any}
use Rattle.rpl_tree.specs.Seen.{declared_of}
use Rattle.rpl_types.specs.Judged.{function_names}
use Rattle.rpl_types.proofs.calls.is_later.Given as goal

abbrev pub invariant-loop-declaration : goal.invariant-loop-declaration
invariant-loop-declaration l =
    list_any (bytes_eq l.name) (function_names (map declared_of (drop l.declaration-index l.later)))
    ≡ list_any (bytes_eq l.name) (function_names (map declared_of l.later))
