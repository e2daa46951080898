use Rattle.std.proofs.Common.{◌≡◌, ◌+◌, drop, map}
use Rattle.rpl_tree.specs.Seen.{declared_of}
use Rattle.rpl_tree.specs.Bounds.{function_count}
use Rattle.rpl_types.proofs.typed.functions_in.Given as goal

abbrev pub invariant-loop-declaration : goal.invariant-loop-declaration
invariant-loop-declaration l =
    l.count + function_count (map declared_of (drop l.declaration-index l.declarations))
    ≡ function_count (map declared_of l.declarations)
