use Rattle.std.proofs.Common.{◌≤◌}
use Rattle.rpl_tree.specs.Bounds.{function_count}
use Rattle.rpl_tree.specs.Seen.{rules_of}
use Rattle.rpl_types.proofs.typed.Typed.function_count.Goals as goal

pub functions_in-requires : goal.functions_in-requires
functions_in-requires c = rw c.deref.ensures.value c.self.invariant.0.functions

pub returns-clause-most : goal.returns-clause-most
returns-clause-most c =
    let most : function_count (rules_of c.self.inside.rules) ≤ 200 = c.self.invariant.0.functions in
    rw (c.functions_in.ensures, c.deref.ensures.value) most
