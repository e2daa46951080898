use Rattle.std.proofs.Common.{reverse, ap}
use Rattle.rpl_scope.specs.Scope.{entries_of}
use Rattle.rpl_scope.proofs.scope.Scope.new.Goals as goal

pub returns : goal.returns
returns g c = ap (λ xs. entries_of (reverse xs)) c.new.ensures.items
