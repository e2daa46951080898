use Rattle.rw_base.proofs.Common.{◌≡◌, [], rules}
use Rattle.rw_inputs.proofs.Places.{cleared}
use Rattle.rw_inputs.proofs.column.clear.Goals as goal

pub returns-then-is_empty-clause-cleared : goal.returns-then-is_empty-clause-cleared
returns-then-is_empty-clause-cleared c =
    let none : c.args.values.now.items ≡ [] = search rules in
    cleared c.args.first c.args.last c.args.values.now.items none
