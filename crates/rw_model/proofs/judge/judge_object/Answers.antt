use Rattle.std.proofs.Common.{rules}
use Rattle.rw_model.proofs.BuildFacts.{found-addable}
use Rattle.rw_model.proofs.judge.judge_object.Goals as goal

pub returns-clause-can_add : goal.returns-clause-can_add
returns-clause-can_add c =
    found-addable c.args.objects.now (record { name = c.args.name.now; kind = c.args.kind.now }) c.judge_size.result (search rules)
