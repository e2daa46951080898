use Rattle.rw_commands.proofs.FewBatches.{few_batches}
use Rattle.rw_commands.proofs.judging.judge_edits.Goals as goal

pub returns-in-Ok : goal.returns-in-Ok
returns-in-Ok c = record {
  are = c.in-Ok.ensures.answers;
  fit = c.in-Ok.ensures.made;
  few = few_batches _ c.args.basin.now c.args.text.now c.in-Ok.batches.items c.in-Ok.ensures.answers;
}
