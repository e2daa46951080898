use Rattle.rw_base.proofs.Common.{rules, arith, common_steps}
use Rattle.rw_io.proofs.whole_file.read_all.Goals as goal

pub loop-count-init : goal.loop-count-init
loop-count-init g c = record {
  held = search rules;
  later = search rules;
  started = search rules;
  parts = search rules;
  count = search rules;
  short = search rules;
}

pub loop-count-preserved : goal.loop-count-preserved
loop-count-preserved g c = record {
  held = search rules;
  later = search rules;
  started = search rules;
  parts = grind (arith, common_steps);
  count = grind (arith, common_steps);
  short = search rules;
}
