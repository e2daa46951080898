use Rattle.rw_base.proofs.Common.{rules}
use Rattle.rw_series.specs.Series.{held}
use Rattle.rpl_call_tests.proofs.Due.{after_both, after_first}
use Rattle.rpl_call_tests.proofs.agendas.each_is_due_once.Goals as goal

pub next-second-requires : goal.next-second-requires
next-second-requires c = record { index = after_first c.fired.new.self (held c.args.series.now) 1 (search rules) }

pub next-third-requires : goal.next-third-requires
next-third-requires c = record { index = after_both c.fired-2.new.self (held c.args.series.now) 1 0 (search rules) }
