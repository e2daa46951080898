use Rattle.std.proofs.Common.{string_bytes}
use Rattle.rw_series.specs.Series.{held}
use Rattle.rw_report.specs.Flags.{flag_row}
use Rattle.rw_report.proofs.Growing.{next}
use Rattle.rw_report.proofs.flags.push_rows.Goals as goal

pub loop-before-preserved : goal.loop-before-preserved
loop-before-preserved c =
    next (flag_row c.args.basin.now (held c.args.series.now)) c.loop-before.before
    (string_bytes c.args.text.now) (string_bytes c.loop-before.text) (string_bytes c.push_row.new.text) c.loop-before.invariant
    c.in_ok-push_row.ensures
