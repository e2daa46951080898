use Rattle.rw_base.proofs.Common.{subst, sym, ◌∙◌}
use Rattle.rw_series.specs.Series.{held}
use Rattle.rw_dispatch.specs.Writes.{AreWrites, CanWrite}
use Rattle.rw_writes.proofs.Granted.{all_written, asks_write}
use Rattle.rw_writes.proofs.writes.Writes.judge.Goals as goal

pub keep_written-requires-clause-can : goal.keep_written-requires-clause-can
keep_written-requires-clause-can c =
    asks_write c.args.basin.now c.args.rule.0 c.args.step.0 c.args.puts.now _ (c.as_slice.ensures.value ∙ c.ask_all.ensures.asked)
    c.requires.step.first
    c.requires.can

pub returns-clause-can : goal.returns-clause-can
returns-clause-can c =
    let asks =
    asks_write c.args.basin.now c.args.rule.0 c.args.step.0 c.args.puts.now _ (c.as_slice.ensures.value ∙ c.ask_all.ensures.asked)
    c.requires.step.first
    c.requires.can in (
      subst (AreWrites c.args.basin.now) c.as_slice.ensures.value asks,
      subst (AreWrites c.args.basin.now) (sym c.keep_written.ensures.kept)
          (all_written c.args.basin.now (held c.args.series.now) (CanWrite c.args.basin.now) c.as_slice.result.now asks),
    )
