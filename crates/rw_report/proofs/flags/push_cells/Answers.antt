use Rattle.std.proofs.Common.{◌≡◌, ◌++◌, ◌∙◌, ap, string_bytes, arith}
use Rattle.rw_series.specs.Series.{held}
use Rattle.rw_report.specs.Section.{for_each}
use Rattle.rw_report.specs.Pieces.{flag_at}
use Rattle.rw_report.proofs.flags.push_cells.Goals as goal

pub loop-first-preserved : goal.loop-first-preserved
loop-first-preserved c =
    (c.last_of_block-last.ensures.within, c.in_ok-push_block.ensures (string_bytes c.args.text.now) c.loop-first.invariant.1)

pub returns : goal.returns
returns c =
    let same : c.loop-first.first ≡ c.args.count = omega (arith, c.loop-first-test.false, c.loop-first.invariant.0) in
    c.loop-first.invariant.1 ∙ ap (λ n. string_bytes c.args.text.now ++ for_each (flag_at (held c.args.cells.now)) n) same
