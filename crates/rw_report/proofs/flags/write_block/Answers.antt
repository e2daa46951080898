use Rattle.std.proofs.Common.{◌≡◌, ◌≤◌, ◌+◌, ◌-◌, ◌++◌, ap, sym, ◌∙◌, drop, length, append-nil, codes, arith}
use Rattle.std.proofs.lemmas.List.{drop_all}
use Rattle.std.proofs.lemmas.Str.{IsAscii-append}
use Rattle.std.proofs.lemmas.Str.Ascii.{IsAscii-nil}
use Rattle.rw_series.specs.Series.{held}
use Rattle.rw_report.specs.Section.{for_each}
use Rattle.rw_report.specs.Flags.{held_flag}
use Rattle.rw_report.specs.Pieces.{flag_at}
use Rattle.rw_report.proofs.Growing.{back}
use Rattle.rw_report.proofs.flags.write_block.Goals as goal

pub loop-done-init : goal.loop-done-init
loop-done-init c =
    let words = flag_at (held c.args.cells.now) in
    let none = drop_all 672 c.args.buffer.now (omega (arith, c.told-buffer)) in
    let all : c.args.last - 0 ≡ c.args.last = omega arith in (
      omega (arith, c.requires.order),
      (
        omega arith,
        (
          omega arith,
          (
            rw none IsAscii-nil,
            ap (λ n. for_each words n ++ drop 672 c.args.buffer.now) all ∙ ap (λ t. for_each words c.args.last ++ t) none ∙ append-nil _,
          ),
        ),
      ),
    )

pub loop-done-preserved : goal.loop-done-preserved
loop-done-preserved c =
    let l = c.loop-done in
    let w = c.write_next-at in
    let near = c.loop-done-test.true in
    let one : c.args.last - l.done ≡ c.args.last - (l.done + 1) + 1 = omega (arith, near, l.invariant.0, c.requires.order) in (
      omega (arith, near, l.invariant.0, c.requires.order),
      (
        omega (arith, w.ensures.start.0, l.invariant.1.0),
        (
          omega (arith, w.ensures.start.1, l.invariant.1.1.0),
          (
            rw w.ensures.written (IsAscii-append (codes "," ++ held_flag c.get.result)
                (drop l.at l.buffer) w.ensures.ascii l.invariant.1.1.1.0),
            back (flag_at (held c.args.cells.now)) (c.args.last - l.done) (c.args.last - (l.done + 1)) (drop l.at l.buffer)
                (drop w.result w.new.buffer) _ one
                l.invariant.1.1.1.1
                (w.ensures.written
                ∙ ap (λ content. (codes "," ++ held_flag content) ++ drop l.at l.buffer)
                c.get.ensures),
          ),
        ),
      ),
    )

pub returns-clause-written : goal.returns-clause-written
returns-clause-written c =
    let l = c.loop-done in
    let e : c.args.last - l.done ≡ c.args.first = omega (arith, c.loop-done-test.false, l.invariant.0, c.requires.order) in
    ap (λ n. for_each (flag_at (held c.args.cells.now)) n ++ drop l.at l.buffer) (sym e) ∙ l.invariant.1.1.1.1
