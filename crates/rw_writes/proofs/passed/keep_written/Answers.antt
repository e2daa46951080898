use Rattle.rw_base.proofs.Common.{ap, arith, refl, sym, ◌++◌, ◌∙◌, ◌∷◌}
use Rattle.rw_series.specs.Series.{held}
use Rattle.rw_writes.specs.Writes.{written_puts}
use Rattle.rw_dispatch.proofs.Makes.{next-put}
use Rattle.rw_writes.proofs.passed.keep_written.Goals as goal

pub loop-place-preserved : goal.loop-place-preserved
loop-place-preserved c = record {
  room = c.keep_one.ensures.room ∙ c.loop-place.invariant.room;
  few = omega (arith, c.keep_one.ensures.more, c.loop-place.invariant.few);
  kept = ap (λ later. c.keep_one.new.written.items ++ written_puts c.args.basin.now (held c.args.series.now) later) (sym c.behind.ensures)
      ∙ c.keep_one.ensures.kept
      ∙ ap (λ later. c.loop-place.written.items ++ written_puts c.args.basin.now (held c.args.series.now) (c.index-asked-place.result ∷ later))
      c.behind.ensures
      ∙ ap (λ asked. c.loop-place.written.items ++ written_puts c.args.basin.now (held c.args.series.now) asked)
      (sym (next-put c.args.asked.now c.args.asked.now c.loop-place.place c.index-asked-place.result refl c.loop-place-test.true
      c.index-asked-place.is))
      ∙ c.loop-place.invariant.kept;
}
