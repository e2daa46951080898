use Rattle.rw_base.proofs.Common.{ap, arith, true, ◌∙◌, ◌≡◌}
use Rattle.rw_firing.specs.declared.look.Look.{Look}
use Rattle.rw_agenda.specs.CellIndex.{is_watching}
use Rattle.rw_agenda.proofs.Watches.{watching_on}
use Rattle.rw_agenda.proofs.cell_index.CellIndex.watch_all.Goals as goal

pub watch_at-requires : goal.watch_at-requires
watch_at-requires c k d there = c.loop-place.invariant.kept _ _ (c.requires k d there)

pub loop-place-preserved : goal.loop-place-preserved
loop-place-preserved c =
    let watching : is_watching c.watch_at.new.self c.index-looked-place.result.cell c.args.rule ≡ true =
    ap (λ (look : Look). is_watching c.watch_at.new.self look.cell c.args.rule) c.index-looked-place.is
    ∙ c.watch_at.ensures.watching in record {
      watching = watching_on c.loop-place.self c.watch_at.new.self c.args.rule c.args.looked.now c.loop-place.place c.next_cell-next.result
          c.index-looked-place.result (omega (arith, c.loop-place-test.true)) c.index-looked-place.is c.next_cell-next.ensures.same
          c.watch_at.ensures.kept c.loop-place.invariant.watching watching;
      kept = λ other earlier watching. c.watch_at.ensures.kept other earlier (c.loop-place.invariant.kept other earlier watching);
    }

pub returns-clause-watching : goal.returns-clause-watching
returns-clause-watching c k d near = c.loop-place.invariant.watching k d (omega (arith, near, c.loop-place-test.false))
