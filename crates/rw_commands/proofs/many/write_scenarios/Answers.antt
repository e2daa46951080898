use Rattle.rw_commands.proofs.Common.{[], ap, arith, change, length, subst, sym, ◌+◌, ◌<◌, ◌∙◌, ◌≡◌}
use Rattle.rw_base.proofs.Common.{get_or}
use Rattle.rw_mrm.specs.Summary.{IsTallyOf}
use Rattle.rw_mrm.specs.Tally.{Tally, is_settled}
use Rattle.rw_series.specs.Series.{held}
use Rattle.rw_commands.specs.Scenarios.{StopsAtScenario, WritesScenario, WritesScenarios}
use Rattle.rw_commands.proofs.ManyRuns.{counts_more, empty_for, more_written, none_written, stays_for, stops_at}
use Rattle.rw_commands.proofs.many.write_scenarios.Goals as goal

pub loop-place-init : goal.loop-place-init
loop-place-init g c =
    let basin = c.args.setup.now.basin.now in
    let tally : Tally = c.args.tally.now in
    let room = length c.args.batches.now in
    let made = empty_for basin room tally c.requires.empty in
    let none = subst (IsTallyOf basin []) (sym c.requires.empty) (c.tallies.ensures.begins basin room) in (
      λ policy means. none_written basin policy c.args.inputs.now c.args.batches.now (g.K.Sink.seen c.args.out.now) tally made none,
      made,
      none.runs_are,
      ap (λ (t : Tally). t.room) c.requires.empty,
    )

pub returns-in-Err : goal.returns-in-Err
returns-in-Err g c = λ policy means.
    let basin = c.args.setup.now.basin.now in
    let place = c.loop-place.place in
    let batch = c.index-batches-from.result in
    let near : place < length c.args.batches.now = let test = c.loop-place-test.true in let end = c.count_of-place-end.ensures in omega (arith, test, end) in
    let there : batch ≡ get_or c.args.batches.now place batch =
    subst (λ k. batch ≡ get_or c.args.batches.now k batch) c.from-in-loop-place.ensures c.index-batches-from.is in
    stops_at basin policy c.args.inputs.now c.args.batches.now place (g.K.Sink.seen c.args.out.now) (g.K.Sink.seen c.loop-place.out)
    (g.K.Sink.seen c.write_scenario.new.out) c.loop-place.tally c.loop-place.status (c.loop-place.invariant.0 policy means) near batch there
    c.in-Err.refusal
    (subst (λ n. StopsAtScenario basin policy c.args.inputs.now batch (n + 1)
    (change (g.K.Sink.seen c.loop-place.out) (g.K.Sink.seen c.write_scenario.new.out)) c.in-Err.refusal) c.from.ensures (c.in-Err.ensures policy means))

pub loop-place-preserved : goal.loop-place-preserved
loop-place-preserved g c =
    let basin = c.args.setup.now.basin.now in
    let place = c.loop-place.place in
    let batch = c.index-batches-from.result in
    let run = c.in-Ok.run' in
    let near : place < length c.args.batches.now = let test = c.loop-place-test.true in let end = c.count_of-place-end.ensures in omega (arith, test, end) in
    let there : batch ≡ get_or c.args.batches.now place batch =
    subst (λ k. batch ≡ get_or c.args.batches.now k batch) c.from-in-loop-place.ensures c.index-batches-from.is in
    let more = counts_more basin (is_settled run.end) (held run.series) c.loop-place.tally c.add.new.self c.add.ensures in (
      λ policy means.
          subst (λ s. WritesScenarios basin policy c.args.inputs.now c.args.batches.now (place + 1)
          (change (g.K.Sink.seen c.args.out.now) (g.K.Sink.seen c.write_scenario.new.out)) c.add.new.self s) (sym c.status_with-status.ensures)
          (more_written basin policy c.args.inputs.now c.args.batches.now place (g.K.Sink.seen c.args.out.now) (g.K.Sink.seen c.loop-place.out)
          (g.K.Sink.seen c.write_scenario.new.out) c.loop-place.tally c.loop-place.status (c.loop-place.invariant.0 policy means) near batch there
          run c.add.new.self
          (subst (λ n. WritesScenario basin policy c.args.inputs.now batch (n + 1)
          (change (g.K.Sink.seen c.loop-place.out) (g.K.Sink.seen c.write_scenario.new.out)) run) c.from.ensures (c.in-Ok.ensures policy means))
          (c.tallies.ensures.goes_on basin) c.add.ensures),
      stays_for basin (is_settled run.end) (held run.series) c.loop-place.tally c.add.new.self c.add.ensures c.loop-place.invariant.1,
      more.0 ∙ ap (λ n. n + 1) c.loop-place.invariant.2,
      more.1 ∙ c.loop-place.invariant.3,
    )
