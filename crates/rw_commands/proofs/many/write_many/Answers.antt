use Rattle.rw_base.proofs.Common.{map}
use Rattle.rw_mrm.specs.Summary.{summary_by}
use Rattle.rw_commands.specs.Many.{as_ended}
use Rattle.rw_commands.proofs.ManyRuns.{all_written, none_stops, stops_last}
use Rattle.rw_commands.proofs.many.write_many.Goals as goal

pub returns-in-Err : goal.returns-in-Err
returns-in-Err g c = λ policy means.
    none_stops c.args.setup.now.basin.now policy c.args.inputs.now c.args.batches.now (g.K.Sink.seen c.args.out.now)

pub returns-in-Ok-write_summary : goal.returns-in-Ok-write_summary
returns-in-Ok-write_summary g c = λ policy means.
    let basin = c.args.setup.now.basin.now in
    let tally = c.write_scenarios.new.tally in
    let all = c.in-Ok-write_scenarios.ensures policy means in
    all_written basin policy c.args.inputs.now c.args.batches.now (g.K.Sink.seen c.args.out.now) (g.K.Sink.seen c.write_scenarios.new.out)
    (g.K.Sink.seen c.write_summary.new.out) tally c.in-Ok-write_scenarios.status all (summary_by basin tally)
    (c.summary_of_runs.ensures basin (map (as_ended basin) all.logs) tally all.made all.kept)
    c.in-Ok-write_summary.ensures.grew

pub returns : goal.returns
returns g c = λ policy means.
    let basin = c.args.setup.now.basin.now in
    let tally = c.write_scenarios.new.tally in
    let all = c.in-Ok-write_scenarios.ensures policy means in
    stops_last basin policy c.args.inputs.now c.args.batches.now (g.K.Sink.seen c.args.out.now) (g.K.Sink.seen c.write_scenarios.new.out)
    (g.K.Sink.seen c.write_summary.new.out) tally c.in-Ok-write_scenarios.status all (summary_by basin tally)
    (c.summary_of_runs.ensures basin (map (as_ended basin) all.logs) tally all.made all.kept)
    c.in-Err-write_summary.refusal c.in-Err-write_summary.ensures
