use Rattle.rw_commands.proofs.Common.{ap, change, files_seen, inl, option_map, policy_of, refl, sym, ◌∙◌}
use Rattle.rw_commands.proofs.SectionLemmas.{rules_counted, rules_written}
use Rattle.rw_commands.proofs.perform.run.Goals as goal

pub returns-clause-text : goal.returns-clause-text
returns-clause-text g c =
    rules_written (files_seen c.args.files.now) (policy_of c.in-Some.policy) c.in-Some-take.inputs
    (ap (option_map policy_of) (sym c.take.ensures.value ∙ c.in-Some.is))
    (sym c.take-2.ensures.value ∙ c.in-Some-take.is) c.args.extras
    (change (g.K.Sink.seen c.args.out.now) (g.K.Sink.seen c.write_runs-written.new.out)) c.batches_of-batches.result.now c.batches_of-batches.ensures
    c.write_runs-written.result c.status_after.result c.status_after.ensures
    (c.write_runs-written.ensures.text (policy_of c.in-Some.policy) c.in-Ok.ensures.runs)

pub returns-clause-counted : goal.returns-clause-counted
returns-clause-counted g c = λ reuse.
    rules_counted (files_seen c.args.files.now) (policy_of c.in-Some.policy) c.in-Some-take.inputs
    (ap (option_map policy_of) (sym c.take.ensures.value ∙ c.in-Some.is))
    (sym c.take-2.ensures.value ∙ c.in-Some-take.is) c.batches_of-batches.result.now
    (change c.args.steps.now c.write_runs-written.new.steps) c.batches_of-batches.ensures c.write_runs-written.result c.status_after.result c.status_after.ensures
    (c.write_runs-written.ensures.counted (policy_of c.in-Some.policy) c.in-Ok.ensures.runs reuse)

pub returns-in-Err-clause-text : goal.returns-in-Err-clause-text
returns-in-Err-clause-text g c = inl refl
