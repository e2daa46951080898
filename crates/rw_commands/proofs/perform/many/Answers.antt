use Rattle.rw_commands.proofs.Common.{ap, change, files_seen, inl, option_map, policy_of, refl, sym, ◌∙◌}
use Rattle.rw_commands.proofs.ManyRuns.{many_done}
use Rattle.rw_commands.proofs.perform.many.Goals as goal

pub returns : goal.returns
returns g c = λ extras.
    many_done (files_seen c.args.files.now) (policy_of c.in-Some.policy) c.in-Some-inputs.inputs c.batches_of-scenarios.result.now
    (ap (option_map policy_of) (sym c.take.ensures.value ∙ c.in-Some.is)) c.in-Some-inputs.is (sym c.batches_of-scenarios.ensures) extras
    (change (g.K.Sink.seen c.args.out.now) (g.K.Sink.seen c.write_many-written.new.out)) c.write_many-written.result
    (c.write_many-written.ensures (policy_of c.in-Some.policy) c.in-Ok.ensures.runs)

pub returns-in-Err : goal.returns-in-Err
returns-in-Err g c = λ extras. inl refl
