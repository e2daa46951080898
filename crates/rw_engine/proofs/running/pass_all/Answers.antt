use Rattle.rw_engine.proofs.running.pass_all.Goals as goal

pub returns-in-Ok : goal.returns-in-Ok
returns-in-Ok g c =
    c.in-Ok.ensures c.finish.result
    (record { run_is = c.finish.ensures.run; closed_steps = c.finish.ensures.closed; same = c.finish.ensures.same })

pub returns-in-Err : goal.returns-in-Err
returns-in-Err g c = c.in-Err.ensures
