use Rattle.rw_engine.proofs.Again.{replays, sound_again}
use Rattle.rw_engine.proofs.state.State.replay.Goals as goal

pub returns-clause-replays : goal.returns-clause-replays
returns-clause-replays c =
    replays c.args.basin.now c.args.kept.now c.args.self.now c.pass_again.new.self c.pass_again.result c.again.ensures c.requires.step c.requires.made
    c.pass_again.ensures

pub returns-clause-sound : goal.returns-clause-sound
returns-clause-sound c = sound_again c.args.basin.now c.args.kept.now c.args.self.now c.pass_again.new.self c.pass_again.result c.pass_again.ensures
