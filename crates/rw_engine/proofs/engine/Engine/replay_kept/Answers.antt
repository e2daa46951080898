use Rattle.rw_engine.proofs.engine.Engine.replay_kept.Goals as goal

pub invariant_of-self : goal.invariant_of-self
invariant_of-self c =
    let sound = c.replay_kept.ensures.sound (record { counts = c.self.invariant.0; firings = c.self.invariant.1; keeps = c.self.invariant.2 }) in
    (sound.counts, sound.firings, sound.keeps)
