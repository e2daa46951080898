use Rattle.rw_engine.specs.Records.{HasNoted, IsUntold}
use Rattle.rw_engine.specs.Engine.{Engine as Seen}
use Rattle.rw_engine.proofs.Common.{subst, sym, ap, ◌∙◌}
use Rattle.rw_engine.proofs.engine.Engine.last_kept.Goals as goal

pub invariant_of-self : goal.invariant_of-self
invariant_of-self c =
    let sound = c.last_kept.ensures.sound (record { counts = c.self.invariant.0; firings = c.self.invariant.1; keeps = c.self.invariant.2 }) in
    (sound.counts, sound.firings, sound.keeps)

pub returns-clause-noted : goal.returns-clause-noted
returns-clause-noted c = λ basin step old events has is.
    c.last_kept.ensures.noted basin step old events (subst (HasNoted basin step old events) (sym c.self.view_is) has)
    (ap (λ (engine : Seen). engine.closed) c.self.view_is ∙ is)

pub returns-clause-untold : goal.returns-clause-untold
returns-clause-untold c = λ none. c.last_kept.ensures.untold (subst IsUntold (sym c.self.view_is) none)
