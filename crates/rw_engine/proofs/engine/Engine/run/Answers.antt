use Rattle.rw_engine.specs.Shows.{IsEngineOf, Shows}
use Rattle.rw_engine.proofs.Common.{subst, sym}
use Rattle.rw_engine.proofs.engine.Engine.run.Goals as goal

pub returns-clause-run : goal.returns-clause-run
returns-clause-run c = λ basin policy log made shows.
    c.run.ensures.run basin policy log (subst (IsEngineOf basin policy) (sym c.self.view_is) made)
    (subst (λ engine. Shows basin engine log) (sym c.self.view_is) shows)
