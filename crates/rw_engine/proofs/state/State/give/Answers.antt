use Rattle.rw_engine.proofs.Common.{Sets, refl, subst}
use Rattle.rw_engine.proofs.Backs.{gives}
use Rattle.rw_engine.proofs.state.State.give.Goals as goal

pub returns-clause-gives : goal.returns-clause-gives
returns-clause-gives c =
    gives c.args.basin.now c.args.cell c.args.value c.args.self.now _ c.restore.new.self refl c.requires.within c.requires.made c.restore.ensures.made
    (subst (λ content. Sets c.args.basin.now c.args.cell content c.args.self.now.run.series c.restore.new.self) c.input.ensures c.restore.ensures.cells)
