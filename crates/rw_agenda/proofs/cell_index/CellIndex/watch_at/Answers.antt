use Rattle.rw_base.proofs.Common.{All, List, subst, sym, true, ◌≡◌}
use Rattle.rw_firing.specs.declared.look.Look.{Look}
use Rattle.rw_agenda.specs.CellIndex.{is_watching}
use Rattle.rw_agenda.proofs.cell_index.CellIndex.watch_at.Goals as goal

pub watch_again-requires : goal.watch_again-requires
watch_again-requires c =
    subst (λ (looks : List Look). All (λ (look : Look). is_watching c.args.self.now look.cell c.args.rule ≡ true) looks) (sym c.looks.ensures)
    c.requires
