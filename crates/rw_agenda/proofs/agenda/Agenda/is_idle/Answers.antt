use Rattle.rw_base.proofs.Common.{refl, subst, ◌-◌}
use Rattle.rw_model.specs.Links.{group_of}
use Rattle.rw_agenda.specs.Agenda.{Agenda, MarksThose}
use Rattle.rw_agenda.proofs.Marking.{marks_known, unwatched}
use Rattle.rw_agenda.proofs.agenda.Agenda.is_idle.Goals as goal

pub returns : goal.returns
returns c idle basin cell =
    let group = group_of basin.objects basin.links cell.slot.0 in
    let still = unwatched c.self.inside.index cell.step.0 group c.self.inside.marks (c.is_idle.ensures idle) in
    subst (λ (agenda : Agenda). MarksThose basin cell agenda agenda) c.self.view_is (λ content rule looks unmarked is.
    marks_known basin cell c.self.inside.index c.self.inside.rules.items c.self.inside.marks.flags
    c.self.inside.marks.flags c.self.invariant.watching c.self.invariant.full refl still.marked content (rule - 1) looks unmarked is)
