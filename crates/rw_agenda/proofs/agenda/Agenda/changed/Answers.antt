use Rattle.rw_base.proofs.Common.{ap, list_any, slice_index_or, true, ◌-◌, ◌∙◌, ◌||◌}
use Rattle.rw_run.specs.Dispatch.{cell_at}
use Rattle.rw_agenda.specs.CellIndex.{has_watch}
use Rattle.rw_agenda.proofs.Marking.{marks_known}
use Rattle.rw_agenda.proofs.agenda.Agenda.changed.Goals as goal

pub returns-clause-marked : goal.returns-clause-marked
returns-clause-marked c content rule looks unmarked is =
    rw (← c.self.view_is) (marks_known c.args.basin.now c.args.c c.self.inside.index c.self.inside.rules.items c.self.inside.marks.flags
    c.mark.new.marks.flags c.self.invariant.watching c.self.invariant.full c.mark.ensures.many
    (λ place near. c.mark.ensures.marked place near
    ∙ ap (λ group. slice_index_or c.self.inside.marks.flags place true
    || list_any (λ slot. has_watch c.self.inside.index (cell_at slot c.args.c.step.0) place) group) c.group.ensures.group)
    content (rule - 1) looks unmarked is)
