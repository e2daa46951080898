use Rattle.rw_base.proofs.Common.{[], ◌∷◌}
use Rattle.rw_agenda.specs.Agenda.{is_marked, looked_by}
use Rattle.rw_agenda.proofs.Indexed.{fired_indexed, same_looks}
use Rattle.rw_agenda.proofs.law.index_stays.Goals as goal

pub returns-clause-fired : goal.returns-clause-fired
returns-clause-fired c =
    λ old new cells rule looks indexed known holds rules others. fired_indexed old new cells rule looks indexed known holds rules others

pub returns-clause-changed : goal.returns-clause-changed
returns-clause-changed c = λ basin old new cells put indexed rules marks.
    c.index.ensures basin cells (put ∷ []) (looked_by new) (is_marked old) (is_marked new) (marks put.content)
    (same_looks old new cells rules indexed)
