use Rattle.rw_base.proofs.Common.{subst, sym, ◌≤◌}
use Rattle.rw_record.proofs.Spans.{least_at}
use Rattle.rw_rerun.specs.Touched.{IsFrom}
use Rattle.rw_rerun.proofs.reach.least_in.Goals as goal

pub returns-in-Some : goal.returns-in-Some
returns-in-Some c =
    subst (IsFrom c.first.result.0) (sym c.in-Some.is)
    (λ place one there. subst (λ least. least ≤ one.cell.step.0) (sym c.first.ensures) (least_at c.in-Some.kept.looked place one there))
