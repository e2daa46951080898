use Rattle.rw_base.proofs.Common.{ap, map, ◌∙◌}
use Rattle.rw_agenda.specs.Agenda.{unfired}
use Rattle.rw_rules.proofs.Made.{made_for}
use Rattle.rw_rules.proofs.rules.Rules.for_policy.Goals as goal

pub returns : goal.returns
returns c =
    made_for c.args.basin.now c.args.policy.now c.in_ok-agenda.agenda _ _ c.in_ok-reads.reads.items c.in_ok-agenda.ensures.order
    (c.in_ok-agenda.ensures.rules ∙ ap (map unfired) c.as_slice.ensures.value) c.in_ok-reads.ensures
