use Rattle.rw_dispatch.proofs.Common.{IsViewOf, View, held, refl, subst, sym, ◌∙◌}
use Rattle.rw_dispatch.proofs.Viewed.{IsViewOf-view, filled-view, late_none}
use Rattle.rw_dispatch.proofs.turn.see.Goals as goal

pub returns-clause-seen : goal.returns-clause-seen
returns-clause-seen c =
    let view : View = record { own = c.args.object; now = c.see_slots.new.now; past = c.past_value-view.result; bounds = c.see_slots.new.bounds } in
    filled-view c.args.basin.now (held c.args.series.now) c.args.object.0 c.args.step.0 view refl c.see_slots.ensures.contents
    c.past_value-view.ensures
    c.see_slots.ensures.bounds

pub returns-clause-view : goal.returns-clause-view
returns-clause-view c =
    subst (IsViewOf c.kind-kind.result.now) (sym (returns-clause-seen c))
    (IsViewOf-view c.args.basin.now (held c.args.series.now) c.args.object.0 c.args.step.0 c.kind-kind.result.now c.object_count-objects.ensures.valid
    c.requires.turn.known c.kind-kind.ensures.kind c.kind-kind.ensures.sound c.requires.turn.at.first c.requires.turn.at.last c.requires.made.bounded)

pub see_slots-requires-clause-late : goal.see_slots-requires-clause-late
see_slots-requires-clause-late c = λ none place far.
    late_none c.args.basin.now.objects c.args.object.0 c.kind-kind.result.now place c.kind-kind.ensures.kind (sym c.has_late-late.ensures ∙ none) far
