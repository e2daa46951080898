use Rattle.std.proofs.Common.{◌-◌, ◌<◌, ◌∙◌, ap, subst, length, arith, slice_index_or}
use Rattle.rw_model.specs.Kept.{KeepsSlots}
use Rattle.rw_model.proofs.Numbering.{length-firsts_from, get_or-firsts_from, some_slots}
use Rattle.rw_model.proofs.objects.Objects.slots_before.Goals as goal

pub index-requires : goal.index-requires
index-requires c =
    let kept = subst (λ os. KeepsSlots os c.self.inside.places.items c.self.inside.firsts.items) c.self.view_is c.self.invariant in
    omega (arith, c.from.ensures, ap length kept.begin, length-firsts_from 1 0 c.args.self.now, c.requires.first, c.requires.last)

pub returns-clause-before : goal.returns-clause-before
returns-clause-before c =
    let kept = subst (λ os. KeepsSlots os c.self.inside.places.items c.self.inside.firsts.items) c.self.view_is c.self.invariant in
    let within : c.args.o - 1 < length c.args.self.now = omega (arith, c.requires.first, c.requires.last) in
    c.index.ensures
    ∙ ap (λ n. slice_index_or c.self.inside.firsts.items (n - 1) c.index.result.now) c.from.ensures
    ∙ ap (λ ns. slice_index_or ns (c.args.o - 1) c.index.result.now) kept.begin
    ∙ get_or-firsts_from 1 0 c.args.self.now (c.args.o - 1) c.index.result.now within
    ∙ omega arith

pub returns-clause-few : goal.returns-clause-few
returns-clause-few c =
    let kept = subst (λ os. KeepsSlots os c.self.inside.places.items c.self.inside.firsts.items) c.self.view_is c.self.invariant in
    omega (arith, returns-clause-before c, some_slots 1 c.args.self.now (c.args.o - 1), kept.few_slots)
