use Rattle.rw_base.proofs.Common.{◌≡◌, ◌+◌, ◌∷◌, ◌++◌, [], true, false, length, refl, arith, nat_tests}
use Rattle.std.proofs.lemmas.List.{length-append}
use Rattle.rw_model.proofs.ObjectFacts.{length-all_slots-push}
use Rattle.rw_model.proofs.BuildFacts.{size-is}
use Rattle.rw_model.proofs.judge.judge_size.Goals as goal

pub returns-then-slot_count-count_places-gt-SLOTS_MAX : goal.returns-then-slot_count-count_places-gt-SLOTS_MAX
returns-then-slot_count-count_places-gt-SLOTS_MAX c = λ name.
    let own : c.count-owner.result + 1 ≡ length c.args.objects.now + 1 = omega (arith, c.count-owner.ensures.count) in
    let all = length-append c.args.objects.now (record { name = name; kind = c.args.kind.now } ∷ []) in
    let slots = length-all_slots-push c.args.objects.now (record { name = name; kind = c.args.kind.now }) (c.count-owner.result + 1) own in
    let is =
    size-is (c.args.objects.now ++ record { name = name; kind = c.args.kind.now } ∷ []) false true
    (grind (arith, nat_tests, all, own, c.if-owner-gt-OBJECTS_MAX.false))
    (grind (arith, nat_tests, slots, c.slot_count.ensures.count, c.count_places.ensures.count, c.if-slot_count-count_places-gt-SLOTS_MAX.true)) in
    (rw c.from-then-slot_count-count_places-gt-SLOTS_MAX.ensures is, rw is refl)

pub returns : goal.returns
returns c = λ name.
    let own : c.count-owner.result + 1 ≡ length c.args.objects.now + 1 = omega (arith, c.count-owner.ensures.count) in
    let all = length-append c.args.objects.now (record { name = name; kind = c.args.kind.now } ∷ []) in
    let slots = length-all_slots-push c.args.objects.now (record { name = name; kind = c.args.kind.now }) (c.count-owner.result + 1) own in
    size-is (c.args.objects.now ++ record { name = name; kind = c.args.kind.now } ∷ []) false false
    (grind (arith, nat_tests, all, own, c.if-owner-gt-OBJECTS_MAX.false))
    (grind (arith, nat_tests, slots, c.slot_count.ensures.count, c.count_places.ensures.count, c.if-slot_count-count_places-gt-SLOTS_MAX.false))
