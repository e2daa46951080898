use Rattle.std.proofs.Common.{◌<◌, bytes_eq, length, sym, ap, ◌∙◌, arith}
use Rattle.rpl_verify.proofs.NameFacts.{found_here, left_on}
use Rattle.rpl_verify.proofs.names.find_object.Goals as goal

pub returns-then-eq-clause-number : goal.returns-then-eq-clause-number
returns-then-eq-clause-number c =
    let lt : c.loop-place.place < length c.args.basin.now.objects = let t = c.loop-place-test.true in let n =
    c.object_count-place-end.ensures.count in omega (arith, t, n) in
    sym (found_here c.args.basin.now.objects c.args.name.now c.object_name.result.now c.loop-place.place c.loop-place.invariant lt
    c.object_name.ensures (ap (λ t. bytes_eq t c.object_name.result.now) (sym c.as_str.ensures) ∙ sym c.if-eq.ensures))

pub loop-place-preserved : goal.loop-place-preserved
loop-place-preserved c =
    let lt : c.loop-place.place < length c.args.basin.now.objects = let t = c.loop-place-test.true in let n =
    c.object_count-place-end.ensures.count in omega (arith, t, n) in
    left_on c.args.basin.now.objects c.args.name.now c.object_name.result.now c.loop-place.place c.loop-place.invariant lt c.object_name.ensures
    (ap (λ t. bytes_eq t c.object_name.result.now) (sym c.as_str.ensures) ∙ sym c.if-eq.ensures)
