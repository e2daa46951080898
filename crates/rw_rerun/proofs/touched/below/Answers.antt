use Rattle.rw_base.proofs.Common.{◌≡◌, ◌+◌, ◌-◌, ◌/◌, ◌<◌, ℕ, arith, false≢true, length, subst, sym, ◌∙◌}
use Rattle.rw_rerun.specs.Touched.{AreNotBelow}
use Rattle.rw_rerun.proofs.Order.{no_others, none_below, on_below, on_others}
use Rattle.rw_rerun.proofs.touched.below.Goals as goal

pub loop-first-init : goal.loop-first-init
loop-first-init c =
    let many = c.len-last.ensures in
    record {
      order = omega arith;
      few = omega (arith, many);
      below = none_below c.args.looked.now c.args.cell;
      others = subst (AreNotBelow c.args.looked.now c.args.cell) (sym many) (no_others c.args.looked.now c.args.cell);
    }

pub loop-first-preserved-then-is_below : goal.loop-first-preserved-then-is_below
loop-first-preserved-then-is_below c =
    let middle : ℕ = c.loop-first.first + (c.loop-first.last - c.loop-first.first) / 2 in
    let less = c.loop-first-test.true in
    let few = c.loop-first.invariant.few in
    record {
      order = omega (arith, less);
      few = few;
      below = on_below c.args.looked.now c.args.cell middle c.get.result c.requires c.get.ensures (c.is_below.ensures.0 c.if-is_below.true);
      others = c.loop-first.invariant.others;
    }

pub loop-first-preserved : goal.loop-first-preserved
loop-first-preserved c =
    let middle : ℕ = c.loop-first.first + (c.loop-first.last - c.loop-first.first) / 2 in
    let less = c.loop-first-test.true in
    let few = c.loop-first.invariant.few in
    let near : middle < length c.args.looked.now = omega (arith, less, few) in
    record {
      order = omega arith;
      few = omega (arith, near);
      below = c.loop-first.invariant.below;
      others = on_others c.args.looked.now c.args.cell middle c.get.result c.requires c.get.ensures
          (λ below. false≢true (sym c.if-is_below.false ∙ c.is_below.ensures.1 below));
    }

pub returns : goal.returns
returns c =
    let order = c.loop-first.invariant.order in
    let few = c.loop-first.invariant.few in
    let same : c.loop-first.last ≡ c.loop-first.first = let done = c.loop-first-test.false in omega (arith, order, done) in record {
      few = omega (arith, order, few);
      below = c.loop-first.invariant.below;
      others = λ place one there near. c.loop-first.invariant.others place one there (omega (arith, near, same));
    }
