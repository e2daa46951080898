use Rattle.rw_base.proofs.Common.{Some, [], ap, append-nil, arith, length, refl, slice_get, subst, sym, ◌<◌, ◌≡◌, ◌≤◌}
use Rattle.rw_model.specs.declared.control.RunControl.{RunControl}
use Rattle.rw_run.specs.Frame.{IsFramed}
use Rattle.rw_rules.specs.Rules.{policy_in}
use Rattle.rw_rerun.specs.UnderWay.{IsUnderWay}
use Rattle.rw_rerun.proofs.Counted.{wants_rest}
use Rattle.rw_rerun.proofs.Gives.{keeps_more, keeps_same}
use Rattle.rw_rerun.proofs.Sessions.{entry_there, passes_on, replayed_here}
use Rattle.rw_rerun.proofs.Ways.{grows_on}
use Rattle.rw_rerun.proofs.passing.pass_rest.Goals as goal

pub loop-before-init : goal.loop-before-init
loop-before-init g c = record {
  made = c.requires.made;
  way = λ inputs earlier kept way. way;
  grows = ([], sym (append-nil c.args.pass.now.changes.items));
  kept = keeps_same c.args.pass.now.engine c.args.pass.now.engine refl;
  each = omega arith;
  rises = omega arith;
  few = omega arith;
}

pub pass_step-requires-clause-can : goal.pass_step-requires-clause-can
pass_step-requires-clause-can g c =
    let basin = c.args.setup.now.basin.now in
    let steps = ap (λ (k : RunControl). k.stamps.count) c.control.ensures in
    let near : c.loop-before.before < basin.control.stamps.count = let test = c.loop-before-test.true in let value =
    c.count-before-end.ensures.value in omega arith in
    replayed_here basin c.args.kept.now c.loop-before.before c.index-kept-from.result c.requires.kept.each
    (entry_there c.args.kept.now c.loop-before.before c.from.result basin.control.stamps.count c.index-kept-from.result c.from.ensures near
    c.requires.kept.many
    c.index-kept-from.is)

pub returns-in_err-pass_step : goal.returns-in_err-pass_step
returns-in_err-pass_step g c =
    let basin = c.args.setup.now.basin.now in
    let steps = ap (λ (k : RunControl). k.stamps.count) c.control.ensures in
    let near : c.loop-before.before < basin.control.stamps.count = let test = c.loop-before-test.true in let value =
    c.count-before-end.ensures.value in omega arith in
    let were = c.loop-before.invariant.rises in
    let most = c.loop-before.invariant.few in
    let rises = c.pass_step.ensures.rises in
    let few = c.pass_step.ensures.few in
    wants_rest basin c.args.setup.now.policy.now c.args.kept.now c.args.behind c.args.pass.now _ c.args.steps.now _ c.from_residual.result _
    c.from_residual.ensures.1 (omega (arith, were, rises)) (omega (arith, most, few, near))

pub loop-before-preserved : goal.loop-before-preserved
loop-before-preserved g c =
    let basin = c.args.setup.now.basin.now in
    let policy = c.args.setup.now.policy.now in
    let steps = ap (λ (k : RunControl). k.stamps.count) c.control.ensures in
    let near : c.loop-before.before < basin.control.stamps.count = let test = c.loop-before-test.true in let value =
    c.count-before-end.ensures.value in omega arith in
    let there : slice_get c.args.kept.now c.loop-before.before ≡ Some c.index-kept-from.result =
    entry_there c.args.kept.now c.loop-before.before c.from.result basin.control.stamps.count c.index-kept-from.result c.from.ensures near
    c.requires.kept.many
    c.index-kept-from.is in
    let framed : IsFramed (policy_in basin policy) =
    (c.code_keeps_promises.ensures basin policy.blocks policy.budgets
    (c.answered_code_is_safe.ensures.accepted basin policy.blocks policy c.requires.fits)).framed in
    let was = c.loop-before.invariant.each in
    let most = c.loop-before.invariant.few in
    let were = c.loop-before.invariant.rises in
    let more = c.in_ok-pass_step.ensures.each in
    let rises = c.in_ok-pass_step.ensures.rises in
    let few = c.in_ok-pass_step.ensures.few in record {
      made = c.in_ok-pass_step.ensures.made;
      way = λ inputs earlier kept way.
          passes_on basin policy inputs earlier c.args.kept.now c.loop-before.before c.index-kept-from.result c.loop-before.pass c.pass_step.new.pass
          c.loop-before.steps c.pass_step.new.steps _ framed there kept c.in_ok-pass_step.ensures
          (c.loop-before.invariant.way inputs earlier kept way);
      grows = grows_on c.args.pass.now c.loop-before.pass c.pass_step.new.pass c.loop-before.invariant.grows c.in_ok-pass_step.ensures.grows;
      kept =
          keeps_more c.args.pass.now.engine c.loop-before.pass.engine c.pass_step.new.pass.engine c.loop-before.invariant.kept
          c.in_ok-pass_step.ensures.kept;
      each = omega (arith, was, more);
      rises = omega (arith, were, rises);
      few = omega (arith, most, few);
    }

pub returns : goal.returns
returns g c =
    let basin = c.args.setup.now.basin.now in
    let policy = c.args.setup.now.policy.now in
    let steps = ap (λ (k : RunControl). k.stamps.count) c.control.ensures in
    let some = c.requires.some in
    let last : c.loop-before.before ≡ basin.control.stamps.count =
    let test = c.loop-before-test.false in let end = c.loop-before.auto.before-end in let value = c.count-before-end.ensures.value in omega arith in
    let was = c.loop-before.invariant.each in
    let were = c.loop-before.invariant.rises in
    let most = c.loop-before.invariant.few in record {
      made = c.loop-before.invariant.made;
      goes = λ inputs earlier kept way.
          subst (λ n. IsUnderWay basin (policy_in basin policy) inputs earlier c.args.kept.now c.loop-before.pass n) last
          (c.loop-before.invariant.way inputs earlier kept way);
      grows = c.loop-before.invariant.grows;
      kept = c.loop-before.invariant.kept;
      each = was;
      rises = were;
      few = omega (arith, most, last);
    }
