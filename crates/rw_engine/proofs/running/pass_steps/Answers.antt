use Rattle.rw_engine.proofs.Common.{IsSome, RunControl, ap, arith, end_of, subst, sym, ◌+◌, ◌<◌, ◌∙◌, ◌∷◌, ◌≡◌}
use Rattle.rw_rules.specs.Rules.{policy_in}
use Rattle.rw_engine.proofs.Runs.{before_step, comes_faulted, comes_settled, counted_fault, counted_settled, stands_first, stands_next, unpassed}
use Rattle.rw_engine.proofs.Turns.{few_turns, more_turns}
use Rattle.rw_engine.proofs.running.pass_steps.Goals as goal

pub loop-before-init : goal.loop-before-init
loop-before-init g c = record {
  made = c.requires.made;
  kept = λ kept. kept;
  last = c.requires.begun;
  steps = omega arith;
  few = let none = c.requires.turns in omega (arith, none);
  stands =
      λ inputs shows. stands_first c.args.setup.now.basin.now (policy_in c.args.setup.now.basin.now c.args.setup.now.policy.now) _ inputs
      c.args.engine.now shows c.requires.turns;
}

pub loop-before-preserved : goal.loop-before-preserved
loop-before-preserved g c =
    let basin = c.args.setup.now.basin.now in
    let steps = ap (λ (k : RunControl). k.stamps.count) c.control.ensures in
    let near : c.loop-before.before < basin.control.stamps.count = let test = c.loop-before-test.true in let value =
    c.count-before-end.ensures.value in omega arith in
    let was = c.loop-before.invariant.steps in
    let more = c.in_ok-end.ensures.counted in
    record {
      made = c.run_step_by.ensures.runs.made;
      kept = λ kept. c.run_step_by.ensures.runs.kept.trace ∙ c.loop-before.invariant.kept kept;
      few = more_turns basin c.loop-before.before _ _ c.in_ok-end.ensures.runs.few c.loop-before.invariant.few;
      last = rw c.in-Closed.is at c.in_ok-end.ensures.runs.closed_steps;
      steps = omega (arith, was, more);
      stands = λ inputs shows. let stands = c.loop-before.invariant.stands inputs shows in
          stands_next basin (policy_in basin c.args.setup.now.policy.now) _ inputs c.loop-before.engine c.run_step_by.new.self
          c.loop-before.before stands
          (rw c.in-Closed.is at c.in_ok-end.ensures.runs.passes stands.log stands.shows
          (before_step basin stands.log c.loop-before.before stands.rest near));
    }

pub returns-in_err-end : goal.returns-in_err-end
returns-in_err-end g c =
    let steps = ap (λ (k : RunControl). k.stamps.count) c.control.ensures in
    let test = c.loop-before-test.true in
    let value = c.count-before-end.ensures.value in
    let was = c.loop-before.invariant.steps in
    let none = c.in_err-end.ensures.counted in
    unpassed c.args.setup.now.basin.now c.args.setup.now.policy.now _ c.args.engine.now _ _ _ c.from_residual.result _ c.from_residual.ensures.1
    (omega (arith, was, none)) (omega (arith, steps, test, value, was, none))

pub returns-in-Fault : goal.returns-in-Fault
returns-in-Fault g c = λ run is.
    let basin = c.args.setup.now.basin.now in
    let policy = c.args.setup.now.policy.now in
    let before = c.loop-before.before in
    let steps = ap (λ (k : RunControl). k.stamps.count) c.control.ensures in
    let near : before < basin.control.stamps.count = let test = c.loop-before-test.true in let value =
    c.count-before-end.ensures.value in omega arith in
    let was = c.loop-before.invariant.steps in
    let more = c.in_ok-end.ensures.counted in
    let made = c.run_step_by.ensures.runs.made in record {
      comes = λ inputs shows.
          let stands = c.loop-before.invariant.stands inputs shows in
          let passes =
          rw c.in-Fault.is at c.in_ok-end.ensures.runs.passes stands.log stands.shows (before_step basin stands.log before stands.rest near) in
          comes_faulted basin (policy_in basin policy) _ inputs c.loop-before.engine c.run_step_by.new.self before (before + 1) c.in-Fault.field-0
          run stands passes
          (few_turns basin (before + 1) c.run_step_by.new.self.turns made.valid (omega (arith, near))
          (more_turns basin before _ _ c.in_ok-end.ensures.runs.few c.loop-before.invariant.few))
          (is.run_is basin policy (passes.last ∷ passes.before) made passes.shows);
      opened_steps = λ inputs shows.
          let stands = c.loop-before.invariant.stands inputs shows in
          let passes =
          rw c.in-Fault.is at c.in_ok-end.ensures.runs.passes stands.log stands.shows (before_step basin stands.log before stands.rest near) in
          let end = (is.run_is basin policy (passes.last ∷ passes.before) made passes.shows).end in
          let last : c.run_step_by.new.self.closed ≡ c.loop-before.engine.closed = rw c.in-Fault.is at c.in_ok-end.ensures.runs.closed_steps in
          counted_fault _ _ before run.end run.closed c.in-Fault.field-0
          (end ∙ ap (λ event. end_of (event ∷ passes.before)) passes.ends)
          (is.same.0 ∙ last ∙ c.loop-before.invariant.last) was more;
      closed_steps = is.closed_steps basin policy made;
      kept =
          λ kept. subst (λ trace. IsSome trace) (sym is.same.1)
          (c.run_step_by.ensures.runs.kept.trace ∙ c.loop-before.invariant.kept kept);
      rises = omega (arith, was, more);
      few = omega (arith, near, was, more);
    }

pub returns : goal.returns
returns g c = λ run is.
    let basin = c.args.setup.now.basin.now in
    let policy = c.args.setup.now.policy.now in
    let before = c.loop-before.before in
    let steps = ap (λ (k : RunControl). k.stamps.count) c.control.ensures in
    let last : before ≡ basin.control.stamps.count =
    let test = c.loop-before-test.false in let end = c.loop-before.auto.before-end in let value = c.count-before-end.ensures.value in omega arith in
    let was = c.loop-before.invariant.steps in
    let made = c.loop-before.invariant.made in record {
      comes = λ inputs shows.
          let stands = c.loop-before.invariant.stands inputs shows in
          comes_settled basin (policy_in basin policy) _ inputs c.loop-before.engine before run stands last
          (few_turns basin before c.loop-before.engine.turns made.valid (omega (arith, last)) c.loop-before.invariant.few)
          (is.run_is basin policy stands.log made stands.shows);
      opened_steps = λ inputs shows.
          let stands = c.loop-before.invariant.stands inputs shows in
          counted_settled _ _ before run.end run.closed stands.log stands.rest
          (is.run_is basin policy stands.log made stands.shows).end (is.same.0 ∙ c.loop-before.invariant.last) was;
      closed_steps = is.closed_steps basin policy made;
      kept = λ kept. subst (λ trace. IsSome trace) (sym is.same.1) (c.loop-before.invariant.kept kept);
      rises = omega (arith, was);
      few = omega (arith, last, was);
    }
