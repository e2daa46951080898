use Rattle.rw_base.proofs.Common.{IsSome, arith, length, subst, sym, ◌∙◌, ◌≡◌, ◌≤◌}
use Rattle.rw_engine.specs.Engine.{Engine}
use Rattle.rw_engine.specs.Shows.{IsEngineOf}
use Rattle.rw_run.specs.Frame.{IsFramed}
use Rattle.rw_rules.specs.Rules.{policy_in}
use Rattle.rw_rerun.proofs.Following.{passes_behind}
use Rattle.rw_rerun.proofs.next.pass_behind.Goals as goal

pub pass_from-requires-clause-many : goal.pass_from-requires-clause-many
pass_from-requires-clause-many g c = c.requires.kept.many

pub pass_from-requires-clause-inputs : goal.pass_from-requires-clause-inputs
pass_from-requires-clause-inputs g c = c.requires.can.inputs

pub pass_from-requires-clause-stands : goal.pass_from-requires-clause-stands
pass_from-requires-clause-stands g c =
    let is = c.requires.stands in record { policy = c.args.setup.now.policy.now; start = is.start; end = is.end; stands = is.stands }

pub passed-requires-clause-fits : goal.passed-requires-clause-fits
passed-requires-clause-fits g c = c.requires.can.fits

pub passed-requires-clause-made : goal.passed-requires-clause-made
passed-requires-clause-made g c =
    let basin = c.args.setup.now.basin.now in
    let policy = c.args.setup.now.policy.now in
    let is = c.requires.stands in
    let ready = c.in_ok-pass.ensures.ready in
    let same = c.in_ok-pass.ensures.begins.engine in
    let there = ready.brings.stands policy is.start is.end is.stands in record {
      made = subst (IsEngineOf basin policy) (sym same) (ready.gives.made policy there.made);
      noted = subst (λ (engine : Engine). IsSome engine.noted) (sym same) (subst IsSome (sym ready.gives.noted) there.noted);
    }

pub passed-requires-clause-some : goal.passed-requires-clause-some
passed-requires-clause-some g c = let near = c.requires.left.near in let many = c.requires.kept.many in omega (arith, near, many)

pub returns : goal.returns
returns g c =
    let basin = c.args.setup.now.basin.now in
    let policy = c.args.setup.now.policy.now in
    let framed : IsFramed (policy_in basin policy) =
    (c.code_keeps_promises.ensures basin policy.blocks policy.budgets
    (c.answered_code_is_safe.ensures.accepted basin policy.blocks policy c.requires.can.fits)).framed in
    passes_behind basin policy c.args.next.inputs.now c.args.next.cells.now c.args.kept.now c.args.next.behind c.args.spare _ c.args.steps.now _ _ framed
    c.requires.left.near c.in_ok-pass.ensures c.passed.ensures
