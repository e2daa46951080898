use Rattle.rw_base.proofs.Common.{List, Option, ap, arith, length, subst, sym, ◌∙◌, ◌≡◌, ◌≤◌}
use Rattle.rw_series.specs.Series.{held}
use Rattle.rw_run.specs.Frame.{IsFramed}
use Rattle.rw_record.specs.Record.{StepRecord}
use Rattle.rw_engine.specs.Engine.{Engine}
use Rattle.rw_rules.specs.Rules.{policy_in}
use Rattle.rw_rerun.specs.Kept.{changed}
use Rattle.rw_rerun.specs.Session.{Session}
use Rattle.rw_rerun.specs.Touched.{ReachFrom}
use Rattle.rw_rerun.proofs.Following.{spare_there, stands_there}
use Rattle.rw_rerun.proofs.Same.{same_in}
use Rattle.rw_rerun.proofs.Sessions.{session_behind}
use Rattle.rw_rerun.proofs.state.State.give_way.Goals as goal

pub spare_of-requires-clause-many : goal.spare_of-requires-clause-many
spare_of-requires-clause-many g c =
    let lent : c.args.self.now.kept ≡ c.deref.result.now = sym (ap (λ (s : Session). s.kept) c.self.view_is) ∙ sym c.deref.ensures.value in
    let many = c.requires.leaves.many in let same = ap length lent in omega (arith, many, same)

pub spare_of-requires-clause-some : goal.spare_of-requires-clause-some
spare_of-requires-clause-some g c = let many = c.requires.leaves.many in let few = c.requires.leaves.untouched.few in omega (arith, many, few)

pub spare_of-requires-clause-stands : goal.spare_of-requires-clause-stands
spare_of-requires-clause-stands g c =
    let lent : c.args.self.now.kept ≡ c.deref.result.now = sym (ap (λ (s : Session). s.kept) c.self.view_is) ∙ sym c.deref.ensures.value in
    stands_there c.args.setup.now.basin.now c.args.setup.now.policy.now c.args.self.now c.args.inputs c.args.cells.now c.args.behind c.args.pass
    c.requires 0
    c.deref.result.now _ lent (sym (ap (λ (s : Session). s.engine) c.self.view_is) ∙ sym c.replace-was.ensures.value)

pub exchange_for-self-inside-requires : goal.exchange_for-self-inside-requires
exchange_for-self-inside-requires g c =
    let same = ap (λ (s : Session). length s.kept) c.self.view_is in
    let many = c.requires.leaves.many in let all = c.requires.way.many in omega (arith, same, many, all)

pub invariant_of-self : goal.invariant_of-self
invariant_of-self g c =
    let lent : c.args.self.now.kept ≡ c.deref.result.now = sym (ap (λ (s : Session). s.kept) c.self.view_is) ∙ sym c.deref.ensures.value in
    let with_both : Engine → List (Option StepRecord) → Session = λ engine kept. record {
      basin = c.self.inside.basin.now;
      policy = c.self.inside.policy.now;
      inputs = c.args.inputs;
      engine = engine;
      kept = kept;
      reran = c.args.pass.reran.items;
      same = c.exchange_for-self-inside.result;
    } in
    spare_there c.args.setup.now.basin.now c.args.setup.now.policy.now c.args.self.now c.args.inputs c.args.cells.now c.args.behind
    c.args.pass c.requires
    c.exchange_for-self-inside.result
    c.deref.result.now _ lent (sym (ap (λ (s : Session). s.engine) c.self.view_is) ∙ sym c.replace-was.ensures.value) c.spare_of.result _
    c.spare_of.ensures
    (ap (λ (s : Session). session_behind s.basin s.policy c.args.inputs s.kept c.args.pass c.exchange_for-self-inside.result) (sym c.self.view_is)
    ∙ ap (with_both c.args.pass.engine) (sym c.exchange_for-self-inside.ensures.kept)
    ∙ ap (λ (engine : Engine). with_both engine c.exchange_for-self-inside.new.kept.items) (sym c.replace-was.ensures.after))

pub returns-clause-same : goal.returns-clause-same
returns-clause-same g c = λ cell before.
    let basin = c.args.setup.now.basin.now in
    let policy = c.args.setup.now.policy.now in
    let cells = c.args.cells.now in
    let step = c.exchange_for-self-inside.result in
    let framed : IsFramed (policy_in basin policy) =
    (c.code_keeps_promises.ensures basin policy.blocks policy.budgets
    (c.answered_code_is_safe.ensures.accepted basin policy.blocks policy c.requires.is.made.fits)).framed in
    ap (λ (engine : Engine). held engine.series cell) c.replace-was.ensures.after
    ∙ same_in basin policy c.args.self.now c.args.inputs cells c.args.behind c.args.pass c.requires framed cell step before
    (subst (λ (s : Session). ReachFrom cells s.kept c.args.behind step) c.self.view_is c.exchange_for-self-inside.ensures.before)
    (subst (λ kept. ReachFrom cells kept c.args.behind step)
    (c.exchange_for-self-inside.ensures.kept ∙ ap (λ (s : Session). changed s.kept c.args.pass.changes.items) c.self.view_is)
    c.exchange_for-self-inside.ensures.after)
