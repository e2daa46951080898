use Rattle.rw_base.proofs.Common.{List, Option, [], ap, arith, length, subst, sym, ◌∙◌, ◌≡◌, ◌≤◌}
use Rattle.std.specs.Prelude.{is_some}
use Rattle.rw_inputs.specs.Placings.{placings}
use Rattle.rw_run.specs.Runs.{with_inputs}
use Rattle.rw_record.specs.Record.{StepRecord}
use Rattle.rw_rules.specs.Rules.{policy_in}
use Rattle.rw_rerun.specs.Session.{Session}
use Rattle.rw_rerun.specs.Spare.{AreKeptFrom, IsSpareIn, StandsIn}
use Rattle.rw_rerun.specs.UnderWay.{AreReplayable}
use Rattle.rw_rerun.proofs.Following.{passes_next, spare_ready}
use Rattle.rw_rerun.proofs.Sessions.{all_replayed}
use Rattle.rw_rerun.proofs.state.State.pass_next.Goals as goal

pub pass_behind-requires-clause-can : goal.pass_behind-requires-clause-can
pass_behind-requires-clause-can g c = record { fits = c.requires.made.made.fits; inputs = c.requires.inputs }

pub pass_behind-requires-clause-kept : goal.pass_behind-requires-clause-kept
pass_behind-requires-clause-kept g c =
    let basin = c.args.setup.now.basin.now in
    let lent : c.args.self.now.kept ≡ c.deref.result.now = sym (ap (λ (s : Session). s.kept) c.self.view_is) ∙ sym c.deref.ensures.value in
    let same = ap length lent in
    let many = c.requires.made.many in record {
      many = omega (arith, same, many);
      each =
          subst (AreReplayable basin) lent
          (all_replayed basin (policy_in basin c.args.setup.now.policy.now) c.requires.made.log c.args.self.now.kept c.requires.made.kept);
    }

pub pass_behind-requires-clause-stands : goal.pass_behind-requires-clause-stands
pass_behind-requires-clause-stands g c =
    let basin = c.args.setup.now.basin.now in
    let policy = c.args.setup.now.policy.now in
    let made = c.requires.made in
    let lent : c.args.self.now.kept ≡ c.deref.result.now = sym (ap (λ (s : Session). s.kept) c.self.view_is) ∙ sym c.deref.ensures.value in
    let stands : IsSpareIn basin policy c.args.self.now made.log c.in_ok-spare.spare =
    spare_ready basin policy c.args.self.now _ made c.self.inside.spare c.take-found.result c.in_ok-spare.spare c.is_kept-traced.result c.self.view_is
    (c.is_kept-traced.ensures ∙ ap is_some c.run.ensures.same.1) c.self.invariant
    c.take-found.ensures.value c.in_ok-spare.ensures in record {
      start = with_inputs [] (placings basin c.args.self.now.inputs);
      end = made.log;
      stands =
          subst (λ kept. StandsIn basin policy (with_inputs [] (placings basin c.args.self.now.inputs)) made.log kept c.in_ok-spare.spare) lent
          stands.stands;
    }

pub pass_behind-requires-clause-known : goal.pass_behind-requires-clause-known
pass_behind-requires-clause-known g c =
    let basin = c.args.setup.now.basin.now in
    let policy = c.args.setup.now.policy.now in
    let made = c.requires.made in
    let lent : c.args.self.now.kept ≡ c.deref.result.now = sym (ap (λ (s : Session). s.kept) c.self.view_is) ∙ sym c.deref.ensures.value in
    let stands : IsSpareIn basin policy c.args.self.now made.log c.in_ok-spare.spare =
    spare_ready basin policy c.args.self.now _ made c.self.inside.spare c.take-found.result c.in_ok-spare.spare c.is_kept-traced.result c.self.view_is
    (c.is_kept-traced.ensures ∙ ap is_some c.run.ensures.same.1) c.self.invariant
    c.take-found.ensures.value c.in_ok-spare.ensures in
    subst (λ kept. AreKeptFrom kept 0 c.in_ok-spare.spare.behind) lent stands.known

pub pass_behind-requires-clause-left : goal.pass_behind-requires-clause-left
pass_behind-requires-clause-left g c =
    let lent : c.args.self.now.kept ≡ c.deref.result.now = sym (ap (λ (s : Session). s.kept) c.self.view_is) ∙ sym c.deref.ensures.value in
    let same = ap length lent in
    let near = c.requires.near in record {
      near = omega (arith, same, near);
      known = subst (λ kept. AreKeptFrom kept 0 c.args.behind) lent c.requires.left;
    }

pub returns-clause-passes : goal.returns-clause-passes
returns-clause-passes g c =
    let basin = c.args.setup.now.basin.now in
    let policy = c.args.setup.now.policy.now in
    let made = c.requires.made in
    let lent : c.args.self.now.kept ≡ c.deref.result.now = sym (ap (λ (s : Session). s.kept) c.self.view_is) ∙ sym c.deref.ensures.value in
    let stands : IsSpareIn basin policy c.args.self.now made.log c.in_ok-spare.spare =
    spare_ready basin policy c.args.self.now _ made c.self.inside.spare c.take-found.result c.in_ok-spare.spare c.is_kept-traced.result c.self.view_is
    (c.is_kept-traced.ensures ∙ ap is_some c.run.ensures.same.1) c.self.invariant
    c.take-found.ensures.value c.in_ok-spare.ensures in
    passes_next basin policy c.args.self.now c.args.inputs.now c.args.cells.now c.args.behind c.deref.result.now c.in_ok-spare.spare
    c.args.steps.now _ _
    made stands lent c.pass_behind.ensures
