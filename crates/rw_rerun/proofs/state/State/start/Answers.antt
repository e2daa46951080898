use Rattle.rw_base.proofs.Common.{List, None, Option, [], ap, arith, length, subst, sym, ◌∙◌, ◌≡◌}
use Rattle.std.proofs.lemmas.List.{length-replicate}
use Rattle.rw_model.specs.declared.control.RunControl.{RunControl}
use Rattle.rw_record.specs.Record.{StepRecord}
use Rattle.rw_rules.specs.Rules.{policy_in}
use Rattle.rw_rerun.specs.Kept.{AreKept}
use Rattle.rw_rerun.specs.Session.{IsStarted}
use Rattle.rw_rerun.specs.UnderWay.{AreReplayable, IsUnderWay}
use Rattle.rw_rerun.proofs.Sessions.{none_kept, none_replayed, starts}
use Rattle.rw_rerun.proofs.state.State.start.Goals as goal

abbrev nothing : Option StepRecord
nothing = None

pub pass_all-requires-clause-kept : goal.pass_all-requires-clause-kept
pass_all-requires-clause-kept g c =
    let basin = c.args.setup.now.basin.now in
    let lent = ap length c.deref.ensures.value in
    let all = ap length c.in_ok-kept.ensures in
    let each = length-replicate c.count.result nothing in
    let steps = ap (λ (k : RunControl). k.stamps.count) c.control.ensures in
    let value = c.count.ensures.value in record {
      many = omega (arith, lent, all, each, steps, value);
      each = subst (AreReplayable basin) (sym (c.deref.ensures.value ∙ c.in_ok-kept.ensures)) (none_replayed basin c.count.result);
    }

pub exchange-requires : goal.exchange-requires
exchange-requires g c =
    let basin = c.args.setup.now.basin.now in
    let policy = policy_in basin c.args.setup.now.policy.now in
    let many : length c.in_ok-kept.kept.items ≡ basin.control.stamps.count =
    let all = ap length c.in_ok-kept.ensures in
    let each = length-replicate c.count.result nothing in
    let steps = ap (λ (k : RunControl). k.stamps.count) c.control.ensures in let value =
    c.count.ensures.value in omega (arith, all, each, steps, value) in
    let none : AreKept basin policy [] 1 c.deref.result.now =
    subst (AreKept basin policy [] 1) (sym (c.deref.ensures.value ∙ c.in_ok-kept.ensures)) (none_kept basin policy 1 c.count.result) in
    (c.in_ok-pass.ensures.goes [] none).many ∙ sym many

pub returns-clause-started : goal.returns-clause-started
returns-clause-started g c =
    let basin = c.args.setup.now.basin.now in
    let policy = policy_in basin c.args.setup.now.policy.now in
    let pass = c.in_ok-pass.pass in
    let many : length c.in_ok-kept.kept.items ≡ basin.control.stamps.count =
    let all = ap length c.in_ok-kept.ensures in
    let each = length-replicate c.count.result nothing in
    let steps = ap (λ (k : RunControl). k.stamps.count) c.control.ensures in let value =
    c.count.ensures.value in omega (arith, all, each, steps, value) in
    let none : AreKept basin policy [] 1 c.deref.result.now =
    subst (AreKept basin policy [] 1) (sym (c.deref.ensures.value ∙ c.in_ok-kept.ensures)) (none_kept basin policy 1 c.count.result) in
    let way : IsUnderWay basin policy c.args.inputs [] c.in_ok-kept.kept.items pass basin.control.stamps.count =
    subst (λ (ks : List (Option StepRecord)). IsUnderWay basin policy c.args.inputs [] ks pass basin.control.stamps.count) c.deref.ensures.value
    (c.in_ok-pass.ensures.goes [] none) in
    subst (λ (ks : List (Option StepRecord)). IsStarted basin c.args.setup.now.policy.now c.args.inputs
    (record {
      basin = basin;
      policy = c.args.setup.now.policy.now;
      inputs = c.args.inputs;
      engine = pass.engine;
      kept = ks;
      reran = pass.reran.items;
      same = 0;
    }))
    (sym c.exchange.ensures)
    (starts basin c.args.setup.now.policy.now c.args.inputs c.in_ok-kept.kept.items pass c.requires.can.inputs c.in_ok-pass.ensures.made many way)
