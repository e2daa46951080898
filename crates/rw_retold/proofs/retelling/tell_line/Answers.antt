use Rattle.rw_base.proofs.Common.{Ok, ap, arith, refl, string_bytes, subst, ◌∷◌}
use Rattle.rw_rules.specs.Rules.{policy_in}
use Rattle.rw_retold.specs.Walk.{IsWalkedTo}
use Rattle.rw_retold.proofs.Walking.{fire_goes, is_put, line_code, opened_goes, plain_goes, solve_goes, tells_done, tells_none, write_goes}
use Rattle.rw_retold.proofs.retelling.tell_line.Goals as goal

pub returns-in-Written-clause-goes : goal.returns-in-Written-clause-goes
returns-in-Written-clause-goes g c = λ left log whole stands.
    let basin = c.args.setup.now.basin.now in
    let policy = policy_in basin c.args.setup.now.policy.now in
    let walk = c.args.walk.now in
    let text = string_bytes c.args.text.now in
    write_goes basin policy _ left log whole walk c.write.new.self text c.write.ensures.step c.write.ensures.cells
    (subst (λ one. IsWalkedTo basin policy (one ∷ left) log whole walk text) c.in-Written.is stands)

pub returns-in-Opened-clause-goes : goal.returns-in-Opened-clause-goes
returns-in-Opened-clause-goes g c = λ left log whole stands.
    let basin = c.args.setup.now.basin.now in
    let policy = policy_in basin c.args.setup.now.policy.now in
    let walk = c.args.walk.now in
    let text = string_bytes c.args.text.now in
    let grown = string_bytes c.push_plain.new.text in
    opened_goes basin policy c.in-Opened.step left log whole walk _ text grown
    (subst (λ one. IsWalkedTo basin policy (one ∷ left) log whole walk text) c.in-Opened.is stands) refl refl c.push_plain.result
    c.push_plain.ensures

pub returns-in_ok-push_plain-in-Solve-clause-goes : goal.returns-in_ok-push_plain-in-Solve-clause-goes
returns-in_ok-push_plain-in-Solve-clause-goes g c = λ left log whole stands.
    let basin = c.args.setup.now.basin.now in
    let policy = policy_in basin c.args.setup.now.policy.now in
    let walk = c.args.walk.now in
    let text = string_bytes c.args.text.now in
    let mid = string_bytes c.push_plain-in-Solve.new.text in
    solve_goes basin policy c.in-Solve.object left log whole walk c.tell_dispatch.new.self text mid (string_bytes c.tell_dispatch.new.text)
    (subst (λ one. IsWalkedTo basin policy (one ∷ left) log whole walk text) c.in-Solve.is stands) c.tell_dispatch.ensures.same.0
    c.tell_dispatch.ensures.same.1
    c.in_ok-push_plain-in-Solve.ensures c.tell_dispatch.result c.tell_dispatch.ensures.told

pub returns-then-done-clause-goes : goal.returns-then-done-clause-goes
returns-then-done-clause-goes g c = λ left log whole stands.
    let basin = c.args.setup.now.basin.now in
    let blocks = c.args.setup.now.policy.now.blocks in
    let policy = policy_in basin c.args.setup.now.policy.now in
    let walk = c.args.walk.now in
    let text = string_bytes c.args.text.now in
    let mid = string_bytes c.push_plain-in-Fire.new.text in
    let grown = string_bytes c.tell_firing.new.text in
    fire_goes basin blocks c.in-Fire.rule c.in-Fire.done _ left log whole walk c.tell_firing.new.self text mid grown
    (subst (λ one. IsWalkedTo basin policy (one ∷ left) log whole walk text) c.in-Fire.is stands) c.tell_firing.ensures.same.0
    c.tell_firing.ensures.same.1
    c.in_ok-push_plain-in-Fire.ensures c.tell_firing.result
    (tells_done basin blocks c.in-Fire.rule.0 c.in-Fire.done walk mid grown c.tell_firing.result c.if-done.true c.tell_firing.ensures.told)

pub returns-else-done-clause-goes : goal.returns-else-done-clause-goes
returns-else-done-clause-goes g c = λ left log whole stands.
    let basin = c.args.setup.now.basin.now in
    let blocks = c.args.setup.now.policy.now.blocks in
    let policy = policy_in basin c.args.setup.now.policy.now in
    let walk = c.args.walk.now in
    let text = string_bytes c.args.text.now in
    let mid = string_bytes c.push_plain-in-Fire.new.text in
    fire_goes basin blocks c.in-Fire.rule c.in-Fire.done _ left log whole walk walk text mid mid
    (subst (λ one. IsWalkedTo basin policy (one ∷ left) log whole walk text) c.in-Fire.is stands) refl refl
    c.in_ok-push_plain-in-Fire.ensures (Ok tt)
    (tells_none basin blocks c.in-Fire.rule.0 c.in-Fire.done walk mid c.if-done.false)

pub returns-in-Idle-clause-goes : goal.returns-in-Idle-clause-goes
returns-in-Idle-clause-goes g c = λ left log whole stands.
    let basin = c.args.setup.now.basin.now in
    let code = ap line_code c.in-Idle.is in
    plain_goes basin (policy_in basin c.args.setup.now.policy.now) c.args.line left log whole c.args.walk.now (string_bytes c.args.text.now) stands
    (ap is_put c.in-Idle.is) (λ e. absurd (omega (arith, e, code))) (λ e. absurd (omega (arith, e, code))) (λ e. absurd (omega (arith, e, code)))
    (string_bytes c.push_plain-in-Idle.new.text) c.push_plain-in-Idle.result c.push_plain-in-Idle.ensures

pub returns-in-Closed-clause-goes : goal.returns-in-Closed-clause-goes
returns-in-Closed-clause-goes g c = λ left log whole stands.
    let basin = c.args.setup.now.basin.now in
    let code = ap line_code c.in-Closed.is in
    plain_goes basin (policy_in basin c.args.setup.now.policy.now) c.args.line left log whole c.args.walk.now (string_bytes c.args.text.now) stands
    (ap is_put c.in-Closed.is) (λ e. absurd (omega (arith, e, code))) (λ e. absurd (omega (arith, e, code))) (λ e. absurd (omega (arith, e, code)))
    (string_bytes c.push_plain-in-Closed.new.text) c.push_plain-in-Closed.result c.push_plain-in-Closed.ensures

pub returns-in-Fault-clause-goes : goal.returns-in-Fault-clause-goes
returns-in-Fault-clause-goes g c = λ left log whole stands.
    let basin = c.args.setup.now.basin.now in
    let code = ap line_code c.in-Fault.is in
    plain_goes basin (policy_in basin c.args.setup.now.policy.now) c.args.line left log whole c.args.walk.now (string_bytes c.args.text.now) stands
    (ap is_put c.in-Fault.is) (λ e. absurd (omega (arith, e, code))) (λ e. absurd (omega (arith, e, code))) (λ e. absurd (omega (arith, e, code)))
    (string_bytes c.push_plain-in-Fault.new.text) c.push_plain-in-Fault.result c.push_plain-in-Fault.ensures
