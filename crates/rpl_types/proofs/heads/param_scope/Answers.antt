use Rattle.rw_base.proofs.Common.{arith, ◌≡◌, ◌∷◌, ◌+◌, ◌-◌, ap, drop, length, map, common_steps}
use Rattle.rpl_tree.specs.Seen.{parameter_of}
use Rattle.rpl_types.proofs.Heading.{one_before}
use Rattle.rpl_types.proofs.heads.param_scope.Goals as goal

pub loop-behind-preserved : goal.loop-behind-preserved
loop-behind-preserved c =
    let params = c.args.params.now in
    let left = length params - c.loop-behind.behind in
    let low = c.loop-behind-test.true in
    let counted : length params - (c.loop-behind.behind + 1) + 1 ≡ left = omega (arith, low) in
    let step : drop (length params - (c.loop-behind.behind + 1)) params ≡ c.index-params-params.result ∷ drop left params =
    grind (arith, common_steps, c.index-params-params.is, counted) in
    one_before c.loop-behind.scope c.push.new.self c.type_here.result (parameter_of c.index-params-params.result) _ _
    (rw c.deref.ensures.value at c.in-Ok.ensures.ok) (ap (map parameter_of) step) c.type_here.ensures c.loop-behind.invariant
