use Rattle.rw_base.proofs.Common.{Bool, FitsSigned, ap, arith, of_z, option_map, rules, subst, to_z, to_z-of_z, w64, w128, ◌∙◌, ◌≡◌}
use Rattle.rw_method.specs.declared.put.Put.{Put}
use Rattle.rw_method.specs.Asking.{Asks, can_get}
use Rattle.rw_power.proofs.Parts.{room, unsolved}
use Rattle.rw_power.proofs.flows.ask_flows.Goals as goal

pub returns-in-Idle : goal.returns-in-Idle
returns-in-Idle c =
    let value : FitsSigned w64 c.in-Some.asked.value = search rules in
    let from = rw (to_z-of_z w64 c.in-Some.asked.value value) at c.from.ensures in
    let fits : FitsSigned w128 c.in-Some.asked.value = search rules in
    let whole : to_z w128 (of_z w128 c.from.result) ≡ c.in-Some.asked.value =
    ap (λ z. to_z w128 (of_z w128 z)) from ∙ to_z-of_z w128 c.in-Some.asked.value fits in
    let alone = rw (whole, to_z-of_z w128 c.in-Some.asked.value fits, c.asked_number.ensures) at c.ask.ensures.asks in
    let fit : Put → Bool = can_get (option_map (λ rating. rating.now) c.args.table) c.args.view.now in
    let asks =
    subst (λ puts. Asks fit puts c.args.puts.now c.ask.new.puts c.ask.result)
    (unsolved c.in-Some.asked c.args.terms.now c.args.balanced c.in-Idle.is) alone in
    rw c.in-Some.is (record { asks = asks; room = room _ _ _ _ _ 2 (omega arith) alone })
