use Rattle.rw_base.proofs.Common.{arith, ◌≡◌, ◌∷◌, ◌+◌, ap, drop, is_some, map, sym, ◌∙◌, common_steps}
use Rattle.rpl_tree.specs.Seen.{parameter_of}
use Rattle.rpl_types.proofs.Heading.{from_none, seen_here, seen_next}
use Rattle.rpl_types.proofs.heads.repeats_name.Goals as goal

pub loop-param-init : goal.loop-param-init
loop-param-init c = rw c.new-seen.ensures (from_none (map parameter_of c.args.params.now))

pub loop-param-preserved : goal.loop-param-preserved
loop-param-preserved c =
    let at = c.loop-param.param-index in
    let step : drop at c.args.params.now ≡ c.param-item.result ∷ drop (at + 1) c.args.params.now = grind (arith, common_steps, c.param-item.is) in
    seen_next c.loop-param.seen c.push.new.self (parameter_of c.param-item.result) _ _ (ap (map parameter_of) step)
    (rw c.deref.ensures.value at (sym c.in-None.ensures)) (rw c.deref-in-loop-param.ensures.value at c.in-Ok.ensures.ok)
    ∙ c.loop-param.invariant

pub returns-in-Some : goal.returns-in-Some
returns-in-Some c =
    let at = c.loop-param.param-index in
    let step : drop at c.args.params.now ≡ c.param-item.result ∷ drop (at + 1) c.args.params.now = grind (arith, common_steps, c.param-item.is) in
    record {
      ok = sym (seen_here c.loop-param.seen (parameter_of c.param-item.result) _ _ (ap (map parameter_of) step)
          (rw c.deref.ensures.value at (ap is_some (sym c.in-Some.ensures)))) ∙ c.loop-param.invariant;
      err = tt;
    }
