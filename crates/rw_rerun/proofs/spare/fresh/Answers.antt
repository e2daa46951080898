use Rattle.rw_base.proofs.Common.{[], arith, refl, subst, sym, ◌∙◌}
use Rattle.rw_inputs.specs.Placings.{placings}
use Rattle.rw_inputs.specs.Inputs.{Inputs}
use Rattle.rw_engine.specs.Shows.{Shows}
use Rattle.rw_run.specs.Runs.{with_inputs}
use Rattle.rw_rerun.proofs.spare.fresh.Goals as goal

pub returns : goal.returns
returns c = λ session is same traced. record {
  stands = record {
    made = c.in_ok-engine.ensures.begun.made;
    noted = c.in_ok-engine.ensures.noted;
    few = omega arith;
    log = with_inputs [] (placings c.args.basin.now session.inputs);
    shows = subst (λ (inputs : Inputs). Shows c.args.basin.now c.in_ok-engine.engine (with_inputs [] (placings c.args.basin.now inputs))) (sym same)
        c.in_ok-engine.ensures.begun.shows;
    before = refl;
    rest = is.linked;
  };
  kept = record { trace = c.in_ok-engine.ensures.kept ∙ sym traced; noted = c.in_ok-engine.ensures.noted ∙ sym is.noted };
  known = λ place entry first last there. absurd (omega (arith, last));
}
