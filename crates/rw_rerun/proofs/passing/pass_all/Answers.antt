use Rattle.rw_base.proofs.Common.{[], refl}
use Rattle.rw_inputs.specs.Placings.{placings}
use Rattle.rw_run.proofs.Passings.{begun, nothing_of}
use Rattle.rw_run.proofs.Placed.{standing-placed}
use Rattle.rw_run.specs.Runs.{with_inputs}
use Rattle.rw_rules.specs.Rules.{policy_in}
use Rattle.rw_rerun.proofs.Following.{passes_all}
use Rattle.rw_rerun.proofs.Showing.{placed_shown}
use Rattle.rw_rerun.proofs.Ways.{first_way}
use Rattle.rw_rerun.proofs.passing.pass_all.Goals as goal

pub passed-requires-clause-fits : goal.passed-requires-clause-fits
passed-requires-clause-fits g c = c.requires.can.fits

pub passed-requires-clause-made : goal.passed-requires-clause-made
passed-requires-clause-made g c = record { made = c.in_ok-engine.ensures.begun.made; noted = c.in_ok-engine.ensures.noted }

pub returns : goal.returns
returns g c =
    let basin = c.args.setup.now.basin.now in
    let policy = c.args.setup.now.policy.now in
    let inputs = placings basin c.args.inputs.now in
    passes_all basin policy c.args.inputs.now c.args.traced c.args.kept.now _ c.args.steps.now _ c.passed.result c.in_ok-engine.ensures.kept
    c.new.ensures.items
    (λ earlier.
    first_way basin (policy_in basin policy) c.args.inputs.now earlier c.args.kept.now _ c.new-2.ensures.items c.new.ensures.items refl
    c.in_ok-engine.ensures.begun.shows (standing-placed [] inputs refl) (begun inputs)
    (λ step. (nothing_of step (with_inputs [] inputs) (begun inputs step)).0)
    (placed_shown basin c.args.inputs.now c.requires.can.inputs))
    c.passed.ensures
