use Rattle.rw_base.proofs.Common.{◌≡◌, ◌∙◌, ap, rules, w64, FitsSigned, to_z, of_z, w128, to_z-of_z}
use Rattle.rw_base.proofs.Common.{Bool, [], option_map, ◌∷◌}
use Rattle.rw_method.specs.declared.put.Put.{Put}
use Rattle.rw_method.specs.Puts.{put}
use Rattle.rw_method.specs.Asking.{can_get}
use Rattle.rw_method.proofs.Misfits.{asks_then, refused_at_once}
use Rattle.rw_method.proofs.releasing.ask_parts.Goals as goal

pub returns-in-Ok : goal.returns-in-Ok
returns-in-Ok c =
    let from = rw (to_z-of_z w64 c.args.release c.ranges.release) at c.from.ensures in
    let fits : FitsSigned w128 c.args.release = search rules in
    let whole : to_z w128 (of_z w128 c.from.result) ≡ c.args.release = ap (λ z. to_z w128 (of_z w128 z)) from ∙ to_z-of_z w128 c.args.release fits in
    let first = rw whole at c.in-Ok.ensures.asks in
    let second = rw (to_z-of_z w128 c.args.spill c.ranges.spill) at c.ask-in-Ok.ensures.asks in
    record { asks = asks_then _ _ _ _ _ _ _ first.added first.fits second }

pub returns-in-Err : goal.returns-in-Err
returns-in-Err c =
    let from = rw (to_z-of_z w64 c.args.release c.ranges.release) at c.from.ensures in
    let fits : FitsSigned w128 c.args.release = search rules in
    let whole : to_z w128 (of_z w128 c.from.result) ≡ c.args.release = ap (λ z. to_z w128 (of_z w128 z)) from ∙ to_z-of_z w128 c.args.release fits in
    let first = rw whole at c.in-Err.ensures.asks in
    let fit : Put → Bool = can_get (option_map (λ rating. rating.now) c.args.table) c.args.view.now in
    record {
      asks = record {
        added = tt;
        fits = tt;
        refused =
            refused_at_once fit (put c.args.places.0 c.args.release c.args.number ∷ []) (put c.args.places.1 c.args.spill c.args.number ∷ [])
            c.in-Err.answer first.refused;
      };
    }
