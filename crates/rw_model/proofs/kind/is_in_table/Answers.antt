use Rattle.rw_base.proofs.Common.{◌≡◌, rules, FitsSigned, w64, to_z-of_z}
use Rattle.rw_table.specs.Curve.{elev_of}
use Rattle.rw_model.proofs.Inside.{some-iff-inside}
use Rattle.rw_model.proofs.kind.is_in_table.Goals as goal

pub returns : goal.returns
returns c =
    let fits : FitsSigned w64 c.args.volume = search rules in
    let elev : c.elev.result ≡ elev_of c.args.rating.now c.args.volume = simp (to_z-of_z w64 _ fits) at c.elev.ensures.elevation in
    rw (c.is_some.ensures, elev)
    (some-iff-inside c.args.rating.now c.args.volume (c.elevation_is_greatest.ensures c.args.rating.now c.args.volume c.elev.ensures.table))
