use Rattle.rw_base.proofs.Common.{◌∙◌, ◌≡◌, ◌<◌, true, length, sym, ap, arith, map, get_or-map, length-map}
use Rattle.rw_series.specs.Kept.{content_of}
use Rattle.rw_series.specs.Cells.{is_kept}
use Rattle.rw_series.proofs.Places.{Kept-of, within, kept_at-at}
use Rattle.rw_series.proofs.cells.kept_at.Goals as goal

pub bounds-cells-position_of : goal.bounds-cells-position_of
bounds-cells-position_of c =
    let kept = Kept-of c.args.slots c.args.steps c.args.slot c.args.step (sym c.is_kept.ensures ∙ c.if-is_kept.true) in
    omega (arith, within c.args.slots c.args.steps c.args.slot c.args.step kept, c.position_of.ensures, c.requires)

pub returns-then-is_kept : goal.returns-then-is_kept
returns-then-is_kept c =
    let there : is_kept c.args.slots c.args.steps c.args.slot c.args.step ≡ true = sym c.is_kept.ensures ∙ c.if-is_kept.true in
    let kept = Kept-of c.args.slots c.args.steps c.args.slot c.args.step there in
    let near : c.position_of.result < length c.args.cells.now =
    omega (arith, within c.args.slots c.args.steps c.args.slot c.args.step kept, c.position_of.ensures, c.requires) in
    let items = c.args.cells.now in
    let inside : c.position_of.result < length (map content_of items) = omega (arith, near, length-map items content_of) in
    c.content_of.ensures
    ∙ ap content_of c.index-cells-position_of.is
    ∙ sym (get_or-map content_of items c.position_of.result c.index-cells-position_of.result (content_of c.index-cells-position_of.result) near)
    ∙ kept_at-at c.args.slots c.args.steps (map content_of items) c.args.slot c.args.step c.position_of.result
    (content_of c.index-cells-position_of.result)
    there c.position_of.ensures inside
