use Rattle.rw_base.proofs.Common.{◌≡◌, ◌*◌, length, ap, ◌∙◌, arith, rules, map, slice_set, map-set, length-map}
use Rattle.rw_series.specs.Kept.{content_of}
use Rattle.rw_series.specs.Cells.{position_of, kept_at}
use Rattle.rw_series.proofs.Places.{Kept-of, within, kept_at-set}
use Rattle.rw_series.proofs.cells.keep_at.Goals as goal

pub index_mut-requires : goal.index_mut-requires
index_mut-requires c =
    let kept = Kept-of c.args.slots c.args.steps c.args.slot c.args.step c.requires.kept in
    omega (arith, within c.args.slots c.args.steps c.args.slot c.args.step kept, c.position_of.ensures, c.requires.whole)

pub returns-clause-cells : goal.returns-clause-cells
returns-clause-cells c s t =
    let items = c.args.cells.now.items in
    let same : length (map content_of items) ≡ length items = length-map items content_of in
    let whole : length (map content_of items) ≡ c.args.slots * c.args.steps = same ∙ search rules in
    let at = position_of c.args.slots c.args.slot c.args.step in
    rw c.position_of.ensures (
    ap (λ cells. kept_at c.args.slots c.args.steps cells s t)
    (map-set content_of items at c.kept_of.result ∙ ap (slice_set (map content_of items) at) c.kept_of.ensures)
    ∙ kept_at-set c.args.slots c.args.steps (map content_of items) c.args.slot c.args.step c.args.content whole c.requires.kept s t)
