use Rattle.rw_record.proofs.Common.{false≢true, get_or_from_slice_get, held, refl, rules, slice_get_within, subst, sym, ◌≡◌, ◌≢◌, ◌≤◌}
use Rattle.rw_record.proofs.Holding.{all_of, one_more}
use Rattle.rw_record.proofs.alike.is_kept_alike.Goals as goal

pub loop-place-preserved : goal.loop-place-preserved
loop-place-preserved c =
    let looked = c.args.looked.now in
    let one = c.get.result in
    let same : held c.args.series.now one.cell ≡ one.content = search rules in
    one_more (held c.args.series.now) looked c.loop-place.place one (slice_get_within looked c.loop-place.place one c.get.ensures)
    (sym (get_or_from_slice_get looked c.loop-place.place one one c.get.ensures)) same c.loop-place.invariant

pub returns-then-not-is_one_alike : goal.returns-then-not-is_one_alike
returns-then-not-is_one_alike c =
    let looked = c.args.looked.now in
    let one = c.get.result in
    let near = slice_get_within looked c.loop-place.place one c.get.ensures in
    let here = get_or_from_slice_get looked c.loop-place.place one one c.get.ensures in
    let apart : held c.args.series.now one.cell ≢ one.content = search rules in (
      λ yes. absurd (false≢true yes),
      λ all. absurd (apart (all one (c.loop-place.place, near, here))),
    )

pub returns : goal.returns
returns c = (
  λ yes. all_of (held c.args.series.now) c.args.looked.now c.loop-place.place
      (subst (λ n. n ≤ c.loop-place.place) c.len-place-end.ensures c.loop-place-test.false) c.loop-place.invariant,
  λ all. refl,
)
