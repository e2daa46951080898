use Rattle.rw_base.proofs.Common.{ap, get_or_read, length, refl, rules, slice_index_or, subst, sym, true, ◌<◌, ◌+◌, ◌≡◌}
use Rattle.rw_agenda.specs.CellIndex.{is_watching, index_position}
use Rattle.rw_agenda.proofs.Watches.{watching_now, watching_still}
use Rattle.rw_agenda.proofs.cell_index.CellIndex.watch.Goals as goal

pub returns-clause-watching : goal.returns-clause-watching
returns-clause-watching c =
    let at : index_position c.self.inside.slots c.args.cell ≡ c.position_of-place.result = sym c.position_of-place.ensures in
    let near : c.position_of-place.result < length c.self.inside.newest.items = search rules in
    let saw : c.index-newest.result.now ≡ slice_index_or c.self.inside.newest.items c.position_of-place.result 0 =
    get_or_read c.self.inside.newest.items c.position_of-place.result c.index-newest.result.now near c.index-newest.ensures 0 in
    let many : c.self.inside.past + c.len-3.result ≡ c.self.inside.past + length c.push_watch.new.watches.items =
    ap (λ n. c.self.inside.past + n) (search rules) in
    watching_now c.self.inside.slots c.self.inside.past c.self.inside.room c.self.inside.newest.items c.self.inside.watches.items c.self.inside.full
    c.position_of-place.result c.args.rule c.args.cell.step.0 c.index-newest.result.now (c.self.inside.past + c.len-3.result) c.push_watch.new.watches.items saw c.push_watch.ensures.added many near
    c.args.cell refl at

pub returns-clause-kept : goal.returns-clause-kept
returns-clause-kept c other earlier watching =
    let near : c.position_of-place.result < length c.self.inside.newest.items = search rules in
    let saw : c.index-newest.result.now ≡ slice_index_or c.self.inside.newest.items c.position_of-place.result 0 =
    get_or_read c.self.inside.newest.items c.position_of-place.result c.index-newest.result.now near c.index-newest.ensures 0 in
    let many : c.self.inside.past + c.len-3.result ≡ c.self.inside.past + length c.push_watch.new.watches.items =
    ap (λ n. c.self.inside.past + n) (search rules) in
    watching_still c.self.inside.slots c.self.inside.past c.self.inside.room c.self.inside.newest.items c.self.inside.watches.items
    c.self.inside.full
    c.position_of-place.result c.args.rule c.args.cell.step.0 c.index-newest.result.now (c.self.inside.past + c.len-3.result) c.push_watch.new.watches.items saw c.push_watch.ensures.added many near
    other earlier
    (subst (λ index. is_watching index other earlier ≡ true) (sym c.self.view_is) watching)
