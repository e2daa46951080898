use Rattle.std.proofs.Common.{◌≡◌, nat_eq}
use Rattle.indexmap.specs.IndexMap.{insert_entry}
use Rattle.rw_model.proofs.EntryFacts.{bounds_of-insert}
use Rattle.rw_model.proofs.own_bounds.OwnBounds.add.Goals as goal

pub returns-clause-ok : goal.returns-clause-ok
returns-clause-ok c =
    let added : c.insert.new.self.entries ≡ insert_entry nat_eq c.self.inside.bounds.entries c.args.slot c.args.bounds =
    c.in_ok-insert.ensures.entries in
    bounds_of-insert c.args.self.now c.args.slot c.args.bounds c.self.inside.bounds.entries c.insert.new.self.entries c.self.view_is c.requires added
