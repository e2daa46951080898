use Rattle.std.proofs.Common.{◌<◌, length, sym, ◌∙◌, arith}
use Rattle.rw_model.specs.Kept.{links_of}
use Rattle.rw_model.proofs.Grouping.{KeepsGroups-linked, KeepsGroups-unlinked, on_ok}
use Rattle.rw_model.proofs.groups.join_link.Goals as goal

pub returns-in-None : goal.returns-in-None
returns-in-None c =
    KeepsGroups-unlinked c.args.links.now (links_of c.args.groups.now.items) c.args.before c.requires.kept (sym c.place.ensures.place ∙ c.in-None.is)

pub returns-in-Some : goal.returns-in-Some
returns-in-Some c =
    let inside = c.place.ensures.within c.in-Some.place c.in-Some.is in
    let within : c.in-Some.place < length (links_of c.args.groups.now.items) = omega (arith, inside, c.requires.kept.every) in
    on_ok (KeepsGroups-linked c.args.links.now (links_of c.args.groups.now.items) (links_of c.join.new.groups.items) c.args.before c.in-Some.place
    c.requires.kept (sym c.place.ensures.place ∙ c.in-Some.is) within) c.join.result c.join.ensures
