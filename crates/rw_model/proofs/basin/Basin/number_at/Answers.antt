use Rattle.std.proofs.Common.{◌∙◌, ◌*◌, ◌+◌, ap₂, subst, arith, slice_index_or, None}
use Rattle.rw_model.specs.Kept.{numbers_of, links_of, KeepsBasin}
use Rattle.rw_model.proofs.Bounding.{kept_number}
use Rattle.rw_model.proofs.basin.Basin.number_at.Goals as goal

pub index-requires : goal.index-requires
index-requires c =
    let kept : KeepsBasin c.args.self.now (numbers_of c.self.inside.tables.slots.items) (links_of c.self.inside.tables.groups.items)
    c.self.inside.tables.bounds.items c.self.inside.tables.numbers.items =
    subst (λ draft. KeepsBasin draft (numbers_of c.self.inside.tables.slots.items) (links_of c.self.inside.tables.groups.items)
    c.self.inside.tables.bounds.items c.self.inside.tables.numbers.items) c.self.view_is c.self.invariant in
    let at = kept_number c.args.self.now _ _ _ c.self.inside.tables.numbers.items c.args.o.0 c.args.place None kept c.requires c.if-place-lt12.true in
    omega (arith, at.0, c.from.ensures, c.from-then-place-lt12.ensures)

pub returns-then-place-lt12 : goal.returns-then-place-lt12
returns-then-place-lt12 c =
    let kept : KeepsBasin c.args.self.now (numbers_of c.self.inside.tables.slots.items) (links_of c.self.inside.tables.groups.items)
    c.self.inside.tables.bounds.items c.self.inside.tables.numbers.items =
    subst (λ draft. KeepsBasin draft (numbers_of c.self.inside.tables.slots.items) (links_of c.self.inside.tables.groups.items)
    c.self.inside.tables.bounds.items c.self.inside.tables.numbers.items) c.self.view_is c.self.invariant in
    c.index.ensures
    ∙ ap₂ (λ o p. slice_index_or c.self.inside.tables.numbers.items (o * 12 + p) c.index.result.now) c.from.ensures c.from-then-place-lt12.ensures
    ∙ (kept_number c.args.self.now _ _ _ c.self.inside.tables.numbers.items c.args.o.0 c.args.place c.index.result.now kept c.requires
    c.if-place-lt12.true).1
