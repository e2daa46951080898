use Rattle.std.proofs.Common.{◌-◌, sym, subst, ap, ◌∙◌, arith, slice_index_or, pos}
use Rattle.rw_model.specs.Slot.{IsInside, all_quantities}
use Rattle.rw_model.specs.Kept.{numbers_of, links_of, KeepsBasin}
use Rattle.rw_model.proofs.Bounding.{kept_bounds, bounds_in-within, bounds_in-quantities}
use Rattle.rw_model.proofs.basin.Basin.bounds.Goals as goal

pub index-requires : goal.index-requires
index-requires c =
    let kept : KeepsBasin c.args.self.now (numbers_of c.self.inside.tables.slots.items) (links_of c.self.inside.tables.groups.items)
    c.self.inside.tables.bounds.items c.self.inside.tables.numbers.items =
    subst (λ draft. KeepsBasin draft (numbers_of c.self.inside.tables.slots.items) (links_of c.self.inside.tables.groups.items)
    c.self.inside.tables.bounds.items c.self.inside.tables.numbers.items) c.self.view_is c.self.invariant in
    let at = kept_bounds c.args.self.now _ _ c.self.inside.tables.bounds.items _ c.args.s.0 (pos 0, pos 0) kept c.requires in
    omega (arith, at.0, c.from.ensures)

pub returns-clause-bounds : goal.returns-clause-bounds
returns-clause-bounds c =
    let kept : KeepsBasin c.args.self.now (numbers_of c.self.inside.tables.slots.items) (links_of c.self.inside.tables.groups.items)
    c.self.inside.tables.bounds.items c.self.inside.tables.numbers.items =
    subst (λ draft. KeepsBasin draft (numbers_of c.self.inside.tables.slots.items) (links_of c.self.inside.tables.groups.items)
    c.self.inside.tables.bounds.items c.self.inside.tables.numbers.items) c.self.view_is c.self.invariant in
    c.index.ensures
    ∙ ap (λ s. slice_index_or c.self.inside.tables.bounds.items (s - 1) c.index.result.now) c.from.ensures
    ∙ (kept_bounds c.args.self.now _ _ c.self.inside.tables.bounds.items _ c.args.s.0 c.index.result.now kept c.requires).1

pub returns-clause-widest : goal.returns-clause-widest
returns-clause-widest c placed found =
    let kept : KeepsBasin c.args.self.now (numbers_of c.self.inside.tables.slots.items) (links_of c.self.inside.tables.groups.items)
    c.self.inside.tables.bounds.items c.self.inside.tables.numbers.items =
    subst (λ draft. KeepsBasin draft (numbers_of c.self.inside.tables.slots.items) (links_of c.self.inside.tables.groups.items)
    c.self.inside.tables.bounds.items c.self.inside.tables.numbers.items) c.self.view_is c.self.invariant in
    subst (λ bounds. IsInside bounds placed.slot.widest) (sym (returns-clause-bounds c))
    (bounds_in-within c.args.self.now c.args.s.0 kept.valid c.requires placed found)

pub returns-clause-quantities : goal.returns-clause-quantities
returns-clause-quantities c =
    let kept : KeepsBasin c.args.self.now (numbers_of c.self.inside.tables.slots.items) (links_of c.self.inside.tables.groups.items)
    c.self.inside.tables.bounds.items c.self.inside.tables.numbers.items =
    subst (λ draft. KeepsBasin draft (numbers_of c.self.inside.tables.slots.items) (links_of c.self.inside.tables.groups.items)
    c.self.inside.tables.bounds.items c.self.inside.tables.numbers.items) c.self.view_is c.self.invariant in
    subst (λ bounds. IsInside bounds all_quantities) (sym (returns-clause-bounds c))
    (bounds_in-quantities c.args.self.now c.args.s.0 kept.valid c.requires)
