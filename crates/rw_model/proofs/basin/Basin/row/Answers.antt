use Rattle.std.proofs.Common.{ap, ap₂, arith, drop, subst, take, ◌∙◌, ◌+◌, ◌*◌, ◌-◌, ◌≡◌}
use Rattle.rw_model.specs.Kept.{numbers_of, links_of, KeepsBasin}
use Rattle.rw_model.proofs.PlaceNumbers.{row-of, row-fits}
use Rattle.rw_model.proofs.basin.Basin.row.Goals as goal

pub slice_bounds-result-end : goal.slice_bounds-result-end
slice_bounds-result-end c =
    let kept : KeepsBasin c.args.self.now (numbers_of c.self.inside.tables.slots.items) (links_of c.self.inside.tables.groups.items)
    c.self.inside.tables.bounds.items c.self.inside.tables.numbers.items =
    subst (λ draft. KeepsBasin draft (numbers_of c.self.inside.tables.slots.items) (links_of c.self.inside.tables.groups.items)
    c.self.inside.tables.bounds.items c.self.inside.tables.numbers.items) c.self.view_is c.self.invariant in
    let fits = row-fits c.args.self.now.objects c.args.o.0 c.self.inside.tables.numbers.items c.requires kept.numbers_are in
    let here = c.deref.ensures in
    omega (arith, fits, c.from-first.ensures)

pub returns : goal.returns
returns c =
    let kept : KeepsBasin c.args.self.now (numbers_of c.self.inside.tables.slots.items) (links_of c.self.inside.tables.groups.items)
    c.self.inside.tables.bounds.items c.self.inside.tables.numbers.items =
    subst (λ draft. KeepsBasin draft (numbers_of c.self.inside.tables.slots.items) (links_of c.self.inside.tables.groups.items)
    c.self.inside.tables.bounds.items c.self.inside.tables.numbers.items) c.self.view_is c.self.invariant in
    let is = row-of c.args.self.now.objects c.args.o.0 c.self.inside.tables.numbers.items c.requires kept.numbers_are in
    let wide : c.from-first.result * 12 + 12 - c.from-first.result * 12 ≡ 12 = omega arith in
    ap₂ (λ n xs. take n (drop (c.from-first.result * 12) xs)) wide c.deref.ensures.value
    ∙ ap (λ n. take 12 (drop (n * 12) c.self.inside.tables.numbers.items)) c.from-first.ensures ∙ is
