use Rattle.rw_base.proofs.Common.{◌≡◌, ◌-◌, ◌+◌, ◌<◌, [], ◌∷◌, length, All, sym, subst, ap, ◌∙◌, arith, slice_index_or, range_with_len, Some}
use Rattle.rw_base.proofs.Common.{length-map, get_or-map, length-range_with_len, get_or-range_with_len}
use Rattle.rw_base.specs.declared.number.SlotNo.{SlotNo}
use Rattle.rw_model.specs.Objects.{all_slots}
use Rattle.rw_model.specs.Draft.{IsSlot}
use Rattle.rw_model.specs.Links.{link_of}
use Rattle.rw_model.specs.Kept.{numbers_of, links_of, KeepsBasin}
use Rattle.rw_model.proofs.Grouping.{group_of-linked, group_of-alone, group_known, all_numbered}
use Rattle.rw_model.proofs.basin.Basin.group.Goals as goal

pub index-requires-in-None : goal.index-requires-in-None
index-requires-in-None c =
    let kept : KeepsBasin c.args.self.now (numbers_of c.self.inside.tables.slots.items) (links_of c.self.inside.tables.groups.items)
    c.self.inside.tables.bounds.items c.self.inside.tables.numbers.items =
    subst (λ draft. KeepsBasin draft (numbers_of c.self.inside.tables.slots.items) (links_of c.self.inside.tables.groups.items)
    c.self.inside.tables.bounds.items c.self.inside.tables.numbers.items) c.self.view_is c.self.invariant in
    omega (
      arith,
      c.from.ensures,
      c.requires.first,
      c.requires.last,
      ap length kept.slots_are,
      length-map c.self.inside.tables.slots.items (λ (slot : SlotNo). slot.0),
      length-range_with_len 1 (length (all_slots c.args.self.now.objects)),
    )

pub returns-in-Some-clause-group : goal.returns-in-Some-clause-group
returns-in-Some-clause-group c =
    let kept : KeepsBasin c.args.self.now (numbers_of c.self.inside.tables.slots.items) (links_of c.self.inside.tables.groups.items)
    c.self.inside.tables.bounds.items c.self.inside.tables.numbers.items =
    subst (λ draft. KeepsBasin draft (numbers_of c.self.inside.tables.slots.items) (links_of c.self.inside.tables.groups.items)
    c.self.inside.tables.bounds.items c.self.inside.tables.numbers.items) c.self.view_is c.self.invariant in
    let linked : link_of c.args.self.now.links c.args.s.0 ≡ Some c.in-Some.place =
    ap (λ draft. link_of draft.links c.args.s.0) (sym c.self.view_is) ∙ sym c.place.ensures.place ∙ c.in-Some.is in
    let inside = c.place.ensures.within c.in-Some.place c.in-Some.is in
    let within : c.in-Some.place < length c.self.inside.tables.groups.items =
    omega (
      arith,
      inside,
      kept.groups_are.every,
      length-map c.self.inside.tables.groups.items (λ link. numbers_of link.items),
      ap (λ draft. length draft.links) c.self.view_is,
    ) in
    ap numbers_of c.as_slice.ensures.value
    ∙ ap (λ group. numbers_of group.items) c.index.ensures
    ∙ sym (get_or-map (λ link. numbers_of link.items) c.self.inside.tables.groups.items c.in-Some.place c.index.result.now [] within)
    ∙ kept.groups_are.each c.in-Some.place
    ∙ sym (group_of-linked c.args.self.now.objects c.args.self.now.links c.args.s.0 c.in-Some.place linked)

pub returns-in-Some-clause-known : goal.returns-in-Some-clause-known
returns-in-Some-clause-known c =
    all_numbered (IsSlot c.args.self.now.objects) c.as_slice.result.now
    (subst (λ slots. All (IsSlot c.args.self.now.objects) slots) (sym (returns-in-Some-clause-group c))
    (group_known c.args.self.now.objects c.args.self.now.links c.args.s.0))

pub returns-in-None-clause-group : goal.returns-in-None-clause-group
returns-in-None-clause-group c =
    let kept : KeepsBasin c.args.self.now (numbers_of c.self.inside.tables.slots.items) (links_of c.self.inside.tables.groups.items)
    c.self.inside.tables.bounds.items c.self.inside.tables.numbers.items =
    subst (λ draft. KeepsBasin draft (numbers_of c.self.inside.tables.slots.items) (links_of c.self.inside.tables.groups.items)
    c.self.inside.tables.bounds.items c.self.inside.tables.numbers.items) c.self.view_is c.self.invariant in
    let n = length (all_slots c.args.self.now.objects) in
    let near : c.args.s.0 - 1 < n = omega (arith, c.requires.first, c.requires.last) in
    let at : 1 + (c.args.s.0 - 1) ≡ c.args.s.0 = omega (arith, c.requires.first) in
    let within : c.from.result - 1 < length c.self.inside.tables.slots.items =
    omega (
      arith,
      c.from.ensures,
      near,
      ap length kept.slots_are,
      length-map c.self.inside.tables.slots.items (λ (slot : SlotNo). slot.0),
      length-range_with_len 1 n,
    ) in
    ap numbers_of c.from_ref.ensures.value
    ∙ ap (λ s. s.0 ∷ []) c.index-in-None.ensures
    ∙ ap (λ s. s ∷ []) (sym (get_or-map (λ (slot : SlotNo). slot.0) c.self.inside.tables.slots.items (c.from.result - 1)
    c.index-in-None.result.now 0 within)
    ∙ ap (λ slots. slice_index_or slots (c.from.result - 1) 0) kept.slots_are
    ∙ ap (λ s. slice_index_or (range_with_len 1 n) (s - 1) 0) c.from.ensures
    ∙ get_or-range_with_len 1 n (c.args.s.0 - 1) 0 near ∙ at)
    ∙ sym (group_of-alone c.args.self.now.objects c.args.self.now.links c.args.s.0 c.requires
    (ap (λ draft. link_of draft.links c.args.s.0) (sym c.self.view_is) ∙ sym c.place.ensures.place ∙ c.in-None.is))

pub returns-in-None-clause-known : goal.returns-in-None-clause-known
returns-in-None-clause-known c =
    all_numbered (IsSlot c.args.self.now.objects) c.from_ref.result.now
    (subst (λ slots. All (IsSlot c.args.self.now.objects) slots) (sym (returns-in-None-clause-group c))
    (group_known c.args.self.now.objects c.args.self.now.links c.args.s.0))
