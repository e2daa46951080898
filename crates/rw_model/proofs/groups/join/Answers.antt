use Rattle.rw_base.proofs.Common.{◌∷◌, [], ◌++◌, ◌<◌, length, ap, sym, ◌∙◌, arith, slice_set, map-append, map-set, length-map, get_or-map}
use Rattle.rw_base.specs.declared.number.SlotNo.{SlotNo}
use Rattle.rw_model.specs.Kept.{numbers_of, links_of}
use Rattle.rw_model.proofs.groups.join.Goals as goal

pub returns : goal.returns
returns c =
    let within : c.args.place < length c.args.groups.now.items =
    omega (arith, c.requires, length-map c.args.groups.now.items (λ link. numbers_of link.items)) in
    map-set (λ link. numbers_of link.items) c.args.groups.now.items c.args.place c.push.new.self
    ∙ ap (λ link. slice_set (links_of c.args.groups.now.items) c.args.place link)
    (ap numbers_of c.in_ok-push.ensures.items
    ∙ map-append (λ (slot : SlotNo). slot.0) c.index_mut.result.now.items (c.args.slot ∷ [])
    ∙ ap (λ xs. xs ++ c.args.slot.0 ∷ []) (ap (λ link. numbers_of link.items) c.index_mut.ensures.value
    ∙ sym (get_or-map (λ link. numbers_of link.items) c.args.groups.now.items c.args.place c.index_mut.result.now [] within)))
