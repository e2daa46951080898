use Rattle.rw_base.proofs.Common.{◌≡◌, ◌+◌, ap, sym, ◌∙◌, subst, ◌++◌, ◌∷◌, [], map, string_bytes, bytes_eq}
use Rattle.indexmap.specs.IndexMap.{insert_entry}
use Rattle.rw_model.specs.Slots.{slots_of}
use Rattle.rw_model.specs.Objects.{placed_from}
use Rattle.rw_model.specs.Kept.{place_of, KeepsSlots}
use Rattle.rw_model.proofs.EntryFacts.{objects_of-insert}
use Rattle.rw_model.proofs.ObjectFacts.{KeepsSlots-push}
use Rattle.rw_model.proofs.objects.Objects.add.Goals as goal

-- the objects that the map has now
pub returns-clause-ok : goal.returns-clause-ok
returns-clause-ok c =
    let added : c.insert.new.self.entries ≡ insert_entry (λ j k. bytes_eq (string_bytes j) (string_bytes k)) c.reserve-3.new.self.entries
    c.in_ok-name.name c.args.kind = c.in-Ok.ensures.entries in
    objects_of-insert c.args.self.now c.args.name.now c.in_ok-name.name c.args.kind c.self.inside.kinds.entries c.insert.new.self.entries
    c.self.view_is c.requires.fresh c.in_ok-name.ensures.ok
    (added ∙ ap (λ es. insert_entry (λ j k. bytes_eq (string_bytes j) (string_bytes k)) es c.in_ok-name.name c.args.kind)
    c.in_ok-reserve-3.ensures.entries)

pub invariant_of-self-2 : goal.invariant_of-self-2
invariant_of-self-2 c =
    subst (λ os. KeepsSlots os c.push_places.new.places.items c.push_reserved.new.self.items) (sym (returns-clause-ok c))
    (KeepsSlots-push c.args.self.now (record { name = c.args.name.now; kind = c.args.kind })
    c.self.inside.places.items c.push_places.new.places.items c.self.inside.firsts.items c.push_reserved.new.self.items
    (subst (λ os. KeepsSlots os c.self.inside.places.items c.self.inside.firsts.items) c.self.view_is c.self.invariant)
    c.requires.few c.requires.places c.requires.few_slots
    (c.push_places.ensures
    ∙ ap (λ ps. ps ++ map place_of (placed_from (c.count-owner.result + 1) 0 (slots_of c.args.kind))) c.in_ok-reserve.ensures.items
    ∙ ap (λ n. c.self.inside.places.items ++ map place_of (placed_from (n + 1) 0 (slots_of c.args.kind))) c.count-owner.ensures.count)
    (c.push_reserved.ensures.items
    ∙ ap (λ ns. ns ++ c.slot_count-first.result ∷ []) c.in_ok-reserve-2.ensures.items
    ∙ ap (λ n. c.self.inside.firsts.items ++ n ∷ []) c.slot_count-first.ensures.count))
