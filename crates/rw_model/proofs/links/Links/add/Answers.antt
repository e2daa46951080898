use Rattle.std.proofs.Common.{ap, sym, subst, ◌∙◌, ◌++◌, ◌∷◌, [], ◌+◌, Some, None, slice_index_or, if◌then◌else◌}
use Rattle.rw_model.specs.Links.{is_among}
use Rattle.rw_model.specs.Kept.{numbers_of, links_of, KeepsPlaces}
use Rattle.rw_model.proofs.Linking.{KeepsPlaces-push}
use Rattle.rw_model.proofs.links.Links.add.Goals as goal

-- the links that there are now
pub returns-clause-ok : goal.returns-clause-ok
returns-clause-ok c =
    c.append.ensures
    ∙ ap (λ links. links_of links ++ numbers_of c.in_ok-link.link.items ∷ []) c.in_ok-reserve.ensures.items
    ∙ ap (λ links. links ++ numbers_of c.in_ok-link.link.items ∷ []) c.self.view_is
    ∙ ap (λ slots. c.args.self.now ++ numbers_of slots ∷ []) c.in_ok-link.ensures

pub invariant_of-self-2 : goal.invariant_of-self-2
invariant_of-self-2 c =
    subst (λ links. KeepsPlaces links c.mark.new.places.items) (sym (returns-clause-ok c))
    (KeepsPlaces-push c.args.self.now c.args.slots.now c.self.inside.places.items c.mark.new.places.items
    (subst (λ links. KeepsPlaces links c.self.inside.places.items) c.self.view_is c.self.invariant) c.requires.free
    (λ k. c.mark.ensures.marked k
    ∙ ap (λ old. if is_among (k + 1) (numbers_of c.args.slots.now) then Some c.count-place.result else old) (c.in_ok-widen.ensures.same k)
    ∙ ap (λ n. if is_among (k + 1) (numbers_of c.args.slots.now) then Some n else slice_index_or c.self.inside.places.items k None)
    c.count-place.ensures))
