-- Slots that carry one value are kept at one slot.
use Rattle.rw_base.proofs.Common.{◌≡◌, ℕ, ◌==◌, ◌||◌, Bool, true, false, List, [], ◌∷◌, refl, sym, ap, ◌∙◌, slice_index_or, filter, nat_eq_equiv}
use Rattle.rw_base.proofs.Common.{filter_agree}
use Rattle.rw_model.proofs.Common.{Draft, link_of, is_same_link, is_together, slot_numbers, group_of}
use Rattle.rw_series.proofs.Sharing.{together_alike, together_turned}
use Rattle.rw_inputs.specs.Inputs.{kept_slot}

-- ---- together, from either side

pub together_first : (links : List (List ℕ)) (one other slot : ℕ) → is_together links one other ≡ true
    → is_together links one slot ≡ is_together links other slot
together_first links one other slot together =
    together_turned links one slot ∙ together_alike links slot one other (one == other) refl together ∙ together_turned links slot other

-- ---- the slot at which values are kept

head_at : (p : ℕ → Bool) (x : ℕ) (xs : List ℕ) (d : ℕ) → p (slice_index_or (filter p xs) 0 d) ≡ true → (test : Bool) → p x ≡ test
    → p (slice_index_or (filter p (x ∷ xs)) 0 d) ≡ true
head_at p x xs d later true here = rw here here
head_at p x xs d later false here = rw here later

head_passes : (p : ℕ → Bool) (xs : List ℕ) (d : ℕ) → p d ≡ true → p (slice_index_or (filter p xs) 0 d) ≡ true
head_passes p [] d passes = passes
head_passes p (x ∷ xs) d passes = head_at p x xs d (head_passes p xs d passes) (p x) refl

head_again : (xs : List ℕ) (slot kept : ℕ) → kept ≡ slice_index_or xs 0 slot → slice_index_or xs 0 kept ≡ kept
head_again [] slot kept is = refl
head_again (x ∷ xs) slot kept is = sym is

pub kept_slot-together : (basin : Draft) (slot : ℕ) → is_together basin.links slot (kept_slot basin slot) ≡ true
kept_slot-together basin slot =
    head_passes (is_together basin.links slot) (slot_numbers basin.objects) slot
    (ap (λ same. same || is_same_link (link_of basin.links slot) (link_of basin.links slot)) (nat_eq_equiv.refl slot))

pub kept_slot-again : (basin : Draft) (slot : ℕ) → kept_slot basin (kept_slot basin slot) ≡ kept_slot basin slot
kept_slot-again basin slot =
    let kept = kept_slot basin slot in
    let groups : group_of basin.objects basin.links kept ≡ group_of basin.objects basin.links slot =
    filter_agree (is_together basin.links kept) (is_together basin.links slot)
    (λ other. sym (together_first basin.links slot kept other (kept_slot-together basin slot))) (slot_numbers basin.objects) in
    ap (λ group. slice_index_or group 0 kept) groups ∙ head_again (group_of basin.objects basin.links slot) slot kept refl
