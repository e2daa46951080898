use Rattle.rw_base.proofs.Common.{◌≡◌, [], None, All, take, drop}
use Rattle.rw_base.specs.declared.number.SlotNo.{SlotNo}
use Rattle.rw_model.specs.Draft.{IsSlot}
use Rattle.rw_model.specs.Links.{link_of, joins_refusal}
use Rattle.rw_model.specs.Kept.{numbers_of}
use Rattle.rw_model.proofs.judge.judge_link.Given as goal

-- nothing is wrong with the slots so far
abbrev pub invariant-loop-place : goal.invariant-loop-place
invariant-loop-place l =
    (joins_refusal l.objects l.links (numbers_of (take l.place l.slots)) (numbers_of (drop l.place l.slots))
    ≡ joins_refusal l.objects l.links [] (numbers_of l.slots))
    × All (λ (slot : SlotNo). IsSlot l.objects slot.0) (take l.place l.slots)
    × All (λ (slot : SlotNo). link_of l.links slot.0 ≡ None) (take l.place l.slots)
