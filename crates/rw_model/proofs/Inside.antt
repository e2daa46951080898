-- Where a table has an elevation.
use Rattle.rw_base.proofs.Common.{◌↔◌, ℤ, List, Bool, true, false, Option, Some, None, refl, rules, IsTrue, ◌≡◌, sym, subst, ForSome, option_map}
use Rattle.rw_base.proofs.Common.{MatchOption, is_some, ◌&&◌, if◌then◌else◌, int_le}
use Rattle.rw_model.specs.Slot.{Slot, Bounds, IsInside}
use Rattle.rw_model.specs.Objects.{Placed}
use Rattle.rw_table.specs.Table.{Row}
use Rattle.rw_table.specs.Curve.{first_row, last_row, elev_of, IsVolumeInside, IsGreatest}

chosen : {X : Type 0} (t : Bool) (x : Option X) → IsTrue (is_some (if t then x else None)) → IsTrue t
chosen true x h = refl
chosen false x h = h

inside : (rows : List Row) (s : ℤ) → IsTrue (int_le (first_row rows).1 s && int_le s (last_row rows).1) → IsVolumeInside rows s
inside rows s h = search rules

found : (o : Option ℤ) (rows : List Row) (s : ℤ) → MatchOption o (IsVolumeInside rows s → ⊥) (IsGreatest rows s) → IsVolumeInside rows s
    → IsTrue (is_some o)
found None rows s none h = absurd (none h)
found (Some e) rows s greatest h = refl

-- a table has an elevation exactly for a volume inside it
pub some-iff-inside : (rows : List Row) (s : ℤ) → MatchOption (elev_of rows s) (IsVolumeInside rows s → ⊥) (IsGreatest rows s)
    → IsTrue (is_some (elev_of rows s)) ↔ IsVolumeInside rows s
some-iff-inside rows s law = (λ some. inside rows s (chosen _ _ some), found (elev_of rows s) rows s law)

-- bounds are within a slot's widest where they are inside the widest of what the slot is
pub widest-iff : (found : Option Placed) (slot : Slot) (bounds : Bounds) (answer : Bool)
    → option_map (λ (placed : Placed). placed.slot) found ≡ Some slot
    → (IsTrue answer ↔ IsInside bounds slot.widest) → (IsTrue answer ↔ ForSome found (λ placed. IsInside bounds placed.slot.widest))
widest-iff None slot bounds answer is iff = absurd (cc)
widest-iff (Some placed) slot bounds answer is iff =
    let same : placed.slot ≡ slot = cc in (
      λ yes p e. let one : placed ≡ p =
          cc in subst (λ (x : Placed). IsInside bounds x.slot.widest) one (subst (λ (x : Slot). IsInside bounds x.widest) (sym same) (iff.0 yes)),
      λ all. iff.1 (subst (λ (x : Slot). IsInside bounds x.widest) same (all placed refl)),
    )
