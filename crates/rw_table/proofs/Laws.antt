-- The laws of tables, by the names that they have in src/law.rt.
use Rattle.rw_table.proofs.Common.{IsElevationInside, IsGreatest, IsSome, IsSomeAnd, IsTable, IsVolumeInside, List, MatchOption, None, Option, Row}
use Rattle.rw_table.proofs.Common.{Some, arith, between, elev_of, first_row, inl, inr, ints, last_row, length, refl, row_at, subst, suc, sym, vol_of}
use Rattle.rw_table.proofs.Common.{ℕ, ℤ, ◌+◌, ◌-◌, ◌<ℤ◌, ◌<◌, ◌↔◌, ◌≡◌, ◌≤ℤ◌, ◌⊎◌}
use Rattle.rw_table.proofs.Comparison.{below_or_not}
use Rattle.rw_table.proofs.Volume.{inside, has_volume_inside, volume_of_row, volume_on_line, never_falls}
use Rattle.rw_table.proofs.Count.{volume_at_most, at_most_from}
use Rattle.rw_table.proofs.Elevation.{elev_held, elev_outside}

-- to have a value, in two forms
some_from : (o : Option ℤ) (v : ℤ) → o ≡ Some v → IsSome o
some_from None v is = cc
some_from (Some w) v is = refl

value_of : (o : Option ℤ) → IsSome o → (v : ℤ) × (o ≡ Some v)
value_of None some = cc
value_of (Some v) some = (v, refl)

pub volume_where : (rows : List Row) (e : ℤ) → IsTable rows → IsSome (vol_of rows e) ↔ IsElevationInside rows e
volume_where rows e table = (
  λ some.
      let v = value_of (vol_of rows e) some in
      inside rows e v.0 table v.1,
  λ within.
      let v = has_volume_inside rows e table within in
      some_from (vol_of rows e) v.0 v.1,
)

pub volume_between_rows : (rows : List Row) (k : ℕ) (e : ℤ) → IsTable rows → k + 1 < length rows → (row_at rows k).0 ≤ℤ e
    → e <ℤ (row_at rows (k + 1)).0 → vol_of rows e ≡ Some (between (row_at rows k) (row_at rows (k + 1)) e)
volume_between_rows rows k e table within from to =
    let next : k + 1 ≡ suc k = omega arith in
    rw next (volume_on_line rows k e table (omega arith) from (rw next at to))

pub volume_at_row : (rows : List Row) (k : ℕ) → IsTable rows → k < length rows → vol_of rows (row_at rows k).0 ≡ Some (row_at rows k).1
volume_at_row = volume_of_row

pub volume_never_falls : (rows : List Row) (e later v w : ℤ) → IsTable rows → e ≤ℤ later → vol_of rows e ≡ Some v
    → vol_of rows later ≡ Some w → v ≤ℤ w
volume_never_falls = never_falls

pub volume_inside : (rows : List Row) (e v : ℤ) → IsTable rows → vol_of rows e ≡ Some v → IsVolumeInside rows v
volume_inside rows e v table is =
    let within = inside rows e v table is in
    let first = volume_of_row rows 0 table (omega (arith, table.some)) in
    let last = volume_of_row rows (length rows - 1) table (omega (arith, table.some)) in
    record {
      from_first = never_falls rows _ e _ v table within.from_first first is;
      to_last = never_falls rows e _ v _ table within.to_last is last;
    }

-- a volume is inside or not
inside_or_not : (rows : List Row) (s : ℤ) → IsVolumeInside rows s ⊎ (¬ IsVolumeInside rows s)
inside_or_not rows s = elim (below_or_not s (first_row rows).1) [
  | inl before ↦ inr (λ within. omega (arith, ints, within.from_first))
  | inr from ↦
      elim (below_or_not (last_row rows).1 s) [
        | inl past ↦ inr (λ within. omega (arith, ints, within.to_last))
        | inr to ↦ inl (record { from_first = from; to_last = to })
      ]
]

pub elevation_is_greatest : (rows : List Row) (s : ℤ) → IsTable rows → MatchOption (elev_of rows s) (¬ IsVolumeInside rows s) (IsGreatest rows s)
elevation_is_greatest rows s table =
    let Says = λ (o : Option ℤ). MatchOption o (¬ IsVolumeInside rows s) (IsGreatest rows s) in
    elim (inside_or_not rows s) [
      | inl within ↦
          let has = elev_held rows s table within in
          subst Says (sym has.is) has.greatest
      | inr outside ↦ subst Says (sym (elev_outside rows s outside)) outside
    ]

-- an elevation that is answered is the greatest
greatest_of : (rows : List Row) (s : ℤ) (o : Option ℤ) (e : ℤ) → MatchOption o (¬ IsVolumeInside rows s) (IsGreatest rows s) → o ≡ Some e
    → IsGreatest rows s e
greatest_of rows s o e says is = subst (λ (o : Option ℤ). MatchOption o (¬ IsVolumeInside rows s) (IsGreatest rows s)) is says

pub elevation_never_falls : (rows : List Row) (s more e f : ℤ) → IsTable rows → s ≤ℤ more → elev_of rows s ≡ Some e
    → elev_of rows more ≡ Some f → e ≤ℤ f
elevation_never_falls rows s more e f table after first next =
    let one = greatest_of rows s (elev_of rows s) e (elevation_is_greatest rows s table) first in
    let two = greatest_of rows more (elev_of rows more) f (elevation_is_greatest rows more table) next in
    let v = volume_at_most (vol_of rows e) s one.at_most in
    two.greatest e (at_most_from (vol_of rows e) more v.0 v.1 (omega (arith, ints, v.2)))

pub volume_after_elevation : (rows : List Row) (s e : ℤ) → IsTable rows → elev_of rows s ≡ Some e → IsSomeAnd (vol_of rows e) (λ v. v ≤ℤ s)
volume_after_elevation rows s e table is =
    (greatest_of rows s (elev_of rows s) e (elevation_is_greatest rows s table) is).at_most

pub elevation_after_volume : (rows : List Row) (e v : ℤ) → IsTable rows → vol_of rows e ≡ Some v → IsSomeAnd (elev_of rows v) (λ back. e ≤ℤ back)
elevation_after_volume rows e v table is =
    let has = elev_held rows v table (volume_inside rows e v table is) in
    let up = has.greatest.greatest e (at_most_from (vol_of rows e) v v is (omega (arith, ints))) in
    subst (λ (o : Option ℤ). IsSomeAnd o (λ back. e ≤ℤ back)) (sym has.is) up

-- each elevation that is answered is one of the table's
pub elevation_inside : (rows : List Row) (s e : ℤ) → IsTable rows → elev_of rows s ≡ Some e → IsElevationInside rows e
elevation_inside rows s e table is =
    (greatest_of rows s (elev_of rows s) e (elevation_is_greatest rows s table) is).inside
