-- The least inflow of a canal, and of a routed reach, that gives an outflow.
use Rattle.rw_method.proofs.Common.{*ℤ-zero, *ℤ_comm, Conveys, Routes, ap, arith, brought, inl, inr, ints, least_inflow, least_routed, neg_ℤ}
use Rattle.rw_method.proofs.Common.{per_mille, pos, refl, suc, suc_ℤ-*ℤ, zero, ℕ, ℤ, ◌*ℤ◌, ◌*◌, ◌+ℤ◌, ◌+◌, ◌-ℤ◌, ◌-◌, ◌/◌, ◌<ℤ◌, ◌<◌, ◌∙◌, ◌≡◌, ◌≢◌}
use Rattle.rw_method.proofs.Common.{◌≤ℤ◌, ◌≤◌}
use Rattle.rw_base.specs.Quotient.{floor_div}
use Rattle.rw_base.proofs.Quotients.{IsFloor-floor_div}
use Rattle.rw_table.proofs.Comparison.{same_or_not, eq_fails}

-- ---- products with a natural number

times_next : (z : ℤ) (n : ℕ) → z *ℤ pos (suc n) ≡ z *ℤ pos n +ℤ z
times_next z n = *ℤ_comm z (pos (suc n)) ∙ suc_ℤ-*ℤ (pos n) z ∙ ap (λ x. x +ℤ z) (*ℤ_comm (pos n) z)

next_times : (z : ℤ) (n : ℕ) → (z +ℤ pos 1) *ℤ pos n ≡ z *ℤ pos n +ℤ pos n
next_times z zero = *ℤ-zero (z +ℤ pos 1) ∙ omega (arith, ints, *ℤ-zero z)
next_times z (suc n) = times_next (z +ℤ pos 1) n ∙ omega (arith, ints, next_times z n, times_next z n)

neg_times : (z : ℤ) (n : ℕ) → neg_ℤ z *ℤ pos n ≡ neg_ℤ (z *ℤ pos n)
neg_times z zero = *ℤ-zero (neg_ℤ z) ∙ omega (arith, ints, *ℤ-zero z)
neg_times z (suc n) = times_next (neg_ℤ z) n ∙ omega (arith, ints, neg_times z n, times_next z n)

parts : (z : ℤ) (m n all : ℕ) → m + n ≡ all → z *ℤ pos m +ℤ z *ℤ pos n ≡ z *ℤ pos all
parts z zero n all is = rw (← is) omega (arith, ints, *ℤ-zero z)
parts z (suc m) n all is =
    let next : all ≡ suc (m + n) = omega (arith, is) in
    rw next omega (arith, ints, parts z m n (m + n) refl, times_next z m, times_next z (m + n))

pub times_rises : (y z : ℤ) (n : ℕ) → y ≤ℤ z → (y *ℤ pos n) ≤ℤ (z *ℤ pos n)
times_rises y z zero le = omega (arith, ints, *ℤ-zero y, *ℤ-zero z)
times_rises y z (suc n) le = omega (arith, ints, le, times_rises y z n le, times_next y n, times_next z n)

-- ---- what is conveyed

-- of what flows in, as much is conveyed as stays of it, rounded up: a thousand times that is less than a thousand above
conveyed_bounds : (z : ℤ) (seepage stay : ℕ) → seepage + stay ≡ 1000
    → ((z *ℤ pos stay) ≤ℤ (brought (Conveys seepage) z *ℤ pos 1000)) × ((brought (Conveys seepage) z *ℤ pos 1000) <ℤ (z *ℤ pos stay +ℤ pos 1000))
conveyed_bounds z seepage stay is =
    let seeping = (IsFloor-floor_div (z *ℤ pos seepage) (pos 1000)).over_positive (omega (arith, ints)) in
    let all = parts z seepage stay 1000 is in
    (omega (arith, ints, seeping.0, seeping.1, all), omega (arith, ints, seeping.0, seeping.1, all))

-- as much stays as doesn't seep away
stay_of : (seepage : ℕ) → seepage ≤ 999 → (seepage + (1000 - seepage) ≡ 1000) × (0 < 1000 - seepage)
stay_of seepage few = (omega (arith, few), omega (arith, few))

-- the formula gives an inflow from which a thousand times more stays than a thousand times one less than the outflow, and from
-- one less inflow no more does
formula_bounds : (stay : ℕ) (outflow : ℤ) → 0 < stay
    → ((floor_div (pos 1000 *ℤ (outflow -ℤ pos 1)) (pos stay) *ℤ pos stay) ≤ℤ ((outflow -ℤ pos 1) *ℤ pos 1000))
    × (((outflow -ℤ pos 1) *ℤ pos 1000) <ℤ ((floor_div (pos 1000 *ℤ (outflow -ℤ pos 1)) (pos stay) +ℤ pos 1) *ℤ pos stay))
formula_bounds stay outflow some =
    let floor = (IsFloor-floor_div (pos 1000 *ℤ (outflow -ℤ pos 1)) (pos stay)).over_positive (omega (arith, ints, some)) in
    let turned = *ℤ_comm (pos 1000) (outflow -ℤ pos 1) in
    (omega (arith, ints, floor.0, turned), omega (arith, ints, floor.1, turned))

-- an inflow that is just enough conveys the outflow
just_enough : (before : ℤ) (seepage stay : ℕ) (outflow : ℤ) → seepage + stay ≡ 1000
    → (before *ℤ pos stay) ≤ℤ ((outflow -ℤ pos 1) *ℤ pos 1000) → ((outflow -ℤ pos 1) *ℤ pos 1000) <ℤ ((before +ℤ pos 1) *ℤ pos stay)
    → brought (Conveys seepage) (before +ℤ pos 1) ≡ outflow
just_enough before seepage stay outflow is low high =
    let bounds = conveyed_bounds (before +ℤ pos 1) seepage stay is in
    let next = next_times before stay in
    omega (arith, ints, is, low, high, bounds.0, bounds.1, next)

-- and less conveys less
too_little : (inflow before : ℤ) (seepage stay : ℕ) (outflow : ℤ) → seepage + stay ≡ 1000
    → (before *ℤ pos stay) ≤ℤ ((outflow -ℤ pos 1) *ℤ pos 1000) → inflow ≤ℤ before → brought (Conveys seepage) inflow <ℤ outflow
too_little inflow before seepage stay outflow is low less =
    let bounds = conveyed_bounds inflow seepage stay is in
    let most = times_rises inflow before stay less in
    omega (arith, ints, is, low, bounds.0, bounds.1, most)

-- the least inflow, where the outflow isn't 0
by_formula : (seepage : ℕ) (outflow : ℤ) → outflow ≢ pos 0
    → least_inflow seepage outflow ≡ floor_div (pos 1000 *ℤ (outflow -ℤ pos 1)) (pos (1000 - seepage)) +ℤ pos 1
by_formula seepage outflow some = rw (eq_fails outflow (pos 0) some) refl

-- nothing conveys nothing
dry : (seepage : ℕ) → brought (Conveys seepage) (least_inflow seepage (pos 0)) ≡ pos 0
dry seepage =
    let none : 0 * seepage ≡ 0 = omega arith in
    ap (λ n. pos 0 -ℤ pos (n / 1000)) none

pub conveyed : (seepage : ℕ) (outflow : ℤ) → seepage ≤ 999 → brought (Conveys seepage) (least_inflow seepage outflow) ≡ outflow
conveyed seepage outflow few = elim (same_or_not outflow (pos 0)) [
  | inl none ↦ rw none (dry seepage)
  | inr some ↦
      let stay = stay_of seepage few in
      let formula = formula_bounds (1000 - seepage) outflow stay.1 in
      rw (by_formula seepage outflow some) (just_enough _ seepage (1000 - seepage) outflow stay.0 formula.0 formula.1)
]

pub least : (seepage : ℕ) (outflow inflow : ℤ) → seepage ≤ 999 → outflow ≢ pos 0 → inflow <ℤ least_inflow seepage outflow
    → brought (Conveys seepage) inflow <ℤ outflow
least seepage outflow inflow few some less =
    let stay = stay_of seepage few in
    let formula = formula_bounds (1000 - seepage) outflow stay.1 in
    let below = rw (by_formula seepage outflow some) at less in
    too_little inflow _ seepage (1000 - seepage) outflow stay.0 formula.0 (omega (arith, ints, below))

-- ---- what is routed

-- a thousand times what is let go is just below the parts of all that is held
parts_let_go : (held : ℤ) (release : ℕ) → ((per_mille held release *ℤ pos 1000) ≤ℤ (held *ℤ pos release))
    × ((held *ℤ pos release) <ℤ ((per_mille held release +ℤ pos 1) *ℤ pos 1000))
parts_let_go held release = (IsFloor-floor_div (held *ℤ pos release) (pos 1000)).over_positive (omega (arith, ints))

-- the least content is just enough
least_content : (outflow : ℤ) (release : ℕ) → 1 ≤ release
    → ((outflow *ℤ pos 1000) ≤ℤ (neg_ℤ (floor_div (neg_ℤ (outflow *ℤ pos 1000)) (pos release)) *ℤ pos release))
    × ((neg_ℤ (floor_div (neg_ℤ (outflow *ℤ pos 1000)) (pos release) +ℤ pos 1) *ℤ pos release) <ℤ (outflow *ℤ pos 1000))
least_content outflow release some =
    let floor = (IsFloor-floor_div (neg_ℤ (outflow *ℤ pos 1000)) (pos release)).over_positive (omega (arith, ints, some)) in
    let q = floor_div (neg_ℤ (outflow *ℤ pos 1000)) (pos release) in
    (omega (arith, ints, floor.0, neg_times q release), omega (arith, ints, floor.1, neg_times (q +ℤ pos 1) release))

pub routed : (content : ℤ) (release : ℕ) (outflow : ℤ) → 1 ≤ release → release ≤ 1000
    → brought (Routes content release) (least_routed content release outflow) ≡ outflow
routed content release outflow some most =
    let q = floor_div (neg_ℤ (outflow *ℤ pos 1000)) (pos release) in
    let held : content +ℤ (neg_ℤ q -ℤ content) ≡ neg_ℤ q = omega (arith, ints) in
    let enough = least_content outflow release some in
    let gone = parts_let_go (neg_ℤ q) release in
    let one_more = neg_times (q +ℤ pos 1) release in
    let one = neg_times q release in
    let next = next_times q release in
    ap (λ z. per_mille z release) held ∙ omega (arith, ints, some, most, enough.0, enough.1, gone.0, gone.1, one_more, one, next)

pub least_of_routed : (content : ℤ) (release : ℕ) (outflow inflow : ℤ) → 1 ≤ release
    → inflow <ℤ least_routed content release outflow → brought (Routes content release) inflow <ℤ outflow
least_of_routed content release outflow inflow some less =
    let q = floor_div (neg_ℤ (outflow *ℤ pos 1000)) (pos release) in
    let below : (content +ℤ inflow) ≤ℤ neg_ℤ (q +ℤ pos 1) = omega (arith, ints, less) in
    let enough = least_content outflow release some in
    let gone = parts_let_go (content +ℤ inflow) release in
    let rises = times_rises (content +ℤ inflow) (neg_ℤ (q +ℤ pos 1)) release below in
    omega (arith, ints, enough.1, gone.0, rises)
