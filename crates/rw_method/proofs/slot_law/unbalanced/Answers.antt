use Rattle.std.proofs.Common.{◌≡◌, pos, ap, arith, refl, sym, Some, unsigned_abs, inl, inr, subst}
use Rattle.rw_base.proofs.Common.{same_Some}
use Rattle.std.specs.Prelude.{ℕ, ℤ, Option, List, [], ◌∷◌, ◌⊎◌}
use Rattle.rw_table.specs.Table.{Row}
use Rattle.rw_table.specs.Curve.{elev_of, vol_of}
use Rattle.rw_method.proofs.slot_law.unbalanced.Goals as goal

pub returns-clause-gage : goal.returns-clause-gage
returns-clause-gage c = λ own held.
    let is : pos 2 ≡ pos 1 = held (pos 1) (pos 2) refl refl in
    let differ : 2 ≡ 1 = ap unsigned_abs is in omega (arith, differ)

pub returns-clause-confluence : goal.returns-clause-confluence
returns-clause-confluence c = λ own held.
    let is : pos 10 ≡ pos 11 = held (pos 5) (pos 6) (pos 10) refl refl refl in
    let differ : 10 ≡ 11 = ap unsigned_abs is in omega (arith, differ)

pub returns-clause-bifurcation : goal.returns-clause-bifurcation
returns-clause-bifurcation c = λ own held.
    let is : pos 5 ≡ pos 6 = held (pos 5) (pos 3) (pos 3) refl refl refl in
    let differ : 5 ≡ 6 = ap unsigned_abs is in omega (arith, differ)

pub returns-clause-reach : goal.returns-clause-reach
returns-clause-reach c = λ own held.
    let is : pos 6 ≡ pos 5 = held (pos 5) (pos 6) (pos 0) refl refl refl in
    let differ : 6 ≡ 5 = ap unsigned_abs is in omega (arith, differ)

pub returns-clause-lagged : goal.returns-clause-lagged
returns-clause-lagged c = λ own held.
    let is : pos 5 ≡ pos 1 = held (pos 1) (pos 5) (pos 0) refl refl refl in
    let differ : 5 ≡ 1 = ap unsigned_abs is in omega (arith, differ)

pub returns-clause-storage : goal.returns-clause-storage
returns-clause-storage c = λ own held.
    let is : pos 1020 ≡ pos 1050 = (held (pos 1000) (pos 100) (pos 50) (pos 1020) (pos 0) (pos 0) refl refl refl refl refl refl).balance in
    let differ : 1020 ≡ 1050 = ap unsigned_abs is in omega (arith, differ)

pub returns-clause-spill : goal.returns-clause-spill
returns-clause-spill c = λ own held.
    let is : Some (pos 10) ≡ Some (pos 20) = (held (pos 1000) (pos 0) (pos 80) (pos 920) (pos 0) (pos 0) refl refl refl refl refl refl).released.1 in
    let differ : 10 ≡ 20 = ap unsigned_abs (same_Some _ _ is) in omega (arith, differ)

pub returns-clause-user : goal.returns-clause-user
returns-clause-user c = λ own held.
    let is : Some (pos 70) ≡ Some (pos 71) = (held (pos 105) (pos 105) refl refl).1.back in
    let differ : 70 ≡ 71 = ap unsigned_abs (same_Some _ _ is) in omega (arith, differ)

pub returns-clause-user_by_rule : goal.returns-clause-user_by_rule
returns-clause-user_by_rule c = λ own held.
    let is : Some (pos 35) ≡ Some (pos 34) = (held (pos 105) refl).used in
    let differ : 35 ≡ 34 = ap unsigned_abs (same_Some _ _ is) in omega (arith, differ)

pub returns-clause-canal : goal.returns-clause-canal
returns-clause-canal c = λ own held.
    let is : pos 91 ≡ pos 90 = (held (pos 99) (pos 91) refl refl).0 in
    let differ : 91 ≡ 90 = ap unsigned_abs is in omega (arith, differ)

pub returns-clause-seepage : goal.returns-clause-seepage
returns-clause-seepage c = λ own held.
    let is : Some (pos 8) ≡ Some (pos 9) = (held (pos 99) (pos 90) refl refl).1 in
    let differ : 8 ≡ 9 = ap unsigned_abs (same_Some _ _ is) in omega (arith, differ)

pub returns-clause-energy : goal.returns-clause-energy
returns-clause-energy c = λ own held.
    let all = held (pos 3000) (pos 100) (pos 1205) (pos 1895) refl refl refl refl in
    let stood : all.stood ≡ pos 300 = same_Some _ _ (sym all.elevation) in
    let is : Some (pos 3) ≡ Some (pos 2) = rw stood at all.energy in
    let differ : 3 ≡ 2 = ap unsigned_abs (same_Some _ _ is) in omega (arith, differ)

pub returns-clause-routed : goal.returns-clause-routed
returns-clause-routed c = λ own held.
    let is : pos 301 ≡ pos 300 = (held (pos 1000) (pos 200) (pos 301) refl refl refl).0 in
    let differ : 301 ≡ 300 = ap unsigned_abs is in omega (arith, differ)

pub returns-clause-content : goal.returns-clause-content
returns-clause-content c = λ own held.
    let is : Some (pos 901) ≡ Some (pos 900) = (held (pos 1000) (pos 200) (pos 300) refl refl refl).1 in
    let differ : 901 ≡ 900 = ap unsigned_abs (same_Some _ _ is) in omega (arith, differ)

pub returns-clause-evaporation : goal.returns-clause-evaporation
returns-clause-evaporation c = λ own held.
    let is : Some (pos 49) ≡ Some (pos 50) =
    (held (pos 250) (pos 0) (pos 0) (pos 200) (pos 0) (pos 50) refl refl refl refl refl refl).evaporated.held in
    let differ : 49 ≡ 50 = ap unsigned_abs (same_Some _ _ is) in omega (arith, differ)

abbrev low_rows : List Row
low_rows = (pos 0, pos 0) ∷ (pos 500, pos 5000) ∷ []

off_level : (at : ℤ) → pos 190 ≡ at → (elev_of low_rows (pos 1895) ≡ Some at) ⊎ (vol_of low_rows at ≡ Some (pos 1895)) → ⊥
off_level at is (inl has) =
    let same : Some (pos 189) ≡ Some (pos 190) = subst (λ at. elev_of low_rows (pos 1895) ≡ Some at) (sym is) has in
    let differ : 189 ≡ 190 = ap unsigned_abs (same_Some _ _ same) in omega (arith, differ)
off_level at is (inr has) =
    let same : Some (pos 1900) ≡ Some (pos 1895) = subst (λ at. vol_of low_rows at ≡ Some (pos 1895)) (sym is) has in
    let differ : 1900 ≡ 1895 = ap unsigned_abs (same_Some _ _ same) in omega (arith, differ)

pub returns-clause-level : goal.returns-clause-level
returns-clause-level c = λ own held.
    let level = (held (pos 3000) (pos 100) (pos 1205) (pos 1895) refl refl refl refl).level in
    off_level level.0 (same_Some _ _ level.1.0) level.1.1

pub returns-clause-release : goal.returns-clause-release
returns-clause-release c = λ own held.
    let is : Some (pos 999) ≡ Some (pos 1000) = (held (pos 3000) (pos 100) (pos 1205) (pos 1895) refl refl refl refl).released.0 in
    let differ : 999 ≡ 1000 = ap unsigned_abs (same_Some _ _ is) in omega (arith, differ)
