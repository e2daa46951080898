-- A reservoir's contents, by storage or by elevation, and the other of the two, which is put beside them.
use Rattle.rw_order.proofs.Common.{AllByRecursion, Balanced, Bool, Brings, Elevation, Given, Holds, List, None, Option, OutOfRange, Put, Row, Solved}
use Rattle.rw_order.proofs.Common.{Solves, Some, Storage, Takes, View, [], ap, arith, basis_of, beside_given, both_ways, can_hold, contents_by}
use Rattle.rw_order.proofs.Common.{elevation_of, false, fault_of_basis, given, if◌then◌else◌, inl, inr, is_some, level_puts, nat_le, nat_tests}
use Rattle.rw_order.proofs.Common.{none-some, pos, put_found, refl, same_Some, solved_balance, subst, sym, true, unwrap_or, volume_of, ℕ, ℤ, ◌==◌}
use Rattle.rw_order.proofs.Common.{◌∙◌, ◌∷◌}
use Rattle.rw_order.proofs.Common.{◌≡◌}
use Rattle.rw_order.proofs.Held.{AreHeld, AreZero, Sight, Stands, Values}
use Rattle.rw_order.proofs.Terms.{Parts, store_sight, terms_of}
use Rattle.rw_order.proofs.Within.{IsWithin, StandsIn}
use Rattle.rw_order.proofs.Missing.{holds_given, other_given, solves_missing}

abbrev pub store_parts : Parts
store_parts = (Brings, 0) ∷ (Takes, 1) ∷ (Takes, 2) ∷ []

-- Storage and PoolElevation are given alike
pub record AreLevelled (one other : View) : Type 0 where
  pub storage : given one 2 ≡ given other 2
  pub elevation : given one 3 ≡ given other 3

-- ---- by what the contents are given, where numbers are 0

pub basis_both : (storage elevation : Given) → storage.number ≡ 0 → basis_of (Some storage) (Some elevation) ≡ Storage storage
basis_both storage elevation zero_number =
    let first : nat_le storage.number elevation.number ≡ true = grind (arith, nat_tests, zero_number) in
    ap (λ test. if test then Storage storage else Elevation elevation) first

abbrev pub Zero : Option Given → Type 0
Zero None = Unit {0}
Zero (Some held) = held.number ≡ 0

pub zero_at : (sight : Sight) (place : ℕ) → AreZero sight → Zero (sight place)
zero_at sight place zeros = by (sight place) refl
  where
    by : (found : Option Given) → sight place ≡ found → Zero found
    by None is = tt
    by (Some held) is = zeros place held is

contents_zero : (table : Option (List Row)) (storage elevation : Option Given) (held : Given) → Zero storage → Zero elevation
    → contents_by table (basis_of storage elevation) ≡ Some held → held.number ≡ 0
contents_zero table None None held s e is = absurd (none-some _ is)
contents_zero table (Some storage) None held s e is = sym (ap (λ (g : Given). g.number) (same_Some _ _ is)) ∙ s
contents_zero table None (Some elevation) held s e is = sym (ap (λ (g : Given). g.number) (same_Some _ _ is)) ∙ e
contents_zero table (Some storage) (Some elevation) held s e is =
    sym (ap (λ (g : Given). g.number) (same_Some _ _ (sym (ap (contents_by table) (basis_both storage elevation s)) ∙ is))) ∙ s

-- what is given in a place is the contents, or stands in the view
by_place : (contents : Option Given) (view : View) (place : ℕ) (held : Given) (P : Type 0) → (contents ≡ Some held → place ≡ 2 → P)
    → (given view place ≡ Some held → P)
    → (test : Bool) → (place == 2) ≡ test → (if test then contents else given view place) ≡ Some held → P
by_place contents view place held P f g true same is = f is (grind (arith, nat_tests, same))
by_place contents view place held P f g false other is = g is

pub store_zero : (table : Option (List Row)) (view : View) → AreZero (given view) → AreZero (store_sight table view)
store_zero table view zeros place held is =
    by_place (contents_by table (basis_of (given view 2) (given view 3))) view place held (held.number ≡ 0)
    (λ e at. contents_zero table (given view 2) (given view 3) held (zero_at (given view) 2 zeros) (zero_at (given view) 3 zeros) e)
    (λ e. zeros place held e) (place == 2) refl is

pub store_stands : (values : Values) (table : Option (List Row)) (view : View) → Stands values (given view)
    → ((held : Given) → contents_by table (basis_of (given view 2) (given view 3)) ≡ Some held → values 2 ≡ Some held.value)
    → Stands values (store_sight table view)
store_stands values table view stands third place held is =
    by_place (contents_by table (basis_of (given view 2) (given view 3))) view place held (values place ≡ Some held.value)
    (λ e at. subst (λ p. values p ≡ Some held.value) (sym at) (third held e)) (λ e. stands place held e) (place == 2) refl is

-- ---- which puts stand beside the contents

nothing_beside : (table : Option (List Row)) (storage elevation : Option Given) → Zero storage → contents_by table (basis_of storage elevation) ≡ None
    → beside_given table storage elevation ≡ []
nothing_beside table None None zeros none = refl
nothing_beside table (Some storage) None zeros none = absurd (none-some _ (sym none))
nothing_beside table None (Some elevation) zeros none = absurd (none-some _ (sym none))
nothing_beside table (Some storage) (Some elevation) zeros none =
    absurd (none-some _ (sym none ∙ ap (contents_by table) (basis_both storage elevation zeros)))

module _ (table : Option (List Row)) (storage elevation : Option Given) (zero_storage : Zero storage) where
  abbrev contents : Option Given
  contents = contents_by table (basis_of storage elevation)

  -- what holds of the puts of a level holds of those beside given contents
  pub beside_of : (P : Put → Type 0) (sight : Sight) (steady : Option ℤ) (balanced : Balanced) → AreZero sight → sight 2 ≡ contents
      → solved_balance steady (terms_of sight store_parts) ≡ balanced → AllByRecursion P (level_puts table storage elevation balanced)
      → AllByRecursion P (beside_given table storage elevation)
  beside_of P sight steady (Solves place value number) zeros third is all = by (place == 2) refl all
    where
      by : (test : Bool) → (place == 2) ≡ test
          → AllByRecursion P (if test then put_found 3 (elevation_of table value) number else beside_given table storage elevation)
          → AllByRecursion P (beside_given table storage elevation)
      by false apart all = all
      by true same all =
          let at : place ≡ 2 = grind (arith, nat_tests, same) in
          subst (AllByRecursion P) (sym (nothing_beside table storage elevation zero_storage
          (sym third ∙ ap sight (sym at) ∙ solves_missing sight store_parts steady place number value zeros is))) tt
  beside_of P sight steady balanced zeros third is all = all

  -- where the contents aren't given they are what was solved
  pub third_solved : (sight : Sight) (steady : Option ℤ) (values : Values) (balanced : Balanced)
      → solved_balance steady (terms_of sight store_parts) ≡ balanced
      → StandsIn values balanced → sight 2 ≡ None → (value : ℤ) × (number : ℕ) × (balanced ≡ Solves 2 value number)
  third_solved sight steady values Holds is stands none =
      absurd (both_ways (is_some (sight 2)) (ap is_some none) (holds_given sight store_parts steady 2 (inr (inr (inl refl))) is))
  third_solved sight steady values (Solves place value number) is stands none =
      elim (other_given sight store_parts steady place number value 2 (tt, (tt, (tt, tt))) is (inr (inr (inl refl)))) [
        | inl some ↦ absurd (both_ways (is_some (sight 2)) (ap is_some none) some)
        | inr at ↦ (value, number, ap (λ p. Solves p value number) at)
      ]
  third_solved sight steady values balanced is stands none = absurd stands

  found_held : (values : Values) (value : Option ℤ) (number other : ℕ) → AreHeld values (put_found 3 value number)
      → AreHeld values (put_found 3 value other)
  found_held values None number other held = held
  found_held values (Some value) number other held = held

  pub level_stays : (values : Values) (one other : Sight) (steady_one steady_other : Option ℤ) (first second : Balanced) → AreZero one → AreZero other
      → one 2 ≡ contents
      → other 2 ≡ contents → solved_balance steady_one (terms_of one store_parts) ≡ first
      → solved_balance steady_other (terms_of other store_parts) ≡ second
      → StandsIn values first → IsWithin values second → AreHeld values (level_puts table storage elevation first)
      → AreHeld values (level_puts table storage elevation second)
  level_stays values one other steady_one steady_other first (Solves place value number) zeros_one zeros_other at_one at_other is_first is_second
      stands within held =
      by (place == 2) refl
    where
      by : (test : Bool) → (place == 2) ≡ test
          → AreHeld values (if test then put_found 3 (elevation_of table value) number else beside_given table storage elevation)
      by false apart = beside_of (λ (put : Put). values put.place ≡ Some put.value) one steady_one first zeros_one at_one is_first held
      by true same =
          let at : place ≡ 2 = grind (arith, nat_tests, same) in
          let none : one 2 ≡ None =
          at_one ∙ sym at_other ∙ ap other (sym at) ∙ solves_missing other store_parts steady_other place number value zeros_other is_second in
          let solved_one = third_solved one steady_one values first is_first stands none in
          let there : values 2 ≡ Some solved_one.0 = subst (StandsIn values) {y = Solves 2 solved_one.0 solved_one.1} solved_one.2 stands in
          let same_value : solved_one.0 ≡ value = same_Some _ _ (sym there ∙ subst (λ p. values p ≡ Some value) at within) in
          let found : AreHeld values (put_found 3 (elevation_of table solved_one.0) solved_one.1) =
          subst (λ b. AreHeld values (level_puts table storage elevation b)) solved_one.2 held in
          found_held values (elevation_of table value) solved_one.1 number
          (subst (λ v. AreHeld values (put_found 3 (elevation_of table v) solved_one.1)) same_value found)
  level_stays values one other steady_one steady_other first second zeros_one zeros_other at_one at_other is_first is_second stands within held =
      beside_of (λ (put : Put). values put.place ≡ Some put.value) one steady_one first zeros_one at_one is_first held

-- ---- the contents stand there, and can be held

volume_there : (values : Values) (table : Option (List Row)) (elevation held : Given) (volume : Option ℤ) → volume_of table elevation.value ≡ volume
    → (if is_some volume then None else Some (OutOfRange 3 elevation.value)) ≡ None → AreHeld values (put_found 2 volume elevation.number)
    → unwrap_or volume (pos 0) ≡ held.value → values 2 ≡ Some held.value
volume_there values table elevation held None is fine there same = absurd (none-some _ (sym fine))
volume_there values table elevation held (Some volume) is fine there same = there.0 ∙ ap Some same

pub contents_stand : (values : Values) (table : Option (List Row)) (view : View) (storage elevation : Option Given) (held : Given)
    → Stands values (given view)
    → given view 2 ≡ storage → Zero storage → fault_of_basis table (basis_of storage elevation) ≡ None
    → AreHeld values (beside_given table storage elevation)
    → contents_by table (basis_of storage elevation) ≡ Some held → values 2 ≡ Some held.value
contents_stand values table view None None held stands is zero_storage fine beside_them e = absurd (none-some _ e)
contents_stand values table view (Some storage) None held stands is zero_storage fine beside_them e = stands 2 held (is ∙ e)
contents_stand values table view (Some storage) (Some elevation) held stands is zero_storage fine beside_them e =
    stands 2 held (is ∙ sym (ap (contents_by table) (basis_both storage elevation zero_storage)) ∙ e)
contents_stand values table view None (Some elevation) held stands is zero_storage fine beside_them e =
    volume_there values table elevation held (volume_of table elevation.value) refl fine beside_them (ap (λ (g : Given). g.value) (same_Some _ _ e))

-- a storage that stands there can be held
pub hold_if : (test : Bool) (fault : Solved) → (if test then None else Some fault) ≡ None → test ≡ true
hold_if true fault e = refl
hold_if false fault e = absurd (none-some _ (sym e))

pub volume_held : (values : Values) (table : Option (List Row)) (volume : Option ℤ) (number : ℕ) (fault : Solved) (value : ℤ)
    → (if is_some volume then None else Some fault) ≡ None → AreHeld values (put_found 2 volume number)
    → AllByRecursion (λ (put : Put). put.place ≡ 2 → can_hold table put.value ≡ true) (put_found 2 volume number) → values 2 ≡ Some value
    → can_hold table value ≡ true
volume_held values table None number fault value fine held all there = absurd (none-some _ (sym fine))
volume_held values table (Some volume) number fault value fine held all there =
    subst (λ v. can_hold table v ≡ true) (same_Some _ _ (sym held.0 ∙ there)) (all.0 refl)
