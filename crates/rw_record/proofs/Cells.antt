-- Cells that are the same, and lists that have them.
use Rattle.rw_record.proofs.Common.{Asked, Cell, Contains, Contains-append_cases, Contains-append_left, Contains-append_right, Contains-from_any}
use Rattle.rw_record.proofs.Common.{Contains-push_cases, Draft, IsEquivalence, List, [], and_parts, ap, ap₂, arith, cell_at, cells_reached}
use Rattle.rw_record.proofs.Common.{cells_with, group_of, is_among, is_same_cell, is_shared, map, nat_eq_equiv, nat_tests, refl, subst, sym, true, ℕ}
use Rattle.rw_record.proofs.Common.{◌&&◌, ◌==◌, ◌∷◌, ◌≡◌, ◌⊎◌, inl, inr}

pub same_cell : (one other : Cell) → is_same_cell one other ≡ true → one ≡ other
same_cell one other same =
    let parts = and_parts (other.slot.0 == one.slot.0) (other.step.0 == one.step.0) same in
    let slot : one.slot.0 ≡ other.slot.0 = grind (arith, nat_tests, parts.0) in
    let step : one.step.0 ≡ other.step.0 = grind (arith, nat_tests, parts.1) in
    ap₂ cell_at slot step

pub cells_equiv : IsEquivalence is_same_cell
cells_equiv = record {
  refl = λ cell. ap₂ (λ a b. a && b) (nat_eq_equiv.refl cell.slot.0) (nat_eq_equiv.refl cell.step.0);
  symm = λ one other. ap₂ (λ a b. a && b) (nat_eq_equiv.symm other.slot.0 one.slot.0) (nat_eq_equiv.symm other.step.0 one.step.0);
  congr = λ one other third same. ap (λ cell. is_same_cell cell third) (same_cell one other same);
}

-- ---- members

pub first_of : {A : Type 0} (x : A) (xs : List A) → Contains (x ∷ xs) x
first_of x xs = (0, omega arith, refl)

-- it is the first one, or one of the others
pub first_or : {A : Type 0} (first : A) (xs : List A) (x : A) → Contains (first ∷ xs) x → (first ≡ x) ⊎ Contains xs x
first_or first xs x has = by (Contains-append_cases (first ∷ []) xs x has)
  where
    none : {A : Type 0} (x : A) → Contains [] x → ⊥
    none x has = omega (arith, has.1)

    alone : Contains (first ∷ []) x → first ≡ x
    alone has = only (Contains-push_cases [] first x has)
      where
        only : Contains [] x ⊎ (first ≡ x) → first ≡ x
        only (inl never) = absurd (none x never)
        only (inr is) = is

    by : Contains (first ∷ []) x ⊎ Contains xs x → (first ≡ x) ⊎ Contains xs x
    by (inl one) = inl (alone one)
    by (inr more) = inr more

-- a member, and where it comes from
pub record From {A B : Type 0} (f : A → B) (xs : List A) (y : B) : Type 0 where
  pub at : A
  pub has : Contains xs at
  pub is : f at ≡ y

pub map_of : {A B : Type 0} (f : A → B) (xs : List A) (x : A) → Contains xs x → Contains (map f xs) (f x)
map_of f [] x has = absurd (omega (arith, has.1))
map_of f (first ∷ xs) x has = by (map_of f xs x) (first_or first xs x has)
  where
    by : (Contains xs x → Contains (map f xs) (f x)) → (first ≡ x) ⊎ Contains xs x → Contains (map f (first ∷ xs)) (f x)
    by others (inl is) = subst (λ y. Contains (map f (first ∷ xs)) (f y)) is (first_of (f first) (map f xs))
    by others (inr more) = Contains-append_right (f first ∷ []) (map f xs) (f x) (others more)

pub map_from : {A B : Type 0} (f : A → B) (xs : List A) (y : B) → Contains (map f xs) y → From f xs y
map_from f [] y has = absurd (omega (arith, has.1))
map_from f (first ∷ xs) y has = by (map_from f xs y) (first_or (f first) (map f xs) y has)
  where
    by : (Contains (map f xs) y → From f xs y) → (f first ≡ y) ⊎ Contains (map f xs) y → From f (first ∷ xs) y
    by others (inl is) = record { at = first; has = first_of first xs; is = is }
    by others (inr more) =
        let found = others more in
        record { at = found.at; has = Contains-append_right (first ∷ []) xs found.at found.has; is = found.is }

-- ---- what a put reaches

-- a cell that shares its value with this one is among those
pub shared_in : (basin : Draft) (one other : Cell) → is_shared basin one other ≡ true → Contains (cells_with basin one) other
shared_in basin one other shared =
    let parts = and_parts (is_among other.slot.0 (group_of basin.objects basin.links one.slot.0)) (other.step.0 == one.step.0) shared in
    let group : List ℕ = group_of basin.objects basin.links one.slot.0 in
    let among : Contains group other.slot.0 =
    Contains-from_any {eq = λ (a : ℕ) b. a == b} (λ a b same. grind (arith, nat_tests, same)) other.slot.0 group parts.0 in
    let step : one.step.0 ≡ other.step.0 = grind (arith, nat_tests, parts.1) in
    let rest : List Cell = map (λ slot. cell_at slot one.step.0) group in
    Contains-append_right (one ∷ []) rest other
    (subst (Contains rest) (ap (cell_at other.slot.0) step) (map_of (λ slot. cell_at slot one.step.0) group other.slot.0 among))

-- what a put reaches is reached by all of them
pub reached_at : (basin : Draft) (puts : List Asked) (put : Asked) (cell : Cell) → Contains puts put → Contains (cells_with basin put.cell) cell
    → Contains (cells_reached basin puts) cell
reached_at basin [] put cell has near = absurd (omega (arith, has.1))
reached_at basin (first ∷ puts) put cell has near = by (λ more. reached_at basin puts put cell more near) (first_or first puts put has)
  where
    by : (Contains puts put → Contains (cells_reached basin puts) cell) → (first ≡ put) ⊎ Contains puts put
        → Contains (cells_reached basin (first ∷ puts)) cell
    by others (inl is) =
        Contains-append_left (cells_with basin first.cell) (cells_reached basin puts) cell
        (subst (λ (it : Asked). Contains (cells_with basin it.cell) cell) (sym is) near)
    by others (inr more) = Contains-append_right (cells_with basin first.cell) (cells_reached basin puts) cell (others more)
