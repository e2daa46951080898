-- Cells that share their value hold alike after any log.
use Rattle.rw_laws.proofs.Common.{AllByRecursion, Asked, Bool, Cell, Draft, IsSlot, List, Log, None, Shared-of, Some, [], among_group, ap, ap₂, arith}
use Rattle.rw_laws.proofs.Common.{cells_of, false, if◌then◌else◌, inl, inr, is_shared, known_number, last_put, nat_tests, option_or, refl, sym}
use Rattle.rw_laws.proofs.Common.{together_alike, true, written_by, ◌&&◌, ◌==◌, ◌∙◌, ◌∷◌, ◌≡◌, ◌⊎◌}
use Rattle.rw_laws.specs.Links.{HoldAsLinked}

-- one of the puts is what they leave in the cell
pub record Found (basin : Draft) (P : Asked → Type 0) (puts : List Asked) (cell : Cell) : Type 0 where
  pub put : Asked
  pub passes : P put
  pub shared : is_shared basin put.cell cell ≡ true
  pub is : last_put basin puts cell ≡ Some put.content

pub shared_alike : (basin : Draft) (cell one other : Cell) → IsSlot basin.objects one.slot.0 → is_shared basin one other ≡ true
    → is_shared basin cell one ≡ is_shared basin cell other
shared_alike basin cell one other known shared =
    let is = Shared-of basin one other shared in
    ap₂ (λ a b. a && b)
    (among_group basin.objects basin.links cell.slot.0 one.slot.0
    ∙ ap₂ (λ a b. a && b) (together_alike basin.links cell.slot.0 one.slot.0 other.slot.0 (one.slot.0 == other.slot.0) refl is.together)
    (known_number basin.objects one.slot.0 known ∙ sym is.known)
    ∙ sym (among_group basin.objects basin.links cell.slot.0 other.slot.0))
    (ap (λ step. step == cell.step.0) (sym is.step))

last_alike : (basin : Draft) (puts : List Asked) (one other : Cell) → IsSlot basin.objects one.slot.0 → is_shared basin one other ≡ true
    → last_put basin puts one ≡ last_put basin puts other
last_alike basin [] one other known shared = refl
last_alike basin (put ∷ puts) one other known shared =
    ap₂ (λ rest test. option_or rest (if test then Some put.content else None)) (last_alike basin puts one other known shared)
    (shared_alike basin put.cell one other known shared)

-- a cell shares its value with itself
pub self_shared : (basin : Draft) (cell : Cell) → IsSlot basin.objects cell.slot.0 → is_shared basin cell cell ≡ true
self_shared basin cell known =
    let same : (cell.slot.0 == cell.slot.0) ≡ true = grind (arith, nat_tests) in
    let at : (cell.step.0 == cell.step.0) ≡ true = grind (arith, nat_tests) in
    rw (among_group basin.objects basin.links cell.slot.0 cell.slot.0, known_number basin.objects cell.slot.0 known, same, at) refl

pub linked : (basin : Draft) (log : Log) (one other : Cell) → IsSlot basin.objects one.slot.0 → is_shared basin one other ≡ true
    → cells_of basin log one ≡ cells_of basin log other
linked basin [] one other known shared = refl
linked basin (event ∷ log) one other known shared =
    ap₂ (λ now before. option_or now before) (last_alike basin (written_by event) one other known shared) (linked basin log one other known shared)

pub links : (basin : Draft) (log : Log) → HoldAsLinked basin (cells_of basin log)
links basin log one other known shared = linked basin log one other known.slot shared

-- what puts leave in a cell: nothing, or the content of one of them
pub last_found : (basin : Draft) (P : Asked → Type 0) (puts : List Asked) (cell : Cell) → AllByRecursion P puts
    → (last_put basin puts cell ≡ None) ⊎ Found basin P puts cell
last_found basin P [] cell all = inl refl
last_found basin P (put ∷ puts) cell all = by (last_found basin P puts cell all.1) (is_shared basin put.cell cell) refl
  where
    by : (last_put basin puts cell ≡ None) ⊎ Found basin P puts cell → (test : Bool) → is_shared basin put.cell cell ≡ test
        → (last_put basin (put ∷ puts) cell ≡ None) ⊎ Found basin P (put ∷ puts) cell
    by (inr later) test is = inr (record {
      put = later.put;
      passes = later.passes;
      shared = later.shared;
      is = ap (λ found. option_or found (if is_shared basin put.cell cell then Some put.content else None)) later.is;
    })
    by (inl none) true is = inr (record {
      put = put;
      passes = all.0;
      shared = is;
      is = ap₂ (λ found test. option_or found (if test then Some put.content else None)) none is;
    })
    by (inl none) false is = inl (ap₂ (λ found test. option_or found (if test then Some put.content else None)) none is)
