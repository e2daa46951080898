-- The columns of a table in which slots that carry one value have one column, counted from 1.
use Rattle.std.specs.Prelude.{◌≡◌, ◌⊎◌, ℕ, ◌+◌, ◌-◌, ◌≤◌, ◌==◌, nat_le, false, true, if◌then◌else◌, List, length, slice_index_or}
use Rattle.rw_model.specs.Draft.{Draft}
use Rattle.rw_model.specs.Links.{is_together}

-- the column of a slot, and 0 where there is no such slot
abbrev pub column_of : List ℕ → ℕ → ℕ
column_of columns slot = if nat_le 1 slot then slice_index_or columns (slot - 1) 0 else 0

-- each of the slots has one of so many columns
abbrev pub HaveColumns : ℕ → List ℕ → Type 0
HaveColumns width columns =
    (slot : ℕ) → 1 ≤ slot → slot ≤ length columns → (1 ≤ column_of columns slot) × (column_of columns slot ≤ width)

-- the columns of the first slots, so many of them
pub record AreColumns (basin : Draft) (count width : ℕ) (columns : List ℕ) : Type 0 where
  pub all : length columns ≡ count
  pub few : width ≤ count
  pub first : (slot : ℕ) → 1 ≤ slot → slot ≤ count → 1 ≤ column_of columns slot
  pub last : (slot : ℕ) → 1 ≤ slot → slot ≤ count → column_of columns slot ≤ width
  pub alike : (one other : ℕ) → 1 ≤ one → one ≤ count → 1 ≤ other → other ≤ count
      → (column_of columns other == column_of columns one) ≡ is_together basin.links one other

-- none of the first slots carries one value with the next one, which has a new column
pub record HasNewColumn (basin : Draft) (count width column : ℕ) : Type 0 where
  pub next : column ≡ width + 1
  pub alone : (slot : ℕ) → 1 ≤ slot → slot ≤ count → is_together basin.links (count + 1) slot ≡ false

-- one of the first slots does, and the next one has its column
pub record IsShared (basin : Draft) (count : ℕ) (columns : List ℕ) (column : ℕ) : Type 0 where
  pub slot : ℕ
  pub first : 1 ≤ slot
  pub last : slot ≤ count
  pub together : is_together basin.links (count + 1) slot ≡ true
  pub same : column ≡ column_of columns slot

abbrev pub IsColumnFor : Draft → ℕ → ℕ → List ℕ → ℕ → Type 0
IsColumnFor basin count width columns column = HasNewColumn basin count width column ⊎ IsShared basin count columns column
