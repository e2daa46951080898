-- Within the crate: cells, and apart from them what they held.
use Rattle.std.specs.Prelude.{◌≡◌, ◌⊎◌, ◌++◌, ℕ, ◌<◌, ◌≤◌, List, Contains, Option, length, map, slice_get}
use Rattle.rw_model.specs.declared.content.Content.{Content}
use Rattle.rw_run.specs.declared.held.Held.{Held}
use Rattle.rw_record.specs.declared.held_list.PlacedCell.{PlacedCell}

-- a cell with what stands in its place, or nothing where none does
abbrev pub held_of : List Content → PlacedCell → Held
held_of contents one = record { cell = one.cell; content = slice_get contents one.place }

-- there is such a place, or it is the one that stays empty
abbrev pub IsPlace : List Content → ℕ → Type 0
IsPlace contents place = (place < length contents) ⊎ (place ≡ 65535)

-- what was held is there, behind the others
pub record KeepsContent (content : Option Content) (old new : List Content) (place : ℕ) : Type 0 where
  pub more : List Content
  pub added : new ≡ old ++ more
  pub few : length more ≤ 1
  pub there : slice_get new place ≡ content
  pub known : IsPlace new place

-- these cells stand there with what they held
pub record AreListed (items : List Held) (cells : List PlacedCell) (contents : List Content) : Type 0 where
  pub are : map (held_of contents) cells ≡ items
  pub few : length contents ≤ length items
  pub known : (one : PlacedCell) → Contains cells one → IsPlace contents one.place
