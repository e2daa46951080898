-- A tally: what is kept of the runs that were added to it.
use Rattle.std.specs.Prelude.{◌≡◌, Bool, true, false, ℕ, zero, suc, ◌+◌, ℤ, List, [], ◌∷◌, ◌++◌, length, Option}
use Rattle.rw_model.specs.Draft.{Draft}
use Rattle.rw_model.specs.Objects.{all_slots}
use Rattle.rw_run.specs.declared.run.RunEnd.{RunEnd}
use Rattle.rw_run.specs.declared.run.RunEnd.TheVariants.{Settled, Fault}
use Rattle.rw_run.specs.Log.{Cells}
use Rattle.rw_report.specs.Section.{values_in}

-- of a basin of so many slots and timesteps, and with room for so many runs: the tables of the runs that settled, one after another,
-- how many these are, and how many runs were added
pub record Tally : Type 0 where
  pub slots : ℕ
  pub steps : ℕ
  pub values : List (Option ℤ)
  pub settled : ℕ
  pub runs : ℕ
  pub room : ℕ

-- ---- a table

-- the things of the numbers 1, 2, .. up to this one
abbrev pub listed_up_to : {A : Type 0} → (ℕ → A) → ℕ → List A
listed_up_to things zero = []
listed_up_to things (suc before) = listed_up_to things before ++ things (suc before) ∷ []

-- the lists of these numbers, one behind the other
abbrev pub joined_up_to : {A : Type 0} → (ℕ → List A) → ℕ → List A
joined_up_to lists zero = []
joined_up_to lists (suc before) = joined_up_to lists before ++ lists (suc before)

-- what a slot has at each timestep
abbrev pub slot_values : Cells → (steps slot : ℕ) → List (Option ℤ)
slot_values cells steps slot = listed_up_to (λ step. values_in cells slot step) steps

-- what all slots have, slot after slot
abbrev pub cell_table : Draft → Cells → List (Option ℤ)
cell_table basin cells = joined_up_to (slot_values cells basin.control.stamps.count) (length (all_slots basin.objects))

-- ---- runs

abbrev pub is_settled : RunEnd → Bool
is_settled Settled = true
is_settled (Fault why) = false

-- a tally made for the basin
pub record IsTallyFor (basin : Draft) (tally : Tally) : Type 0 where
  pub slots : tally.slots ≡ length (all_slots basin.objects)
  pub steps : tally.steps ≡ basin.control.stamps.count

-- a tally to which no run was added
abbrev pub no_runs : Draft → ℕ → Tally
no_runs basin room = record {
  slots = length (all_slots basin.objects);
  steps = basin.control.stamps.count;
  values = [];
  settled = 0;
  runs = 0;
  room = room;
}

-- the tally with one run more, which settled or didn't, with this in the cells
abbrev pub with_run : Draft → (settled : Bool) → Cells → Tally → Tally
with_run basin true cells tally = record {
  slots = tally.slots;
  steps = tally.steps;
  values = tally.values ++ cell_table basin cells;
  settled = tally.settled + 1;
  runs = tally.runs + 1;
  room = tally.room;
}
with_run basin false cells tally = record {
  slots = tally.slots;
  steps = tally.steps;
  values = tally.values;
  settled = tally.settled;
  runs = tally.runs + 1;
  room = tally.room;
}
