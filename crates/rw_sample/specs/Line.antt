-- The line that is written of the run of the sample.
use Rattle.std.specs.Prelude.{ℕ, zero, suc, ℤ, pos, neg_ℤ, ◌+◌, ◌*◌, ◌+ℤ◌, ◌≤ℤ◌, Bool, true, false, if◌then◌else◌, List, [], ◌∷◌, ◌++◌, length, Option, None, Some, option_map, bytes_eq, codes}
use Rattle.std.specs.Option.{option_map_or}
use Rattle.std.specs.Fmt.{decimal, signed_decimal}
use Rattle.rw_model.specs.Objects.{Placed, all_slots, slot_at}
use Rattle.rw_model.specs.Draft.{Draft}
use Rattle.rw_run.specs.declared.run.RunEnd.{RunEnd}
use Rattle.rw_run.specs.declared.run.RunEnd.TheVariants.{Settled, Fault}
use Rattle.rw_run.specs.declared.trace.TraceEvent.{TraceEvent}
use Rattle.rw_run.specs.declared.trace.TraceEvent.TheVariants.{Idle, Solve, Fire}
use Rattle.rw_run.specs.Log.{Cells}
use Rattle.rw_report.specs.Outcome.{RunOutcome}
use Rattle.rw_report.specs.Section.{values_in}
use Rattle.rw_sample.specs.declared.counted.Counted.{Counted}
use Rattle.rw_sample.specs.declared.counted.Counted.TheVariants.{Dispatches, Firings}

-- ---- what happened

-- the line of a trace tells a dispatch
abbrev pub is_dispatch : TraceEvent → Bool
is_dispatch (Idle object) = true
is_dispatch (Solve object) = true
is_dispatch line = false

-- or a firing
abbrev pub is_firing : TraceEvent → Bool
is_firing (Fire rule done count) = true
is_firing line = false

abbrev pub tells : Counted → TraceEvent → Bool
tells Dispatches line = is_dispatch line
tells Firings line = is_firing line

abbrev pub one_if_told : Counted → TraceEvent → ℕ
one_if_told counted line = if tells counted line then 1 else 0

-- how many of them the lines of a trace tell
abbrev pub lines_counted : Counted → List TraceEvent → ℕ
lines_counted counted [] = 0
lines_counted counted (line ∷ lines) = one_if_told counted line + lines_counted counted lines

-- ---- what is stored

-- the slot of this number is a reservoir's storage
abbrev pub is_storage : Draft → (slot : ℕ) → Bool
is_storage basin slot =
    option_map_or (λ name. bytes_eq name (codes "Storage")) (option_map (λ (placed : Placed). placed.slot.name) (slot_at basin.objects slot)) false

abbrev pub known_or_0 : Option ℤ → ℤ
known_or_0 None = pos 0
known_or_0 (Some value) = value

-- what the slot of this number adds to the sum: its value, where it is a storage and known
abbrev pub stored_in : Draft → Cells → (step slot : ℕ) → ℤ
stored_in basin cells step slot =
    if is_storage basin slot then known_or_0 (values_in cells slot step) else pos 0

-- the sum over the numbers 1, 2, .. up to this one
abbrev pub sum_to : (ℕ → ℤ) → ℕ → ℤ
sum_to amount zero = pos 0
sum_to amount (suc before) = sum_to amount before +ℤ amount (suc before)

-- what all reservoirs store at a timestep, where it is known
abbrev pub storage_in : Draft → Cells → (step : ℕ) → ℤ
storage_in basin cells step = sum_to (stored_in basin cells step) (length (all_slots basin.objects))

-- at most so many times 10^17, up or down: a sum of so many quantities
pub record IsSumOf (times : ℕ) (sum : ℤ) : Type 0 where
  pub low : neg_ℤ (pos (times * 100000000000000000)) ≤ℤ sum
  pub high : sum ≤ℤ pos (times * 100000000000000000)

-- ---- the line

abbrev pub end_word : RunEnd → List ℕ
end_word Settled = codes "settled"
end_word (Fault why) = codes "fault"

-- with these counts and this sum
abbrev pub line_with : (seed : ℕ) → (word : List ℕ) → (dispatches firings : ℕ) → (storage : ℤ) → List ℕ
line_with seed word dispatches firings storage =
    codes "sample " ++ (decimal seed ++ (codes " " ++ (word ++ (codes " steps 365 dispatches " ++ (decimal dispatches
    ++ (codes " firings " ++ (decimal firings ++ (codes " storage " ++ (signed_decimal storage ++ codes "\n")))))))))

-- the line on the run of the sample of a seed
abbrev pub sample_line : Draft → (seed : ℕ) → RunOutcome → List ℕ
sample_line basin seed run =
    line_with seed (end_word run.end) (lines_counted Dispatches run.lines) (lines_counted Firings run.lines) (storage_in basin run.cells 365)
