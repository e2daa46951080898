-- The basin that the sample's model is read as.
use Rattle.std.specs.Prelude.{ℕ, zero, suc, ◌+◌, ◌*◌, List, [], ◌∷◌, ◌++◌, None, false, pos, codes}
use Rattle.std.specs.Fmt.{decimal}
use Rattle.rw_calendar.specs.declared.step_length.StepLength.TheVariants.{Hours}
use Rattle.rw_calendar.specs.Moment.{moment_on}
use Rattle.rw_model.specs.declared.control.AgendaOrder.TheVariants.{LowFirst}
use Rattle.rw_model.specs.declared.control.RunControl.{RunControl}
use Rattle.rw_model.specs.declared.kind.Kind.TheVariants.{Reach, Reservoir}
use Rattle.rw_model.specs.Objects.{Object}
use Rattle.rw_model.specs.Draft.{Draft}

-- the days of a year, and the usual limits
abbrev pub year_of_days : RunControl
year_of_days = record {
  stamps = record { start = moment_on 2020 1 1 0; step_length = Hours 24; count = 365 };
  agenda = LowFirst;
  object_limit = 50;
  rule_limit = 20;
  ahead = 0;
}

-- a reservoir of 100000 m3, which has an inflow, an outflow and a storage
abbrev pub sample_reservoir : (name : List ℕ) → Object
sample_reservoir name = record { name = name; kind = Reservoir (pos 100000) None false false false false None }

-- so many of them
abbrev pub cascade_reservoirs : ℕ → List Object
cascade_reservoirs zero = []
cascade_reservoirs (suc before) = cascade_reservoirs before ++ sample_reservoir (codes "D" ++ decimal (suc before)) ∷ []

-- a reach of a day, which has an inflow and an outflow
abbrev pub sample_reach : (name : List ℕ) → Object
sample_reach name = record { name = name; kind = Reach 1 (pos 100 ∷ []) false false false }

-- the objects, and so many of them behind these
abbrev pub with_reaches : List Object → ℕ → List Object
with_reaches objects zero = objects
with_reaches objects (suc before) = with_reaches objects before ++ sample_reach (codes "R" ++ decimal (suc before)) ∷ []

-- a reservoir's outflow with the inflow of the reach below it, and the outflow of that with the next reservoir's inflow. The slots
-- of twenty reservoirs are those up to 60
abbrev pub cascade_links : ℕ → List (List ℕ)
cascade_links zero = []
cascade_links (suc before) =
    (cascade_links before ++ ((3 * before + 2) ∷ (2 * before + 61) ∷ []) ∷ []) ++ ((2 * before + 62) ∷ (3 * before + 4) ∷ []) ∷ []

unfoldable pub sample_basin : Draft
sample_basin = record { control = year_of_days; objects = with_reaches (cascade_reservoirs 20) 19; links = cascade_links 19; bounds = [] }
