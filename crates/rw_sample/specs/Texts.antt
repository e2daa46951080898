-- The files of the sample: its model, its ruleset, and the inputs that a seed gives.
use Rattle.std.specs.Prelude.{ℕ, zero, suc, ◌+◌, ◌*◌, ◌/◌, ◌%◌, ◌^◌, List, ◌++◌, codes}
use Rattle.std.specs.Fmt.{decimal}
use Rattle.rw_report.specs.Section.{for_each}

-- ---- the model

-- a year of days
abbrev pub run_words : List ℕ
run_words = codes "format = 1\n\n[run]\nstart = \"2020-01-01T00:00\"\nstep = \"24h\"\nsteps = 365\n"

abbrev pub reservoir_words : ℕ → List ℕ
reservoir_words number =
    codes "\n[[object]]\nname = \"D" ++ (decimal number ++ codes "\"\nkind = \"reservoir\"\ninitial_storage = 100000\n")

-- a day from a reservoir to the next one
abbrev pub reach_words : ℕ → List ℕ
reach_words number =
    codes "\n[[object]]\nname = \"R" ++ (decimal number ++ codes "\"\nkind = \"reach\"\nlag = 1\nhistory = [100]\n")

-- what a reservoir lets out flows into the reach below it, and from there into the next reservoir
abbrev pub link_words : ℕ → List ℕ
link_words number =
    codes "\n[[link]]\nslots = [\"D" ++ (decimal number ++ (codes ".Outflow\", \"R" ++ (decimal number
    ++ (codes ".Inflow\"]\n\n[[link]]\nslots = [\"R" ++ (decimal number ++ (codes ".Outflow\", \"D" ++ (decimal (number + 1)
    ++ codes ".Inflow\"]\n")))))))

-- twenty reservoirs and nineteen reaches
abbrev pub model_words : List ℕ
model_words = run_words ++ (for_each reservoir_words 20 ++ (for_each reach_words 19 ++ for_each link_words 19))

unfoldable pub sample_model : List ℕ
sample_model = model_words

-- ---- the ruleset

-- a reservoir lets out what flows in, and 500 m3 a day at most
abbrev pub rule_words : ℕ → List ℕ
rule_words number =
    codes "RULE \"D" ++ (decimal number ++ (codes "\":\n  D" ++ (decimal number ++ (codes ".Outflow[t] := Min(D" ++ (decimal number
    ++ codes ".Inflow[t], 500 \"m3/step\");\nENDRULE\n")))))

-- a rule for each reservoir
unfoldable pub sample_rules : List ℕ
sample_rules = for_each rule_words 20

-- ---- the inputs

-- the number behind another
abbrev pub next_number : ℕ → ℕ
next_number number = (number * 6364136223846793005 + 1442695040888963407) % 2 ^ 64

-- the numbers that a seed gives: the seed itself, and then each from the one before it
abbrev pub seeded_number : ℕ → ℕ → ℕ
seeded_number seed zero = seed
seeded_number seed (suc before) = next_number (seeded_number seed before)

-- the inflow that a number gives, in m3 a day
abbrev pub seeded_inflow : ℕ → ℕ
seeded_inflow number = number / 2 ^ 33 % 1000

-- the first reservoir's inflow at a timestep
abbrev pub inflow_words : ℕ → ℕ → List ℕ
inflow_words seed step =
    codes "D1.Inflow," ++ (decimal step ++ (codes "," ++ (decimal (seeded_inflow (seeded_number seed step)) ++ codes "\n")))

-- and at the first timesteps, so many of them
unfoldable pub inflow_rows : (seed count : ℕ) → List ℕ
inflow_rows seed count = for_each (inflow_words seed) count

unfoldable pub sample_inputs : ℕ → List ℕ
sample_inputs seed = codes "slot,step,value\n" ++ inflow_rows seed 365
