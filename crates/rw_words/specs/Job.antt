-- What each command takes behind its name: a row of each table.
use Rattle.std.specs.Prelude.{ℕ, List, [], ◌∷◌, codes, Option, Some, None, option_map, if◌then◌else◌}
use Rattle.std.specs.Str.{bytes_eq}
use Rattle.rw_words.specs.declared.job.Job.{Job}
use Rattle.rw_words.specs.declared.job.Job.TheVariants.{Run, Simulate, Check, Compile, Why, Sample, Balance, Mrm, Migrate}

-- a text, as bytes
abbrev pub Text : Type 0
Text = List ℕ

-- the word that names a job
abbrev pub job_name : Job → Text
job_name Run = codes "run"
job_name Simulate = codes "simulate"
job_name Check = codes "check"
job_name Compile = codes "compile"
job_name Why = codes "why"
job_name (Sample seed) = codes "sample"
job_name Balance = codes "balance"
job_name Mrm = codes "mrm"
job_name Migrate = codes "migrate"

-- the paths that it wants, in order
abbrev pub paths_of : Job → List Text
paths_of Run = codes "MODEL" ∷ codes "POLICY" ∷ codes "INPUTS" ∷ []
paths_of Simulate = codes "MODEL" ∷ codes "INPUTS" ∷ []
paths_of Check = codes "MODEL" ∷ codes "POLICY" ∷ []
paths_of Compile = codes "MODEL" ∷ codes "RULES" ∷ []
paths_of Why = codes "MODEL" ∷ codes "POLICY" ∷ codes "INPUTS" ∷ []
paths_of (Sample seed) = []
paths_of Balance = codes "MODEL" ∷ codes "POLICY" ∷ codes "INPUTS" ∷ []
paths_of Mrm = codes "MODEL" ∷ codes "POLICY" ∷ codes "INPUTS" ∷ codes "TRACES" ∷ []
paths_of Migrate = codes "MODEL" ∷ []

-- the words that it wants behind them, which are no paths
abbrev pub others_of : Job → List Text
others_of Run = []
others_of Simulate = []
others_of Check = []
others_of Compile = []
others_of Why = codes "SLOT" ∷ codes "STEP" ∷ []
others_of (Sample seed) = codes "SEED" ∷ []
others_of Balance = []
others_of Mrm = []
others_of Migrate = []

-- its options with a value
abbrev pub job_options : Job → List Text
job_options Run = codes "edits" ∷ []
job_options Simulate = codes "order" ∷ []
job_options Check = []
job_options Compile = []
job_options Why = []
job_options (Sample seed) = []
job_options Balance = []
job_options Mrm = []
job_options Migrate = []

-- its options without one
abbrev pub flags_of : Job → List Text
flags_of Run = codes "flags" ∷ codes "trace" ∷ codes "reuse" ∷ codes "asked" ∷ []
flags_of Simulate = codes "flags" ∷ codes "trace" ∷ codes "asked" ∷ []
flags_of Check = []
flags_of Compile = []
flags_of Why = []
flags_of (Sample seed) = []
flags_of Balance = []
flags_of Mrm = []
flags_of Migrate = []

-- the job that a word names, with the seed that stands behind it
abbrev pub job_named : Text → Option ℕ → Option Job
job_named word seed =
    if bytes_eq word (codes "run") then Some Run
    else if bytes_eq word (codes "simulate") then Some Simulate
    else if bytes_eq word (codes "check") then Some Check
    else if bytes_eq word (codes "compile") then Some Compile
    else if bytes_eq word (codes "why") then Some Why
    else if bytes_eq word (codes "sample") then option_map (λ number. Sample number) seed
    else if bytes_eq word (codes "balance") then Some Balance
    else if bytes_eq word (codes "mrm") then Some Mrm
    else if bytes_eq word (codes "migrate") then Some Migrate
    else None
