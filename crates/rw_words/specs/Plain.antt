-- Words that ask for a command with no option.
use Rattle.std.specs.Prelude.{ℕ, ◌≡◌, ◌≢◌, ◌≤◌, ◌∷◌, [], List, length, slice_index, None, Some, false}
use Rattle.rw_words.specs.Command.{Command, cell_words, asked_command}
use Rattle.rw_words.specs.Job.{Text, job_name}
use Rattle.rw_words.specs.Seed.{seed_of_text}
use Rattle.rw_words.specs.declared.job.Job.{Job}
use Rattle.rw_words.specs.declared.order.Order.TheVariants.{Oldest}
use Rattle.rw_words.specs.declared.job.Job.TheVariants.{Run, Simulate, Check, Compile, Why, Sample, Balance, Mrm, Migrate}

-- a word that isn't empty and isn't an option, which begins with `-`
pub record IsPath (word : Text) : Type 0 where
  pub some : 1 ≤ length word
  pub no_option : slice_index word 0 ≢ 45

abbrev pub plain_command : Job → List Text → Command
plain_command job paths = record {
  job = job;
  paths = paths;
  cell = None;
  edits = None;
  order = Oldest;
  flags = false;
  trace = false;
  reuse = false;
  asked = false;
}

-- of the cell that these words name
abbrev pub of_cell : (slot step : Text) → Command → Command
of_cell slot step command = record command { cell = Some (cell_words slot step) }

-- the name of a job and its paths, and the words behind them, ask for it
pub record PlainWords : Type 0 where
  pub run : (model policy inputs : Text) → IsPath model → IsPath policy → IsPath inputs
      → asked_command (job_name Run ∷ model ∷ policy ∷ inputs ∷ []) ≡ Some (plain_command Run (model ∷ policy ∷ inputs ∷ []))
  pub simulate : (model inputs : Text) → IsPath model → IsPath inputs
      → asked_command (job_name Simulate ∷ model ∷ inputs ∷ []) ≡ Some (plain_command Simulate (model ∷ inputs ∷ []))
  pub check : (model policy : Text) → IsPath model → IsPath policy
      → asked_command (job_name Check ∷ model ∷ policy ∷ []) ≡ Some (plain_command Check (model ∷ policy ∷ []))
  pub compile : (model rules : Text) → IsPath model → IsPath rules
      → asked_command (job_name Compile ∷ model ∷ rules ∷ []) ≡ Some (plain_command Compile (model ∷ rules ∷ []))
  pub why : (model policy inputs slot step : Text) → IsPath model → IsPath policy → IsPath inputs → IsPath slot → IsPath step
      → asked_command (job_name Why ∷ model ∷ policy ∷ inputs ∷ slot ∷ step ∷ [])
      ≡ Some (of_cell slot step (plain_command Why (model ∷ policy ∷ inputs ∷ [])))
  pub sample : (text : Text) (seed : ℕ) → IsPath text → seed_of_text text ≡ Some seed
      → asked_command (job_name (Sample seed) ∷ text ∷ []) ≡ Some (plain_command (Sample seed) [])
  pub balance : (model policy inputs : Text) → IsPath model → IsPath policy → IsPath inputs
      → asked_command (job_name Balance ∷ model ∷ policy ∷ inputs ∷ []) ≡ Some (plain_command Balance (model ∷ policy ∷ inputs ∷ []))
  pub mrm : (model policy inputs traces : Text) → IsPath model → IsPath policy → IsPath inputs → IsPath traces
      → asked_command (job_name Mrm ∷ model ∷ policy ∷ inputs ∷ traces ∷ [])
      ≡ Some (plain_command Mrm (model ∷ policy ∷ inputs ∷ traces ∷ []))
  pub migrate : (model : Text) → IsPath model → asked_command (job_name Migrate ∷ model ∷ []) ≡ Some (plain_command Migrate (model ∷ []))
