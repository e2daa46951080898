-- How a run goes, by what the format and the table `run` say.
use Rattle.std.specs.Prelude.{ℕ, ◌==◌, if◌then◌else◌, Result, Ok}
use Rattle.rw_calendar.specs.Stamps.{stamps_of}
use Rattle.rw_model.specs.declared.control.RunControl.{RunControl}
use Rattle.rw_model_toml.specs.declared.run.Run.{Run}
use Rattle.rw_model_toml.specs.Refusal.{ModelRefusal, ◌>>=◌, refused_as, bad_calendar}

-- how many timesteps ahead rules may put in a model of this format
abbrev pub ahead_in : ℕ → ℕ
ahead_in format = if format == 1 then 0 else 30

-- the stamps of the run, and the rest of what it says, where rules may put so many timesteps ahead
abbrev pub control_of : ℕ → Run → Result RunControl ModelRefusal
control_of ahead run = refused_as bad_calendar (stamps_of run.start run.step_length run.steps) >>= λ stamps. Ok (record {
  stamps = stamps;
  agenda = run.agenda;
  object_limit = run.object_limit;
  rule_limit = run.rule_limit;
  ahead = ahead;
})
