-- What the table `run` says.
use Rattle.std.specs.Prelude.{ℕ, List, [], ◌∷◌, Result, Ok, codes}
use Rattle.std.specs.Int.{IsInRange}
use Rattle.rw_calendar.specs.declared.limits.TheConstants.{STEPS_MAX}
use Rattle.rw_calendar.specs.declared.start.Start.{Start}
use Rattle.rw_calendar.specs.declared.step_length.StepLength.{StepLength}
use Rattle.rw_calendar.specs.StepLength.{IsStepLength}
use Rattle.rw_model.specs.declared.control.AgendaOrder.{AgendaOrder}
use Rattle.toml.specs.Data.{Members}
use Rattle.rw_model_toml.specs.declared.run.Run.{Run}
use Rattle.rw_model_toml.specs.Refusal.{ModelRefusal, ◌>>=◌}
use Rattle.rw_model_toml.specs.Value.{text_of, count_read}
use Rattle.rw_model_toml.specs.Key.{required, optional, known_or, only_listed}
use Rattle.rw_model_toml.specs.StartText.{start_in}
use Rattle.rw_model_toml.specs.Word.{step_length_in, agenda_in}

abbrev pub start_read : Members → Result Start ModelRefusal
start_read table = required text_of (codes "run") (codes "start") table >>= λ text. known_or (codes "run.start") (start_in text)

abbrev pub step_length_of : Members → Result StepLength ModelRefusal
step_length_of table = required text_of (codes "run") (codes "step") table >>= λ word. known_or (codes "run.step") (step_length_in word)

abbrev pub agenda_read : Members → Result AgendaOrder ModelRefusal
agenda_read table = optional (codes "321") text_of (codes "run") (codes "agenda") table >>= λ word. known_or (codes "run.agenda") (agenda_in word)

abbrev pub run_keys : List (List ℕ)
run_keys =
    codes "start" ∷ codes "step" ∷ codes "steps" ∷ codes "agenda" ∷ codes "object_limit" ∷ codes "rule_limit" ∷ []

-- the keys of `run` in their order
unfoldable pub run_of : Members → Result Run ModelRefusal
run_of table = do
  start ← start_read table
  step_length ← step_length_of table
  steps ← required (count_read 1 STEPS_MAX) (codes "run") (codes "steps") table
  agenda ← agenda_read table
  object_limit ← optional 50 (count_read 16 100) (codes "run") (codes "object_limit") table
  rule_limit ← optional 20 (count_read 1 100) (codes "run") (codes "rule_limit") table
  listed ← only_listed run_keys (codes "run") table
  Ok (record {
    start = start;
    step_length = step_length;
    steps = steps;
    agenda = agenda;
    object_limit = object_limit;
    rule_limit = rule_limit;
  })

-- steps of a length that there is, and counts in the ranges of their keys
pub record IsRunInRange (run : Run) : Type 0 where
  pub length : IsStepLength run.step_length
  pub steps : IsInRange 1 STEPS_MAX run.steps
  pub object_limit : IsInRange 16 100 run.object_limit
  pub rule_limit : IsInRange 1 100 run.rule_limit
