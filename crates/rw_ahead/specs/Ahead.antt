-- A basin whose rules may put further ahead, and policies that do the same.
use Rattle.std.specs.Prelude.{◌≡◌, ℕ, ℤ, Option}
use Rattle.rw_base.specs.declared.number.Cell.{Cell}
use Rattle.rw_model.specs.Draft.{Draft}
use Rattle.rw_run.specs.Next.{Policy}

-- the basin, where rules may put so many timesteps ahead
abbrev pub ahead_to : ℕ → Draft → Draft
ahead_to most basin = record {
  control = record {
    stamps = basin.control.stamps;
    agenda = basin.control.agenda;
    object_limit = basin.control.object_limit;
    rule_limit = basin.control.rule_limit;
    ahead = most;
  };
  objects = basin.objects;
  links = basin.links;
  bounds = basin.bounds;
}

-- as many rules, each of which does the same for the same values
pub record DoTheSame (policy other : Policy) : Type 0 where
  pub rules : policy.rules ≡ other.rules
  pub fire : (rule step : ℕ) (values : Cell → Option ℤ) → policy.fire rule step values ≡ other.fire rule step values
