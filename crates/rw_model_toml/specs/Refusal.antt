-- Why a model is refused, and what is read where it isn't.
use Rattle.std.specs.Prelude.{ℕ, List, Result, Ok, Err}
use Rattle.rw_calendar.specs.Stamps.{CalRefusal}
use Rattle.rw_table.specs.Table.{TableRefusal}
use Rattle.rw_model.specs.Refusal.{BuildRefusal, bad_parameter}

-- the path at which it is refused, and what is wrong there
pub data ModelRefusal : Type 0 where
  not_toml : ModelRefusal
  missing : List ℕ → ModelRefusal
  wrong_kind : List ℕ → ModelRefusal
  unknown_key : List ℕ → ModelRefusal
  unknown_kind : List ℕ → ModelRefusal
  bad_build : List ℕ → BuildRefusal → ModelRefusal
  bad_table : List ℕ → TableRefusal → ModelRefusal
  bad_calendar : CalRefusal → ModelRefusal

-- a value outside its range
abbrev pub out_of_range : List ℕ → ModelRefusal
out_of_range path = bad_build path bad_parameter

-- what is read, or the first that is wrong
abbrev pub Reading : Type 0 → Type 0
Reading A = Result A ModelRefusal

-- what is refused below is refused here, in the words of a model
abbrev pub refused_as : {R A : Type 0} → (R → ModelRefusal) → Result A R → Result A ModelRefusal
refused_as tell (Ok x) = Ok x
refused_as tell (Err refusal) = Err (tell refusal)

-- what is read next, unless something is wrong already
infixl 10 ◌>>=◌
abbrev pub ◌>>=◌ : {A B : Type 0} → Result A ModelRefusal → (A → Result B ModelRefusal) → Result B ModelRefusal
(Ok x) >>= f = f x
(Err refusal) >>= f = Err refusal
