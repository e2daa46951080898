-- A call of the program.
use Rattle.std.specs.Prelude.{ℕ, List}
use Rattle.rw_io.specs.Outside.{Change, ShelfView, SinkView}

-- its words, and what it was handed, before and after
pub record Call : Type 0 where
  pub words : List (List ℕ)
  pub shelf : Change ShelfView
  pub out : Change SinkView
  pub err : Change SinkView
  -- how many timesteps were counted
  pub steps : Change ℕ
