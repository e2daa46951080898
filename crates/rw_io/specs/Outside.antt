-- What a shelf and a sink are seen as, and what a call makes of it.
use Rattle.std.specs.Prelude.{ℕ, List, Option}

-- what each path holds, where that is told
abbrev pub Holds : Type 0
Holds = List ℕ → Option (List ℕ)

pub record ShelfView : Type 0 where
  -- what each path holds, where that is told
  pub holds : Holds
  -- which path is started
  pub started : Option (List ℕ)
  -- what is left of the started file, where that is told
  pub left : Option (List ℕ)
  -- how many bytes were taken since the last start that answered Ok, up to 2^64 - 1
  pub taken : ℕ
  -- how many faults each path has had
  pub faults : List ℕ → ℕ

pub record SinkView : Type 0 where
  -- what it holds, where that is told
  pub contents : Option (List ℕ)
  -- how many faults it has had
  pub faults : ℕ

-- what is seen before a call, and after it
pub record Change (A : Type 0) : Type 0 where
  pub before : A
  pub after : A

abbrev pub change : {A : Type 0} → A → A → Change A
change before after = record { before = before; after = after }
