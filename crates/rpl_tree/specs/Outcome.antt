-- What a part of a rule comes to: its value or how the firing ends there, and what was done on the way.
use Rattle.std.specs.Prelude.{ℕ, ◌+◌, List, [], ◌++◌}
use Rattle.rw_base.specs.declared.number.Cell.{Cell}
use Rattle.rw_firing.specs.declared.fire.FireEnd.{FireEnd}
use Rattle.rw_firing.specs.declared.fire.RulePut.{RulePut}

-- a value, the end of the firing, or nothing: a name that isn't there, or a value of a wrong kind, which a checked ruleset never has
pub data Answer (A : Type 0) : Type 0 where
  value : A → Answer A
  ended : FireEnd → Answer A
  stuck : Answer A

-- at which cells it looked, in order, which puts were executed, in order, and how much that counts
pub record Trail : Type 0 where
  pub looked : List Cell
  pub puts : List RulePut
  pub count : ℕ

pub record Outcome (A : Type 0) : Type 0 where
  pub answer : Answer A
  pub trail : Trail

-- nothing was done but what counts so much
abbrev pub spent : ℕ → Trail
spent n = record { looked = []; puts = []; count = n }

-- what counts 1 and looks at these cells
abbrev pub looking : List Cell → Trail
looking cells = record { looked = cells; puts = []; count = 1 }

-- one after the other
abbrev pub joined : Trail → Trail → Trail
joined t u = record { looked = t.looked ++ u.looked; puts = t.puts ++ u.puts; count = t.count + u.count }

abbrev pub gives : {A : Type 0} → A → ℕ → Outcome A
gives x n = record { answer = value x; trail = spent n }

abbrev pub ends : {A : Type 0} → FireEnd → ℕ → Outcome A
ends e n = record { answer = ended e; trail = spent n }

abbrev pub is_stuck : {A : Type 0} → Outcome A
is_stuck = record { answer = stuck; trail = spent 0 }

-- what follows a trail
abbrev pub after : {A : Type 0} → Trail → Outcome A → Outcome A
after t r = record { answer = r.answer; trail = joined t r.trail }

abbrev pub goes_on : {A B : Type 0} → Answer A → Trail → (A → Outcome B) → Outcome B
goes_on (value x) t f = after t (f x)
goes_on (ended e) t f = record { answer = ended e; trail = t }
goes_on stuck t f = record { answer = stuck; trail = t }

-- goes on with the value, if it came to one
infixl 10 ◌>>=◌
abbrev pub ◌>>=◌ : {A B : Type 0} → Outcome A → (A → Outcome B) → Outcome B
r >>= f = goes_on r.answer r.trail f
