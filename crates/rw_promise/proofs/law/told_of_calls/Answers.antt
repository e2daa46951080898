use Rattle.std.specs.Prelude.{◌≡◌, ◌<◌, ◌-◌, ◌^◌, ℕ, List, Option, Some, None, IfSome, IsSome}
use Rattle.rw_commands.proofs.Common.{Rose, arith}
use Rattle.rw_io.specs.Outside.{Change, Holds, ShelfView}
use Rattle.rw_commands.specs.Command.{path_of}
use Rattle.rw_commands.specs.Reading.{IsHonest}
use Rattle.rw_promise.proofs.law.told_of_calls.Goals as goal

-- a path that is told, and whose count of faults is what it was
abbrev Stays : Change ShelfView → List ℕ → Type 0
Stays shelf path =
    IsSome (shelf.before.holds path) × ((shelf.before.faults path) ≡ (shelf.after.faults path)) × (shelf.before.faults path < 2 ^ 64 - 1)

unrisen : (before now : ℕ) → before ≡ now → before < 2 ^ 64 - 1 → ¬ Rose before now
unrisen before now same below rose = omega (arith, same, below, rose)

told : (shelf : Change ShelfView) (path : Option (List ℕ)) → IfSome path (Stays shelf)
    → IfSome path (λ path. IsSome (shelf.before.holds path) × ¬ Rose (shelf.before.faults path) (shelf.after.faults path))
told shelf None stays = stays
told shelf (Some path) stays = (stays.0, unrisen (shelf.before.faults path) (shelf.after.faults path) stays.1 stays.2)

honest : (shelf : Change ShelfView) (path : Option (List ℕ)) → IfSome path (Stays shelf) → IfSome path (IsHonest shelf)
honest shelf None stays = stays
honest shelf (Some path) stays =
    record { told = stays.0; stands = unrisen (shelf.before.faults path) (shelf.after.faults path) stays.1 stays.2 }

same_at : (one other : Holds) → ((path : List ℕ) → IsSome (one path) × (one path ≡ other path)) → (path : Option (List ℕ))
    → IfSome path (λ path. IsSome (one path) × (one path ≡ other path))
same_at one other same None = tt
same_at one other same (Some path) = same path

pub returns-clause-rose : goal.returns-clause-rose
returns-clause-rose c = λ before now rose below. omega (arith, rose, below)

pub returns-clause-grew : goal.returns-clause-grew
returns-clause-grew c = λ before now text grew. grew

pub returns-clause-begins : goal.returns-clause-begins
returns-clause-begins c = λ now text grew. grew

pub returns-clause-front : goal.returns-clause-front
returns-clause-front c = λ before now text grew. grew

pub returns-clause-honest : goal.returns-clause-honest
returns-clause-honest c = λ command shelf upto stays.
    ((λ file within. told shelf (path_of command file) (stays file)), (λ file. honest shelf (path_of command file) (stays file)))

pub returns-clause-alike : goal.returns-clause-alike
returns-clause-alike c = λ one other words same. record {
  words = words;
  files = λ command asks file. same_at one.shelf.before.holds other.shelf.before.holds same (path_of command file);
}
