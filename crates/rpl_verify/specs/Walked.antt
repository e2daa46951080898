-- A walk through a block, and what its steps answer.
use Rattle.std.specs.Prelude.{◌≡◌, ℕ, Bool, true, false, List, [], ◌∷◌, slice_get, Option, Some, None, MatchOption, Result, Ok, Err}
use Rattle.rpl_code.specs.declared.kind.ValueKind.{ValueKind}
use Rattle.rpl_verify.specs.declared.verify_kind.VerifyKind.{VerifyKind}
use Rattle.rpl_verify.specs.declared.place_fault.PlaceFault.{PlaceFault}
use Rattle.rpl_verify.specs.declared.place_fault.PlaceFault.TheVariants.{Misfit, NoMemory}
use Rattle.rpl_verify.specs.Kinds.{are_same_kinds}
use Rattle.rpl_verify.specs.Places.{Loop, Spot, rest_of}
use Rattle.rpl_verify.specs.Fits.{Before, Open, before, behind_loop, declared_at, shut}

-- what is before the place, and what jumps have to know of each place
pub record Walked : Type 0 where
  pub before : Before
  pub spots : List Spot

-- before another place, or with other operands
abbrev pub at_before : Walked → Before → Walked
at_before walked here = record { before = here; spots = walked.spots }

abbrev pub with_kinds : Walked → List ValueKind → Walked
with_kinds walked kinds = at_before walked (before kinds walked.before.loops)

abbrev pub without_top : Walked → Walked
without_top walked = with_kinds walked (rest_of walked.before.kinds)

-- a loop begins at a place, over a list with room for so many
abbrev pub with_loop : ℕ → Loop → ℕ → Walked → Walked
with_loop place loop room walked =
    let open_loop : Open = record { start = place; loop = loop; room = room; under = walked.before.kinds } in
    at_before walked (before walked.before.kinds (open_loop ∷ walked.before.loops))

abbrev pub declares : List Spot → ℕ → Option (List ValueKind)
declares spots place = declared_at (slice_get spots place)

-- these kinds are declared there
abbrev pub is_declared : Option (List ValueKind) → List ValueKind → Bool
is_declared None kinds = false
is_declared (Some declared) kinds = are_same_kinds declared kinds

-- with the operands that are declared there, if any are
abbrev pub landed : Option (List ValueKind) → Walked → Walked
landed None walked = walked
landed (Some kinds) walked = with_kinds walked kinds

abbrev pub are_shut : List Open → Bool
are_shut [] = true
are_shut (open_loop ∷ open_loops) = false

-- ---- answers

-- the answer is what is given, seen in the definition's terms, unless memory was wanting
abbrev pub GivesSeen : {A B : Type 0} → Result A VerifyKind → (B → A) → Result B PlaceFault → Type 0
GivesSeen given seen (Ok b) = given ≡ Ok (seen b)
GivesSeen given seen (Err (Misfit misfit)) = given ≡ Err misfit
GivesSeen given seen (Err NoMemory) = Unit {0}

-- the walk goes on to what is given to be before the next place
abbrev pub Goes : {B : Type 0} → Result Before VerifyKind → Walked → Walked → Result B PlaceFault → Type 0
Goes given old new (Ok b) = (given ≡ Ok new.before) × (new.spots ≡ old.spots)
Goes given old new (Err (Misfit misfit)) = given ≡ Err misfit
Goes given old new (Err NoMemory) = Unit {0}

-- a jump lands where these kinds are declared
abbrev pub Lands : {B : Type 0} → Result (List ValueKind) VerifyKind → Option (List ValueKind) → Result B PlaceFault → Type 0
Lands given kinds (Ok b) = MatchOption kinds ⊥ (λ declared. given ≡ Ok declared)
Lands given kinds (Err (Misfit misfit)) = given ≡ Err misfit
Lands given kinds (Err NoMemory) = ⊥

-- a loop ends, but for the list that a mapping leaves
abbrev pub Closes : Loop → Walked → Walked → Result ℕ PlaceFault → Type 0
Closes loop old new (Ok room) =
    (shut loop old.before.kinds old.before.loops ≡ Ok (before (behind_loop loop room new.before.kinds) new.before.loops))
    × (new.spots ≡ old.spots)
Closes loop old new (Err (Misfit misfit)) = shut loop old.before.kinds old.before.loops ≡ Err misfit
Closes loop old new (Err NoMemory) = Unit {0}
