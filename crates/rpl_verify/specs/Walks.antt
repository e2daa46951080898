-- A walk's fields: lists of kinds are held by number.
use Rattle.std.specs.Prelude.{◌≡◌, ◌<◌, ℕ, List, [], length, map, reverse, Option, Some, None, All}
use Rattle.rpl_code.specs.declared.kind.ValueKind.{ValueKind}
use Rattle.rpl_verify.specs.declared.walk.OpenLoop.{OpenLoop}
use Rattle.rpl_verify.specs.declared.walk.Landing.{Landing}
use Rattle.rpl_verify.specs.declared.walk.Beginning.{Beginning}
use Rattle.rpl_verify.specs.Places.{Opener, Spot, loop_of}
use Rattle.rpl_verify.specs.Fits.{Open, before}
use Rattle.rpl_verify.specs.Budget.{words_of_loops}
use Rattle.rpl_verify.specs.Walked.{Walked}
use Rattle.rpl_verify.specs.Stacks.{at}

abbrev pub open_of : List (List ValueKind) → OpenLoop → Open
open_of lists open_loop = record { start = open_loop.start; loop = loop_of open_loop.sort; room = open_loop.room; under = at lists open_loop.under }

-- the loops that are open, the innermost first
abbrev pub opens_of : List (List ValueKind) → List OpenLoop → List Open
opens_of lists open_loops = reverse (map (open_of lists) open_loops)

abbrev pub kinds_at : List (List ValueKind) → Option ℕ → Option (List ValueKind)
kinds_at lists None = None
kinds_at lists (Some n) = Some (at lists n)

abbrev pub spot_of : List (List ValueKind) → Landing → Spot
spot_of lists landing = record { innermost = landing.innermost; declares = kinds_at lists landing.declares }

abbrev pub spots_of : List (List ValueKind) → List Landing → List Spot
spots_of lists landings = map (spot_of lists) landings

abbrev pub walked : List (List ValueKind) → ℕ → List OpenLoop → List Landing → Walked
walked lists n open_loops landings = record { before = before (at lists n) (opens_of lists open_loops); spots = spots_of lists landings }

-- a number, if there is one, below another
abbrev pub IsBelowIt : ℕ → Option ℕ → Type 0
IsBelowIt n None = Unit {0}
IsBelowIt n (Some index) = index < n

-- each number is that of a list, and the words are those of the open loops
pub record IsSoundWalk (lists : List (List ValueKind)) (n : ℕ) (open_loops : List OpenLoop) (landings : List Landing) (words : ℕ) : Type 0 where
  pub now_in : n < length lists
  pub opens_in : All (λ o. o.under < length lists) open_loops
  pub landings_in : All (λ x. IsBelowIt (length lists) x.declares) landings
  pub words_are : words ≡ words_of_loops (opens_of lists open_loops)

-- number 0 is the empty list
pub record IsRooted (lists : List (List ValueKind)) : Type 0 where
  pub within : 0 < length lists
  pub empty : at lists 0 ≡ []

pub record IsNumberOf (lists : List (List ValueKind)) (n : ℕ) (kinds : List ValueKind) : Type 0 where
  pub within : n < length lists
  pub is : at lists n ≡ kinds

-- the number of what is declared, if anything is
abbrev pub IsDeclared : List (List ValueKind) → Option ℕ → Option (List ValueKind) → Type 0
IsDeclared lists None declared = declared ≡ None
IsDeclared lists (Some n) declared = (n < length lists) × (declared ≡ Some (at lists n))

-- ---- the first pass

abbrev pub opener_of : Beginning → Opener
opener_of beginning = record { start = beginning.start; loop = loop_of beginning.sort }

-- the loops that are open, the innermost first
abbrev pub openers_of : List Beginning → List Opener
openers_of beginnings = reverse (map opener_of beginnings)
