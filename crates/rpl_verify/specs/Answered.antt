-- Within the crate: what is answered of a block.
use Rattle.std.specs.Prelude.{◌≡◌, ℕ, Result, Ok, Err}
use Rattle.rpl_verify.specs.declared.verify_kind.VerifyKind.{VerifyKind}
use Rattle.rpl_verify.specs.declared.place_fault.PlaceFault.{PlaceFault}
use Rattle.rpl_verify.specs.declared.place_fault.PlaceFault.TheVariants.{Misfit, NoMemory}
use Rattle.rpl_verify.specs.declared.block_fault.BlockFault.{BlockFault}
use Rattle.rpl_verify.specs.declared.block_fault.BlockFault.TheVariants.{Misplaced as At, NoMemory as Exhausted}
use Rattle.rpl_verify.specs.declared.verify_fault.VerifyFault.{VerifyFault}
use Rattle.rpl_verify.specs.declared.verify_fault.VerifyFault.TheVariants.{Refused, NoMemory as Spent}
use Rattle.rpl_verify.specs.Fits.{Before, Misplaced}
use Rattle.rpl_verify.specs.Walked.{Walked}

abbrev pub placed_at : ℕ → PlaceFault → BlockFault
placed_at place (Misfit kind) = At kind place
placed_at place NoMemory = Exhausted

abbrev pub fault_in : ℕ → BlockFault → VerifyFault
fault_in block (At kind place) = Refused kind block place
fault_in block Exhausted = Spent

-- the answer is what is given, seen in the definition's terms, unless memory was wanting
abbrev pub GivesAt : {A B : Type 0} → Result A Misplaced → (B → A) → Result B BlockFault → Type 0
GivesAt given seen (Ok b) = given ≡ Ok (seen b)
GivesAt given seen (Err (At kind place)) = given ≡ Err (record { misfit = kind; place = place })
GivesAt given seen (Err Exhausted) = Unit {0}

-- the walk goes on to what is given to be before the next place
abbrev pub GoesAt : {B : Type 0} → ℕ → Result Before VerifyKind → Walked → Walked → Result B BlockFault → Type 0
GoesAt place given old new (Ok b) = (given ≡ Ok new.before) × (new.spots ≡ old.spots)
GoesAt place given old new (Err (At kind there)) = (given ≡ Err kind) × (there ≡ place)
GoesAt place given old new (Err Exhausted) = Unit {0}

-- the end of a block is as it must be
abbrev pub EndsAt : {B : Type 0} → ℕ → Result Before VerifyKind → Before → Result B BlockFault → Type 0
EndsAt place given here (Ok b_so) = given ≡ Ok here
EndsAt place given here (Err (At kind there)) = (given ≡ Err kind) × (there ≡ place)
EndsAt place given here (Err Exhausted) = Unit {0}
