-- Steps of the code's judgement.
use Rattle.std.proofs.Common.{◌≡◌, ℕ, [], ◌∷◌, replicate, Option, Some, None, option_map, Result, Err, refl, sym, ap, subst}
use Rattle.rpl_code.specs.declared.kind.ValueKind.TheVariants as K
use Rattle.rpl_code.specs.declared.instruction.Instruction.{Instruction}
use Rattle.rpl_tree.specs.Mean.{Function as Predefined}
use Rattle.rpl_verify.specs.declared.verify_kind.VerifyKind.{VerifyKind}
use Rattle.rpl_verify.specs.declared.place_fault.PlaceFault.{PlaceFault}
use Rattle.rpl_verify.specs.declared.place_fault.PlaceFault.TheVariants.{Misfit, NoMemory}
use Rattle.rpl_verify.specs.declared.block_fault.BlockFault.{BlockFault}
use Rattle.rpl_verify.specs.Table.{call_row, takes}
use Rattle.rpl_verify.specs.Names.{Scope, name_misfit}
use Rattle.rpl_verify.specs.Fits.{Before, behind_instruction, judged_at, unless_misfit}
use Rattle.rpl_verify.specs.Walked.{Goes, Walked}
use Rattle.rpl_verify.specs.Steps.{takes_count}
use Rattle.rpl_verify.specs.Answered.{GoesAt, placed_at}

-- the row of a predefined function of so many numbers
pub counted : (known : Option Predefined) (n : ℕ) → option_map takes_count known ≡ Some n → call_row known ≡ takes (replicate n K.N) (K.N ∷ [])
counted None n option_map_is = absurd (cc option_map_is)
counted (Some known) n option_map_is =
    let takes_count_is : takes_count known ≡ n = cc option_map_is in ap (λ k. takes (replicate k K.N) (K.N ∷ [])) takes_count_is

-- a fault at its place
pub goes_at : (A B : Type 0) (place : ℕ) (given : Result Before VerifyKind) (old new : Walked) (fault : PlaceFault) (result : BlockFault)
    → result ≡ placed_at place fault → Goes {B = A} given old new (Err fault) → GoesAt {B = B} place given old new (Err result)
goes_at A B place given old new (Misfit misfit) result result_is goes =
    subst (λ r. GoesAt {B = B} place given old new (Err r)) (sym result_is) (goes, refl)
goes_at A B place given old new NoMemory result result_is goes = subst (λ r. GoesAt {B = B} place given old new (Err r)) (sym result_is) tt

-- an instruction whose names are there
pub named : (scope : Scope) (place : ℕ) (here : Before) (instruction : Instruction) → name_misfit scope instruction ≡ None
    → judged_at scope place here instruction ≡ behind_instruction scope place here instruction
named scope place here instruction name_misfit_is =
    ap (λ misfit. unless_misfit misfit (behind_instruction scope place here instruction)) name_misfit_is
