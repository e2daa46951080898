-- Code whose rules put no further ahead than so many timesteps.
use Rattle.std.specs.Prelude.{◌≡◌, ℕ, ◌≤◌, List, Ok, Some, slice_get}
use Rattle.std.specs.List.{AllByRecursion}
use Rattle.rw_model.specs.Draft.{Draft}
use Rattle.rpl_verify.specs.Fits.{Before, block_befores, fitting}
use Rattle.rw_ahead.specs.Ahead.{ahead_to}
use Rattle.rw_model.specs.Objects.{numbered}
use Rattle.rpl_code.specs.declared.block.Block.{Block}
use Rattle.rpl_code.specs.declared.instruction.Instruction.{Instruction}
use Rattle.rpl_code.specs.declared.instruction.Instruction.TheVariants as I

abbrev pub PutsUpTo : ℕ → Instruction → Type 0
PutsUpTo most (I.Put object slot ahead) = ahead ≤ most
PutsUpTo most i = Unit {0}

-- each instruction of each block
abbrev pub AllPutUpTo : ℕ → List Block → Type 0
AllPutUpTo most code =
    (number place : ℕ) (block : Block) (i : Instruction) → numbered code number ≡ Some block → slice_get block.lines place ≡ Some i → PutsUpTo most i

-- a block behind others is judged as it was where rules may put further ahead, and its lines put no further than the basin lets them
pub record LinesFit (basin : Draft) (most : ℕ) (all earlier : List Block) (block : Block) (befores : List Before) : Type 0 where
  pub far : block_befores (ahead_to most basin) all earlier block ≡ Ok befores
  pub puts : AllByRecursion (PutsUpTo basin.control.ahead) block.lines

-- code fits where rules may put further ahead as it did, and puts no further than the basin lets it
pub record FitsFurther (basin : Draft) (most : ℕ) (code : List Block) (befores : List (List Before)) : Type 0 where
  pub fits : fitting (ahead_to most basin) code ≡ Ok befores
  pub puts : AllPutUpTo basin.control.ahead code
