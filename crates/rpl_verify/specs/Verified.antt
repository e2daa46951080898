-- Code that is accepted.
use Rattle.std.specs.Prelude.{◌≡◌, ◌≤◌, ℕ, suc, List, [], ◌∷◌, length, Option, Some, None, Result, Ok, Err, if◌then◌else◌}
use Rattle.rw_base.specs.declared.limits.TheConstants.{RULES_MAX}
use Rattle.rw_model.specs.Draft.{Draft}
use Rattle.rpl_code.specs.declared.block.Block.{Block}
use Rattle.rpl_code.specs.declared.kind.ValueKind.TheVariants as K
use Rattle.rpl_code.specs.declared.block.BlockHead.{BlockHead}
use Rattle.rpl_code.specs.declared.block.BlockHead.TheVariants.{Rule, Function}
use Rattle.rpl_tree.specs.Budget.{Budget}
use Rattle.rpl_verify.specs.declared.resolved.Resolved.{Resolved}
use Rattle.rpl_verify.specs.declared.verify_fault.VerifyFault.{VerifyFault}
use Rattle.rpl_verify.specs.declared.verify_fault.VerifyFault.TheVariants.{Refused, NoMemory}
use Rattle.rpl_verify.specs.Fits.{Refusal, count_alike, is_alike, refusal}
use Rattle.rpl_verify.specs.Budget.{ruling}
use Rattle.rpl_verify.specs.Resolved.{resolved_code}

-- the blocks, the budget of each, and its instructions resolved
pub record Accepted : Type 0 where
  pub blocks : List Block
  pub budgets : List Budget
  pub resolved : List (List Resolved)

abbrev pub with_budgets : Draft → List Block → Result (List Budget) Refusal → Result Accepted Refusal
with_budgets basin blocks (Ok budgets) =
    Ok (record { blocks = blocks; budgets = budgets; resolved = resolved_code basin blocks })
with_budgets basin blocks (Err why) = Err why

-- the code with the budget of each block and its instructions resolved, or its first refusal
abbrev pub verified : Draft → List Block → Result Accepted Refusal
verified basin blocks = with_budgets basin blocks (ruling basin blocks)

-- the refusal that a fault tells
abbrev pub misfit_refusal_of : VerifyFault → Option Refusal
misfit_refusal_of (Refused kind block place) = Some (refusal kind block place)
misfit_refusal_of NoMemory = None

-- the numbers of the blocks that are rules, where the first block has this number
abbrev pub rules_from : ℕ → List Block → List ℕ
rules_from n [] = []
rules_from n (block ∷ blocks) = if is_alike Rule block.head then n ∷ rules_from (suc n) blocks else rules_from (suc n) blocks

-- any function's
abbrev pub function_head : BlockHead
function_head = Function K.N []

-- a budget for each block, the numbers of the rules, and no more of either than there may be
pub record KeepsVerified (blocks : List Block) (budgets : List Budget) (rules : List ℕ) : Type 0 where
  pub each : length budgets ≡ length blocks
  pub rules_are : rules ≡ rules_from 1 blocks
  pub few_rules : count_alike Rule blocks ≤ RULES_MAX
  pub few_functions : count_alike function_head blocks ≤ RULES_MAX
