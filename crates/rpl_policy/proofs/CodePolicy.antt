-- The policy of accepted code keeps what is asked of a policy.
use Rattle.rw_base.proofs.Common.{◌≡◌, ◌∙◌, ℕ, zero, suc, ◌≤◌, ℤ, List, [], ◌∷◌, Option, Some, IsSome, arith, subst, sym, refl, get_or}
use Rattle.rw_base.proofs.Common.{slice_get-get_or}
use Rattle.rw_base.specs.declared.number.Cell.{Cell}
use Rattle.rw_model.proofs.Common.{Draft}
use Rattle.rw_firing.specs.Fire.{Fire}
use Rattle.rw_run.specs.Frame.{AreAlike}
use Rattle.rw_run.specs.Policy.{IsPolicyOf, IsRule}
use Rattle.rpl_tree.specs.Budget.{Budget}
use Rattle.rpl_tree.specs.Frame.{AgreeAt as AreAlikeThere}
use Rattle.rpl_code.specs.declared.block.Block.{Block}
use Rattle.rpl_code.specs.declared.block.BlockHead.TheVariants.{Rule}
use Rattle.rpl_verify.specs.Fits.{count_alike}
use Rattle.rpl_verify.specs.Machine.{rule_from}
use Rattle.rpl_verify.specs.Safety.{AreSafe}
use Rattle.rpl_verify.specs.Verified.{rules_from}
use Rattle.rpl_verify.proofs.VerifiedFacts.{length-rules, rule_is}
use Rattle.rpl_policy.specs.Policy.{policy_of_code}
use Rattle.rpl_policy.proofs.FramedCode.{code_framed, code_silent}
use Rattle.rpl_policy.proofs.Asking.{code_asks}

-- a rule of the code has a block
block_of : (code : List Block) (rule : ℕ) → 1 ≤ rule → rule ≤ count_alike Rule code → (n : ℕ) × (rule_from 1 code rule ≡ Some n)
block_of code zero first last = absurd (omega (arith, first))
block_of code (suc r) first last = (
  get_or (rules_from 1 code) r 0,
  rule_is 1 code r ∙ slice_get-get_or (rules_from 1 code) r 0 (omega (arith, last, length-rules 1 code)),
)

ends : (basin : Draft) (code : List Block) (budgets : List Budget) → AreSafe basin code budgets
    → (rule step : ℕ) (values : Cell → Option ℤ) → IsRule (policy_of_code basin code) rule
    → IsSome ((policy_of_code basin code).fire rule step values)
ends basin code budgets safe rule step values known =
    let at = block_of code rule known.first known.last in
    let own = safe rule at.0 step values at.1 in
    subst (λ (o : Option Fire). IsSome o) (sym own.2.fires) refl

same_alike : (one other : Cell → Option ℤ) (cells : List Cell) → AreAlike one other cells → AreAlikeThere one other cells
same_alike one other [] alike = tt
same_alike one other (cell ∷ cells) alike = (alike.0, same_alike one other cells alike.1)

pub code_promises : (basin : Draft) (code : List Block) (budgets : List Budget) → AreSafe basin code budgets
    → IsPolicyOf basin (policy_of_code basin code)
code_promises basin code budgets safe = record {
  ends = ends basin code budgets safe;
  framed = λ rule step one other fire is alike. code_framed code basin rule step one other fire is (same_alike one other fire.looked alike);
  silent = λ rule step values fire is isnt. code_silent code basin rule step values fire is isnt;
  asks = λ rule step values fire is. code_asks code basin rule step values fire is;
}
