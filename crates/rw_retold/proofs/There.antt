-- A rule that does something is one of the code.
use Rattle.rw_base.proofs.Common.{◌≡◌, ◌≤◌, ◌==◌, ◌-◌, ◌+◌, ℕ, suc, ℤ, Bool, true, false, List, [], ◌∷◌, Option, Some, None}
use Rattle.rw_base.proofs.Common.{arith, refl, if◌then◌else◌, nat_tests, none-some, option_and_then, option_map}
use Rattle.rw_base.specs.declared.number.Cell.{Cell}
use Rattle.rw_model.specs.Draft.{Draft}
use Rattle.rw_model.specs.Objects.{numbered}
use Rattle.rpl_code.specs.declared.block.Block.{Block}
use Rattle.rpl_code.specs.declared.block.BlockHead.TheVariants.{Rule}
use Rattle.rw_firing.specs.Fire.{Fire}
use Rattle.rpl_verify.specs.Fits.{count_alike, is_alike}
use Rattle.rpl_verify.specs.Machine.{begin, fire_of_code, fired, rule_from}

-- the number of a rule of the code
abbrev IsIn : List Block → ℕ → Type 0
IsIn code rule = (1 ≤ rule) × (rule ≤ count_alike Rule code)

from_there : (code : List Block) (n rule block : ℕ) → rule_from n code rule ≡ Some block → IsIn code rule
from_there [] n rule block is = absurd (none-some _ is)
from_there (x ∷ xs) n rule block is = by (λ other found. from_there xs (suc n) other block found) (is_alike Rule x.head) is
  where
    one : ((other : ℕ) → rule_from (suc n) xs other ≡ Some block → IsIn xs other) → (first : Bool) → (rule == 1) ≡ first
        → (if first then Some n else rule_from (suc n) xs (rule - 1)) ≡ Some block
        → (1 ≤ rule) × (rule ≤ suc (count_alike Rule xs))
    one again true e is = let same : rule ≡ 1 = grind (arith, nat_tests, e) in (omega (arith, same), omega (arith, same))
    one again false e is = let there = again (rule - 1) is in (omega (arith, there.0), omega (arith, there.0, there.1))

    by : ((other : ℕ) → rule_from (suc n) xs other ≡ Some block → IsIn xs other) → (k : Bool)
        → (if k then (if rule == 1 then Some n else rule_from (suc n) xs (rule - 1)) else rule_from (suc n) xs rule) ≡ Some block
        → (1 ≤ rule) × (rule ≤ (if k then suc (count_alike Rule xs) else count_alike Rule xs))
    by again true is = one again (rule == 1) refl is
    by again false is = again rule is

pub fires_there : (code : List Block) (basin : Draft) (rule step : ℕ) (values : Cell → Option ℤ) (fire : Fire)
    → fire_of_code code basin rule step values ≡ Some fire → IsIn code rule
fires_there code basin rule step values fire is = by (rule_from 1 code rule) refl is
  where
    by : (found : Option ℕ) → rule_from 1 code rule ≡ found
        → fired code (record { basin = basin; values = values; step = step })
        (option_and_then (λ n. option_map (λ x. begin n x []) (numbered code n)) found) ≡ Some fire
        → IsIn code rule
    by None e is = absurd (none-some _ is)
    by (Some block) e is = from_there code 1 rule block e
