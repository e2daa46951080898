-- The rules that there are, and the blocks that they are.
use Rattle.rw_commands.proofs.Common.{Bool, Declared, IsSome, List, Some, [], arith, declaration_from, declaration_of_rule, false, function, if◌then◌else◌}
use Rattle.rw_commands.proofs.Common.{length, refl, rule, suc, true, zero, ℕ, ◌+◌, ◌-◌, ◌<◌, ◌==◌, ◌∷◌, ◌≡◌, ◌≤◌}
use Rattle.rpl_code.specs.declared.block.Block.{Block}
use Rattle.rpl_code.specs.declared.block.BlockHead.TheVariants.{Rule}
use Rattle.rpl_verify.proofs.Common.{is_alike, rule_from}
use Rattle.rpl_tree.specs.Bounds.{rule_count}

-- a rule within the count is declared
declared_from : (k : ℕ) (ds : List Declared) (n : ℕ) → 1 ≤ n → n ≤ rule_count ds → IsSome (declaration_from k ds n)
declared_from k [] n low high = absurd (omega (arith, low, high))
declared_from k (rule called_so body ∷ ds) zero low high = absurd (omega (arith, low))
declared_from k (rule called_so body ∷ ds) (suc zero) low high = refl
declared_from k (rule called_so body ∷ ds) (suc (suc n)) low high = declared_from (k + 1) ds (suc n) (omega arith) (omega (arith, high))
declared_from k (function f ps result body ∷ ds) n low high = declared_from (k + 1) ds n low high

pub is_declared : (rules : List Declared) (n : ℕ) → 1 ≤ n → n ≤ rule_count rules → IsSome (declaration_of_rule rules n)
is_declared rules n low high = declared_from 1 rules n low high

-- a rule's block is one of the code
by_head : (alike first : Bool) (n r b : ℕ) (xs : List Block) → ((m : ℕ) → rule_from (suc n) xs m ≡ Some b → (suc n ≤ b) × (b < suc n + length xs))
    → (if alike then (if first then Some n else rule_from (suc n) xs (r - 1)) else rule_from (suc n) xs r) ≡ Some b
    → (n ≤ b) × (b < n + suc (length xs))
by_head true true n r b xs rest is = let same : n ≡ b = cc in (omega (arith, same), omega (arith, same))
by_head true false n r b xs rest is = let within = rest (r - 1) is in (omega (arith, within.0), omega (arith, within.1))
by_head false first n r b xs rest is = let within = rest r is in (omega (arith, within.0), omega (arith, within.1))

block_from : (n : ℕ) (xs : List Block) (r b : ℕ) → rule_from n xs r ≡ Some b → (n ≤ b) × (b < n + length xs)
block_from n [] r b is = absurd cc
block_from n (x ∷ xs) r b is =
    by_head (is_alike Rule x.head) (r == 1) n r b xs (λ m found. block_from (suc n) xs m b found) is

pub its_block : (blocks : List Block) (r b : ℕ) → rule_from 1 blocks r ≡ Some b → (1 ≤ b) × (b ≤ length blocks)
its_block blocks r b is = let within = block_from 1 blocks r b is in (within.0, omega (arith, within.1))
