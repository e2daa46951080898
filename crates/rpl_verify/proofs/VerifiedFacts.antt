-- How many rules and functions accepted code has, and where its rules stand.
use Rattle.rw_base.proofs.Common.{◌≡◌, ◌≤◌, ◌<◌, ◌+◌, ◌-◌, ◌==◌, ℕ, zero, suc, Bool, true, false, nat_lt, List, [], ◌∷◌, ◌++◌, length, Some, Result}
use Rattle.rw_base.specs.declared.limits.TheConstants.{RULES_MAX}
use Rattle.rw_base.proofs.Common.{Ok, Err, refl, sym, ap, ap₂, ◌∙◌, subst, arith, append_assoc, length-append, if◌then◌else◌, slice_get, nat_tests}
use Rattle.std.proofs.lemmas.List.{append-nil}
use Rattle.rw_model.specs.Draft.{Draft}
use Rattle.rpl_code.specs.declared.block.BlockHead.{BlockHead}
use Rattle.rpl_code.specs.declared.block.BlockHead.TheVariants.{Rule, Function}
use Rattle.rpl_code.specs.declared.block.Block.{Block}
use Rattle.rpl_tree.specs.Budget.{Budget}
use Rattle.rpl_verify.specs.declared.verify_kind.VerifyKind.TheVariants.{TooMany}
use Rattle.rpl_verify.specs.Fits.{Before, Refusal, before, befores, block_befores, count_alike, each_block, is_alike, scope_of}
use Rattle.rpl_verify.specs.Budget.{AreAccepted, block_ruling, ruling}
use Rattle.rpl_verify.specs.Machine.{rule_from}
use Rattle.rpl_verify.specs.Resolved.{resolved_code}
use Rattle.rpl_verify.specs.Verified.{Accepted, function_head, rules_from, verified, with_budgets}
use Rattle.rpl_verify.proofs.KindFacts.{same_ok, then_do_ok}
use Rattle.rpl_verify.proofs.Rulings.{in_block_ok}

-- ---- rules

pub length-rules : (n : ℕ) (blocks : List Block) → length (rules_from n blocks) ≡ count_alike Rule blocks
length-rules n [] = refl
length-rules n (block ∷ blocks) = by (is_alike Rule block.head) (length-rules (suc n) blocks)
  where
    by : (truth : Bool) → length (rules_from (suc n) blocks) ≡ count_alike Rule blocks
        → length (if truth then n ∷ rules_from (suc n) blocks else rules_from (suc n) blocks)
        ≡ (if truth then suc (count_alike Rule blocks) else count_alike Rule blocks)
    by true length_is = ap suc length_is
    by false length_is = length_is

-- the rule of a number, from 1 on
pub rule_is : (number : ℕ) (blocks : List Block) (other_number : ℕ)
    → rule_from number blocks (suc other_number) ≡ slice_get (rules_from number blocks) other_number
rule_is number [] other_number = refl
rule_is number (block ∷ blocks) other_number = by (is_alike Rule block.head) other_number (rule_is (suc number) blocks)
  where
    by : (truth : Bool) (other_number : ℕ)
        → ((other_number : ℕ) → rule_from (suc number) blocks (suc other_number) ≡ slice_get (rules_from (suc number) blocks) other_number)
        → (if truth then (if suc other_number == 1 then Some number else rule_from (suc number) blocks (suc other_number - 1)) else rule_from
        (suc number) blocks (suc other_number))
        ≡ slice_get (if truth then number ∷ rules_from (suc number) blocks else rules_from (suc number) blocks) other_number
    by true zero on = refl
    by true (suc other_number) on =
        let same : (suc (suc other_number) == 1) ≡ false = grind (arith, nat_tests) in
        let same_so : suc (suc other_number) - 1 ≡ suc other_number = omega arith in
        ap (λ (t : Bool). if t then Some number else rule_from (suc number) blocks (suc (suc other_number) - 1)) same
        ∙ ap (rule_from (suc number) blocks) same_so ∙ on other_number
    by false other_number on = on other_number

-- each block is a rule or a function
pub rules_and_functions : (blocks : List Block) → count_alike Rule blocks + count_alike function_head blocks ≡ length blocks
rules_and_functions [] = refl
rules_and_functions (block ∷ blocks) =
    by block.head (count_alike Rule blocks) (count_alike function_head blocks) (length blocks) (rules_and_functions blocks)
  where
    by : (head : BlockHead) (first second n : ℕ) → first + second ≡ n
        → (if is_alike Rule head then suc first else first) + (if is_alike function_head head then suc second else second) ≡ suc n
    by Rule first second n first_is = omega (arith, first_is)
    by (Function kind kinds) first second n first_is = omega (arith, first_is)

-- ---- no more than there may be

alike_same : (head its_head other_its_head : BlockHead) → is_alike head its_head ≡ true
    → is_alike head other_its_head ≡ is_alike its_head other_its_head
alike_same Rule Rule other_its_head is_alike_is = refl
alike_same (Function kind kinds) (Function other_kind other_kinds) Rule is_alike_is = refl
alike_same (Function kind kinds) (Function other_kind other_kinds) (Function result parameters) is_alike_is = refl
alike_same Rule (Function kind kinds) other_its_head is_alike_is = absurd (cc is_alike_is)
alike_same (Function kind kinds) Rule other_its_head is_alike_is = absurd (cc is_alike_is)

count_same : (head its_head : BlockHead) (blocks : List Block) → is_alike head its_head ≡ true → count_alike head blocks ≡ count_alike its_head blocks
count_same head its_head [] is_alike_is = refl
count_same head its_head (block ∷ blocks) is_alike_is =
    ap₂ (λ (t : Bool) n. if t then suc n else n) (alike_same head its_head block.head is_alike_is) (count_same head its_head blocks is_alike_is)

count-push : (head : BlockHead) (blocks : List Block) (block : Block)
    → count_alike head (blocks ++ block ∷ []) ≡ (if is_alike head block.head then suc (count_alike head blocks) else count_alike head blocks)
count-push head [] block = refl
count-push head (other_block ∷ blocks) block =
    ap (λ n. if is_alike head other_block.head then suc n else n) (count-push head blocks block)
    ∙ by (is_alike head other_block.head) (is_alike head block.head)
  where
    by : (truth test : Bool) → (if truth then suc (if test then suc (count_alike head blocks) else count_alike head blocks) else
        (if test then suc (count_alike head blocks) else count_alike head blocks))
        ≡ (if test then suc (if truth then suc (count_alike head blocks) else count_alike head blocks) else (if truth then suc
        (count_alike head blocks) else count_alike head blocks))
    by true true = refl
    by true false = refl
    by false true = refl
    by false false = refl

-- a block that passes isn't one too many
passes : (basin : Draft) (blocks earlier : List Block) (done : List Budget) (block : Block) (its_budget : Budget)
    → block_ruling basin blocks earlier done block ≡ Ok its_budget
    → count_alike block.head earlier < RULES_MAX
passes basin blocks earlier done block its_budget block_ruling_is = let judged =
    then_do_ok (block_befores basin blocks earlier block) _ its_budget block_ruling_is in by judged.0 judged.1
    (nat_lt (count_alike block.head earlier) RULES_MAX) refl
  where
    by : (befores_there : List Before) → block_befores basin blocks earlier block ≡ Ok befores_there → (truth : Bool)
        → nat_lt (count_alike block.head earlier) RULES_MAX ≡ truth
        → count_alike block.head earlier < RULES_MAX
    by befores_there found true nat_lt_is = grind (arith, nat_tests)
    by befores_there found false nat_lt_is =
        let no =
        ap (λ (t : Bool). if t then befores (scope_of basin blocks (suc (length earlier)) block) 0 (before [] []) block.lines else Err
        (record { misfit = TooMany; place = 0 })) nat_lt_is in
        absurd (cc (no, found))

module _ (basin : Draft) (blocks : List Block) where
  few_from : (head : BlockHead) (earlier its_blocks : List Block) (done all : List Budget)
      → each_block (block_ruling basin blocks) earlier done its_blocks ≡ Ok all
      → count_alike head earlier ≤ RULES_MAX → count_alike head (earlier ++ its_blocks) ≤ RULES_MAX
  few_from head earlier [] done all each_block_is few = subst (λ l. count_alike head l ≤ RULES_MAX) (sym (append-nil earlier)) few
  few_from head earlier (block ∷ its_blocks) done all each_block_is few =
      let in_block_ok_so =
      in_block_ok (suc (length earlier)) (block_ruling basin blocks earlier done block)
      (λ b. each_block (block_ruling basin blocks) (earlier ++ block ∷ []) (done ++ b ∷ []) its_blocks) all each_block_is in
      let more : count_alike head (earlier ++ block ∷ []) ≤ RULES_MAX =
      subst (λ n. n ≤ RULES_MAX) (sym (count-push head earlier block))
      (by (is_alike head block.head) refl (passes basin blocks earlier done block in_block_ok_so.0 in_block_ok_so.1)) in
      subst (λ l. count_alike head l ≤ RULES_MAX) (append_assoc earlier (block ∷ []) its_blocks)
      (few_from head (earlier ++ block ∷ []) its_blocks (done ++ in_block_ok_so.0 ∷ []) all in_block_ok_so.2 more)
    where
      by : (truth : Bool) → is_alike head block.head ≡ truth → count_alike block.head earlier < RULES_MAX
          → (if truth then suc (count_alike head earlier) else count_alike head earlier) ≤ RULES_MAX
      by true is_alike_is below = let count_same_so = count_same head block.head earlier is_alike_is in omega (arith, count_same_so, below)
      by false is_alike_is below = few

  each_from : (earlier its_blocks : List Block) (done all : List Budget) → each_block (block_ruling basin blocks) earlier done its_blocks ≡ Ok all
      → length all ≡ length done + length its_blocks
  each_from earlier [] done all each_block_is = let length_so = ap length (same_ok done all each_block_is) in omega (arith, length_so)
  each_from earlier (block ∷ its_blocks) done all each_block_is =
      let in_block_ok_so =
      in_block_ok (suc (length earlier)) (block_ruling basin blocks earlier done block)
      (λ b. each_block (block_ruling basin blocks) (earlier ++ block ∷ []) (done ++ b ∷ []) its_blocks) all each_block_is in
      let each_from_so = each_from (earlier ++ block ∷ []) its_blocks (done ++ in_block_ok_so.0 ∷ []) all in_block_ok_so.2 in
      let lengths = length-append done (in_block_ok_so.0 ∷ []) in
      omega (arith, each_from_so, lengths)

  pub few : (head : BlockHead) (all : List Budget) → ruling basin blocks ≡ Ok all → count_alike head blocks ≤ RULES_MAX
  few head all ruling_is = few_from head [] blocks [] all ruling_is (omega arith)

  pub each : (all : List Budget) → ruling basin blocks ≡ Ok all → length all ≡ length blocks
  each all ruling_is = let each_from_so = each_from [] blocks [] all ruling_is in omega (arith, each_from_so)

-- ---- what is answered

record IsAnswered (basin : Draft) (blocks : List Block) (accepted_so : Accepted) : Type 0 where
  unchanged : accepted_so.blocks ≡ blocks
  accepted : AreAccepted basin accepted_so.blocks accepted_so.budgets
  resolved : accepted_so.resolved ≡ resolved_code basin accepted_so.blocks

is_answered : (basin : Draft) (blocks : List Block) (accepted : Accepted) → verified basin blocks ≡ Ok accepted → IsAnswered basin blocks accepted
is_answered basin blocks accepted verified_is = by (ruling basin blocks) refl verified_is
  where
    by : (result : Result (List Budget) Refusal) → ruling basin blocks ≡ result → with_budgets basin blocks result ≡ Ok accepted
        → IsAnswered basin blocks accepted
    by (Ok budgets) ruling_is with_budgets_is =
        let accepted_so : Accepted = record { blocks = blocks; budgets = budgets; resolved = resolved_code basin blocks } in
        let accepted_so_is : accepted_so ≡ accepted = same_ok accepted_so accepted with_budgets_is in
        subst (IsAnswered basin blocks) accepted_so_is (record { unchanged = refl; accepted = ruling_is; resolved = refl })
    by (Err why) ruling_is with_budgets_is = absurd (cc with_budgets_is)

pub unchanged : (basin : Draft) (blocks : List Block) (accepted : Accepted) → verified basin blocks ≡ Ok accepted → accepted.blocks ≡ blocks
unchanged basin blocks accepted verified_is = let is_answered_so = is_answered basin blocks accepted verified_is in is_answered_so.unchanged

pub answered : (basin : Draft) (blocks : List Block) (accepted : Accepted) → verified basin blocks ≡ Ok accepted
    → AreAccepted basin accepted.blocks accepted.budgets
answered basin blocks accepted verified_is = let is_answered_so = is_answered basin blocks accepted verified_is in is_answered_so.accepted

pub answered_resolved : (basin : Draft) (blocks : List Block) (accepted : Accepted) → verified basin blocks ≡ Ok accepted
    → accepted.resolved ≡ resolved_code basin accepted.blocks
answered_resolved basin blocks accepted verified_is = let is_answered_so = is_answered basin blocks accepted verified_is in is_answered_so.resolved

pub answers : (basin : Draft) (blocks : List Block) (budgets : List Budget) → AreAccepted basin blocks budgets
    → verified basin blocks ≡ Ok (record { blocks = blocks; budgets = budgets; resolved = resolved_code basin blocks })
answers basin blocks budgets accepted = ap (with_budgets basin blocks) accepted
