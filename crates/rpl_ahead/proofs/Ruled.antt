-- Code that is accepted is accepted where rules may put further ahead, with the same budgets and the same instructions resolved.
use Rattle.rw_base.proofs.Common.{AllByRecursion, ap, ap₂, Err, length, length-append, List, max, None, Ok, Option, refl, Result, Some}
use Rattle.rw_base.proofs.Common.{subst, suc, sym, arith, zero, ℕ, ◌++◌, ◌+◌, ◌∙◌, ◌∷◌, ◌≡◌, ◌≤◌, []}
use Rattle.rw_model.specs.Draft.{Draft}
use Rattle.rpl_code.specs.declared.block.Block.{Block}
use Rattle.rpl_code.specs.declared.instruction.Instruction.{Instruction}
use Rattle.rpl_code.specs.declared.instruction.Instruction.TheVariants as I
use Rattle.rpl_tree.specs.Budget.{Budget, budget, capped, limits}
use Rattle.rpl_verify.specs.Places.{rest_of}
use Rattle.rpl_verify.specs.Budget.{at_a_time, block_ruling, budget_by, count_of, first_before, looks_of, most as most_of, puts_of, ruling}
use Rattle.rpl_verify.specs.Budget.{summed, within_limits, words_at, words_before}
use Rattle.rpl_verify.specs.Fits.{Before, Misplaced, Refusal, at_place, before, befores, block_befores, each_block, in_block, scope_of, then_do}
use Rattle.rpl_verify.specs.Names.{Scope}
use Rattle.rpl_verify.specs.Resolved.{if_fit, resolve, resolved, resolved_block, resolved_code, resolved_from}
use Rattle.rpl_verify.specs.Verified.{Accepted, verified, with_budgets}
use Rattle.rw_ahead.specs.Ahead.{ahead_to}
use Rattle.rpl_ahead.specs.Puts.{AllPutUpTo, PutsUpTo}
use Rattle.rpl_ahead.proofs.Blocks.{all_put}
use Rattle.rpl_ahead.proofs.Fit.{IsBlockJudged, block_far, farther}

module _ (most : ℕ) (s : Scope) (budgets : List Budget) where
  counts : (b : Before) (i : Instruction) → count_of (farther most s) budgets b i ≡ count_of s budgets b i
  counts b (I.Load n) = refl
  counts b i = refl

  looks : (b : Before) (i : Instruction) → looks_of (farther most s) budgets b i ≡ looks_of s budgets b i
  looks b I.Read = refl
  looks b i = refl

  puts : (b : Before) (i : Instruction) → puts_of (farther most s) budgets b i ≡ puts_of s budgets b i
  puts b I.Read = refl
  puts b i = refl

  words : (b : Before) (i : Instruction) → words_at (farther most s) budgets b i ≡ words_at s budgets b i
  words b I.Read = refl
  words b i = refl

  pub same_budget : (bs : List Before) (lines : List Instruction) → budget_by (farther most s) budgets bs lines ≡ budget_by s budgets bs lines
  same_budget bs lines = λ k. budget
      (capped limits.count (most_of (summed s budgets (λ b i. (counts b i) k)) bs lines))
      (capped limits.looks (most_of (summed s budgets (λ b i. (looks b i) k)) bs lines))
      (capped limits.puts (most_of (summed s budgets (λ b i. (puts b i) k)) bs lines))
      (capped limits.words (most_of (record {
        price = λ b i. (words b i) k;
        at_end = words_before s budgets;
        joined = max;
        repeated = λ m a. a;
      }) bs lines))

module _ (most : ℕ) (s : Scope) (code : List Block) where
  one : (place : ℕ) (b : Before) (is : List Instruction) (i : Instruction) → resolve code (farther most s) place b is i ≡ resolve code s place b is i
  one place b is (I.Load n) = refl
  one place b is i = refl

  pub lines_same : (place : ℕ) (bs : List Before) (is : List Instruction) → resolved code (farther most s) place bs is ≡ resolved code s place bs is
  lines_same place bs [] = refl
  lines_same place bs (i ∷ is) = ap₂ (λ x xs. x ∷ xs) (one place (first_before bs) is i) (lines_same (suc place) (rest_of bs) is)

module _ (basin : Draft) (most : ℕ) (more : basin.control.ahead ≤ most) (all : List Block) where
  record IsRuled (earlier : List Block) (budgets : List Budget) (block : Block) (b : Budget) : Type 0 where
    far : block_ruling (ahead_to most basin) all earlier budgets block ≡ Ok b
    same : resolved_block (ahead_to most basin) all (suc (length earlier)) block ≡ resolved_block basin all (suc (length earlier)) block
    puts : AllByRecursion (PutsUpTo basin.control.ahead) block.lines

  one_ruled : (earlier : List Block) (budgets : List Budget) (block : Block) (b : Budget) → block_ruling basin all earlier budgets block ≡ Ok b
      → IsRuled earlier budgets block b
  one_ruled earlier budgets block b is = by (block_befores basin all earlier block) refl is
    where
      by : (judged : Result (List Before) Misplaced) → block_befores basin all earlier block ≡ judged
          → then_do judged (λ bs. at_place (length block.lines)
          (within_limits (budget_by (scope_of basin all (suc (length earlier)) block) budgets bs block.lines)) (λ x. Ok x)) ≡ Ok b
          → IsRuled earlier budgets block b
      by (Err wrong) judged is = absurd (cc)
      by (Ok bs) judged is =
          let fit = block_far most basin all earlier block bs more judged in
          let near : Scope = scope_of basin all (suc (length earlier)) block in
          let beyond : Scope = scope_of (ahead_to most basin) all (suc (length earlier)) block in
          record {
            far =
                ap (λ r. then_do r (λ bs. at_place (length block.lines) (within_limits (budget_by beyond budgets bs block.lines))
                (λ x. Ok x))) fit.far
                ∙ ap (λ x. at_place (length block.lines) (within_limits x) (λ y. Ok y)) (same_budget most near budgets bs block.lines) ∙ is;
            same =
                ap (λ r. if_fit r (λ bs. resolved all beyond 0 bs block.lines)) fit.there
                ∙ lines_same most near all 0 bs block.lines
                ∙ sym (ap (λ r. if_fit r (λ bs. resolved all near 0 bs block.lines)) fit.here);
            puts = fit.puts;
          }

  record AreRuled (earlier : List Block) (budgets : List Budget) (blocks : List Block) (bs : List Budget) : Type 0 where
    far : each_block (block_ruling (ahead_to most basin) all) earlier budgets blocks ≡ Ok bs
    same : resolved_from (ahead_to most basin) all (suc (length earlier)) blocks ≡ resolved_from basin all (suc (length earlier)) blocks
    puts : AllByRecursion (λ (block : Block). AllByRecursion (PutsUpTo basin.control.ahead) block.lines) blocks

  each_ruled : (blocks earlier : List Block) (budgets bs : List Budget) → each_block (block_ruling basin all) earlier budgets blocks ≡ Ok bs
      → AreRuled earlier budgets blocks bs
  each_ruled [] earlier budgets bs is = record { far = is; same = refl; puts = tt }
  each_ruled (block ∷ blocks) earlier budgets bs is =
      by (block_ruling basin all earlier budgets block) refl is (λ x. each_ruled blocks (earlier ++ block ∷ []) (budgets ++ x ∷ []) bs)
    where
      by : (ruled : Result Budget Misplaced) → block_ruling basin all earlier budgets block ≡ ruled
          → in_block (suc (length earlier)) ruled (λ x.
          each_block (block_ruling basin all) (earlier ++ block ∷ []) (budgets ++ x ∷ []) blocks) ≡ Ok bs
          → ((x : Budget) → each_block (block_ruling basin all) (earlier ++ block ∷ []) (budgets ++ x ∷ []) blocks ≡ Ok bs
          → AreRuled (earlier ++ block ∷ []) (budgets ++ x ∷ []) blocks bs)
          → AreRuled earlier budgets (block ∷ blocks) bs
      by (Err wrong) ruled is later = absurd (cc)
      by (Ok x) ruled is later =
          let own = one_ruled earlier budgets block x ruled in
          let rest = later x is in
          let len = length-append earlier (block ∷ []) in
          let next : length (earlier ++ block ∷ []) ≡ suc (length earlier) = omega (arith, len) in
          record {
            far = ap (λ j. in_block (suc (length earlier)) j
                (λ x. each_block (block_ruling (ahead_to most basin) all) (earlier ++ block ∷ []) (budgets ++ x ∷ []) blocks)) own.far ∙ rest.far;
            same = ap₂ (λ y ys. y ∷ ys) own.same
                (subst (λ n. resolved_from (ahead_to most basin) all (suc n) blocks ≡ resolved_from basin all (suc n) blocks) next rest.same);
            puts = (own.puts, rest.puts);
          }

pub accepted_further : (basin : Draft) (most : ℕ) (code : List Block) (policy : Accepted) → basin.control.ahead ≤ most
    → verified basin code ≡ Ok policy → verified (ahead_to most basin) code ≡ Ok policy
accepted_further basin most code policy more is = by (ruling basin code) refl is
  where
    by : (ruled : Result (List Budget) Refusal) → ruling basin code ≡ ruled → with_budgets basin code ruled ≡ Ok policy
        → verified (ahead_to most basin) code ≡ Ok policy
    by (Err why) ruled is = absurd (cc)
    by (Ok budgets) ruled is =
        let all = each_ruled basin most more code code [] [] budgets ruled in
        ap (with_budgets (ahead_to most basin) code) all.far
        ∙ ap (λ resolved. Ok (record { blocks = code; budgets = budgets; resolved = resolved })) all.same ∙ is

pub accepted_puts : (basin : Draft) (most : ℕ) (code : List Block) (policy : Accepted) → basin.control.ahead ≤ most
    → verified basin code ≡ Ok policy → AllPutUpTo basin.control.ahead code
accepted_puts basin most code policy more is = by (ruling basin code) refl is
  where
    by : (ruled : Result (List Budget) Refusal) → ruling basin code ≡ ruled → with_budgets basin code ruled ≡ Ok policy
        → AllPutUpTo basin.control.ahead code
    by (Err why) ruled is = absurd (cc)
    by (Ok budgets) ruled is = all_put basin code (each_ruled basin most more code code [] [] budgets ruled).puts
