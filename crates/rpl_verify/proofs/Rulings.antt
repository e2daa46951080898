-- What is accepted fits, and keeps within the limits.
use Rattle.rw_base.proofs.Common.{◌≡◌, ◌≤◌, ℕ, suc, Bool, true, false, nat_lt, if◌then◌else◌, List, [], ◌∷◌, ◌++◌, length, Result, Ok, Err, refl, ap}
use Rattle.rw_base.proofs.Common.{◌∙◌, subst, arith, All, nat_tests, All-push}
use Rattle.rw_model.specs.Draft.{Draft}
use Rattle.rpl_code.specs.declared.block.Block.{Block}
use Rattle.rpl_tree.specs.Budget.{Budget, limits}
use Rattle.rpl_verify.proofs.KindFacts.{then_do_ok}
use Rattle.rpl_verify.specs.declared.verify_kind.VerifyKind.{VerifyKind}
use Rattle.rpl_verify.specs.declared.verify_kind.VerifyKind.TheVariants.{TooCostly, TooManyReads, TooManyPuts, TooDeep}
use Rattle.rpl_verify.specs.Fits.{AreFit, Before, Misplaced, Refusal, at_place, block_befores, each_block, in_block, refusal_in_result, scope_of}
use Rattle.rpl_verify.specs.Budget.{AreAccepted, IsWithinLimits, block_ruling, budget_by, within_limits}

pub in_block_ok : {A B : Type 0} (n : ℕ) (result : Result A Misplaced) (go : A → Result B Refusal) (b : B) → in_block n result go ≡ Ok b
    → (thing : A) × (result ≡ Ok thing) × (go thing ≡ Ok b)
in_block_ok n (Ok thing) go b in_block_is = (thing, refl, in_block_is)
in_block_ok n (Err misplaced) go b in_block_is = absurd (cc in_block_is)

ok_same : {A E : Type 0} (result : Result A E) (thing other_thing : A) → result ≡ Ok thing → result ≡ Ok other_thing → thing ≡ other_thing
ok_same (Ok thing) other_thing third_thing one other = cc
ok_same (Err why) thing other_thing one other = absurd (cc one)

-- where one way to judge lets nothing pass that another doesn't, all blocks that pass by the one pass by the other
module _ {A B : Type 0} (strict : List Block → List A → Block → Result A Misplaced) (mild : List Block → List B → Block → Result B Misplaced)
    (milder : (earlier : List Block) (things : List A) (its_bs : List B) (block : Block) (thing : A) → strict earlier things block ≡ Ok thing
    → (b : B) × (mild earlier its_bs block ≡ Ok b)) where
  pass_too : (earlier : List Block) (things : List A) (its_bs : List B) (blocks : List Block) (all : List A)
      → each_block strict earlier things blocks ≡ Ok all
      → (bs : List B) × (each_block mild earlier its_bs blocks ≡ Ok bs)
  pass_too earlier things its_bs [] all each_block_is = (its_bs, refl)
  pass_too earlier things its_bs (block ∷ blocks) all each_block_is =
      let in_block_ok_so =
      in_block_ok (suc (length earlier)) (strict earlier things block) (λ a. each_block strict (earlier ++ block ∷ []) (things ++ a ∷ []) blocks)
      all each_block_is in
      let milder_so = milder earlier things its_bs block in_block_ok_so.0 in_block_ok_so.1 in
      let rest = pass_too (earlier ++ block ∷ []) (things ++ in_block_ok_so.0 ∷ []) (its_bs ++ milder_so.0 ∷ []) blocks all in_block_ok_so.2 in (
        rest.0,
        ap (λ r. in_block (suc (length earlier)) r (λ b. each_block mild (earlier ++ block ∷ []) (its_bs ++ b ∷ []) blocks)) milder_so.1
            ∙ rest.1,
      )

pub accepted_fits : (basin : Draft) (blocks : List Block) (budgets : List Budget) → AreAccepted basin blocks budgets → AreFit basin blocks
accepted_fits basin blocks budgets accepted =
    let pass_too_so = pass_too (block_ruling basin blocks) (λ earlier done x. block_befores basin blocks earlier x)
    (λ earlier ds es x b k. let judged = then_do_ok (block_befores basin blocks earlier x) _ b k in (judged.0, judged.1))
    [] [] [] blocks budgets accepted in
    ap refusal_in_result pass_too_so.1

-- what each block that passes is judged as has a property, if every judgement that passes has it
all_pass : {A : Type 0} (P : A → Type 0) (judge : List Block → List A → Block → Result A Misplaced)
    → ((earlier : List Block) (things : List A) (block : Block) (thing : A) → judge earlier things block ≡ Ok thing → P thing)
    → (earlier : List Block) (things : List A) (blocks : List Block) (all : List A) → All P things → each_block judge earlier things blocks ≡ Ok all
    → All P all
all_pass P judge each earlier things [] all so_far each_block_is = subst (All P) (ok_same (Ok things) things all refl each_block_is) so_far
all_pass P judge each earlier things (block ∷ blocks) all so_far each_block_is =
    let in_block_ok_so =
    in_block_ok (suc (length earlier)) (judge earlier things block) (λ a. each_block judge (earlier ++ block ∷ []) (things ++ a ∷ []) blocks)
    all each_block_is in
    all_pass P judge each (earlier ++ block ∷ []) (things ++ in_block_ok_so.0 ∷ []) blocks all
    (All-push P things in_block_ok_so.0 so_far (each earlier things block in_block_ok_so.0 in_block_ok_so.1)) in_block_ok_so.2

not_over : (test : Bool) (misfit : VerifyKind) (result : Result Budget VerifyKind) (its_budget : Budget)
    → (if test then Err misfit else result) ≡ Ok its_budget
    → (test ≡ false) × (result ≡ Ok its_budget)
not_over true misfit result its_budget if_is = absurd (cc if_is)
not_over false misfit result its_budget if_is = (refl, if_is)

at_most : (m n : ℕ) → nat_lt m n ≡ false → n ≤ m
at_most m n nat_lt_is = grind (arith, nat_tests)

pub within : (its_budget other_its_budget : Budget) → within_limits its_budget ≡ Ok other_its_budget → IsWithinLimits other_its_budget
within its_budget other_its_budget within_limits_is =
    let one = not_over (nat_lt limits.count its_budget.count) TooCostly _ other_its_budget within_limits_is in
    let two = not_over (nat_lt limits.looks its_budget.looks) TooManyReads _ other_its_budget one.1 in
    let three = not_over (nat_lt limits.puts its_budget.puts) TooManyPuts _ other_its_budget two.1 in
    let four = not_over (nat_lt limits.words its_budget.words) TooDeep _ other_its_budget three.1 in
    subst IsWithinLimits (ok_same (Ok its_budget) its_budget other_its_budget refl four.1) (record {
      count = at_most limits.count its_budget.count one.0;
      looks = at_most limits.looks its_budget.looks two.0;
      puts = at_most limits.puts its_budget.puts three.0;
      words = at_most limits.words its_budget.words four.0;
    })

pub same_budget : (its_budget other_its_budget : Budget) → within_limits its_budget ≡ Ok other_its_budget → its_budget ≡ other_its_budget
same_budget its_budget other_its_budget within_limits_is =
    let one = not_over (nat_lt limits.count its_budget.count) TooCostly _ other_its_budget within_limits_is in
    let two = not_over (nat_lt limits.looks its_budget.looks) TooManyReads _ other_its_budget one.1 in
    let three = not_over (nat_lt limits.puts its_budget.puts) TooManyPuts _ other_its_budget two.1 in
    let four = not_over (nat_lt limits.words its_budget.words) TooDeep _ other_its_budget three.1 in
    ok_same (Ok its_budget) its_budget other_its_budget refl four.1

pub at_place_ok : (place : ℕ) (result : Result Budget VerifyKind) (its_budget : Budget) → at_place place result (λ b. Ok b) ≡ Ok its_budget
    → result ≡ Ok its_budget
at_place_ok place (Ok its_budget) other_its_budget at_place_is = cc at_place_is
at_place_ok place (Err misfit) its_budget at_place_is = absurd (cc at_place_is)

block_within : (basin : Draft) (blocks earlier : List Block) (budgets : List Budget) (block : Block) (its_budget : Budget)
    → block_ruling basin blocks earlier budgets block ≡ Ok its_budget → IsWithinLimits its_budget
block_within basin blocks earlier budgets block its_budget block_ruling_is =
    let found : List Before → Budget = λ bs. budget_by (scope_of basin blocks (suc (length earlier)) block) budgets bs block.lines in
    let judged =
    then_do_ok (block_befores basin blocks earlier block) (λ bs. at_place (length block.lines) (within_limits (found bs)) (λ c. Ok c))
    its_budget block_ruling_is in
    within (found judged.0) its_budget (at_place_ok (length block.lines) (within_limits (found judged.0)) its_budget judged.2)

pub accepted_within : (basin : Draft) (blocks : List Block) (budgets : List Budget) → AreAccepted basin blocks budgets → All IsWithinLimits budgets
accepted_within basin blocks budgets accepted =
    all_pass IsWithinLimits (block_ruling basin blocks) (block_within basin blocks) [] [] blocks budgets (λ k d lt. absurd (omega arith)) accepted
