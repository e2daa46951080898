-- What a firing of verified code comes to, by the budget of its rule.
use Rattle.rw_base.proofs.Common.{◌≡◌, ◌∙◌, ◌≢◌, ℕ, ◌-◌, ◌<◌, ◌≤◌, ℤ, List, [], ◌∷◌, All, Option, None, Some, ap, arith, get_or_from_slice_get}
use Rattle.rw_base.proofs.Common.{length, none-some, option_and_then, option_map, refl, same_Some, slice_get_within, subst, sym, unwrap_or}
use Rattle.rw_base.specs.declared.number.Cell.{Cell}
use Rattle.rw_model.proofs.Common.{Draft, numbered}
use Rattle.rw_model.proofs.Numbered.{numbered-found}
use Rattle.rw_firing.specs.Fire.{Fire}
use Rattle.rw_firing.specs.declared.fire.FireEnd.{FireEnd}
use Rattle.rw_firing.specs.declared.fire.FireEnd.TheVariants.{Done}
use Rattle.rw_run.specs.Log.{Cells, asked_in, written_by}
use Rattle.rw_run.specs.Next.{asked_of_rule, ended}
use Rattle.rw_writes.specs.Writes.{writes_of}
use Rattle.rpl_code.specs.declared.block.Block.{Block}
use Rattle.rpl_tree.proofs.Common.{Answer, Budget, Trail, World, fire_of, stuck}
use Rattle.rpl_verify.specs.Budget.{AreAccepted, IsWithinLimits}
use Rattle.rpl_verify.specs.Machine.{Frame, fire_of_code, fired, first_frame, most_steps, rule_from, run}
use Rattle.rpl_verify.specs.Safety.{AreSafe, puts_from}
use Rattle.rpl_verify.specs.Verified.{Accepted}
use Rattle.rpl_verify.proofs.Accepted.{rule_there}
use Rattle.rpl_policy.proofs.Verified.{has_block}
use Rattle.rw_rules.specs.Firing.{most_looks}

-- ---- blocks

-- a rule's block is one of the code
pub its_block : (basin : Draft) (policy : Accepted) → AreAccepted basin policy.blocks policy.budgets → (rule n : ℕ)
    → rule_from 1 policy.blocks rule ≡ Some n
    → (1 ≤ n) × (n ≤ length policy.blocks)
its_block basin policy accepted rule n stands =
    let there = rule_there basin policy.blocks policy.budgets accepted (λ cell. None) 0 1 policy.blocks rule n stands in
    let near : n - 1 < length policy.blocks = slice_get_within policy.blocks (n - 1) there.0 there.1 in
    (there.3, omega (arith, near, there.3))

-- ---- puts

told_puts : (a : Answer (Unit {0})) (t : Trail) (fire : Fire) → fire_of a t ≡ Some fire → length fire.puts ≤ length t.puts
told_puts stuck t fire is = absurd (none-some fire is)
told_puts a t fire is = let same = ap (λ (f : Fire). length f.puts) (same_Some _ fire is) in omega (arith, same)

puts_told : (code : List Block) (w : World) (o : Option Frame) (fire : Fire) → fired code w o ≡ Some fire → length fire.puts ≤ puts_from code w o
puts_told code w None fire is = absurd (none-some fire is)
puts_told code w (Some f) fire is = told_puts (run code w most_steps (f ∷ [])).answer (run code w most_steps (f ∷ [])).trail fire is

within : (budgets : List Budget) (n : ℕ) (b : Budget) → All IsWithinLimits budgets → numbered budgets n ≡ Some b → IsWithinLimits b
within budgets n b all is =
    let there = numbered-found budgets n b is in
    subst IsWithinLimits (get_or_from_slice_get budgets (n - 1) b b there) (all (n - 1) b (slice_get_within budgets (n - 1) b there))

-- ---- a firing

module _ (basin : Draft) (policy : Accepted) (safe : AreSafe basin policy.blocks policy.budgets) (limited : All IsWithinLimits policy.budgets) where
  pub few_puts : (rule step : ℕ) (values : Cell → Option ℤ) (fire : Fire) → fire_of_code policy.blocks basin rule step values ≡ Some fire
      → length fire.puts ≤ 2000
  few_puts rule step values fire is =
      let block = has_block policy.blocks basin rule step values fire is in
      let own = safe rule block.0 step values block.1 in
      let told = puts_told policy.blocks (record { basin = basin; values = values; step = step }) (first_frame policy.blocks rule) fire is in
      let most = (within policy.budgets block.0 own.0 limited own.1).puts in
      omega (arith, told, own.2.puts, most)

  looks_of_block : (rule n : ℕ) (b : Budget) → rule_from 1 policy.blocks rule ≡ Some n → numbered policy.budgets n ≡ Some b
      → most_looks policy rule ≡ b.looks
  looks_of_block rule n b stands is =
      ap (λ (o : Option ℕ). unwrap_or (option_map (λ (d : Budget). d.looks) (option_and_then (λ block. numbered policy.budgets block) o)) 0) stands
      ∙ ap (λ (o : Option Budget). unwrap_or (option_map (λ (d : Budget). d.looks) o) 0) is

  pub few_looks : (rule step : ℕ) (values : Cell → Option ℤ) (fire : Fire) → fire_of_code policy.blocks basin rule step values ≡ Some fire
      → length fire.looked ≤ most_looks policy rule
  few_looks rule step values fire is =
      let block = has_block policy.blocks basin rule step values fire is in
      let own = safe rule block.0 step values block.1 in
      let same = ap (λ (f : Fire). length f.looked) (same_Some own.2.fire fire (sym own.2.fires ∙ is)) in
      let most = looks_of_block rule block.0 own.0 block.1 own.1 in
      omega (arith, same, most, own.2.cells)

-- ---- what is asked for, and what is written

pub asked_told : (basin : Draft) (cells : Cells) (rule step : ℕ) (fire : Fire) (end : FireEnd) → fire.end ≡ end → (fire.end ≢ Done → fire.puts ≡ [])
    → asked_of_rule basin rule step fire.puts ≡ asked_in (ended basin cells rule step fire end)
asked_told basin cells rule step fire Done is silent = refl
asked_told basin cells rule step fire end is silent = ap (asked_of_rule basin rule step) (silent (λ done. cc (sym is ∙ done)))

pub written_told : (basin : Draft) (cells : Cells) (rule step : ℕ) (fire : Fire) (end : FireEnd) → fire.end ≡ end → (fire.end ≢ Done → fire.puts ≡ [])
    → writes_of basin cells rule step fire.puts ≡ written_by (ended basin cells rule step fire end)
written_told basin cells rule step fire Done is silent = refl
written_told basin cells rule step fire end is silent = ap (writes_of basin cells rule step) (silent (λ done. cc (sym is ∙ done)))
