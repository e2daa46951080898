use Rattle.rw_record.proofs.Common.{List, rules, subst, ℕ}
use Rattle.rw_base.proofs.Common.{always_returns_same, of_calls}
use Rattle.std.specs.List.Sorted.{IsPermutation}
use Rattle.rw_record.specs.InOrder.{rank_in}
use Rattle.rw_record.proofs.InOrder.{sorted_rises}
use Rattle.rw_record.proofs.ordered.sort.Goals as goal

pub returns : goal.returns
returns c =
    let sorted : List ℕ = c.sort_unstable_by_key.new.self.items in
    sorted_rises c.args.items.now sorted c.requires.once
    (subst (λ all. IsPermutation all sorted) c.in_ok-number.ensures c.sort_unstable_by_key.ensures.permutation)
    (c.sort_unstable_by_key.ensures.sorted (rank_in c.args.items.now) (always_returns_same _ _ _ (λ a r f k. search (rules, of_calls))))
