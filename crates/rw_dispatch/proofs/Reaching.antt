-- Waking the objects that are reached.
use Rattle.rw_dispatch.proofs.Common.{Bool, List, Option, append-nil, arith, false, filter, nat_lt, nat_tests, refl, sym, true, ℕ, ◌++◌, ◌≡◌, ◌≤◌}
use Rattle.rw_dispatch.proofs.Common.{◌<◌}
use Rattle.rw_model.specs.Draft.{Draft}
use Rattle.rw_run.specs.Waiting.{is_owner, is_woken, numbers}
use Rattle.rw_dispatch.specs.Owners.{HasReached}
use Rattle.rw_dispatch.specs.declared.owners.Reached.{Reached}
use Rattle.rw_dispatch.proofs.Queues.{none_left, woken-unreached}

module _ (basin : Draft) (but : Option ℕ) (old slots : List ℕ) (reached : Reached) (has : HasReached but (is_owner basin slots) reached) where
  -- none of those before all that are reached is woken
  pub none_before : (from : ℕ) → from ≤ reached.before → old ≡ old ++ filter (is_woken basin but old slots) (numbers from)
  none_before from near =
      none_left (is_woken basin but old slots) 0 from old old (omega arith)
      (λ object first known. woken-unreached basin but old slots object (has.before_all object (omega (arith, first)) (omega (arith, known, near))))
      (sym (append-nil old))

  -- nor of those behind them
  pub none_behind : (now : List ℕ) (from to last count : ℕ) → from ≡ last → last ≤ count → to ≡ count
      → ((bound : ℕ) → bound ≤ reached.last → bound ≤ count → bound ≤ last)
      → now ≡ old ++ filter (is_woken basin but old slots) (numbers from) → now ≡ old ++ filter (is_woken basin but old slots) (numbers to)
  none_behind now from to last count at within all least is =
      none_left (is_woken basin but old slots) from to old now (omega (arith, at, within, all))
      (λ object above known. woken-unreached basin but old slots object
      (has.behind object (past object above known (nat_lt reached.last object) refl))) is
    where
      past : (object : ℕ) → from < object → object ≤ to → (t : Bool) → nat_lt reached.last object ≡ t → reached.last < object
      past object above known true test = grind (arith, nat_tests)
      past object above known false test =
          let near : object ≤ reached.last = grind (arith, nat_tests) in
          let low = least object near (omega (arith, known, all)) in absurd (omega (arith, low, above, at))
