-- An earlier value is of an earlier timestep.
use Rattle.rw_method.proofs.Common.{Bool, Kind, None, Reach, Reservoir, RoutedReach, Some, ap, arith, false, if◌then◌else◌, nat_tests, none-some}
use Rattle.rw_method.proofs.Common.{past_in, refl, same_Some, true, ℕ, ◌==◌, ◌≡◌, ◌≤◌, PowerReservoir}

pub some_ago : (kind : Kind) (past : ℕ × ℕ) → past_in kind ≡ Some past → 1 ≤ past.1
some_ago (Reach lag history local_inflow diversion return_flow) past is = by (lag == 0) refl is
  where
    by : (test : Bool) → (lag == 0) ≡ test → (if test then None else Some (0, lag)) ≡ Some past → 1 ≤ past.1
    by true zero_lag is = absurd (none-some past is)
    by false some is = let same : lag ≡ past.1 = ap (λ (p : ℕ × ℕ). p.1) (same_Some _ _ is) in grind (arith, nat_tests, some, same)
some_ago (Reservoir initial_storage table local_inflow diversion return_flow evaporation max_release) past is =
    let same : 1 ≡ past.1 = ap (λ (p : ℕ × ℕ). p.1) (same_Some _ _ is) in omega (arith, same)
some_ago (RoutedReach initial_content release) past is =
    let same : 1 ≡ past.1 = ap (λ (p : ℕ × ℕ). p.1) (same_Some _ _ is) in omega (arith, same)
some_ago (PowerReservoir initial_storage table max_release tailwater power) past is =
    let same : 1 ≡ past.1 = ap (λ (p : ℕ × ℕ). p.1) (same_Some _ _ is) in omega (arith, same)
some_ago kind past is = absurd (none-some past is)
