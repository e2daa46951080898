-- One storage follows the other.
use Rattle.rw_plain_reservoir.proofs.Common.{List, [], ap, arith, ints, length, pos, slice_index_or, storage_at, suc, suc-eq-add-one, sym, take}
use Rattle.rw_plain_reservoir.proofs.Common.{total, zero, ℕ, ℤ, ◌+ℤ◌, ◌+◌, ◌<◌, ◌∙◌, ◌∷◌, ◌≡◌}
use Rattle.rw_plain_reservoir.proofs.Solves.{after}

total_suc : (flows : List ℤ) (t : ℕ) → t < length flows → total (take (suc t) flows) ≡ total (take t flows) +ℤ slice_index_or flows t (pos 0)
total_suc [] t within = absurd (omega (arith, within))
total_suc (flow ∷ flows) zero within = omega (arith, ints)
total_suc (flow ∷ flows) (suc t) within =
    let near : t < length flows = omega (arith, within) in
    let rest = total_suc flows t near in
    omega (arith, ints, rest)

total_more : (flows : List ℤ) (t : ℕ) → t < length flows → total (take (t + 1) flows) ≡ total (take t flows) +ℤ slice_index_or flows t (pos 0)
total_more flows t within = ap (λ n. total (take n flows)) (sym (suc-eq-add-one t)) ∙ total_suc flows t within

pub next-storage : (initial : ℤ) (inflows outflows : List ℤ) (t : ℕ) → t < length inflows → t < length outflows
    → storage_at initial inflows outflows (t + 1)
    ≡ after (storage_at initial inflows outflows t) (slice_index_or inflows t (pos 0)) (slice_index_or outflows t (pos 0))
next-storage initial inflows outflows t inner outer =
    let more_in = total_more inflows t inner in
    let more_out = total_more outflows t outer in
    omega (arith, ints, more_in, more_out)

pub first-storage : (initial : ℤ) (inflows outflows : List ℤ) → storage_at initial inflows outflows 0 ≡ initial
first-storage initial inflows outflows = omega (arith, ints)
