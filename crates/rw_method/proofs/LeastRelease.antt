-- The first whole number that is enough, and so the least release that gives an energy, which is a quotient.
use Rattle.rw_base.proofs.Common.{*ℤ-zero, *ℤ_comm, Bool, MatchOption, None, Option, Some, ap, arith, by_lt_z, cases_eq, cases_lt, cond, false, inl}
use Rattle.rw_base.proofs.Common.{inr, ints, negsuc, option_map, pos, refl, subst, suc, sym, true, zero, ℕ, ℤ, ◌*ℤ◌, ◌*◌, ◌+ℤ◌, ◌+◌, ◌-ℤ◌, ◌<ℤ◌, ◌<◌}
use Rattle.rw_base.proofs.Common.{◌∙◌, ◌≡◌, ◌≤ℤ◌, ◌≤◌}
use Rattle.rw_base.specs.Quotient.{floor_div}
use Rattle.rw_base.proofs.Quotients.{IsFloor-floor_div}
use Rattle.rw_table.proofs.Line.{natural}
use Rattle.rw_table.proofs.Comparison.{below_or_not, same_or_not, le_passes, le_fails, eq_passes, eq_fails}
use Rattle.rw_method.proofs.LeastInflow.{times_rises}
use Rattle.rw_method.specs.Power.{HasNoRelease, IsLeastRelease, energy_of, first_enough, is_enough, least_release, quotient_release, release_quotient}
use Rattle.rw_method.specs.Power.{up_to}

-- it is among those that are counted, is enough, and none before it is
record IsFirst (enough : ℕ → Bool) (from end first : ℕ) : Type 0 where
  low : from ≤ first
  high : first < end
  passes : enough first ≡ true
  none : (other : ℕ) → from ≤ other → other < first → enough other ≡ false

abbrev Counts : (ℕ → Bool) → ℕ → ℕ → Option ℕ → Type 0
Counts enough from end o = MatchOption o ((other : ℕ) → from ≤ other → other < end → enough other ≡ false) (IsFirst enough from end)

-- one that isn't enough, and those after it
step_over : (enough : ℕ → Bool) (from end : ℕ) (o : Option ℕ) → enough from ≡ false → Counts enough (suc from) end o → Counts enough from end o
step_over enough from end None misses none = λ other low high. elim (cases_eq other from) [
  | inl same ↦ rw same misses
  | inr apart ↦ none other (omega (arith, low, apart)) high
]
step_over enough from end (Some first) misses some = record {
  low = omega (arith, some.low);
  high = some.high;
  passes = some.passes;
  none = λ other low below. elim (cases_eq other from) [
    | inl same ↦ rw same misses
    | inr apart ↦ some.none other (omega (arith, low, apart)) below
  ];
}

count_one : (enough : ℕ → Bool) (from end : ℕ) (o : Option ℕ) (b : Bool) → from < end → enough from ≡ b → Counts enough (suc from) end o
    → Counts enough from end (cond b (Some from) o)
count_one enough from end o true some is counts = record {
  low = omega arith;
  high = some;
  passes = is;
  none = λ other low below. absurd (omega (arith, low, below));
}
count_one enough from end o false some is counts = step_over enough from end o is counts

-- what the count answers
counted : (enough : ℕ → Bool) (more from : ℕ) → Counts enough from (from + more) (first_enough enough more from)
counted enough zero from = λ other low high. absurd (omega (arith, low, high))
counted enough (suc more) from =
    let end : suc from + more ≡ from + suc more = omega arith in
    count_one enough from (from + suc more) _ _ (omega arith) refl (rw end at (counted enough more (suc from)))

clash : {b : Bool} → b ≡ true → b ≡ false → ⊥
clash passed misses = cc

-- the first is one
first_is : (enough : ℕ → Bool) (more from first : ℕ) → IsFirst enough from (from + more) first → first_enough enough more from ≡ Some first
first_is enough more from first is = alone enough from (from + more) first _ is (counted enough more from)
  where
    alone : (enough : ℕ → Bool) (from end first : ℕ) (o : Option ℕ) → IsFirst enough from end first → Counts enough from end o → o ≡ Some first
    alone enough from end first None is none = absurd (clash is.passes (none first is.low is.high))
    alone enough from end first (Some other) is some = elim (cases_lt first other) [
      | inl before ↦ absurd (clash is.passes (some.none first is.low before))
      | inr from_it ↦ elim (cases_lt other first) [
        | inl after ↦ absurd (clash some.passes (is.none other some.low after))
        | inr same ↦ ap Some (omega (arith, from_it, same))
      ]
    ]

-- where there is none
none_is : (enough : ℕ → Bool) (more from : ℕ) → ((other : ℕ) → from ≤ other → other < from + more → enough other ≡ false)
    → first_enough enough more from ≡ None
none_is enough zero from none = refl
none_is enough (suc more) from none =
    rw (none from (omega arith) (omega arith))
    (none_is enough more (suc from) (λ other low high. none other (omega (arith, low)) (omega (arith, high))))

-- ---- the count says what is the least

not_enough : (power : ℕ) (head energy : ℤ) (release : ℕ) → is_enough power head energy release ≡ false → energy_of power head (pos release) <ℤ energy
not_enough power head energy release misses = omega (arith, ints, misses)

gives : (power : ℕ) (head energy : ℤ) (release : ℕ) → is_enough power head energy release ≡ true → energy ≤ℤ energy_of power head (pos release)
gives power head energy release passes = omega (arith, ints, passes)

is_least : (power : ℕ) (head : ℤ) (most : ℕ) (energy : ℤ) (o : Option ℕ) → Counts (is_enough power head energy) 0 (suc most) o
    → MatchOption o (HasNoRelease power head (pos most) energy) (IsLeastRelease power head (pos most) energy)
is_least power head most energy None none =
    λ other inside. not_enough power head energy other (none other (omega arith) (omega (arith, ints, inside)))
is_least power head most energy (Some release) is = record {
  inside = omega (arith, ints, is.high);
  enough = gives power head energy release is.passes;
  least = λ other below. not_enough power head energy other (is.none other (omega arith) below);
}

-- the least release is the least, and there is none where no release gives the energy
pub least_is : (power : ℕ) (head max_release energy : ℤ) → pos 0 ≤ℤ max_release
    → MatchOption (least_release power head max_release energy) (HasNoRelease power head max_release energy)
    (IsLeastRelease power head max_release energy)
least_is power head (pos most) energy low = is_least power head most energy _ (rw all at (counted (is_enough power head energy) (suc most) 0))
  where
    all : 0 + suc most ≡ suc most
    all = omega arith
least_is power head (negsuc most) energy low = absurd (omega (arith, ints, low))

-- ---- and the quotient is the least

-- a product on the two sides of an energy
enough_from : (m : ℕ) (energy release : ℤ) → (energy *ℤ pos 1000000000) ≤ℤ (release *ℤ pos m)
    → energy ≤ℤ floor_div (release *ℤ pos m) (pos 1000000000)
enough_from m energy release most =
    let floor = (IsFloor-floor_div (release *ℤ pos m) (pos 1000000000)).over_positive (omega (arith, ints)) in
    omega (arith, ints, most, floor.1)

little_from : (m : ℕ) (energy release : ℤ) → (release *ℤ pos m) <ℤ (energy *ℤ pos 1000000000)
    → floor_div (release *ℤ pos m) (pos 1000000000) <ℤ energy
little_from m energy release less =
    let floor = (IsFloor-floor_div (release *ℤ pos m) (pos 1000000000)).over_positive (omega (arith, ints)) in
    omega (arith, ints, less, floor.0)

-- no release and no fall give nothing
nothing : (z : ℤ) → z ≡ pos 0 → floor_div z (pos 1000000000) ≡ pos 0
nothing z none = rw none refl

-- just enough: one more than the quotient, and it is above 0
record IsJustEnough (m : ℕ) (energy q : ℤ) : Type 0 where
  low : pos 0 ≤ℤ q
  below : (q *ℤ pos m) <ℤ (energy *ℤ pos 1000000000)
  enough : (energy *ℤ pos 1000000000) ≤ℤ ((q +ℤ pos 1) *ℤ pos m)

just_enough : (m : ℕ) (energy : ℤ) → 0 < m → pos 0 <ℤ energy → IsJustEnough m energy (floor_div (energy *ℤ pos 1000000000 -ℤ pos 1) (pos m))
just_enough m energy some much =
    let q = floor_div (energy *ℤ pos 1000000000 -ℤ pos 1) (pos m) in
    let floor = (IsFloor-floor_div (energy *ℤ pos 1000000000 -ℤ pos 1) (pos m)).over_positive (omega (arith, ints, some)) in
    record {
      low =
          by_lt_z q (pos 0) (λ under. absurd (omega
          (arith, ints, floor.1, much, times_rises (q +ℤ pos 1) (pos 0) m (omega (arith, ints, under)), none m))) (λ le. le);
      below = omega (arith, ints, floor.0);
      enough = omega (arith, ints, floor.1);
    }
  where
    none : (m : ℕ) → pos 0 *ℤ pos m ≡ pos 0
    none m = ap pos (omega arith)

-- the quotient, of a fall above 0
by_quotient : (power head most : ℕ) (energy : ℤ) → 0 < head * power → pos 0 <ℤ energy
    → option_map pos (least_release power (pos head) (pos most) energy) ≡ up_to (pos most) (release_quotient power (pos head) energy)
by_quotient power head most energy some much =
    let q = floor_div (energy *ℤ pos 1000000000 -ℤ pos 1) (pos (head * power)) in
    let just = just_enough (head * power) energy some much in
    let k = natural (q +ℤ pos 1) (omega (arith, ints, just.low)) in
    let less : (other : ℕ) → other < k.0 → is_enough power (pos head) energy other ≡ false = λ other below.
    le_fails energy (energy_of power (pos head) (pos other)) (little_from (head * power) energy (pos other)
    (omega (arith, ints, just.below, times_rises (pos other) q (head * power) (omega (arith, ints, k.1, below))))) in
    by_lt_z (pos most) (q +ℤ pos 1)
    (λ over. rw (none_is (is_enough power (pos head) energy) (suc most) 0 (λ other low high. less other (omega (arith, ints, k.1, over, high))))
    rw (le_fails (q +ℤ pos 1) (pos most) over) refl)
    (λ within. rw (first_is (is_enough power (pos head) energy) (suc most) 0 k.0 (record {
      low = omega arith;
      high = omega (arith, ints, k.1, within);
      passes = le_passes energy (energy_of power (pos head) (pos k.0)) (enough_from (head * power) energy (pos k.0) (rw k.1 at just.enough));
      none = λ other low below. less other below;
    }))
    rw (le_passes (q +ℤ pos 1) (pos most) within) (ap Some (sym k.1)))

some_fall : (head power : ℕ) → 1 ≤ power → 0 < head → 0 < head * power
some_fall head power high above = omega (arith, ints, high, above, times_rises (pos 1) (pos head) power (omega (arith, ints, above)))

-- where it needs none, no release is the least
by_none : (power : ℕ) (head : ℤ) (most : ℕ) (energy : ℤ) → energy ≤ℤ pos 0
    → option_map pos (least_release power head (pos most) energy) ≡ Some (pos 0)
by_none power head most energy none =
    let zero_product : pos 0 *ℤ (head *ℤ pos power) ≡ pos 0 = *ℤ_comm (pos 0) (head *ℤ pos power) ∙ *ℤ-zero (head *ℤ pos power) in
    let zero_energy : energy_of power head (pos 0) ≡ pos 0 = nothing (pos 0 *ℤ (head *ℤ pos power)) zero_product in
    rw (first_is (is_enough power head energy) (suc most) 0 0 (record {
      low = omega arith;
      high = omega arith;
      passes = le_passes energy (energy_of power head (pos 0)) (omega (arith, ints, none, zero_energy));
      none = λ other low below. absurd (omega (arith, below));
    })) refl

no_times : (n : ℕ) → 0 * n ≡ 0
no_times n = omega arith

-- where water doesn't fall, no release is enough
by_no_fall : (power most : ℕ) (energy : ℤ) → pos 0 <ℤ energy → option_map pos (least_release power (pos 0) (pos most) energy) ≡ None
by_no_fall power most energy much =
    rw (none_is (is_enough power (pos 0) energy) (suc most) 0 (λ other low high. le_fails energy (energy_of power (pos 0) (pos other))
    (omega (arith, ints, much, nothing (pos other *ℤ (pos 0 *ℤ pos power)) (flat other power))))) refl
  where
    flat : (other power : ℕ) → pos other *ℤ (pos 0 *ℤ pos power) ≡ pos 0
    flat other power =
        ap (λ n. pos other *ℤ pos n) (no_times power) ∙ *ℤ-zero (pos other)

flat_head : (power most : ℕ) (head energy : ℤ) → head ≡ pos 0 → pos 0 <ℤ energy → option_map pos (least_release power head (pos most) energy) ≡ None
flat_head power most head energy flat much =
    subst (λ h. option_map pos (least_release power h (pos most) energy) ≡ None) (sym flat) (by_no_fall power most energy much)

quotient_of : (power most : ℕ) (head energy : ℤ) → 1 ≤ power → pos 0 ≤ℤ head
    → option_map pos (least_release power head (pos most) energy) ≡ quotient_release power head (pos most) energy
quotient_of power most head energy some low = elim (below_or_not (pos 0) energy) [
  | inr none ↦ rw (le_passes energy (pos 0) none) (by_none power head most energy none)
  | inl much ↦ rw (le_fails energy (pos 0) much) (elim (same_or_not head (pos 0)) [
    | inl flat ↦ rw (eq_passes head (pos 0) flat) (flat_head power most head energy flat much)
    | inr falls ↦
        let h = natural head low in
        let above : 0 < h.0 = omega (arith, ints, h.1, low, falls) in
        rw (eq_fails head (pos 0) falls)
        (subst (λ z. option_map pos (least_release power z (pos most) energy) ≡ up_to (pos most) (release_quotient power z energy)) (sym h.1)
        (by_quotient power h.0 most energy (some_fall h.0 power some above) much))
  ])
]

-- the quotient is the least release
pub quotient_is : (power : ℕ) (max_release head energy : ℤ) → 1 ≤ power → pos 0 ≤ℤ head → pos 0 ≤ℤ max_release
    → option_map pos (least_release power head max_release energy) ≡ quotient_release power head max_release energy
quotient_is power (pos most) head energy some low high = quotient_of power most head energy some low
quotient_is power (negsuc most) head energy some low high = absurd (omega (arith, ints, high))
