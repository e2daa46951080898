-- The volume at an elevation, row after row: where it has a value, that it never falls, and which two rows decide it.
use Rattle.rw_table.proofs.Common.{IsAbove, IsRisingAt, IsTable, List, None, Option, Row, Some, [], ap, arith, between, inl, inr, ints, length, refl}
use Rattle.rw_table.proofs.Common.{row_at, suc, sym, vol_from, zero, ℕ, ℤ, ◌<ℤ◌, ◌<◌, ◌∙◌, ◌∷◌, ◌≡◌, ◌≤ℤ◌, ◌≤◌}
use Rattle.rw_table.proofs.Comparison.{below_or_not, same_or_not, le_passes, le_fails, lt_passes, lt_fails, eq_passes, eq_fails}
use Rattle.rw_table.proofs.Line.{between_bounds, between_rises, between_low}

-- each row is above the one before it
abbrev pub IsChain : Row → List Row → Type 0
IsChain low [] = Unit {0}
IsChain low (high ∷ rows) = IsAbove high low × IsChain high rows

-- from what each place says of the row before it
chain_from : (low : Row) (rows : List Row) → ((k : ℕ) → k < length (low ∷ rows) → IsRisingAt (low ∷ rows) k) → IsChain low rows
chain_from low [] rising = tt
chain_from low (high ∷ rows) rising =
    (rising 1 (omega arith) 0 refl, chain_from high rows (λ k within j before. rising (suc k) (omega arith) (suc j) (omega arith)))

-- a table is a chain
pub chain : (low : Row) (rows : List Row) → IsTable (low ∷ rows) → IsChain low rows
chain low rows table = chain_from low rows (λ k within. (table.good k within).rising)

-- the last of the rows, where low is the first
abbrev pub last : Row → List Row → Row
last low rows = row_at (low ∷ rows) (length rows)

-- an answer is not both none and some
none_found : {o : Option ℤ} {v : ℤ} → o ≡ None → o ≡ Some v → ⊥
none_found none some = cc

-- nor two values
some_found : {o : Option ℤ} {v w : ℤ} → o ≡ Some v → o ≡ Some w → w ≡ v
some_found one other = cc

-- ---- one interval

-- the last row has a volume at its elevation alone
at_end : (low : Row) (e : ℤ) → e ≡ low.0 → vol_from low [] e ≡ Some low.1
at_end low e same = rw (eq_passes e low.0 same) refl

not_at_end : (low : Row) (e : ℤ) → ¬ (e ≡ low.0) → vol_from low [] e ≡ None
not_at_end low e apart = rw (eq_fails e low.0 apart) refl

-- below the first row there is none
before_all : (low : Row) (rows : List Row) (e : ℤ) → IsChain low rows → e <ℤ low.0 → vol_from low rows e ≡ None
before_all low [] e rising before = not_at_end low e (λ same. omega (arith, ints))
before_all low (high ∷ rows) e rising before =
    rw (le_fails low.0 e before) (before_all high rows e rising.1 (omega (arith, ints, rising.0.elevation)))

-- in the first interval the volume is on its line
in_interval : (low high : Row) (rows : List Row) (e : ℤ) → low.0 ≤ℤ e → e <ℤ high.0 → vol_from low (high ∷ rows) e ≡ Some (between low high e)
in_interval low high rows e from to = rw (le_passes low.0 e from, lt_passes e high.0 to) refl

-- and past it the rows after decide
past_interval : (low high : Row) (rows : List Row) (e : ℤ) → IsAbove high low → high.0 ≤ℤ e → vol_from low (high ∷ rows) e ≡ vol_from high rows e
past_interval low high rows e above past =
    let from = le_passes low.0 e (omega (arith, ints, above.elevation)) in
    rw (from, lt_fails e high.0 past) refl

-- ---- all intervals

-- a volume is that of an elevation inside, and at least the first volume
pub record IsFound (low : Row) (rows : List Row) (e v : ℤ) : Type 0 where
  pub from_first : low.0 ≤ℤ e
  pub to_last : e ≤ℤ (last low rows).0
  pub at_least : low.1 ≤ℤ v

-- the last row is no lower than the first, in both columns
rows_rise : (low : Row) (rows : List Row) → IsChain low rows → (low.0 ≤ℤ (last low rows).0) × (low.1 ≤ℤ (last low rows).1)
rows_rise low [] rising = (omega (arith, ints), omega (arith, ints))
rows_rise low (high ∷ rows) rising =
    let more = rows_rise high rows rising.1 in
    (omega (arith, ints, rising.0.elevation, more.0), omega (arith, ints, rising.0.volume, more.1))

-- what is found is such
pub found : (low : Row) (rows : List Row) (e v : ℤ) → IsChain low rows → vol_from low rows e ≡ Some v → IsFound low rows e v
found low [] e v rising is = elim (same_or_not e low.0) [
  | inl same ↦
      let value : v ≡ low.1 = some_found (at_end low e same) is in
      record {
        from_first = omega (arith, ints);
        to_last = omega (arith, ints);
        at_least = omega (arith, ints);
      }
  | inr other ↦ absurd (none_found (not_at_end low e other) is)
]
found low (high ∷ rows) e v rising is = elim (below_or_not e low.0) [
  | inl before ↦ absurd (none_found (before_all low (high ∷ rows) e rising before) is)
  | inr from ↦
      elim (below_or_not e high.0) [
        | inl to ↦
            let value : v ≡ between low high e = some_found (in_interval low high rows e from to) is in
            let more = rows_rise high rows rising.1 in
            let bounds = between_bounds low high e rising.0 from to in
            record {
              from_first = from;
              to_last = omega (arith, ints, more.0);
              at_least = omega (arith, ints, bounds.0);
            }
        | inr past ↦
            let later = found high rows e v rising.1 (sym (past_interval low high rows e rising.0 past) ∙ is) in
            record {
              from_first = from;
              to_last = later.to_last;
              at_least = omega (arith, ints, rising.0.volume, later.at_least);
            }
      ]
]

-- an elevation inside has a volume
pub has_volume : (low : Row) (rows : List Row) (e : ℤ) → IsChain low rows → low.0 ≤ℤ e → e ≤ℤ (last low rows).0
    → (v : ℤ) × (vol_from low rows e ≡ Some v)
has_volume low [] e rising from to = (low.1, at_end low e (omega (arith, ints)))
has_volume low (high ∷ rows) e rising from to = elim (below_or_not e high.0) [
  | inl before ↦ (between low high e, in_interval low high rows e from before)
  | inr past ↦
      let later = has_volume high rows e rising.1 past to in
      (later.0, past_interval low high rows e rising.0 past ∙ later.1)
]

-- a volume at a greater elevation is no less
pub volume_rises : (low : Row) (rows : List Row) (e later v w : ℤ) → IsChain low rows → e ≤ℤ later → vol_from low rows e ≡ Some v
    → vol_from low rows later ≡ Some w → v ≤ℤ w
volume_rises low [] e later v w rising after first next =
    let one = found low [] e v tt first in
    let two = found low [] later w tt next in
    let value : v ≡ low.1 = some_found (at_end low e (omega (arith, ints, one.from_first, one.to_last))) first in
    omega (arith, ints, two.at_least)
volume_rises low (high ∷ rows) e later v w rising after first next =
    let from = (found low (high ∷ rows) e v rising first).from_first in
    elim (below_or_not e high.0) [
      | inl to ↦
          let value : v ≡ between low high e = some_found (in_interval low high rows e from to) first in
          elim (below_or_not later high.0) [
            | inl later_to ↦
                let next_value : w ≡ between low high later = some_found (in_interval low high rows later (omega (arith, ints)) later_to) next in
                omega (arith, ints, between_rises low high e later rising.0 from after)
            | inr later_past ↦
                let beyond = found high rows later w rising.1 (sym (past_interval low high rows later rising.0 later_past) ∙ next) in
                let bounds = between_bounds low high e rising.0 from to in
                omega (arith, ints, bounds.1, beyond.at_least)
          ]
      | inr past ↦
          let later_past : high.0 ≤ℤ later = omega (arith, ints) in
          volume_rises high rows e later v w rising.1 after (sym (past_interval low high rows e rising.0 past) ∙ first)
          (sym (past_interval low high rows later rising.0 later_past) ∙ next)
    ]

-- no row is below the first
rises_to : (low : Row) (rows : List Row) (k : ℕ) → IsChain low rows → k ≤ length rows → low.0 ≤ℤ (row_at (low ∷ rows) k).0
rises_to low rows zero rising within = omega (arith, ints)
rises_to low [] (suc k) rising within = absurd (omega arith)
rises_to low (high ∷ rows) (suc k) rising within =
    omega (arith, ints, rising.0.elevation, rises_to high rows k rising.1 (omega arith))

-- at a row's elevation the volume is that row's
pub volume_at_row : (low : Row) (rows : List Row) (k : ℕ) → IsChain low rows → k ≤ length rows
    → vol_from low rows (row_at (low ∷ rows) k).0 ≡ Some (row_at (low ∷ rows) k).1
volume_at_row low [] zero rising within = at_end low low.0 refl
volume_at_row low [] (suc k) rising within = absurd (omega arith)
volume_at_row low (high ∷ rows) zero rising within =
    in_interval low high rows low.0 (omega (arith, ints)) rising.0.elevation ∙ ap Some (between_low low high rising.0)
volume_at_row low (high ∷ rows) (suc k) rising within =
    past_interval low high rows (row_at (high ∷ rows) k).0 rising.0 (rises_to high rows k rising.1 (omega arith))
    ∙ volume_at_row high rows k rising.1 (omega arith)

-- from one row to the next the volume is on the line between them
pub volume_between : (low : Row) (rows : List Row) (k : ℕ) (e : ℤ) → IsChain low rows → k < length rows → (row_at (low ∷ rows) k).0 ≤ℤ e
    → e <ℤ (row_at rows k).0 → vol_from low rows e ≡ Some (between (row_at (low ∷ rows) k) (row_at rows k) e)
volume_between low [] k e rising within from to = absurd (omega arith)
volume_between low (high ∷ rows) zero e rising within from to = in_interval low high rows e from to
volume_between low (high ∷ rows) (suc k) e rising within from to =
    let past = rises_to high rows k rising.1 (omega arith) in
    past_interval low high rows e rising.0 (omega (arith, ints, past, from))
    ∙ volume_between high rows k e rising.1 (omega arith) from to
