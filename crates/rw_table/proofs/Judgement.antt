-- Nothing is wrong with rows exactly where they are a table.
use Rattle.rw_table.proofs.Common.{Decides, Decides-and, Decides-like, Finds, IsAbove, IsGoodRow, IsRisingAt, IsTable, IsWithinBounds, List, None}
use Rattle.rw_table.proofs.Common.{Option, Row, Some, TableRefusal, ap, arith, below_more, cases_eq, inl, inr, is_above, is_rising_at}
use Rattle.rw_table.proofs.Common.{is_within_bounds, length, nat_lt, nat_tests, not_rising, option_or, refl, rows_refusal_of, row_at, row_refusal}
use Rattle.rw_table.proofs.Common.{rows_refusal, subst, suc, sym, table_refusal, zero, ℕ, ◌+◌, ◌<◌, ◌↔◌, ◌∙◌, ◌≡◌, ◌≤◌}
use Rattle.rw_base.proofs.Answering.{found}
use Rattle.rw_base.proofs.Tests.{Decides-from_to, Decides-int_lt, passed, spared, unless, where-true}
use Rattle.rw_base.proofs.Lists.{neither_there}
use Rattle.rw_table.specs.declared.fault.TableFault.{TableFault}

Decides-bounds : (row : Row) → Decides (is_within_bounds row) (IsWithinBounds row)
Decides-bounds row = Decides-like (is_within_bounds row)
    (λ p. record { lowest = p.0.0; highest = p.0.1; empty = p.1.0; fullest = p.1.1 }) (λ p. ((p.lowest, p.highest), (p.empty, p.fullest)))
    (Decides-and _ _ (Decides-from_to _ _ row.0) (Decides-from_to _ _ row.1))

Decides-above : (row before : Row) → Decides (is_above row before) (IsAbove row before)
Decides-above row before = Decides-like (is_above row before)
    (λ p. record { elevation = p.0; volume = p.1 }) (λ p. (p.elevation, p.volume))
    (Decides-and _ _ (Decides-int_lt before.0 row.0) (Decides-int_lt before.1 row.1))

Decides-rising : (rows : List Row) (k : ℕ) → Decides (is_rising_at rows k) (IsRisingAt rows k)
Decides-rising rows zero = (λ _. λ j before. absurd (omega arith), λ _. refl)
Decides-rising rows (suc k) = Decides-like (is_rising_at rows (suc k))
    (λ p. λ j before. let same : j ≡ k = omega arith in rw same p) (λ p. p k (omega arith))
    (Decides-above (row_at rows (suc k)) (row_at rows k))

row-iff : (rows : List Row) (k : ℕ) → (row_refusal rows k ≡ None) ↔ IsGoodRow rows k
row-iff rows k = (
  λ e.
      let first = passed (is_within_bounds (row_at rows k)) _ _ e in
      let second = passed (is_rising_at rows k) None (not_rising (k + 1)) first.1 in
      record { bounds = (Decides-bounds (row_at rows k)).0 first.0; rising = (Decides-rising rows k).0 second.0 },
  λ good.
      where-true (is_within_bounds (row_at rows k)) _ _ ((Decides-bounds (row_at rows k)).1 good.bounds)
      ∙ where-true (is_rising_at rows k) _ _ ((Decides-rising rows k).1 good.rising),
)

rows-good : (rows : List Row) (n : ℕ) → rows_refusal rows n ≡ None → (k : ℕ) → k < n → IsGoodRow rows k
rows-good rows zero e = λ k below. absurd (omega arith)
rows-good rows (suc n) e =
    let parts = neither_there (rows_refusal rows n) (row_refusal rows n) e in
    λ k below. below_more (IsGoodRow rows) n (rows-good rows n parts.0) ((row-iff rows n).0 parts.1) k (omega arith)

rows-free : (rows : List Row) (n : ℕ) → ((k : ℕ) → k < n → IsGoodRow rows k) → rows_refusal rows n ≡ None
rows-free rows zero good = refl
rows-free rows (suc n) good =
    ap (λ found. option_or found (row_refusal rows n)) (rows-free rows n (λ k below. good k (omega arith)))
    ∙ (row-iff rows n).1 (good n (omega arith))

pub table_iff : (rows : List Row) → (table_refusal rows ≡ None) ↔ IsTable rows
table_iff rows = (
  λ e.
      let first = spared (nat_lt (length rows) 2) _ _ e in
      let second = spared (nat_lt 200 (length rows)) (rows_refusal rows (length rows)) _ first.1 in
      record { some = grind (arith, nat_tests); few = grind (arith, nat_tests); good = rows-good rows (length rows) second.1 },
  λ table.
      let some = table.some in
      let few = table.few in
      unless (nat_lt (length rows) 2) _ _ (grind (arith, nat_tests))
      ∙ unless (nat_lt 200 (length rows)) _ _ (grind (arith, nat_tests))
      ∙ rows-free rows (length rows) table.good,
)

-- what is wrong with the first rows is wrong with all
found-first : (rows : List Row) (m n : ℕ) (refusal : TableRefusal) → m ≤ n → rows_refusal rows m ≡ Some refusal → rows_refusal rows n ≡ Some refusal
found-first rows m zero refusal le e = let none : m ≡ zero = omega arith in subst (λ k. rows_refusal rows k ≡ Some refusal) none e
found-first rows m (suc n) refusal le e = elim (cases_eq m (suc n)) [
  | inl same ↦ subst (λ k. rows_refusal rows k ≡ Some refusal) same e
  | inr other ↦ ap (λ found. option_or found (row_refusal rows n)) (found-first rows m n refusal (omega arith) e)
]

-- nothing is wrong with the rows before one, nor with that
pub next-none : (rows : List Row) (k : ℕ) → rows_refusal rows k ≡ None → row_refusal rows k ≡ None → rows_refusal rows (k + 1) ≡ None
next-none rows k before here =
    let next : k + 1 ≡ suc k = omega arith in
    rw next (ap (λ found. option_or found (row_refusal rows k)) before ∙ here)

-- or something is
pub first-here : (rows : List Row) (k : ℕ) (fault : TableFault) → k < length rows → rows_refusal rows k ≡ None
    → Finds rows_refusal_of (Some fault) (row_refusal rows k) → Finds rows_refusal_of (Some fault) (rows_refusal rows (length rows))
first-here rows k fault within before finds =
    let is = found rows_refusal_of fault (row_refusal rows k) finds in
    let same = found-first rows (suc k) (length rows) is.0 (omega arith) (ap (λ first. option_or first (row_refusal rows k)) before ∙ is.2) in
    (same ∙ sym is.1, rw same refl)

-- 2 to 200 rows of which none is found to be bad are a table
pub found-table : (rows : List Row) (result : Option TableFault) → 2 ≤ length rows → length rows ≤ 200
    → Finds rows_refusal_of result (rows_refusal rows (length rows)) → result ≡ None → IsTable rows
found-table rows None some few finds none = record { some = some; few = few; good = rows-good rows (length rows) finds }
found-table rows (Some fault) some few finds none = absurd cc
