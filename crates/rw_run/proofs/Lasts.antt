-- What a cell holds after puts, and what follows the end of a timestep.
use Rattle.rw_base.proofs.Common.{◌≡◌, ◌<◌, ◌≤◌, ◌+◌, ℕ, ℤ, List, [], ◌∷◌, ◌++◌, Some, None, nat_lt, ap, true, false, arith, IsTrue, IsFalse}
use Rattle.rw_base.proofs.Common.{if◌then◌else◌, option_or, nat_tests}
use Rattle.rw_base.specs.declared.number.Cell.{Cell}
use Rattle.rw_model.specs.Draft.{Draft}
use Rattle.rw_series.specs.Series.{is_shared}
use Rattle.rw_run.specs.Log.{Asked, Event, placed, opened, closed, Log, cells_of, input_content, last_put, written_by}
use Rattle.rw_run.specs.Next.{Policy}
use Rattle.rw_run.specs.Runs.{follows}

pub given_held : (basin : Draft) (log : Log) (cell other : Cell) (value : ℤ) → IsTrue (is_shared basin cell other)
    → cells_of basin (placed cell value ∷ log) other ≡ Some (input_content value)
given_held basin log cell other value shared =
    ap (λ test. option_or (if test then Some (input_content value) else None) (cells_of basin log other)) shared

pub last_held : (basin : Draft) (puts : List Asked) (put : Asked) (cell : Cell) → IsTrue (is_shared basin put.cell cell)
    → last_put basin (puts ++ put ∷ []) cell ≡ Some put.content
last_held basin [] put cell shared = ap (λ test. if test then Some put.content else None) shared
last_held basin (first ∷ puts) put cell shared =
    ap (λ found. option_or found (if is_shared basin first.cell cell then Some first.content else None)) (last_held basin puts put cell shared)

pub earlier_held : (basin : Draft) (puts : List Asked) (put : Asked) (cell : Cell) → IsFalse (is_shared basin put.cell cell)
    → last_put basin (puts ++ put ∷ []) cell ≡ last_put basin puts cell
earlier_held basin [] put cell apart = ap (λ test. if test then Some put.content else None) apart
earlier_held basin (first ∷ puts) put cell apart =
    ap (λ found. option_or found (if is_shared basin first.cell cell then Some first.content else None)) (earlier_held basin puts put cell apart)

pub still_held : (basin : Draft) (log : Log) (event : Event) (cell : Cell) → written_by event ≡ []
    → cells_of basin (event ∷ log) cell ≡ cells_of basin log cell
still_held basin log event cell none = ap (λ puts. option_or (last_put basin puts cell) (cells_of basin log cell)) none

pub opens_first : (basin : Draft) (policy : Policy) (log : Log) (cell : Cell) (value : ℤ) → 1 ≤ basin.control.stamps.count
    → follows basin policy (placed cell value ∷ log) ≡ Some (opened 1)
opens_first basin policy log cell value some =
    let more_left : nat_lt 0 basin.control.stamps.count ≡ true =
    grind (arith, nat_tests) in ap (λ test. if test then Some (opened 1) else None) more_left

pub opens_next : (basin : Draft) (policy : Policy) (log : Log) (step : ℕ) → step < basin.control.stamps.count
    → follows basin policy (closed step ∷ log) ≡ Some (opened (step + 1))
opens_next basin policy log step more =
    let more_left : nat_lt step basin.control.stamps.count ≡ true =
    grind (arith, nat_tests) in ap (λ test. if test then Some (opened (step + 1)) else None) more_left

pub opens_none : (basin : Draft) (policy : Policy) (log : Log) (step : ℕ) → basin.control.stamps.count ≤ step
    → follows basin policy (closed step ∷ log) ≡ None
opens_none basin policy log step last =
    let more_left : nat_lt step basin.control.stamps.count ≡ false =
    grind (arith, nat_tests) in ap (λ test. if test then Some (opened (step + 1)) else None) more_left
