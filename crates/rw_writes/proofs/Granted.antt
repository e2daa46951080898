-- What holds of all puts that are asked for holds of those that are written.
use Rattle.rw_base.proofs.Common.{◌≡◌, ℕ, ◌+◌, ◌≤◌, Bool, true, false, nat_le, List, [], ◌∷◌, All, All-cons, All-filter, All-head, All-nil, All-tail}
use Rattle.rw_base.proofs.Common.{arith, cond, if◌then◌else◌, nat_tests, refl}
use Rattle.rw_model.proofs.Common.{Draft}
use Rattle.rw_firing.specs.declared.fire.RulePut.{RulePut}
use Rattle.rw_run.proofs.Common.{Asked, Cells, end_in, is_written}
use Rattle.rw_run.specs.Next.{asked_by_rule, asked_of_rule, is_put_again, last_ones}
use Rattle.rw_run.specs.Policy.{CanAsk}
use Rattle.rw_dispatch.specs.Writes.{AreWrites, CanWrite}
use Rattle.rw_writes.specs.Writes.{written_puts}

-- ---- what a rule asks for

pub one_asked : (basin : Draft) (rule step : ℕ) (put : RulePut) (rest : List Asked) (passes : Bool) → 1 ≤ step → CanAsk basin put
    → nat_le (step + put.ahead) basin.control.stamps.count ≡ passes → AreWrites basin rest
    → AreWrites basin (cond passes (asked_by_rule rule step put ∷ rest) rest)
one_asked basin rule step put rest true first can passes writes =
    All-cons (CanWrite basin) (asked_by_rule rule step put) rest
    (record { cell = record { slot = can.slot; first = omega (arith, first); last = grind (arith, nat_tests, passes) }; within = can.within }) writes
one_asked basin rule step put rest false first can passes writes = writes

all_asked : (basin : Draft) (rule step : ℕ) (puts : List RulePut) → 1 ≤ step → All (CanAsk basin) puts
    → AreWrites basin (asked_of_rule basin rule step puts)
all_asked basin rule step [] first can = All-nil (CanWrite basin)
all_asked basin rule step (put ∷ puts) first can =
    one_asked basin rule step put (asked_of_rule basin rule step puts) (nat_le (step + put.ahead) basin.control.stamps.count) first
    (All-head (CanAsk basin) put puts can) refl (all_asked basin rule step puts first (All-tail (CanAsk basin) put puts can))

pub asks_write : (basin : Draft) (rule step : ℕ) (puts : List RulePut) (writes : List Asked) → writes ≡ asked_of_rule basin rule step puts → 1 ≤ step
    → All (CanAsk basin) puts → AreWrites basin writes
asks_write basin rule step puts writes are first can = rw are (all_asked basin rule step puts first can)

-- ---- what of that is written

last_write : (basin : Draft) (P : Asked → Type 0) (puts : List Asked) → All P puts → All P (last_ones basin puts)
last_write basin P [] all = all
last_write basin P (put ∷ puts) all = by (is_put_again basin put puts) (last_write basin P puts (All-tail P put puts all))
  where
    by : (t : Bool) → All P (last_ones basin puts) → All P (if t then last_ones basin puts else put ∷ last_ones basin puts)
    by true rest = rest
    by false rest = All-cons P put (last_ones basin puts) (All-head P put puts all) rest

pub all_written : (basin : Draft) (cells : Cells) (P : Asked → Type 0) (puts : List Asked) → All P puts → All P (written_puts basin cells puts)
all_written basin cells P puts all =
    All-filter (λ (put : Asked). is_written (end_in cells put)) P (last_ones basin puts) (last_write basin P puts all)
