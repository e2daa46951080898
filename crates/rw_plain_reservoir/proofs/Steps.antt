-- The run of a plain reservoir, event by event.
use Rattle.rw_plain_reservoir.proofs.Common.{Bool, Content, Fault, IsReservoirRun, List, Look, None, ObjectLimit, ObjectOutOfRange, Option, RunEnd}
use Rattle.rw_plain_reservoir.proofs.Common.{Settled, Some, [], ap, arith, below_more, false, find, if◌then◌else◌, inl, inr, length, nat_le, nat_lt}
use Rattle.rw_plain_reservoir.proofs.Common.{nat_tests, option_map, option_or, plain_reservoir, pos, refl, subst, suc, sym, true, zero, ℕ, ℤ, ◌+◌}
use Rattle.rw_plain_reservoir.proofs.Common.{◌-ℤ◌, ◌-◌, ◌<◌, ◌==◌, ◌∙◌, ◌∷◌, ◌≡◌, ◌≢◌, ◌≤◌}
use Rattle.rw_model.specs.declared.control.AgendaOrder.{AgendaOrder}
use Rattle.rw_model.specs.declared.control.AgendaOrder.TheVariants.{HighFirst, LowFirst}
use Rattle.rw_model.proofs.Common.{before_of, IsAmount, bounds_in, from_zero}
use Rattle.rw_run.proofs.Common.{Cells, Event, Log, opened, closed, solved, fault, cells_of, input_content, value_in, first_waiting, first_of}
use Rattle.rw_run.proofs.Common.{cell_at, dispatched, past_value, no_rules, next_of, after_objects, agenda_of, is_due, first_due, Leads, IsOver}
use Rattle.rw_run.proofs.Common.{follows, follows_in, standing, rests, end_of, last_closed, opens, solves}
use Rattle.rw_plain_reservoir.proofs.Alone.{Case, HasValues, basin_of, count_of, inflow_at, outflow_at, storage_of}
use Rattle.rw_plain_reservoir.proofs.Solves.{amount_or_not, dispatches, event_of, is_amount, leaves_range, looked_by, stores_at, storing}
use Rattle.rw_plain_reservoir.proofs.Storages.{next-storage, first-storage}

pub record IsCase (s : Case) : Type 0 where
  pub limit : 16 ≤ s.control.object_limit
  pub usual : bounds_in (plain_reservoir s.name s.initial ∷ []) [] s.bounds 3 ≡ from_zero
  pub inflows : length s.inflows ≡ count_of s
  pub outflows : length s.outflows ≡ count_of s

-- what the cells hold and where the run stands after so many timesteps
pub record Stands (s : Case) (step : ℕ) (log : Log) : Type 0 where
  pub standing : standing log ≡ rests step
  pub end : end_of log ≡ Settled
  pub closed : last_closed log ≡ step
  pub inflow : (t : ℕ) → t < count_of s → cells_of (basin_of s) log (cell_at 1 (t + 1)) ≡ Some (input_content (inflow_at s t))
  pub outflow : (t : ℕ) → t < count_of s → cells_of (basin_of s) log (cell_at 2 (t + 1)) ≡ Some (input_content (outflow_at s t))
  pub stored : (t : ℕ) → t < step → value_in (cells_of (basin_of s) log) (cell_at 3 (t + 1)) ≡ Some (storage_of s (t + 1))
  pub unknown : (t : ℕ) → step ≤ t → t < count_of s → cells_of (basin_of s) log (cell_at 3 (t + 1)) ≡ None
  pub inside : (t : ℕ) → t < step → IsAmount (storage_of s (t + 1))

-- ---- a timestep is opened

opens_next : (s : Case) (step : ℕ) (log : Log) → standing log ≡ rests step → step < count_of s
    → follows (basin_of s) no_rules log ≡ Some (opened (step + 1))
opens_next s step log at lt =
    let more : nat_lt step (count_of s) ≡ true = grind (arith, nat_tests, lt) in
    ap (follows_in (basin_of s) no_rules log) at ∙ ap (λ t. if t then Some (opened (step + 1)) else None) more

-- ---- the reservoir is dispatched

dispatches_next : (s : Case) (step : ℕ) (log : Log) → IsCase s
    → follows (basin_of s) no_rules (opened step ∷ log) ≡ Some (dispatched (basin_of s) (cells_of (basin_of s) log) 1 step)
dispatches_next s step log is =
    let basin = basin_of s in
    let now : Log = opened step ∷ log in
    let first : first_waiting basin now ≡ Some 1 = ap first_of (opens basin log step) in
    let least = is.limit in
    let below : nat_le s.control.object_limit 0 ≡ false = grind (arith, nat_tests, least) in
    ap (next_of basin no_rules (cells_of basin now) now step) first
    ∙ ap (λ t. Some (if t then fault (ObjectLimit (record { 0 = 1 }) (record { 0 = step }) 0) else dispatched basin (cells_of basin now) 1
    step)) below

past_later : (s : Case) (cells : Cells) (step at : ℕ) → nat_lt 1 step ≡ true → step - 1 ≡ at
    → past_value (basin_of s) cells 1 step ≡ value_in cells (cell_at 3 at)
past_later s cells step at later is =
    ap (λ t. if t then value_in cells (cell_at 3 (step - 1)) else before_of (basin_of s).objects 3 (pos step -ℤ pos 1)) later
    ∙ ap (λ m. value_in cells (cell_at 3 m)) is

past_is : (s : Case) (step : ℕ) (log : Log) → Stands s step log
    → past_value (basin_of s) (cells_of (basin_of s) log) 1 (step + 1) ≡ Some (storage_of s step)
past_is s zero log h = ap Some (sym (first-storage s.initial s.inflows s.outflows))
past_is s (suc step) log h =
    let more : suc step ≡ step + 1 = omega arith in
    past_later s (cells_of (basin_of s) log) (suc step + 1) (step + 1) (grind (arith, nat_tests)) (omega arith)
    ∙ h.stored step (omega arith) ∙ ap (λ n. Some (storage_of s n)) (sym more)

-- ---- the timestep is closed

no_agenda : (order : AgendaOrder) → agenda_of order 0 ≡ []
no_agenda HighFirst = refl
no_agenda LowFirst = refl

closes_next : (s : Case) (step : ℕ) (log : Log) (looked : List Look) (z : ℤ)
    → follows (basin_of s) no_rules (solved (stores_at looked step z) ∷ opened step ∷ log) ≡ Some (closed step)
closes_next s step log looked z =
    let basin = basin_of s in
    let event : Event = solved (stores_at looked step z) in
    let now : Log = event ∷ opened step ∷ log in
    let none : first_waiting basin now ≡ None =
    ap first_of (solves basin (opened step ∷ log) (stores_at looked step z) [] [] (opens basin log step)) in
    let undue : first_due basin no_rules (cells_of basin now) now ≡ None = ap (find (is_due (cells_of basin now) now)) (no_agenda s.control.agenda) in
    ap (next_of basin no_rules (cells_of basin now) now step) none
    ∙ ap (after_objects basin no_rules (cells_of basin now) now step) undue

-- the log of a timestep that was closed
abbrev log_after : List Look → ℕ → ℤ → Log → Log
log_after looked step z log = closed step ∷ solved (stores_at looked step z) ∷ opened step ∷ log

-- what it leaves of the storages
storage_after : (s : Case) (looked : List Look) (t step : ℕ) (z : ℤ) (log : Log) (same : Bool) → (t + 1 == step + 1) ≡ same
    → cells_of (basin_of s) (log_after looked (step + 1) z log) (cell_at 3 (t + 1))
    ≡ option_or (if same then Some (storing (step + 1) z).content else None) (cells_of (basin_of s) log (cell_at 3 (t + 1)))
storage_after s looked t step z log same e =
    ap (λ b. option_or (if b then Some (storing (step + 1) z).content else None) (cells_of (basin_of s) log (cell_at 3 (t + 1)))) e

older_storage : (s : Case) (looked : List Look) (t step : ℕ) (z : ℤ) (log : Log) → t ≢ step
    → cells_of (basin_of s) (log_after looked (step + 1) z log) (cell_at 3 (t + 1)) ≡ cells_of (basin_of s) log (cell_at 3 (t + 1))
older_storage s looked t step z log apart = storage_after s looked t step z log false (grind (arith, nat_tests, apart))

newest_storage : (s : Case) (looked : List Look) (step : ℕ) (z : ℤ) (log : Log)
    → value_in (cells_of (basin_of s) (log_after looked (step + 1) z log)) (cell_at 3 (step + 1)) ≡ Some z
newest_storage s looked step z log =
    ap (option_map (λ (content : Content). content.value)) (storage_after s looked step step z log true (grind (arith, nat_tests)))

stands_on : (s : Case) (looked : List Look) (step : ℕ) (log : Log) → Stands s step log → IsAmount (storage_of s (step + 1))
    → Stands s (step + 1) (log_after looked (step + 1) (storage_of s (step + 1)) log)
stands_on s looked step log h fits = record {
  standing = refl;
  end = refl;
  closed = refl;
  inflow = h.inflow;
  outflow = h.outflow;
  stored =
      let new : Log = log_after looked (step + 1) (storage_of s (step + 1)) log in
      below_more (λ t. value_in (cells_of (basin_of s) new) (cell_at 3 (t + 1)) ≡ Some (storage_of s (t + 1))) step
      (λ t lt. ap (option_map (λ (content : Content). content.value))
      (older_storage s looked t step (storage_of s (step + 1)) log (omega (arith, lt))) ∙ h.stored t lt)
      (newest_storage s looked step (storage_of s (step + 1)) log);
  unknown = λ t le lt. older_storage s looked t step (storage_of s (step + 1)) log (omega (arith, le)) ∙ h.unknown t (omega (arith, le)) lt;
  inside = below_more (λ t. IsAmount (storage_of s (t + 1))) step h.inside fits;
}

-- ---- the end

abbrev pub run_end : ℕ → Option ℤ → RunEnd
run_end steps None = Settled
run_end steps (Some value) = Fault (ObjectOutOfRange (record { 0 = 1 }) (record { 0 = 3 }) (record { 0 = steps + 1 }) value)

-- what the run comes to
pub record Ends (s : Case) (log : Log) : Type 0 where
  pub fault : Option ℤ
  pub closed : ℕ
  pub run : IsReservoirRun (count_of s) s.initial s.inflows s.outflows closed fault
  pub end : end_of log ≡ run_end closed fault
  pub last : last_closed log ≡ closed
  pub values : HasValues s (cells_of (basin_of s) log) closed

values_after : (s : Case) (step : ℕ) (log : Log) → Stands s step log → step ≤ count_of s → HasValues s (cells_of (basin_of s) log) step
values_after s step log h le = record {
  inflow = λ t lt. ap (option_map (λ (content : Content). content.value)) (h.inflow t (omega (arith, lt, le)));
  outflow = λ t lt. ap (option_map (λ (content : Content). content.value)) (h.outflow t (omega (arith, lt, le)));
  storage = h.stored;
}

-- after the last timestep it settles
settles : (s : Case) (step : ℕ) (log : Log) → Stands s step log → step ≡ count_of s → Ends s log
settles s step log h all = record {
  fault = None;
  closed = step;
  run = record { inside = h.inside; ends = all };
  end = h.end;
  last = h.closed;
  values = values_after s step log h (omega (arith, all));
}

-- a storage out of range ends it
faults : (s : Case) (step : ℕ) (log : Log) → Stands s step log → step < count_of s → ¬ IsAmount (storage_of s (step + 1))
    → Ends s (leaves_range (step + 1) (storage_of s (step + 1)) ∷ opened (step + 1) ∷ log)
faults s step log h more beyond = record {
  fault = Some (storage_of s (step + 1));
  closed = step;
  run = record { inside = h.inside; ends = (more, refl, beyond) };
  end = refl;
  last = h.closed;
  values = values_after s step log h (omega (arith, more));
}

-- ---- all timesteps

abbrev looked_at : Case → ℕ → Log → List Look
looked_at s step log = looked_by s (cells_of (basin_of s) log) step

moves_next : (s : Case) (step : ℕ) (log : Log) → IsCase s → Stands s step log → step < count_of s
    → follows (basin_of s) no_rules (opened (step + 1) ∷ log)
    ≡ Some (event_of (is_amount (storage_of s (step + 1))) (looked_at s (step + 1) log) (step + 1) (storage_of s (step + 1)))
moves_next s step log is h more =
    let ins = is.inflows in
    let outs = is.outflows in
    let same = next-storage s.initial s.inflows s.outflows step (omega (arith, more, ins)) (omega (arith, more, outs)) in
    dispatches_next s (step + 1) log is
    ∙ ap Some (dispatches s (cells_of (basin_of s) log) (step + 1) (inflow_at s step) (outflow_at s step) (storage_of s step) (record {
      is_inflow = h.inflow step more;
      is_outflow = h.outflow step more;
      is_unknown = h.unknown step (omega arith) more;
      is_past = past_is s step log h;
      usual = is.usual;
    }))
    ∙ ap (λ z. Some (event_of (is_amount z) (looked_at s (step + 1) log) (step + 1) z)) (sym same)

-- the run from a log on
pub record Comes (s : Case) (old : Log) : Type 0 where
  pub events : List Event
  pub log : Log
  pub leads : Leads (basin_of s) no_rules old events log
  pub over : IsOver (basin_of s) (standing log)
  pub ends : Ends s log

pub runs_on : (s : Case) (left step : ℕ) (log : Log) → IsCase s → step + left ≡ count_of s → Stands s step log → Comes s log
runs_on s zero step log is all h = record {
  events = [];
  log = log;
  leads = refl;
  over = subst (IsOver (basin_of s)) (sym h.standing) (omega (arith, all));
  ends = settles s step log h (omega (arith, all));
}
runs_on s (suc left) step log is all h =
    let more : step < count_of s = omega (arith, all) in
    let z : ℤ = storage_of s (step + 1) in
    let looked : List Look = looked_at s (step + 1) log in
    let opening = opens_next s step log h.standing more in
    let moving : ((fit : Bool) → is_amount z ≡ fit
    → follows (basin_of s) no_rules (opened (step + 1) ∷ log) ≡ Some (event_of fit looked (step + 1) z)) =
    λ fit is_fit. moves_next s step log is h more ∙ ap (λ t. Some (event_of t looked (step + 1) z)) is_fit in
    elim (amount_or_not z) [
      | inl fits ↦
          let rest = runs_on s left (step + 1) (log_after looked (step + 1) z log) is (omega (arith, all)) (stands_on s looked step log h fits.0) in
          record {
            events = opened (step + 1) ∷ solved (stores_at looked (step + 1) z) ∷ closed (step + 1) ∷ rest.events;
            log = rest.log;
            leads = (opening, (moving true fits.1, (closes_next s (step + 1) log looked z, rest.leads)));
            over = rest.over;
            ends = rest.ends;
          }
      | inr beyond ↦ record {
        events = opened (step + 1) ∷ leaves_range (step + 1) z ∷ [];
        log = leaves_range (step + 1) z ∷ opened (step + 1) ∷ log;
        leads = (opening, (moving false beyond.1, refl));
        over = tt;
        ends = faults s step log h more beyond.0;
      }
    ]
