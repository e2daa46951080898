-- The lines of a timestep, what they say to be written, and its record.
use Rattle.rw_engine.proofs.Common.{All, Asked, Cell, Cells, Draft, Engine, Event, List, Log, None, Option, Some, [], ap, append-nil, arith, cells_of}
use Rattle.rw_engine.proofs.Common.{closed, fault, placed, last_put, length, line_of, lines, map, opened, option_or, refl, subst, suc, sym, take}
use Rattle.rw_engine.proofs.Common.{written_by, zero, ℕ, ◌++◌, ◌+◌, ◌∙◌, ◌∷◌, ◌≡◌}
use Rattle.std.specs.Prelude.{Err, IfErr, IfOk, IfSome, MatchOption, Ok, Result, option_and_then, slice_get, ◌⊎◌, ◌<◌}
use Rattle.std.specs.List.{cons_option, flat_map}
use Rattle.std.proofs.lemmas.Grind.{flat_map-append}
use Rattle.rw_base.proofs.Common.{All-append, All-cons, All-head, All-nil, All-tail, inl, inr}
use Rattle.rw_base.proofs.Lists.{option_or_joined}
use Rattle.rw_dispatch.specs.Writes.{AreWrites, CanWrite}
use Rattle.rw_run.specs.Frame.{IsStepFrom, log_after}
use Rattle.rw_run.specs.Log.{fired, idle, solved}
use Rattle.rw_run.specs.Reuse.{most_kept}
use Rattle.rw_run.specs.Runs.{inside, standing}
use Rattle.rw_run.specs.Step.{cell_count, reached_by}
use Rattle.rw_run.specs.Trace.{lines_in, write_of}
use Rattle.rw_run.specs.declared.trace.TraceEvent.{TraceEvent}
use Rattle.rw_run.specs.declared.trace.TraceEvent.TheVariants.{Opened, Idle, Solve, Fire, Written, Closed, Fault}
use Rattle.rw_record.specs.Noted.{noted_in}
use Rattle.rw_record.specs.Record.{IsLarge, IsRecordOf, StepRecord}
use Rattle.rw_record.proofs.Counting.{looked, recorded}
use Rattle.rw_engine.specs.Records.{CanWriteAll, CanWriteLine, CanWriteLines, HasNoted, IsTooLarge, RecordsOrNot, lines_of_step, puts_in}
use Rattle.rw_engine.specs.Records.{puts_of_line}

-- ---- lists, place by place

pub take_one : {A : Type 0} (xs : List A) (k : ℕ) → take k xs ++ cons_option (slice_get xs k) [] ≡ take (suc k) xs
take_one [] zero = refl
take_one [] (suc k) = refl
take_one (x ∷ xs) zero = refl
take_one (x ∷ xs) (suc k) = ap (λ rest. x ∷ rest) (take_one xs k)

pub all_get : {A : Type 0} (P : A → Type 0) (xs : List A) (k : ℕ) → All P xs → IfSome (slice_get xs k) P
all_get P [] k all = tt
all_get P (x ∷ xs) zero all = All-head P x xs all
all_get P (x ∷ xs) (suc k) all = all_get P xs k (All-tail P x xs all)

-- ---- what lines say to be written

nothing_else : {A : Type 0} (x : Option A) → x ≡ option_or x None
nothing_else None = refl
nothing_else (Some y) = refl

pub put_after : (basin : Draft) (puts more : List Asked) (cell : Cell)
    → last_put basin (puts ++ more) cell ≡ option_or (last_put basin more cell) (last_put basin puts cell)
put_after basin [] more cell = nothing_else (last_put basin more cell)
put_after basin (put ∷ puts) more cell =
    ap (λ z. option_or z (last_put basin (put ∷ []) cell)) (put_after basin puts more cell)
    ∙ option_or_joined (last_put basin more cell) (last_put basin puts cell) (last_put basin (put ∷ []) cell)

-- puts and then more, made one after the other
pub puts_on : (basin : Draft) (puts more : List Asked) (cell : Cell) (before : Cells)
    → option_or (last_put basin more cell) (option_or (last_put basin puts cell) (before cell))
    ≡ option_or (last_put basin (puts ++ more) cell) (before cell)
puts_on basin puts more cell before =
    sym (option_or_joined (last_put basin more cell) (last_put basin puts cell) (before cell))
    ∙ ap (λ z. option_or z (before cell)) (sym (put_after basin puts more cell))

-- what a line says to be written, if there is one that does
pub puts_of_write : (line : Option TraceEvent) → cons_option (option_and_then write_of line) [] ≡ puts_in (cons_option line [])
puts_of_write None = refl
puts_of_write (Some (Written slot step content)) = refl
puts_of_write (Some line) = refl

puts_of_lines : (puts : List Asked) → puts_in (map line_of puts) ≡ puts
puts_of_lines [] = refl
puts_of_lines (put ∷ puts) = ap (λ rest. put ∷ rest) (puts_of_lines puts)

-- the lines of an event that is no input say what it writes
puts_of_event : (event : Event) (step : ℕ) (log : Log) → (standing (event ∷ []) ≡ inside step) ⊎ (event ≡ closed step)
    → puts_in (lines event) ≡ written_by event
puts_of_event (placed cell value) step log (inl is) = absurd (cc)
puts_of_event (placed cell value) step log (inr is) = absurd (cc)
puts_of_event (opened other) step log is = refl
puts_of_event (closed other) step log is = refl
puts_of_event (idle object other looked) step log is = refl
puts_of_event (solved dispatch) step log is = puts_of_lines dispatch.written
puts_of_event (fired firing) step log is = puts_of_lines firing.written
puts_of_event (fault why) step log is = refl

held_on : (basin : Draft) (event : Event) (rest : List TraceEvent) (log : Log) (cell : Cell) → puts_in (lines event) ≡ written_by event
    → option_or (last_put basin (puts_in (lines event ++ rest)) cell) (cells_of basin log cell)
    ≡ option_or (last_put basin (puts_in rest) cell) (cells_of basin (event ∷ log) cell)
held_on basin event rest log cell is =
    ap (λ puts. option_or (last_put basin puts cell) (cells_of basin log cell))
    (flat_map-append puts_of_line (lines event) rest ∙ ap (λ puts. puts ++ puts_in rest) is)
    ∙ sym (puts_on basin (written_by event) (puts_in rest) cell (cells_of basin log))

-- what the lines of a timestep's events leave in the cells
pub held_again : (basin : Draft) (step : ℕ) (first : Event) (events : List Event) (log : Log) (cell : Cell) → IsStepFrom step first events
    → option_or (last_put basin (puts_in (flat_map lines (first ∷ events))) cell) (cells_of basin log cell)
    ≡ cells_of basin (log_after (first ∷ events) log) cell
held_again basin step first [] log cell goes = held_on basin first [] log cell (puts_of_event first step log (inr goes))
held_again basin step first (next ∷ events) log cell goes =
    held_on basin first (flat_map lines (next ∷ events)) log cell (puts_of_event first step log (inl goes.0))
    ∙ held_again basin step next events (first ∷ log) cell goes.1

-- ---- what may be written

pub can_line : (basin : Draft) (line : Option TraceEvent) → IfSome line (CanWriteLine basin) → AreWrites basin (puts_in (cons_option line []))
can_line basin None can = All-nil (CanWrite basin)
can_line basin (Some line) can = subst (AreWrites basin) (sym (append-nil (puts_of_line line))) can

can_lines : (basin : Draft) (puts : List Asked) → AreWrites basin puts → CanWriteLines basin (map line_of puts)
can_lines basin [] all = All-nil (CanWriteLine basin)
can_lines basin (put ∷ puts) all =
    All-cons (CanWriteLine basin) (line_of put) (map line_of puts)
    (All-cons (CanWrite basin) put [] (All-head (CanWrite basin) put puts all) (All-nil (CanWrite basin)))
    (can_lines basin puts (All-tail (CanWrite basin) put puts all))

-- a line that says nothing to be written, and those of puts
can_told : (basin : Draft) (line : TraceEvent) (puts : List Asked) → CanWriteLine basin line → AreWrites basin puts
    → CanWriteLines basin (line ∷ map line_of puts)
can_told basin line puts can all = All-cons (CanWriteLine basin) line (map line_of puts) can (can_lines basin puts all)

can_event : (basin : Draft) (event : Event) → AreWrites basin (written_by event) → CanWriteLines basin (lines event)
can_event basin (placed cell value) can = All-nil (CanWriteLine basin)
can_event basin (solved dispatch) can = can_told basin (Solve (record { 0 = dispatch.object })) dispatch.written (All-nil (CanWrite basin)) can
can_event basin (fired firing) can =
    can_told basin (Fire (record { 0 = firing.rule }) firing.is_done firing.count) firing.written (All-nil (CanWrite basin)) can
can_event basin (opened step) can = can_told basin (Opened (record { 0 = step })) [] (All-nil (CanWrite basin)) can
can_event basin (closed step) can = can_told basin (Closed (record { 0 = step })) [] (All-nil (CanWrite basin)) can
can_event basin (idle object step looked) can = can_told basin (Idle (record { 0 = object })) [] (All-nil (CanWrite basin)) can
can_event basin (fault why) can = can_told basin (Fault why) [] (All-nil (CanWrite basin)) can

can_events : (basin : Draft) (events : List Event) → CanWriteAll basin events → CanWriteLines basin (flat_map lines events)
can_events basin [] all = All-nil (CanWriteLine basin)
can_events basin (event ∷ events) all =
    All-append (CanWriteLine basin) (lines event) (flat_map lines events)
    (can_event basin event (All-head (λ (e : Event). AreWrites basin (written_by e)) event events all))
    (can_events basin events (All-tail (λ (e : Event). AreWrites basin (written_by e)) event events all))

pub can_step : (basin : Draft) (step : ℕ) (events : List Event) → CanWriteAll basin events → CanWriteLines basin (lines_of_step step events)
can_step basin step events all =
    All-cons (CanWriteLine basin) (Opened (record { 0 = step })) (flat_map lines events) (All-nil (CanWrite basin)) (can_events basin events all)

-- ---- the record of what is noted

pub record_or_not : (basin : Draft) (step : ℕ) (old : Log) (events : List Event) (engine : Engine) (kept : Option StepRecord)
    → HasNoted basin step old events engine → engine.closed ≡ step
    → MatchOption kept (IsLarge (noted_in engine.noted) (lines_in engine.lines))
    (IsRecordOf engine.closed (noted_in engine.noted) (lines_in engine.lines)) → RecordsOrNot basin step old events kept
record_or_not basin step old events engine kept has is result = by kept result
  where
    many : length (noted_in engine.noted) ≡ cell_count (flat_map (reached_by basin) events)
    many = ap (λ noted. length (noted_in noted)) has.cells_are ∙ looked basin (cells_of basin old) events has.cells has.once has.looked

    told_lines : lines_in engine.lines ≡ lines_of_step step events
    told_lines = ap lines_in has.lines_are

    large : IsLarge (noted_in engine.noted) (lines_in engine.lines) → IsTooLarge basin step events
    large (inl cells) = inl (subst (λ n. most_kept < n) many cells)
    large (inr lines) = inr (subst (λ told. most_kept < length told) told_lines lines)

    small : {one : StepRecord} → IsRecordOf engine.closed (noted_in engine.noted) (lines_in engine.lines) one → IsTooLarge basin step events → ⊥
    small result (inl cells) = let few = result.few_cells in omega (arith, few, cells, many)
    small result (inr lines) = let few = result.few_lines in let long = ap length told_lines in omega (arith, few, lines, long)

    by : (k : Option StepRecord) → MatchOption k (IsLarge (noted_in engine.noted) (lines_in engine.lines))
        (IsRecordOf engine.closed (noted_in engine.noted) (lines_in engine.lines)) → RecordsOrNot basin step old events k
    by None result = large result
    by (Some one) result = (
      small result,
      record {
        step_is = result.step_is ∙ is;
        looked = recorded basin (cells_of basin old) events engine.closed has.cells (lines_in engine.lines) one has.looked
            (subst (λ noted. IsRecordOf engine.closed (noted_in noted) (lines_in engine.lines) one) has.cells_are result);
        rising = result.rising;
        lines_are = result.lines_are ∙ told_lines;
        can = subst (CanWriteLines basin) (sym (result.lines_are ∙ told_lines)) has.can;
      },
    )

-- what is so of a result, as another thing
-- a timestep that is noted has a line, that of its opening
pub told_some : (step : ℕ) (events : List Event) (noted : Option (List TraceEvent)) → noted ≡ Some (lines_of_step step events)
    → length (lines_in noted) ≡ 0 → ⊥
told_some step events noted is none =
    let some : length (lines_of_step step events) ≡ 0 = sym (ap (λ told. length (lines_in told)) is) ∙ none in
    let one : length (lines_of_step step events) ≡ suc (length (flat_map lines events)) = refl in omega (arith, some, one)

-- and one of which no line is noted has none
pub untold_none : (noted : Option (List TraceEvent)) → IfSome noted (λ told. told ≡ []) → length (lines_in noted) ≡ 0
untold_none None none = refl
untold_none (Some told) none = ap length none

pub if_ok : {A E : Type 0} {P Q : A → Type 0} (result : Result A E) → ((a : A) → P a → Q a) → IfOk result P → IfOk result Q
if_ok (Ok a) leads holds = leads a holds
if_ok (Err why) leads holds = tt

pub any_ok : {A E P : Type 0} (result : Result A E) → P → IfOk result (λ a. P)
any_ok (Ok a) holds = holds
any_ok (Err why) holds = tt

pub any_err : {A E P : Type 0} (result : Result A E) → P → IfErr result (λ why. P)
any_err (Ok a) holds = tt
any_err (Err why) holds = holds
