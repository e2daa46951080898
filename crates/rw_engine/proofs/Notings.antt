-- Noting at what an event looks, and what is known of that.
use Rattle.rw_engine.proofs.Common.{RunFault, State, ended_by, Asked, Bool, Cell, Cells, Draft, Event, IsSome, List, None, Option, Some, []}
use Rattle.rw_engine.proofs.Common.{ap, arith, cell_at, false, length, filter_map, held_after, option_map}
use Rattle.rw_engine.proofs.Common.{refl, subst, sym, true, written_by, ℕ, ℤ, ◌++◌, ◌+◌, ◌∙◌, ◌∷◌, ◌≡◌}
use Rattle.std.specs.Prelude.{Contains, if◌then◌else◌, Err, IfSome, IsErrAnd, Ok, Result, cond, is_some, ◌⊎◌}
use Rattle.std.specs.List.{filter}
use Rattle.std.proofs.lemmas.List.Elements.{Contains-append_cases, Contains-append_right}
use Rattle.rw_base.proofs.Common.{inl, inr}
use Rattle.rw_base.specs.declared.memory.NoMemory.{NoMemory}
use Rattle.rw_run.proofs.Frames.{cells_of_looks}
use Rattle.rw_dispatch.proofs.Asking.{looks_told}
use Rattle.rw_method.specs.declared.solved.Solved.{Solved}
use Rattle.rw_method.specs.declared.solved.Solved.TheVariants.{Idle, Puts, Conflict, OutOfRange}
use Rattle.rw_firing.specs.Fire.{Fire}
use Rattle.rw_firing.specs.declared.fire.FireEnd.{FireEnd}
use Rattle.rw_firing.specs.declared.fire.FireEnd.TheVariants.{Done, Unknown, ZeroDivisor as DividesByZero, OutOfRange as EndsOutside}
use Rattle.rw_firing.specs.declared.look.Look.{Look}
use Rattle.rw_run.specs.Dispatch.{answered, asked_for, denied_by, dispatch_of, dispatched, end_in, is_written, judged, looked_cells}
use Rattle.rw_run.specs.Dispatch.{looks_at, looks_of, or_fault, solved_by}
use Rattle.rw_run.specs.Next.{asked_of_rule, ended, is_put_again, last_ones}
use Rattle.rw_run.specs.Frame.{IsFault, cells_looked}
use Rattle.std.specs.Option.{option_or}
use Rattle.rw_run.specs.Log.{asked_in, fault, idle, last_put, looks_in}
use Rattle.rw_run.specs.Step.{cells_reached, cells_with, reached_by}
use Rattle.rw_run.specs.declared.held.Held.{Held}
use Rattle.rw_record.specs.Noted.{AddsNotes, noted_after, noted_in, with_noted}
use Rattle.rw_record.specs.Notes.{CanTakeBack, Notes}
use Rattle.rw_record.proofs.Cells.{first_of, first_or, reached_at}
use Rattle.rw_record.proofs.Noting.{among, joined_notes}
use Rattle.rw_record.proofs.Taking.{all_put, fresh, more_noted, one_more, opened}
use Rattle.rw_engine.specs.Noting.{NotesAll, NotesSome}
use Rattle.rw_engine.specs.State.{WritesAsked, cleared}

-- ---- cells that are noted one after another

pub with_none : (cells : Cells) (old : Option (List Held)) → with_noted cells [] old ≡ old
with_none cells None = refl
with_none cells (Some noted) = refl

pub kept_noted : (cells : Cells) (more : List Cell) (old : Option (List Held)) → is_some (with_noted cells more old) ≡ is_some old
kept_noted cells more None = refl
kept_noted cells more (Some noted) = refl

pub some_noted : (cells : Cells) (old new : Option (List Held)) → NotesSome cells old new → is_some new ≡ is_some old
some_noted cells old new some = ap is_some some.1 ∙ kept_noted cells some.0 old

pub adds_all : (cells : Cells) (all : List Cell) (old new : Option (List Held)) (result : Result (Unit {0}) NoMemory)
    → AddsNotes cells all old new result → NotesAll cells all old new result
adds_all cells all old new (Ok done) adds = adds
adds_all cells all old new (Err want) adds = (adds.0, (adds.1.first, adds.1.noted))

-- of a call that comes behind what is noted already
pub notes_on : (cells : Cells) (first next : List Cell) (old mid new : Option (List Held)) (result : Result (Unit {0}) NoMemory)
    → mid ≡ with_noted cells first old
    → NotesAll cells next mid new result → NotesAll cells (first ++ next) old new result
notes_on cells first next old mid new (Ok done) is all = all ∙ ap (with_noted cells next) is ∙ joined_notes cells first next old
notes_on cells first next old mid new (Err want) is all = (
  sym (kept_noted cells first old) ∙ ap is_some (sym is) ∙ all.0,
  (first ++ all.1.0, all.1.1 ∙ ap (with_noted cells all.1.0) is ∙ joined_notes cells first all.1.0 old),
)

-- memory wants for some of them
pub notes_stop : (cells : Cells) (first next all : List Cell) (old mid new : Option (List Held)) (want why : NoMemory)
    (result : Result (Unit {0}) NoMemory)
    → IsErrAnd result (λ one. one ≡ why) → mid ≡ with_noted cells first old → NotesAll cells next mid new (Err want)
    → NotesAll cells all old new result
notes_stop cells first next all old mid new want why (Ok done) fails is wants = absurd fails
notes_stop cells first next all old mid new want why (Err other) fails is wants = notes_on cells first next old mid new (Err want) is wants

-- where nothing is kept, nothing is noted
pub none_kept : (cells : Cells) (all : List Cell) (old : Option (List Held)) → is_some old ≡ false → old ≡ with_noted cells all old
none_kept cells all None none = refl
none_kept cells all (Some noted) none = absurd (cc)

-- cells that are the same where any are noted
pub notes_same : (cells : Cells) (reached all : List Cell) (old new : Option (List Held)) → new ≡ with_noted cells reached old
    → (IsSome old → reached ≡ all) → new ≡ with_noted cells all old
notes_same cells reached all old new is same = is ∙ by old same
  where
    by : (noted : Option (List Held)) → (IsSome noted → reached ≡ all) → with_noted cells reached noted ≡ with_noted cells all noted
    by None same = refl
    by (Some noted) same = ap (λ these. with_noted cells these (Some noted)) (same refl)

pub ended_noted : (why : Option RunFault) (state : State) → (ended_by why state).noted ≡ state.noted
ended_noted None state = refl
ended_noted (Some why) state = refl

pub ended_lines : (why : Option RunFault) (state : State) → (ended_by why state).lines ≡ state.lines
ended_lines None state = refl
ended_lines (Some why) state = refl

-- ---- what is written was asked for

later_or : {A : Type 0} (y : A) (ys : List A) (x : A) → (y ≡ x) ⊎ Contains ys x → Contains (y ∷ ys) x
later_or y ys x (inl here) = subst (Contains (y ∷ ys)) here (first_of y ys)
later_or y ys x (inr there) = Contains-append_right (y ∷ []) ys x there

some_of : {A : Type 0} (y : A) (ys zs : List A) (x : A) (here : Bool) → (Contains zs x → Contains ys x) → Contains (cond here (y ∷ zs) zs) x
    → Contains (y ∷ ys) x
some_of y ys zs x true rest has = by (first_or y zs x has)
  where
    by : (y ≡ x) ⊎ Contains zs x → Contains (y ∷ ys) x
    by (inl here) = later_or y ys x (inl here)
    by (inr there) = later_or y ys x (inr (rest there))
some_of y ys zs x false rest has = later_or y ys x (inr (rest has))

pub filter_in : {A : Type 0} (test : A → Bool) (xs : List A) (x : A) → Contains (filter test xs) x → Contains xs x
filter_in test [] x has = has
filter_in test (y ∷ ys) x has = some_of y ys (filter test ys) x (test y) (filter_in test ys x) has

reached_within : (basin : Draft) (puts all : List Asked) → ((put : Asked) → Contains puts put → Contains all put) → (cell : Cell)
    → Contains (cells_reached basin puts) cell
    → Contains (cells_reached basin all) cell
reached_within basin [] all each cell has = absurd (omega (arith, has.1))
reached_within basin (put ∷ puts) all each cell has =
    by (reached_within basin puts all (λ it near. each it (Contains-append_right (put ∷ []) puts it near)) cell)
    (Contains-append_cases (cells_with basin put.cell) (cells_reached basin puts) cell has)
  where
    by : (Contains (cells_reached basin puts) cell → Contains (cells_reached basin all) cell)
        → Contains (cells_with basin put.cell) cell ⊎ Contains (cells_reached basin puts) cell → Contains (cells_reached basin all) cell
    by others (inl here) = reached_at basin all put cell (each put (first_of put puts)) here
    by others (inr there) = others there

-- what an event writes is reached, whatever was noted of a fault
pub written_reached : (basin : Draft) (event : Event) (reached : List Cell) → ((¬ IsFault event) → reached ≡ reached_by basin event)
    → WritesAsked event
    → (cell : Cell) → Contains (cells_reached basin (written_by event)) cell → Contains reached cell
written_reached basin (fault why) reached is asks cell has = absurd (omega (arith, has.1))
written_reached basin event reached is asks cell has =
    subst (λ cells. Contains cells cell) (sym (is (λ faulty. faulty)))
    (Contains-append_right (cells_looked (looks_in event)) (cells_reached basin (asked_in event)) cell
    (reached_within basin (written_by event) (asked_in event) asks cell has))

-- ---- what can be taken back

pub revocable_noted : (before now : Cells) (old new : Option (List Held)) → NotesSome now old new → IfSome old (CanTakeBack before now)
    → IfSome new (CanTakeBack before now)
revocable_noted before now old new some can = subst (λ noted. IfSome noted (CanTakeBack before now)) (sym some.1) (by old can)
  where
    by : (noted : Option (List Held)) → IfSome noted (CanTakeBack before now) → IfSome (with_noted now some.0 noted) (CanTakeBack before now)
    by None can = tt
    by (Some noted) can = more_noted before now noted some.0 can

-- puts are made all of whose cells are noted
pub revocable_made : (basin : Draft) (before now after : Cells) (puts : List Asked) (reached : List Cell) (old new : Option (List Held))
    → new ≡ with_noted now reached old
    → (IsSome old → (cell : Cell) → Contains (cells_reached basin puts) cell → Contains reached cell)
    → ((cell : Cell) → after cell ≡ option_or (last_put basin puts cell) (now cell))
    → IfSome old (CanTakeBack before now) → IfSome new (CanTakeBack before after)
revocable_made basin before now after puts reached old new is all made can =
    subst (λ noted. IfSome noted (CanTakeBack before after)) (sym is) (by old all can)
  where
    by : (noted : Option (List Held)) → (IsSome noted → (cell : Cell) → Contains (cells_reached basin puts) cell → Contains reached cell)
        → IfSome noted (CanTakeBack before now) → IfSome (with_noted now reached noted) (CanTakeBack before after)
    by None all can = tt
    by (Some noted) all can =
        let put = all_put basin before now (noted_after now noted reached) puts (more_noted before now noted reached can)
        (λ cell near. (among now noted reached cell).1 (inr (all refl cell near))) in
        record { held = put.held; same = λ cell none. made cell ∙ put.same cell none }

pub revocable_first : (before now : Cells) (noted : Option (List Held)) → IfSome noted (λ none. none ≡ []) → ((cell : Cell) → now cell ≡ before cell)
    → IfSome noted (CanTakeBack before now)
revocable_first before now None none same = tt
revocable_first before now (Some noted) none same = rw none (record { held = (fresh before).held; same = λ cell other. same cell })

-- ---- what is noted of a timestep

pub notes_first : (basin : Draft) (before now : Cells) (noted : Option (List Held)) → IfSome noted (λ none. none ≡ [])
    → ((cell : Cell) → now cell ≡ before cell)
    → IfSome noted (Notes basin before now [])
notes_first basin before now None none same = tt
notes_first basin before now (Some noted) none same =
    let first = opened basin before in rw none (record { looked = first.looked; once = first.once; same = λ cell other. same cell })

pub notes_more : (basin : Draft) (before now after : Cells) (events : List Event) (event : Event) (old new : Option (List Held))
    → new ≡ with_noted now (reached_by basin event) old → WritesAsked event → ((cell : Cell) → after cell ≡ held_after basin event now cell)
    → IfSome old (Notes basin before now events) → IfSome new (Notes basin before after (events ++ event ∷ []))
notes_more basin before now after events event old new is asks made notes =
    subst (λ noted. IfSome noted (Notes basin before after (events ++ event ∷ []))) (sym is) (by old notes)
  where
    by : (noted : Option (List Held)) → IfSome noted (Notes basin before now events)
        → IfSome (with_noted now (reached_by basin event) noted) (Notes basin before after (events ++ event ∷ []))
    by None notes = tt
    by (Some noted) notes =
        let more = one_more basin before now events noted event notes asks in
        record { looked = more.looked; once = more.once; same = λ cell none. made cell ∙ more.same cell none }

-- a list that is cleared
abbrev none_of : List Held → List Held
none_of noted = []

pub cleared_some : (noted : Option (List Held)) → is_some (option_map none_of noted) ≡ is_some noted
cleared_some None = refl
cleared_some (Some noted) = refl

pub cleared_is : (noted : Option (List Held)) → option_map none_of noted ≡ cleared noted
cleared_is None = refl
cleared_is (Some noted) = refl

pub cleared_none : (noted : Option (List Held)) → IfSome (option_map none_of noted) (λ (none : List Held). none ≡ [])
cleared_none None = tt
cleared_none (Some noted) = refl

pub in_some : (noted : Option (List Held)) (P : List Held → Type 0) → IsSome noted → IfSome noted P → P (noted_in noted)
in_some None P kept holds = absurd (cc)
in_some (Some noted) P kept holds = holds

-- ---- what a dispatch and a firing write they asked for

pub none_written : (event : Event) → written_by event ≡ [] → WritesAsked event
none_written event none = λ put has. absurd (let empty = ap length none in omega (arith, has.1, empty))

or_asks : (values : Option (ℤ × ℤ)) (object : ℕ) (put : Asked) (rest : Event) → WritesAsked rest → WritesAsked (or_fault values object put rest)
or_asks None object put rest asks = asks
or_asks (Some values) object put rest asks = none_written (or_fault (Some values) object put rest) refl

pub judged_asks : (cells : Cells) (looked : List Look) (object step : ℕ) (all puts : List Asked)
    → WritesAsked (judged cells object puts (dispatch_of cells looked object step all))
judged_asks cells looked object step all [] = λ put has. filter_in (λ (put : Asked). is_written (end_in cells put)) all put has
judged_asks cells looked object step all (first ∷ puts) =
    or_asks (denied_by (end_in cells first) first) object first (judged cells object puts (dispatch_of cells looked object step all))
    (judged_asks cells looked object step all puts)

pub dispatch_asks : (basin : Draft) (cells : Cells) (object step : ℕ) → WritesAsked (dispatched basin cells object step)
dispatch_asks basin cells object step = by (solved_by basin cells object step)
  where
    by : (solved : Solved) → WritesAsked (answered basin cells (looks_of basin cells object step) object step solved)
    by Idle = none_written (idle object step (looks_of basin cells object step)) refl
    by (Puts puts) =
        judged_asks cells (looks_of basin cells object step) object step (asked_for basin object step puts) (asked_for basin object step puts)
    by (Conflict place at solves) = none_written (answered basin cells (looks_of basin cells object step) object step (Conflict place at solves)) refl
    by (OutOfRange place value) = none_written (answered basin cells (looks_of basin cells object step) object step (OutOfRange place value)) refl

last_in : (basin : Draft) (puts : List Asked) (put : Asked) → Contains (last_ones basin puts) put → Contains puts put
last_in basin [] put has = has
last_in basin (first ∷ puts) put has = by (is_put_again basin first puts) (last_in basin puts put) has
  where
    by : (again : Bool) → (Contains (last_ones basin puts) put → Contains puts put)
        → Contains (if again then last_ones basin puts else first ∷ last_ones basin puts) put → Contains (first ∷ puts) put
    by true rest has = later_or first puts put (inr (rest has))
    by false rest has = some_of first puts (last_ones basin puts) put true rest has

pub firing_asks : (basin : Draft) (cells : Cells) (rule step : ℕ) (fire : Fire) (end : FireEnd) → WritesAsked (ended basin cells rule step fire end)
firing_asks basin cells rule step fire Done = λ put has.
    last_in basin (asked_of_rule basin rule step fire.puts) put
    (filter_in (λ (put : Asked). is_written (end_in cells put)) (last_ones basin (asked_of_rule basin rule step fire.puts)) put has)
firing_asks basin cells rule step fire Unknown = none_written (ended basin cells rule step fire Unknown) refl
firing_asks basin cells rule step fire DividesByZero = none_written (ended basin cells rule step fire DividesByZero) refl
firing_asks basin cells rule step fire (EndsOutside value) = none_written (ended basin cells rule step fire (EndsOutside value)) refl

-- ---- what they reach

pub dispatch_reached : (basin : Draft) (cells : Cells) (object step : ℕ) (asked : List Asked)
    → ((¬ IsFault (dispatched basin cells object step)) → asked ≡ asked_in (dispatched basin cells object step))
    → (¬ IsFault (dispatched basin cells object step))
    → looked_cells basin object step ++ cells_reached basin asked ≡ reached_by basin (dispatched basin cells object step)
dispatch_reached basin cells object step asked is calm =
    ap (λ at. at ++ cells_reached basin asked)
    (sym (cells_of_looks cells (looked_cells basin object step))
    ∙ ap cells_looked (sym (looks_told basin cells (looks_of basin cells object step) object step (solved_by basin cells object step) calm)))
    ∙ ap (λ puts. cells_looked (looks_in (dispatched basin cells object step)) ++ cells_reached basin puts) (is calm)

pub firing_reached : (basin : Draft) (cells : Cells) (rule step : ℕ) (fire : Fire) (end : FireEnd) (looked : List Look) (asked : List Asked)
    → looked ≡ looks_at cells fire.looked
    → asked ≡ asked_in (ended basin cells rule step fire end) → (¬ IsFault (ended basin cells rule step fire end))
    → cells_looked looked ++ cells_reached basin asked ≡ reached_by basin (ended basin cells rule step fire end)
firing_reached basin cells rule step fire end looked asked is asks calm =
    ap (λ looks. cells_looked looks ++ cells_reached basin asked) (is ∙ sym (by end calm))
    ∙ ap (λ puts. cells_looked (looks_in (ended basin cells rule step fire end)) ++ cells_reached basin puts) asks
  where
    by : (so : FireEnd) → (¬ IsFault (ended basin cells rule step fire so))
        → looks_in (ended basin cells rule step fire so) ≡ looks_at cells fire.looked
    by Done calm = refl
    by Unknown calm = refl
    by DividesByZero calm = absurd (calm tt)
    by (EndsOutside value) calm = absurd (calm tt)
