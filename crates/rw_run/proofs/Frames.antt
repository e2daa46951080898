-- Two logs that hold alike what a timestep's events look at go alike through it.
use Rattle.rw_base.proofs.Common.{◌≡◌, ℕ, ◌-◌, ℤ, pos, ◌-ℤ◌, Bool, true, false, not, ◌&&◌, ◌||◌, cond, List, [], ◌∷◌, ◌++◌, map, length, Option, Some}
use Rattle.rw_base.proofs.Common.{None, nat_lt, nat_le, refl, sym, ap, ap₂, subst, ◌∙◌, arith, is_some, if◌then◌else◌, option_and_then, option_map}
use Rattle.rw_base.proofs.Common.{unwrap_or, option_or, cons_option, filter, filter_map, find, same_Some, none-some}
use Rattle.rw_base.specs.declared.number.Cell.{Cell}
use Rattle.rw_base.proofs.Lists.{option_or_joined}
use Rattle.rw_model.specs.declared.content.Content.{Content}
use Rattle.rw_model.proofs.Common.{before_of, Draft, Object, object_at, end_of_put}
use Rattle.rw_method.specs.declared.solved.Solved.{Solved}
use Rattle.rw_method.specs.declared.solved.Solved.TheVariants.{Idle, Puts, Conflict, OutOfRange}
use Rattle.rw_method.specs.Solve.{solve_of}
use Rattle.rw_firing.specs.Fire.{Fire}
use Rattle.rw_firing.specs.declared.fire.FireEnd.{FireEnd}
use Rattle.rw_firing.specs.declared.fire.FireEnd.TheVariants.{Done, Unknown, ZeroDivisor as DividesByZero, OutOfRange as EndsOutside}
use Rattle.rw_firing.specs.declared.look.Look.{Look}
use Rattle.rw_run.specs.declared.fault.RunFault.TheVariants.{ObjectLimit, RuleLimit}
use Rattle.rw_run.specs.Log.{Asked, Cells, Log, Event, Firing, opened, idle, solved, fired, fault, cells_of, firing_in, is_opened, last_put}
use Rattle.rw_run.specs.Log.{written_by, value_in}
use Rattle.rw_model.specs.Turn.{is_data}
use Rattle.rw_run.specs.Waiting.{waiting, since, wakes, ends_wait, numbers, first_of}
use Rattle.rw_run.specs.Dispatch.{Past, bounds_in_place, places, cell_in, past_of, cell_of_past, cell_at, past_cell_of, value_of_past, view_of}
use Rattle.rw_run.specs.Dispatch.{if_cell, looked_cells, looks_at, solved_by, asked_by, end_in, is_written, puts_written, denied_by, or_fault, judged}
use Rattle.rw_run.specs.Dispatch.{dispatch_of, answered, dispatched}
use Rattle.rw_run.specs.Next.{Policy, next, next_of, after_objects, asked_next, firing_of, ended, agenda_of, count, dispatches, firings}
use Rattle.rw_run.specs.Next.{is_dispatch_of, is_firing_of, last_looks, newest_firing, since_opening, is_changed, is_same_value, first_due}
use Rattle.rw_run.specs.Next.{is_put_again, last_ones, asked_of_rule}
use Rattle.rw_run.specs.Frame.{IsFault, cells_looked, cells_asked, cells_of_event, looked_in, AreAlike, FollowInStep, IsFramed}
use Rattle.rw_run.proofs.Lists.{filter-same}
use Rattle.rw_run.proofs.Waits.{waiting-more, opens}

-- ---- what looks back to the opening alone is the same over both logs

pub same_since : (events : Log) (step : ℕ) (x y : Log) → since_opening (events ++ opened step ∷ x) ≡ since_opening (events ++ opened step ∷ y)
same_since [] step x y = refl
same_since (event ∷ events) step x y = ap (λ later. if is_opened event then [] else event ∷ later) (same_since events step x y)

some_if : (w : Bool) (m n : ℕ) → is_some (if w then Some m else None) ≡ is_some (if w then Some n else None)
some_if true m n = refl
some_if false m n = refl

some_same : (ends wakes_it : Bool) (s u : Option ℕ) (m n : ℕ) → is_some s ≡ is_some u
    → is_some (option_or (if ends then None else s) (if wakes_it then Some m else None))
    ≡ is_some (option_or (if ends then None else u) (if wakes_it then Some n else None))
some_same true w s u m n e = some_if w m n
some_same false w None None m n e = some_if w m n
some_same false w (Some p) (Some q) m n e = refl
some_same false w None (Some q) m n e = absurd (grind (arith, e))
some_same false w (Some p) None m n e = absurd (grind (arith, e))

waits_same : (basin : Draft) (events : Log) (step : ℕ) (x y : Log) (object : ℕ)
    → is_some (since basin (events ++ opened step ∷ x) object) ≡ is_some (since basin (events ++ opened step ∷ y) object)
waits_same basin [] step x y object = some_same true (not (is_data basin object)) None None (length x) (length y) refl
waits_same basin (event ∷ events) step x y object =
    some_same (ends_wait event object) (wakes basin event object) _ _ (length (events ++ opened step ∷ x)) (length (events ++ opened step ∷ y))
    (waits_same basin events step x y object)

waiting_same : (basin : Draft) (events : Log) (step : ℕ) (x y : Log)
    → waiting basin (events ++ opened step ∷ x) ≡ waiting basin (events ++ opened step ∷ y)
waiting_same basin [] step x y = opens basin x step ∙ sym (opens basin y step)
waiting_same basin (event ∷ events) step x y =
    waiting-more basin event (events ++ opened step ∷ x)
    ∙ ap₂ (λ xs ys. filter (λ a. not (ends_wait event a)) xs ++ ys) (waiting_same basin events step x y)
    (filter-same _ _ (numbers (length basin.objects))
    (λ a. ap (λ z. wakes basin event a && (ends_wait event a || not z)) (waits_same basin events step x y a)))
    ∙ sym (waiting-more basin event (events ++ opened step ∷ y))

-- ---- cells that are alike before the timestep are alike in it

held_over : (basin : Draft) (events x : Log) (cell : Cell)
    → cells_of basin (events ++ x) cell ≡ option_or (cells_of basin events cell) (cells_of basin x cell)
held_over basin [] x cell = refl
held_over basin (event ∷ events) x cell =
    ap (λ z. option_or (last_put basin (written_by event) cell) z) (held_over basin events x cell)
    ∙ sym (option_or_joined (last_put basin (written_by event) cell) _ _)

pub alike_over : (basin : Draft) (events : Log) (step : ℕ) (x y : Log) (cells : List Cell) → AreAlike (cells_of basin x) (cells_of basin y) cells
    → AreAlike (cells_of basin (events ++ opened step ∷ x)) (cells_of basin (events ++ opened step ∷ y)) cells
alike_over basin events step x y [] a = tt
alike_over basin events step x y (cell ∷ cells) a = (
  held_over basin events (opened step ∷ x) cell ∙ ap (option_or (cells_of basin events cell)) a.0
      ∙ sym (held_over basin events (opened step ∷ y) cell),
  alike_over basin events step x y cells a.1,
)

pub alike_left : {A : Type 0} (f g : Cell → A) (xs ys : List Cell) → AreAlike f g (xs ++ ys) → AreAlike f g xs
alike_left f g [] ys a = tt
alike_left f g (x ∷ xs) ys a = (a.0, alike_left f g xs ys a.1)

pub alike_right : {A : Type 0} (f g : Cell → A) (xs ys : List Cell) → AreAlike f g (xs ++ ys) → AreAlike f g ys
alike_right f g [] ys a = a
alike_right f g (x ∷ xs) ys a = alike_right f g xs ys a.1

pub alike_both : {A : Type 0} (f g : Cell → A) (xs ys : List Cell) → AreAlike f g xs → AreAlike f g ys → AreAlike f g (xs ++ ys)
alike_both f g [] ys a b = b
alike_both f g (x ∷ xs) ys a b = (a.0, alike_both f g xs ys a.1 b)

pub alike_values : (f g : Cells) (cells : List Cell) → AreAlike f g cells → AreAlike (value_in f) (value_in g) cells
alike_values f g [] a = tt
alike_values f g (cell ∷ cells) a = (ap (option_map (λ (content : Content). content.value)) a.0, alike_values f g cells a.1)

map_same : {A B : Type 0} (f g : Cell → A) (k : Cell → A → B) (cells : List Cell) → AreAlike f g cells
    → map (λ c. k c (f c)) cells ≡ map (λ c. k c (g c)) cells
map_same f g k [] a = refl
map_same f g k (cell ∷ cells) a = ap₂ (λ z zs. k cell z ∷ zs) a.0 (map_same f g k cells a.1)

-- ---- which rule is due

changed_same : (f g : Cells) (looks : List Look) → AreAlike f g (cells_looked looks) → is_changed f (Some looks) ≡ is_changed g (Some looks)
changed_same f g [] a = refl
changed_same f g (look ∷ looks) a =
    ap₂ (λ z w. not (is_same_value look.seen (option_map (λ (content : Content). content.value) z)) || w) a.0 (changed_same f g looks a.1)

abbrev looks_of : Option Firing → Option (List Look)
looks_of = option_map (λ (firing : Firing). firing.looked)

if_changed : (f g : Cells) (test : Bool) (one other : Option Firing) → is_changed f (looks_of other) ≡ is_changed g (looks_of other)
    → is_changed f (looks_of one) ≡ is_changed g (looks_of one)
    → is_changed f (looks_of (if test then one else other)) ≡ is_changed g (looks_of (if test then one else other))
if_changed f g true one other u v = v
if_changed f g false one other u v = u

if_since : (test : Bool) (event : Event) (events : Log) (f g : Cells) → AreAlike f g (cells_of_event event ++ looked_in events)
    → AreAlike f g (looked_in events) → AreAlike f g (looked_in (if test then [] else event ∷ events))
if_since true event events f g all rest = tt
if_since false event events f g all rest = all

-- where looks are those of a firing, they are among those of its event
fired_same : (f g : Cells) (event : Event) → AreAlike f g (cells_of_event event)
    → is_changed f (looks_of (firing_in event)) ≡ is_changed g (looks_of (firing_in event))
fired_same f g (fired firing) a = changed_same f g firing.looked (alike_left f g _ (cells_asked firing.asked) a)
fired_same f g event a = refl

newest_same : (f g : Cells) (rule : ℕ) (events : Log) → AreAlike f g (looked_in events)
    → is_changed f (looks_of (newest_firing rule events)) ≡ is_changed g (looks_of (newest_firing rule events))
newest_same f g rule [] a = refl
newest_same f g rule (event ∷ events) a =
    if_changed f g (is_firing_of rule event) (firing_in event) (newest_firing rule events)
    (newest_same f g rule events (alike_right f g (cells_of_event event) (looked_in events) a))
    (fired_same f g event (alike_left f g (cells_of_event event) (looked_in events) a))

since_looked : (f g : Cells) (events : Log) (step : ℕ) (x : Log) → AreAlike f g (looked_in events)
    → AreAlike f g (looked_in (since_opening (events ++ opened step ∷ x)))
since_looked f g [] step x a = tt
since_looked f g (event ∷ events) step x a =
    let later = since_looked f g events step x (alike_right f g (cells_of_event event) (looked_in events) a) in
    if_since (is_opened event) event (since_opening (events ++ opened step ∷ x)) f g
    (alike_both f g (cells_of_event event) (looked_in (since_opening (events ++ opened step ∷ x)))
    (alike_left f g (cells_of_event event) (looked_in events) a) later) later

-- the looks of the last firing are among those of the timestep
due_same : (f g : Cells) (events : Log) (step : ℕ) (x : Log) (rule : ℕ) → AreAlike f g (looked_in events)
    → is_changed f (last_looks (events ++ opened step ∷ x) rule) ≡ is_changed g (last_looks (events ++ opened step ∷ x) rule)
due_same f g events step x rule a =
    newest_same f g rule (since_opening (events ++ opened step ∷ x)) (since_looked f g events step x a)

find_same : (f g : ℕ → Bool) (xs : List ℕ) → ((x : ℕ) → f x ≡ g x) → find f xs ≡ find g xs
find_same f g [] h = refl
find_same f g (x ∷ xs) h = rw (h x) (ap (λ z. cond (g x) (Some x) z) (find_same f g xs h))

first_due_same : (basin : Draft) (policy : Policy) (f g : Cells) (events : Log) (step : ℕ) (x y : Log) → AreAlike f g (looked_in events)
    → first_due basin policy f (events ++ opened step ∷ x) ≡ first_due basin policy g (events ++ opened step ∷ y)
first_due_same basin policy f g events step x y a =
    find_same _ _ (agenda_of basin.control.agenda policy.rules)
    (λ r. due_same f g events step x r a ∙ ap (λ later. is_changed g (looks_of (newest_firing r later))) (same_since events step x y))

-- ---- a dispatch

-- puts at cells that are alike are judged alike
judged_same : (f g : Cells) (object : ℕ) (puts : List Asked) (rest : Event) → AreAlike f g (cells_asked puts)
    → judged f object puts rest ≡ judged g object puts rest
judged_same f g object [] rest a = refl
judged_same f g object (put ∷ puts) rest a =
    ap₂ (λ z w. or_fault (denied_by (end_of_put z put.content) put) object put w) a.0 (judged_same f g object puts rest a.1)

written_same : (f g : Cells) (puts : List Asked) → AreAlike f g (cells_asked puts) → puts_written f puts ≡ puts_written g puts
written_same f g [] a = refl
written_same f g (put ∷ puts) a = ap₂ (λ z w. cond (is_written (end_of_put z put.content)) (put ∷ w) w) a.0 (written_same f g puts a.1)

-- where none is denied, the event is that of all puts
rest_if_fine : (values : Option (ℤ × ℤ)) (object : ℕ) (put : Asked) (rest final : Event) → (¬ IsFault rest → rest ≡ final)
    → ¬ IsFault (or_fault values object put rest) → or_fault values object put rest ≡ final
rest_if_fine None object put rest final h fine = h fine
rest_if_fine (Some values) object put rest final h fine = absurd (fine tt)

final_if_fine : (f : Cells) (object : ℕ) (puts : List Asked) (final : Event) → ¬ IsFault (judged f object puts final)
    → judged f object puts final ≡ final
final_if_fine f object [] final fine = refl
final_if_fine f object (put ∷ puts) final fine =
    rest_if_fine (denied_by (end_in f put) put) object put (judged f object puts final) final (final_if_fine f object puts final) fine

looks_at_same : (f g : Cells) (cells : List Cell) → AreAlike f g cells → looks_at f cells ≡ looks_at g cells
looks_at_same f g cells a = map_same f g (λ c z. record { cell = c; seen = option_map (λ (content : Content). content.value) z }) cells a

pub cells_of_looks : (f : Cells) (cells : List Cell) → cells_looked (looks_at f cells) ≡ cells
cells_of_looks f [] = refl
cells_of_looks f (cell ∷ cells) = ap (λ z. cell ∷ z) (cells_of_looks f cells)

-- the event of an answer, over cells that are alike where it looked and put
answered_same : (basin : Draft) (f g : Cells) (cells : List Cell) (object step : ℕ) (answer : Solved)
    → AreAlike f g (cells_of_event (answered basin f (looks_at f cells) object step answer))
    → ¬ IsFault (answered basin f (looks_at f cells) object step answer)
    → AreAlike f g cells × (answered basin f (looks_at f cells) object step answer ≡ answered basin g (looks_at g cells) object step answer)
answered_same basin f g cells object step Idle a fine =
    let l : AreAlike f g cells = subst (AreAlike f g) (cells_of_looks f cells) (alike_left f g (cells_looked (looks_at f cells)) [] a) in
    (l, ap (idle object step) (looks_at_same f g cells l))
answered_same basin f g cells object step (Conflict place held solves) a fine = absurd (fine tt)
answered_same basin f g cells object step (OutOfRange place value) a fine = absurd (fine tt)
answered_same basin f g cells object step (Puts puts) a fine =
    let asked : List Asked = map (asked_by basin object step) puts in
    let all : AreAlike f g (cells_looked (looks_at f cells) ++ cells_asked asked) =
    subst (λ e. AreAlike f g (cells_of_event e)) (final_if_fine f object asked (dispatch_of f (looks_at f cells) object step asked) fine) a in
    let l : AreAlike f g cells = subst (AreAlike f g) (cells_of_looks f cells) (alike_left f g _ (cells_asked asked) all) in
    let q : AreAlike f g (cells_asked asked) = alike_right f g (cells_looked (looks_at f cells)) _ all in (
      l,
      ap₂ (λ z w. judged f object asked (solved (record { object = object; step = step; looked = z; asked = asked; written = w })))
          (looks_at_same f g cells l) (written_same f g asked q)
          ∙ judged_same f g object asked (dispatch_of g (looks_at g cells) object step asked) q,
    )

seen_first : (f g : Cells) (found : Option Cell) (rest : List Cell) → AreAlike f g (cons_option found rest)
    → (option_and_then f found ≡ option_and_then g found) × AreAlike f g rest
seen_first f g None rest a = (refl, a)
seen_first f g (Some cell) rest a = a

seen_same : (f g : Cells) (at : ℕ → Option Cell) (xs : List ℕ) → AreAlike f g (filter_map at xs)
    → map (λ x. option_and_then f (at x)) xs ≡ map (λ x. option_and_then g (at x)) xs
seen_same f g at [] a = refl
seen_same f g at (x ∷ xs) a =
    let first = seen_first f g (at x) (filter_map at xs) a in ap₂ (λ z zs. z ∷ zs) first.0 (seen_same f g at xs first.1)

if_past : (f g : Cells) (test : Bool) (cell : Cell) (before : Option ℤ) → AreAlike f g (if_cell (if test then Some cell else None))
    → (if test then value_in f cell else before) ≡ (if test then value_in g cell else before)
if_past f g true cell before a = ap (option_map (λ (content : Content). content.value)) a.0
if_past f g false cell before a = refl

past_same : (basin : Draft) (f g : Cells) (step : ℕ) (found : Option Past) → AreAlike f g (if_cell (option_and_then (cell_of_past step) found))
    → option_and_then (value_of_past basin f step) found ≡ option_and_then (value_of_past basin g step) found
past_same basin f g step None a = refl
past_same basin f g step (Some past) a =
    if_past f g (nat_lt past.ago step) (cell_at past.slot (step - past.ago)) (before_of basin.objects past.slot (pos step -ℤ pos past.ago)) a

-- the view is made of the cells at which a dispatch looks
view_same : (basin : Draft) (f g : Cells) (object step : ℕ) → AreAlike f g (looked_cells basin object step)
    → view_of basin f object step ≡ view_of basin g object step
view_same basin f g object step a =
    let own : List Cell = filter_map (cell_in basin object step) places in
    ap₂ (λ now past. record { own = record { 0 = object }; now = now; past = past; bounds = map (bounds_in_place basin object) places })
    (seen_same f g (cell_in basin object step) places (alike_left f g own (if_cell (past_cell_of basin object step)) a))
    (past_same basin f g step (past_of basin object) (alike_right f g own (if_cell (past_cell_of basin object step)) a))

dispatched_same : (basin : Draft) (f g : Cells) (object step : ℕ) → AreAlike f g (cells_of_event (dispatched basin f object step))
    → ¬ IsFault (dispatched basin f object step)
    → dispatched basin f object step ≡ dispatched basin g object step
dispatched_same basin f g object step a fine =
    let cells : List Cell = looked_cells basin object step in
    let h = answered_same basin f g cells object step (solved_by basin f object step) a fine in
    h.1
    ∙ ap (λ view. answered basin g (looks_at g cells) object step
    (unwrap_or (option_map (λ (found : Object). solve_of found.kind view) (object_at basin.objects object)) Idle))
    (view_same basin f g object step h.0)

-- ---- a firing

if_alike : (f g : Cells) (test : Bool) (put : Asked) (rest : List Asked) → f put.cell ≡ g put.cell → AreAlike f g (cells_asked rest)
    → AreAlike f g (cells_asked (if test then rest else put ∷ rest))
if_alike f g true put rest h k = k
if_alike f g false put rest h k = (h, k)

last_alike : (basin : Draft) (f g : Cells) (puts : List Asked) → AreAlike f g (cells_asked puts) → AreAlike f g (cells_asked (last_ones basin puts))
last_alike basin f g [] a = tt
last_alike basin f g (put ∷ puts) a =
    if_alike f g (is_put_again basin put puts) put (last_ones basin puts) a.0 (last_alike basin f g puts a.1)

ended_same : (basin : Draft) (f g : Cells) (rule step : ℕ) (fire : Fire) (end : FireEnd)
    → AreAlike f g (cells_of_event (ended basin f rule step fire end))
    → ¬ IsFault (ended basin f rule step fire end)
    → AreAlike f g fire.looked × (ended basin f rule step fire end ≡ ended basin g rule step fire end)
ended_same basin f g rule step fire DividesByZero a fine = absurd (fine tt)
ended_same basin f g rule step fire (EndsOutside value) a fine = absurd (fine tt)
ended_same basin f g rule step fire Unknown a fine =
    let l : AreAlike f g fire.looked =
    subst (AreAlike f g) (cells_of_looks f fire.looked) (alike_left f g (cells_looked (looks_at f fire.looked)) [] a) in (
      l,
      ap (λ z. fired (record { rule = rule; step = step; is_done = false; looked = z; asked = []; written = []; count = fire.count }))
          (looks_at_same f g fire.looked l),
    )
ended_same basin f g rule step fire Done a fine =
    let puts : List Asked = asked_of_rule basin rule step fire.puts in
    let l : AreAlike f g fire.looked =
    subst (AreAlike f g) (cells_of_looks f fire.looked) (alike_left f g (cells_looked (looks_at f fire.looked)) (cells_asked puts) a) in
    let asked : AreAlike f g (cells_asked puts) = alike_right f g (cells_looked (looks_at f fire.looked)) (cells_asked puts) a in (
      l,
      ap₂ (λ z w. fired (record { rule = rule; step = step; is_done = true; looked = z; asked = puts; written = w; count = fire.count }))
          (looks_at_same f g fire.looked l) (written_same f g (last_ones basin puts) (last_alike basin f g puts asked)),
    )

firing_same : (basin : Draft) (policy : Policy) (f g : Cells) (rule step : ℕ) (found : Option Fire) (event : Event) → IsFramed policy
    → policy.fire rule step (value_in f) ≡ found → option_map (λ (fire : Fire). ended basin f rule step fire fire.end) found ≡ Some event
    → AreAlike f g (cells_of_event event) → ¬ IsFault event → firing_of basin policy g rule step ≡ Some event
firing_same basin policy f g rule step None event framed by is a fine = absurd (none-some _ is)
firing_same basin policy f g rule step (Some fire) event framed by is a fine =
    let same : event ≡ ended basin f rule step fire fire.end = sym (same_Some _ _ is) in
    let h = ended_same basin f g rule step fire fire.end (subst (λ e. AreAlike f g (cells_of_event e)) same a) (subst (λ e. ¬ IsFault e) same fine) in
    ap (option_map (λ (z : Fire). ended basin g rule step z z.end))
    (framed rule step (value_in f) (value_in g) fire by (alike_values f g fire.looked h.0))
    ∙ ap Some (sym h.1 ∙ sym same)

-- ---- what follows

-- below the limit, or the same fault
either_same : (f g : Cells) (test : Bool) (limit d e : Event) → (AreAlike f g (cells_of_event d) → ¬ IsFault d → d ≡ e)
    → AreAlike f g (cells_of_event (if test then limit else d)) → ¬ IsFault (if test then limit else d)
    → (if test then limit else d) ≡ (if test then limit else e)
either_same f g true limit d e h a fine = refl
either_same f g false limit d e h a fine = h a fine

either_follows : (test : Bool) (limit event : Event) (d e : Option Event) → (d ≡ Some event → e ≡ Some event)
    → (if test then Some limit else d) ≡ Some event → (if test then Some limit else e) ≡ Some event
either_follows true limit event d e h is = is
either_follows false limit event d e h is = h is

after_same : (basin : Draft) (policy : Policy) (f g : Cells) (x y : Log) (step : ℕ) (due : Option ℕ) (event : Event) → IsFramed policy
    → ((rule : ℕ) → firings x rule ≡ firings y rule) → after_objects basin policy f x step due ≡ Some event
    → AreAlike f g (cells_of_event event) → ¬ IsFault event → after_objects basin policy g y step due ≡ Some event
after_same basin policy f g x y step None event framed count is a fine = is
after_same basin policy f g x y step (Some rule) event framed count is a fine =
    ap (λ k. if nat_le basin.control.rule_limit k then Some (fault (RuleLimit (record { 0 = rule }) (record { 0 = step }) k)) else firing_of basin
    policy g rule step)
    (sym (count rule))
    ∙ either_follows (nat_le basin.control.rule_limit (firings x rule))
    (fault (RuleLimit (record { 0 = rule }) (record { 0 = step }) (firings x rule))) event
    (firing_of basin policy f rule step) (firing_of basin policy g rule step)
    (λ fires. firing_same basin policy f g rule step (policy.fire rule step (value_in f)) event framed refl fires a fine) is

asked_same : (basin : Draft) (f g : Cells) (x y : Log) (step object : ℕ) → dispatches x object ≡ dispatches y object
    → AreAlike f g (cells_of_event (asked_next basin f x step object)) → ¬ IsFault (asked_next basin f x step object)
    → asked_next basin f x step object ≡ asked_next basin g y step object
asked_same basin f g x y step object count a fine =
    either_same f g (nat_le basin.control.object_limit (dispatches x object))
    (fault (ObjectLimit (record { 0 = object }) (record { 0 = step }) (dispatches x object))) _ _
    (dispatched_same basin f g object step) a fine
    ∙ ap (λ k. if nat_le basin.control.object_limit k then fault (ObjectLimit (record { 0 = object }) (record { 0 = step }) k) else dispatched basin g
    object step) count

next_of_same : (basin : Draft) (policy : Policy) (f g : Cells) (x y : Log) (step : ℕ) (waits : Option ℕ) (event : Event) → IsFramed policy
    → ((object : ℕ) → dispatches x object ≡ dispatches y object) → ((rule : ℕ) → firings x rule ≡ firings y rule)
    → first_due basin policy f x ≡ first_due basin policy g y → next_of basin policy f x step waits ≡ Some event
    → AreAlike f g (cells_of_event event) → ¬ IsFault event → next_of basin policy g y step waits ≡ Some event
next_of_same basin policy f g x y step None event framed count fires due is a fine =
    ap (after_objects basin policy g y step) (sym due)
    ∙ after_same basin policy f g x y step (first_due basin policy f x) event framed fires is a fine
next_of_same basin policy f g x y step (Some object) event framed count fires due is a fine =
    let same : event ≡ asked_next basin f x step object = sym (same_Some _ _ is) in
    ap Some
    (sym (asked_same basin f g x y step object (count object) (subst (λ e. AreAlike f g (cells_of_event e)) same a)
    (subst (λ e. ¬ IsFault e) same fine)) ∙ sym same)

going : (basin : Draft) (policy : Policy) (step : ℕ) (x y : Log) → IsFramed policy → (done : Log) (events : List Event)
    → FollowInStep basin policy step (done ++ opened step ∷ x) events → AreAlike (cells_of basin x) (cells_of basin y) (looked_in done)
    → AreAlike (cells_of basin x) (cells_of basin y) (looked_in events) → FollowInStep basin policy step (done ++ opened step ∷ y) events
going basin policy step x y framed done [] goes a c = tt
going basin policy step x y framed done (event ∷ events) goes a c =
    let u : Log = done ++ opened step ∷ x in
    let v : Log = done ++ opened step ∷ y in
    let own = alike_left (cells_of basin x) (cells_of basin y) (cells_of_event event) (looked_in events) c in
    let later = alike_right (cells_of basin x) (cells_of basin y) (cells_of_event event) (looked_in events) c in
    let same : next basin policy step v ≡ Some event =
    ap (λ q. next_of basin policy (cells_of basin v) v step (first_of q)) (sym (waiting_same basin done step x y))
    ∙ next_of_same basin policy (cells_of basin u) (cells_of basin v) u v step (first_of (waiting basin u)) event framed
    (λ o. ap (count (is_dispatch_of o)) (same_since done step x y))
    (λ r. ap (count (is_firing_of r)) (same_since done step x y))
    (first_due_same basin policy (cells_of basin u) (cells_of basin v) done step x y (alike_over basin done step x y (looked_in done) a))
    goes.0 (alike_over basin done step x y (cells_of_event event) own) goes.1 in (
      same,
      goes.1,
      going basin policy step x y framed (event ∷ done) events goes.2
          (alike_both (cells_of basin x) (cells_of basin y) (cells_of_event event) (looked_in done) own a) later,
    )

pub frame : (basin : Draft) (policy : Policy) (step : ℕ) (x y : Log) (events : List Event) → IsFramed policy
    → FollowInStep basin policy step (opened step ∷ x) events → AreAlike (cells_of basin x) (cells_of basin y) (looked_in events)
    → FollowInStep basin policy step (opened step ∷ y) events
frame basin policy step x y events framed goes a = going basin policy step x y framed [] events goes tt a
