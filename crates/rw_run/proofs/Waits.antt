-- How the waiting objects change with one event more.
use Rattle.rw_base.proofs.Common.{◌≡◌, ◌≤◌, ◌<◌, ◌+◌, ◌==◌, ℕ, zero, suc, ℤ, Bool, true, false, not, ◌&&◌, ◌||◌, cond, List, [], ◌∷◌, ◌++◌, length}
use Rattle.rw_base.proofs.Common.{Option, Some, None, nat_lt, refl, sym, ap, ap₂, ◌∙◌, arith, is_some, if◌then◌else◌, option_or, filter, list_any}
use Rattle.rw_base.proofs.Common.{nat_tests, filter-append, same_Some, none-some}
use Rattle.std.proofs.lemmas.List.{append-nil}
use Rattle.rw_base.specs.declared.number.Cell.{Cell}
use Rattle.rw_model.specs.Draft.{Draft}
use Rattle.rw_firing.specs.declared.look.Look.{Look}
use Rattle.rw_run.specs.declared.fault.RunFault.{RunFault}
use Rattle.rw_run.specs.Log.{Asked, Log, Event, Dispatch, Firing, placed, opened, closed, idle, solved, fired, fault, is_number}
use Rattle.rw_run.specs.Times.{times}
use Rattle.rw_model.specs.Turn.{is_data}
use Rattle.rw_run.specs.Waiting.{numbers, ends_wait, wakes, since, is_since, waiting_below, waiting, is_at, is_put_at, is_owner, woken, slots_at}
use Rattle.rw_run.specs.Waiting.{all_waiting}
use Rattle.rw_run.proofs.Lists.{filter-same, filter-filter, times-append, times-filter, times-numbers, without, none-kept, all-kept, filter-within}
use Rattle.rw_run.proofs.Lists.{any-times}

-- ---- the places since which an object waits

-- a place before the newest event
older_place : (ends wakes : Bool) (s : Option ℕ) (n place : ℕ) → place < n
    → is_number place (option_or (if ends then None else s) (if wakes then Some n else None)) ≡ not ends && is_number place s
older_place true true s n place h = grind (arith, nat_tests)
older_place true false s n place h = refl
older_place false true None n place h = grind (arith, nat_tests)
older_place false false None n place h = refl
older_place false w (Some q) n place h = refl

-- the place of the newest event
newest_place : (ends wakes : Bool) (s : Option ℕ) (n : ℕ) → ((q : ℕ) → s ≡ Some q → q < n)
    → is_number n (option_or (if ends then None else s) (if wakes then Some n else None)) ≡ wakes && (ends || not (is_some s))
newest_place true true s n h = grind (arith, nat_tests)
newest_place true false s n h = refl
newest_place false true None n h = grind (arith, nat_tests)
newest_place false false None n h = refl
newest_place false true (Some q) n h = let l : q < n = h q refl in grind (arith, nat_tests)
newest_place false false (Some q) n h = let l : q < n = h q refl in grind (arith, nat_tests)

bounded_place : (ends wakes : Bool) (s : Option ℕ) (n q : ℕ) → ((q : ℕ) → s ≡ Some q → q < n)
    → option_or (if ends then None else s) (if wakes then Some n else None) ≡ Some q → q < suc n
bounded_place true true s n q h e = let f = same_Some _ _ e in omega arith
bounded_place true false s n q h e = absurd (none-some _ e)
bounded_place false true None n q h e = let f = same_Some _ _ e in omega arith
bounded_place false false None n q h e = absurd (none-some _ e)
bounded_place false w (Some r) n q h e = let f = h q e in omega arith

since_before : (basin : Draft) (log : Log) (object q : ℕ) → since basin log object ≡ Some q → q < length log
since_before basin [] object q e = absurd (none-some _ e)
since_before basin (event ∷ log) object q e =
    bounded_place (ends_wait event object) (wakes basin event object) (since basin log object) (length log) q (since_before basin log object) e

-- ---- one event more

older : (basin : Draft) (event : Event) (log : Log) (place : ℕ) → place ≤ length log
    → waiting_below basin (event ∷ log) place ≡ filter (λ a. not (ends_wait event a)) (waiting_below basin log place)
older basin event log zero h = refl
older basin event log (suc place) h =
    let all : List ℕ = numbers (length basin.objects) in
    let newest : filter (is_since basin (event ∷ log) place) all ≡ filter (λ a. not (ends_wait event a)) (filter (is_since basin log place) all) =
    filter-same _ _ all (λ a. older_place (ends_wait event a) (wakes basin event a) (since basin log a) (length log) place (omega arith))
    ∙ filter-filter _ _ all in
    ap₂ (λ xs ys. xs ++ ys) (older basin event log place (omega arith)) newest
    ∙ sym (filter-append (λ a. not (ends_wait event a)) (waiting_below basin log place) (filter (is_since basin log place) all))

-- those whose wait it ends go out, and those whom it wakes come behind, in order of number
pub waiting-more : (basin : Draft) (event : Event) (log : Log)
    → waiting basin (event ∷ log)
    ≡ filter (λ a. not (ends_wait event a)) (waiting basin log)
    ++ filter (λ a. wakes basin event a && (ends_wait event a || not (is_some (since basin log a)))) (numbers (length basin.objects))
waiting-more basin event log =
    ap₂ (λ xs ys. xs ++ ys) (older basin event log (length log) (omega arith))
    (filter-same _ _ (numbers (length basin.objects))
    (λ a. newest_place (ends_wait event a) (wakes basin event a) (since basin log a) (length log) (since_before basin log a)))

-- ---- an object that waits is listed, and once

abbrev is_below : ℕ → Option ℕ → Bool
is_below place None = false
is_below place (Some other) = nat_lt other place

none_below : (s : Option ℕ) (n : ℕ) → 0 ≡ cond (is_below 0 s) n 0
none_below None n = refl
none_below (Some p) n = grind (arith, nat_tests)

more_below : (s : Option ℕ) (n place : ℕ) → cond (is_below place s) n 0 + cond (is_number place s) n 0 ≡ cond (is_below (suc place) s) n 0
more_below None n place = omega arith
more_below (Some p) n place = grind (arith, nat_tests)

times-below : (basin : Draft) (log : Log) (a place : ℕ)
    → times a (waiting_below basin log place) ≡ cond (is_below place (since basin log a)) (times a (numbers (length basin.objects))) 0
times-below basin log a zero = none_below (since basin log a) _
times-below basin log a (suc place) =
    let all : List ℕ = numbers (length basin.objects) in
    times-append a (waiting_below basin log place) (filter (is_since basin log place) all)
    ∙ ap₂ (λ x y. x + y) (times-below basin log a place) (times-filter a (is_since basin log place) all)
    ∙ more_below (since basin log a) _ place

some_below : (s : Option ℕ) (n : ℕ) → ((q : ℕ) → s ≡ Some q → q < n) → is_below n s ≡ is_some s
some_below None n h = refl
some_below (Some q) n h = let l : q < n = h q refl in grind (arith, nat_tests)

pub times-waiting : (basin : Draft) (log : Log) (a : ℕ)
    → times a (waiting basin log) ≡ cond (is_some (since basin log a)) (times a (numbers (length basin.objects))) 0
times-waiting basin log a =
    times-below basin log a (length log)
    ∙ ap (λ t. cond t (times a (numbers (length basin.objects))) 0) (some_below (since basin log a) (length log) (since_before basin log a))

pub once : (a count : ℕ) → times a (numbers count) ≤ 1
once a count = let e = times-numbers a count in grind (arith, nat_tests)

within : (t : Bool) (n : ℕ) → 0 < n → nat_lt 0 (cond t n 0) ≡ t
within true n l = grind (arith, nat_tests)
within false n l = refl

pub is_listed : (basin : Draft) (log : Log) (a : ℕ) → 0 < times a (numbers (length basin.objects))
    → list_any (λ x. a == x) (waiting basin log) ≡ is_some (since basin log a)
is_listed basin log a l =
    any-times a (waiting basin log) ∙ ap (nat_lt 0) (times-waiting basin log a) ∙ within (is_some (since basin log a)) _ l

at_most : (t : Bool) (n m : ℕ) → n ≤ 1 → m ≡ cond t n 0 → m ≤ 1
at_most true n m l e = omega arith
at_most false n m l e = omega arith

pub waiting-once : (basin : Draft) (log : Log) (a : ℕ) → times a (waiting basin log) ≤ 1
waiting-once basin log a =
    at_most (is_some (since basin log a)) _ _ (once a (length basin.objects)) (times-waiting basin log a)

all_but : (o : ℕ) (before after : List ℕ) → times o before ≡ 0 → times o after ≡ 0
    → filter (λ a. not (o == a)) (before ++ o ∷ after) ≡ before ++ after
all_but o before after front back =
    let e : (o == o) ≡ true = grind (arith, nat_tests) in
    filter-append (λ a. not (o == a)) before (o ∷ after)
    ∙ ap₂ (λ xs ys. xs ++ ys) (without o before front) (rw e (without o after back))

pub taken_out : (basin : Draft) (log : Log) (o : ℕ) (before after : List ℕ) → waiting basin log ≡ before ++ o ∷ after
    → filter (λ a. not (o == a)) (waiting basin log) ≡ before ++ after
taken_out basin log o before after e =
    let k : times o (before ++ o ∷ after) ≤ 1 = rw e at (waiting-once basin log o) in
    let parts = times-append o before (o ∷ after) in
    let own : (o == o) ≡ true = grind (arith, nat_tests) in
    let here : times o (o ∷ after) ≡ 1 + times o after = rw own refl in
    rw e (all_but o before after (omega (arith, k, parts, here)) (omega (arith, k, parts, here)))

-- ---- event by event

and_true : (a : Bool) → a && true ≡ a
and_true true = refl
and_true false = refl

pub opens : (basin : Draft) (log : Log) (step : ℕ) → waiting basin (opened step ∷ log) ≡ all_waiting basin
opens basin log step =
    waiting-more basin (opened step) log
    ∙ ap₂ (λ xs ys. xs ++ ys) (none-kept (waiting basin log))
    (filter-same _ _ (numbers (length basin.objects)) (λ a. and_true (not (is_data basin a))))

pub closes : (basin : Draft) (log : Log) (step : ℕ) → waiting basin (closed step ∷ log) ≡ waiting basin log
closes basin log step =
    waiting-more basin (closed step) log
    ∙ ap₂ (λ xs ys. xs ++ ys) (all-kept (waiting basin log)) (none-kept (numbers (length basin.objects)))
    ∙ append-nil (waiting basin log)

pub gives : (basin : Draft) (log : Log) (cell : Cell) (value : ℤ) → waiting basin (placed cell value ∷ log) ≡ waiting basin log
gives basin log cell value =
    waiting-more basin (placed cell value) log
    ∙ ap₂ (λ xs ys. xs ++ ys) (all-kept (waiting basin log)) (none-kept (numbers (length basin.objects)))
    ∙ append-nil (waiting basin log)

pub faults : (basin : Draft) (log : Log) (why : RunFault) → waiting basin (fault why ∷ log) ≡ waiting basin log
faults basin log why =
    waiting-more basin (fault why) log
    ∙ ap₂ (λ xs ys. xs ++ ys) (all-kept (waiting basin log)) (none-kept (numbers (length basin.objects)))
    ∙ append-nil (waiting basin log)

pub idles : (basin : Draft) (log : Log) (o step : ℕ) (looked : List Look) (before after : List ℕ) → waiting basin log ≡ before ++ o ∷ after
    → waiting basin (idle o step looked ∷ log) ≡ before ++ after
idles basin log o step looked before after e =
    waiting-more basin (idle o step looked) log
    ∙ ap₂ (λ xs ys. xs ++ ys) (taken_out basin log o before after e) (none-kept (numbers (length basin.objects)))
    ∙ append-nil (before ++ after)

owners_step : (basin : Draft) (o slot : ℕ) (x v : Bool) (slots : List ℕ) → is_owner basin slots o ≡ v
    → is_owner basin (if x then slot ∷ slots else slots) o ≡ (x && is_at basin o slot) || v
owners_step basin o slot true v slots h = ap (λ w. is_at basin o slot || w) h
owners_step basin o slot false v slots h = h

-- an object owns a slot that the puts of a timestep reach where one of them is at a slot of it
owners : (basin : Draft) (o step : ℕ) (puts : List Asked) → is_owner basin (slots_at step puts) o ≡ is_put_at basin o step puts
owners basin o step [] = refl
owners basin o step (put ∷ puts) =
    owners_step basin o put.cell.slot.0 (put.cell.step.0 == step) _ (slots_at step puts) (owners basin o step puts)

same_but : (d e r p : Bool) → not d && (not e && (not r && p)) ≡ (not d && (not e && p)) && (e || not (e || r))
same_but true e r p = refl
same_but false true r p = refl
same_but false false true true = refl
same_but false false true false = refl
same_but false false false p = sym (and_true p)

same_all : (d s p : Bool) → not d && (not s && p) ≡ (not d && p) && not s
same_all true s p = refl
same_all false true true = refl
same_all false true false = refl
same_all false false p = sym (and_true p)

turned : (a o : ℕ) → (a == o) ≡ (o == a)
turned a o = grind (arith, nat_tests)

-- an element in the middle may as well stand first
any_middle : (p : ℕ → Bool) (before : List ℕ) (o : ℕ) (after : List ℕ) → list_any p (before ++ o ∷ after) ≡ p o || list_any p (before ++ after)
any_middle p [] o after = refl
any_middle p (x ∷ before) o after = ap (λ t. p x || t) (any_middle p before o after) ∙ swapped (p x) (p o) (list_any p (before ++ after))
  where
    swapped : (a b c : Bool) → a || (b || c) ≡ b || (a || c)
    swapped true true c = refl
    swapped true false c = refl
    swapped false b c = refl

pub solves : (basin : Draft) (log : Log) (d : Dispatch) (before after : List ℕ) → waiting basin log ≡ before ++ d.object ∷ after
    → waiting basin (solved d ∷ log) ≡ (before ++ after) ++ woken basin (Some d.object) (before ++ after) (slots_at d.step d.written)
solves basin log d before after e =
    waiting-more basin (solved d) log
    ∙ ap₂ (λ xs ys. xs ++ ys) (taken_out basin log d.object before after e) (filter-within _ _ (numbers (length basin.objects)) at)
  where
    at : (a : ℕ) → 0 < times a (numbers (length basin.objects))
        → (not (is_data basin a) && (not (d.object == a) && is_put_at basin a d.step d.written))
        && ((d.object == a) || not (is_some (since basin log a)))
        ≡ not (is_data basin a) && (not (d.object == a)
        && (not (list_any (λ x. a == x) (before ++ after)) && is_owner basin (slots_at d.step d.written) a))
    at a l =
        let listed : (d.object == a) || list_any (λ x. a == x) (before ++ after) ≡ is_some (since basin log a) =
        ap (λ t. t || list_any (λ x. a == x) (before ++ after)) (sym (turned a d.object)) ∙ sym (any_middle (λ x. a == x) before d.object after)
        ∙ sym (ap (list_any (λ x. a == x)) e) ∙ is_listed basin log a l in
        rw (owners basin a d.step d.written, ← listed)
        (sym (same_but (is_data basin a) (d.object == a) (list_any (λ x. a == x) (before ++ after)) (is_put_at basin a d.step d.written)))

pub fires : (basin : Draft) (log : Log) (f : Firing)
    → waiting basin (fired f ∷ log) ≡ waiting basin log ++ woken basin None (waiting basin log) (slots_at f.step f.written)
fires basin log f =
    waiting-more basin (fired f) log
    ∙ ap₂ (λ xs ys. xs ++ ys) (all-kept (waiting basin log)) (filter-within _ _ (numbers (length basin.objects)) at)
  where
    at : (a : ℕ) → 0 < times a (numbers (length basin.objects))
        → (not (is_data basin a) && is_put_at basin a f.step f.written) && not (is_some (since basin log a))
        ≡ not (is_data basin a) && (not (list_any (λ x. a == x) (waiting basin log)) && is_owner basin (slots_at f.step f.written) a)
    at a l =
        rw (owners basin a f.step f.written, is_listed basin log a l)
        (sym (same_all (is_data basin a) (is_some (since basin log a)) (is_put_at basin a f.step f.written)))
