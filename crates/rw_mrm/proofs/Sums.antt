-- A tally tells of a cell what the runs that settled held in it.
use Rattle.std.specs.List.{flat_map}
use Rattle.rw_base.proofs.Common.{List, [], ◌∷◌, ◌++◌, ℕ, ℤ, Option, None, Some, Bool, true, false, if◌then◌else◌, ◌+◌, ◌-◌, ◌*◌, ◌<◌, ◌≡◌, ◌∙◌}
use Rattle.rw_base.proofs.Common.{ap, ap₂, append-nil, append_assoc, arith, cons_option, length, length-append}
use Rattle.rw_base.proofs.Common.{refl, slice_get, suc, suc-mul, sym, zero, cases_lt, ⊎_elim}
use Rattle.rw_base.proofs.Lists.{got_in_front}
use Rattle.rw_model.specs.Draft.{Draft}
use Rattle.rw_model.specs.Objects.{all_slots}
use Rattle.rw_run.specs.Log.{Cells}
use Rattle.rw_report.specs.Section.{for_each, values_in}
use Rattle.rw_mrm.specs.Summary.{Ended, IsTallyOf, cell_line, cell_lines, summary_columns, summary_heading, known_one, known_in, place_in_table}
use Rattle.rw_mrm.specs.Summary.{settled_in, summary_by, summary_of, values_among, values_in_tally}
use Rattle.rw_mrm.specs.Tally.{IsTallyFor, Tally, joined_up_to, listed_up_to, no_runs, slot_values, cell_table, with_run}
use Rattle.std.proofs.lemmas.Grind.{flat_map-append}
use Rattle.rw_mrm.proofs.Tables.{length-joined, length-listed, length-slot_values, one_more}

-- ---- one list behind another

get_right : {A : Type 0} (xs ys : List A) (i n : ℕ) → n ≡ length xs + i → slice_get (xs ++ ys) n ≡ slice_get ys i
get_right [] ys i n is = let same : n ≡ i = omega (arith, is) in ap (slice_get ys) same
get_right (x ∷ xs) ys i zero is = absurd (omega (arith, is))
get_right (x ∷ xs) ys i (suc n) is = get_right xs ys i n (omega (arith, is))

listed_at : {A : Type 0} (things : ℕ → A) (count k : ℕ) → k < count → slice_get (listed_up_to things count) k ≡ Some (things (suc k))
listed_at things zero k few = absurd (omega (arith, few))
listed_at things (suc before) k few =
    let len = length-listed things before in
    ⊎_elim
    (λ less. got_in_front (listed_up_to things before) (things (suc before) ∷ []) k (omega (arith, less, len)) ∙ listed_at things before k less)
    (λ more. let same : k ≡ before = omega (arith, few, more) in
    get_right (listed_up_to things before) (things (suc before) ∷ []) 0 k (omega (arith, same, len)) ∙ ap (λ n. Some (things (suc n))) (sym same))
    (cases_lt k before)

joined_at : {A : Type 0} (lists : ℕ → List A) (each count k j : ℕ) → ((n : ℕ) → length (lists n) ≡ each) → k < count → j < each
    → slice_get (joined_up_to lists count) (k * each + j) ≡ slice_get (lists (suc k)) j
joined_at lists each zero k j same few inside = absurd (omega (arith, few))
joined_at lists each (suc before) k j same few inside =
    let len = length-joined lists each before same in
    ⊎_elim
    (λ less. let room = one_more k before each less in
    got_in_front (joined_up_to lists before) (lists (suc before)) (k * each + j) (omega (arith, room, inside, len))
    ∙ joined_at lists each before k j same less inside)
    (λ more. let is : k ≡ before = omega (arith, few, more) in
    let here = ap (λ n. n * each) is in
    get_right (joined_up_to lists before) (lists (suc before)) j (k * each + j) (omega (arith, here, len))
    ∙ ap (λ n. slice_get (lists (suc n)) j) (sym is))
    (cases_lt k before)

-- ---- tables

length-table : (basin : Draft) (cells : Cells) → length (cell_table basin cells) ≡ length (all_slots basin.objects) * basin.control.stamps.count
length-table basin cells =
    length-joined (slot_values cells basin.control.stamps.count) basin.control.stamps.count (length (all_slots basin.objects))
    (length-slot_values cells basin.control.stamps.count)

table_at : (basin : Draft) (cells : Cells) (slot step : ℕ) → slot < length (all_slots basin.objects) → step < basin.control.stamps.count
    → slice_get (cell_table basin cells) (place_in_table basin.control.stamps.count (suc slot) (suc step)) ≡ Some
    (values_in cells (suc slot) (suc step))
table_at basin cells slot step few near =
    let n = basin.control.stamps.count in
    let s : suc slot - 1 ≡ slot = omega arith in
    let t : suc step - 1 ≡ step = omega arith in
    ap₂ (λ a b. slice_get (cell_table basin cells) (a * n + b)) s t
    ∙ joined_at (slot_values cells n) n (length (all_slots basin.objects)) slot step (length-slot_values cells n) few near
    ∙ listed_at (λ k. values_in cells (suc slot) k) n step near

-- ---- the first of the tables

first_table : (table rest : List (Option ℤ)) (size place count : ℕ) → length table ≡ size → place < size
    → known_in (table ++ rest) size place (suc count) ≡ known_one (slice_get table place) ++ known_in rest size place count
first_table table rest size place zero len few =
    let at : zero * size + place ≡ place = omega arith in
    ap (λ k. known_one (slice_get (table ++ rest) k)) at
    ∙ ap known_one (got_in_front table rest place (omega (arith, len, few)))
    ∙ sym (append-nil (known_one (slice_get table place)))
first_table table rest size place (suc before) len few =
    let more = suc-mul before size in
    let at = get_right table rest (before * size + place) (suc before * size + place) (omega (arith, more, len)) in
    ap₂ (λ xs x. xs ++ known_one x) (first_table table rest size place before len few) at
    ∙ append_assoc (known_one (slice_get table place)) (known_in rest size place before) (known_one (slice_get rest (before * size + place)))

one_known : (value : Option ℤ) (rest : List ℤ) → known_one (Some value) ++ rest ≡ cons_option value rest
one_known None rest = refl
one_known (Some value) rest = refl

pub known_among : (basin : Draft) (tables : List Cells) (slot step : ℕ) → slot < length (all_slots basin.objects) → step < basin.control.stamps.count
    → known_in (flat_map (cell_table basin) tables) (length (all_slots basin.objects) * basin.control.stamps.count)
    (place_in_table basin.control.stamps.count (suc slot) (suc step)) (length tables)
    ≡ values_among tables (suc slot) (suc step)
known_among basin [] slot step few near = refl
known_among basin (cells ∷ tables) slot step few near =
    let n = basin.control.stamps.count in
    let slots = length (all_slots basin.objects) in
    let s : suc slot - 1 ≡ slot = omega arith in
    let t : suc step - 1 ≡ step = omega arith in
    let same = ap₂ (λ a b. a * n + b) s t in
    let room = one_more slot slots n few in
    let inside : place_in_table n (suc slot) (suc step) < slots * n = omega (arith, same, room, near) in
    first_table (cell_table basin cells) (flat_map (cell_table basin) tables) (slots * n) (place_in_table n (suc slot) (suc step)) (length tables)
    (length-table basin cells) inside
    ∙ ap₂ (λ x xs. known_one x ++ xs) (table_at basin cells slot step few near) (known_among basin tables slot step few near)
    ∙ one_known (values_in cells (suc slot) (suc step)) (values_among tables (suc slot) (suc step))

-- ---- lines

for_each_same : (f g : ℕ → List ℕ) (count : ℕ) → ((k : ℕ) → k < count → f (suc k) ≡ g (suc k)) → for_each f count ≡ for_each g count
for_each_same f g zero same = refl
for_each_same f g (suc before) same =
    ap₂ (λ a b. a ++ b) (for_each_same f g before (λ k less. same k (omega (arith, less)))) (same before (omega arith))

lines_same : (basin : Draft) (slots steps : ℕ) (f g : ℕ → ℕ → List ℤ)
    → ((slot step : ℕ) → slot < slots → step < steps → f (suc slot) (suc step) ≡ g (suc slot) (suc step))
    → cell_lines basin slots steps f ≡ cell_lines basin slots steps g
lines_same basin slots steps f g same =
    for_each_same (λ slot. for_each (λ step. cell_line basin slot step (f slot step)) steps)
    (λ slot. for_each (λ step. cell_line basin slot step (g slot step)) steps) slots
    (λ slot few. for_each_same (λ step. cell_line basin (suc slot) step (f (suc slot) step))
    (λ step. cell_line basin (suc slot) step (g (suc slot) step)) steps
    (λ step near. ap (cell_line basin (suc slot) (suc step)) (same slot step few near)))

-- ---- the summary

values_are : (basin : Draft) (runs : List Ended) (tally : Tally) → IsTallyFor basin tally → IsTallyOf basin runs tally → (slot step : ℕ)
    → slot < length (all_slots basin.objects) → step < basin.control.stamps.count
    → values_in_tally tally (suc slot) (suc step) ≡ values_among (settled_in runs) (suc slot) (suc step)
values_are basin runs tally made is slot step few near =
    ap₂ (λ values count. known_in values (tally.slots * tally.steps) (place_in_table tally.steps (suc slot) (suc step)) count) is.values is.settled
    ∙ ap₂ (λ slots steps. known_in (flat_map (cell_table basin) (settled_in runs)) (slots * steps) (place_in_table steps (suc slot) (suc step))
    (length (settled_in runs)))
    made.slots made.steps
    ∙ known_among basin (settled_in runs) slot step few near

pub summary_is : (basin : Draft) (runs : List Ended) (tally : Tally) → IsTallyFor basin tally → IsTallyOf basin runs tally
    → summary_by basin tally ≡ summary_of basin runs
summary_is basin runs tally made is =
    ap₂ (λ settled count. summary_heading settled count ++
    (summary_columns ++ cell_lines basin tally.slots tally.steps (values_in_tally tally))) is.settled is.runs_are
    ∙ ap₂ (λ slots steps. summary_heading (length (settled_in runs)) (length runs) ++
    (summary_columns ++ cell_lines basin slots steps (values_in_tally tally))) made.slots made.steps
    ∙ ap (λ lines. summary_heading (length (settled_in runs)) (length runs) ++ (summary_columns ++ lines))
    (lines_same basin (length (all_slots basin.objects)) basin.control.stamps.count (values_in_tally tally) (values_among (settled_in runs))
    (values_are basin runs tally made is))

-- ---- run by run

settled_more : (runs : List Ended) (run : Ended) → settled_in (runs ++ run ∷ []) ≡ settled_in runs ++ settled_in (run ∷ [])
settled_more [] run = refl
settled_more (first ∷ runs) run = by first.settled (settled_more runs run)
  where
    by : (b : Bool) → settled_in (runs ++ run ∷ []) ≡ settled_in runs ++ settled_in (run ∷ [])
        → (if b then first.cells ∷ settled_in (runs ++ run ∷ []) else settled_in (runs ++ run ∷ []))
        ≡ (if b then first.cells ∷ settled_in runs else settled_in runs) ++ settled_in (run ∷ [])
    by true rest = ap (λ tables. first.cells ∷ tables) rest
    by false rest = rest

pub tally_begins : (basin : Draft) (room : ℕ) → IsTallyOf basin [] (no_runs basin room)
tally_begins basin room = record { values = refl; settled = refl; runs_are = refl }

more_of : (basin : Draft) (runs : List Ended) (tally : Tally) (run : Ended) (settled : Bool) → run.settled ≡ settled → IsTallyOf basin runs tally
    → IsTallyOf basin (runs ++ run ∷ []) (with_run basin settled run.cells tally)
more_of basin runs tally run true same is =
    let one : settled_in (runs ++ run ∷ []) ≡ settled_in runs ++ run.cells ∷ [] =
    settled_more runs run ∙ ap (λ b. settled_in runs ++ (if b then run.cells ∷ [] else [])) same in
    let all = length-append (settled_in runs) (run.cells ∷ []) in
    let count = length-append runs (run ∷ []) in
    let many = ap (λ (tables : List Cells). length tables) one in
    let s = is.settled in let r = is.runs_are in
    record {
      values =
          ap (λ values. values ++ cell_table basin run.cells) is.values
          ∙ ap (λ last. flat_map (cell_table basin) (settled_in runs) ++ last) (sym (append-nil (cell_table basin run.cells)))
          ∙ sym (flat_map-append (cell_table basin) (settled_in runs) (run.cells ∷ []))
          ∙ ap (flat_map (cell_table basin)) (sym one);
      settled = omega (arith, s, many, all);
      runs_are = omega (arith, r, count);
    }
more_of basin runs tally run false same is =
    let none : settled_in (runs ++ run ∷ []) ≡ settled_in runs =
    settled_more runs run ∙ ap (λ b. settled_in runs ++ (if b then run.cells ∷ [] else [])) same ∙ append-nil (settled_in runs) in
    let count = length-append runs (run ∷ []) in
    let many = ap (λ (tables : List Cells). length tables) none in
    let s = is.settled in let r = is.runs_are in
    record {
      values = is.values ∙ ap (flat_map (cell_table basin)) (sym none);
      settled = omega (arith, s, many);
      runs_are = omega (arith, r, count);
    }

pub tally_goes_on : (basin : Draft) (runs : List Ended) (tally : Tally) (run : Ended) → IsTallyOf basin runs tally
    → IsTallyOf basin (runs ++ run ∷ []) (with_run basin run.settled run.cells tally)
tally_goes_on basin runs tally run is = more_of basin runs tally run run.settled refl is
