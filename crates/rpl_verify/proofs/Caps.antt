-- Numbers that stop at a limit, and the table of them.
use Rattle.rw_base.proofs.Common.{◌≡◌, ℕ, zero, suc, ◌+◌, ◌-◌, ◌*◌, ◌≤◌, ◌<◌, max, Bool, true, false, nat_lt, List, [], ◌∷◌, map, length, refl, sym}
use Rattle.rw_base.proofs.Common.{ap, ap₂, ◌∙◌, subst, arith, drop, set, slice_index, nat_tests, drop-set, length-set}
use Rattle.rpl_code.specs.declared.instruction.Instruction.{Instruction}
use Rattle.rpl_tree.specs.Budget.{Budget, capped, limits}
use Rattle.rpl_verify.specs.declared.notes.Note.{Note}
use Rattle.rpl_verify.specs.declared.notes.Part.{Part}
use Rattle.rpl_verify.specs.declared.notes.Part.TheVariants.{Count, Looks, Puts, Words}
use Rattle.rpl_verify.specs.Places.{loop_end, rest_of}
use Rattle.rpl_verify.specs.Names.{Scope}
use Rattle.rpl_verify.specs.Fits.{Before, room_on_top}
use Rattle.rpl_verify.specs.Budget.{Going, onward, jumping, branching, entering, turning, first_before, most, most_from, table, going_of}
use Rattle.rpl_verify.specs.Notes.{end_note, part_joined, limit_of, measure_of, note_of, noted, notes_of, price_in, repeated, stopping}

-- a product with a number at least 1 is at least the other
at_least : (m second : ℕ) → second ≤ suc m * second
at_least m second = omega arith

below : (number m second : ℕ) → second ≤ number + 1 → capped number (m * capped number second) ≡ capped number (m * second)
below number m second at_most = let capped_is : capped number second ≡ second = omega arith in ap (λ x. capped number (m * x)) capped_is

above : (number m second : ℕ) → number + 1 ≤ second → capped number (m * capped number second) ≡ capped number (m * second)
above number zero second at_most = omega arith
above number (suc m) second at_most =
    let capped_is : capped number second ≡ number + 1 = omega arith in
    let at_least_so = at_least m second in
    let at_least_too = at_least m (number + 1) in
    let capped_is_so : capped number (suc m * (number + 1)) ≡ number + 1 = omega (arith, at_least_too) in
    let capped_is_too : capped number (suc m * second) ≡ number + 1 = omega (arith, at_least_so, at_most) in
    ap (λ x. capped number (suc m * x)) capped_is ∙ capped_is_so ∙ sym capped_is_too

pub capped_times : (number m second : ℕ) → capped number (m * capped number second) ≡ capped number (m * second)
capped_times number m second = by (nat_lt (number + 1) second) refl
  where
    by : (truth : Bool) → nat_lt (number + 1) second ≡ truth → capped number (m * capped number second) ≡ capped number (m * second)
    by true nat_lt_is = let below : number + 1 < second = grind (arith, nat_tests) in above number m second (omega (arith, below))
    by false nat_lt_is = let at_most : second ≤ number + 1 = grind (arith, nat_tests) in below number m second at_most

capped_sum : (number first second number_here other_second : ℕ) → first ≡ capped number number_here → second ≡ capped number other_second
    → capped number (first + second) ≡ capped number (number_here + other_second)
capped_sum number first second number_here other_second first_is second_is = omega (arith, first_is, second_is)

capped_most : (number first second number_here other_second : ℕ) → first ≡ capped number number_here → second ≡ capped number other_second
    → capped number (max first second) ≡ capped number (max number_here other_second)
capped_most number first second number_here other_second first_is second_is = omega (arith, first_is, second_is)

max_capped : (number first second number_here other_second : ℕ) → first ≡ capped number number_here → second ≡ capped number other_second
    → max first second ≡ capped number (max number_here other_second)
max_capped number first second number_here other_second first_is second_is = omega (arith, first_is, second_is)

-- what is joined of numbers that stop
pub joined_stops : (part : Part) (first second number_here other_second : ℕ) → first ≡ capped (limit_of part) number_here
    → second ≡ capped (limit_of part) other_second
    → capped (limit_of part) (part_joined part first second) ≡ capped (limit_of part) (part_joined part number_here other_second)
joined_stops Count first second number_here other_second first_is second_is =
    capped_sum limits.count first second number_here other_second first_is second_is
joined_stops Looks first second number_here other_second first_is second_is =
    capped_sum limits.looks first second number_here other_second first_is second_is
joined_stops Puts first second number_here other_second first_is second_is =
    capped_sum limits.puts first second number_here other_second first_is second_is
joined_stops Words first second number_here other_second first_is second_is =
    capped_most limits.words first second number_here other_second first_is second_is

times_stops : (number room first number_here : ℕ) → first ≡ capped number number_here
    → capped number (room * first) ≡ capped number (room * number_here)
times_stops number room first number_here first_is = ap (λ n. capped number (room * n)) first_is ∙ capped_times number room number_here

pub repeated_stops : (part : Part) (room first number_here : ℕ) → first ≡ capped (limit_of part) number_here
    → capped (limit_of part) (repeated part room first) ≡ capped (limit_of part) (repeated part room number_here)
repeated_stops Count room first number_here first_is = times_stops limits.count room first number_here first_is
repeated_stops Looks room first number_here first_is = times_stops limits.looks room first number_here first_is
repeated_stops Puts room first number_here first_is = times_stops limits.puts room first number_here first_is
repeated_stops Words room first number_here first_is = omega (arith, first_is)

pub index_capped : (number : ℕ) (counts : List ℕ) (index : ℕ)
    → slice_index (map (capped number) counts) index ≡ capped number (slice_index counts index)
index_capped number [] index = omega arith
index_capped number (n ∷ counts) zero = refl
index_capped number (n ∷ counts) (suc index) = index_capped number counts index

module _ (scope : Scope) (budgets : List Budget) where
  -- what the table joins and repeats by
  measure_joins : (part : Part) (first second : ℕ) → (measure_of scope budgets part).joined first second ≡ part_joined part first second
  measure_joins Count first second = refl
  measure_joins Looks first second = refl
  measure_joins Puts first second = refl
  measure_joins Words first second = refl

  measure_repeats : (part : Part) (room first : ℕ) → (measure_of scope budgets part).repeated room first ≡ repeated part room first
  measure_repeats Count room first = refl
  measure_repeats Looks room first = refl
  measure_repeats Puts room first = refl
  measure_repeats Words room first = refl

  module _ (part : Part) where
    join_stops : (first second number_here other_second : ℕ) → first ≡ capped (limit_of part) number_here
        → second ≡ capped (limit_of part) other_second
        → capped (limit_of part) (part_joined part first second)
        ≡ capped (limit_of part) ((measure_of scope budgets part).joined number_here other_second)
    join_stops first second number_here other_second first_is second_is =
        joined_stops part first second number_here other_second first_is second_is
        ∙ ap (capped (limit_of part)) (sym (measure_joins part number_here other_second))

    repeat_stops : (room first number_here : ℕ) → first ≡ capped (limit_of part) number_here
        → capped (limit_of part) (repeated part room first) ≡ capped (limit_of part) ((measure_of scope budgets part).repeated room number_here)
    repeat_stops room first number_here first_is =
        repeated_stops part room first number_here first_is ∙ ap (capped (limit_of part)) (sym (measure_repeats part room number_here))

    -- an entry made of numbers that stop is the entry that stops
    pub most_stops : (place : ℕ) (way : Going) (price price2 room room2 : ℕ) (lines : List Instruction) (from from2 : ℕ → ℕ)
        → price2 ≡ capped (limit_of part) price → room2 ≡ room → ((more : ℕ) → from2 more ≡ capped (limit_of part) (from more))
        → most_from (stopping part) place way price2 room2 lines from2
        ≡ capped (limit_of part) (most_from (measure_of scope budgets part) place way price room lines from)
    most_stops place onward price price2 room room2 lines from from2 price2_is room2_is from2_is =
        join_stops price2 _ price _ price2_is (from2_is (suc place))
    most_stops place (jumping to) price price2 room room2 lines from from2 price2_is room2_is from2_is =
        join_stops price2 _ price _ price2_is (from2_is to)
    most_stops place (branching to) price price2 room room2 lines from from2 price2_is room2_is from2_is =
        join_stops price2 _ price _ price2_is
        (max_capped (limit_of part) (from2 (suc place)) (from2 to) (from (suc place)) (from to) (from2_is (suc place)) (from2_is to))
    most_stops place entering price price2 room room2 lines from from2 price2_is room2_is from2_is =
        join_stops price2 _ price _ price2_is (join_stops _ _ _ _
        (repeat_stops room2 (from2 (suc place)) (from (suc place)) (from2_is (suc place))
        ∙ ap (λ n. capped (limit_of part) ((measure_of scope budgets part).repeated n (from (suc place)))) room2_is)
        (from2_is (loop_end (suc place) lines)))
    most_stops place turning price price2 room room2 lines from from2 price2_is room2_is from2_is = price2_is

    price_stops : (part_so : Part) (here : Before) (instruction : Instruction)
        → price_in part_so (note_of scope budgets here instruction)
        ≡ capped (limit_of part_so) ((measure_of scope budgets part_so).price here instruction)
    price_stops Count here instruction = refl
    price_stops Looks here instruction = refl
    price_stops Puts here instruction = refl
    price_stops Words here instruction = refl

    end_stops : (part_so : Part) (here : Before)
        → price_in part_so (end_note scope budgets here) ≡ capped (limit_of part_so) ((measure_of scope budgets part_so).at_end here)
    end_stops Count here = omega arith
    end_stops Looks here = omega arith
    end_stops Puts here = omega arith
    end_stops Words here = refl

    -- the table by notes is the table of all numbers, each of which stops
    pub noted_is : (place : ℕ) (befores_there : List Before) (lines : List Instruction)
        → noted part place (notes_of scope budgets befores_there lines) lines
        ≡ map (capped (limit_of part)) (table (measure_of scope budgets part) place befores_there lines)
    noted_is place befores_there [] = ap (λ n. n ∷ []) (end_stops part (first_before befores_there))
    noted_is place befores_there (instruction ∷ lines) =
        let measure_of_so = measure_of scope budgets part in
        let first_before_so = first_before befores_there in
        let behind = table measure_of_so (suc place) (rest_of befores_there) lines in
        let noted_is_so = noted_is (suc place) (rest_of befores_there) lines in
        let stops : (more : ℕ) → slice_index (noted part (suc place) (notes_of scope budgets (rest_of befores_there) lines) lines) (more - suc place)
        ≡ capped (limit_of part) (slice_index behind (more - suc place)) =
        λ d. ap (λ ns. slice_index ns (d - suc place)) noted_is_so ∙ index_capped (limit_of part) behind (d - suc place) in
        ap₂ (λ n ns. n ∷ ns)
        (most_stops place (going_of instruction) (measure_of_so.price first_before_so instruction)
        (price_in part (note_of scope budgets first_before_so instruction)) (room_on_top first_before_so.kinds) (room_on_top first_before_so.kinds)
        lines
        (λ to. slice_index behind (to - suc place))
        (λ to. slice_index (noted part (suc place) (notes_of scope budgets (rest_of befores_there) lines) lines) (to - suc place))
        (price_stops part first_before_so instruction) refl stops)
        noted_is_so

    pub most_is : (befores_there : List Before) (lines : List Instruction)
        → slice_index (noted part 0 (notes_of scope budgets befores_there lines) lines) 0
        ≡ capped (limit_of part) (most (measure_of scope budgets part) befores_there lines)
    most_is befores_there lines =
        ap (λ ns. slice_index ns 0) (noted_is 0 befores_there lines)
        ∙ index_capped (limit_of part) (table (measure_of scope budgets part) 0 befores_there lines) 0

-- one place of the table, from those behind it
pub noted_on : (part : Part) (most most2 : List ℕ) (place next_place : ℕ) (note : Note) (notes left : List Note) (instruction : Instruction)
    (lines on : List Instruction) (first : ℕ)
    → next_place ≡ place + 1 → drop next_place most ≡ noted part next_place notes lines → left ≡ note ∷ notes → on ≡ instruction ∷ lines
    → place < length most → most2 ≡ set most place first
    → first ≡ most_from (stopping part) place (going_of instruction) (price_in part note) note.room lines
    (λ to. slice_index (drop (suc place) most) (to - suc place))
    → drop place most2 ≡ noted part place left on
noted_on part most most2 place next_place note notes left instruction lines on first next_place_is drop_is left_is on_is below most2_is first_is =
    let next_place_is_so : next_place ≡ suc place = omega (arith, next_place_is) in
    let place_is : place + 1 ≡ suc place = omega arith in
    let drop_is_so : drop (suc place) most ≡ noted part (suc place) notes lines =
    subst (λ j. drop j most ≡ noted part j notes lines) next_place_is_so drop_is in
    let first_is_so : first ≡ most_from (stopping part) place (going_of instruction) (price_in part note) note.room lines
    (λ to. slice_index (noted part (suc place) notes lines) (to - suc place)) =
    first_is ∙ ap (λ xs. most_from (stopping part) place (going_of instruction) (price_in part note) note.room lines
    (λ to. slice_index xs (to - suc place))) drop_is_so in
    ap (drop place) most2_is ∙ drop-set most place first below ∙ ap₂ (λ y ys. y ∷ ys) first_is_so (ap (λ j. drop j most) place_is ∙ drop_is_so)
    ∙ ap₂ (noted part place) (sym left_is) (sym on_is)

-- a table is filled in from a place on
abbrev pub IsFilled : Part → ℕ → List Note → List Instruction → List ℕ → Type 0
IsFilled part place notes lines most =
    (length most ≡ length lines + 1) × (drop place most ≡ noted part place (drop place notes) (drop place lines))

pub filled_on : (part : Part) (most new : List ℕ) (place next_place : ℕ) (note : Note) (notes : List Note) (instruction : Instruction)
    (lines : List Instruction) → place < length lines → next_place ≡ place + 1 → drop place notes ≡ note ∷ drop next_place notes
    → drop place lines ≡ instruction ∷ drop next_place lines → IsFilled part next_place notes lines most
    → new ≡ set most place (most_from (stopping part) place (going_of instruction) (price_in part note) note.room (drop next_place lines)
    (λ to. slice_index (drop (suc place) most) (to - suc place)))
    → IsFilled part place notes lines new
filled_on part most new place next_place note notes instruction lines within next_is notes_is lines_is filled new_is =
    let first = most_from (stopping part) place (going_of instruction) (price_in part note) note.room (drop next_place lines)
    (λ to. slice_index (drop (suc place) most) (to - suc place)) in
    let long = filled.0 in (
      ap length new_is ∙ length-set most place first ∙ filled.0,
      noted_on part most new place next_place note (drop next_place notes) (drop place notes) instruction (drop next_place lines) (drop place lines) first
          next_is filled.1 notes_is lines_is (omega (arith, within, long)) new_is refl,
    )

pub index-drop : (n : ℕ) (counts : List ℕ) (more index : ℕ) → n + more ≡ index → slice_index (drop n counts) more ≡ slice_index counts index
index-drop zero counts more index n_is = ap (slice_index counts) (omega (arith, n_is))
index-drop (suc n) [] more index n_is = refl
index-drop (suc n) (first ∷ counts) more zero n_is = absurd (omega (arith, n_is))
index-drop (suc n) (first ∷ counts) more (suc index) n_is = index-drop n counts more index (omega (arith, n_is))
