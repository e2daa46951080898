-- The most that there is from each place on, and that a way from place to place never comes to more.
use Rattle.rw_base.proofs.Common.{◌≡◌, ℕ, zero, suc, ◌+◌, ◌-◌, ◌*◌, max, ◌≤◌, ◌<◌, List, [], ◌∷◌, length, drop, Some, refl, sym, ap, ap₂, ◌∙◌, arith}
use Rattle.rw_base.proofs.Common.{mul-le-mul_right, suc-mul, slice_get, slice_index, get_or-drop, slice_get_within}
use Rattle.rpl_code.specs.declared.instruction.Instruction.{Instruction}
use Rattle.rpl_verify.specs.Places.{loop_end, rest_of}
use Rattle.rpl_tree.specs.Budget.{Budget}
use Rattle.rpl_verify.specs.Names.{Scope}
use Rattle.rpl_verify.specs.Fits.{Before, before_at, room_on_top}
use Rattle.rpl_verify.specs.Budget.{Measure, Going, onward, jumping, branching, entering, turning, going_of, at_a_time, first_before, most_from}
use Rattle.rpl_verify.specs.Budget.{summed, table, words_at, words_before}
use Rattle.rpl_verify.specs.Machine.{Running}
use Rattle.rpl_verify.proofs.Loops.{drop_at}
use Rattle.rpl_verify.proofs.Frames.{Flow, to_next, to_other, not_taken, is_taken, goes_in, goes_over, turns_back, goes_out}

rest_drop : {A : Type 0} (index : ℕ) (things : List A) → rest_of (drop index things) ≡ drop (suc index) things
rest_drop zero [] = refl
rest_drop zero (thing ∷ things) = refl
rest_drop (suc index) [] = refl
rest_drop (suc index) (thing ∷ things) = rest_drop index things

drop_rest : {A : Type 0} (index : ℕ) (things : List A) → drop index (rest_of things) ≡ drop (suc index) things
drop_rest zero [] = refl
drop_rest (suc index) [] = refl
drop_rest index (thing ∷ things) = refl

first_drop : (index : ℕ) (befores_there : List Before) → first_before (drop index befores_there) ≡ before_at befores_there index
first_drop zero [] = refl
first_drop (suc index) [] = refl
first_drop zero (here ∷ befores_there) = refl
first_drop (suc index) (here ∷ befores_there) = first_drop index befores_there

index_drop : (index other_index : ℕ) (counts : List ℕ) → slice_index (drop index counts) other_index ≡ slice_index counts (index + other_index)
index_drop index other_index counts = get_or-drop index counts other_index 0

drop_all : {A : Type 0} (things : List A) → drop (length things) things ≡ []
drop_all [] = refl
drop_all (thing ∷ things) = drop_all things

module _ (measure : Measure) where
  tail_of : (place : ℕ) (befores_there : List Before) (lines : List Instruction) (index : ℕ) → index ≤ length lines
      → drop index (table measure place befores_there lines) ≡ table measure (place + index) (drop index befores_there) (drop index lines)
  tail_of place befores_there lines zero at_most =
      let place_is : place ≡ place + 0 = omega arith in ap (λ n. table measure n befores_there lines) place_is
  tail_of place befores_there [] (suc index) at_most = absurd (omega (arith, at_most))
  tail_of place befores_there (instruction ∷ lines) (suc index) at_most =
      let same : suc place + index ≡ place + suc index = omega arith in
      tail_of (suc place) (rest_of befores_there) lines index (omega (arith, at_most))
      ∙ ap₂ (λ n bs. table measure n bs (drop index lines)) same (drop_rest index befores_there)

  module _ (lines : List Instruction) (befores_there : List Before) where
    abbrev pub table_of_all : List ℕ
    table_of_all = table measure 0 befores_there lines

    -- the most from a place on
    abbrev pub most_ahead : ℕ → ℕ
    most_ahead place = slice_index table_of_all place

    abbrev look : ℕ → ℕ → ℕ
    look place to = slice_index (table measure (suc place) (rest_of (drop place befores_there)) (drop (suc place) lines)) (to - suc place)

    tail : (place : ℕ) → place ≤ length lines → drop place table_of_all ≡ table measure place (drop place befores_there) (drop place lines)
    tail place at_most =
        let same : 0 + place ≡ place = omega arith in
        tail_of 0 befores_there lines place at_most ∙ ap (λ n. table measure n (drop place befores_there) (drop place lines)) same

    look_is : (place to : ℕ) → suc place ≤ length lines → suc place ≤ to → look place to ≡ most_ahead to
    look_is place to at_most far =
        let same : suc place + (to - suc place) ≡ to = omega (arith, far) in
        ap (λ bs. slice_index (table measure (suc place) bs (drop (suc place) lines)) (to - suc place)) (rest_drop place befores_there)
        ∙ ap (λ ns. slice_index ns (to - suc place)) (sym (tail (suc place) at_most)) ∙ index_drop (suc place) (to - suc place) table_of_all
        ∙ ap (slice_index table_of_all) same

    at_head : (place : ℕ) → most_ahead place ≡ slice_index (drop place table_of_all) 0
    at_head place = let place_is : place + 0 ≡ place = omega arith in sym (index_drop place 0 table_of_all ∙ ap (slice_index table_of_all) place_is)

    pub entry_is : (place : ℕ) (instruction : Instruction) → slice_get lines place ≡ Some instruction
        → most_ahead place ≡ most_from measure place (going_of instruction) (measure.price (before_at befores_there place) instruction)
        (room_on_top (before_at befores_there place).kinds) (drop (suc place) lines) (look place)
    entry_is place instruction found =
        let at_most : place ≤ length lines = omega (arith, slice_get_within lines place instruction found) in
        at_head place ∙ ap (λ ns. slice_index ns 0) (tail place at_most
        ∙ ap (table measure place (drop place befores_there)) (drop_at lines place instruction found))
        ∙ ap (λ (b : Before). most_from measure place (going_of instruction) (measure.price b instruction) (room_on_top b.kinds)
        (drop (suc place) lines) (look place)) (first_drop place befores_there)

    pub end_is : most_ahead (length lines) ≡ measure.at_end (before_at befores_there (length lines))
    end_is =
        let n : ℕ = length lines in
        at_head n ∙ ap (λ ns. slice_index ns 0) (tail n (omega arith) ∙ ap (table measure n (drop n befores_there)) (drop_all lines))
        ∙ ap (λ b. measure.at_end b) (first_drop n befores_there)

    abbrev pub past : ℕ → ℕ
    past start = loop_end (suc start) (drop (suc start) lines)

    -- by way
    module _ (place : ℕ) (instruction : Instruction) (found : slice_get lines place ≡ Some instruction) where
      abbrev here : ℕ
      here = measure.price (before_at befores_there place) instruction

      abbrev room : ℕ
      room = room_on_top (before_at befores_there place).kinds

      by_way : (going : Going) → going_of instruction ≡ going
          → most_ahead place ≡ most_from measure place going here room (drop (suc place) lines) (look place)
      by_way going going_of_is =
          entry_is place instruction found ∙ ap (λ w. most_from measure place w here room (drop (suc place) lines) (look place)) going_of_is

      at_most : suc place ≤ length lines
      at_most = omega (arith, slice_get_within lines place instruction found)

      pub by_next : going_of instruction ≡ onward → most_ahead place ≡ measure.joined here (most_ahead (suc place))
      by_next going_of_is = by_way onward going_of_is ∙ ap (measure.joined here) (look_is place (suc place) at_most (omega arith))

      pub by_jump : (to : ℕ) → going_of instruction ≡ jumping to → place < to → most_ahead place ≡ measure.joined here (most_ahead to)
      by_jump to going_of_is far = by_way (jumping to) going_of_is ∙ ap (measure.joined here) (look_is place to at_most (omega (arith, far)))

      pub by_branch : (to : ℕ) → going_of instruction ≡ branching to
          → most_ahead place ≡ measure.joined here (max (most_ahead (suc place)) (look place to))
      by_branch to going_of_is =
          by_way (branching to) going_of_is ∙ ap (λ n. measure.joined here (max n (look place to))) (look_is place (suc place) at_most (omega arith))

      pub by_far_branch : (to : ℕ) → going_of instruction ≡ branching to → place < to
          → most_ahead place ≡ measure.joined here (max (most_ahead (suc place)) (most_ahead to))
      by_far_branch to going_of_is far =
          by_branch to going_of_is ∙ ap (λ n. measure.joined here (max (most_ahead (suc place)) n)) (look_is place to at_most (omega (arith, far)))

      pub by_entry : going_of instruction ≡ entering
          → most_ahead place ≡ measure.joined here (measure.joined (measure.repeated room (most_ahead (suc place))) (look place (past place)))
      by_entry going_of_is =
          by_way entering going_of_is ∙ ap (λ n. measure.joined here (measure.joined (measure.repeated room n) (look place (past place))))
          (look_is place (suc place) at_most (omega arith))

      pub by_far_entry : going_of instruction ≡ entering → place < past place
          → most_ahead place ≡ measure.joined here (measure.joined (measure.repeated room (most_ahead (suc place))) (most_ahead (past place)))
      by_far_entry going_of_is far =
          by_entry going_of_is ∙ ap (λ n. measure.joined here (measure.joined (measure.repeated room (most_ahead (suc place))) n))
          (look_is place (past place) at_most (omega (arith, far)))

      pub by_turn : going_of instruction ≡ turning → most_ahead place ≡ here
      by_turn going_of_is = by_way turning going_of_is

-- ---- counts

one_more : (n m index : ℕ) → suc n ≡ m → m * index ≡ index + n * index
one_more n m index same = ap (λ m. m * index) (sym same) ∙ suc-mul n index ∙ omega arith

at_most_so_many : (n m index : ℕ) → suc n ≤ m → index + n * index ≤ m * index
at_most_so_many n m index at_most_so = let at_most_too : suc n * index ≤ m * index = mul-le-mul_right index at_most_so in let same : suc n * index
    ≡ index + n * index =
    one_more n (suc n) index refl in omega (arith, at_most_too, same)

module _ (scope : Scope) (budgets : List Budget) (price : Before → Instruction → ℕ) (lines : List Instruction) (befores_there : List Before) where
  abbrev pub costs_ahead : ℕ → ℕ
  costs_ahead place = most_ahead (summed scope budgets price) lines befores_there place

  abbrev pub ends : ℕ → ℕ
  ends start = loop_end (suc start) (drop (suc start) lines)

  -- what loops that are gone through come to: the turns that are left, and what is behind each
  abbrev pub loops_cost : List Running → ℕ
  loops_cost [] = 0
  loops_cost (running ∷ loops) = length running.left * costs_ahead (suc running.start) + (costs_ahead (ends running.start) + loops_cost loops)

  abbrev measure : Measure
  measure = summed scope budgets price

  pub flow_costs : (place next_place : ℕ) (instruction : Instruction) (loops next_loops : List Running) → slice_get lines place ≡ Some instruction
      → Flow ends (going_of instruction) (room_on_top (before_at befores_there place).kinds) place next_place loops next_loops
      → price (before_at befores_there place) instruction + (costs_ahead next_place + loops_cost next_loops) ≤ costs_ahead place + loops_cost loops
  flow_costs place next_place instruction loops next_loops found (to_next way_is place_is loops_are) =
      omega (arith, by_next measure lines befores_there place instruction found way_is, ap costs_ahead place_is, ap loops_cost loops_are)
  flow_costs place next_place instruction loops next_loops found (to_other way_is far loops_are) =
      omega (arith, by_jump measure lines befores_there place instruction found next_place way_is far, ap loops_cost loops_are)
  flow_costs place next_place instruction loops next_loops found (not_taken to way_is place_is loops_are) =
      omega (arith, by_branch measure lines befores_there place instruction found to way_is, ap costs_ahead place_is, ap loops_cost loops_are)
  flow_costs place next_place instruction loops next_loops found (is_taken way_is far loops_are) =
      omega (arith, by_far_branch measure lines befores_there place instruction found next_place way_is far, ap loops_cost loops_are)
  flow_costs place next_place instruction loops next_loops found (goes_in running way_is far place_is loops_are start_is room_is few) =
      let start : length running.left * costs_ahead (suc running.start) + costs_ahead (ends running.start)
      ≡ length running.left * costs_ahead (suc place) + costs_ahead (ends place) =
      ap (λ a. length running.left * costs_ahead (suc a) + costs_ahead (ends a)) start_is in
      omega (
        arith,
        by_far_entry measure lines befores_there place instruction found way_is far,
        ap costs_ahead place_is,
        ap loops_cost loops_are,
        start,
        at_most_so_many (length running.left) (room_on_top (before_at befores_there place).kinds) (costs_ahead (suc place)) few,
      )
  flow_costs place next_place instruction loops next_loops found (goes_over way_is place_is far loops_are) =
      let below : place < ends place = omega (arith, far, place_is) in
      omega (arith, by_far_entry measure lines befores_there place instruction found way_is below, ap costs_ahead place_is, ap loops_cost loops_are)
  flow_costs place next_place instruction loops next_loops found
      (turns_back running next_turn others way_is loops_are next_loops_are place_is start_is loop_is room_is one_less) =
      omega (
        arith,
        by_turn measure lines befores_there place instruction found way_is,
        ap costs_ahead place_is,
        ap loops_cost loops_are,
        ap loops_cost next_loops_are,
        one_more (length next_turn.left) (length running.left) (costs_ahead (suc running.start)) one_less,
        ap (λ a. length next_turn.left * costs_ahead (suc a) + costs_ahead (ends a)) start_is,
      )
  flow_costs place next_place instruction loops next_loops found (goes_out running way_is loops_are place_is) =
      omega (arith, by_turn measure lines befores_there place instruction found way_is, ap costs_ahead place_is, ap loops_cost loops_are)

-- ---- words

module _ (scope : Scope) (budgets : List Budget) (lines : List Instruction) (befores_there : List Before) where
  abbrev at_once : Measure
  at_once = at_a_time scope budgets

  abbrev pub words_ahead : ℕ → ℕ
  words_ahead place = most_ahead at_once lines befores_there place

  abbrev ending : ℕ → ℕ
  ending start = loop_end (suc start) (drop (suc start) lines)

  -- the most words in loops that are gone through, and behind each
  abbrev pub loops_words : List Running → ℕ
  loops_words [] = 0
  loops_words (running ∷ loops) = max (words_ahead (suc running.start)) (max (words_ahead (ending running.start)) (loops_words loops))

  pub flow_words : (place next_place : ℕ) (instruction : Instruction) (loops next_loops : List Running) → slice_get lines place ≡ Some instruction
      → Flow ending (going_of instruction) (room_on_top (before_at befores_there place).kinds) place next_place loops next_loops
      → max (words_at scope budgets (before_at befores_there place) instruction) (max (words_ahead next_place) (loops_words next_loops)) ≤ max
      (words_ahead place) (loops_words loops)
  flow_words place next_place instruction loops next_loops found (to_next way_is place_is loops_are) =
      omega (arith, by_next at_once lines befores_there place instruction found way_is, ap words_ahead place_is, ap loops_words loops_are)
  flow_words place next_place instruction loops next_loops found (to_other way_is far loops_are) =
      omega (arith, by_jump at_once lines befores_there place instruction found next_place way_is far, ap loops_words loops_are)
  flow_words place next_place instruction loops next_loops found (not_taken to way_is place_is loops_are) =
      omega (arith, by_branch at_once lines befores_there place instruction found to way_is, ap words_ahead place_is, ap loops_words loops_are)
  flow_words place next_place instruction loops next_loops found (is_taken way_is far loops_are) =
      omega (arith, by_far_branch at_once lines befores_there place instruction found next_place way_is far, ap loops_words loops_are)
  flow_words place next_place instruction loops next_loops found (goes_in running way_is far place_is loops_are start_is room_is few) =
      omega (
        arith,
        by_far_entry at_once lines befores_there place instruction found way_is far,
        ap words_ahead place_is,
        ap loops_words loops_are,
        ap (λ a. words_ahead (suc a)) start_is,
        ap (λ a. words_ahead (ending a)) start_is,
      )
  flow_words place next_place instruction loops next_loops found (goes_over way_is place_is far loops_are) =
      let below : place < ending place = omega (arith, far, place_is) in
      omega (arith, by_far_entry at_once lines befores_there place instruction found way_is below, ap words_ahead place_is, ap loops_words loops_are)
  flow_words place next_place instruction loops next_loops found
      (turns_back running next_turn others way_is loops_are next_loops_are place_is start_is loop_is room_is one_less) =
      omega (
        arith,
        by_turn at_once lines befores_there place instruction found way_is,
        ap words_ahead place_is,
        ap loops_words loops_are,
        ap loops_words next_loops_are,
        ap (λ a. words_ahead (suc a)) start_is,
        ap (λ a. words_ahead (ending a)) start_is,
      )
  flow_words place next_place instruction loops next_loops found (goes_out running way_is loops_are place_is) =
      omega (arith, by_turn at_once lines befores_there place instruction found way_is, ap words_ahead place_is, ap loops_words loops_are)

  -- there is room for what is before an instruction
  pub words_fit : (place : ℕ) (instruction : Instruction) → slice_get lines place ≡ Some instruction
      → words_at scope budgets (before_at befores_there place) instruction ≤ words_ahead place
  words_fit place instruction found = by (going_of instruction) refl
    where
      by : (going : Going) → going_of instruction ≡ going → words_at scope budgets (before_at befores_there place) instruction ≤ words_ahead place
      by onward going_of_is = omega (arith, by_next at_once lines befores_there place instruction found going_of_is)
      by (jumping to) going_of_is =
          let by_way_so = by_way at_once lines befores_there place instruction found (jumping to) going_of_is in omega (arith, by_way_so)
      by (branching to) going_of_is = omega (arith, by_branch at_once lines befores_there place instruction found to going_of_is)
      by entering going_of_is = omega (arith, by_entry at_once lines befores_there place instruction found going_of_is)
      by turning going_of_is = omega (arith, by_turn at_once lines befores_there place instruction found going_of_is)

  pub words_fit_at_end : words_before scope budgets (before_at befores_there (length lines)) ≤ words_ahead (length lines)
  words_fit_at_end = omega (arith, end_is at_once lines befores_there)

-- an instruction alone never comes to more
module _ (scope : Scope) (budgets : List Budget) (price : Before → Instruction → ℕ) (lines : List Instruction) (befores_there : List Before) where
  abbrev sum : Measure
  sum = summed scope budgets price

  pub price_fits : (place : ℕ) (instruction : Instruction) → slice_get lines place ≡ Some instruction
      → price (before_at befores_there place) instruction ≤ most_ahead sum lines befores_there place
  price_fits place instruction found = by (going_of instruction) refl
    where
      by : (going : Going) → going_of instruction ≡ going
          → price (before_at befores_there place) instruction ≤ most_ahead sum lines befores_there place
      by onward going_of_is = omega (arith, by_next sum lines befores_there place instruction found going_of_is)
      by (jumping to) going_of_is =
          let by_way_so = by_way sum lines befores_there place instruction found (jumping to) going_of_is in omega (arith, by_way_so)
      by (branching to) going_of_is = omega (arith, by_branch sum lines befores_there place instruction found to going_of_is)
      by entering going_of_is = omega (arith, by_entry sum lines befores_there place instruction found going_of_is)
      by turning going_of_is = omega (arith, by_turn sum lines befores_there place instruction found going_of_is)
