-- The account of a block that fits: what the table of its budgets has at each place. Each law of an account is one of that table's.
use Rattle.rpl_compile.proofs.Common.{Before, Budget, costs_ahead, Instruction, List, None, Ok, Open, Option, Price, Result, Scope, Some, ValueKind, VerifyKind}
use Rattle.rpl_compile.proofs.Common.{words_ahead, [], ap, ap₂, arith, at_a_time, before, before_at, befores, bracket, end_of_list, ends_before, entering}
use Rattle.rpl_compile.proofs.Common.{going_of, judged_at, length, max, onward, refl, room_on_top, slice_get, slice_get_within, slice_index, spots}
use Rattle.rpl_compile.proofs.Common.{subst, suc, summed, sym, turning, words_at, words_kept, ℕ, ◌*◌, ◌+◌, ◌<◌, ◌∙◌, ◌∷◌, ◌≡◌, ◌≤◌}
use Rattle.rpl_code.specs.declared.instruction.Instruction.TheVariants as I
use Rattle.rpl_verify.proofs.Loops.{Linked, ends_ahead, ends_at, first_is, linked, past, judged_there}
use Rattle.rpl_verify.proofs.Costs.{by_far_branch, by_far_entry, by_jump, by_next, by_turn, end_is, words_fit, words_fit_at_end}
use Rattle.rpl_compile.proofs.Counting.{Account, IsInvoke, IsUnit, Prices}

abbrev fine : Before → Result Before VerifyKind
fine here = Ok here

same_before : (here there : Before) → fine here ≡ Ok there → here ≡ there
same_before here there accepted = cc accepted

-- the place behind the line that closes the innermost loop
closes_at : (line : Instruction) (place : ℕ) (ends : List ℕ) → going_of line ≡ turning
    → slice_index (ends_before (bracket line) place ends) 0 ≡ suc place
closes_at I.Next place ends going = refl
closes_at I.Yield place ends going = refl
closes_at _ place ends going = absurd (cc going)

module _ (scope : Scope) (lines : List Instruction) (befores_there : List Before) (spotted : scope.spots ≡ spots lines)
    (fits : befores scope 0 (before [] []) lines ≡ Ok befores_there)
    (budgets : List Budget) (pays : Price) (price : Before → Instruction → ℕ) (prices : Prices scope pays price) where
  abbrev kept : Before → ℕ
  kept here = words_kept scope.locals here

  abbrev found_at : ℕ → Before
  found_at place = before_at befores_there place

  -- the most that there is from a place on, and the most words
  abbrev sum_from : ℕ → ℕ
  sum_from place = costs_ahead scope budgets price lines befores_there place

  abbrev high_from : ℕ → ℕ
  high_from place = words_ahead scope budgets lines befores_there place

  -- from a place to a later one
  pub record Pays (place comes most end : ℕ) (at_end : Before) : Type 0 where
    pub there : found_at end ≡ at_end
    pub within : end ≤ length lines
    pub sum : costs_ahead scope budgets price lines befores_there place ≡ comes + costs_ahead scope budgets price lines befores_there end
    pub high : words_ahead scope budgets lines befores_there place ≡ max most (words_ahead scope budgets lines befores_there end)

  abbrev pub Way : ℕ → Before → ℕ → ℕ → ℕ → Before → Type 0
  Way place here sum high second_place there = before_at befores_there place ≡ here → place ≤ length lines → Pays place sum high second_place there

  -- ---- words

  pub no_call : (here : Before) (line : Instruction) → (IsInvoke line → ⊥) → words_at scope budgets here line ≡ words_kept scope.locals here
  no_call here (I.Invoke n) none = absurd (none tt)
  no_call here _ none = refl

  unit_words : (here : Before) (line : Instruction) → IsUnit line → words_at scope budgets here line ≡ words_kept scope.locals here
  unit_words here (I.Invoke n) is_unit = absurd is_unit
  unit_words here _ is_unit = refl

  at_least : (here : Before) (line : Instruction) → words_kept scope.locals here ≤ words_at scope budgets here line
  at_least here (I.Invoke n) = omega arith
  at_least here _ = omega arith

  room_there : (place : ℕ) → place ≤ length lines → kept (found_at place) ≤ high_from place
  room_there place at_most = by (slice_get lines place) refl
    where
      by : (found : Option Instruction) → slice_get lines place ≡ found → kept (found_at place) ≤ high_from place
      by (Some line) found_is = let fits_so = words_fit scope budgets lines befores_there place line found_is in
          let least = at_least (found_at place) line in omega (arith, fits_so, least)
      by None found_is =
          let at_end : place ≡ length lines = end_of_list lines place found_is at_most in
          subst (λ m. kept (found_at m) ≤ high_from m) (sym at_end) (words_fit_at_end scope budgets lines befores_there)

  -- ---- steps

  on : (place : ℕ) (here there : Before) (line : Instruction) → slice_get lines place ≡ Some line → judged_at scope place here line ≡ Ok there
      → found_at place ≡ here → found_at (suc place) ≡ there
  on place here there line stands judged is_here =
      same_before (found_at (suc place)) there
      (sym (judged_there scope lines befores_there spotted fits place line stands) ∙ ap (λ b. judged_at scope place b line) is_here ∙ judged)

  inside : (place : ℕ) (line : Instruction) → slice_get lines place ≡ Some line → suc place ≤ length lines
  inside place line stands = let within_so = slice_get_within lines place line stands in omega (arith, within_so)

  unit_price : (place : ℕ) (here : Before) (line : Instruction) → IsUnit line → found_at place ≡ here → price (found_at place) line ≡ pays.step 1
  unit_price place here line is_unit is_here = ap (λ b. price b line) is_here ∙ prices.unit here line is_unit

  kept_at : (place : ℕ) (here : Before) (line : Instruction) → IsUnit line → found_at place ≡ here
      → words_at scope budgets (found_at place) line ≡ kept here
  kept_at place here line is_unit is_here = unit_words (found_at place) line is_unit ∙ ap (words_kept scope.locals) is_here

  pub pays_one : (place : ℕ) (here there : Before) (line : Instruction) → slice_get lines place ≡ Some line
      → judged_at scope place here line ≡ Ok there → going_of line ≡ onward
      → Way place here (price here line) (max (words_at scope budgets here line) (words_kept scope.locals there)) (suc place) there
  pays_one place here there line stands judged going is_here at_most =
      let is_there : found_at (suc place) ≡ there = on place here there line stands judged is_here in
      let within = inside place line stands in
      let sum_next = by_next (summed scope budgets price) lines befores_there place line stands going in
      let high_next = by_next (at_a_time scope budgets) lines befores_there place line stands going in
      let low = room_there (suc place) within in
      let there_low : kept (found_at (suc place)) ≡ kept there = ap (words_kept scope.locals) is_there in
      let same : words_at scope budgets (found_at place) line ≡ words_at scope budgets here line = ap (λ b. words_at scope budgets b line) is_here in
      record {
        there = is_there;
        within = within;
        sum = sum_next ∙ ap (λ n. n + sum_from (suc place)) (ap (λ b. price b line) is_here);
        high =
            omega (arith, high_next, low, there_low, same);
      }

  pub pays_next : (place second_place third_place sum high other_sum other_high : ℕ) (here there further : Before)
      → Way place here sum high second_place there → Way second_place there other_sum other_high third_place further
      → Way place here (sum + other_sum) (max high other_high) third_place further
  pays_next place second_place third_place sum high other_sum other_high here there further first second is_here at_most =
      let first_so = first is_here at_most in
      let second_so = second first_so.there first_so.within in
      let first_sum = first_so.sum in let second_sum = second_so.sum in let first_high = first_so.high in let second_high = second_so.high in
      record {
        there = second_so.there;
        within = second_so.within;
        sum = omega (arith, first_sum, second_sum);
        high = omega (arith, first_high, second_high);
      }

  pub pays_none : (place : ℕ) (here : Before) → Way place here 0 (words_kept scope.locals here) place here
  pays_none place here is_here at_most =
      let low = room_there place at_most in
      let same : kept (found_at place) ≡ kept here = ap (words_kept scope.locals) is_here in
      record { there = is_here; within = at_most; sum = omega arith; high = omega (arith, low, same) }

  pub pays_choice : (place second_place jump_at to third_place last sum high other_sum other_high : ℕ) (middle_kinds last_kinds : List ValueKind)
      (here there further : Before) → suc place ≡ second_place → suc jump_at ≡ to → suc to ≡ third_place
      → place < to → jump_at < last
      → slice_get lines place ≡ Some (I.Branch to) → judged_at scope place here (I.Branch to) ≡ Ok there
      → Way second_place there sum high jump_at further
      → slice_get lines jump_at ≡ Some (I.Jump last) → judged_at scope jump_at further (I.Jump last) ≡ Ok there
      → slice_get lines to ≡ Some (I.Target middle_kinds) → judged_at scope to there (I.Target middle_kinds) ≡ Ok there
      → Way third_place there other_sum other_high last further
      → slice_get lines last ≡ Some (I.Target last_kinds) → judged_at scope last further (I.Target last_kinds) ≡ Ok further
      → words_kept scope.locals there ≤ words_kept scope.locals here → words_kept scope.locals further ≤ high
      → words_kept scope.locals further ≤ other_high
      → Way place here (max sum other_sum + pays.step 3) (max (words_kept scope.locals here) (max high other_high)) (suc last) further
  pays_choice place second_place jump_at to third_place last sum high other_sum other_high middle_kinds last_kinds here there further second_is to_is
      third_is to_less last_less branch_stands branch_judged first jump_stands jump_judged target_stands target_judged second end_stands end_judged
      part_low first_low second_low is_here at_most =
      let summing = summed scope budgets price in
      let keeping = at_a_time scope budgets in
      let at_second : found_at second_place ≡ there = ap found_at (sym second_is)
      ∙ on place here there (I.Branch to) branch_stands branch_judged is_here in
      let in_second : second_place ≤ length lines = let inside_so = inside place (I.Branch to) branch_stands in omega (arith, inside_so, second_is) in
      let first_so = first at_second in_second in
      let at_to : found_at to ≡ there = ap found_at (sym to_is) ∙ on jump_at further there (I.Jump last) jump_stands jump_judged first_so.there in
      let at_third : found_at third_place ≡ there = ap found_at (sym third_is)
      ∙ on to there there (I.Target middle_kinds) target_stands target_judged at_to in
      let in_third : third_place ≤ length lines = let inside_so = inside to (I.Target middle_kinds) target_stands in
      omega (arith, inside_so, third_is) in
      let second_so = second at_third in_third in
      let at_end : found_at (suc last) ≡ further = on last further further (I.Target last_kinds) end_stands end_judged second_so.there in
      let branch_sum = by_far_branch summing lines befores_there place (I.Branch to) branch_stands to refl to_less in
      let jump_sum = by_jump summing lines befores_there jump_at (I.Jump last) jump_stands last refl last_less in
      let target_sum = by_next summing lines befores_there to (I.Target middle_kinds) target_stands refl in
      let end_sum = by_next summing lines befores_there last (I.Target last_kinds) end_stands refl in
      let branch_unit = unit_price place here (I.Branch to) tt is_here in
      let jump_unit = unit_price jump_at further (I.Jump last) tt first_so.there in
      let target_unit = unit_price to there (I.Target middle_kinds) tt at_to in
      let end_unit = unit_price last further (I.Target last_kinds) tt second_so.there in
      let branch_high = by_far_branch keeping lines befores_there place (I.Branch to) branch_stands to refl to_less in
      let jump_high = by_jump keeping lines befores_there jump_at (I.Jump last) jump_stands last refl last_less in
      let target_high = by_next keeping lines befores_there to (I.Target middle_kinds) target_stands refl in
      let end_high = by_next keeping lines befores_there last (I.Target last_kinds) end_stands refl in
      let branch_words = kept_at place here (I.Branch to) tt is_here in
      let jump_words = kept_at jump_at further (I.Jump last) tt first_so.there in
      let target_words = kept_at to there (I.Target middle_kinds) tt at_to in
      let end_words = kept_at last further (I.Target last_kinds) tt second_so.there in
      let second_sum = ap sum_from second_is in let third_sum = ap sum_from third_is in
      let second_high = ap high_from second_is in let third_high = ap high_from third_is in
      let first_part_sum = first_so.sum in let second_part_sum = second_so.sum in let first_part_high = first_so.high in
      let second_part_high = second_so.high in
      let three = prices.adds 2 1 in let two = prices.adds 1 1 in
      record {
        there = at_end;
        within = inside last (I.Target last_kinds) end_stands;
        sum = omega (
          arith,
          branch_sum,
          jump_sum,
          target_sum,
          end_sum,
          branch_unit,
          jump_unit,
          target_unit,
          end_unit,
          second_sum,
          third_sum,
          first_part_sum,
          second_part_sum,
          three,
          two,
        );
        high = omega (
          arith,
          branch_high,
          jump_high,
          target_high,
          end_high,
          branch_words,
          jump_words,
          target_words,
          end_words,
          second_high,
          third_high,
          first_part_high,
          second_part_high,
          part_low,
          first_low,
          second_low,
        );
      }

  pub pays_loop : (place second_place last room sum high : ℕ) (line end_line : Instruction) (open_loop : Open) (here there further outside : Before)
      → suc place ≡ second_place → place < last
      → slice_get lines place ≡ Some line → judged_at scope place here line ≡ Ok there → going_of line ≡ entering → IsUnit line
      → room_on_top here.kinds ≡ room
      → Way second_place there sum high last further → open_loop.start ≡ place → further.loops ≡ open_loop ∷ outside.loops
      → slice_get lines last ≡ Some end_line → judged_at scope last further end_line ≡ Ok outside → going_of end_line ≡ turning → IsUnit end_line
      → words_kept scope.locals further ≤ high
      → Way place here (pays.step 1 + room * (sum + pays.step 1)) (max (words_kept scope.locals here) (max high (words_kept scope.locals outside)))
      (suc last) outside
  pays_loop place second_place last room sum high line end_line open_loop here there further outside second_is less stands enters entering_so
      unit_line room_is turn start open_there at_last leaves turning_so unit_end end_low is_here at_most =
      let summing = summed scope budgets price in
      let keeping = at_a_time scope budgets in
      let at_second : found_at second_place ≡ there = ap found_at (sym second_is) ∙ on place here there line stands enters is_here in
      let in_second : second_place ≤ length lines = let inside_so = inside place line stands in omega (arith, inside_so, second_is) in
      let turn_so = turn at_second in_second in
      let at_end : found_at (suc last) ≡ outside = on last further outside end_line at_last leaves turn_so.there in
      let in_end : suc last ≤ length lines = inside last end_line at_last in
      -- the loop's end
      let open_loops : (found_at last).loops ≡ open_loop ∷ outside.loops = ap (λ (here : Before). here.loops) turn_so.there ∙ open_there in
      let link = subst (Linked scope lines befores_there spotted fits (ends_ahead scope lines befores_there spotted fits last) 0) open_loops
      (linked scope lines befores_there spotted fits last) in
      let ends : past scope lines befores_there spotted fits place ≡ suc last =
      ap (past scope lines befores_there spotted fits) (sym start) ∙ link.0
      ∙ ap (λ (ns : List ℕ). slice_index ns 0) (ends_at scope lines befores_there spotted fits last end_line at_last)
      ∙ closes_at end_line last (ends_ahead scope lines befores_there spotted fits (suc last)) turning_so in
      let far : place < past scope lines befores_there spotted fits place = omega (arith, ends, less) in
      let entry_sum = by_far_entry summing lines befores_there place line stands entering_so far in
      let entry_high = by_far_entry keeping lines befores_there place line stands entering_so far in
      let turn_sum = by_turn summing lines befores_there last end_line at_last turning_so in
      let turn_high = by_turn keeping lines befores_there last end_line at_last turning_so in
      let entry_unit = unit_price place here line unit_line is_here in
      let turn_unit = unit_price last further end_line unit_end turn_so.there in
      let entry_words = kept_at place here line unit_line is_here in
      let turn_words = kept_at last further end_line unit_end turn_so.there in
      let second_sum = ap sum_from second_is in let second_high = ap high_from second_is in
      let end_sum = ap sum_from ends in let end_high = ap high_from ends in
      let part_sum = turn_so.sum in let part_high = turn_so.high in
      let low = room_there (suc last) in_end in
      let end_low_is : kept (found_at (suc last)) ≡ kept outside = ap (words_kept scope.locals) at_end in
      let one_turn : sum_from (suc place) ≡ sum + pays.step 1 = omega (arith, second_sum, part_sum, turn_sum, turn_unit) in
      let room_here : room_on_top (found_at place).kinds ≡ room = ap (λ (here : Before). room_on_top here.kinds) is_here ∙ room_is in
      let turns : room_on_top (found_at place).kinds * sum_from (suc place) ≡ room * (sum + pays.step 1) = ap₂ (λ a b. a * b) room_here one_turn in
      record {
        there = at_end;
        within = in_end;
        sum = omega (arith, entry_sum, entry_unit, end_sum, turns);
        high = omega (arith, entry_high, entry_words, second_high, end_high, part_high, turn_high, turn_words, low, end_low_is, end_low);
      }

  unfoldable pub paying_account : Account scope lines pays
  paying_account = record {
    Way = Way;
    sum_at = price;
    high_at = words_at scope budgets;
    prices = prices;
    high_is = no_call;
    one = pays_one;
    next = pays_next;
    none = pays_none;
    choice = pays_choice;
    loop = pays_loop;
  }

  -- what the whole block comes to
  pub whole : (sum high : ℕ) (there : Before) → paying_account.Way 0 (before [] []) sum high (0 + length lines) there
      → words_kept scope.locals there ≤ high
      → (costs_ahead scope budgets price lines befores_there 0 ≡ sum) × (words_ahead scope budgets lines befores_there 0 ≡ high)
  unfolding paying_account
  whole sum high there way tall =
      let way_so = way (first_is scope lines befores_there spotted fits) (omega arith) in
      let same_end : 0 + length lines ≡ length lines = omega arith in
      let way_sum = way_so.sum in let way_high = way_so.high in
      let sum_there = ap sum_from same_end in let high_there = ap high_from same_end in
      let sum_end = end_is (summed scope budgets price) lines befores_there in
      let high_end = end_is (at_a_time scope budgets) lines befores_there in
      let is_there : found_at (length lines) ≡ there = ap found_at (sym same_end) ∙ way_so.there in
      let low : kept (found_at (length lines)) ≡ kept there = ap (words_kept scope.locals) is_there in
      (omega (arith, way_sum, sum_there, sum_end), omega (arith, way_high, high_there, high_end, low, tall))
