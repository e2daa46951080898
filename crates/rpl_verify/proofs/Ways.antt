-- Ways through a block that fits: none comes to more than the table's number, and one comes to that.
use Rattle.rw_base.proofs.Common.{◌≡◌, ◌⊎◌, inl, inr, ℕ, zero, suc, ◌+◌, ◌*◌, ◌≤◌, ◌<◌, max, Bool, true, false, nat_le, List, [], ◌∷◌, length, drop}
use Rattle.rw_base.proofs.Common.{Option, Some, None, Ok, IsSomeAnd, refl, sym, ap, ap₂, ◌∙◌, subst, arith, nat_tests, slice_get, slice_get_within}
use Rattle.rw_base.proofs.Common.{slice_index}
use Rattle.std.proofs.lemmas.Option.{slice_get_past}
use Rattle.std.proofs.Math.Nat.{mul-add, mul-le-mul_left, mul_assoc, mul_left_comm}
use Rattle.rpl_code.specs.declared.instruction.Instruction.{Instruction}
use Rattle.rpl_code.specs.declared.instruction.Instruction.TheVariants as I
use Rattle.rpl_tree.specs.Budget.{Budget}
use Rattle.rpl_verify.specs.Places.{Loop, visiting, mapping, closing, loop_end, loop_ends, spots}
use Rattle.rpl_verify.specs.Names.{Scope}
use Rattle.rpl_verify.specs.Fits.{Open, Before, before, before_at, befores, carried, declared_at, found, restarted, room_on_top, taken, then_do}
use Rattle.rpl_verify.specs.Budget.{Measure, onward, jumping, branching, entering, turning, going_of, at_a_time, most, summed, words_at}
use Rattle.rpl_verify.specs.Ways.{LeadsTo, LeadOn, IsMost, counted, words_kept_at, sum_on, turns_in_loops, words_on}
use Rattle.rpl_verify.proofs.KindFacts.{then_do_ok}
use Rattle.rpl_verify.proofs.Judged.{LoopsGoOn, Opens, named, opens_by}
use Rattle.rpl_verify.proofs.Loops.{ends_at, land, linked, past_it, loops_go_on_at, shut_at, judged_there, Linked, first_is}
use Rattle.rpl_verify.proofs.Costs.{costs_ahead, words_ahead, by_far_branch, by_far_entry, by_jump, by_next, by_turn, end_is}
use Rattle.rpl_verify.proofs.Stepping.{end_of_list}

-- ---- places that lead to later ones

-- what is here at a place, and what the rest from it comes to
module _ (join : ℕ → ℕ → ℕ) (lines : List Instruction) (here rest : ℕ → ℕ) where
  abbrev pub total : List ℕ → ℕ
  total [] = 0
  total (place ∷ way) = join (here place) (total way)

  -- no place that this one leads to has more, and one has it
  pub record Step (place : ℕ) (instruction : Instruction) : Type 0 where
    pub below : (next_place : ℕ) → LeadsTo instruction place next_place → join (here place) (rest next_place) ≤ rest place
    pub next : ℕ
    pub leads : LeadsTo instruction place next
    pub later : place < next
    pub inside : next ≤ length lines
    pub reached : join (here place) (rest next) ≡ rest place

  module _ (grows : (first low high : ℕ) → low ≤ high → join first low ≤ join first high) (ends : join (here (length lines)) 0 ≡ rest (length lines))
      (steps : (place : ℕ) (instruction : Instruction) → slice_get lines place ≡ Some instruction → Step place instruction) where
    at_end : (place : ℕ) → place ≡ length lines → join (here place) 0 ≡ rest place
    at_end place place_is = ap (λ n. join (here n) 0) place_is ∙ ends ∙ ap rest (sym place_is)

    further : (place next_place n : ℕ) (found : Option Instruction) → slice_get lines place ≡ found
        → IsSomeAnd found (λ i. LeadsTo i place next_place) → n ≤ rest next_place → join (here place) n ≤ rest place
    further place next_place n None found some_and at_most = absurd some_and
    further place next_place n (Some instruction) found some_and at_most =
        let grows_so = grows (here place) n (rest next_place) at_most in
        let steps_so = (steps place instruction found).below next_place some_and in omega (arith, grows_so, steps_so)

    bounded : (place : ℕ) (way : List ℕ) → LeadOn lines (place ∷ way) → total (place ∷ way) ≤ rest place
    bounded place [] lead_on = let at_end_so = at_end place lead_on in omega (arith, at_end_so)
    bounded place (next_place ∷ way) lead_on =
        further place next_place (total (next_place ∷ way)) (slice_get lines place) refl lead_on.0 (bounded next_place way lead_on.1)

    abbrev Found : ℕ → Type 0
    Found place = (way : List ℕ) × LeadOn lines (place ∷ way) × (total (place ∷ way) ≡ rest place)

    goes : (left place : ℕ) (found : Option Instruction) → slice_get lines place ≡ found → place ≤ length lines → length lines ≤ place + suc left
        → ((next_place : ℕ) → next_place ≤ length lines → length lines ≤ next_place + left → Found next_place) → Found place
    goes left place None found at_most far more =
        let end_of_list_so = end_of_list lines place found at_most in ([], end_of_list_so, at_end place end_of_list_so)
    goes left place (Some instruction) found at_most far more =
        let steps_so = steps place instruction found in
        let more_so = more steps_so.next steps_so.inside (omega (arith, far, steps_so.later)) in (
          steps_so.next ∷ more_so.0,
          (subst (λ o. IsSomeAnd o (λ i. LeadsTo i place steps_so.next)) (sym found) steps_so.leads, more_so.1),
          ap (join (here place)) more_so.2 ∙ steps_so.reached,
        )

    found_from : (left place : ℕ) → place ≤ length lines → length lines ≤ place + left → Found place
    found_from zero place at_most far = let place_is : place ≡ length lines = omega (arith, at_most, far) in ([], place_is, at_end place place_is)
    found_from (suc left) place at_most far = goes left place (slice_get lines place) refl at_most far (found_from left)

    pub most_of : (come : List ℕ → ℕ) (n : ℕ) → ((way : List ℕ) → total way ≡ come way) → rest 0 ≡ n → IsMost lines come n
    most_of come n same is =
        let found_from_so = found_from (length lines) 0 (omega arith) (omega arith) in
        record {
          each = λ way h. begun way h.0 h.1;
          one = 0 ∷ found_from_so.0;
          is_way = (refl, found_from_so.1);
          reached = sym (same (0 ∷ found_from_so.0)) ∙ found_from_so.2 ∙ is;
        }
      where
        begun : (way : List ℕ) → slice_get way 0 ≡ Some 0 → LeadOn lines way → come way ≤ n
        begun [] found lead_on = absurd lead_on
        begun (place ∷ way) found lead_on =
            let place_is : place ≡ 0 = cc found in
            let rest_is : rest place ≡ rest 0 = ap rest place_is in
            omega (arith, bounded place way lead_on, same (place ∷ way), rest_is, is)

-- ---- in a block that fits

module _ (scope : Scope) (lines : List Instruction) (befores_there : List Before) (spotted : scope.spots ≡ spots lines)
    (fits : befores scope 0 (before [] []) lines ≡ Ok befores_there) where
  abbrev before_place : ℕ → Before
  before_place place = before_at befores_there place

  abbrev past : ℕ → ℕ
  past start = loop_end (suc start) (drop (suc start) lines)

  -- what has to be shown of each way to go on
  pub record Cases (join : ℕ → ℕ → ℕ) (here rest : ℕ → ℕ) : Type 0 where
    pub on : (place : ℕ) (instruction : Instruction) → slice_get lines place ≡ Some instruction → going_of instruction ≡ onward
        → (before_place (suc place)).loops ≡ (before_place place).loops
        → join (here place) (rest (suc place)) ≡ rest place
    pub jump : (place : ℕ) (instruction : Instruction) (to : ℕ) → slice_get lines place ≡ Some instruction → going_of instruction ≡ jumping to
        → place < to → (before_place to).loops ≡ (before_place place).loops
        → join (here place) (rest to) ≡ rest place
    pub branch : (place : ℕ) (instruction : Instruction) (to : ℕ) → slice_get lines place ≡ Some instruction → going_of instruction ≡ branching to
        → place < to
        → (before_place (suc place)).loops ≡ (before_place place).loops → (before_place to).loops ≡ (before_place place).loops
        → max (join (here place) (rest (suc place))) (join (here place) (rest to)) ≡ rest place
    pub enter : (place : ℕ) (instruction : Instruction) (open_loop : Open) → slice_get lines place ≡ Some instruction
        → going_of instruction ≡ entering → place < past place
        → (before_place (suc place)).loops ≡ open_loop ∷ (before_place place).loops → open_loop.start ≡ place
        → open_loop.room ≡ room_on_top (before_place place).kinds
        → join (here place) (rest (suc place)) ≡ rest place
    pub turn : (place : ℕ) (instruction : Instruction) (open_loop : Open) → slice_get lines place ≡ Some instruction → going_of instruction ≡ turning
        → (before_place place).loops ≡ open_loop ∷ (before_place (suc place)).loops
        → past open_loop.start ≡ suc place
        → join (here place) (rest (suc place)) ≡ rest place

  module _ (join : ℕ → ℕ → ℕ) (here rest : ℕ → ℕ) (cases : Cases join here rest) where
    abbrev Stepped : ℕ → Instruction → Type 0
    Stepped place instruction = Step join lines here rest place instruction

    one_next : (place : ℕ) (instruction : Instruction) → slice_get lines place ≡ Some instruction
        → ((next_place : ℕ) → LeadsTo instruction place next_place → next_place ≡ suc place) → LeadsTo instruction place (suc place)
        → join (here place) (rest (suc place)) ≡ rest place → Stepped place instruction
    one_next place instruction found one leads_to join_is =
        record {
          below = λ q h. at q (one q h);
          next = suc place;
          leads = leads_to;
          later = omega arith;
          inside = omega (arith, slice_get_within lines place instruction found);
          reached = join_is;
        }
      where
        at : (next_place : ℕ) → next_place ≡ suc place → join (here place) (rest next_place) ≤ rest place
        at next_place next_place_is = let joined = ap (λ q. join (here place) (rest q)) next_place_is in omega (arith, joined, join_is)

    opening_step : (place : ℕ) (loop : Loop) (n : ℕ) (instruction : Instruction) → slice_get lines place ≡ Some instruction
        → going_of instruction ≡ entering
        → Opens scope place loop n (before_place place) (before_place (suc place)) → join (here place) (rest (suc place)) ≡ rest place
    opening_step place loop n instruction found going_of_is opens =
        let same : (before_place (suc place)).loops ≡ record {
          start = place;
          loop = loop;
          room = room_on_top (before_place place).kinds;
          under = opens.under;
        } ∷ (before_place place).loops =
        ap (λ (b : Before). b.loops) opens.news
        ∙ ap (λ m. record { start = place; loop = loop; room = m; under = opens.under } ∷ (before_place place).loops)
        (sym (ap room_on_top opens.top)) in
        let past_it_so =
        past_it scope lines befores_there spotted fits place
        (record { start = place; loop = loop; room = room_on_top (before_place place).kinds; under = opens.under })
        ((before_place place).loops) same in
        cases.enter place instruction _ found going_of_is (omega (arith, past_it_so.is, past_it_so.later)) same refl refl

    closing_step : (place : ℕ) (loop : Loop) (instruction : Instruction) → slice_get lines place ≡ Some instruction → going_of instruction ≡ turning
        → loop_ends place (drop place lines) ≡ suc place ∷ loop_ends (suc place) (drop (suc place) lines)
        → LoopsGoOn place (closing loop) ((before_place place).loops) (before_place (suc place)) → join (here place) (rest (suc place)) ≡ rest place
    closing_step place loop instruction found going_of_is ends loops_so =
        let first_so =
        subst (λ os. (past loops_so.0.start ≡ slice_index (loop_ends place (drop place lines)) 0)) loops_so.1
        (first_linked ((before_place place).loops) loops_so.0 ((before_place (suc place)).loops) loops_so.1
        (linked scope lines befores_there spotted fits place)) in
        cases.turn place instruction loops_so.0 found going_of_is loops_so.1 (first_so ∙ ap (λ ns. slice_index ns 0) ends)
      where
        first_linked : (open_loops : List Open) (open_loop : Open) (other_open_loops : List Open) → open_loops ≡ open_loop ∷ other_open_loops
            → Linked scope lines befores_there spotted fits (loop_ends place (drop place lines)) 0 open_loops
            → past open_loop.start ≡ slice_index (loop_ends place (drop place lines)) 0
        first_linked open_loops open_loop other_open_loops open_loops_is linked =
            (subst (Linked scope lines befores_there spotted fits (loop_ends place (drop place lines)) 0) open_loops_is linked).0

    branch_step : (place to : ℕ) → slice_get lines place ≡ Some (I.Branch to) → place < to → to ≤ length lines
        → max (join (here place) (rest (suc place))) (join (here place) (rest to)) ≡ rest place → Stepped place (I.Branch to)
    branch_step place to found far at_most max_is = by (nat_le (join (here place) (rest to)) (join (here place) (rest (suc place)))) refl
      where
        low : (next_place : ℕ) → (next_place ≡ suc place) ⊎ (next_place ≡ to) → join (here place) (rest next_place) ≤ rest place
        low next_place (inl place_is) = let joined = ap (λ q. join (here place) (rest q)) place_is in omega (arith, joined, max_is)
        low next_place (inr place_is) = let joined = ap (λ q. join (here place) (rest q)) place_is in omega (arith, joined, max_is)

        by : (truth : Bool) → nat_le (join (here place) (rest to)) (join (here place) (rest (suc place))) ≡ truth → Stepped place (I.Branch to)
        by true nat_le_is =
            let at_most_so : join (here place) (rest to) ≤ join (here place) (rest (suc place)) = grind (arith, nat_tests) in
            record {
              below = low;
              next = suc place;
              leads = inl refl;
              later = omega arith;
              inside = omega (arith, slice_get_within lines place (I.Branch to) found);
              reached = omega (arith, at_most_so, max_is);
            }
        by false nat_le_is =
            let below : join (here place) (rest (suc place)) < join (here place) (rest to) = grind (arith, nat_tests) in
            record { below = low; next = to; leads = inr refl; later = far; inside = at_most; reached = omega (arith, below, max_is) }

    pub step : (place : ℕ) (instruction : Instruction) → slice_get lines place ≡ Some instruction → Stepped place instruction
    step place (I.Jump to) found_so =
        let named_so =
        named scope place (before_place place) (I.Jump to) (before_place (suc place))
        (judged_there scope lines befores_there spotted fits place (I.Jump to) found_so) in
        let judged =
        then_do_ok (found scope place to (before_place place)) (λ declared.
        then_do (carried declared (before_place place)) (restarted (declared_at (slice_get scope.spots (suc place))))) (before_place (suc place))
        named_so.1 in
        let land_so = land scope lines befores_there spotted fits place to judged.0 judged.1 in
        let same_loops = cases.jump place (I.Jump to) to found_so refl land_so.0 land_so.1.same in
        record {
          below = λ q h. let joined = ap (λ q. join (here place) (rest q)) h in
              omega (arith, joined, same_loops);
          next = to;
          leads = refl;
          later = land_so.0;
          inside =
              omega (arith, slice_get_within lines to land_so.1.target land_so.1.at);
          reached = same_loops;
        }
    step place (I.Branch to) found_so =
        let named_so =
        named scope place (before_place place) (I.Branch to) (before_place (suc place))
        (judged_there scope lines befores_there spotted fits place (I.Branch to) found_so) in
        let judged =
        then_do_ok (found scope place to (before_place place))
        (λ declared. then_do (taken scope (I.Branch to) (before_place place)) (carried declared)) (before_place (suc place)) named_so.1 in
        let land_so = land scope lines befores_there spotted fits place to judged.0 judged.1 in
        branch_step place to found_so land_so.0 (omega (arith, slice_get_within lines to land_so.1.target land_so.1.at))
        (cases.branch place (I.Branch to) to found_so refl land_so.0
        (loops_go_on_at scope lines befores_there spotted fits place (I.Branch to) found_so) land_so.1.same)
    step place (I.Foreach n) found =
        let named_so =
        named scope place (before_place place) (I.Foreach n) (before_place (suc place))
        (judged_there scope lines befores_there spotted fits place (I.Foreach n) found) in
        one_next place (I.Foreach n) found (λ q h. h) refl
        (opening_step place visiting n (I.Foreach n) found refl
        (opens_by scope place visiting n (I.Foreach n) (before_place place) (before_place (suc place)) refl named_so.1))
    step place (I.Map n) found =
        let named_so =
        named scope place (before_place place) (I.Map n) (before_place (suc place))
        (judged_there scope lines befores_there spotted fits place (I.Map n) found) in
        one_next place (I.Map n) found (λ q h. h) refl (opening_step place mapping n (I.Map n) found refl
        (opens_by scope place mapping n (I.Map n) (before_place place) (before_place (suc place)) refl named_so.1))
    step place I.Next found =
        one_next place I.Next found (λ q h. h) refl
        (closing_step place visiting I.Next found refl (ends_at scope lines befores_there spotted fits place I.Next found)
        (loops_go_on_at scope lines befores_there spotted fits place I.Next found))
    step place I.Yield found =
        one_next place I.Yield found (λ q h. h) refl
        (closing_step place mapping I.Yield found refl (ends_at scope lines befores_there spotted fits place I.Yield found)
        (loops_go_on_at scope lines befores_there spotted fits place I.Yield found))
    step place instruction found =
        one_next place instruction found (λ q h. h) refl
        (cases.on place instruction found refl (loops_go_on_at scope lines befores_there spotted fits place instruction found))

  -- ---- counts

  module _ (budgets : List Budget) (price : Before → Instruction → ℕ) where
    abbrev measure : Measure
    measure = summed scope budgets price

    abbrev cost_from : ℕ → ℕ
    cost_from place = costs_ahead scope budgets price lines befores_there place

    -- what is behind the loops that are open
    abbrev outer : List Open → ℕ
    outer [] = 0
    outer (open_loop ∷ open_loops) = turns_in_loops open_loops * cost_from (past open_loop.start) + outer open_loops

    abbrev rest_in : List Open → ℕ → ℕ
    rest_in open_loops place = turns_in_loops open_loops * cost_from place + outer open_loops

    abbrev rest : ℕ → ℕ
    rest place = rest_in ((before_place place).loops) place

    abbrev here : ℕ → ℕ
    here place = counted price (before_place place) (slice_get lines place)

    here_is : (place : ℕ) (instruction : Instruction) → slice_get lines place ≡ Some instruction
        → here place ≡ turns_in_loops (before_place place).loops * price (before_place place) instruction
    here_is place instruction found = ap (counted price (before_place place)) found

    moved : (place next_place : ℕ) (instruction : Instruction) → slice_get lines place ≡ Some instruction
        → (before_place next_place).loops ≡ (before_place place).loops
        → here place + rest next_place ≡ turns_in_loops (before_place place).loops *
        (price (before_place place) instruction + cost_from next_place) + outer (before_place place).loops
    moved place next_place instruction found same =
        let rest_is : rest next_place ≡ rest_in ((before_place place).loops) next_place = ap (λ os. rest_in os next_place) same in
        omega (
          arith,
          here_is place instruction found,
          rest_is,
          mul-add (turns_in_loops (before_place place).loops) (price (before_place place) instruction) (cost_from next_place),
        )

    through : (turns its_price room inside behind outside : ℕ)
        → turns * its_price + ((room * turns) * inside + (turns * behind + outside)) ≡ turns * (its_price + (room * inside + behind)) + outside
    through turns its_price room inside behind outside =
        let same : (room * turns) * inside ≡ turns * (room * inside) = mul_assoc room turns inside ∙ mul_left_comm room turns inside in
        omega (arith, same, mul-add turns its_price (room * inside + behind), mul-add turns (room * inside) behind)

    larger : (turns first second : ℕ) → turns * max first second ≡ max (turns * first) (turns * second)
    larger turns first second = by (nat_le first second) refl
      where
        by : (truth : Bool) → nat_le first second ≡ truth → turns * max first second ≡ max (turns * first) (turns * second)
        by true nat_le_is =
            let at_most : first ≤ second = grind (arith, nat_tests) in
            let max_is : max first second ≡ second = omega (arith, at_most) in
            omega (arith, ap (λ n. turns * n) max_is, mul-le-mul_left turns at_most)
        by false nat_le_is =
            let at_most : second ≤ first = grind (arith, nat_tests) in
            let max_is : max first second ≡ first = omega (arith, at_most) in
            omega (arith, ap (λ n. turns * n) max_is, mul-le-mul_left turns at_most)

    on_case : (place : ℕ) (instruction : Instruction) → slice_get lines place ≡ Some instruction → going_of instruction ≡ onward
        → (before_place (suc place)).loops ≡ (before_place place).loops
        → here place + rest (suc place) ≡ rest place
    on_case place instruction found going_of_is same =
        moved place (suc place) instruction found same
        ∙ ap (λ n. turns_in_loops (before_place place).loops * n + outer (before_place place).loops)
        (sym (by_next measure lines befores_there place instruction found going_of_is))

    jump_case : (place : ℕ) (instruction : Instruction) (to : ℕ) → slice_get lines place ≡ Some instruction → going_of instruction ≡ jumping to
        → place < to → (before_place to).loops ≡ (before_place place).loops
        → here place + rest to ≡ rest place
    jump_case place instruction to found going_of_is far same =
        moved place to instruction found same
        ∙ ap (λ n. turns_in_loops (before_place place).loops * n + outer (before_place place).loops)
        (sym (by_jump measure lines befores_there place instruction found to going_of_is far))

    branch_case : (place : ℕ) (instruction : Instruction) (to : ℕ) → slice_get lines place ≡ Some instruction → going_of instruction ≡ branching to
        → place < to
        → (before_place (suc place)).loops ≡ (before_place place).loops → (before_place to).loops ≡ (before_place place).loops
        → max (here place + rest (suc place)) (here place + rest to) ≡ rest place
    branch_case place instruction to found going_of_is far same same_so =
        let n : ℕ = price (before_place place) instruction in
        let turns : ℕ = turns_in_loops (before_place place).loops in
        let max_is : max (n + cost_from (suc place)) (n + cost_from to) ≡ cost_from place =
        omega (arith, by_far_branch measure lines befores_there place instruction found to going_of_is far) in
        omega (
          arith,
          moved place (suc place) instruction found same,
          moved place to instruction found same_so,
          larger turns (n + cost_from (suc place)) (n + cost_from to),
          ap (λ x. turns * x) max_is,
        )

    enter_case : (place : ℕ) (instruction : Instruction) (open_loop : Open) → slice_get lines place ≡ Some instruction
        → going_of instruction ≡ entering → place < past place
        → (before_place (suc place)).loops ≡ open_loop ∷ (before_place place).loops → open_loop.start ≡ place
        → open_loop.room ≡ room_on_top (before_place place).kinds
        → here place + rest (suc place) ≡ rest place
    enter_case place instruction open_loop found going_of_is far same start_is room_is =
        let turns : ℕ = turns_in_loops (before_place place).loops in
        let n : ℕ = price (before_place place) instruction in
        let rest_is : rest (suc place) ≡ (open_loop.room * turns) * cost_from
        (suc place) + (turns * cost_from (past open_loop.start) + outer (before_place place).loops) =
        ap (λ os. rest_in os (suc place)) same in
        let same_so : (open_loop.room * turns) * cost_from (suc place) + (turns * cost_from (past open_loop.start) + outer (before_place place).loops)
        ≡ (open_loop.room * turns) * cost_from (suc place) + (turns * cost_from (past place) + outer (before_place place).loops) =
        ap (λ q. (open_loop.room * turns) * cost_from (suc place) + (turns * cost_from (past q) + outer (before_place place).loops)) start_is in
        let turns_is : turns * (n + (open_loop.room * cost_from (suc place) + cost_from (past place))) + outer (before_place place).loops
        ≡ rest place =
        ap (λ x. turns * (n + (x * cost_from (suc place) + cost_from (past place))) + outer (before_place place).loops) room_is
        ∙ ap (λ x. turns * x + outer (before_place place).loops)
        (sym (by_far_entry measure lines befores_there place instruction found going_of_is far)) in
        ap₂ (λ x y. x + y) (here_is place instruction found) (rest_is ∙ same_so)
        ∙ through turns n open_loop.room (cost_from (suc place)) (cost_from (past place)) (outer (before_place place).loops) ∙ turns_is

    turn_case : (place : ℕ) (instruction : Instruction) (open_loop : Open) → slice_get lines place ≡ Some instruction → going_of instruction ≡ turning
        → (before_place place).loops ≡ open_loop ∷ (before_place (suc place)).loops
        → past open_loop.start ≡ suc place → here place + rest (suc place) ≡ rest place
    turn_case place instruction open_loop found going_of_is same past_is =
        let turns : ℕ = turns_in_loops (before_place place).loops in
        let outer_is : outer (before_place place).loops
        ≡ turns_in_loops (before_place (suc place)).loops * cost_from (past open_loop.start) + outer (before_place (suc place)).loops =
        ap outer same in
        let turns_in_loops_is : turns_in_loops (before_place (suc place)).loops * cost_from (past open_loop.start)
        ≡ turns_in_loops (before_place (suc place)).loops * cost_from (suc place) =
        ap (λ q. turns_in_loops (before_place (suc place)).loops * cost_from q) past_is in
        let turns_is : turns * price (before_place place) instruction ≡ turns * cost_from place =
        ap (λ n. turns * n) (sym (by_turn measure lines befores_there place instruction found going_of_is)) in
        omega (arith, here_is place instruction found, outer_is, turns_in_loops_is, turns_is)

    ends : here (length lines) + 0 ≡ rest (length lines)
    ends =
        let n : ℕ = length lines in
        let found : slice_get lines n ≡ None = slice_get_past lines n (omega arith) in
        let same : (before_place n).loops ≡ [] = shut_at scope lines befores_there spotted fits n found in
        let rest_is : rest n ≡ 1 * cost_from n + 0 = ap (λ os. rest_in os n) same in
        let cost_from_is : cost_from n ≡ 0 = end_is measure lines befores_there in
        omega (arith, ap (counted price (before_place n)) found, rest_is, cost_from_is)

    same_sum : (way : List ℕ) → total (λ a b. a + b) lines here rest way ≡ sum_on befores_there lines price way
    same_sum [] = refl
    same_sum (place ∷ way) = ap (λ n. here place + n) (same_sum way)

    first_rest : rest 0 ≡ most measure befores_there lines
    first_rest = ap (λ os. rest_in os 0) (ap (λ (b : Before). b.loops) (first_is scope lines befores_there spotted fits)) ∙ omega arith

    pub sums_are_most : IsMost lines (sum_on befores_there lines price) (most measure befores_there lines)
    sums_are_most =
        most_of (λ a b. a + b) lines here rest (λ a x y le. omega (arith, le)) ends
        (step (λ a b. a + b) here rest (record { on = on_case; jump = jump_case; branch = branch_case; enter = enter_case; turn = turn_case }))
        (sum_on befores_there lines price) (most measure befores_there lines) same_sum first_rest

  -- ---- words

  module _ (budgets : List Budget) where
    abbrev at_once : Measure
    at_once = at_a_time scope budgets

    abbrev high_from : ℕ → ℕ
    high_from place = words_ahead scope budgets lines befores_there place

    -- the most behind the loops that are open
    abbrev outer_words : List Open → ℕ
    outer_words [] = 0
    outer_words (open_loop ∷ open_loops) = max (high_from (past open_loop.start)) (outer_words open_loops)

    abbrev words_from : ℕ → ℕ
    words_from place = max (high_from place) (outer_words (before_place place).loops)

    abbrev words_here : ℕ → ℕ
    words_here place = words_kept_at scope budgets (before_place place) (slice_get lines place)

    words_are : (place : ℕ) (instruction : Instruction) → slice_get lines place ≡ Some instruction
        → words_here place ≡ words_at scope budgets (before_place place) instruction
    words_are place instruction found = ap (words_kept_at scope budgets (before_place place)) found

    on_words : (place : ℕ) (instruction : Instruction) → slice_get lines place ≡ Some instruction → going_of instruction ≡ onward
        → (before_place (suc place)).loops ≡ (before_place place).loops
        → max (words_here place) (words_from (suc place)) ≡ words_from place
    on_words place instruction found going_of_is same =
        omega (arith, words_are place instruction found, by_next at_once lines befores_there place instruction found going_of_is, ap outer_words same)

    jump_words : (place : ℕ) (instruction : Instruction) (to : ℕ) → slice_get lines place ≡ Some instruction → going_of instruction ≡ jumping to
        → place < to → (before_place to).loops ≡ (before_place place).loops
        → max (words_here place) (words_from to) ≡ words_from place
    jump_words place instruction to found going_of_is far same =
        omega (
          arith,
          words_are place instruction found,
          by_jump at_once lines befores_there place instruction found to going_of_is far,
          ap outer_words same,
        )

    branch_words : (place : ℕ) (instruction : Instruction) (to : ℕ) → slice_get lines place ≡ Some instruction → going_of instruction ≡ branching to
        → place < to
        → (before_place (suc place)).loops ≡ (before_place place).loops → (before_place to).loops ≡ (before_place place).loops
        → max (max (words_here place) (words_from (suc place))) (max (words_here place) (words_from to)) ≡ words_from place
    branch_words place instruction to found going_of_is far same same_so =
        omega (
          arith,
          words_are place instruction found,
          by_far_branch at_once lines befores_there place instruction found to going_of_is far,
          ap outer_words same,
          ap outer_words same_so,
        )

    enter_words : (place : ℕ) (instruction : Instruction) (open_loop : Open) → slice_get lines place ≡ Some instruction
        → going_of instruction ≡ entering → place < past place
        → (before_place (suc place)).loops ≡ open_loop ∷ (before_place place).loops → open_loop.start ≡ place
        → open_loop.room ≡ room_on_top (before_place place).kinds
        → max (words_here place) (words_from (suc place)) ≡ words_from place
    enter_words place instruction open_loop found going_of_is far same start_is room_is =
        omega (
          arith,
          words_are place instruction found,
          by_far_entry at_once lines befores_there place instruction found going_of_is far,
          ap outer_words same,
          ap (λ q. high_from (past q)) start_is,
        )

    turn_words : (place : ℕ) (instruction : Instruction) (open_loop : Open) → slice_get lines place ≡ Some instruction
        → going_of instruction ≡ turning → (before_place place).loops ≡ open_loop ∷ (before_place (suc place)).loops
        → past open_loop.start ≡ suc place
        → max (words_here place) (words_from (suc place)) ≡ words_from place
    turn_words place instruction open_loop found going_of_is same past_is =
        omega (
          arith,
          words_are place instruction found,
          by_turn at_once lines befores_there place instruction found going_of_is,
          ap outer_words same,
          ap high_from past_is,
        )

    words_end : max (words_here (length lines)) 0 ≡ words_from (length lines)
    words_end =
        let n : ℕ = length lines in
        let found : slice_get lines n ≡ None = slice_get_past lines n (omega arith) in
        let same : (before_place n).loops ≡ [] = shut_at scope lines befores_there spotted fits n found in
        omega (arith, ap (words_kept_at scope budgets (before_place n)) found, ap outer_words same, end_is at_once lines befores_there)

    same_words : (way : List ℕ) → total max lines words_here words_from way ≡ words_on befores_there lines scope budgets way
    same_words [] = refl
    same_words (place ∷ way) = ap (λ n. max (words_here place) n) (same_words way)

    first_words : words_from 0 ≡ most at_once befores_there lines
    first_words =
        let same : (before_place 0).loops ≡ [] = ap (λ (b : Before). b.loops) (first_is scope lines befores_there spotted fits) in
        omega (arith, ap outer_words same)

    pub words_are_most : IsMost lines (words_on befores_there lines scope budgets) (most at_once befores_there lines)
    words_are_most =
        most_of max lines words_here words_from (λ a x y le. omega (arith, le)) words_end
        (step max words_here words_from (record { on = on_words; jump = jump_words; branch = branch_words; enter = enter_words; turn = turn_words }))
        (words_on befores_there lines scope budgets) (most at_once befores_there lines) same_words first_words
