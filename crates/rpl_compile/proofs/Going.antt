-- Lines that lead from what is before their first place to what is before the place behind them (`Goes`), whatever the account: single
-- instructions, and from them lines one behind another, the two parts of an IF, and a loop.
use Rattle.rpl_compile.proofs.Common.{Before, Bool, Err, Instruction, List, MissingOperand, Ok, Open, OperandRow, Option, Price, Result, Scope, Some}
use Rattle.rpl_compile.proofs.Common.{Spot, ValueKind, VerifyKind, WrongOperand, [], ap, ap₂, arith, before, carried, declared_at, drop}
use Rattle.rpl_compile.proofs.Common.{drop-append_seam, entering, goes_by, going_of, if_fits, if◌then◌else◌, judged_at, left_of, length}
use Rattle.rpl_compile.proofs.Common.{length-append, max, on_top_of, onward, operand_count, operand_row, operands_behind, or_wrong, refl, restarted}
use Rattle.rpl_compile.proofs.Common.{reverse, reverse-reverse, room_on_top, same_kinds_refl, slice_get, spots, subst, suc, sym, take}
use Rattle.rpl_compile.proofs.Common.{take-append_seam, taken, takes, then_do, turning, words_kept, ℕ, ◌*◌, ◌++◌, ◌+◌, ◌<◌, ◌∙◌, ◌∷◌, ◌≡◌, ◌≤◌}
use Rattle.rpl_code.specs.declared.kind.ValueKind.TheVariants as K
use Rattle.rpl_code.specs.declared.instruction.Instruction.TheVariants as I
use Rattle.rpl_compile.proofs.Counting.{Account, IsInvoke, IsUnit}
use Rattle.rpl_compile.proofs.Placing.{HasAt, declares_at, has_back, has_front, lands, level_on, openers_before, openers_of, opens_on}
use Rattle.rpl_compile.proofs.OfKind.{enough}

-- ---- operands

behind_row : (row : OperandRow) (kinds left under : List ValueKind) → operand_count row ≡ length kinds → left_of row kinds ≡ Ok left
    → operands_behind row (kinds ++ under) ≡ Ok (left ++ under)
behind_row row kinds left under counted accepted =
    ap (λ (test : Bool).
    if test then Err MissingOperand else on_top_of (drop (operand_count row) (kinds ++ under)) (left_of row (take (operand_count row) (kinds
    ++ under)))) (enough kinds under (operand_count row) (sym counted))
    ∙ ap₂ (λ d t. on_top_of d (left_of row t)) (ap (λ m. drop m (kinds ++ under)) counted ∙ drop-append_seam kinds under)
    (ap (λ m. take m (kinds ++ under)) counted ∙ take-append_seam kinds under)
    ∙ ap (on_top_of under) accepted

taken_kinds : (kinds left : List ValueKind) → left_of (takes kinds left) kinds ≡ Ok left
taken_kinds kinds left = ap (λ t. if t then Ok left else Err WrongOperand) (same_kinds_refl kinds)

module _ (scope : Scope) where
  -- an instruction that takes these kinds
  pub takes_kinds : (line : Instruction) (kinds left under : List ValueKind) (open_loops : List Open)
      → operand_row scope.heads scope.locals line ≡ takes kinds left
      → taken scope line (before (kinds ++ under) open_loops) ≡ Ok (before (left ++ under) open_loops)
  takes_kinds line kinds left under open_loops row =
      ap (λ (judged : Result (List ValueKind) VerifyKind). then_do judged (λ kinds. Ok (before kinds open_loops)))
      (ap (λ row. operands_behind row (kinds ++ under)) row ∙ behind_row (takes kinds left) kinds left under refl (taken_kinds kinds left))

  -- one that goes by kinds
  pub takes_by : (line : Instruction) (n : ℕ) (left_for : List ValueKind → Option (List ValueKind)) (kinds left under : List ValueKind)
      (open_loops : List Open)
      → operand_row scope.heads scope.locals line ≡ goes_by n left_for → n ≡ length kinds → left_for kinds ≡ Some left
      → taken scope line (before (kinds ++ under) open_loops) ≡ Ok (before (left ++ under) open_loops)
  takes_by line n left_for kinds left under open_loops row counted found =
      ap (λ (judged : Result (List ValueKind) VerifyKind). then_do judged (λ kinds. Ok (before kinds open_loops)))
      (ap (λ row. operands_behind row (kinds ++ under)) row ∙ behind_row (goes_by n left_for) kinds left under counted (ap or_wrong found))

  pub carries : (kinds : List ValueKind) (open_loops : List Open) → carried kinds (before kinds open_loops) ≡ Ok (before kinds open_loops)
  carries kinds open_loops = ap (λ t. if_fits t (before kinds open_loops)) (same_kinds_refl kinds)

  pub target_fits : (place : ℕ) (kinds : List ValueKind) (open_loops : List Open)
      → judged_at scope place (before kinds open_loops) (I.Target (reverse kinds)) ≡ Ok (before kinds open_loops)
  target_fits place kinds open_loops = ap (λ ls. carried ls (before kinds open_loops)) (reverse-reverse kinds) ∙ carries kinds open_loops

-- an IF over these kinds, whose parts both come to the same kinds
abbrev pub choosing : ℕ → ℕ → List ValueKind → List ValueKind → List Instruction → List Instruction → List Instruction
choosing to last below result first_lines second_lines =
    I.Branch to ∷ (first_lines ++ (I.Jump last ∷ I.Target (reverse below) ∷ (second_lines ++ I.Target (reverse result) ∷ [])))

module _ (scope : Scope) (lines : List Instruction) (spots_are : scope.spots ≡ spots lines) (pays : Price) (account : Account scope lines pays) where
  abbrev kept : Before → ℕ
  kept here = words_kept scope.locals here

  -- where these lines stand at a place, and the openers before it are those of the open loops, they lead from what is before the place to what is
  -- before the one behind them, come to so much, and keep so many words at most
  pub record Goes (first_lines : List Instruction) (place : ℕ) (here there : Before) (sum high : ℕ) : Type 0 where
    pub go : HasAt lines place first_lines → openers_before lines place ≡ openers_of here.loops
        → account.Way place here sum high (place + length first_lines) there
        × (openers_before lines (place + length first_lines) ≡ openers_of there.loops)
    pub tall : words_kept scope.locals there ≤ high

  pub goes_none : (place : ℕ) (here : Before) → Goes [] place here here 0 (words_kept scope.locals here)
  goes_none place here = record {
    go = λ placed openers.
        let place_is : place ≡ place + 0 = omega arith in
        subst (λ q. account.Way place here 0 (kept here) q here × (openers_before lines q ≡ openers_of here.loops)) place_is
        (account.none place here, openers);
    tall = omega arith;
  }

  pub goes_one : (place : ℕ) (here there : Before) (line : Instruction) → judged_at scope place here line ≡ Ok there → going_of line ≡ onward
      → Goes (line ∷ []) place here there (account.sum_at here line) (max (account.high_at here line) (words_kept scope.locals there))
  goes_one place here there line judged going = record {
    go = λ placed openers.
        let same_place : suc place ≡ place + 1 = omega arith in
        subst (λ q. account.Way place here (account.sum_at here line) (max (account.high_at here line) (kept there)) q there
        × (openers_before lines q ≡ openers_of there.loops)) same_place
        (account.one place here there line placed.0 judged going, opens_on scope lines spots_are place here there line placed.0 judged openers);
    tall = omega arith;
  }

  pub goes_then : {first_lines second_lines : List Instruction} {place second_place sum other_sum high other_high : ℕ} {here there further : Before}
      → second_place ≡ place + length first_lines → Goes first_lines place here there sum high
      → Goes second_lines second_place there further other_sum other_high
      → Goes (first_lines ++ second_lines) place here further (sum + other_sum) (max high other_high)
  goes_then {first_lines} {second_lines} {place} {second_place} {sum} {other_sum} {high} {other_high} {here} {there}
      {further} second_place_is first second = record {
        go = λ placed openers.
            let first_way = first.go (has_front lines place first_lines second_lines placed) openers in
            let stands_there : HasAt lines second_place second_lines =
            subst (λ n. HasAt lines n second_lines) (sym second_place_is) (has_back lines place first_lines second_lines placed) in
            let open_there : openers_before lines second_place ≡ openers_of there.loops = ap (openers_before lines) second_place_is ∙ first_way.1 in
            let second_way = second.go stands_there open_there in
            let same_end : second_place + length second_lines ≡ place + length (first_lines ++ second_lines) =
            omega (arith, second_place_is, length-append first_lines second_lines) in
            subst (λ r. account.Way place here (sum + other_sum) (max high other_high) r further
            × (openers_before lines r ≡ openers_of further.loops))
            same_end (
              account.next place second_place (second_place + length second_lines) sum high other_sum other_high here there further
                  (subst (λ n. account.Way place here sum high n there) (sym second_place_is) first_way.0) second_way.0,
              second_way.1,
            );
        tall = let second_tall = second.tall in omega (arith, second_tall);
      }

  -- an instruction that comes to so much and calls no block
  pub goes_line : {line : Instruction} {place sum : ℕ} {here there : Before} → judged_at scope place here line ≡ Ok there → going_of line ≡ onward
      → (IsInvoke line → ⊥)
      → account.sum_at here line ≡ sum
      → Goes (line ∷ []) place here there sum (max (words_kept scope.locals here) (words_kept scope.locals there))
  goes_line {line} {place} {sum} {here} {there} judged going none sum_is =
      subst (λ n. Goes (line ∷ []) place here there n (max (kept here) (kept there))) sum_is
      (subst (λ n. Goes (line ∷ []) place here there (account.sum_at here line) (max n (kept there))) (account.high_is here line none)
      (goes_one place here there line judged going))

  -- what is before the place behind them, written otherwise
  pub goes_to : {first_lines : List Instruction} {place sum high : ℕ} {here there further : Before} → there ≡ further
      → Goes first_lines place here there sum high → Goes first_lines place here further sum high
  goes_to {first_lines} {place} {sum} {high} {here} {there} {further} there_is way = subst (λ c. Goes first_lines place here c sum high) there_is way

  -- what they come to, written otherwise
  pub goes_as : {first_lines : List Instruction} {place sum other_sum high other_high : ℕ} {here there : Before}
      → Goes first_lines place here there sum high → sum ≡ other_sum → high ≡ other_high → Goes first_lines place here there other_sum other_high
  goes_as {first_lines} {place} {sum} {other_sum} {high} {other_high} {here} {there} way sum_is high_is =
      subst (λ n. Goes first_lines place here there n other_high) sum_is (subst (λ n. Goes first_lines place here there sum n) high_is way)

  -- the branch and the jump of an IF
  branch_fits : (place to : ℕ) (below : List ValueKind) (open_loops : List Open) → place < to → slice_get lines to ≡ Some (I.Target (reverse below))
      → openers_before lines to ≡ openers_of open_loops
      → judged_at scope place (before (K.B ∷ below) open_loops) (I.Branch to) ≡ Ok (before below open_loops)
  branch_fits place to below open_loops less stands openers =
      let here : Before = before (K.B ∷ below) open_loops in
      ap (λ (f : Result (List ValueKind) VerifyKind). then_do f (λ declared. then_do (taken scope (I.Branch to) here) (carried declared)))
      (lands scope lines spots_are place to here below less stands openers)
      ∙ ap (λ (judged : Result Before VerifyKind). then_do judged (carried below))
      (takes_kinds scope (I.Branch to) (K.B ∷ []) [] below open_loops refl)
      ∙ carries scope below open_loops

  jump_fits : (place to : ℕ) (below result : List ValueKind) (open_loops : List Open) → place < to
      → slice_get lines (suc place) ≡ Some (I.Target (reverse below))
      → slice_get lines to ≡ Some (I.Target (reverse result)) → openers_before lines to ≡ openers_of open_loops
      → judged_at scope place (before result open_loops) (I.Jump to) ≡ Ok (before below open_loops)
  jump_fits place to below result open_loops less target_stands end_stands openers =
      let here : Before = before result open_loops in
      ap (λ (f : Result (List ValueKind) VerifyKind). then_do f
      (λ declared. then_do (carried declared here) (restarted (declared_at (slice_get scope.spots (suc place))))))
      (lands scope lines spots_are place to here result less end_stands openers)
      ∙ ap (λ (judged : Result Before VerifyKind). then_do judged (restarted (declared_at (slice_get scope.spots (suc place)))))
      (carries scope result open_loops)
      ∙ ap (λ (s : Option Spot). restarted (declared_at s) here) (declares_at scope lines spots_are (suc place) below target_stands)

  pub goes_choice : (first_lines second_lines : List Instruction) (place second_place to third_place last sum high other_sum other_high : ℕ)
      (below result : List ValueKind) (open_loops : List Open) → second_place ≡ place + 1
      → to ≡ second_place + length first_lines + 1 → third_place ≡ to + 1
      → last ≡ third_place + length second_lines → Goes first_lines second_place (before below open_loops) (before result open_loops) sum high
      → Goes second_lines third_place (before below open_loops) (before result open_loops) other_sum other_high
      → Goes (choosing to last below result first_lines second_lines) place (before (K.B ∷ below) open_loops) (before result open_loops)
      (max sum other_sum + pays.step 3)
      (max (words_kept scope.locals (before (K.B ∷ below) open_loops)) (max high other_high))
  goes_choice first_lines second_lines place second_place to third_place last sum high other_sum other_high below result open_loops second_is to_is
      third_is last_is first second = record {
        go = λ placed openers.
            let jump_at : ℕ = second_place + length first_lines in
            let others : List Instruction = second_lines ++ I.Target (reverse result) ∷ [] in
            let rest : List Instruction = I.Jump last ∷ I.Target (reverse below) ∷ others in
            let before_branch : Before = before (K.B ∷ below) open_loops in
            let before_part : Before = before below open_loops in
            let before_end : Before = before result open_loops in
            -- places
            let second_next : suc place ≡ second_place = omega (arith, second_is) in
            let to_next : suc jump_at ≡ to = omega (arith, to_is) in
            let third_next : suc to ≡ third_place = omega (arith, third_is) in
            let last_next : third_place + length second_lines ≡ last = sym last_is in
            let first_counted = length-append first_lines rest in
            let second_counted = length-append second_lines (I.Target (reverse result) ∷ []) in
            let end_next : suc last ≡ place + length (choosing to last below result first_lines second_lines) =
            omega (arith, second_is, to_is, third_is, last_is, first_counted, second_counted) in
            -- what stands there
            let second_stands : HasAt lines second_place (first_lines ++ rest) =
            subst (λ n. HasAt lines n (first_lines ++ rest)) second_next placed.1 in
            let jump_stands : HasAt lines jump_at rest = has_back lines second_place first_lines rest second_stands in
            let to_stands : slice_get lines to ≡ Some (I.Target (reverse below)) = ap (slice_get lines) (sym to_next) ∙ jump_stands.1.0 in
            let third_stands : HasAt lines third_place others =
            subst (λ n. HasAt lines n others) third_next (subst (λ n. HasAt lines (suc n) others) to_next jump_stands.1.1) in
            let last_stands : slice_get lines last ≡ Some (I.Target (reverse result)) =
            ap (slice_get lines) last_is ∙ (has_back lines third_place second_lines (I.Target (reverse result) ∷ []) third_stands).0 in
            -- which loops are open
            let second_openers : openers_before lines second_place ≡ openers_of open_loops = ap (openers_before lines) (sym second_next)
            ∙ level_on lines place (I.Branch to) placed.0 refl ∙ openers in
            let first_way = first.go (has_front lines second_place first_lines rest second_stands) second_openers in
            let to_openers : openers_before lines to ≡ openers_of open_loops =
            ap (openers_before lines) (sym to_next) ∙ level_on lines jump_at (I.Jump last) jump_stands.0 refl ∙ first_way.1 in
            let third_openers : openers_before lines third_place ≡ openers_of open_loops =
            ap (openers_before lines) (sym third_next) ∙ level_on lines to (I.Target (reverse below)) to_stands refl ∙ to_openers in
            let second_way = second.go (has_front lines third_place second_lines (I.Target (reverse result) ∷ []) third_stands) third_openers in
            let last_openers : openers_before lines last ≡ openers_of open_loops = ap (openers_before lines) last_is ∙ second_way.1 in
            let end_openers : openers_before lines (suc last) ≡ openers_of open_loops =
            level_on lines last (I.Target (reverse result)) last_stands refl
            ∙ last_openers in
            let base : kept before_part ≤ kept before_branch = omega arith in
            let all : account.Way place before_branch (max sum other_sum + pays.step 3) (max (kept before_branch) (max high other_high))
            (suc last) before_end =
            account.choice place second_place jump_at to third_place last sum high other_sum other_high (reverse below)
            (reverse result) before_branch before_part before_end second_next to_next third_next (omega (arith, second_is, to_is))
            (omega (arith, to_is, third_is, last_is))
            placed.0 (branch_fits place to below open_loops (omega (arith, second_is, to_is)) to_stands to_openers) first_way.0
            jump_stands.0
            (jump_fits jump_at last below result open_loops (omega (arith, to_is, third_is, last_is)) jump_stands.1.0 last_stands last_openers)
            to_stands (target_fits scope to below open_loops)
            (subst (λ n. account.Way third_place before_part other_sum other_high n before_end) last_next second_way.0)
            last_stands (target_fits scope last result open_loops) base first.tall second.tall in
            subst (λ n.
            account.Way place before_branch (max sum other_sum + pays.step 3) (max (kept before_branch) (max high other_high)) n before_end
            × (openers_before lines n ≡ openers_of open_loops)) end_next (all, end_openers);
        tall = let second_tall = second.tall in omega (arith, second_tall);
      }

  -- a loop, which its first and last line open and close
  pub goes_loop : (first_lines : List Instruction) (place second_place last room sum high : ℕ) (line end_line : Instruction) (open_loop : Open)
      (here there further outside : Before) → second_place ≡ place + 1 → last ≡ second_place + length first_lines
      → judged_at scope place here line ≡ Ok there → going_of line ≡ entering → IsUnit line → room_on_top here.kinds ≡ room
      → Goes first_lines second_place there further sum high → open_loop.start ≡ place
      → further.loops ≡ open_loop ∷ outside.loops
      → judged_at scope last further end_line ≡ Ok outside → going_of end_line ≡ turning → IsUnit end_line
      → Goes (line ∷ (first_lines ++ end_line ∷ [])) place here outside (pays.step 1 + room * (sum + pays.step 1))
      (max (words_kept scope.locals here) (max high (words_kept scope.locals outside)))
  goes_loop first_lines place second_place last room sum high line end_line open_loop here there further outside second_is last_is enters is_entering
      line_unit room_is body start opened_here leaves is_turning end_unit = record {
        go = λ placed openers.
            let second_next : suc place ≡ second_place = omega (arith, second_is) in
            let counted = length-append first_lines (end_line ∷ []) in
            let end_next : suc last ≡ place + length (line ∷ (first_lines ++ end_line ∷ [])) = omega (arith, second_is, last_is, counted) in
            let second_stands : HasAt lines second_place (first_lines ++ end_line ∷ []) =
            subst (λ n. HasAt lines n (first_lines ++ end_line ∷ [])) second_next placed.1 in
            let last_stands : slice_get lines last ≡ Some end_line = ap (slice_get lines) last_is
            ∙ (has_back lines second_place first_lines (end_line ∷ []) second_stands).0 in
            let second_openers : openers_before lines second_place ≡ openers_of there.loops =
            ap (openers_before lines) (sym second_next) ∙ opens_on scope lines spots_are place here there line placed.0 enters openers in
            let body_way = body.go (has_front lines second_place first_lines (end_line ∷ []) second_stands) second_openers in
            let last_openers : openers_before lines last ≡ openers_of further.loops = ap (openers_before lines) last_is ∙ body_way.1 in
            let end_openers : openers_before lines (suc last) ≡ openers_of outside.loops =
            opens_on scope lines spots_are last further outside end_line last_stands leaves last_openers in
            let inside : account.Way second_place there sum high last further =
            subst (λ n. account.Way second_place there sum high n further) (sym last_is) body_way.0 in
            let all : account.Way place here (pays.step 1 + room * (sum + pays.step 1)) (max (kept here) (max high (kept outside)))
            (suc last) outside =
            account.loop place second_place last room sum high line end_line open_loop here there further outside second_next
            (omega (arith, second_is, last_is)) placed.0 enters is_entering line_unit room_is inside start opened_here last_stands leaves is_turning
            end_unit body.tall in
            subst (λ n. account.Way place here (pays.step 1 + room * (sum + pays.step 1)) (max (kept here) (max high (kept outside))) n outside
            × (openers_before lines n ≡ openers_of outside.loops)) end_next (all, end_openers);
        tall = omega arith;
      }
