-- The claims of IF, and of OR and AND, which stand for an IF each: where their lines stand (`ChoiceAt`), and how either part ends (`EndsAt`).
use Rattle.rpl_compile.proofs.Common.{And, Bool, Env, Frame, Instruction, IsKinded, Kind, List, Or, Outcome, Running, Site, Some, State, Tree, Value}
use Rattle.rpl_compile.proofs.Common.{[], a_truth, after, after_room, after_tree, ap, ap₂, arith, choice, choice_lines, chosen, code_kinds, code_of}
use Rattle.rpl_compile.proofs.Common.{false, gives, keeping, kind_at, kind_in, kinds_of, length, local_count, local_kinds, names_in, on, refl}
use Rattle.rpl_compile.proofs.Common.{room_lines, size, slice_get, spent, subst, suc, sym, target, tree_kind, true, truth_kind, two, value_of}
use Rattle.rpl_compile.proofs.Common.{widened, widening_size, ℕ, ◌++◌, ◌+◌, ◌>>=◌, ◌∙◌, ◌∷◌, ◌≡◌, ◌≤◌}
use Rattle.rpl_code.specs.declared.instruction.Instruction.TheVariants as I
use Rattle.rpl_compile.proofs.Goes.{Goes, after_after, goes_bind, goes_first, goes_none, goes_one, goes_weaker}
use Rattle.rpl_compile.proofs.OfKind.{At, HasKind, at_back, at_front, at_head, at_moved, at_second, at_tail, kind_coded, truth_is}
use Rattle.rpl_compile.proofs.Sizes.{beside, code-size, widening-size}
use Rattle.rpl_compile.proofs.LocalSizes.{locals_size}
use Rattle.rpl_compile.proofs.Setting.{Claim, Here, Kept, Left, Setting, frame_at, goes_at, heads_in, here_on, left, names_same, part, same_kept}
use Rattle.rpl_compile.proofs.Setting.{then_kept}
use Rattle.rpl_compile.proofs.Steps.{goes_in, goes_over, jumps, meets, operates}
use Rattle.rpl_compile.proofs.Room.{in_room}

module _ (setting : Setting) where
  -- the lines of an IF, from its condition on: its first part ends at the middle place and its second at the last
  pub record ChoiceAt (place condition_size middle_place last : ℕ) (below result : List Kind)
      (condition first second : List Instruction) : Type 0 where
    pub condition_at : At setting.block.lines place condition
    pub forks : slice_get setting.block.lines (place + condition_size) ≡ Some (I.Branch (middle_place + 1))
    pub first_at : At setting.block.lines (place + condition_size + 1) first
    pub jump : slice_get setting.block.lines middle_place ≡ Some (I.Jump last)
    pub landing : slice_get setting.block.lines (middle_place + 1) ≡ Some (target below)
    pub second_at : At setting.block.lines (middle_place + 2) second
    pub end : slice_get setting.block.lines last ≡ Some (target result)

  pub choice_at : (place condition_size first_size second_size : ℕ) (middle last : Site) (result : List Kind)
      (condition first second : List Instruction)
      → length condition ≡ condition_size → length first ≡ first_size → length second ≡ second_size
      → place + condition_size + 1 + first_size ≡ middle.place → middle.place + 2 + second_size ≡ last.place
      → At setting.block.lines place (choice_lines middle last result condition first second)
      → ChoiceAt place condition_size middle.place last.place middle.below result condition first second
  choice_at place condition_size first_size second_size middle last result condition first second condition_counted first_counted second_counted
      middle_is last_is placed =
      let lines = setting.block.lines in
      let behind_second : List Instruction = second ++ target result ∷ [] in
      let behind_first : List Instruction = I.Jump last.place ∷ target middle.below ∷ behind_second in
      let behind_condition : List Instruction = I.Branch (middle.place + 1) ∷ (first ++ behind_first) in
      let branch_placed = at_back lines place condition_size condition behind_condition condition_counted placed in
      let first_placed = at_tail lines (place + condition_size) (I.Branch (middle.place + 1)) (first ++ behind_first) branch_placed in
      let jump_placed =
      at_moved lines (place + condition_size + 1 + first_size) middle.place behind_first middle_is
      (at_back lines (place + condition_size + 1) first_size first behind_first first_counted first_placed) in
      let second_placed = at_second lines middle.place (I.Jump last.place) (target middle.below) behind_second jump_placed in
      let end_placed = at_moved lines (middle.place + 2 + second_size) last.place (target result ∷ []) last_is
      (at_back lines (middle.place + 2) second_size second (target result ∷ []) second_counted second_placed) in
      record {
        condition_at = at_front lines place condition behind_condition placed;
        forks = at_head lines (place + condition_size) (I.Branch (middle.place + 1)) (first ++ behind_first) branch_placed;
        first_at = at_front lines (place + condition_size + 1) first behind_first first_placed;
        jump = at_head lines middle.place (I.Jump last.place) (target middle.below ∷ behind_second) jump_placed;
        landing = at_head lines (middle.place + 1) (target middle.below) behind_second
            (at_tail lines middle.place (I.Jump last.place) (target middle.below ∷ behind_second) jump_placed);
        second_at = at_front lines (middle.place + 2) second (target result ∷ []) second_placed;
        end = at_head lines last.place (target result) [] end_placed;
      }

  -- a part of an IF ends at a place with operands of these kinds, from which what is wanted holds one place behind another
  abbrev pub EndsAt : {A : Type 0} → ℕ → ℕ → List Kind → List Running → List Frame → (A → State → Type 0) → A → State → Type 0
  EndsAt end past result loops callers Wanted made state = (locals_now : List Value) × (operands : List Value)
      × (state ≡ frame_at setting end locals_now operands loops ∷ callers) × (kinds_of operands ≡ code_kinds result)
      × Wanted made (frame_at setting past locals_now operands loops ∷ callers)

  pub chosen_goes : {A : Type 0} (branch_place middle_place last : ℕ) (below result : List Kind) (truth_value : Value)
      (locals_now operands : List Value) (loops : List Running)
      (callers : List Frame) (first second : Outcome A) (Wanted : A → State → Type 0)
      → slice_get setting.block.lines branch_place ≡ Some (I.Branch (middle_place + 1))
      → slice_get setting.block.lines middle_place ≡ Some (I.Jump last)
      → slice_get setting.block.lines (middle_place + 1) ≡ Some (target below) → slice_get setting.block.lines last ≡ Some (target result)
      → kinds_of operands ≡ code_kinds below → HasKind truth_kind truth_value
      → Goes setting.code setting.world (frame_at setting (branch_place + 1) locals_now operands loops ∷ callers) first
      (EndsAt middle_place (suc last) result loops callers Wanted)
      → Goes setting.code setting.world (frame_at setting (middle_place + 2) locals_now operands loops ∷ callers) second
      (EndsAt last (suc last) result loops callers Wanted)
      → Goes setting.code setting.world (frame_at setting branch_place locals_now (truth_value ∷ operands) loops ∷ callers)
      (chosen truth_value first second) Wanted
  chosen_goes
      {A = A} branch_place middle_place last below result truth_value locals_now operands loops callers first second Wanted branch_stands jump_stands
      landing_stands end_stands kinds_below has_kind first_goes second_goes =
      let truth_so = truth_is truth_value has_kind in
      subst (λ a_value.
      Goes setting.code setting.world (frame_at setting branch_place locals_now (a_value ∷ operands) loops ∷ callers)
      (chosen a_value first second) Wanted) (sym truth_so.1) (by truth_so.0)
    where
      after_first : (made : A) (state : State) → EndsAt middle_place (suc last) result loops callers Wanted made state
          → Goes setting.code setting.world state (gives made 2) Wanted
      after_first made state ends =
          subst (λ s. Goes setting.code setting.world s (gives made 2) Wanted) (sym ends.2)
          (goes_first setting.code setting.world (frame_at setting middle_place ends.0 ends.1 loops) callers
          (frame_at setting last ends.0 ends.1 loops ∷ callers) (spent 1) (gives made 1) Wanted
          (jumps setting middle_place last ends.0 ends.1 loops callers result jump_stands end_stands ends.3)
          (goes_one setting.code setting.world (frame_at setting last ends.0 ends.1 loops) callers
          (frame_at setting (suc last) ends.0 ends.1 loops ∷ callers) (spent 1) made Wanted
          (meets setting last ends.0 ends.1 loops callers result end_stands ends.3) ends.4))

      after_second : (made : A) (state : State) → EndsAt last (suc last) result loops callers Wanted made state
          → Goes setting.code setting.world state (gives made 1) Wanted
      after_second made state ends =
          subst (λ s. Goes setting.code setting.world s (gives made 1) Wanted) (sym ends.2)
          (goes_one setting.code setting.world (frame_at setting last ends.0 ends.1 loops) callers
          (frame_at setting (suc last) ends.0 ends.1 loops ∷ callers) (spent 1) made Wanted
          (meets setting last ends.0 ends.1 loops callers result end_stands ends.3) ends.4)

      by : (test : Bool)
          → Goes setting.code setting.world (frame_at setting branch_place locals_now (a_truth test ∷ operands) loops ∷ callers)
          (chosen (a_truth test) first second) Wanted
      by true =
          let same_place : branch_place + 1 ≡ suc branch_place = omega arith in
          goes_first setting.code setting.world (frame_at setting branch_place locals_now (a_truth true ∷ operands) loops) callers
          (frame_at setting (suc branch_place) locals_now operands loops ∷ callers) (spent 1) (first >>= (λ a_value. gives a_value 2))
          Wanted (goes_in setting branch_place (middle_place + 1) locals_now operands loops callers branch_stands)
          (goes_at setting (branch_place + 1) (suc branch_place) locals_now operands loops callers
          (first >>= (λ a_value. gives a_value 2)) Wanted same_place
          (goes_bind setting.code setting.world (frame_at setting (branch_place + 1) locals_now operands loops ∷ callers) first
          (λ a_value. gives a_value 2) (EndsAt middle_place (suc last) result loops callers Wanted) Wanted first_goes
          after_first))
      by false =
          let same_place : middle_place + 2 ≡ suc (middle_place + 1) = omega arith in
          let outcome : Outcome A = second >>= (λ a_value. gives a_value 1) in
          subst (λ m. Goes setting.code setting.world (frame_at setting branch_place locals_now (a_truth false ∷ operands) loops ∷ callers) m Wanted)
          (after_after (spent 1) (spent 1) outcome)
          (goes_first setting.code setting.world (frame_at setting branch_place locals_now (a_truth false ∷ operands) loops) callers
          (frame_at setting (middle_place + 1) locals_now operands loops ∷ callers) (spent 1) (after (spent 1) outcome) Wanted
          (goes_over setting branch_place (middle_place + 1) locals_now operands loops callers below branch_stands landing_stands kinds_below)
          (goes_first setting.code setting.world (frame_at setting (middle_place + 1) locals_now operands loops) callers
          (frame_at setting (suc (middle_place + 1)) locals_now operands loops ∷ callers) (spent 1) outcome Wanted
          (meets setting (middle_place + 1) locals_now operands loops callers below landing_stands kinds_below)
          (goes_at setting (middle_place + 2) (suc (middle_place + 1)) locals_now operands loops callers outcome Wanted same_place
          (goes_bind setting.code setting.world (frame_at setting (middle_place + 2) locals_now operands loops ∷ callers) second
          (λ a_value. gives a_value 1) (EndsAt last (suc last) result loops callers Wanted) Wanted second_goes
          after_second))))

  -- an expression ends as a part of an IF does
  left_ends : (kind : Kind) (below : List Kind) (free more end middle_place last past : ℕ) (locals locals_now operands : List Value)
      (loops : List Running) (callers : List Frame) (state : State)
      (outcome : Outcome Value)
      → end ≡ middle_place → suc last ≡ past → free ≤ more → Kept free locals locals_now → kinds_of operands ≡ code_kinds below
      → Goes setting.code setting.world state outcome (Left setting kind more end locals_now operands loops callers)
      → Goes setting.code setting.world state outcome
      (EndsAt middle_place (suc last) (kind ∷ below) loops callers (Left setting kind free past locals operands loops callers))
  left_ends kind below free more end middle_place last past locals locals_now operands loops callers state outcome end_is past_is at_most kept
      kinds_below goes =
      goes_weaker setting.code setting.world state outcome (Left setting kind more end locals_now operands loops callers)
      (EndsAt middle_place (suc last) (kind ∷ below) loops callers (Left setting kind free past locals operands loops callers))
      (λ a_value next_state leaves. (
        leaves.locals_behind,
        a_value ∷ operands,
        leaves.is ∙ ap (λ n. frame_at setting n leaves.locals_behind (a_value ∷ operands) loops ∷ callers) end_is,
        ap₂ (λ a b. a ∷ b) (kind_coded kind a_value leaves.of_kind) kinds_below,
        left setting kind free past (suc last) locals leaves.locals_behind operands loops callers a_value past_is leaves.of_kind
            (then_kept free more locals locals_now leaves.locals_behind at_most kept leaves.kept),
      )) goes

  -- ---- the forms

  pub on_choice : (condition if_true if_false : Tree) → Claim setting condition → Claim setting if_true → Claim setting if_false
      → Claim setting (choice condition if_true if_false)
  on_choice condition if_true if_false claim_of_condition claim_of_if_true claim_of_if_false site environment locals operands loops callers wants
      here =
      let names = names_in site.scope in
      let kind = kind_at (heads_in setting) site (choice condition if_true if_false) in
      let condition_size = size (heads_in setting) names condition in
      let first : Site = on 1 (after_tree setting.callees condition site) in
      let middle : Site = after_room setting.callees kind first if_true in
      let second : Site = on 2 middle in
      let last : Site = after_room setting.callees kind second if_false in
      let first_size : ℕ = size (heads_in setting) names if_true + widening_size kind (kind_at (heads_in setting) site if_true) in
      let second_size : ℕ = size (heads_in setting) names if_false + widening_size kind (kind_at (heads_in setting) site if_false) in
      let choice_so =
      choice_at site.place condition_size first_size second_size middle last (kind ∷ site.below) (code_of setting.callees site condition)
      (code_of setting.callees first if_true ++ room_lines setting.callees kind first if_true)
      (code_of setting.callees second if_false ++ room_lines setting.callees kind second if_false)
      (code-size setting.world.basin setting.callees site condition wants.2.0)
      (beside _ _ (code-size setting.world.basin setting.callees first if_true wants.2.2)
      (widening-size kind (kind_at (heads_in setting) site if_true)))
      (beside _ _ (code-size setting.world.basin setting.callees second if_false wants.2.4)
      (widening-size kind (kind_at (heads_in setting) site if_false)))
      (omega arith) (omega arith) wants.0 in
      let condition_locals = local_kinds (heads_in setting) names condition in
      let true_locals = local_kinds (heads_in setting) names if_true in
      let false_locals = local_kinds (heads_in setting) names if_false in
      let behind_condition =
      at_back setting.kinds site.free (local_count condition) condition_locals (true_locals ++ false_locals)
      (locals_size (heads_in setting) condition names) wants.1 in
      let behind_true =
      at_back setting.kinds (site.free + local_count condition) (local_count if_true) true_locals false_locals
      (locals_size (heads_in setting) if_true names) behind_condition in
      let past : ℕ = site.place + size (heads_in setting) names (choice condition if_true if_false) in
      let Wanted = Left setting kind site.free past locals operands loops callers in
      let kind_is : kind ≡ kind_in setting.world setting.functions environment (choice condition if_true if_false) =
      ap₂ (λ heads ns. tree_kind heads ns (choice condition if_true if_false)) (sym setting.same_heads)
      (sym (names_same setting.kinds site.scope environment locals site.free here.0)) in
      subst (λ k. Goes setting.code setting.world (frame_at setting site.place locals operands loops ∷ callers)
      (value_of setting.world setting.functions environment
      condition >>= (λ truth_value.
      chosen truth_value (value_of setting.world setting.functions environment if_true >>= widened k)
      (value_of setting.world setting.functions environment if_false >>= widened k))) Wanted) kind_is
      (part setting (kind_at (heads_in setting) site condition) site.free (site.place + condition_size) locals operands loops callers
      (frame_at setting site.place locals operands loops ∷ callers)
      (value_of setting.world setting.functions environment condition)
      (λ truth_value.
      chosen truth_value (value_of setting.world setting.functions environment if_true >>= widened kind)
      (value_of setting.world setting.functions environment if_false >>= widened kind)) Wanted
      (claim_of_condition site environment locals operands loops callers
      (choice_so.condition_at, at_front setting.kinds site.free condition_locals (true_locals ++ false_locals) wants.1, wants.2.0) here)
      (λ truth_value locals_now has_kind kept_so.
      let there = here_on setting site environment locals locals_now operands (local_count condition) here kept_so in
      chosen_goes (site.place + condition_size) middle.place last.place site.below (kind ∷ site.below) truth_value locals_now operands loops callers
      (value_of setting.world setting.functions environment if_true >>= widened kind)
      (value_of setting.world setting.functions environment if_false >>= widened kind) Wanted choice_so.forks choice_so.jump choice_so.landing
      choice_so.end here.2
      (subst (λ k. HasKind k truth_value) wants.2.1 has_kind)
      (left_ends kind site.below site.free first.free
      (first.place + first_size) middle.place last.place past locals locals_now operands loops callers _ _ (omega arith) (omega arith)
      (omega arith) kept_so here.2
      (in_room setting kind if_true first environment locals_now operands loops callers claim_of_if_true choice_so.first_at
      (at_front setting.kinds first.free true_locals false_locals behind_condition) wants.2.2 wants.2.3 there))
      (left_ends kind site.below site.free second.free
      (second.place + second_size) last.place last.place past locals locals_now operands loops callers _ _ (omega arith) (omega arith)
      (omega arith) kept_so here.2
      (in_room setting kind if_false second environment locals_now operands loops callers claim_of_if_false choice_so.second_at behind_true wants.2.4
      wants.2.5
      (here_on setting (keeping (local_count condition) site) environment locals_now locals_now operands (local_count if_true) there
      (same_kept first.free locals_now))))))

  -- a truth needs no room
  truth_part : (expression : Tree) (site : Site) (environment : Env) (locals operands : List Value) (loops : List Running) (callers : List Frame)
      → Claim setting expression
      → At setting.block.lines site.place (code_of setting.callees site expression)
      → At setting.kinds site.free (local_kinds (heads_in setting) (names_in site.scope) expression)
      → IsKinded setting.world.basin (heads_in setting) (names_in site.scope) expression → kind_at (heads_in setting) site expression ≡ truth_kind
      → Here setting site environment locals operands
      → Goes setting.code setting.world (frame_at setting site.place locals operands loops ∷ callers)
      (value_of setting.world setting.functions environment expression >>= widened truth_kind)
      (Left setting truth_kind site.free (site.place + size (heads_in setting) (names_in site.scope) expression) locals operands loops callers)
  truth_part expression site environment locals operands loops callers claim_of_expression placed locals_at kinded is_truth here =
      let end : ℕ = site.place + size (heads_in setting) (names_in site.scope) expression in
      let Wanted = Left setting truth_kind site.free end locals operands loops callers in
      part setting (kind_at (heads_in setting) site expression) site.free end locals operands loops callers
      (frame_at setting site.place locals operands loops ∷ callers) (value_of setting.world setting.functions environment expression)
      (widened truth_kind) Wanted
      (claim_of_expression site environment locals operands loops callers (placed, locals_at, kinded) here)
      (λ a_value locals_now has_kind kept_so.
      let truth_has_kind : HasKind truth_kind a_value = subst (λ k. HasKind k a_value) is_truth has_kind in
      let truth_so = truth_is a_value truth_has_kind in
      subst (λ m. Goes setting.code setting.world (frame_at setting end locals_now (a_value ∷ operands) loops ∷ callers) m Wanted)
      (sym (ap (widened truth_kind) truth_so.1 ∙ ap (λ a_value. gives a_value 0) (sym truth_so.1)))
      (goes_none setting.code setting.world (frame_at setting end locals_now (a_value ∷ operands) loops ∷ callers) a_value Wanted
      (left setting truth_kind site.free end end locals locals_now operands loops callers a_value refl truth_has_kind kept_so)))

  pub on_or : (left_tree right_tree : Tree) → Claim setting left_tree → Claim setting right_tree → Claim setting (two Or left_tree right_tree)
  on_or left_tree right_tree claim_of_left claim_of_right site environment locals operands loops callers wants here =
      let names = names_in site.scope in
      let left_size = size (heads_in setting) names left_tree in
      let right_size = size (heads_in setting) names right_tree in
      let first : Site = on 1 (after_tree setting.callees left_tree site) in
      let middle : Site = on 1 first in
      let second : Site = on 2 middle in
      let last : Site = after_tree setting.callees right_tree second in
      let choice_so =
      choice_at site.place left_size 1 right_size middle last (truth_kind ∷ site.below) (code_of setting.callees site left_tree)
      (I.Bool true ∷ [])
      (code_of setting.callees second right_tree)
      (code-size setting.world.basin setting.callees site left_tree wants.2.0) refl
      (code-size setting.world.basin setting.callees second right_tree wants.2.1) refl refl wants.0 in
      let left_locals = local_kinds (heads_in setting) names left_tree in
      let right_locals = local_kinds (heads_in setting) names right_tree in
      let past : ℕ = site.place + size (heads_in setting) names (two Or left_tree right_tree) in
      let Wanted = Left setting truth_kind site.free past locals operands loops callers in
      part setting (kind_at (heads_in setting) site left_tree) site.free (site.place + left_size) locals operands loops callers
      (frame_at setting site.place locals operands loops ∷ callers) (value_of setting.world setting.functions environment left_tree)
      (λ truth_value.
      chosen truth_value (gives (a_truth true) 1) (value_of setting.world setting.functions environment right_tree >>= widened truth_kind)) Wanted
      (claim_of_left site environment locals operands loops callers
      (choice_so.condition_at, at_front setting.kinds site.free left_locals right_locals wants.1, wants.2.0) here)
      (λ truth_value locals_now has_kind kept_so.
      chosen_goes (site.place + left_size) middle.place last.place site.below (truth_kind ∷ site.below) truth_value locals_now operands loops callers
      (gives (a_truth true) 1)
      (value_of setting.world setting.functions environment right_tree >>= widened truth_kind) Wanted choice_so.forks choice_so.jump
      choice_so.landing choice_so.end here.2
      (subst (λ k. HasKind k truth_value) wants.2.2.0 has_kind)
      (left_ends truth_kind site.below site.free first.free middle.place middle.place last.place past locals locals_now operands loops callers
      (frame_at setting first.place locals_now operands loops ∷ callers) (gives (a_truth true) 1) refl (omega arith) (omega arith) kept_so here.2
      (operates setting truth_kind first.free first.place locals_now [] operands loops callers (I.Bool true) tt refl
      (at_head setting.block.lines first.place (I.Bool true) [] choice_so.first_at) tt refl refl))
      (left_ends truth_kind site.below site.free second.free last.place last.place last.place past locals locals_now operands loops callers _ _ refl
      (omega arith)
      (omega arith) kept_so here.2
      (truth_part right_tree second environment locals_now operands loops callers claim_of_right choice_so.second_at
      (at_back setting.kinds site.free (local_count left_tree) left_locals right_locals (locals_size (heads_in setting) left_tree names) wants.1)
      wants.2.1
      wants.2.2.1 (here_on setting site environment locals locals_now operands (local_count left_tree) here kept_so))))

  pub on_and : (left_tree right_tree : Tree) → Claim setting left_tree → Claim setting right_tree → Claim setting (two And left_tree right_tree)
  on_and left_tree right_tree claim_of_left claim_of_right site environment locals operands loops callers wants here =
      let names = names_in site.scope in
      let left_size = size (heads_in setting) names left_tree in
      let right_size = size (heads_in setting) names right_tree in
      let first : Site = on 1 (after_tree setting.callees left_tree site) in
      let middle : Site = after_tree setting.callees right_tree first in
      let last : Site = on 3 middle in
      let choice_so =
      choice_at site.place left_size right_size 1 middle last (truth_kind ∷ site.below) (code_of setting.callees site left_tree)
      (code_of setting.callees first right_tree)
      (I.Bool false ∷ [])
      (code-size setting.world.basin setting.callees site left_tree wants.2.0)
      (code-size setting.world.basin setting.callees first right_tree wants.2.1) refl refl (omega arith) wants.0 in
      let left_locals = local_kinds (heads_in setting) names left_tree in
      let right_locals = local_kinds (heads_in setting) names right_tree in
      let past : ℕ = site.place + size (heads_in setting) names (two And left_tree right_tree) in
      let Wanted = Left setting truth_kind site.free past locals operands loops callers in
      part setting (kind_at (heads_in setting) site left_tree) site.free (site.place + left_size) locals operands loops callers
      (frame_at setting site.place locals operands loops ∷ callers) (value_of setting.world setting.functions environment left_tree)
      (λ truth_value.
      chosen truth_value (value_of setting.world setting.functions environment right_tree >>= widened truth_kind) (gives (a_truth false) 1))
      Wanted
      (claim_of_left site environment locals operands loops callers
      (choice_so.condition_at, at_front setting.kinds site.free left_locals right_locals wants.1, wants.2.0) here)
      (λ truth_value locals_now has_kind kept_so.
      chosen_goes (site.place + left_size) middle.place last.place site.below (truth_kind ∷ site.below) truth_value locals_now operands loops callers
      (value_of setting.world setting.functions environment right_tree >>= widened truth_kind)
      (gives (a_truth false) 1) Wanted choice_so.forks choice_so.jump choice_so.landing choice_so.end here.2
      (subst (λ k. HasKind k truth_value) wants.2.2.0 has_kind)
      (left_ends truth_kind site.below site.free first.free middle.place middle.place last.place past locals locals_now operands loops callers _ _
      refl (omega arith)
      (omega arith) kept_so here.2
      (truth_part right_tree first environment locals_now operands loops callers claim_of_right choice_so.first_at
      (at_back setting.kinds site.free (local_count left_tree) left_locals right_locals (locals_size (heads_in setting) left_tree names) wants.1)
      wants.2.1
      wants.2.2.1 (here_on setting site environment locals locals_now operands (local_count left_tree) here kept_so)))
      (left_ends truth_kind site.below site.free site.free (middle.place + 2 + 1) last.place last.place past locals locals_now operands loops callers
      (frame_at setting (middle.place + 2) locals_now operands loops ∷ callers) (gives (a_truth false) 1) (omega arith) (omega arith)
      (omega arith) kept_so here.2
      (operates setting truth_kind site.free (middle.place + 2) locals_now [] operands loops callers (I.Bool false) tt refl
      (at_head setting.block.lines (middle.place + 2) (I.Bool false) [] choice_so.second_at) tt refl refl)))
