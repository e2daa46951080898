-- The claim of FOR: where all of its code stands (`EachAt`), from the list and the first total on (`from_list`), and the whole form.
-- Its turns are in `Loops`.
use Rattle.rpl_compile.proofs.Common.{Env, Frame, Instruction, Kind, List, Outcome, Running, Site, Some, State, Tree, Value, [], after, after_tree}
use Rattle.rpl_compile.proofs.Common.{ap, append_assoc, arith, bound, code_of, each, element_of, elements_of, gives, keeping, kind_at, kind_of_value}
use Rattle.rpl_compile.proofs.Common.{knowing, length, local_count, local_kinds, names_in, on, over, refl, room_lines, room_of, set, size, slice_get}
use Rattle.rpl_compile.proofs.Common.{slice_get_within, spent, subst, suc, sym, turns, value_of, visiting, weight, widened, widening_size}
use Rattle.rpl_compile.proofs.Common.{with_elements, with_left, ℕ, ◌++◌, ◌+◌, ◌<◌, ◌>>=◌, ◌∙◌, ◌∷◌, ◌≡◌}
use Rattle.rpl_code.specs.declared.instruction.Instruction.TheVariants as I
use Rattle.rpl_compile.proofs.Goes.{Goes, after_after, goes_bind, goes_first}
use Rattle.rpl_compile.proofs.OfKind.{At, HasKind, at_back, at_front, at_head, at_moved, at_second, at_tail, set_here}
use Rattle.rpl_compile.proofs.Sizes.{beside, code-size, widening-size}
use Rattle.rpl_compile.proofs.LocalSizes.{locals_size}
use Rattle.rpl_compile.proofs.Setting.{Claim, Here, Kept, Left, Setting, Wants, frame_at, goes_at, goes_left, heads_in, here_on, here_over}
use Rattle.rpl_compile.proofs.Setting.{holds_kept, kept_less, part, same_kept, then_kept}
use Rattle.rpl_compile.proofs.Steps.{loads, stores}
use Rattle.rpl_compile.proofs.Room.{in_room}
use Rattle.rpl_compile.proofs.Bindings.{kept_set}
use Rattle.rpl_compile.proofs.Balanced.{code_balanced, each_shut, ends_there}
use Rattle.rpl_compile.proofs.Entering.{Elements, elements, foreach_step, loop_at, past_of, turn}
use Rattle.rpl_compile.proofs.Loops.{Looped, each_goes}

module _ (setting : Setting) where
  module _ (item_name : List ℕ) (source : Tree) (total_name : List ℕ) (initial body_tree : Tree) (site : Site) where
    abbrev source_kind : Kind
    source_kind = kind_at (heads_in setting) site source

    abbrev total : Kind
    total = kind_at (heads_in setting) site initial

    abbrev items : Site
    items = keeping 2 site

    abbrev first : Site
    first = over source_kind (after_tree setting.callees source items)

    abbrev inside : Site
    inside = knowing (bound total_name total (site.free + 1))
        (knowing (bound item_name (element_of source_kind) site.free)
        (on 2 (after_tree setting.callees initial (after_tree setting.callees source items))))

    -- behind the list and the first total
    abbrev behind_initial : ℕ
    behind_initial = site.place + size (heads_in setting) (names_in site.scope) source + size (heads_in setting) (names_in site.scope) initial

    -- how long the body is, with its room
    abbrev body_size : ℕ
    body_size = size (heads_in setting) (names_in inside.scope) body_tree + widening_size total (kind_at (heads_in setting) inside body_tree)

    abbrev tail : List Instruction
    tail = I.Store (site.free + 1) ∷ I.Next ∷ I.Load (site.free + 1) ∷ []

    abbrev turns_lines : List Instruction
    turns_lines = code_of setting.callees inside body_tree ++ (room_lines setting.callees total inside body_tree ++ tail)

    abbrev body_locals : List Kind
    body_locals = local_kinds (heads_in setting) (names_in inside.scope) body_tree

    -- where all of it stands
    record EachAt : Type 0 where
      source_at : At setting.block.lines site.place (code_of setting.callees items source)
      first_at : At setting.block.lines first.place (code_of setting.callees first initial)
      sets : slice_get setting.block.lines behind_initial ≡ Some (I.Store (site.free + 1))
      begins : slice_get setting.block.lines (behind_initial + 1) ≡ Some (I.Foreach site.free)
      turns_at : At setting.block.lines (suc (behind_initial + 1)) turns_lines
      body_at : At setting.block.lines inside.place (code_of setting.callees inside body_tree ++ room_lines setting.callees total inside body_tree)
      keeps : slice_get setting.block.lines (suc (behind_initial + 1) + body_size) ≡ Some (I.Store (site.free + 1))
      back : slice_get setting.block.lines (suc (behind_initial + 1) + body_size + 1) ≡ Some I.Next
      gets : slice_get setting.block.lines (suc (behind_initial + 1) + body_size + 2) ≡ Some (I.Load (site.free + 1))
      has : slice_get setting.kinds site.free ≡ Some (element_of source_kind)
      has_total : slice_get setting.kinds (site.free + 1) ≡ Some total
      source_kinds : At setting.kinds (site.free + 2) (local_kinds (heads_in setting) (names_in site.scope) source)
      first_kinds : At setting.kinds first.free (local_kinds (heads_in setting) (names_in site.scope) initial)
      body_kinds : At setting.kinds inside.free body_locals

    each_at : Wants setting site (each item_name source total_name initial body_tree) → EachAt
    each_at wants =
        let lines = setting.block.lines in
        let source_size = size (heads_in setting) (names_in site.scope) source in
        let initial_size = size (heads_in setting) (names_in site.scope) initial in
        let source_code = code_of setting.callees items source in
        let initial_code = code_of setting.callees first initial in
        let body_code : List Instruction = code_of setting.callees inside body_tree ++ room_lines setting.callees total inside body_tree in
        let loop_lines : List Instruction = I.Store (site.free + 1) ∷ I.Foreach site.free ∷ turns_lines in
        let source_locals = local_kinds (heads_in setting) (names_in site.scope) source in
        let initial_locals = local_kinds (heads_in setting) (names_in site.scope) initial in
        let body_counted : length body_code ≡ body_size =
        beside _ _ (code-size setting.world.basin setting.callees inside body_tree wants.2.3)
        (widening-size total (kind_at (heads_in setting) inside body_tree)) in
        let initial_placed =
        at_back lines site.place source_size source_code (initial_code ++ loop_lines)
        (code-size setting.world.basin setting.callees items source wants.2.0) wants.0 in
        let store_placed =
        at_back lines (site.place + source_size) initial_size initial_code loop_lines
        (code-size setting.world.basin setting.callees first initial wants.2.2) initial_placed in
        let turns_placed = at_second lines behind_initial (I.Store (site.free + 1)) (I.Foreach site.free) turns_lines store_placed in
        let same_place : behind_initial + 2 ≡ suc (behind_initial + 1) = omega arith in
        let turns_moved = at_moved lines (behind_initial + 2) (suc (behind_initial + 1)) turns_lines same_place turns_placed in
        let body_placed : At lines (behind_initial + 2) (body_code ++ tail) = subst (λ l. At lines (behind_initial + 2) l)
        (sym (append_assoc (code_of setting.callees inside body_tree) (room_lines setting.callees total inside body_tree) tail)) turns_placed in
        let tail_placed =
        at_moved lines (behind_initial + 2 + body_size) (suc (behind_initial + 1) + body_size) tail (omega arith)
        (at_back lines (behind_initial + 2) body_size body_code tail body_counted body_placed) in
        let behind_names =
        at_second setting.kinds site.free (element_of source_kind) total (source_locals ++ (initial_locals ++ body_locals)) wants.1 in
        let behind_source =
        at_back setting.kinds (site.free + 2) (local_count source) source_locals (initial_locals ++ body_locals)
        (locals_size (heads_in setting) source (names_in site.scope)) behind_names in
        record {
          source_at = at_front lines site.place source_code (initial_code ++ loop_lines) wants.0;
          first_at = at_front lines (site.place + source_size) initial_code loop_lines initial_placed;
          sets = at_head lines behind_initial (I.Store (site.free + 1)) (I.Foreach site.free ∷ turns_lines) store_placed;
          begins = at_head lines (behind_initial + 1) (I.Foreach site.free) turns_lines
              (at_tail lines behind_initial (I.Store (site.free + 1)) (I.Foreach site.free ∷ turns_lines) store_placed);
          turns_at = turns_moved;
          body_at = at_front lines (behind_initial + 2) body_code tail body_placed;
          keeps = at_head lines (suc (behind_initial + 1) + body_size) (I.Store (site.free + 1)) (I.Next ∷ I.Load (site.free + 1) ∷ []) tail_placed;
          back = at_head lines (suc (behind_initial + 1) + body_size + 1) I.Next (I.Load (site.free + 1) ∷ [])
              (at_tail lines (suc (behind_initial + 1) + body_size) (I.Store (site.free + 1)) (I.Next ∷ I.Load (site.free + 1) ∷ []) tail_placed);
          gets = at_head lines (suc (behind_initial + 1) + body_size + 2) (I.Load (site.free + 1)) []
              (at_second lines (suc (behind_initial + 1) + body_size) (I.Store (site.free + 1)) I.Next (I.Load (site.free + 1) ∷ []) tail_placed);
          has = at_head setting.kinds site.free (element_of source_kind) (total ∷ (source_locals ++ (initial_locals ++ body_locals))) wants.1;
          has_total = at_head setting.kinds (site.free + 1) total (source_locals ++ (initial_locals ++ body_locals))
              (at_tail setting.kinds site.free (element_of source_kind) (total ∷ (source_locals ++ (initial_locals ++ body_locals))) wants.1);
          source_kinds = at_front setting.kinds (site.free + 2) source_locals (initial_locals ++ body_locals) behind_names;
          first_kinds = at_front setting.kinds first.free initial_locals body_locals behind_source;
          body_kinds =
              at_back setting.kinds first.free (local_count initial) initial_locals body_locals
              (locals_size (heads_in setting) initial (names_in site.scope)) behind_source;
        }

    ends_behind : Wants setting site (each item_name source total_name initial body_tree) → EachAt
        → suc (behind_initial + 1) + body_size + 2 ≡ past_of setting (behind_initial + 1)
    ends_behind wants at =
        let ends = ends_there setting.block.lines (suc (behind_initial + 1))
        (length (code_of setting.callees inside body_tree) + (length (room_lines setting.callees total inside body_tree) + 1))
        turns_lines at.turns_at
        (each_shut setting.callees total site.free inside body_tree (code_balanced setting.callees body_tree inside)) in
        omega (
          arith,
          ends,
          code-size setting.world.basin setting.callees inside body_tree wants.2.3,
          widening-size total (kind_at (heads_in setting) inside body_tree),
        )

    module _ (environment : Env) (locals operands : List Value) (loops : List Running) (callers : List Frame)
        (wants : Wants setting site (each item_name source total_name initial body_tree))
        (here : Here setting site environment locals operands) (claim_of_body : Claim setting body_tree) where
      abbrev past : ℕ
      past = site.place + size (heads_in setting) (names_in site.scope) (each item_name source total_name initial body_tree)

      abbrev Wanted : Value → State → Type 0
      Wanted = Left setting total site.free past locals operands loops callers

      abbrev body_value : Value → Value → Outcome Value
      body_value a_value total_so_far =
          value_of setting.world setting.functions ((total_name, total_so_far) ∷ (item_name, a_value) ∷ environment) body_tree >>= widened total

      -- from the list and the first total
      from_list : (at : EachAt) (list_value a_value : Value) (locals_now : List Value) (elements_there : Elements source_kind list_value)
          → HasKind total a_value → Kept site.free locals locals_now
          → Goes setting.code setting.world (frame_at setting behind_initial locals_now (a_value ∷ list_value ∷ operands) loops ∷ callers)
          (after (spent (weight total + 1)) (turns (weight total) body_value a_value elements_there.all >>= (λ last. gives last (weight total))))
          Wanted
      from_list at list_value a_value locals_now elements_there has_kind kept =
          let total_weight = weight total in
          let locals_begun : List Value = set locals_now (site.free + 1) a_value in
          let kept_begun = kept_set site.free (site.free + 1) locals locals_now a_value (omega arith) kept in
          let far : site.free + 1 < length locals_now =
          omega (arith, slice_get_within setting.kinds (site.free + 1) total at.has_total, kept.0, here.1) in
          let running : Running = loop_at (behind_initial + 1) visiting (room_of source_kind) site.free elements_there.all [] in
          let outcome : Outcome Value = turns total_weight body_value a_value elements_there.all >>= (λ last. gives last total_weight) in
          let same_place : behind_initial + 1 ≡ suc behind_initial = omega arith in
          let end : ℕ = past_of setting (behind_initial + 1) in
          let ends = ends_behind wants at in
          let long : length locals_begun ≡ length setting.kinds = kept_begun.0 ∙ here.1 in
          subst (λ m.
          Goes setting.code setting.world (frame_at setting behind_initial locals_now (a_value ∷ list_value ∷ operands) loops ∷ callers) m Wanted)
          (after_after (spent total_weight) (spent 1) outcome)
          (goes_first setting.code setting.world (frame_at setting behind_initial locals_now (a_value ∷ list_value ∷ operands) loops) callers
          (frame_at setting (suc behind_initial) locals_begun (list_value ∷ operands) loops ∷ callers) (spent total_weight)
          (after (spent 1) outcome) Wanted
          (stores setting behind_initial (site.free + 1) locals_now (list_value ∷ operands) loops callers a_value total at.sets at.has_total has_kind
          ∙ ap (λ k. gives (frame_at setting (suc behind_initial) locals_begun (list_value ∷ operands) loops ∷ callers) (weight k)) has_kind.0)
          (goes_at setting (behind_initial + 1) (suc behind_initial) locals_begun (list_value ∷ operands) loops callers
          (after (spent 1) outcome) Wanted same_place
          (goes_first setting.code setting.world (frame_at setting (behind_initial + 1) locals_begun (list_value ∷ operands) loops) callers
          (turn setting end running elements_there.all locals_begun operands loops ∷ callers) (spent 1) outcome Wanted
          (foreach_step setting
          (behind_initial + 1) site.free source_kind locals_begun operands loops callers list_value elements_there at.begins at.has)
          (goes_bind setting.code setting.world (turn setting end running elements_there.all locals_begun operands loops ∷ callers)
          (turns total_weight body_value a_value elements_there.all) (λ last. gives last total_weight)
          (Looped setting total site.free end locals_begun operands loops callers) Wanted
          (each_goes setting (element_of source_kind) total site.free inside.free
          (behind_initial + 1) body_size end running locals_begun operands loops callers body_value long at.has at.has_total (omega arith) refl
          refl refl at.keeps at.back ends
          (λ a_value total_so_far locals_then left has_kind total_has_kind kept_then hold hold_total.
          let loops_now : List Running = with_left left running ∷ loops in
          let kept_there = then_kept site.free site.free locals locals_begun locals_then (omega arith) kept_begun kept_then in
          let there : Here setting inside ((total_name, total_so_far) ∷ (item_name, a_value) ∷ environment) locals_then operands = (
            (
              refl,
              total_has_kind,
              hold_total,
              omega arith,
              at.has_total,
              (
                refl,
                has_kind,
                hold,
                omega arith,
                at.has,
                holds_kept setting.kinds site.scope environment locals locals_then site.free inside.free here.0 (omega arith) kept_there,
              ),
            ),
            kept_there.0 ∙ here.1,
            here.2,
          ) in
          let body_place : inside.place ≡ suc (behind_initial + 1) = omega arith in
          goes_at setting inside.place (suc (behind_initial + 1)) locals_then operands loops_now callers (body_value a_value total_so_far)
          (Left setting total inside.free (suc (behind_initial + 1) + body_size) locals_then operands loops_now callers) body_place
          (goes_left setting total inside.free inside.free (inside.place + body_size)
          (suc (behind_initial + 1) + body_size) locals_then locals_then operands loops_now callers
          (frame_at setting inside.place locals_then operands loops_now ∷ callers)
          (body_value a_value total_so_far) (omega arith) (omega arith) (same_kept inside.free locals_then)
          (in_room setting total body_tree inside
          ((total_name, total_so_far) ∷ (item_name, a_value) ∷ environment) locals_then operands loops_now callers claim_of_body at.body_at
          at.body_kinds wants.2.3 wants.2.4 there)))
          elements_there.all locals_begun a_value elements_there.have has_kind (same_kept site.free locals_begun)
          (set_here locals_now (site.free + 1) a_value far))
          (λ last next_state leaves.
          subst (λ s. Goes setting.code setting.world s (gives last total_weight) Wanted) (sym leaves.is)
          (subst (λ k.
          Goes setting.code setting.world (frame_at setting end leaves.locals_behind operands loops ∷ callers) (gives last (weight k)) Wanted)
          leaves.of_kind.0
          (goes_left setting total site.free site.free (end + 1) past locals leaves.locals_behind operands loops callers
          (frame_at setting end leaves.locals_behind operands loops ∷ callers)
          (gives last (weight (kind_of_value last))) (omega (arith, ends)) (omega arith)
          (then_kept site.free site.free locals locals_begun leaves.locals_behind (omega arith) kept_begun leaves.kept)
          (loads setting total site.free end (site.free + 1) leaves.locals_behind operands loops callers last total
          (subst (λ n. slice_get setting.block.lines n ≡ Some (I.Load (site.free + 1))) ends at.gets) at.has_total leaves.total leaves.of_kind))))))))

      each_here : EachAt → Claim setting source → Claim setting initial
          → Goes setting.code setting.world (frame_at setting site.place locals operands loops ∷ callers)
          (value_of setting.world setting.functions environment (each item_name source total_name initial body_tree)) Wanted
      each_here at claim_of_source claim_of_initial =
          let names = names_in site.scope in
          let source_size = size (heads_in setting) names source in
          part setting source_kind (site.free + 2) (site.place + source_size) locals operands loops callers
          (frame_at setting site.place locals operands loops ∷ callers) (value_of setting.world setting.functions environment source) _ Wanted
          (claim_of_source items environment locals operands loops callers (at.source_at, at.source_kinds, wants.2.0)
          (here_on setting site environment locals locals operands 2 here (same_kept site.free locals)))
          (λ list_value locals_now source_has_kind kept_so.
          part setting total first.free behind_initial locals_now (list_value ∷ operands) loops callers
          (frame_at setting (site.place + source_size) locals_now (list_value ∷ operands) loops ∷ callers)
          (value_of setting.world setting.functions environment initial) _ Wanted
          (claim_of_initial first environment locals_now (list_value ∷ operands) loops callers (at.first_at, at.first_kinds, wants.2.2)
          (here_over setting (keeping (local_count source) items) environment locals_now operands source_kind list_value source_has_kind
          (here_on setting items environment locals locals_now operands (local_count source)
          (here_on setting site environment locals locals operands 2 here (same_kept site.free locals)) kept_so)))
          (λ a_value locals_then total_has_kind_so kept_then.
          let elements_there = elements source_kind list_value wants.2.1 source_has_kind in
          let kept_here =
          kept_less site.free (site.free + 2) locals locals_then (omega arith)
          (then_kept (site.free + 2) first.free locals locals_now locals_then (omega arith) kept_so kept_then) in
          subst (λ k. Goes setting.code setting.world (frame_at setting behind_initial locals_then (a_value ∷ list_value ∷ operands) loops ∷ callers)
          (after (spent (weight k + 1)) (with_elements (elements_of list_value)
          (turns (weight k)
          (λ a_value total_so_far.
          value_of setting.world setting.functions ((total_name, total_so_far) ∷ (item_name, a_value) ∷ environment) body_tree >>= widened k)
          a_value) >>= (λ last. gives last (weight k))))
          Wanted) (sym total_has_kind_so.0)
          (subst (λ o. Goes setting.code setting.world (frame_at setting behind_initial locals_then (a_value ∷ list_value ∷ operands) loops ∷ callers)
          (after (spent (weight total + 1)) (with_elements o (turns (weight total) body_value a_value) >>= (λ last. gives last (weight total))))
          Wanted) (sym elements_there.are)
          (from_list at list_value a_value locals_then elements_there total_has_kind_so kept_here))))

  pub on_each : (item_name : List ℕ) (source : Tree) (total_name : List ℕ) (initial body : Tree) → Claim setting source → Claim setting initial
      → Claim setting body → Claim setting (each item_name source total_name initial body)
  on_each item_name source total_name initial body claim_of_source claim_of_initial claim_of_body site environment locals operands loops callers wants
      here = each_here item_name source total_name initial body site environment locals operands loops callers wants here claim_of_body
      (each_at item_name source total_name initial body site wants) claim_of_source claim_of_initial
