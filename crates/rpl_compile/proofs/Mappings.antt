-- The claim of MAP: where all of its code stands (`MapAt`), from the list on (`from_list`), and the whole form. Its turns are in `Loops`.
use Rattle.rpl_compile.proofs.Common.{Env, Frame, Instruction, Kind, List, Outcome, Running, Site, Some, State, Tree, Value, [], after, after_tree}
use Rattle.rpl_compile.proofs.Common.{arith, bound, code_of, element_of, elements_of, gives, keeping, kind_at, knowing, length, local_count}
use Rattle.rpl_compile.proofs.Common.{local_kinds, mapped, mapping, names_in, number_kind, numbers, numbers_for, numbers_kind, on, refl, room_of}
use Rattle.rpl_compile.proofs.Common.{size, slice_get, spent, subst, suc, sym, value_of, with_elements, ℕ, ◌++◌, ◌+◌, ◌>>=◌, ◌∙◌, ◌∷◌, ◌≡◌}
use Rattle.rpl_code.specs.declared.instruction.Instruction.TheVariants as I
use Rattle.rpl_compile.proofs.Goes.{Goes, goes_bind, goes_first, goes_none}
use Rattle.rpl_compile.proofs.OfKind.{At, at_back, at_front, at_head, at_moved, at_tail}
use Rattle.rpl_compile.proofs.Sizes.{code-size}
use Rattle.rpl_compile.proofs.LocalSizes.{locals_size}
use Rattle.rpl_compile.proofs.Setting.{Claim, Here, Kept, Left, Setting, Wants, frame_at, goes_at, goes_left, heads_in, here_on, holds_kept}
use Rattle.rpl_compile.proofs.Setting.{kept_less, left, part, same_kept, then_kept}
use Rattle.rpl_compile.proofs.Balanced.{code_balanced, ends_there, mapped_shut}
use Rattle.rpl_compile.proofs.Entering.{Elements, elements, loop_at, map_step, past_of, turn, turn_left}
use Rattle.rpl_compile.proofs.Loops.{Mapped, map_goes}

module _ (setting : Setting) where
  module _ (item_name : List ℕ) (source body_tree : Tree) (site : Site) where
    abbrev source_kind : Kind
    source_kind = kind_at (heads_in setting) site source

    abbrev items : Site
    items = keeping 1 site

    abbrev inside : Site
    inside = knowing (bound item_name (element_of source_kind) site.free) (on 1 (after_tree setting.callees source items))

    -- behind the list
    abbrev behind_source : ℕ
    behind_source = site.place + size (heads_in setting) (names_in site.scope) source

    abbrev body_size : ℕ
    body_size = size (heads_in setting) (names_in inside.scope) body_tree

    abbrev body_locals : List Kind
    body_locals = local_kinds (heads_in setting) (names_in inside.scope) body_tree

    abbrev turns_lines : List Instruction
    turns_lines = code_of setting.callees inside body_tree ++ I.Yield ∷ []

    -- where all of it stands
    record MapAt : Type 0 where
      source_at : At setting.block.lines site.place (code_of setting.callees items source)
      begins : slice_get setting.block.lines behind_source ≡ Some (I.Map site.free)
      turns_at : At setting.block.lines (suc behind_source) turns_lines
      body_at : At setting.block.lines inside.place (code_of setting.callees inside body_tree)
      yields : slice_get setting.block.lines (suc behind_source + body_size) ≡ Some I.Yield
      has : slice_get setting.kinds site.free ≡ Some (element_of source_kind)
      source_kinds : At setting.kinds (site.free + 1) (local_kinds (heads_in setting) (names_in site.scope) source)
      body_kinds : At setting.kinds inside.free body_locals

    map_at : Wants setting site (mapped item_name source body_tree) → MapAt
    map_at wants =
        let lines = setting.block.lines in
        let source_size = size (heads_in setting) (names_in site.scope) source in
        let source_code = code_of setting.callees items source in
        let body_code = code_of setting.callees inside body_tree in
        let source_locals = local_kinds (heads_in setting) (names_in site.scope) source in
        let begin_placed =
        at_back lines site.place source_size source_code (I.Map site.free ∷ turns_lines)
        (code-size setting.world.basin setting.callees items source wants.2.0) wants.0 in
        let turns_placed = at_tail lines behind_source (I.Map site.free) turns_lines begin_placed in
        let same_place : behind_source + 1 ≡ suc behind_source = omega arith in
        let yield_placed = at_moved lines (behind_source + 1 + body_size) (suc behind_source + body_size) (I.Yield ∷ []) (omega arith)
        (at_back lines (behind_source + 1) body_size body_code (I.Yield ∷ [])
        (code-size setting.world.basin setting.callees inside body_tree wants.2.2) turns_placed) in
        let behind_item = at_tail setting.kinds site.free (element_of source_kind) (source_locals ++ body_locals) wants.1 in
        record {
          source_at = at_front lines site.place source_code (I.Map site.free ∷ turns_lines) wants.0;
          begins = at_head lines behind_source (I.Map site.free) turns_lines begin_placed;
          turns_at = at_moved lines (behind_source + 1) (suc behind_source) turns_lines same_place turns_placed;
          body_at = at_front lines (behind_source + 1) body_code (I.Yield ∷ []) turns_placed;
          yields = at_head lines (suc behind_source + body_size) I.Yield [] yield_placed;
          has = at_head setting.kinds site.free (element_of source_kind) (source_locals ++ body_locals) wants.1;
          source_kinds = at_front setting.kinds (site.free + 1) source_locals body_locals behind_item;
          body_kinds =
              at_back setting.kinds (site.free + 1) (local_count source) source_locals body_locals
              (locals_size (heads_in setting) source (names_in site.scope)) behind_item;
        }

    ends_behind : Wants setting site (mapped item_name source body_tree) → MapAt → suc (suc behind_source + body_size) ≡ past_of setting behind_source
    ends_behind wants at =
        let ends = ends_there setting.block.lines (suc behind_source) (length (code_of setting.callees inside body_tree) + 0) turns_lines at.turns_at
        (mapped_shut setting.callees inside body_tree (code_balanced setting.callees body_tree inside)) in
        omega (arith, ends, code-size setting.world.basin setting.callees inside body_tree wants.2.2)

    module _ (environment : Env) (locals operands : List Value) (loops : List Running) (callers : List Frame)
        (wants : Wants setting site (mapped item_name source body_tree)) (here : Here setting site environment locals operands)
        (claim_of_body : Claim setting body_tree) where
      abbrev past : ℕ
      past = site.place + size (heads_in setting) (names_in site.scope) (mapped item_name source body_tree)

      abbrev Wanted : Value → State → Type 0
      Wanted = Left setting (numbers_kind (room_of source_kind)) site.free past locals operands loops callers

      abbrev body_value : Value → Outcome Value
      body_value a_value = value_of setting.world setting.functions ((item_name, a_value) ∷ environment) body_tree

      -- from the list
      from_list : (at : MapAt) (list_value : Value) (locals_now : List Value) (elements_there : Elements source_kind list_value)
          → Kept site.free locals locals_now
          → Goes setting.code setting.world (frame_at setting behind_source locals_now (list_value ∷ operands) loops ∷ callers)
          (after (spent 1) (numbers_for body_value elements_there.all >>= (λ quantities. gives (numbers (room_of source_kind) quantities) 0))) Wanted
      from_list at list_value locals_now elements_there kept =
          let running : Running = loop_at behind_source mapping (room_of source_kind) site.free elements_there.all [] in
          let end : ℕ = past_of setting behind_source in
          let ends = ends_behind wants at in
          let Halfway = Mapped setting (room_of source_kind) site.free end [] (length elements_there.all) locals_now operands loops callers in
          let outcome : Outcome Value =
          numbers_for body_value elements_there.all >>= (λ quantities. gives (numbers (room_of source_kind) quantities) 0) in
          goes_first setting.code setting.world (frame_at setting behind_source locals_now (list_value ∷ operands) loops) callers
          (turn setting end running elements_there.all locals_now operands loops ∷ callers) (spent 1) outcome Wanted
          (map_step setting behind_source site.free source_kind locals_now operands loops callers list_value elements_there at.begins at.has)
          (goes_bind setting.code setting.world (turn setting end running elements_there.all locals_now operands loops ∷ callers)
          (numbers_for body_value elements_there.all) (λ quantities. gives (numbers (room_of source_kind) quantities) 0) Halfway Wanted
          (subst (λ (frame : Frame). Goes setting.code setting.world (frame ∷ callers) (numbers_for body_value elements_there.all) Halfway)
          (turn_left setting end running elements_there.all [] locals_now operands loops)
          (map_goes setting (element_of source_kind) site.free inside.free behind_source body_size end
          (room_of source_kind) locals_now operands loops callers body_value (kept.0 ∙ here.1) at.has (omega arith) at.yields
          ends
          (λ a_value locals_then loops_now has_kind kept_then hold.
          let kept_there = then_kept site.free site.free locals locals_now locals_then (omega arith) kept kept_then in
          let there : Here setting inside ((item_name, a_value) ∷ environment) locals_then operands = (
            (
              refl,
              has_kind,
              hold,
              omega arith,
              at.has,
              holds_kept setting.kinds site.scope environment locals locals_then site.free inside.free here.0 (omega arith) kept_there,
            ),
            kept_there.0
                ∙ here.1,
            here.2,
          ) in
          let body_place : inside.place ≡ suc behind_source = omega arith in
          goes_at setting inside.place (suc behind_source) locals_then operands loops_now callers (body_value a_value)
          (Left setting number_kind inside.free (suc behind_source + body_size) locals_then operands loops_now callers) body_place
          (subst (λ k.
          Goes setting.code setting.world (frame_at setting inside.place locals_then operands loops_now ∷ callers) (body_value a_value)
          (Left setting k inside.free (suc behind_source + body_size) locals_then operands loops_now callers)) wants.2.3
          (goes_left setting (kind_at (heads_in setting) inside body_tree) inside.free inside.free (inside.place + body_size)
          (suc behind_source + body_size) locals_then locals_then operands loops_now callers
          (frame_at setting inside.place locals_then operands loops_now ∷ callers) (body_value a_value) (omega arith) (omega arith)
          (same_kept inside.free locals_then)
          (claim_of_body inside ((item_name, a_value) ∷ environment) locals_then operands loops_now callers
          (at.body_at, at.body_kinds, wants.2.2) there))))
          elements_there.all locals_now [] elements_there.have (same_kept site.free locals_now)))
          (λ quantities next_state leaves.
          subst (λ s. Goes setting.code setting.world s (gives (numbers (room_of source_kind) quantities) 0) Wanted) (sym leaves.is)
          (goes_none setting.code setting.world
          (frame_at setting end leaves.locals_behind (numbers (room_of source_kind) quantities ∷ operands) loops ∷ callers)
          (numbers (room_of source_kind) quantities) Wanted
          (left setting (numbers_kind (room_of source_kind)) site.free past end locals leaves.locals_behind operands loops callers
          (numbers (room_of source_kind) quantities) (omega (arith, ends))
          (refl, omega (arith, leaves.as_many, elements_there.few))
          (then_kept site.free site.free locals locals_now leaves.locals_behind (omega arith) kept leaves.kept)))))

      mapped_here : MapAt → Claim setting source
          → Goes setting.code setting.world (frame_at setting site.place locals operands loops ∷ callers)
          (value_of setting.world setting.functions environment (mapped item_name source body_tree)) Wanted
      mapped_here at claim_of_source =
          part setting source_kind (site.free + 1) behind_source locals operands loops callers
          (frame_at setting site.place locals operands loops ∷ callers) (value_of setting.world setting.functions environment source) _ Wanted
          (claim_of_source items environment locals operands loops callers (at.source_at, at.source_kinds, wants.2.0)
          (here_on setting site environment locals locals operands 1 here (same_kept site.free locals)))
          (λ list_value locals_now has_kind kept_so.
          let elements_there = elements source_kind list_value wants.2.1 has_kind in
          subst (λ k. Goes setting.code setting.world (frame_at setting behind_source locals_now (list_value ∷ operands) loops ∷ callers)
          (after (spent 1)
          (with_elements (elements_of list_value) (numbers_for body_value) >>= (λ quantities. gives (numbers (room_of k) quantities) 0))) Wanted)
          (sym has_kind.0)
          (subst (λ o. Goes setting.code setting.world (frame_at setting behind_source locals_now (list_value ∷ operands) loops ∷ callers)
          (after (spent 1) (with_elements o (numbers_for body_value) >>= (λ quantities. gives (numbers (room_of source_kind) quantities) 0))) Wanted)
          (sym elements_there.are)
          (from_list at list_value locals_now elements_there (kept_less site.free (site.free + 1) locals locals_now (omega arith) kept_so))))

  pub on_mapped : (item_name : List ℕ) (source body : Tree) → Claim setting source → Claim setting body → Claim setting (mapped item_name source body)
  on_mapped item_name source body claim_of_source claim_of_body site environment locals operands loops callers wants here =
      mapped_here item_name source body site environment locals operands loops callers wants here claim_of_body
      (map_at item_name source body site wants) claim_of_source
