-- Several trees, one behind another, leave their values, the last one on top (`LeftAll`): elements of a list, and arguments of a call.
use Rattle.rpl_compile.proofs.Common.{AreArguments, AreOfKind, Bool, Env, Frame, Function, Instruction, IsElement, Kind, List, None, Ok, Outcome}
use Rattle.rpl_compile.proofs.Common.{Running, Site, State, Tree, Trees, Value, [], after_room, after_tree, all_code, all_local_kinds, ap}
use Rattle.rpl_compile.proofs.Common.{append_assoc, ap₂, arguments_code, arguments_of, arith, call, call_line, called, code_kind, code_kind_of}
use Rattle.rpl_compile.proofs.Common.{code_list_kind, code_of, count_of, first_kind, gives, if◌then◌else◌, inl, inr, is_same_value_kind, keeping}
use Rattle.rpl_compile.proofs.Common.{kind_at, kinds_of, length, length-reverse, list, list_all, list_kind, list_of, listed, local_count, local_kinds}
use Rattle.rpl_compile.proofs.Common.{names_in, no_trees, option_map, or_wrong, over, refl, result_named, reverse, reverse-reverse, reverse_aux}
use Rattle.rpl_compile.proofs.Common.{room_lines, same_kind_refl, size, sizes, sizes_of_arguments, subst, suc, sym, takes_named, tree, true, value_of}
use Rattle.rpl_compile.proofs.Common.{values_of, widened, widening_size, ℕ, ◌++◌, ◌+◌, ◌>>=◌, ◌∙◌, ◌∷◌, ◌≡◌, ◌≤◌}
use Rattle.rpl_code.specs.declared.instruction.Instruction.TheVariants as I
use Rattle.rpl_verify.proofs.KindFacts.{AreRoomy}
use Rattle.rpl_compile.proofs.Goes.{Goes, goes_bind, goes_none, goes_weaker}
use Rattle.rpl_compile.proofs.OfKind.{At, HasKind, HaveKinds, at_back, at_front, at_head, at_moved, kind_coded}
use Rattle.rpl_compile.proofs.Sizes.{all-size, arguments-size, beside, code-size, widening-size}
use Rattle.rpl_compile.proofs.LocalSizes.{locals_size}
use Rattle.rpl_compile.proofs.Setting.{Claim, Here, Kept, Left, Setting, frame_at, goes_at, goes_left, heads_in, here_on, here_over, left, part}
use Rattle.rpl_compile.proofs.Setting.{same_kept, then_kept}
use Rattle.rpl_compile.proofs.Steps.{operates}
use Rattle.rpl_compile.proofs.Room.{in_room}

-- each is of the kind
abbrev pub AllHave : Kind → List Value → Type 0
AllHave kind [] = Unit {0}
AllHave kind (a_value ∷ values) = HasKind kind a_value × AllHave kind values

pub all_turned : (kind : Kind) (values turned : List Value) → AllHave kind values → AllHave kind turned → AllHave kind (reverse_aux values turned)
all_turned kind [] turned have turned_have = turned_have
all_turned kind (a_value ∷ values) turned have turned_have = all_turned kind values (a_value ∷ turned) have.1 (have.0, turned_have)

pub all_roomy : (kind : Kind) (values : List Value) → AllHave kind values → AreRoomy values
all_roomy kind [] all_have = tt
all_roomy kind (a_value ∷ values) all_have = (all_have.0.1, all_roomy kind values all_have.1)

pub turned_onto : (values turned operands : List Value) → reverse_aux values (turned ++ operands) ≡ reverse_aux values turned ++ operands
turned_onto [] turned operands = refl
turned_onto (a_value ∷ values) turned operands = turned_onto values (a_value ∷ turned) operands

-- elements of one kind become the list of them
listed_is : (kind : Kind) (room : ℕ) (values : List Value) → IsElement kind → AllHave kind values → 1 ≤ length values
    → or_wrong (listed room (kinds_of values)) ≡ Ok (code_kind (list_kind room kind) ∷ [])
listed_is kind room [] is_element all_have at_most = absurd (omega (arith, at_most))
listed_is kind room (a_value ∷ values) is_element all_have at_most =
    ap (λ (test : Bool). or_wrong (if test then option_map (λ kind. kind ∷ []) (code_list_kind room (code_kind_of a_value)) else None))
    (alike values all_have.1)
    ∙ ap (λ c. or_wrong (option_map (λ kind. kind ∷ []) (code_list_kind room c))) (kind_coded kind a_value all_have.0) ∙ by is_element
  where
    alike : (others : List Value) → AllHave kind others → list_all (is_same_value_kind (code_kind_of a_value)) (kinds_of others) ≡ true
    alike [] others_have = refl
    alike (other ∷ others) others_have =
        let alike_so : is_same_value_kind (code_kind_of a_value) (code_kind_of other) ≡ true =
        ap₂ (λ a b. is_same_value_kind a b) (kind_coded kind a_value all_have.0) (kind_coded kind other others_have.0)
        ∙ same_kind_refl (code_kind kind) in
        rw (alike_so, alike others others_have.1) refl

    by : IsElement kind → or_wrong (option_map (λ kind. kind ∷ []) (code_list_kind room (code_kind kind))) ≡ Ok (code_kind (list_kind room kind) ∷ [])
    by (inl e) =
        subst (λ k. or_wrong (option_map (λ kind. kind ∷ []) (code_list_kind room (code_kind k))) ≡ Ok (code_kind (list_kind room k) ∷ []))
        (sym e) refl
    by (inr e) =
        subst (λ k. or_wrong (option_map (λ kind. kind ∷ []) (code_list_kind room (code_kind k))) ≡ Ok (code_kind (list_kind room k) ∷ []))
        (sym e) refl

module _ (setting : Setting) where
  -- what several trees leave: their values, the last one on top
  pub record LeftAll (Are : List Value → Type 0) (free end : ℕ) (locals operands : List Value) (loops : List Running) (callers : List Frame)
      (values : List Value)
      (next_state : State) : Type 0 where
    pub locals_behind : List Value
    pub is : next_state ≡ frame_at setting end locals_behind (reverse_aux values operands) loops ∷ callers
    pub of_kinds : Are values
    pub kept : Kept free locals locals_behind

  -- one more is before them
  more : (AreOthers AreAll : List Value → Type 0) (kind : Kind) (free next end past same_end : ℕ) (locals operands : List Value)
      (loops : List Running) (callers : List Frame) (state : State)
      (outcome : Outcome Value) (all : Outcome (List Value))
      → end ≡ same_end → free ≤ next → Goes setting.code setting.world state outcome (Left setting kind free past locals operands loops callers)
      → ((a_value : Value) (locals_now : List Value) → HasKind kind a_value → Kept free locals locals_now
      → Goes setting.code setting.world (frame_at setting past locals_now (a_value ∷ operands) loops ∷ callers) all
      (LeftAll AreOthers next end locals_now (a_value ∷ operands) loops callers))
      → ((a_value : Value) (values : List Value) → HasKind kind a_value → AreOthers values → AreAll (a_value ∷ values))
      → Goes setting.code setting.world state (outcome >>= (λ a_value. all >>= (λ values. gives (a_value ∷ values) 0)))
      (LeftAll AreAll free same_end locals operands loops callers)
  more AreOthers AreAll kind free next end past same_end locals operands loops callers state outcome all end_is at_most goes others both =
      part setting kind free past locals operands loops callers state outcome (λ a_value. all >>= (λ values. gives (a_value ∷ values) 0))
      (LeftAll AreAll free same_end locals operands loops callers) goes
      (λ a_value locals_now has_kind kept_so.
      goes_bind setting.code setting.world (frame_at setting past locals_now (a_value ∷ operands) loops ∷ callers) all
      (λ values. gives (a_value ∷ values) 0) (LeftAll AreOthers next end locals_now (a_value ∷ operands) loops callers)
      (LeftAll AreAll free same_end locals operands loops callers) (others a_value locals_now has_kind kept_so)
      (λ values next_state leaves.
      goes_none setting.code setting.world next_state (a_value ∷ values) (LeftAll AreAll free same_end locals operands loops callers)
      (record {
        locals_behind = leaves.locals_behind;
        is = leaves.is ∙ ap (λ n. frame_at setting n leaves.locals_behind (reverse_aux values (a_value ∷ operands)) loops ∷ callers) end_is;
        of_kinds = both a_value values has_kind leaves.of_kinds;
        kept = then_kept free next locals locals_now leaves.locals_behind at_most kept_so leaves.kept;
      })))

  none : (Are : List Value → Type 0) (free place end : ℕ) (locals operands : List Value) (loops : List Running) (callers : List Frame) → place ≡ end
      → Are []
      → Goes setting.code setting.world (frame_at setting place locals operands loops ∷ callers) (gives [] 0)
      (LeftAll Are free end locals operands loops callers)
  none Are free place end locals operands loops callers place_is are_none =
      goes_none setting.code setting.world (frame_at setting place locals operands loops ∷ callers) []
      (LeftAll Are free end locals operands loops callers)
      (record {
        locals_behind = locals;
        is = ap (λ n. frame_at setting n locals operands loops ∷ callers) place_is;
        of_kinds = are_none;
        kept = same_kept free locals;
      })

  -- ---- elements

  abbrev pub ClaimAll : Trees → Type 0
  ClaimAll expressions = (kind : Kind) (site : Site) (environment : Env) (locals operands : List Value) (loops : List Running) (callers : List Frame)
      → At setting.block.lines site.place (all_code setting.callees site expressions)
      → At setting.kinds site.free (all_local_kinds (heads_in setting) (names_in site.scope) expressions)
      → AreOfKind setting.world.basin (heads_in setting) (names_in site.scope) kind expressions → Here setting site environment locals operands
      → Goes setting.code setting.world (frame_at setting site.place locals operands loops ∷ callers)
      (values_of setting.world setting.functions environment expressions)
      (LeftAll (λ values. AllHave kind values × (length values ≡ count_of expressions)) site.free
      (site.place + sizes (heads_in setting) (names_in site.scope) expressions) locals operands loops callers)

  pub no_elements : ClaimAll no_trees
  no_elements kind site environment locals operands loops callers placed locals_at kinded here =
      none (λ values. AllHave kind values × (length values ≡ 0)) site.free site.place (site.place + 0) locals operands
      loops callers (omega arith) (tt, refl)

  pub more_elements : (expression : Tree) (expressions : Trees) → Claim setting expression → ClaimAll expressions
      → ClaimAll (tree expression expressions)
  more_elements expression expressions claim_of_expression claim_of_expressions kind site environment locals operands loops callers placed locals_at
      kinded here =
      let names = names_in site.scope in
      let own_kind = kind_at (heads_in setting) site expression in
      let own_size = size (heads_in setting) names expression in
      let second : Site = over own_kind (after_tree setting.callees expression site) in
      let own_code = code_of setting.callees site expression in
      let other_code = all_code setting.callees second expressions in
      let own_locals = local_kinds (heads_in setting) names expression in
      let other_locals = all_local_kinds (heads_in setting) names expressions in
      more (λ values. AllHave kind values × (length values ≡ count_of expressions))
      (λ values. AllHave kind values × (length values ≡ count_of (tree expression expressions))) own_kind site.free second.free
      (second.place + sizes (heads_in setting) names expressions) (site.place + own_size)
      (site.place + sizes (heads_in setting) names (tree expression expressions)) locals operands loops callers
      (frame_at setting site.place locals operands loops ∷ callers) (value_of setting.world setting.functions environment expression)
      (values_of setting.world setting.functions environment expressions) (omega arith) (omega arith)
      (claim_of_expression site environment locals operands loops callers (
        at_front setting.block.lines site.place own_code other_code placed,
        at_front setting.kinds site.free own_locals other_locals locals_at,
        kinded.0,
      ) here)
      (λ a_value locals_now has_kind kept_so.
      claim_of_expressions kind second environment locals_now (a_value ∷ operands) loops callers
      (at_back setting.block.lines site.place own_size own_code other_code
      (code-size setting.world.basin setting.callees site expression kinded.0) placed)
      (at_back setting.kinds site.free (local_count expression) own_locals other_locals (locals_size (heads_in setting) expression names) locals_at)
      kinded.2
      (here_over setting (keeping (local_count expression) site) environment locals_now operands own_kind a_value has_kind
      (here_on setting site environment locals locals_now operands (local_count expression) here kept_so)))
      (λ a_value values has_kind are. let counted : suc (length values) ≡ count_of expressions + 1 = omega (arith, are.1) in
      ((subst (λ k. HasKind k a_value) kinded.1 has_kind, are.0), counted))

  pub on_list : (expressions : Trees) → ClaimAll expressions → Claim setting (list expressions)
  on_list expressions claim_of_expressions site environment locals operands loops callers wants here =
      let names = names_in site.scope in
      let kind = first_kind (heads_in setting) names expressions in
      let count = count_of expressions in
      let end : ℕ = site.place + sizes (heads_in setting) names expressions in
      let past : ℕ = site.place + size (heads_in setting) names (list expressions) in
      let Wanted = Left setting (list_kind count kind) site.free past locals operands loops callers in
      let AreElements : List Value → Type 0 = λ values. AllHave kind values × (length values ≡ count) in
      let elements_code = all_code setting.callees site expressions in
      goes_bind setting.code setting.world (frame_at setting site.place locals operands loops ∷ callers)
      (values_of setting.world setting.functions environment expressions) list_of
      (LeftAll AreElements site.free end locals operands loops callers) Wanted
      (claim_of_expressions kind site environment locals operands loops callers
      (at_front setting.block.lines site.place elements_code (I.List count ∷ []) wants.0) wants.1 wants.2.3 here)
      (λ values next_state leaves.
      let locals_now = leaves.locals_behind in
      let counted : length (reverse values) ≡ count = length-reverse values ∙ leaves.of_kinds.1 in
      let have = all_turned kind values [] leaves.of_kinds.0 tt in
      let state_is : next_state ≡ frame_at setting end locals_now (reverse values ++ operands) loops ∷ callers = leaves.is
      ∙ ap (λ l. frame_at setting end locals_now l loops ∷ callers) (turned_onto values [] operands) in
      subst (λ s. Goes setting.code setting.world s (list_of values) Wanted) (sym state_is)
      (goes_left setting (list_kind count kind) site.free site.free (end + 1) past locals locals_now operands loops callers
      (frame_at setting end locals_now (reverse values ++ operands) loops ∷ callers) (list_of values)
      (omega arith) (omega arith) leaves.kept
      (subst (λ l. Goes setting.code setting.world (frame_at setting end locals_now (reverse values ++ operands) loops ∷ callers) (list_of l)
      (Left setting (list_kind count kind) site.free (end + 1) locals_now operands loops callers)) (reverse-reverse values)
      (operates setting (list_kind count kind) site.free end locals_now (reverse values) operands loops callers (I.List count) tt refl
      (at_head setting.block.lines end (I.List count) []
      (at_back setting.block.lines site.place (sizes (heads_in setting) names expressions) elements_code (I.List count ∷ [])
      (all-size setting.world.basin setting.callees site kind expressions wants.2.3) wants.0))
      (all_roomy kind (reverse values) have) counted (listed_is kind count (reverse values) wants.2.2 have (omega (arith, wants.2.0, counted)))))))

  -- ---- arguments

  abbrev pub ClaimArguments : Trees → Type 0
  ClaimArguments expressions =
      (kinds : List Kind) (site : Site) (environment : Env) (locals operands : List Value) (loops : List Running) (callers : List Frame)
      → At setting.block.lines site.place (arguments_code setting.callees site kinds expressions)
      → At setting.kinds site.free (all_local_kinds (heads_in setting) (names_in site.scope) expressions)
      → AreArguments setting.world.basin (heads_in setting) (names_in site.scope) kinds expressions → Here setting site environment locals operands
      → Goes setting.code setting.world (frame_at setting site.place locals operands loops ∷ callers)
      (arguments_of setting.world setting.functions environment kinds expressions)
      (LeftAll (HaveKinds kinds) site.free
      (site.place + sizes_of_arguments (heads_in setting) (names_in site.scope) kinds expressions) locals operands loops callers)

  pub no_arguments : ClaimArguments no_trees
  no_arguments [] site environment locals operands loops callers placed locals_at kinded here =
      none (HaveKinds []) site.free site.place (site.place + 0) locals operands loops callers (omega arith) tt
  no_arguments (kind ∷ kinds) site environment locals operands loops callers placed locals_at kinded here = absurd kinded

  pub more_arguments : (expression : Tree) (expressions : Trees) → Claim setting expression → ClaimArguments expressions
      → ClaimArguments (tree expression expressions)
  more_arguments expression expressions claim_of_expression claim_of_expressions
      [] site environment locals operands loops callers placed locals_at kinded here = absurd kinded
  more_arguments expression expressions claim_of_expression claim_of_expressions
      (kind ∷ kinds) site environment locals operands loops callers placed locals_at kinded here =
      let names = names_in site.scope in
      let own_size : ℕ = size (heads_in setting) names expression + widening_size kind (kind_at (heads_in setting) site expression) in
      let second : Site = over kind (after_room setting.callees kind site expression) in
      let own_code : List Instruction = code_of setting.callees site expression ++ room_lines setting.callees kind site expression in
      let other_code = arguments_code setting.callees second kinds expressions in
      let own_locals = local_kinds (heads_in setting) names expression in
      let other_locals = all_local_kinds (heads_in setting) names expressions in
      let line : At setting.block.lines site.place (own_code ++ other_code) = subst (λ l. At setting.block.lines site.place l)
      (sym (append_assoc (code_of setting.callees site expression) (room_lines setting.callees kind site expression) other_code)) placed in
      let same : site.place + own_size ≡ second.place = omega arith in
      more (HaveKinds kinds) (HaveKinds (kind ∷ kinds)) kind site.free second.free
      (second.place + sizes_of_arguments (heads_in setting) names kinds expressions)
      (site.place + own_size)
      (site.place + sizes_of_arguments (heads_in setting) names (kind ∷ kinds) (tree expression expressions)) locals operands loops callers
      (frame_at setting site.place locals operands loops ∷ callers)
      (value_of setting.world setting.functions environment expression >>= widened kind)
      (arguments_of setting.world setting.functions environment kinds expressions)
      (omega arith) (omega arith)
      (in_room setting kind expression site environment locals operands loops callers claim_of_expression
      (at_front setting.block.lines site.place own_code other_code line)
      (at_front setting.kinds site.free own_locals other_locals locals_at) kinded.0
      kinded.1 here)
      (λ a_value locals_now has_kind kept_so.
      goes_at setting second.place (site.place + own_size) locals_now (a_value ∷ operands) loops callers
      (arguments_of setting.world setting.functions environment kinds expressions)
      (LeftAll (HaveKinds kinds) second.free (second.place + sizes_of_arguments (heads_in setting) names kinds expressions) locals_now
      (a_value ∷ operands) loops callers) (sym same)
      (claim_of_expressions kinds second environment locals_now (a_value ∷ operands) loops callers
      (at_moved setting.block.lines (site.place + own_size) second.place other_code same
      (at_back setting.block.lines site.place own_size own_code other_code
      (beside _ _ (code-size setting.world.basin setting.callees site expression kinded.0)
      (widening-size kind (kind_at (heads_in setting) site expression))) line))
      (at_back setting.kinds site.free (local_count expression) own_locals other_locals (locals_size (heads_in setting) expression names) locals_at)
      kinded.2
      (here_over setting (keeping (local_count expression) site) environment locals_now operands kind a_value has_kind
      (here_on setting site environment locals locals_now operands (local_count expression) here kept_so))))
      (λ a_value values has_kind are. (has_kind, are))

  pub on_call : (function_name : List ℕ) (expressions : Trees) → ClaimArguments expressions → Claim setting (call function_name expressions)
  on_call function_name expressions claim_of_expressions site environment locals operands loops callers wants here =
      let names = names_in site.scope in
      let known_so = setting.calls function_name wants.2.0 in
      let kinds = takes_named (heads_in setting) function_name in
      let end : ℕ = site.place + sizes_of_arguments (heads_in setting) names kinds expressions in
      let past : ℕ = site.place + size (heads_in setting) names (call function_name expressions) in
      let result = result_named (heads_in setting) function_name in
      let Wanted = Left setting result site.free past locals operands loops callers in
      let arguments_code = arguments_code setting.callees site kinds expressions in
      let call_here : Instruction = call_line setting.callees function_name in
      let means : called setting.functions function_name
      (λ (known : Function). arguments_of setting.world setting.functions environment known.head.takes expressions >>= known.does) ≡
      (arguments_of setting.world setting.functions environment kinds expressions >>= known_so.known.does) =
      known_so.found (λ (known : Function). arguments_of setting.world setting.functions environment known.head.takes expressions >>= known.does)
      ∙ ap (λ (ks : List Kind). arguments_of setting.world setting.functions environment ks expressions >>= known_so.known.does)
      (sym known_so.takes) in
      subst (λ m. Goes setting.code setting.world (frame_at setting site.place locals operands loops ∷ callers) m Wanted) (sym means)
      (goes_bind setting.code setting.world (frame_at setting site.place locals operands loops ∷ callers)
      (arguments_of setting.world setting.functions environment kinds expressions) known_so.known.does
      (LeftAll (HaveKinds kinds) site.free end locals operands loops callers) Wanted
      (claim_of_expressions kinds site environment locals operands loops callers
      (at_front setting.block.lines site.place arguments_code (call_here ∷ []) wants.0) wants.1 wants.2.1 here)
      (λ arguments next_state leaves.
      let locals_now = leaves.locals_behind in
      let state_is : next_state ≡ frame_at setting end locals_now (reverse arguments ++ operands) loops ∷ callers = leaves.is
      ∙ ap (λ l. frame_at setting end locals_now l loops ∷ callers) (turned_onto arguments [] operands) in
      let placed = at_head setting.block.lines end call_here []
      (at_back setting.block.lines site.place (sizes_of_arguments (heads_in setting) names kinds expressions) arguments_code (call_here ∷ [])
      (arguments-size setting.world.basin setting.callees site kinds expressions wants.2.1) wants.0) in
      subst (λ s. Goes setting.code setting.world s (known_so.known.does arguments) Wanted) (sym state_is)
      (goes_weaker setting.code setting.world (frame_at setting end locals_now (reverse arguments ++ operands) loops ∷ callers)
      (known_so.known.does arguments)
      (λ a_value next_state. (next_state ≡ frame_at setting (suc end) locals_now (a_value ∷ operands) loops ∷ callers)
      × HasKind known_so.known.head.result a_value) Wanted
      (λ a_value next_state stands. subst (λ s. Wanted a_value s) (sym stands.0)
      (left setting result site.free past (suc end) locals locals_now operands loops callers a_value (omega arith)
      (subst (λ k. HasKind k a_value) (sym known_so.result) stands.1) leaves.kept))
      (known_so.does setting.own setting.block end locals_now arguments operands loops callers setting.stands placed
      (subst (λ ks. HaveKinds ks arguments) known_so.takes leaves.of_kinds)))))
