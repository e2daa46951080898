-- The code of statements does what they mean.
use Rattle.rpl_compile.proofs.Common.{Act, Acts, AreKindedActs, Bool, Env, Frame, Instruction, IsKindedAct, IsTarget, Kind, List, None, Option}
use Rattle.rpl_compile.proofs.Common.{Outcome, Running, Site, Some, State, Tree, Value, [], a_number, act, act_code, act_done, act_local_kinds}
use Rattle.rpl_compile.proofs.Common.{act_locals, acts_code, acts_done, acts_local_kinds, acts_locals, after_act, after_acts, after_tree, ap, ap₂}
use Rattle.rpl_compile.proofs.Common.{arith, assign, bound, bounds_at, branch, chosen, code_kinds, code_of, false, gives, if◌then◌else◌, is_stuck}
use Rattle.rpl_compile.proofs.Common.{is_within, keeping, kind_at, kinds_of, knowing, local_count, local_kinds, names_in, never_behind, no_acts, on}
use Rattle.rpl_compile.proofs.Common.{put_of, refl, size, size_of_act, size_of_acts, slot_named, subst, suc, sym, true, unsigned_abs, value_of}
use Rattle.rpl_compile.proofs.Common.{with_name, within_or_end, ℕ, ℤ, ◌&&◌, ◌++◌, ◌+◌, ◌>>=◌, ◌∙◌, ◌∷◌, ◌≡◌, ◌≤◌}
use Rattle.rpl_code.specs.declared.instruction.Instruction.TheVariants as I
use Rattle.rpl_compile.proofs.Goes.{Goes, Made, goes_as, goes_bind, goes_none, goes_weaker}
use Rattle.rpl_compile.proofs.OfKind.{At, HasKind, at_back, at_front, at_head, number_is}
use Rattle.rpl_compile.proofs.Sizes.{act-size, acts-size, code-size}
use Rattle.rpl_compile.proofs.LocalSizes.{act_locals_size, acts_locals_size, locals_size}
use Rattle.rpl_compile.proofs.Setting.{Here, Kept, Setting, frame_at, heads_in, here_on, part, same_kept, then_kept}
use Rattle.rpl_compile.proofs.Steps.{step_does, two_binds}
use Rattle.rpl_compile.proofs.Choices.{EndsAt, choice_at, chosen_goes}
use Rattle.rpl_compile.proofs.Bindings.{binds, bound_at}
use Rattle.rpl_compile.proofs.Trees.{tree_goes}

module _ (setting : Setting) where
  -- what statements leave: the place behind them, and the operands as they were
  pub record Behind (free end : ℕ) (locals operands : List Value) (loops : List Running) (callers : List Frame) (done : Unit {0})
      (next_state : State) : Type 0 where
    pub locals_behind : List Value
    pub is : next_state ≡ frame_at setting end locals_behind operands loops ∷ callers
    pub kept : Kept free locals locals_behind

  abbrev pub ClaimAct : Act → Type 0
  ClaimAct statement = (site : Site) (environment : Env) (locals operands : List Value) (loops : List Running) (callers : List Frame)
      → At setting.block.lines site.place (act_code setting.callees site statement)
      → At setting.kinds site.free (act_local_kinds (heads_in setting) (names_in site.scope) statement)
      → IsKindedAct setting.world.basin (heads_in setting) (names_in site.scope) statement → Here setting site environment locals operands
      → Goes setting.code setting.world (frame_at setting site.place locals operands loops ∷ callers)
      (act_done setting.world setting.functions environment statement)
      (Behind site.free (site.place + size_of_act (heads_in setting) (names_in site.scope) statement) locals operands loops callers)

  abbrev pub ClaimActs : Acts → Type 0
  ClaimActs statements = (site : Site) (environment : Env) (locals operands : List Value) (loops : List Running) (callers : List Frame)
      → At setting.block.lines site.place (acts_code setting.callees site statements)
      → At setting.kinds site.free (acts_local_kinds (heads_in setting) (names_in site.scope) statements)
      → AreKindedActs setting.world.basin (heads_in setting) (names_in site.scope) statements → Here setting site environment locals operands
      → Goes setting.code setting.world (frame_at setting site.place locals operands loops ∷ callers)
      (acts_done setting.world setting.functions environment statements)
      (Behind site.free (site.place + size_of_acts (heads_in setting) (names_in site.scope) statements) locals operands loops callers)

  behind : (free more end same_end : ℕ) (locals locals_now operands : List Value) (loops : List Running) (callers : List Frame) (state : State)
      (outcome : Outcome (Unit {0}))
      → end ≡ same_end → free ≤ more → Kept free locals locals_now
      → Goes setting.code setting.world state outcome (Behind more end locals_now operands loops callers)
      → Goes setting.code setting.world state outcome (Behind free same_end locals operands loops callers)
  behind free more end same_end locals locals_now operands loops callers state outcome end_is at_most kept goes =
      goes_weaker setting.code setting.world state outcome (Behind more end locals_now operands loops callers)
      (Behind free same_end locals operands loops callers)
      (λ done next_state leaves. record {
        locals_behind = leaves.locals_behind;
        is = leaves.is ∙ ap (λ n. frame_at setting n leaves.locals_behind operands loops ∷ callers) end_is;
        kept = then_kept free more locals locals_now leaves.locals_behind at_most kept leaves.kept;
      }) goes

  -- ---- a put

  put_made : (Wanted : Unit {0} → Type 0) (found : Option ℕ) (ahead : ℤ) (quantity : ℤ) → IsTarget setting.world.basin (heads_in setting) found ahead
      → Wanted tt
      → Made (put_of setting.world.basin found ahead (a_number quantity)).answer Wanted
  put_made Wanted None ahead quantity is_target wanted = absurd is_target.0
  put_made Wanted (Some s) ahead quantity is_target wanted =
      subst (λ (test : Bool).
      Made (if test then within_or_end (is_within (bounds_at setting.world.basin s) quantity) s
      (unsigned_abs ahead) quantity else is_stuck).answer Wanted)
      (sym (ap₂ (λ wanted q. wanted && q) is_target.0 is_target.1))
      (by (is_within (bounds_at setting.world.basin s) quantity))
    where
      by : (test : Bool) → Made (within_or_end test s (unsigned_abs ahead) quantity).answer Wanted
      by true = wanted
      by false = tt

  on_assign : (object slot_name : List ℕ) (ahead : ℤ) (value_tree : Tree) → ClaimAct (assign object slot_name ahead value_tree)
  on_assign object slot_name ahead value_tree site environment locals operands loops callers placed locals_at kinded here =
      let own_size = size (heads_in setting) (names_in site.scope) value_tree in
      let end : ℕ = site.place + own_size in
      let past : ℕ = site.place + (own_size + 1) in
      let found = slot_named setting.world.basin.objects object slot_name in
      let put_line : Instruction = I.Put object slot_name (unsigned_abs ahead) in
      let Wanted = Behind site.free past locals operands loops callers in
      part setting (kind_at (heads_in setting) site value_tree) site.free end locals operands loops callers
      (frame_at setting site.place locals operands loops ∷ callers) (value_of setting.world setting.functions environment value_tree)
      (put_of setting.world.basin found ahead) Wanted
      (tree_goes setting value_tree site environment locals operands loops callers
      (at_front setting.block.lines site.place (code_of setting.callees site value_tree) (put_line ∷ []) placed, locals_at, kinded.0) here)
      (λ a_value locals_now has_kind kept_so.
      let number_so = number_is a_value (subst (λ k. HasKind k a_value) kinded.1 has_kind) in
      subst (λ a_value.
      Goes setting.code setting.world (frame_at setting end locals_now (a_value ∷ operands) loops ∷ callers)
      (put_of setting.world.basin found ahead a_value) Wanted) (sym number_so.1)
      (goes_as setting.code setting.world (frame_at setting end locals_now (a_number number_so.0 ∷ operands) loops) callers
      (put_of setting.world.basin found ahead (a_number number_so.0))
      (λ d. frame_at setting (suc end) locals_now operands loops ∷ callers) Wanted
      (step_does setting end locals_now (a_number number_so.0 ∷ []) operands loops callers put_line []
      (at_head setting.block.lines end put_line []
      (at_back setting.block.lines site.place own_size (code_of setting.callees site value_tree) (put_line ∷ [])
      (code-size setting.world.basin setting.callees site value_tree kinded.0) placed)) refl refl
      ∙ ap (λ d. put_of setting.world.basin found d (a_number number_so.0)
      >>= (λ (u : Unit {0}). gives (frame_at setting (suc end) locals_now operands loops) 0) >>=
      (λ (frame : Frame). gives (frame ∷ callers) 0)) (never_behind setting.world.basin ahead kinded.2.1)
      ∙ two_binds (put_of setting.world.basin found ahead (a_number number_so.0)) (λ d. frame_at setting (suc end) locals_now operands loops)
      (λ (frame : Frame). frame ∷ callers))
      (put_made (λ d. Wanted d (frame_at setting (suc end) locals_now operands loops ∷ callers)) found ahead number_so.0 kinded.2
      (record {
        locals_behind = locals_now;
        is = (let same_place : suc end ≡ past = omega arith in
            ap (λ own_size. frame_at setting own_size locals_now operands loops ∷ callers) same_place);
        kept = kept_so;
      }))))

  -- ---- an IF

  ends_at : (below : List Kind) (free more end middle_place last past : ℕ) (locals locals_now operands : List Value) (loops : List Running)
      (callers : List Frame) (state : State)
      (outcome : Outcome (Unit {0}))
      → end ≡ middle_place → suc last ≡ past → free ≤ more → Kept free locals locals_now → kinds_of operands ≡ code_kinds below
      → Goes setting.code setting.world state outcome (Behind more end locals_now operands loops callers)
      → Goes setting.code setting.world state outcome
      (EndsAt setting middle_place (suc last) below loops callers (Behind free past locals operands loops callers))
  ends_at below free more end middle_place last past locals locals_now operands loops callers state outcome end_is past_is at_most kept kinds_below
      goes =
      goes_weaker setting.code setting.world state outcome (Behind more end locals_now operands loops callers)
      (EndsAt setting middle_place (suc last) below loops callers (Behind free past locals operands loops callers))
      (λ done next_state leaves. (
        leaves.locals_behind,
        operands,
        leaves.is ∙ ap (λ n. frame_at setting n leaves.locals_behind operands loops ∷ callers) end_is,
        kinds_below,
        record {
          locals_behind = leaves.locals_behind;
          is = ap (λ n. frame_at setting n leaves.locals_behind operands loops ∷ callers) past_is;
          kept = then_kept free more locals locals_now leaves.locals_behind at_most kept leaves.kept;
        },
      )) goes

  on_branch : (condition : Tree) (first second : Acts) → ClaimActs first → ClaimActs second → ClaimAct (branch condition first second)
  on_branch condition first second claim_of_first claim_of_second site environment locals operands loops callers placed locals_at kinded here =
      let names = names_in site.scope in
      let condition_size = size (heads_in setting) names condition in
      let first_size = size_of_acts (heads_in setting) names first in
      let second_size = size_of_acts (heads_in setting) names second in
      let ahead : Site = on 1 (after_tree setting.callees condition site) in
      let middle : Site = after_acts setting.callees first ahead in
      let other : Site = on 2 middle in
      let last : Site = after_acts setting.callees second other in
      let past : ℕ = site.place + size_of_act (heads_in setting) names (branch condition first second) in
      let choice_so =
      choice_at setting site.place condition_size first_size second_size middle last site.below (code_of setting.callees site condition)
      (acts_code setting.callees ahead first)
      (acts_code setting.callees other second)
      (code-size setting.world.basin setting.callees site condition kinded.0) (acts-size setting.world.basin setting.callees ahead first kinded.2)
      (acts-size setting.world.basin setting.callees other second kinded.3) refl refl placed in
      let condition_locals = local_kinds (heads_in setting) names condition in
      let first_locals = acts_local_kinds (heads_in setting) names first in
      let second_locals = acts_local_kinds (heads_in setting) names second in
      let behind_condition =
      at_back setting.kinds site.free (local_count condition) condition_locals (first_locals ++ second_locals)
      (locals_size (heads_in setting) condition names) locals_at in
      let behind_first =
      at_back setting.kinds ahead.free (acts_locals first) first_locals second_locals
      (acts_locals_size (heads_in setting) first names) behind_condition in
      let Wanted = Behind site.free past locals operands loops callers in
      part setting (kind_at (heads_in setting) site condition) site.free (site.place + condition_size) locals operands loops callers
      (frame_at setting site.place locals operands loops ∷ callers) (value_of setting.world setting.functions environment condition)
      (λ truth_value.
      chosen truth_value (acts_done setting.world setting.functions environment first)
      (acts_done setting.world setting.functions environment second)) Wanted
      (tree_goes setting condition site environment locals operands loops callers
      (choice_so.condition_at, at_front setting.kinds site.free condition_locals (first_locals ++ second_locals) locals_at, kinded.0) here)
      (λ truth_value locals_now has_kind kept_so.
      let there = here_on setting site environment locals locals_now operands (local_count condition) here kept_so in
      chosen_goes setting (site.place + condition_size) middle.place last.place site.below site.below truth_value locals_now operands loops callers
      (acts_done setting.world setting.functions environment first)
      (acts_done setting.world setting.functions environment second) Wanted
      choice_so.forks choice_so.jump choice_so.landing choice_so.end here.2 (subst (λ k. HasKind k truth_value) kinded.1 has_kind)
      (ends_at site.below site.free ahead.free (ahead.place + first_size) middle.place last.place past locals locals_now operands loops callers
      (frame_at setting ahead.place locals_now operands loops ∷ callers)
      (acts_done setting.world setting.functions environment first) refl (omega arith) (omega arith) kept_so here.2
      (claim_of_first ahead environment locals_now operands loops callers choice_so.first_at
      (at_front setting.kinds ahead.free first_locals second_locals behind_condition) kinded.2 there))
      (ends_at site.below site.free other.free (other.place + second_size) last.place last.place past locals locals_now operands loops callers
      (frame_at setting other.place locals_now operands loops ∷ callers)
      (acts_done setting.world setting.functions environment second) refl (omega arith) (omega arith) kept_so here.2
      (claim_of_second other environment locals_now operands loops callers choice_so.second_at behind_first kinded.3
      (here_on setting (keeping (local_count condition) site) environment locals_now locals_now operands (acts_locals first) there
      (same_kept ahead.free locals_now)))))

  -- ---- a name, and several statements

  on_with : (new_name : List ℕ) (value_tree : Tree) (body : Acts) → ClaimActs body → ClaimAct (with_name new_name value_tree body)
  on_with new_name value_tree body claim_of_body site environment locals operands loops callers placed locals_at kinded here =
      let inside : Site =
      knowing (bound new_name (kind_at (heads_in setting) site value_tree) site.free)
      (on 1 (after_tree setting.callees value_tree (keeping 1 site))) in
      let past : ℕ = site.place + size_of_act (heads_in setting) (names_in site.scope) (with_name new_name value_tree body) in
      let body_locals = acts_local_kinds (heads_in setting) (names_in inside.scope) body in
      let bound_so = bound_at setting value_tree site (acts_code setting.callees inside body) body_locals kinded.0 placed locals_at in
      binds setting new_name value_tree site environment locals operands loops callers (acts_code setting.callees inside body) body_locals
      (λ a_value. acts_done setting.world setting.functions ((new_name, a_value) ∷ environment) body)
      (Behind site.free past locals operands loops callers) (tree_goes setting value_tree) kinded.0 here bound_so
      (λ a_value locals_now kept_so there.
      behind site.free inside.free
      (inside.place + size_of_acts (heads_in setting) (names_in inside.scope) body) past locals locals_now operands loops callers
      (frame_at setting inside.place locals_now operands loops ∷ callers)
      (acts_done setting.world setting.functions ((new_name, a_value) ∷ environment) body) (omega arith) (omega arith) kept_so
      (claim_of_body inside ((new_name, a_value) ∷ environment) locals_now operands loops callers bound_so.behind bound_so.others kinded.1 there))

  none_done : ClaimActs no_acts
  none_done site environment locals operands loops callers placed locals_at kinded here =
      let place_is : site.place ≡ site.place + 0 = omega arith in
      goes_none setting.code setting.world (frame_at setting site.place locals operands loops ∷ callers) tt
      (Behind site.free (site.place + 0) locals operands loops callers)
      (record {
        locals_behind = locals;
        is = ap (λ n. frame_at setting n locals operands loops ∷ callers) place_is;
        kept = same_kept site.free locals;
      })

  more_done : (statement : Act) (statements : Acts) → ClaimAct statement → ClaimActs statements → ClaimActs (act statement statements)
  more_done statement statements claim_of_statement claim_of_statements site environment locals operands loops callers placed locals_at kinded here =
      let names = names_in site.scope in
      let own_size = size_of_act (heads_in setting) names statement in
      let second : Site = after_act setting.callees statement site in
      let past : ℕ = site.place + size_of_acts (heads_in setting) names (act statement statements) in
      let own_code = act_code setting.callees site statement in
      let other_code = acts_code setting.callees second statements in
      let own_locals = act_local_kinds (heads_in setting) names statement in
      let other_locals = acts_local_kinds (heads_in setting) names statements in
      let Wanted = Behind site.free past locals operands loops callers in
      goes_bind setting.code setting.world (frame_at setting site.place locals operands loops ∷ callers)
      (act_done setting.world setting.functions environment statement) (λ done. acts_done setting.world setting.functions environment statements)
      (Behind site.free (site.place + own_size) locals operands loops callers) Wanted
      (claim_of_statement site environment locals operands loops callers (at_front setting.block.lines site.place own_code other_code placed)
      (at_front setting.kinds site.free own_locals other_locals locals_at) kinded.0 here)
      (λ done next_state leaves.
      let locals_now = leaves.locals_behind in
      subst (λ s. Goes setting.code setting.world s (acts_done setting.world setting.functions environment statements) Wanted) (sym leaves.is)
      (behind site.free second.free (second.place + size_of_acts (heads_in setting) names statements) past locals locals_now operands loops callers
      (frame_at setting second.place locals_now operands loops ∷ callers)
      (acts_done setting.world setting.functions environment statements) (omega arith) (omega arith) leaves.kept
      (claim_of_statements second environment locals_now operands loops callers
      (at_back setting.block.lines site.place own_size own_code other_code
      (act-size setting.world.basin setting.callees site statement kinded.0) placed)
      (at_back setting.kinds site.free (act_locals statement) own_locals other_locals (act_locals_size (heads_in setting) statement names) locals_at)
      kinded.1
      (here_on setting site environment locals locals_now operands (act_locals statement) here leaves.kept))))

  mutual
    pub act_goes : (statement : Act) → ClaimAct statement
    act_goes (assign object slot_name ahead value_tree) = on_assign object slot_name ahead value_tree
    act_goes (branch condition first second) = on_branch condition first second (acts_go first) (acts_go second)
    act_goes (with_name new_name value_tree body) = on_with new_name value_tree body (acts_go body)

    pub acts_go : (statements : Acts) → ClaimActs statements
    acts_go no_acts = none_done
    acts_go (act first others) = more_done first others (act_goes first) (acts_go others)
