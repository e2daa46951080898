-- A value that is kept in a local, with a name: the claim of WITH in an expression. Statements use the same (`binds`).
use Rattle.rpl_compile.proofs.Common.{Env, Frame, Instruction, IsKinded, Kind, List, Outcome, Running, Site, Some, State, Tree, Value, after}
use Rattle.rpl_compile.proofs.Common.{after_tree, arith, bind, bound, code_of, keeping, kind_at, kind_of_value, knowing, length, local_count}
use Rattle.rpl_compile.proofs.Common.{local_kinds, names_in, on, refl, set, size, slice_get, slice_get_within, spent, subst, suc, value_of, weight, ℕ}
use Rattle.rpl_compile.proofs.Common.{◌++◌, ◌+◌, ◌<◌, ◌>>=◌, ◌∙◌, ◌∷◌, ◌≡◌, ◌≤◌}
use Rattle.rpl_code.specs.declared.instruction.Instruction.TheVariants as I
use Rattle.rpl_compile.proofs.Goes.{Goes, goes_first}
use Rattle.rpl_compile.proofs.OfKind.{At, HasKind, at_back, at_front, at_head, at_tail, set_before, set_here, set_long}
use Rattle.rpl_compile.proofs.Sizes.{code-size}
use Rattle.rpl_compile.proofs.LocalSizes.{locals_size}
use Rattle.rpl_compile.proofs.Setting.{Claim, Here, Kept, Left, Setting, frame_at, goes_at, goes_left, heads_in, here_on, holds_kept, kept_less, part}
use Rattle.rpl_compile.proofs.Setting.{same_kept}
use Rattle.rpl_compile.proofs.Steps.{stores}

pub kept_set : (free number : ℕ) (locals locals_now : List Value) (a_value : Value) → free ≤ number → Kept free locals locals_now
    → Kept free locals (set locals_now number a_value)
kept_set free number locals locals_now a_value at_most kept =
    (set_long locals_now number a_value ∙ kept.0, λ i less. set_before locals_now number i a_value (omega (arith, less, at_most)) ∙ kept.1 i less)

module _ (setting : Setting) where
  -- the first free local gets a name and a value
  pub here_known : (site : Site) (environment : Env) (locals locals_now operands : List Value) (new_name : List ℕ) (kind : Kind) (a_value : Value)
      (more : ℕ) → HasKind kind a_value
      → slice_get setting.kinds site.free ≡ Some kind → Here setting site environment locals operands → Kept site.free locals locals_now
      → Here setting (knowing (bound new_name kind site.free) (keeping (suc more) site)) ((new_name, a_value) ∷ environment)
      (set locals_now site.free a_value) operands
  here_known site environment locals locals_now operands new_name kind a_value more has_kind has here kept =
      let long : length locals_now ≡ length setting.kinds = kept.0 ∙ here.1 in
      let there : site.free < length locals_now = omega (arith, slice_get_within setting.kinds site.free kind has, long) in (
        (
          refl,
          has_kind,
          set_here locals_now site.free a_value there,
          omega arith,
          has,
          holds_kept setting.kinds site.scope environment locals (set locals_now site.free a_value) site.free (site.free + suc more) here.0
              (omega arith)
              (kept_set site.free site.free locals locals_now a_value (omega arith) kept),
        ),
        set_long locals_now site.free a_value ∙ long,
        here.2,
      )

  -- where the value stands among the lines, and what comes behind it
  pub record BoundAt (value_tree : Tree) (site : Site) (lines : List Instruction) (kinds : List Kind) : Type 0 where
    pub value_at : At setting.block.lines site.place (code_of setting.callees (keeping 1 site) value_tree)
    pub value_kinds : At setting.kinds (site.free + 1) (local_kinds (heads_in setting) (names_in site.scope) value_tree)
    pub keeps : slice_get setting.block.lines (site.place + size (heads_in setting) (names_in site.scope) value_tree) ≡ Some (I.Store site.free)
    pub local : slice_get setting.kinds site.free ≡ Some (kind_at (heads_in setting) site value_tree)
    pub behind : At setting.block.lines (site.place + size (heads_in setting) (names_in site.scope) value_tree + 1) lines
    pub others : At setting.kinds (site.free + 1 + local_count value_tree) kinds

  pub bound_at : (value_tree : Tree) (site : Site) (lines : List Instruction) (kinds : List Kind)
      → IsKinded setting.world.basin (heads_in setting) (names_in site.scope) value_tree
      → At setting.block.lines site.place (code_of setting.callees (keeping 1 site) value_tree ++ I.Store site.free ∷ lines)
      → At setting.kinds site.free
      (kind_at (heads_in setting) site value_tree ∷ (local_kinds (heads_in setting) (names_in site.scope) value_tree ++ kinds))
      → BoundAt value_tree site lines kinds
  bound_at value_tree site lines kinds kinded placed locals_at =
      let names = names_in site.scope in
      let value_code = code_of setting.callees (keeping 1 site) value_tree in
      let behind_value = at_back setting.block.lines site.place (size (heads_in setting) names value_tree) value_code (I.Store site.free ∷ lines)
      (code-size setting.world.basin setting.callees (keeping 1 site) value_tree kinded) placed in
      let value_locals = local_kinds (heads_in setting) names value_tree in
      let behind_local = at_tail setting.kinds site.free (kind_at (heads_in setting) site value_tree) (value_locals ++ kinds) locals_at in
      record {
        value_at = at_front setting.block.lines site.place value_code (I.Store site.free ∷ lines) placed;
        value_kinds = at_front setting.kinds (site.free + 1) value_locals kinds behind_local;
        keeps = at_head setting.block.lines (site.place + size (heads_in setting) names value_tree) (I.Store site.free) lines behind_value;
        local = at_head setting.kinds site.free (kind_at (heads_in setting) site value_tree) (value_locals ++ kinds) locals_at;
        behind = at_tail setting.block.lines (site.place + size (heads_in setting) names value_tree) (I.Store site.free) lines behind_value;
        others = at_back setting.kinds (site.free + 1) (local_count value_tree) value_locals kinds
            (locals_size (heads_in setting) value_tree names) behind_local;
      }

  pub binds : {A : Type 0} (new_name : List ℕ) (value_tree : Tree) (site : Site) (environment : Env) (locals operands : List Value)
      (loops : List Running) (callers : List Frame)
      (lines : List Instruction) (kinds : List Kind) (go : Value → Outcome A) (Wanted : A → State → Type 0)
      → Claim setting value_tree → IsKinded setting.world.basin (heads_in setting) (names_in site.scope) value_tree
      → Here setting site environment locals operands → BoundAt value_tree site lines kinds
      → ((a_value : Value) (locals_now : List Value) → Kept site.free locals locals_now → Here setting
      (knowing (bound new_name (kind_at (heads_in setting) site value_tree) site.free)
      (on 1 (after_tree setting.callees value_tree (keeping 1 site)))) ((new_name, a_value) ∷ environment) locals_now operands
      → Goes setting.code setting.world
      (frame_at setting (site.place + size (heads_in setting) (names_in site.scope) value_tree + 1) locals_now operands loops ∷ callers)
      (go a_value) Wanted)
      → Goes setting.code setting.world (frame_at setting site.place locals operands loops ∷ callers)
      (value_of setting.world setting.functions environment value_tree >>= (λ a_value. after (spent (weight (kind_of_value a_value))) (go a_value)))
      Wanted
  binds new_name value_tree site environment locals operands loops callers lines kinds go Wanted claim_of_value_tree kinded here bound_so inside =
      let kind = kind_at (heads_in setting) site value_tree in
      let end : ℕ = site.place + size (heads_in setting) (names_in site.scope) value_tree in
      part setting kind (site.free + 1) end locals operands loops callers (frame_at setting site.place locals operands loops ∷ callers)
      (value_of setting.world setting.functions environment value_tree)
      (λ a_value. after (spent (weight (kind_of_value a_value))) (go a_value)) Wanted
      (claim_of_value_tree (keeping 1 site) environment locals operands loops callers (bound_so.value_at, bound_so.value_kinds, kinded)
      (here_on setting site environment locals locals operands 1 here (same_kept site.free locals)))
      (λ a_value locals_now has_kind kept_so.
      let kept_here = kept_less site.free (site.free + 1) locals locals_now (omega arith) kept_so in
      let same_place : end + 1 ≡ suc end = omega arith in
      let same_free : site.free + suc (local_count value_tree) ≡ site.free + 1 + local_count value_tree = omega arith in
      let there =
      here_known site environment locals locals_now operands new_name kind a_value
      (local_count value_tree) has_kind bound_so.local here kept_here in
      goes_first setting.code setting.world (frame_at setting end locals_now (a_value ∷ operands) loops) callers
      (frame_at setting (suc end) (set locals_now site.free a_value) operands loops ∷ callers)
      (spent (weight (kind_of_value a_value))) (go a_value) Wanted
      (stores setting end site.free locals_now operands loops callers a_value kind bound_so.keeps bound_so.local has_kind)
      (goes_at setting (end + 1) (suc end) (set locals_now site.free a_value) operands loops callers (go a_value) Wanted same_place
      (inside a_value (set locals_now site.free a_value) (kept_set site.free site.free locals locals_now a_value (omega arith) kept_here)
      (subst (λ n.
      Here setting (knowing (bound new_name kind site.free) (record { scope = site.scope; free = n; place = site.place; below = site.below }))
      ((new_name, a_value) ∷ environment) (set locals_now site.free a_value) operands) same_free there))))

  pub on_bind : (new_name : List ℕ) (value_tree body : Tree) → Claim setting value_tree → Claim setting body
      → Claim setting (bind new_name value_tree body)
  on_bind new_name value_tree body claim_of_value_tree claim_of_body site environment locals operands loops callers wants here =
      let kind = kind_at (heads_in setting) site (bind new_name value_tree body) in
      let inside : Site =
      knowing (bound new_name (kind_at (heads_in setting) site value_tree) site.free)
      (on 1 (after_tree setting.callees value_tree (keeping 1 site))) in
      let past : ℕ = site.place + size (heads_in setting) (names_in site.scope) (bind new_name value_tree body) in
      let body_locals = local_kinds (heads_in setting) (names_in inside.scope) body in
      let bound_so = bound_at value_tree site (code_of setting.callees inside body) body_locals wants.2.0 wants.0 wants.1 in
      binds new_name value_tree site environment locals operands loops callers (code_of setting.callees inside body) body_locals
      (λ a_value. value_of setting.world setting.functions ((new_name, a_value) ∷ environment) body)
      (Left setting kind site.free past locals operands loops callers) claim_of_value_tree wants.2.0 here bound_so
      (λ a_value locals_now kept_so there.
      goes_left setting kind site.free inside.free
      (inside.place + size (heads_in setting) (names_in inside.scope) body) past locals locals_now operands loops callers
      (frame_at setting inside.place locals_now operands loops ∷ callers)
      (value_of setting.world setting.functions ((new_name, a_value) ∷ environment) body) (omega arith) (omega arith) kept_so
      (claim_of_body inside ((new_name, a_value) ∷ environment) locals_now operands loops callers
      (bound_so.behind, bound_so.others, wants.2.1) there))
