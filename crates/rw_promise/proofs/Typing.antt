-- A ruleset that is accepted is accepted, with the same types, where rules may put further ahead.
use Rattle.rw_base.proofs.Common.{ap, arith, Bool, Err, false, if◌then◌else◌, int_le, ints, is_some, List, None, Ok, Option, pos, refl}
use Rattle.rw_base.proofs.Common.{Result, Some, true, ℕ, ℤ, ◌+◌, ◌++◌, ◌∙◌, ◌∷◌, ◌≡◌, ◌≤◌, and_parts, []}
use Rattle.rw_model.specs.Draft.{Draft}
use Rattle.rw_model.specs.Links.{dim_of}
use Rattle.rw_model.specs.Objects.{object_named, slot_named}
use Rattle.rpl_tree.proofs.Common.{Act, Acts, Budget, Declared, Tree, Trees, act, assign, at, bind, brackets, branch, budget_of, call, can_set}
use Rattle.rpl_tree.proofs.Common.{choice, convert, each, function, list, literal, mapped, name, no_acts, no_trees, now, one, rule, slot, table_named, tree}
use Rattle.rpl_tree.proofs.Common.{truth, two, with_name}
use Rattle.rpl_tree.specs.World.{can_put_ahead}
use Rattle.rpl_tree.specs.declared.rpl_type.RplType.{RplType}
use Rattle.rpl_tree.specs.declared.rpl_type.RplType.TheVariants.{Numeric}
use Rattle.rpl_types.specs.declared.type_kind.TypeKind.{TypeKind}
use Rattle.rpl_types.specs.declared.type_kind.TypeKind.TheVariants.{NotSettable, TargetStep}
use Rattle.rpl_types.specs.Fits.{misfit}
use Rattle.rpl_types.specs.Forms.{TypeScope, condition_misfit, convert_type, element_type, found_slot_type, found_target_misfit, is_look}
use Rattle.rpl_types.specs.Forms.{list_type, look_type, one_type, target_misfit, two_type}
use Rattle.rpl_types.specs.Functions.{Callable, Signature, call_type, param_scope, type_here}
use Rattle.rpl_types.specs.Judged.{TypeRefusal, and_function, and_then, before_others, cost_refusal, declared_types, function_names, head_refusal}
use Rattle.rpl_types.specs.Judged.{judged_from, refused_as_whole, rules_judged, with_budget}
use Rattle.rpl_types.specs.Nodes.{Expression, Judged, Types, at_node, expression, node_behind, nodes, statement, types_of, types_of_act}
use Rattle.rpl_types.specs.Nodes.{types_of_acts, types_of_all, ◌>>=◌}
use Rattle.rw_ahead.specs.Ahead.{ahead_to}

-- ---- judgements in turn

each_same : {A B : Type 0} (judged : Judged A) (near there : A → Judged B) → ((x : A) → near x ≡ there x) → (judged >>= near) ≡ (judged >>= there)
each_same (Ok x) near there same = same x
each_same (Err refusal) near there same = refl

both_same : {A B : Type 0} (judged again : Judged A) (near there : A → Judged B) → judged ≡ again → ((x : A) → near x ≡ there x)
    → (judged >>= near) ≡ (again >>= there)
both_same judged again near there first then_ = ap (λ judged. judged >>= near) first ∙ each_same again near there then_

bound : {A B : Type 0} (judged : Judged A) (then_ : A → Judged B) (all : B) → (judged >>= then_) ≡ Ok all
    → (x : A) × (judged ≡ Ok x) × (then_ x ≡ Ok all)
bound (Ok x) then_ all is = (x, refl, is)
bound (Err refusal) then_ all is = absurd (cc)

behind_it : {A : Type 0} (k : ℕ) (judged : Judged A) (later : A → Result (List A) TypeRefusal) (all : List A) → and_then k judged later ≡ Ok all
    → (x : A) × (judged ≡ Ok x) × (later x ≡ Ok all)
behind_it k (Ok x) later all is = (x, refl, is)
behind_it k (Err refusal) later all is = absurd (cc)

others : {A : Type 0} (x : A) (judged : Result (List A) TypeRefusal) (all : List A) → before_others x judged ≡ Ok all
    → (rest : List A) × (judged ≡ Ok rest) × (before_others x (Ok rest) ≡ Ok all)
others x (Ok rest) all is = (rest, refl, is)
others x (Err refusal) all is = absurd (cc)

module _ (basin : Draft) (most : ℕ) (more : basin.control.ahead ≤ most) where
  abbrev far : Draft
  far = ahead_to most basin

  -- ---- a put

  sooner_is_fine : (ahead : ℤ) → can_put_ahead basin ahead ≡ true → can_put_ahead far ahead ≡ true
  sooner_is_fine ahead can =
      let parts = and_parts (int_le (pos 0) ahead) (int_le ahead (pos basin.control.ahead)) can in
      grind (arith, ints, parts, more)

  put_far : (n : ℕ) (below all : Types) (settable near there : Bool) (found : Option TypeKind) → (near ≡ true → there ≡ true)
      → statement n below (if settable then (if near then found else Some TargetStep) else Some NotSettable) ≡ Ok all
      → statement n below (if settable then (if there then found else Some TargetStep) else Some NotSettable) ≡ Ok all
  put_far n below all false near there found reach is = absurd (cc)
  put_far n below all true false there found reach is = absurd (cc)
  put_far n below all true true true found reach is = is
  put_far n below all true true false found reach is = let can = reach refl in absurd (cc)

  target_far : (n : ℕ) (below all : Types) (found : Option ℕ) (ahead : ℤ) (t : RplType)
      → statement n below (found_target_misfit basin found ahead t) ≡ Ok all → statement n below (found_target_misfit far found ahead t) ≡ Ok all
  target_far n below all None ahead t is = absurd (cc)
  target_far n below all (Some s) ahead t is =
      put_far n below all (can_set basin s) (can_put_ahead basin ahead) (can_put_ahead far ahead) (misfit t (Numeric (dim_of basin.objects s)))
      (sooner_is_fine ahead) is

  slot_same : (found : Option ℕ) → found_slot_type far found ≡ found_slot_type basin found
  slot_same None = refl
  slot_same (Some s) = refl

  module _ (callable : Callable) where
    -- ---- expressions, whose types don't go by it

    abbrev Same : Tree → Type 0
    Same t = (scope : TypeScope) (n : ℕ) → types_of far callable scope n t ≡ types_of basin callable scope n t

    abbrev AllSame : Trees → Type 0
    AllSame ts = (scope : TypeScope) (n : ℕ) → types_of_all far callable scope n ts ≡ types_of_all basin callable scope n ts

    on_choice : (c y d : Tree) → Same c → Same y → Same d → Same (choice c y d)
    on_choice c y d test first second scope n =
        both_same _ _ _ _ (test scope (n + 1)) (λ a. both_same _ _ _ _ (first scope (node_behind (n + 1) (nodes a)))
        (λ b. both_same _ _ _ _ (second scope (node_behind (n + 1) (nodes a ++ nodes b))) (λ z. refl)))

    on_bind : (x : List ℕ) (v b : Tree) → Same v → Same b → Same (bind x v b)
    on_bind x v b value body scope n =
        both_same _ _ _ _ (value scope (n + 1)) (λ a. both_same _ _ _ _ (body ((x, a.own) ∷ scope) (node_behind (n + 1) (nodes a))) (λ z. refl))

    on_mapped : (x : List ℕ) (l b : Tree) → Same l → Same b → Same (mapped x l b)
    on_mapped x l b items body scope n =
        both_same _ _ _ _ (items scope (n + 1)) (λ a. each_same (at_node n (element_type a.own)) _ _
        (λ item. both_same _ _ _ _ (body ((x, item) ∷ scope) (node_behind (n + 1) (nodes a))) (λ z. refl)))

    on_each : (x : List ℕ) (l : Tree) (y : List ℕ) (f b : Tree) → Same l → Same f → Same b → Same (each x l y f b)
    on_each x l y f b items first body scope n =
        both_same _ _ _ _ (items scope (n + 1)) (λ a. both_same _ _ _ _ (first scope (node_behind (n + 1) (nodes a)))
        (λ total. each_same (at_node n (element_type a.own)) _ _
        (λ item. both_same _ _ _ _ (body ((y, total.own) ∷ (x, item) ∷ scope) (node_behind (n + 1) (nodes a ++ nodes total))) (λ z. refl))))

    on_pair : (l r : Tree) → Same l → Same r → (made : Expression → Expression → Judged Expression) (scope : TypeScope) (n : ℕ)
        → (types_of far callable scope (n + 1) l >>= λ a. types_of far callable scope (node_behind (n + 1) (nodes a)) r >>= λ b. made a b)
        ≡ (types_of basin callable scope (n + 1) l >>= λ a. types_of basin callable scope (node_behind (n + 1) (nodes a)) r >>= λ b. made a b)
    on_pair l r left right made scope n =
        both_same _ _ _ _ (left scope (n + 1)) (λ a. both_same _ _ _ _ (right scope (node_behind (n + 1) (nodes a))) (λ b. refl))

    on_tree : (t : Tree) (ts : Trees) → Same t → AllSame ts → AllSame (tree t ts)
    on_tree t ts first rest scope n =
        both_same _ _ _ _ (first scope n) (λ a. both_same _ _ _ _ (rest scope (node_behind n (nodes a))) (λ z. refl))

    mutual
      type_same : (t : Tree) → Same t
      type_same (literal z unit) = λ scope n. refl
      type_same (truth b) = λ scope n. refl
      type_same now = λ scope n. refl
      type_same (slot o s) = λ scope n. ap (expression n []) (slot_same (slot_named basin.objects o s))
      type_same (name x) = λ scope n. refl
      type_same (call f ts) =
          λ scope n. ap (λ judged. judged >>= λ row. expression n row.all (call_type callable f row.types)) (types_same ts scope (n + 1))
      type_same (brackets t) = λ scope n. ap (λ judged. judged >>= λ e. expression n (nodes e) (Ok e.own)) (type_same t scope (n + 1))
      type_same (list ts) = λ scope n. ap (λ judged. judged >>= λ row. expression n row.all (list_type row.types)) (types_same ts scope (n + 1))
      type_same (choice c y d) = on_choice c y d (type_same c) (type_same y) (type_same d)
      type_same (bind x v b) = on_bind x v b (type_same v) (type_same b)
      type_same (each x l y f b) = on_each x l y f b (type_same l) (type_same f) (type_same b)
      type_same (mapped x l b) = on_mapped x l b (type_same l) (type_same b)
      type_same (one word t) =
          λ scope n. ap (λ judged. judged >>= λ part. expression n (nodes part) (one_type word (is_look t) part.own)) (type_same t scope (n + 1))
      type_same (two word l r) =
          λ scope n. on_pair l r (type_same l) (type_same r) (λ a b. expression n (nodes a ++ nodes b) (two_type word a.own b.own)) scope n
      type_same (convert word o t) =
          λ scope n. ap (λ judged. judged >>= λ part. expression n (nodes part)
          (convert_type word (is_some (object_named basin.objects o)) (is_some (table_named basin o)) part.own)) (type_same t scope (n + 1))
      type_same (at s d) =
          λ scope n. on_pair s d (type_same s) (type_same d) (λ a b. expression n (nodes a ++ nodes b) (look_type a.own b.own)) scope n

      types_same : (ts : Trees) → AllSame ts
      types_same no_trees = λ scope n. refl
      types_same (tree t ts) = on_tree t ts (type_same t) (types_same ts)

    -- ---- statements

    abbrev Far : Act → Type 0
    Far a = (scope : TypeScope) (n : ℕ) (all : Types) → types_of_act basin callable scope n a ≡ Ok all → types_of_act far callable scope n a ≡ Ok all

    abbrev AllFar : Acts → Type 0
    AllFar body =
        (scope : TypeScope) (n : ℕ) (all : Types) → types_of_acts basin callable scope n body ≡ Ok all
        → types_of_acts far callable scope n body ≡ Ok all

    on_assign : (o s : List ℕ) (ahead : ℤ) (v : Tree) → Far (assign o s ahead v)
    on_assign o s ahead v scope n all is =
        let a = bound (types_of basin callable scope (n + 1) v) _ all is in
        ap (λ judged. judged >>= λ value. statement n (nodes value) (target_misfit far o s ahead value.own)) (type_same v scope (n + 1) ∙ a.1)
        ∙ target_far n (nodes a.0) all (slot_named basin.objects o s) ahead a.0.own a.2

    on_branch : (c : Tree) (ys ns : Acts) → AllFar ys → AllFar ns → Far (branch c ys ns)
    on_branch c ys ns first second scope n all is =
        let a = bound (types_of basin callable scope (n + 1) c) _ all is in
        let b = bound (types_of_acts basin callable scope (node_behind (n + 1) (nodes a.0)) ys) _ all a.2 in
        let z = bound (types_of_acts basin callable scope (node_behind (n + 1) (nodes a.0 ++ b.0)) ns) _ all b.2 in
        ap (λ judged. judged >>= λ test. types_of_acts far callable scope (node_behind (n + 1) (nodes test)) ys
        >>= λ yes. types_of_acts far callable scope (node_behind (n + 1) (nodes test ++ yes)) ns
        >>= λ other. statement n (nodes test ++ yes ++ other) (condition_misfit test.own)) (type_same c scope (n + 1) ∙ a.1)
        ∙ ap (λ judged. judged >>= λ yes. types_of_acts far callable scope (node_behind (n + 1) (nodes a.0 ++ yes)) ns
        >>= λ other. statement n (nodes a.0 ++ yes ++ other) (condition_misfit a.0.own))
        (first scope (node_behind (n + 1) (nodes a.0)) b.0 b.1)
        ∙ ap (λ judged. judged >>= λ other. statement n (nodes a.0 ++ b.0 ++ other) (condition_misfit a.0.own))
        (second scope (node_behind (n + 1) (nodes a.0 ++ b.0)) z.0 z.1)
        ∙ z.2

    on_with : (x : List ℕ) (v : Tree) (body : Acts) → AllFar body → Far (with_name x v body)
    on_with x v body inside scope n all is =
        let a = bound (types_of basin callable scope (n + 1) v) _ all is in
        let b = bound (types_of_acts basin callable ((x, a.0.own) ∷ scope) (node_behind (n + 1) (nodes a.0)) body) _ all a.2 in
        ap (λ judged. judged >>= λ value. types_of_acts far callable ((x, value.own) ∷ scope) (node_behind (n + 1) (nodes value)) body
        >>= λ rest. statement n (nodes value ++ rest) None) (type_same v scope (n + 1) ∙ a.1)
        ∙ ap (λ judged. judged >>= λ rest. statement n (nodes a.0 ++ rest) None)
        (inside ((x, a.0.own) ∷ scope) (node_behind (n + 1) (nodes a.0)) b.0 b.1)
        ∙ b.2

    on_act : (a : Act) (rest : Acts) → Far a → AllFar rest → AllFar (act a rest)
    on_act a rest first later scope n all is =
        let x = bound (types_of_act basin callable scope n a) _ all is in
        let z = bound (types_of_acts basin callable scope (node_behind n x.0) rest) _ all x.2 in
        ap (λ judged. judged >>= λ own. types_of_acts far callable scope (node_behind n own) rest >>= λ others. Ok (own ++ others))
        (first scope n x.0 x.1)
        ∙ ap (λ judged. judged >>= λ others. Ok (x.0 ++ others)) (later scope (node_behind n x.0) z.0 z.1)
        ∙ z.2

    mutual
      act_far : (a : Act) → Far a
      act_far (assign o s ahead v) = on_assign o s ahead v
      act_far (branch c ys ns) = on_branch c ys ns (acts_far ys) (acts_far ns)
      act_far (with_name x v body) = on_with x v body (acts_far body)

      acts_far : (body : Acts) → AllFar body
      acts_far no_acts = λ scope n all is. is
      acts_far (act a rest) = on_act a rest (act_far a) (acts_far rest)

    -- ---- declarations

    declared_far : (d : Declared) (types : Types) → declared_types basin callable d ≡ Ok types → declared_types far callable d ≡ Ok types
    declared_far (rule called_so body) types is = acts_far body [] 1 types is
    declared_far (function f ps result body) types is =
        each_same (refused_as_whole (head_refusal callable.earlier f ps result) ps) _ _
        (λ params. ap (λ judged. judged >>= λ e. refused_as_whole (misfit e.own (type_here result)) (nodes e))
        (type_same body (param_scope params) 1)) ∙ is

    budget_far : (b : Budget) (d : Declared) (types : Types) → with_budget basin callable b d ≡ Ok types → with_budget far callable b d ≡ Ok types
    budget_far b d types is =
        let own = bound (declared_types basin callable d) _ types is in
        ap (λ judged. judged >>= refused_as_whole (cost_refusal b)) (declared_far d own.0 own.1) ∙ own.2

  judged_far : (rules : List Declared) (k : ℕ) (earlier : List Signature) (ds : List Declared) (all : List Types)
      → judged_from basin rules k earlier ds ≡ Ok all → judged_from far rules k earlier ds ≡ Ok all
  judged_far rules k earlier [] all is = is
  judged_far rules k earlier (d ∷ ds) all is =
      let callable : Callable = record { earlier = earlier; later = function_names (d ∷ ds) } in
      let own = behind_it k (with_budget basin callable (budget_of rules k) d) _ all is in
      let rest = others own.0 (judged_from basin rules (k + 1) (and_function d earlier) ds) all own.2 in
      ap (λ judged. and_then k judged (λ types. before_others types (judged_from far rules (k + 1) (and_function d earlier) ds)))
      (budget_far callable (budget_of rules k) d own.0 own.1)
      ∙ ap (before_others own.0) (judged_far rules (k + 1) (and_function d earlier) ds rest.0 rest.1)
      ∙ rest.2

pub typed_further : (basin : Draft) (most : ℕ) (rules : List Declared) (types : List Types) → basin.control.ahead ≤ most
    → rules_judged basin rules ≡ Ok types → rules_judged (ahead_to most basin) rules ≡ Ok types
typed_further basin most rules types more is = judged_far basin most more rules 1 [] rules types is
