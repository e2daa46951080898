-- What each form costs at one price, by what its parts cost, where each number stops above the limit.
use Rattle.rw_base.proofs.Common.{◌≡◌, ℕ, ◌+◌, ◌*◌, max, Bool, true, false, List, ◌∷◌, refl, ap, ◌∙◌, subst, if◌then◌else◌}
use Rattle.rpl_tree.specs.declared.words.TwoWord.TheVariants as W
use Rattle.rpl_tree.proofs.Common.{Budget, capped, limits, Costed, Price, costed_heads, most, most_arguments, most_named, most_of, most_of_act}
use Rattle.rpl_tree.proofs.Common.{most_of_acts, most_of_body, price_of_looks, price_of_puts, price_of_steps, to_widen, Head, Names, count_of}
use Rattle.rpl_tree.proofs.Common.{kind_named, takes_named, tree_kind, Tree, Trees, tree, bind, call, choice, each, list, mapped, name, two, Acts}
use Rattle.rpl_tree.proofs.Common.{with_name, Kind, element_of, is_same_kind, room_of, weight}
use Rattle.rpl_budget.specs.Pass.{Priced, priced_heads}
use Rattle.rpl_budget.specs.Loads.{widening_weight}
use Rattle.rpl_budget.proofs.Exact.{costed, heads_same}
use Rattle.rpl_budget.proofs.Sums as Sums
use Rattle.rpl_budget.proofs.Sums.{plus}

-- a price, its limit, what stops of its steps, and where budgets have it
pub record Lane : Type 0 where
  pub price : Price
  pub limit : ℕ
  pub part : Budget → ℕ
  pub steps : ℕ → ℕ
  pub stop : (n : ℕ) → steps n ≡ capped limit (price.step n)
  pub none : steps 0 ≡ capped limit 0

abbrev pub counting : Lane
counting = record {
  price = price_of_steps;
  limit = limits.count;
  part = λ b. b.count;
  steps = capped limits.count;
  stop = λ n. refl;
  none = refl;
}

abbrev pub looking : Lane
looking = record {
  price = price_of_looks;
  limit = limits.looks;
  part = λ b. b.looks;
  steps = λ n. 0;
  stop = λ n. refl;
  none = refl;
}

abbrev pub putting : Lane
putting = record {
  price = price_of_puts;
  limit = limits.puts;
  part = λ b. b.puts;
  steps = λ n. 0;
  stop = λ n. refl;
  none = refl;
}

module _ (lane : Lane) (functions : List Priced) where
  abbrev costed_functions : List Costed
  costed_functions = costed lane.part functions

  abbrev cap : ℕ → ℕ
  cap n = capped lane.limit n

  abbrev and : ℕ → ℕ → ℕ
  and first second = plus lane.limit first second

  -- what stops of an expression's cost
  abbrev capped_cost : Names → Tree → ℕ
  capped_cost names expression = cap (most lane.price costed_functions names expression)

  -- what is read with the kinds that these functions give
  by_heads : (P : List Head → Type 0) → P (costed_heads costed_functions) → P (priced_heads functions)
  by_heads P holds = subst P (heads_same lane.part functions) holds

  -- room that is given, if it is given
  given : (test : Bool) (words : ℕ) → lane.steps (if test then 0 else words) ≡ cap (if test then 0 else lane.price.step words)
  given true words = lane.none
  given false words = lane.stop words

  widened : (place kind : Kind) → lane.steps (widening_weight place kind) ≡ cap (to_widen lane.price costed_functions place kind)
  widened place kind = given (is_same_kind place kind) (weight place)

  abbrev price : Price
  price = lane.price

  abbrev of : Names → Tree → ℕ
  of names expression = most price costed_functions names expression

  abbrev heads : List Head
  heads = costed_heads costed_functions

  pub list_cost : (names : Names) (expressions : Trees)
      → and (cap (most_of price costed_functions names expressions)) (and (lane.steps (count_of expressions + 1)) 0)
      ≡ capped_cost names (list expressions)
  list_cost names expressions = Sums.listed lane.limit (most_of price costed_functions names expressions) _ _ (lane.stop (count_of expressions + 1))

  -- a value of a kind, where another kind's room is given
  abbrev Fitted : Kind → Kind → ℕ → ℕ
  Fitted place kind cost = and cost (and (lane.steps (widening_weight place kind)) 0)

  abbrev Choice : Names → Tree → Tree → Tree → List Head → Type 0
  Choice names condition if_true if_false heads_given =
      let kind = tree_kind heads_given names (choice condition if_true if_false) in
      and (capped_cost names condition)
      (and (max (Fitted kind (tree_kind heads_given names if_true) (capped_cost names if_true))
      (Fitted kind (tree_kind heads_given names if_false) (capped_cost names if_false))) (lane.steps 3))
      ≡ capped_cost names (choice condition if_true if_false)

  pub choice_cost : (names : Names) (condition if_true if_false : Tree) → Choice names condition if_true if_false (priced_heads functions)
  choice_cost names condition if_true if_false =
      by_heads (Choice names condition if_true if_false)
      (Sums.choice lane.limit (of names condition) (of names if_true) (of names if_false) _ _ _ _ _ _
      (widened (tree_kind heads names (choice condition if_true if_false)) (tree_kind heads names if_true))
      (widened (tree_kind heads names (choice condition if_true if_false)) (tree_kind heads names if_false))
      (lane.stop 3))

  abbrev Bind : Names → List ℕ → Tree → Tree → List Head → Type 0
  Bind names new_name value_tree body heads_given =
      let kind = tree_kind heads_given names value_tree in
      and (capped_cost names value_tree) (and (lane.steps (weight kind)) (capped_cost ((new_name, kind) ∷ names) body))
      ≡ capped_cost names (bind new_name value_tree body)

  pub bind_cost : (names : Names) (new_name : List ℕ) (value_tree body : Tree) → Bind names new_name value_tree body (priced_heads functions)
  bind_cost names new_name value_tree body =
      let kind = tree_kind heads names value_tree in
      by_heads (Bind names new_name value_tree body)
      (Sums.bind lane.limit (of names value_tree) _ _ (of ((new_name, kind) ∷ names) body) (lane.stop (weight kind)))

  abbrev Each : Names → List ℕ → Tree → List ℕ → Tree → Tree → List Head → Type 0
  Each names item_name source total_name initial body heads_given =
      let all = tree_kind heads_given names source in
      let total = tree_kind heads_given names initial in
      let inside : Names = (total_name, total) ∷ (item_name, element_of all) ∷ names in
      and (and (capped_cost names source) (capped_cost names initial)) (and (and (lane.steps (2 * weight total + 1)) (and 0 0))
      (cap (room_of all * and (Fitted total (tree_kind heads_given inside body) (capped_cost inside body)) (lane.steps (weight total + 1)))))
      ≡ capped_cost names (each item_name source total_name initial body)

  pub each_cost : (names : Names) (item_name : List ℕ) (source : Tree) (total_name : List ℕ) (initial body : Tree)
      → Each names item_name source total_name initial body (priced_heads functions)
  each_cost names item_name source total_name initial body =
      let all = tree_kind heads names source in
      let total = tree_kind heads names initial in
      let inside : Names = (total_name, total) ∷ (item_name, element_of all) ∷ names in
      let turn = Sums.turn lane.limit (of inside body) _ _ _ _ (widened total (tree_kind heads inside body)) (lane.stop (weight total + 1)) in
      by_heads (Each names item_name source total_name initial body)
      (ap (λ turn_cost.
      and (and (capped_cost names source) (capped_cost names initial))
      (and (and (lane.steps (2 * weight total + 1)) (and 0 0)) (cap (room_of all * turn_cost)))) turn
      ∙ Sums.each lane.limit (of names source) (of names initial) _ _ _ (room_of all) (lane.stop (2 * weight total + 1)))

  abbrev Mapped : Names → List ℕ → Tree → Tree → List Head → Type 0
  Mapped names item_name source body heads_given =
      let all = tree_kind heads_given names source in
      and (capped_cost names source)
      (and (and (lane.steps 1) 0) (cap (room_of all * and (capped_cost ((item_name, element_of all) ∷ names) body) (lane.steps 1))))
      ≡ capped_cost names (mapped item_name source body)

  pub mapped_cost : (names : Names) (item_name : List ℕ) (source body : Tree) → Mapped names item_name source body (priced_heads functions)
  mapped_cost names item_name source body =
      let all = tree_kind heads names source in
      by_heads (Mapped names item_name source body)
      (Sums.mapped lane.limit (of names source) _ _ (of ((item_name, element_of all) ∷ names) body) (room_of all) (lane.stop 1))

  pub step_cost : (first steps : ℕ) → and (cap first) (lane.steps steps) ≡ cap (first + price.step steps)
  step_cost first steps = Sums.step lane.limit first _ _ (lane.stop steps)

  pub two_cost : (first second steps : ℕ) → and (cap first) (and (cap second) (lane.steps steps)) ≡ cap (first + (second + price.step steps))
  two_cost first second steps = Sums.two lane.limit first second _ _ (lane.stop steps)

  pub or_cost : (first second : ℕ)
      → and (cap first) (and (max (lane.steps 1) (cap second)) (lane.steps 3)) ≡ cap (first + (max (price.step 1) second + price.step 3))
  or_cost first second = Sums.or_first lane.limit first second _ _ _ _ (lane.stop 1) (lane.stop 3)

  pub and_cost : (first second : ℕ)
      → and (cap first) (and (max (lane.steps 1) (cap second)) (lane.steps 3)) ≡ cap (first + (max second (price.step 1) + price.step 3))
  and_cost first second = Sums.or_last lane.limit first second _ _ _ _ (lane.stop 1) (lane.stop 3)

  pub branch_cost : (condition first second : ℕ)
      → and (cap condition) (and (max (cap first) (cap second)) (lane.steps 3)) ≡ cap (condition + (max first second + price.step 3))
  branch_cost condition first second = Sums.branch lane.limit condition first second _ _ (lane.stop 3)

  abbrev Argument : Names → Kind → List Kind → Tree → Trees → List Head → Type 0
  Argument names kind kinds expression expressions heads_given =
      and (Fitted kind (tree_kind heads_given names expression) (capped_cost names expression))
      (cap (most_arguments price costed_functions names kinds expressions))
      ≡ cap (most_arguments price costed_functions names (kind ∷ kinds) (tree expression expressions))

  pub argument_cost : (names : Names) (kind : Kind) (kinds : List Kind) (expression : Tree) (expressions : Trees)
      → Argument names kind kinds expression expressions (priced_heads functions)
  argument_cost names kind kinds expression expressions =
      by_heads (Argument names kind kinds expression expressions)
      (Sums.argument lane.limit (of names expression) _ _ (most_arguments price costed_functions names kinds expressions)
      (widened kind (tree_kind heads names expression)))

  abbrev Body : Names → Kind → Tree → List Head → Type 0
  Body names result body heads_given =
      Fitted result (tree_kind heads_given names body) (capped_cost names body) ≡ cap (most_of_body price costed_functions names result body)

  pub body_cost : (names : Names) (result : Kind) (body : Tree) → Body names result body (priced_heads functions)
  body_cost names result body =
      by_heads (Body names result body)
      (Sums.room lane.limit (of names body) _ _ (widened result (tree_kind heads names body)))

  abbrev WithName : Names → List ℕ → Tree → Acts → List Head → Type 0
  WithName names new_name value_tree body heads_given =
      let kind = tree_kind heads_given names value_tree in
      and (capped_cost names value_tree) (and (lane.steps (weight kind)) (cap (most_of_acts price costed_functions ((new_name, kind) ∷ names) body)))
      ≡ cap (most_of_act price costed_functions names (with_name new_name value_tree body))

  pub with_cost : (names : Names) (new_name : List ℕ) (value_tree : Tree) (body : Acts)
      → WithName names new_name value_tree body (priced_heads functions)
  with_cost names new_name value_tree body =
      let kind = tree_kind heads names value_tree in
      by_heads (WithName names new_name value_tree body)
      (Sums.bind lane.limit (of names value_tree) _ _ (most_of_acts price costed_functions ((new_name, kind) ∷ names) body) (lane.stop (weight kind)))

  abbrev Append : Names → Tree → Tree → List Head → Type 0
  Append names left right heads_given =
      and (capped_cost names left) (and (capped_cost names right) (lane.steps (room_of (tree_kind heads_given names left) + 2)))
      ≡ capped_cost names (two W.Append left right)

  pub append_cost : (names : Names) (left right : Tree) → Append names left right (priced_heads functions)
  append_cost names left right =
      by_heads (Append names left right)
      (Sums.two lane.limit (of names left) (of names right) _ _ (lane.stop (room_of (tree_kind heads names left) + 2)))

  -- a call, by the kinds that the function takes
  abbrev Call : Names → List ℕ → Trees → List Head → Type 0
  Call names function_name expressions heads_given =
      and (cap (most_arguments price costed_functions names (takes_named heads_given function_name) expressions))
      (cap (most_named costed_functions function_name)) ≡ capped_cost names (call function_name expressions)

  pub call_cost : (names : Names) (function_name : List ℕ) (expressions : Trees) → Call names function_name expressions (priced_heads functions)
  call_cost names function_name expressions =
      by_heads (Call names function_name expressions)
      (Sums.sum lane.limit (most_arguments price costed_functions names (takes_named heads function_name) expressions)
      (most_named costed_functions function_name))
