-- How high each form stands, and what its locals take, by its parts, where each number stops above the limit.
use Rattle.std.proofs.Common.{◌≡◌, ℕ, ◌+◌, ◌*◌, max, List, [], ◌∷◌, ◌++◌, sym, ap, ◌∙◌, subst, arith}
use Rattle.rpl_tree.proofs.Common.{capped, limits, Costed, costed_heads, most_named, Head, Names, result_named, takes_named, tree_kind, Tree, Trees}
use Rattle.rpl_tree.proofs.Common.{tree, bind, call, choice, each, mapped, Acts, with_name, Kind, element_of, room_of, weight, weights, height}
use Rattle.rpl_tree.proofs.Common.{height_of_act, height_of_acts, height_of_arguments}
use Rattle.rpl_budget.specs.Pass.{Priced, priced_heads}
use Rattle.rpl_budget.proofs.Exact.{costed, heads_same}

abbrev pub cap : ℕ → ℕ
cap n = capped limits.words n

-- ---- locals

pub weights-append : (first second : List Kind) → weights (first ++ second) ≡ weights first + weights second
weights-append [] second = omega arith
weights-append (kind ∷ first) second = let more = weights-append first second in omega (arith, more)

-- what two lists of locals take
pub two_locals : (first second : List Kind) → cap (cap (weights first) + cap (weights second)) ≡ cap (weights (first ++ second))
two_locals first second = omega (arith, weights-append first second)

-- ---- heights

cap_max : (first second : ℕ) → cap (max first second) ≡ max (cap first) (cap second)
cap_max first second = omega arith

cap_above : (above first : ℕ) → cap (above + cap first) ≡ cap (above + first)
cap_above above first = omega arith

none_before : (first : ℕ) → max 0 first ≡ first
none_before first = omega arith

none_behind : (first : ℕ) → max first 0 ≡ first
none_behind first = omega arith

grouped : (first second third : ℕ) → max (max first second) third ≡ max first (max second third)
grouped first second third = omega arith

with_each : (first second third : ℕ) → max (max first third) (max second third) ≡ max (max first second) third
with_each first second third = omega arith

-- a test, and one of two values in a place
one_of_two : (condition if_true if_false room : ℕ)
    → max (cap condition) (max (max (max (cap if_true) (max 0 (cap room))) (max (cap if_false) (max 0 (cap room)))) 0)
    ≡ cap (max condition (max (max if_true if_false) room))
one_of_two condition if_true if_false room =
    ap (λ height_there. max (cap condition) (max (max (max (cap if_true) height_there) (max (cap if_false) height_there)) 0)) (none_before (cap room))
    ∙ ap (max (cap condition))
    (none_behind _ ∙ with_each (cap if_true) (cap if_false) (cap room)
    ∙ ap (λ height_there. max height_there (cap room)) (sym (cap_max if_true if_false)) ∙ sym (cap_max (max if_true if_false) room))
    ∙ sym (cap_max condition (max (max if_true if_false) room))

-- a list, a first value above it, and turns above both
turns_above : (source list_words initial turn_words body total : ℕ)
    → max (max (cap source) (cap (list_words + cap initial))) (max 0 (cap (turn_words + max (max (cap body) (max 0 (cap total))) 0)))
    ≡ cap (max source (max (list_words + initial) (turn_words + max body total)))
turns_above source list_words initial turn_words body total =
    let turn : max (max (cap body) (max 0 (cap total))) 0 ≡ cap (max body total) = none_behind _ ∙ ap (max (cap body)) (none_before (cap total))
    ∙ sym (cap_max body total) in
    ap (λ height_there. max (max (cap source) (cap (list_words + cap initial))) height_there)
    (none_before _ ∙ ap (λ height_there. cap (turn_words + height_there)) turn ∙ cap_above turn_words (max body total))
    ∙ ap (λ height_there. max (max (cap source) height_there) (cap (turn_words + max body total))) (cap_above list_words initial)
    ∙ grouped (cap source) (cap (list_words + initial)) (cap (turn_words + max body total))
    ∙ ap (max (cap source)) (sym (cap_max (list_words + initial) (turn_words + max body total)))
    ∙ sym (cap_max source (max (list_words + initial) (turn_words + max body total)))

module _ (functions : List Priced) where
  abbrev costed_functions : List Costed
  costed_functions = costed (λ b. b.words) functions

  abbrev heads : List Head
  heads = costed_heads costed_functions

  -- what stops of how high an expression stands
  abbrev capped_height : Names → Tree → ℕ
  capped_height names expression = cap (height costed_functions names expression)

  by_heads : (P : List Head → Type 0) → P heads → P (priced_heads functions)
  by_heads P holds = subst P (heads_same (λ b. b.words) functions) holds

  abbrev Choice : Names → Tree → Tree → Tree → List Head → Type 0
  Choice names condition if_true if_false heads_given =
      let words = cap (weight (tree_kind heads_given names (choice condition if_true if_false))) in
      max (capped_height names condition)
      (max (max (max (capped_height names if_true) (max 0 words)) (max (capped_height names if_false) (max 0 words))) 0)
      ≡ capped_height names (choice condition if_true if_false)

  pub choice_height : (names : Names) (condition if_true if_false : Tree) → Choice names condition if_true if_false (priced_heads functions)
  choice_height names condition if_true if_false =
      by_heads (Choice names condition if_true if_false)
      (one_of_two (height costed_functions names condition) (height costed_functions names if_true) (height costed_functions names if_false)
      (weight (tree_kind heads names (choice condition if_true if_false))))

  abbrev Bind : Names → List ℕ → Tree → Tree → List Head → Type 0
  Bind names new_name value_tree body heads_given =
      max (capped_height names value_tree) (max 0 (capped_height ((new_name, tree_kind heads_given names value_tree) ∷ names) body))
      ≡ capped_height names (bind new_name value_tree body)

  pub bind_height : (names : Names) (new_name : List ℕ) (value_tree body : Tree) → Bind names new_name value_tree body (priced_heads functions)
  bind_height names new_name value_tree body = by_heads (Bind names new_name value_tree body) (omega arith)

  abbrev Each : Names → List ℕ → Tree → List ℕ → Tree → Tree → List Head → Type 0
  Each names item_name source total_name initial body heads_given =
      let all = tree_kind heads_given names source in
      let total = tree_kind heads_given names initial in
      let inside : Names = (total_name, total) ∷ (item_name, element_of all) ∷ names in
      max (max (capped_height names source) (cap (weight all + capped_height names initial)))
      (max (max 0 (max 0 0)) (cap (room_of all + 3 + max (max (capped_height inside body) (max 0 (cap (weight total)))) 0)))
      ≡ capped_height names (each item_name source total_name initial body)

  pub each_height : (names : Names) (item_name : List ℕ) (source : Tree) (total_name : List ℕ) (initial body : Tree)
      → Each names item_name source total_name initial body (priced_heads functions)
  each_height names item_name source total_name initial body =
      let all = tree_kind heads names source in
      let total = tree_kind heads names initial in
      by_heads (Each names item_name source total_name initial body)
      (turns_above (height costed_functions names source) (weight all) (height costed_functions names initial) (room_of all + 3)
      (height costed_functions ((total_name, total) ∷ (item_name, element_of all) ∷ names) body) (weight total))

  abbrev Mapped : Names → List ℕ → Tree → Tree → List Head → Type 0
  Mapped names item_name source body heads_given =
      let all = tree_kind heads_given names source in
      max (capped_height names source) (max (max 0 0) (cap (2 * room_of all + 4 + max (capped_height ((item_name, element_of all) ∷ names) body) 0)))
      ≡ capped_height names (mapped item_name source body)

  pub mapped_height : (names : Names) (item_name : List ℕ) (source body : Tree) → Mapped names item_name source body (priced_heads functions)
  mapped_height names item_name source body = by_heads (Mapped names item_name source body) (omega arith)

  abbrev Argument : Names → Kind → List Kind → Tree → Trees → List Head → Type 0
  Argument names kind kinds expression expressions heads_given =
      max (max (capped_height names expression) (max 0 (cap (weight kind))))
      (cap (weight kind + cap (height_of_arguments costed_functions names kinds expressions)))
      ≡ cap (height_of_arguments costed_functions names (kind ∷ kinds) (tree expression expressions))

  pub argument_height : (names : Names) (kind : Kind) (kinds : List Kind) (expression : Tree) (expressions : Trees)
      → Argument names kind kinds expression expressions (priced_heads functions)
  argument_height names kind kinds expression expressions = by_heads (Argument names kind kinds expression expressions) (omega arith)

  abbrev WithName : Names → List ℕ → Tree → Acts → List Head → Type 0
  WithName names new_name value_tree body heads_given =
      max (capped_height names value_tree)
      (max 0 (cap (height_of_acts costed_functions ((new_name, tree_kind heads_given names value_tree) ∷ names) body)))
      ≡ cap (height_of_act costed_functions names (with_name new_name value_tree body))

  pub with_height : (names : Names) (new_name : List ℕ) (value_tree : Tree) (body : Acts)
      → WithName names new_name value_tree body (priced_heads functions)
  with_height names new_name value_tree body = by_heads (WithName names new_name value_tree body) (omega arith)

  -- a second value that is made while the first one waits
  abbrev Second : Names → Tree → Tree → List Head → Type 0
  Second names left right heads_given =
      max (capped_height names left) (max (cap (weight (tree_kind heads_given names left) + capped_height names right)) 0)
      ≡ cap (max (height costed_functions names left) (weight (tree_kind heads names left) + height costed_functions names right))

  pub second_height : (names : Names) (left right : Tree) → Second names left right (priced_heads functions)
  second_height names left right = by_heads (Second names left right) (omega arith)

  -- a call, by the kinds that the function takes
  abbrev Call : Names → List ℕ → Trees → List Head → Type 0
  Call names function_name expressions heads_given =
      max (cap (height_of_arguments costed_functions names (takes_named heads_given function_name) expressions))
      (max (cap (cap (weights (takes_named heads_given function_name)) + cap (most_named costed_functions function_name)))
      (cap (weight (result_named heads_given function_name)))) ≡ capped_height names (call function_name expressions)

  pub call_height : (names : Names) (function_name : List ℕ) (expressions : Trees) → Call names function_name expressions (priced_heads functions)
  call_height names function_name expressions = by_heads (Call names function_name expressions) (omega arith)
