-- Functions with exact costs, what stops of them, and what definitions see of them.
use Rattle.rw_base.proofs.Common.{◌≡◌, ℕ, Bool, true, false, List, [], ◌∷◌, map, bytes_eq, refl, sym, ap, ◌∙◌, if◌then◌else◌}
use Rattle.rpl_tree.proofs.Common.{Budget, budget, capped, limits, Costed, costed_heads, most_named, result_named, takes_named}
use Rattle.rpl_budget.specs.Pass.{Priced, priced_named, priced_heads, room_for}

-- as one price sees them
abbrev pub costed : (Budget → ℕ) → List Priced → List Costed
costed part functions = map (λ (priced : Priced). record { head = priced.head; most = part priced.most }) functions

abbrev pub stopped_budget : Budget → Budget
stopped_budget its_budget =
    budget (capped limits.count its_budget.count) (capped limits.looks its_budget.looks) (capped limits.puts its_budget.puts)
    (capped limits.words its_budget.words)

abbrev pub stopped : List Priced → List Priced
stopped functions =
    map (λ (priced : Priced). record { head = priced.head; room = room_for priced.head.takes; most = stopped_budget priced.most }) functions

pub heads_same : (part : Budget → ℕ) (functions : List Priced) → costed_heads (costed part functions) ≡ priced_heads functions
heads_same part [] = refl
heads_same part (priced ∷ functions) = ap (λ heads. priced.head ∷ heads) (heads_same part functions)

-- ---- the function of a name

pub of_choice : {A B : Type 0} (part : A → B) (test : Bool) (x y : A) (z : B) → part y ≡ z → part (if test then x else y) ≡ if test then part x else z
of_choice part true x y z same = refl
of_choice part false x y z same = same

pub takes_same : (functions : List Priced) (function_name : List ℕ)
    → (priced_named (stopped functions) function_name).head.takes ≡ takes_named (priced_heads functions) function_name
takes_same [] function_name = refl
takes_same (known ∷ functions) function_name =
    of_choice (λ (priced : Priced). priced.head.takes) (bytes_eq known.head.name function_name) _ _ _ (takes_same functions function_name)

pub result_same : (functions : List Priced) (function_name : List ℕ)
    → (priced_named (stopped functions) function_name).head.result ≡ result_named (priced_heads functions) function_name
result_same [] function_name = refl
result_same (known ∷ functions) function_name =
    of_choice (λ (priced : Priced). priced.head.result) (bytes_eq known.head.name function_name) _ _ _ (result_same functions function_name)

pub room_same : (functions : List Priced) (function_name : List ℕ)
    → (priced_named (stopped functions) function_name).room ≡ room_for (takes_named (priced_heads functions) function_name)
room_same [] function_name = refl
room_same (known ∷ functions) function_name =
    of_choice (λ (priced : Priced). priced.room) (bytes_eq known.head.name function_name) _ _ _ (room_same functions function_name)
    ∙ sym (of_choice room_for (bytes_eq known.head.name function_name) known.head.takes _ _ refl)

abbrev pub most_of_all : List Priced → List ℕ → Budget
most_of_all functions function_name =
    budget (most_named (costed (λ b. b.count) functions) function_name) (most_named (costed (λ b. b.looks) functions) function_name)
    (most_named (costed (λ b. b.puts) functions) function_name) (most_named (costed (λ b. b.words) functions) function_name)

most_by : (test : Bool) (known rest : Budget) (known_priced rest_priced : Priced) → known_priced.most ≡ stopped_budget known
    → rest_priced.most ≡ stopped_budget rest
    → (if test then known_priced else rest_priced).most
    ≡ stopped_budget (budget (if test then known.count else rest.count) (if test then known.looks else rest.looks)
    (if test then known.puts else rest.puts) (if test then known.words else rest.words))
most_by true known rest known_priced rest_priced known_is rest_is = known_is
most_by false known rest known_priced rest_priced known_is rest_is = rest_is

pub most_same : (functions : List Priced) (function_name : List ℕ)
    → (priced_named (stopped functions) function_name).most ≡ stopped_budget (most_of_all functions function_name)
most_same [] function_name = refl
most_same (known ∷ functions) function_name =
    most_by (bytes_eq known.head.name function_name) known.most (most_of_all functions function_name) _ _ refl (most_same functions function_name)
