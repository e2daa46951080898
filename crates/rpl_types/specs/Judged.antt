-- How a ruleset is judged with a basin: the types of all its nodes, or its first refusal.
use Rattle.std.specs.Prelude.{ℕ, ◌+◌, nat_le, Bool, ◌&&◌, List, [], ◌∷◌, ◌++◌, Option, Some, None, option_and_then, unwrap_or, Result, Ok, Err, if◌then◌else◌}
use Rattle.rw_model.specs.Draft.{Draft}
use Rattle.rw_model.specs.Objects.{numbered}
use Rattle.rpl_tree.specs.Budget.{Budget, budget_of, limits}
use Rattle.rpl_tree.specs.Tree.{TypeName, Parameter, Declared, rule, function}
use Rattle.rpl_tree.specs.declared.rpl_type.RplType.{RplType}
use Rattle.rpl_types.specs.declared.type_kind.TypeKind.{TypeKind}
use Rattle.rpl_types.specs.declared.type_kind.TypeKind.TheVariants.{DuplicateName, TooCostly}
use Rattle.rpl_types.specs.Fits.{misfit}
use Rattle.rpl_types.specs.Functions.{Callable, Signature, head_misfit, is_duplicate, param_scope, signature, type_here}
use Rattle.rpl_types.specs.Nodes.{Judged, Types, nodes, types_of, types_of_acts, ◌>>=◌}

-- ---- a declaration, whose own number among its nodes is 0

abbrev pub refused_as_whole : {A : Type 0} → Option TypeKind → A → Judged A
refused_as_whole None x = Ok x
refused_as_whole (Some kind) x = Err (record { kind = kind; node = 0 })

-- what is wrong with a function before its body is judged
abbrev pub head_refusal : List Signature → List ℕ → List Parameter → TypeName → Option TypeKind
head_refusal earlier f ps result = if is_duplicate earlier f ps then Some DuplicateName else head_misfit ps result

-- the types of its nodes, its budgets apart
abbrev pub declared_types : Draft → Callable → Declared → Judged Types
declared_types basin callable (rule called_so body) = types_of_acts basin callable [] 1 body
declared_types basin callable (function f ps result body) =
    refused_as_whole (head_refusal callable.earlier f ps result) ps >>= λ params.
    types_of basin callable (param_scope params) 1 body >>= λ e.
    refused_as_whole (misfit e.own (type_here result)) (nodes e)

-- each of its budgets is within its limit
abbrev pub is_affordable : Budget → Bool
is_affordable b =
    nat_le b.count limits.count && nat_le b.looks limits.looks && nat_le b.puts limits.puts && nat_le b.words limits.words

abbrev pub cost_refusal : Budget → Option TypeKind
cost_refusal b = if is_affordable b then None else Some TooCostly

abbrev pub with_budget : Draft → Callable → Budget → Declared → Judged Types
with_budget basin callable b d = declared_types basin callable d >>= refused_as_whole (cost_refusal b)

-- ---- all declarations

-- what is wrong at which node of which declaration; both count from 1, and node 0 is the declaration as a whole
pub record TypeRefusal : Type 0 where
  pub kind : TypeKind
  pub declaration : ℕ
  pub node : ℕ

abbrev pub type_refusal : TypeKind → ℕ → ℕ → TypeRefusal
type_refusal kind declaration node = record { kind = kind; declaration = declaration; node = node }

abbrev pub function_names : List Declared → List (List ℕ)
function_names [] = []
function_names (rule called_so body ∷ ds) = function_names ds
function_names (function f ps result body ∷ ds) = f ∷ function_names ds

-- the functions that later declarations can call
abbrev pub and_function : Declared → List Signature → List Signature
and_function (rule called_so body) earlier = earlier
and_function (function f ps result body) earlier = earlier ++ signature f ps result ∷ []

-- the types of a declaration before those of the later ones
abbrev pub and_then : {A : Type 0} → ℕ → Judged A → (A → Result (List A) TypeRefusal) → Result (List A) TypeRefusal
and_then k (Err refused) later = Err (type_refusal refused.kind k refused.node)
and_then k (Ok types) later = later types

abbrev pub before_others : {A : Type 0} → A → Result (List A) TypeRefusal → Result (List A) TypeRefusal
before_others types (Err refused) = Err refused
before_others types (Ok others) = Ok (types ∷ others)

-- of the declarations from a number on, behind those functions
abbrev pub judged_from : Draft → List Declared → ℕ → List Signature → List Declared → Result (List Types) TypeRefusal
judged_from basin rules k earlier [] = Ok []
judged_from basin rules k earlier (d ∷ ds) =
    and_then k (with_budget basin (record { earlier = earlier; later = function_names (d ∷ ds) }) (budget_of rules k) d)
    (λ types. before_others types (judged_from basin rules (k + 1) (and_function d earlier) ds))

-- the types of the nodes of each declaration, or the first refusal
abbrev pub rules_judged : Draft → List Declared → Result (List Types) TypeRefusal
rules_judged basin rules = judged_from basin rules 1 [] rules

-- ---- types of nodes

-- the type of a node of a declaration, where it is an expression
abbrev pub type_in : Types → ℕ → Option RplType
type_in types node = unwrap_or (numbered types node) None

abbrev pub type_at : List Types → ℕ → ℕ → Option RplType
type_at all declaration node = option_and_then (λ types. type_in types node) (numbered all declaration)

-- the types, where the ruleset is accepted
abbrev pub types_or_none : Result (List Types) TypeRefusal → List Types
types_or_none (Ok all) = all
types_or_none (Err refused) = []

abbrev pub judged_types : Draft → List Declared → List Types
judged_types basin rules = types_or_none (rules_judged basin rules)
