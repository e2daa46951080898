-- Declarations that are judged one after the other.
use Rattle.std.proofs.Common.{◌≡◌, ℕ, ◌+◌, List, [], ◌∷◌, ◌++◌, Result, Ok, Err, refl, sym, ap, ap₂, ◌∙◌, append_assoc}
use Rattle.rw_model.specs.Draft.{Draft}
use Rattle.rpl_tree.proofs.Common.{Budget, budget_of, Declared}
use Rattle.rpl_types.specs.Functions.{Signature}
use Rattle.rpl_types.specs.Nodes.{Judged, Types}
use Rattle.rpl_types.specs.Judged.{TypeRefusal, and_function, and_then, before_others, function_names, judged_from, type_refusal, with_budget}
use Rattle.rpl_types.specs.Declarations.{behind_found, node_refusal}
use Rattle.rpl_types.specs.declared.type_kind.TypeKind.{TypeKind}

pub none_found : {A : Type 0} (rest : Result (List A) TypeRefusal) → behind_found [] rest ≡ rest
none_found (Ok rest) = refl
none_found (Err refused) = refl

one_found : {A : Type 0} (found : List A) (x : A) (rest : Result (List A) TypeRefusal)
    → behind_found found (before_others x rest) ≡ behind_found (found ++ x ∷ []) rest
one_found found x (Ok rest) = ap Ok (sym (append_assoc found (x ∷ []) rest))
one_found found x (Err refused) = refl

module _ (basin : Draft) (rules : List Declared) (number : ℕ) (earlier : List Signature) (declaration : Declared) (declarations all : List Declared)
    (its_budget : Budget)
    (found : List Types) (whole : Result (List Types) TypeRefusal) (all_is : all ≡ declaration ∷ declarations)
    (its : its_budget ≡ budget_of rules number)
    (left : whole ≡ behind_found found (judged_from basin rules number earlier all)) where
  -- what is answered for the declaration
  abbrev here : List Declared → Budget → Judged Types
  here declarations_left c = with_budget basin (record { earlier = earlier; later = function_names declarations_left }) c declaration

  abbrev behind : Judged Types → Result (List Types) TypeRefusal
  behind answer =
      behind_found found
      (and_then number answer (λ ts. before_others ts (judged_from basin rules (number + 1) (and_function declaration earlier) declarations)))

  opened : (answer : Judged Types) → here all its_budget ≡ answer → whole ≡ behind answer
  opened answer same =
      left ∙ ap (λ xs. behind_found found (judged_from basin rules number earlier xs)) all_is
      ∙ ap behind (sym (ap₂ here all_is its) ∙ same)

  pub stops : (kind : TypeKind) (node : ℕ) → here all its_budget ≡ Err (node_refusal kind node) → whole ≡ Err (type_refusal kind number node)
  stops kind node same = opened (Err (node_refusal kind node)) same

  pub goes_on : (types : Types) → here all its_budget ≡ Ok types → (more : List Types) → more ≡ found ++ types ∷ []
      → (later : List Signature) → later ≡ and_function declaration earlier → (rest : List Declared) → rest ≡ declarations
      → whole ≡ behind_found more (judged_from basin rules (number + 1) later rest)
  goes_on types accepted more one later with_it rest after =
      opened (Ok types) accepted ∙ one_found found types (judged_from basin rules (number + 1) (and_function declaration earlier) declarations)
      ∙ ap₂ (λ xs l. behind_found xs (judged_from basin rules (number + 1) l declarations)) (sym one) (sym with_it)
      ∙ ap (λ xs. behind_found more (judged_from basin rules (number + 1) later xs)) (sym after)
