-- The same of statements, and of a whole body, whose first node is 1.
use Rattle.rw_base.proofs.Common.{◌≡◌, ◌+◌, ℕ, ℤ, arith, refl, ap, sym, ◌∙◌, List, [], ◌∷◌, ◌++◌, length, Option, Some, None, Ok, Err}
use Rattle.std.proofs.lemmas.List.{append_assoc, append-nil, length-append}
use Rattle.rw_model.specs.Draft.{Draft}
use Rattle.rpl_tree.specs.Tree.{Tree, Act, Acts, assign, branch, with_name, no_acts, act}
use Rattle.rpl_tree.specs.declared.rpl_type.RplType.{RplType}
use Rattle.rpl_types.specs.declared.type_kind.TypeKind.{TypeKind}
use Rattle.rpl_types.specs.Bodies.{own_and_nodes}
use Rattle.rpl_types.specs.Forms.{TypeScope, condition_misfit, target_misfit}
use Rattle.rpl_types.specs.Functions.{Callable}
use Rattle.rpl_types.specs.Nodes.{Expression, Judged, Types, node_behind, nodes, statement, types_of, types_of_act, types_of_acts, ◌>>=◌}
use Rattle.rpl_types.specs.Visited.{Progress, Visit, next_node, node_reserved, stands, visited, visited_act, visited_acts, with_variable}
use Rattle.rpl_types.specs.Visited.{without_variable}
use Rattle.rpl_types.proofs.Visiting.{answered, claim, first_number, one_more, part, second_number, seen_then_same, third_number, three_more}
use Rattle.rpl_types.proofs.Visiting.{two_more}

-- what is known behind statements whose nodes have those types
abbrev pub with_nodes : Progress → Types → Progress
with_nodes progress below = record { scope = progress.scope; types = progress.types ++ below }

same_progress : (progress later_progress : Progress) → later_progress.scope ≡ progress.scope → later_progress.types ≡ progress.types
    → later_progress ≡ progress
same_progress progress later_progress scope types i = record { scope = scope i; types = types i }

stood : (progress later_progress : Progress) (below : Types) (found : Option TypeKind) → later_progress.scope ≡ progress.scope
    → later_progress.types ≡ progress.types ++ None ∷ below
    → stands (next_node progress) later_progress found ≡ (statement (next_node progress) below found >>= λ all. Ok (with_nodes progress all))
stood progress later_progress below None scope types =
    ap (λ (r : Progress). Ok r) (same_progress (with_nodes progress (None ∷ below)) later_progress scope types)
stood progress later_progress below (Some kind) scope types = refl

-- the number of the node behind those
number_behind : (all first : Types) → length (all ++ first) + 1 ≡ length all + 1 + length first
number_behind all first = simp length-append (omega arith)

module _ (basin : Draft) (callable : Callable) where
  abbrev pub ClaimAct : Act → Type 0
  ClaimAct form =
      (progress : Progress)
      → visited_act basin callable progress form
      ≡ (types_of_act basin callable progress.scope (next_node progress) form >>= λ below. Ok (with_nodes progress below))

  abbrev pub ClaimActs : Acts → Type 0
  ClaimActs statements =
      (progress : Progress)
      → visited_acts basin callable progress statements
      ≡ (types_of_acts basin callable progress.scope (next_node progress) statements >>= λ below. Ok (with_nodes progress below))

  list_part : {B C : Type 0} (statements : Acts) → ClaimActs statements
      → (later_progress : Progress) (node_number : ℕ) (whole_step : Progress → Judged C) (first_step : Types → Judged B) (then_step : B → Judged C)
      → length later_progress.types + 1 ≡ node_number
      → ((below : Types) → whole_step (with_nodes later_progress below) ≡ (first_step below >>= then_step))
      → (visited_acts basin callable later_progress statements >>= whole_step)
      ≡ ((types_of_acts basin callable later_progress.scope node_number statements >>= first_step) >>= then_step)
  list_part statements claim_of_statements later_progress node_number whole_step first_step then_step number same =
      rw (claim_of_statements later_progress, number)
      (seen_then_same (types_of_acts basin callable later_progress.scope node_number statements)
      (with_nodes later_progress) whole_step first_step then_step same)

  on_assign : (object slot_name : List ℕ) (ahead : ℤ) (value_tree : Tree) → ClaimAct (assign object slot_name ahead value_tree)
  on_assign object slot_name ahead value_tree progress =
      part basin callable value_tree (claim basin callable value_tree) (node_reserved progress) _ _ _ _ (first_number progress.types) (λ value_answer.
      stood progress (answered (node_reserved progress) value_answer).progress (nodes value_answer)
      (target_misfit basin object slot_name ahead value_answer.own) refl (one_more progress.types (nodes value_answer)))

  on_branch : (condition : Tree) (first second : Acts) → ClaimActs first → ClaimActs second → ClaimAct (branch condition first second)
  on_branch condition first second claim_of_first claim_of_second progress =
      part basin callable condition (claim basin callable condition) (node_reserved progress) _ _ _ _ (first_number progress.types)
      (λ condition_answer.
      list_part first claim_of_first (answered (node_reserved progress) condition_answer).progress _ _ _ _
      (second_number progress.types (nodes condition_answer)) (λ first_nodes.
      list_part second claim_of_second (with_nodes (answered (node_reserved progress) condition_answer).progress first_nodes) _ _ _ _
      (third_number progress.types (nodes condition_answer) first_nodes) (λ second_nodes.
      stood progress (with_nodes (with_nodes (answered (node_reserved progress) condition_answer).progress first_nodes) second_nodes)
      (nodes condition_answer ++ first_nodes ++ second_nodes) (condition_misfit condition_answer.own) refl
      (three_more progress.types (nodes condition_answer) first_nodes second_nodes))))

  on_with : (new_name : List ℕ) (value_tree : Tree) (body : Acts) → ClaimActs body → ClaimAct (with_name new_name value_tree body)
  on_with new_name value_tree body claim_of_body progress =
      part basin callable value_tree (claim basin callable value_tree) (node_reserved progress) _ _ _ _ (first_number progress.types) (λ value_answer.
      list_part body claim_of_body (with_variable new_name value_answer.own (answered (node_reserved progress) value_answer).progress) _ _ _ _
      (second_number progress.types (nodes value_answer)) (λ body_nodes.
      let last = without_variable
      (with_nodes (with_variable new_name value_answer.own (answered (node_reserved progress) value_answer).progress) body_nodes) in
      ap (λ (r : Progress). Ok r)
      (same_progress (with_nodes progress (None ∷ (nodes value_answer ++ body_nodes))) last refl
      (two_more progress.types (nodes value_answer) body_nodes))))

  on_no_acts : ClaimActs no_acts
  on_no_acts progress = ap (λ (r : Progress). Ok r) (same_progress (with_nodes progress []) progress refl (sym (append-nil progress.types)))

  seen_acts : (judged : Judged Types) (progress : Progress) (first : Types)
      → (judged >>= λ others. Ok (with_nodes (with_nodes progress first) others))
      ≡ ((judged >>= λ others. Ok (first ++ others)) >>= λ below. Ok (with_nodes progress below))
  seen_acts (Ok others) progress first =
      ap (λ (r : Progress). Ok r)
      (same_progress (with_nodes progress (first ++ others)) (with_nodes (with_nodes progress first) others) refl
      (append_assoc progress.types first others))
  seen_acts (Err r) progress first = refl

  on_act : (form : Act) (rest : Acts) → ClaimAct form → ClaimActs rest → ClaimActs (act form rest)
  on_act form rest claim_of_statement claim_of_rest progress =
      rw (claim_of_statement progress)
      (seen_then_same (types_of_act basin callable progress.scope (next_node progress) form) (with_nodes progress) _ _ _ (λ below.
      claim_of_rest (with_nodes progress below) ∙ (rw (number_behind progress.types below)
      (seen_acts (types_of_acts basin callable progress.scope (node_behind (next_node progress) below) rest) progress below))))

  mutual
    pub claim_act : (statement : Act) → ClaimAct statement
    claim_act (assign object slot_name ahead value_tree) = on_assign object slot_name ahead value_tree
    claim_act (branch condition first second) = on_branch condition first second (claim_acts first) (claim_acts second)
    claim_act (with_name new_name value_tree body) = on_with new_name value_tree body (claim_acts body)

    pub claim_acts : (statements : Acts) → ClaimActs statements
    claim_acts no_acts = on_no_acts
    claim_acts (act first others) = on_act first others (claim_act first) (claim_acts others)

-- ---- a whole body

abbrev begun : TypeScope → Progress
begun scope = record { scope = scope; types = [] }

abbrev pub kept : Judged Visit → Judged (RplType × Types)
kept (Ok v) = Ok (v.own, v.progress.types)
kept (Err refused) = Err refused

abbrev pub kept_types : Judged Progress → Judged Types
kept_types (Ok p) = Ok p.types
kept_types (Err refused) = Err refused

kept_nodes : (judged : Judged Expression) (scope : TypeScope) → own_and_nodes judged ≡ kept (judged >>= λ answer. Ok (answered (begun scope) answer))
kept_nodes (Ok e) scope = refl
kept_nodes (Err refused) scope = refl

kept_below : (judged : Judged Types) → judged ≡ kept_types (judged >>= λ below. Ok (with_nodes (begun []) below))
kept_below (Ok below) = refl
kept_below (Err refused) = refl

pub body_given : (basin : Draft) (callable : Callable) (scope : TypeScope) (expression : Tree)
    → own_and_nodes (types_of basin callable scope 1 expression) ≡ kept (visited basin callable (record { scope = scope; types = [] }) expression)
body_given basin callable scope expression =
    kept_nodes (types_of basin callable scope 1 expression) scope ∙ ap kept (sym (claim basin callable expression (begun scope)))

pub acts_given : (basin : Draft) (callable : Callable) (statements : Acts)
    → types_of_acts basin callable [] 1 statements ≡ kept_types (visited_acts basin callable (record { scope = []; types = [] }) statements)
acts_given basin callable statements =
    kept_below (types_of_acts basin callable [] 1 statements) ∙ ap kept_types (sym (claim_acts basin callable statements (begun [])))
