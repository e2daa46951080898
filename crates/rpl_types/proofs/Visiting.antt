-- What is found on one way over a tree is what the definition gives: a claim for each form, over those of its parts.
use Rattle.rw_base.proofs.Common.{◌≡◌, ◌+◌, ◌-◌, ℕ, arith, refl, ap, sym, ◌∙◌, List, [], ◌∷◌, ◌++◌, length, Some, None, is_some, Ok, Err, slice_set}
use Rattle.rw_base.proofs.Common.{set-append_seam}
use Rattle.std.proofs.lemmas.List.{append_assoc, append-nil, length-append}
use Rattle.rw_model.proofs.Common.{Draft, object_named}
use Rattle.rpl_tree.proofs.Common.{table_named, Tree, Trees, literal, truth, now, slot, name, call, brackets, list, choice, bind, each, mapped, one}
use Rattle.rpl_tree.proofs.Common.{two, convert, at, no_trees, tree}
use Rattle.rpl_tree.specs.declared.words.OneWord.{OneWord}
use Rattle.rpl_tree.specs.declared.words.TwoWord.{TwoWord}
use Rattle.rpl_tree.specs.declared.words.ConvertWord.{ConvertWord}
use Rattle.rpl_tree.specs.declared.rpl_type.RplType.{RplType}
use Rattle.rpl_tree.specs.declared.rpl_type.RplType.TheVariants.{Boolean, Datetime}
use Rattle.rpl_types.specs.Fits.{Typed}
use Rattle.rpl_types.specs.Forms.{choice_type, convert_type, element_type, is_look, list_type, literal_type, look_type, mapped_type, name_type}
use Rattle.rpl_types.specs.Forms.{one_type, slot_type, total_type, two_type}
use Rattle.rpl_types.specs.Functions.{Callable, call_type}
use Rattle.rpl_types.specs.Nodes.{Expression, Judged, RowTypes, Types, at_node, node_behind, expression, nodes, types_of, types_of_all, ◌>>=◌}
use Rattle.rpl_types.specs.Visited.{Progress, RowVisit, Visit, node_filled, leaf, next_node, node_reserved, row_visit, node_settled, visit, visited}
use Rattle.rpl_types.specs.Visited.{visited_all, with_variable, without_variable}

-- what is known behind an expression whose nodes have those types
abbrev pub answered : Progress → Expression → Visit
answered progress answer = visit answer.own (record { scope = progress.scope; types = progress.types ++ nodes answer })

abbrev pub answered_all : List RplType → Progress → RowTypes → RowVisit
answered_all found progress row = row_visit (found ++ row.types) (record { scope = progress.scope; types = progress.types ++ row.all })

-- ---- one step, and then the rest

then_same : {A B C : Type 0} (judged : Judged A) (whole_step : A → Judged C) (first_step : A → Judged B) (then_step : B → Judged C)
    → ((made : A) → whole_step made ≡ (first_step made >>= then_step)) → (judged >>= whole_step) ≡ ((judged >>= first_step) >>= then_step)
then_same (Ok made) whole_step first_step then_step same = same made
then_same (Err why) whole_step first_step then_step same = refl

pub seen_then_same : {A B C D : Type 0} (judged : Judged A) (seen : A → B) (whole_step : B → Judged D) (first_step : A → Judged C)
    (then_step : C → Judged D)
    → ((made : A) → whole_step (seen made) ≡ (first_step made >>= then_step))
    → ((judged >>= λ made. Ok (seen made)) >>= whole_step) ≡ ((judged >>= first_step) >>= then_step)
seen_then_same (Ok made) seen whole_step first_step then_step same = same made
seen_then_same (Err why) seen whole_step first_step then_step same = refl

-- ---- the table

filled_is : (progress later_progress : Progress) (below : Types) (its_type : RplType) → later_progress.scope ≡ progress.scope
    → later_progress.types ≡ progress.types ++ None ∷ below
    → node_filled (next_node progress) later_progress its_type ≡ answered progress (record { own = its_type; below = below })
filled_is progress later_progress below its_type scope types i =
    let place : length progress.types + 1 - 1 ≡ length progress.types = omega arith in
    let kept = ap (λ (number : ℕ). slice_set later_progress.types number (Some its_type)) place
    ∙ ap (λ (all : Types). slice_set all (length progress.types) (Some its_type)) types
    ∙ set-append_seam progress.types None below (Some its_type) in
    visit its_type (record { scope = scope i; types = kept i })

ended : (progress later_progress : Progress) (below : Types) (judged_type : Typed) → later_progress.scope ≡ progress.scope
    → later_progress.types ≡ progress.types ++ None ∷ below
    → node_settled (next_node progress) later_progress judged_type
    ≡ (expression (next_node progress) below judged_type >>= λ answer. Ok (answered progress answer))
ended progress later_progress below (Ok t) scope types =
    ap (λ (visited_so : Visit). Ok visited_so) (filled_is progress later_progress below t scope types)
ended progress later_progress below (Err kind) scope types = refl

-- a node, and the nodes of one, two or three parts
pub one_more : (all first : Types) → (all ++ None ∷ []) ++ first ≡ all ++ None ∷ first
one_more all first = append_assoc all (None ∷ []) first

pub two_more : (all first second : Types) → ((all ++ None ∷ []) ++ first) ++ second ≡ all ++ None ∷ (first ++ second)
two_more all first second = append_assoc (all ++ None ∷ []) first second ∙ one_more all (first ++ second)

pub three_more : (all first second third : Types) → (((all ++ None ∷ []) ++ first) ++ second) ++ third ≡ all ++ None ∷ ((first ++ second) ++ third)
three_more all first second third =
    append_assoc ((all ++ None ∷ []) ++ first) second third ∙ two_more all first (second ++ third)
    ∙ ap (λ (nodes_there : Types). all ++ None ∷ nodes_there) (sym (append_assoc first second third))

-- the numbers of the first node of a first, a second and a third part
pub first_number : (all : Types) → length (all ++ None ∷ []) + 1 ≡ length all + 1 + 1
first_number all = simp length-append (omega arith)

pub second_number : (all first : Types) → length ((all ++ None ∷ []) ++ first) + 1 ≡ length all + 1 + 1 + length first
second_number all first = simp length-append (omega arith)

pub third_number : (all first second : Types) → length (((all ++ None ∷ []) ++ first) ++ second) + 1 ≡ length all + 1 + 1 + length (first ++ second)
third_number all first second = simp length-append (omega arith)

module _ (basin : Draft) (callable : Callable) where
  abbrev pub Claim : Tree → Type 0
  Claim form = (progress : Progress)
      → visited basin callable progress form
      ≡ (types_of basin callable progress.scope (next_node progress) form >>= λ answer. Ok (answered progress answer))

  abbrev pub ClaimAll : Trees → Type 0
  ClaimAll expressions = (found : List RplType) (progress : Progress) → visited_all basin callable found progress expressions
      ≡ (types_of_all basin callable progress.scope (next_node progress) expressions >>= λ row. Ok (answered_all found progress row))

  pub part : {B C : Type 0} (form : Tree) → Claim form
      → (later_progress : Progress) (first_number : ℕ) (whole_step : Visit → Judged C) (first_step : Expression → Judged B) (then_step : B → Judged C)
      → length later_progress.types + 1 ≡ first_number
      → ((answer : Expression) → whole_step (answered later_progress answer) ≡ (first_step answer >>= then_step))
      → (visited basin callable later_progress form >>= whole_step)
      ≡ ((types_of basin callable later_progress.scope first_number form >>= first_step) >>= then_step)
  part form claim_there later_progress first_number whole_step first_step then_step number same =
      rw (claim_there later_progress, number)
      (seen_then_same (types_of basin callable later_progress.scope first_number form)
      (answered later_progress) whole_step first_step then_step same)

  parts : {B : Type 0} (expressions : Trees) → ClaimAll expressions
      → (later_progress : Progress) (first_number : ℕ) (whole_step : RowVisit → Judged Visit) (first_step : RowTypes → Judged B)
      (then_step : B → Judged Visit)
      → length later_progress.types + 1 ≡ first_number
      → ((row : RowTypes) → whole_step (answered_all [] later_progress row) ≡ (first_step row >>= then_step))
      → (visited_all basin callable [] later_progress expressions >>= whole_step)
      ≡ ((types_of_all basin callable later_progress.scope first_number expressions >>= first_step) >>= then_step)
  parts expressions claim_there later_progress first_number whole_step first_step then_step number same =
      rw (claim_there [] later_progress, number)
      (seen_then_same (types_of_all basin callable later_progress.scope first_number expressions)
      (answered_all [] later_progress) whole_step first_step then_step same)

  on_leaf : (progress : Progress) (judged_type : Typed)
      → leaf progress judged_type ≡ (expression (next_node progress) [] judged_type >>= λ answer. Ok (answered progress answer))
  on_leaf progress judged_type = ended progress (node_reserved progress) [] judged_type refl refl

  on_call : (function_name : List ℕ) (expressions : Trees) → ClaimAll expressions → Claim (call function_name expressions)
  on_call function_name expressions claim_of_expressions progress =
      parts expressions claim_of_expressions (node_reserved progress) _ _ _ _ (first_number progress.types) (λ row.
      ended progress (answered_all [] (node_reserved progress) row).progress row.all (call_type callable function_name row.types) refl
      (one_more progress.types row.all))

  on_list : (expressions : Trees) → ClaimAll expressions → Claim (list expressions)
  on_list expressions claim_of_expressions progress =
      parts expressions claim_of_expressions (node_reserved progress) _ _ _ _ (first_number progress.types) (λ row.
      ended progress (answered_all [] (node_reserved progress) row).progress row.all (list_type row.types) refl (one_more progress.types row.all))

  on_brackets : (form : Tree) → Claim form → Claim (brackets form)
  on_brackets form claim_of_inside progress =
      part form claim_of_inside (node_reserved progress) _ _ _ _ (first_number progress.types) (λ answer.
      ended progress (answered (node_reserved progress) answer).progress (nodes answer) (Ok answer.own) refl (one_more progress.types (nodes answer)))

  on_one : (word : OneWord) (operand : Tree) → Claim operand → Claim (one word operand)
  on_one word operand claim_of_inside progress =
      part operand claim_of_inside (node_reserved progress) _ _ _ _ (first_number progress.types) (λ answer.
      ended progress (answered (node_reserved progress) answer).progress (nodes answer) (one_type word (is_look operand) answer.own) refl
      (one_more progress.types (nodes answer)))

  on_convert : (word : ConvertWord) (object : List ℕ) (operand : Tree) → Claim operand → Claim (convert word object operand)
  on_convert word object operand claim_of_inside progress =
      part operand claim_of_inside (node_reserved progress) _ _ _ _ (first_number progress.types) (λ answer.
      ended progress (answered (node_reserved progress) answer).progress (nodes answer)
      (convert_type word (is_some (object_named basin.objects object)) (is_some (table_named basin object)) answer.own) refl
      (one_more progress.types (nodes answer)))

  on_two : (word : TwoWord) (left right : Tree) → Claim left → Claim right → Claim (two word left right)
  on_two word left right claim_of_left claim_of_right progress =
      part left claim_of_left (node_reserved progress) _ _ _ _ (first_number progress.types) (λ first_answer.
      part right claim_of_right (answered (node_reserved progress) first_answer).progress _ _ _ _ (second_number progress.types (nodes first_answer))
      (λ second_answer.
      ended progress (answered (answered (node_reserved progress) first_answer).progress second_answer).progress
      (nodes first_answer ++ nodes second_answer) (two_type word first_answer.own second_answer.own) refl
      (two_more progress.types (nodes first_answer) (nodes second_answer))))

  on_at : (slot_tree date : Tree) → Claim slot_tree → Claim date → Claim (at slot_tree date)
  on_at slot_tree date claim_of_slot claim_of_date progress =
      part slot_tree claim_of_slot (node_reserved progress) _ _ _ _ (first_number progress.types) (λ first_answer.
      part date claim_of_date (answered (node_reserved progress) first_answer).progress _ _ _ _ (second_number progress.types (nodes first_answer))
      (λ second_answer.
      ended progress (answered (answered (node_reserved progress) first_answer).progress second_answer).progress
      (nodes first_answer ++ nodes second_answer) (look_type first_answer.own second_answer.own) refl
      (two_more progress.types (nodes first_answer) (nodes second_answer))))

  on_choice : (condition if_true if_false : Tree) → Claim condition → Claim if_true → Claim if_false → Claim (choice condition if_true if_false)
  on_choice condition if_true if_false claim_of_condition claim_of_true claim_of_false progress =
      part condition claim_of_condition (node_reserved progress) _ _ _ _ (first_number progress.types) (λ first_answer.
      part if_true claim_of_true (answered (node_reserved progress) first_answer).progress _ _ _ _ (second_number progress.types (nodes first_answer))
      (λ second_answer.
      part if_false claim_of_false (answered (answered (node_reserved progress) first_answer).progress second_answer).progress _ _ _ _
      (third_number progress.types (nodes first_answer) (nodes second_answer)) (λ third_answer.
      ended progress (answered (answered (answered (node_reserved progress) first_answer).progress second_answer).progress third_answer).progress
      (nodes first_answer ++ nodes second_answer ++ nodes third_answer)
      (choice_type first_answer.own second_answer.own third_answer.own) refl
      (three_more progress.types (nodes first_answer) (nodes second_answer) (nodes third_answer)))))

  on_bind : (new_name : List ℕ) (value_tree body : Tree) → Claim value_tree → Claim body → Claim (bind new_name value_tree body)
  on_bind new_name value_tree body claim_of_value claim_of_body progress =
      part value_tree claim_of_value (node_reserved progress) _ _ _ _ (first_number progress.types) (λ first_answer.
      part body claim_of_body (with_variable new_name first_answer.own (answered (node_reserved progress) first_answer).progress) _ _ _ _
      (second_number progress.types (nodes first_answer)) (λ inside.
      ended progress
      (without_variable
      (answered (with_variable new_name first_answer.own (answered (node_reserved progress) first_answer).progress) inside).progress)
      (nodes first_answer ++ nodes inside) (Ok inside.own) refl (two_more progress.types (nodes first_answer) (nodes inside))))

  on_mapped : (item_name : List ℕ) (source body : Tree) → Claim source → Claim body → Claim (mapped item_name source body)
  on_mapped item_name source body claim_of_source claim_of_body progress =
      part source claim_of_source (node_reserved progress) _ _ _ _ (first_number progress.types) (λ first_answer.
      then_same (at_node (next_node progress) (element_type first_answer.own)) _ _ _ (λ item.
      part body claim_of_body (with_variable item_name item (answered (node_reserved progress) first_answer).progress) _ _ _ _
      (second_number progress.types (nodes first_answer)) (λ inside.
      ended progress
      (without_variable (answered (with_variable item_name item (answered (node_reserved progress) first_answer).progress) inside).progress)
      (nodes first_answer ++ nodes inside) (mapped_type first_answer.own inside.own) refl
      (two_more progress.types (nodes first_answer) (nodes inside)))))

  on_each : (item_name : List ℕ) (source : Tree) (total_name : List ℕ) (initial body : Tree) → Claim source → Claim initial → Claim body
      → Claim (each item_name source total_name initial body)
  on_each item_name source total_name initial body claim_of_source claim_of_initial claim_of_body progress =
      part source claim_of_source (node_reserved progress) _ _ _ _ (first_number progress.types) (λ first_answer.
      part initial claim_of_initial (answered (node_reserved progress) first_answer).progress _ _ _ _
      (second_number progress.types (nodes first_answer)) (λ total.
      then_same (at_node (next_node progress) (element_type first_answer.own)) _ _ _ (λ item.
      let before = (answered (answered (node_reserved progress) first_answer).progress total).progress in
      part body claim_of_body (with_variable total_name total.own (with_variable item_name item before)) _ _ _ _
      (third_number progress.types (nodes first_answer) (nodes total)) (λ inside.
      ended progress
      (without_variable (without_variable (answered (with_variable total_name total.own (with_variable item_name item before)) inside).progress))
      (nodes first_answer ++ nodes total ++ nodes inside) (total_type total.own inside.own) refl
      (three_more progress.types (nodes first_answer) (nodes total) (nodes inside))))))

  on_none : ClaimAll no_trees
  on_none found progress =
      ap (λ (row : RowVisit). Ok row)
      (λ i. row_visit (sym (append-nil found) i) (record { scope = progress.scope; types = sym (append-nil progress.types) i }))

  seen_all : (judged : Judged RowTypes) (found : List RplType) (progress : Progress) (answer : Expression)
      → (judged >>= λ row. Ok (answered_all (found ++ answer.own ∷ []) (answered progress answer).progress row))
      ≡ ((judged >>= λ rest. Ok (record { types = answer.own ∷ rest.types; all = nodes answer ++ rest.all }))
      >>= λ row. Ok (answered_all found progress row))
  seen_all (Ok row) found progress answer =
      ap (λ (r : RowVisit). Ok r) (λ i. row_visit (append_assoc found (answer.own ∷ []) row.types i)
      (record { scope = progress.scope; types = append_assoc progress.types (nodes answer) row.all i }))
  seen_all (Err r) found progress answer = refl

  next_number : (progress : Progress) (answer : Expression)
      → length (progress.types ++ nodes answer) + 1 ≡ length progress.types + 1 + length (nodes answer)
  next_number progress answer = simp length-append (omega arith)

  on_tree : (form : Tree) (expressions : Trees) → Claim form → ClaimAll expressions → ClaimAll (tree form expressions)
  on_tree form expressions claim_of_expression claim_of_others found progress =
      rw (claim_of_expression progress)
      (seen_then_same (types_of basin callable progress.scope (next_node progress) form) (answered progress) _ _ _ (λ answer.
      claim_of_others (found ++ answer.own ∷ []) (answered progress answer).progress ∙ (rw (next_number progress answer)
      (seen_all (types_of_all basin callable progress.scope (node_behind (next_node progress) (nodes answer)) expressions) found progress answer))))

  mutual
    pub claim : (expression : Tree) → Claim expression
    claim (literal number unit) = λ progress. on_leaf progress (literal_type number unit)
    claim (truth is_so) = λ progress. on_leaf progress (Ok Boolean)
    claim now = λ progress. on_leaf progress (Ok Datetime)
    claim (slot object slot_name) = λ progress. on_leaf progress (slot_type basin object slot_name)
    claim (name sought) = λ progress. on_leaf progress (name_type progress.scope sought)
    claim (call function_name arguments) = on_call function_name arguments (claim_all arguments)
    claim (brackets inside) = on_brackets inside (claim inside)
    claim (list items) = on_list items (claim_all items)
    claim (choice condition if_true if_false) = on_choice condition if_true if_false (claim condition) (claim if_true) (claim if_false)
    claim (bind new_name value_tree body) = on_bind new_name value_tree body (claim value_tree) (claim body)
    claim (each item_name source total_name initial body) =
        on_each item_name source total_name initial body (claim source) (claim initial) (claim body)
    claim (mapped item_name source body) = on_mapped item_name source body (claim source) (claim body)
    claim (one word operand) = on_one word operand (claim operand)
    claim (two word left right) = on_two word left right (claim left) (claim right)
    claim (convert word object operand) = on_convert word object operand (claim operand)
    claim (at slot_tree date) = on_at slot_tree date (claim slot_tree) (claim date)

    pub claim_all : (expressions : Trees) → ClaimAll expressions
    claim_all no_trees = on_none
    claim_all (tree first others) = on_tree first others (claim first) (claim_all others)
