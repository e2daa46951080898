-- The code of an expression leads from the operands that stand below it to those and its value, and comes to what the tree costs: by recursion
-- on the tree.
use Rattle.rpl_compile.proofs.Common.{And, AreArguments, AreOfKind, Before, Day, Head, Kind, Known, Length, List, Minus, Month, Names, Not, Open, Or}
use Rattle.rpl_compile.proofs.Common.{Site, Tree, Trees, ValueKind, Year, [], all_code, all_local_kinds, ap, arguments_code, arith, at, before}
use Rattle.rpl_compile.proofs.Common.{behind, bind, brackets, call, call_line, choice, code_kind, code_kinds, convert, costed_heads, count_of, each}
use Rattle.rpl_compile.proofs.Common.{first_kind, height_of_all, height_of_arguments, kind_named, list, literal, local_named, mapped, max}
use Rattle.rpl_compile.proofs.Common.{most_arguments, most_named, most_of, name, names_in, no_trees, now, number_line, on, one, over, refl, replicate}
use Rattle.rpl_compile.proofs.Common.{result_named, reverse, sizes, sizes_of_arguments, slot, sym, takes_named, tree, tree_kind, truth, two, weight}
use Rattle.rpl_compile.proofs.Common.{weights, widening_size, words_kept, words_of, ℕ, ◌++◌, ◌+◌, ◌∙◌, ◌∷◌, ◌≡◌}
use Rattle.rpl_code.specs.declared.kind.ValueKind.TheVariants as K
use Rattle.rpl_code.specs.declared.instruction.Instruction.TheVariants as I
use Rattle.rpl_compile.proofs.Sizes.{all-size, arguments-size, widening-size}
use Rattle.rpl_compile.proofs.LocalFacts.{Placed, placed_name}
use Rattle.rpl_compile.proofs.Placing.{HasAt}
use Rattle.rpl_compile.proofs.Going.{goes_none, goes_one, takes_kinds}
use Rattle.rpl_compile.proofs.Lines.{list_fits, slot_fits}
use Rattle.rpl_compile.proofs.TreeCosts.{again, element_words, turned, words_turned}
use Rattle.rpl_compile.proofs.WordLines.{widen_goes}
use Rattle.rpl_compile.proofs.Costing.{Claim, Leads, Costing, far, heads, here, kept, kind_of_code, line, loads, own_back, own_front, room_cost}
use Rattle.rpl_compile.proofs.Costing.{same_kind, seq, to, told}
use Rattle.rpl_compile.proofs.Flowing.{leaf, flow_convert, flow_plain, flow_two, flow_at, flow_known, flow_choice, flow_or, flow_and}
use Rattle.rpl_compile.proofs.FlowingLoops.{flow_bind, flow_each, flow_mapped}
use Rattle.rpl_compile.proofs.OfKind.{words_coded}

module _ (costing : Costing) where
  -- ---- several expressions

  abbrev ClaimAll : Trees → Type 0
  ClaimAll expressions =
      (site : Site) (open_loops : List Open) (kind : Kind) → words_of (code_kind kind) ≡ 1
      → AreOfKind costing.scope.basin (heads costing) (names_in site.scope) kind expressions → Placed costing.scope.locals site.scope
      → HasAt costing.scope.locals site.free (code_kinds (all_local_kinds (heads costing) (names_in site.scope) expressions))
      → Leads costing (all_code costing.callees site expressions) site.place (here site open_loops)
      (before (replicate (count_of expressions) (code_kind kind) ++ code_kinds site.below) open_loops)
      (most_of costing.pays costing.functions (names_in site.scope) expressions)
      (words_kept costing.scope.locals (here site open_loops) + height_of_all costing.deep (names_in site.scope) expressions)

  flow_no : ClaimAll no_trees
  flow_no site open_loops kind one_word are_of_kind placed own_locals =
      told costing (goes_none costing.scope costing.lines costing.spots_are costing.pays costing.account site.place (here site open_loops)) refl
      (omega arith)

  flow_more : (expression : Tree) (expressions : Trees) → Claim costing expression → ClaimAll expressions → ClaimAll (tree expression expressions)
  flow_more expression expressions claim_of_expression claim_of_expressions site open_loops kind one_word are_of_kind placed own_locals =
      let names : Names = names_in site.scope in
      let above : Site = over (kind_of_code costing site expression) (behind (heads costing) expression site) in
      let under : List ValueKind = code_kinds site.below in
      let one : words_of (code_kind (kind_of_code costing site expression)) ≡ 1 = ap (λ k. words_of (code_kind k)) are_of_kind.1 ∙ one_word in
      told costing (seq costing (far costing site expression are_of_kind.0)
      (claim_of_expression site open_loops are_of_kind.0 placed
      (own_front costing site expression (all_local_kinds (heads costing) names expressions) own_locals))
      (to costing (ap (λ k. before (replicate (count_of expressions) (code_kind kind) ++ (code_kind k ∷ under)) open_loops) are_of_kind.1
      ∙ ap (λ kinds. before kinds open_loops) (again (count_of expressions) (code_kind kind) under))
      (claim_of_expressions above open_loops kind one_word are_of_kind.2 placed
      (own_back costing site expression (all_local_kinds (heads costing) names expressions) own_locals)))) refl (omega (arith, one))

  flow_list : (expressions : Trees) → ClaimAll expressions → Claim costing (list expressions)
  flow_list expressions claim_of_expressions site open_loops is_kinded placed own_locals =
      let names : Names = names_in site.scope in
      let kind : Kind = first_kind (heads costing) names expressions in
      let count : ℕ = count_of expressions in
      let list_place : ℕ = site.place + sizes (heads costing) names expressions in
      let words = element_words count kind is_kinded.2 in
      let way = claim_of_expressions site open_loops kind words.0 is_kinded.3 placed own_locals in
      let low = way.tall in
      let long = words.1 in
      told costing
      (seq costing {second_place = list_place}
      (ap (λ n. site.place + n) (sym (all-size costing.scope.basin costing.callees site kind expressions is_kinded.3))) way
      (line costing (list_fits costing.scope list_place count kind (code_kinds site.below) open_loops is_kinded.0 is_kinded.2) refl (λ x. x)
      (costing.account.prices.listed (before (replicate count (code_kind kind) ++ code_kinds site.below) open_loops) count)))
      refl (omega (arith, low, long))

  abbrev ClaimArguments : Trees → Type 0
  ClaimArguments expressions =
      (site : Site) (open_loops : List Open) (kinds : List Kind)
      → AreArguments costing.scope.basin (heads costing) (names_in site.scope) kinds expressions
      → Placed costing.scope.locals site.scope
      → HasAt costing.scope.locals site.free (code_kinds (all_local_kinds (heads costing) (names_in site.scope) expressions))
      → Leads costing (arguments_code costing.callees site kinds expressions) site.place (here site open_loops)
      (before (reverse (code_kinds kinds) ++ code_kinds site.below) open_loops)
      (most_arguments costing.pays costing.functions (names_in site.scope) kinds expressions)
      (words_kept costing.scope.locals (here site open_loops) + height_of_arguments costing.deep (names_in site.scope) kinds expressions)

  flow_no_arguments : ClaimArguments no_trees
  flow_no_arguments site open_loops [] are_arguments placed own_locals =
      told costing (goes_none costing.scope costing.lines costing.spots_are costing.pays costing.account site.place (here site open_loops)) refl
      (omega arith)
  flow_no_arguments site open_loops (kind ∷ kinds) are_arguments placed own_locals = absurd are_arguments

  flow_argument : (expression : Tree) (expressions : Trees) → Claim costing expression → ClaimArguments expressions
      → ClaimArguments (tree expression expressions)
  flow_argument expression expressions claim_of_expression claim_of_expressions site open_loops [] are_arguments placed own_locals =
      absurd are_arguments
  flow_argument expression expressions claim_of_expression claim_of_expressions site open_loops (kind ∷ kinds) are_arguments placed own_locals =
      let names : Names = names_in site.scope in
      let under : List ValueKind = code_kinds site.below in
      let room_place : ℕ = (behind (heads costing) expression site).place in
      let above : Site = over kind (on (widening_size kind (kind_of_code costing site expression)) (behind (heads costing) expression site)) in
      let way = claim_of_expression site open_loops are_arguments.0 placed
      (own_front costing site expression (all_local_kinds (heads costing) names expressions) own_locals) in
      let low = way.tall in
      let place_words = words_coded kind in
      let sum : room_cost costing kind (kind_of_code costing site expression)
      ≡ room_cost costing kind (tree_kind (costed_heads costing.functions) names expression) =
      ap (room_cost costing kind) (same_kind costing names expression) in
      told costing (seq costing (far costing site expression are_arguments.0) way
      (seq costing (ap (λ n. room_place + n) (sym (widening-size kind (kind_of_code costing site expression))))
      (widen_goes costing.scope costing.lines costing.spots_are costing.pays costing.account kind
      (kind_of_code costing site expression) are_arguments.1 room_place under open_loops)
      (to costing (ap (λ ks. before ks open_loops) (turned (code_kind kind) (code_kinds kinds) under))
      (claim_of_expressions above open_loops kinds are_arguments.2 placed
      (own_back costing site expression (all_local_kinds (heads costing) names expressions) own_locals))))) (omega (arith, sum))
      (omega (arith, low, place_words))

  abbrev call_height : Names → List ℕ → Trees → List Head → ℕ
  call_height names function_name expressions by_heads =
      max (height_of_arguments costing.deep names (takes_named by_heads function_name) expressions)
      (max (weights (takes_named by_heads function_name) + most_named costing.deep function_name) (weight (result_named by_heads function_name)))

  flow_call : (function_name : List ℕ) (expressions : Trees) → ClaimArguments expressions → Claim costing (call function_name expressions)
  flow_call function_name expressions claim_of_expressions site open_loops is_kinded placed own_locals =
      let names : Names = names_in site.scope in
      let kinds : List Kind = takes_named (heads costing) function_name in
      let call_place : ℕ = site.place + sizes_of_arguments (heads costing) names kinds expressions in
      let under : List ValueKind = code_kinds site.below in
      let call_so = costing.calls function_name is_kinded.0 call_place under open_loops in
      let before_call : Before = before (reverse (code_kinds kinds) ++ under) open_loops in
      let result : Kind = result_named (heads costing) function_name in
      let way = claim_of_expressions site open_loops kinds is_kinded.1 placed own_locals in
      let low = way.tall in
      let turned_words = words_turned kinds under in
      let result_words = words_coded result in
      let sum : most_arguments costing.pays costing.functions names kinds expressions
      ≡ most_arguments costing.pays costing.functions names (takes_named (costed_heads costing.functions) function_name) expressions =
      ap (λ heads. most_arguments costing.pays costing.functions names (takes_named heads function_name) expressions) costing.same_heads in
      let high : call_height names function_name expressions (heads costing)
      ≡ call_height names function_name expressions (costed_heads costing.deep) =
      ap (call_height names function_name expressions) costing.deep_heads in
      told costing
      (seq costing {second_place = call_place}
      (ap (λ n. site.place + n) (sym (arguments-size costing.scope.basin costing.callees site kinds expressions is_kinded.1))) way
      (told costing
      (goes_one costing.scope costing.lines costing.spots_are costing.pays costing.account call_place before_call
      (before (code_kind result ∷ under) open_loops)
      (call_line costing.callees function_name) call_so.fits call_so.goes_on) call_so.sum
      (ap (λ n. max n (kept costing (before (code_kind result ∷ under) open_loops))) call_so.high))) (omega (arith, sum))
      (omega (arith, low, turned_words, result_words, high))

  -- ---- all forms

  mutual
    pub flows : (expression : Tree) → Claim costing expression
    flows (literal number unit) = λ site open_loops is_kinded placed own_locals.
        leaf costing (number_line number unit) K.N site open_loops refl
        (takes_kinds costing.scope (number_line number unit) [] (K.N ∷ []) (code_kinds site.below) open_loops refl) refl (λ x. x) tt
    flows (truth is_so) = λ site open_loops is_kinded placed own_locals. leaf costing (I.Bool is_so) K.B site open_loops refl
        (takes_kinds costing.scope (I.Bool is_so) [] (K.B ∷ []) (code_kinds site.below) open_loops refl) refl (λ x. x) tt
    flows now = λ site open_loops is_kinded placed own_locals. leaf costing I.Now K.D site open_loops refl
        (takes_kinds costing.scope I.Now [] (K.D ∷ []) (code_kinds site.below) open_loops refl) refl (λ x. x) tt
    flows (slot object slot_name) = λ site open_loops is_kinded placed own_locals. leaf costing (I.Slot object slot_name) K.S site open_loops refl
        (slot_fits costing.scope site.place object slot_name (code_kinds site.below) open_loops is_kinded) refl (λ x. x) tt
    flows (name sought) = λ site open_loops is_kinded placed own_locals.
        let kind : Kind = kind_named (names_in site.scope) sought in
        let words = words_coded kind in
        told costing (loads costing site.place (local_named site.scope sought) kind (code_kinds site.below) open_loops
        (placed_name costing.scope.locals site.scope sought placed is_kinded)) refl (omega (arith, words))
    flows (call function_name arguments) = flow_call function_name arguments (flows_arguments arguments)
    flows (brackets inside) = λ site open_loops is_kinded placed own_locals. flows inside site open_loops is_kinded placed own_locals
    flows (list items) = flow_list items (flows_all items)
    flows (choice condition if_true if_false) = flow_choice costing condition if_true if_false (flows condition) (flows if_true) (flows if_false)
    flows (bind new_name value_tree body) = flow_bind costing new_name value_tree body (flows value_tree) (flows body)
    flows (each item_name source total_name initial body) =
        flow_each costing item_name source total_name initial body (flows source) (flows initial) (flows body)
    flows (mapped item_name source body) = flow_mapped costing item_name source body (flows source) (flows body)
    flows (one Known (at slot_tree date)) = flow_known costing slot_tree date (flows slot_tree) (flows date)
    flows (one Known operand) = λ site open_loops is_kinded placed own_locals. absurd is_kinded.1
    flows (one Not operand) = flow_plain costing Not operand tt (flows operand)
    flows (one Minus operand) = flow_plain costing Minus operand tt (flows operand)
    flows (one Length operand) = flow_plain costing Length operand tt (flows operand)
    flows (one Month operand) = flow_plain costing Month operand tt (flows operand)
    flows (one Day operand) = flow_plain costing Day operand tt (flows operand)
    flows (one Year operand) = flow_plain costing Year operand tt (flows operand)
    flows (two Or left right) = flow_or costing left right (flows left) (flows right)
    flows (two And left right) = flow_and costing left right (flows left) (flows right)
    flows (two word left right) = flow_two costing word left right _ (flows left) (flows right)
    flows (convert word object operand) = flow_convert costing word object operand (flows operand)
    flows (at slot_tree date) = flow_at costing slot_tree date (flows slot_tree) (flows date)

    pub flows_all : (expressions : Trees) → ClaimAll expressions
    flows_all no_trees = flow_no
    flows_all (tree first others) = flow_more first others (flows first) (flows_all others)

    pub flows_arguments : (expressions : Trees) → ClaimArguments expressions
    flows_arguments no_trees = flow_no_arguments
    flows_arguments (tree first others) = flow_argument first others (flows first) (flows_arguments others)
