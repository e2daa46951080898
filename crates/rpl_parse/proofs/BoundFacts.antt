-- What is bounded in a ruleset, from the declarations on.
use Rattle.rw_base.specs.declared.limits.TheConstants.{DEPTH_MAX, RULES_MAX, TEXT_MAX}
use Rattle.rw_base.proofs.Common.{◌≡◌, ◌≤◌, ◌+◌, ◌++◌, ◌==◌, ℕ, false, List, [], ◌∷◌, length, refl, sym, ap, subst, arith, inl, inr, Ok, Err}
use Rattle.rpl_tree.proofs.Common.{Declared, rule, function, rules_of, nodes_of}
use Rattle.rpl_tree.specs.declared.rules.ParsedRules.{ParsedRules}
use Rattle.rpl_parse.specs.Tokens.{Tok, Lined}
use Rattle.rpl_parse.specs.Scan.{Scanned, all, bad_at, tokens}
use Rattle.rpl_tree.specs.Depth.{declared_depth}
use Rattle.rpl_parse.specs.Statements.{IsDeclaration}
use Rattle.rpl_parse.specs.Declarations.{Piece, pieces, begins_rule, begins_function, one_more_if, is_full, Due, IsDue, IsDueOf, IsRuleset}
use Rattle.rpl_tree.specs.Bounds.{rule_count, function_count, AreWithin, AreLimited}
use Rattle.rpl_parse.proofs.NodeFacts.{nodes_within, tokens_few, ArePieces, pieces_within}

-- one more at the end

rules_end : (declarations : List Declared) (declaration : Declared)
    → rule_count (declarations ++ declaration ∷ []) ≡ rule_count declarations + rule_count (declaration ∷ [])
rules_end [] declaration = let counted : 0 + rule_count (declaration ∷ []) ≡ rule_count (declaration ∷ []) = omega arith in sym counted
rules_end (rule called_so body ∷ declarations) declaration = let others_counted = rules_end declarations declaration in omega (arith, others_counted)
rules_end (function called_so taken type_name body ∷ declarations) declaration = rules_end declarations declaration

functions_end : (declarations : List Declared) (declaration : Declared)
    → function_count (declarations ++ declaration ∷ []) ≡ function_count declarations + function_count (declaration ∷ [])
functions_end [] declaration = let counted : 0 + function_count (declaration ∷ []) ≡ function_count (declaration ∷ []) = omega arith in sym counted
functions_end (rule called_so body ∷ declarations) declaration = functions_end declarations declaration
functions_end (function called_so taken type_name body ∷ declarations) declaration = let others_counted = functions_end declarations declaration in
    omega (arith, others_counted)

within_end : (much : Declared → ℕ) (most : ℕ) (declarations : List Declared) (declaration : Declared) → AreWithin much most declarations
    → much declaration ≤ most
    → AreWithin much most (declarations ++ declaration ∷ [])
within_end much most [] declaration are_within no_more = (no_more, tt)
within_end much most (first ∷ declarations) declaration are_within no_more =
    (are_within.0, within_end much most declarations declaration are_within.1 no_more)

-- the first token tells what is declared
record Begins (tokens_here : List Tok) (declaration : Declared) (rules_before functions_before : ℕ) : Type 0 where
  rules : one_more_if (begins_rule tokens_here) rules_before ≡ rules_before + rule_count (declaration ∷ [])
  functions : one_more_if (begins_function tokens_here) functions_before ≡ functions_before + function_count (declaration ∷ [])
  rules_left : is_full tokens_here rules_before functions_before ≡ false → rules_before ≤ RULES_MAX
      → rules_before + rule_count (declaration ∷ []) ≤ RULES_MAX
  functions_left : is_full tokens_here rules_before functions_before ≡ false → functions_before ≤ RULES_MAX
      → functions_before + function_count (declaration ∷ []) ≤ RULES_MAX

not_so_many : (count : ℕ) → (count == RULES_MAX) ≡ false → count ≤ RULES_MAX → count + 1 ≤ RULES_MAX
not_so_many count not_full no_more = grind (arith, not_full, no_more)

begins : (tokens_here : List Tok) (declaration : Declared) (rules_before functions_before : ℕ) → IsDeclaration tokens_here declaration
    → Begins tokens_here declaration rules_before functions_before
begins tokens_here (rule called_so body) rules_before functions_before is_declaration =
    rw is_declaration.0.1
    (record {
      rules = refl;
      functions = omega arith;
      rules_left = λ not_full no_more. not_so_many rules_before not_full no_more;
      functions_left = λ not_full no_more. omega arith;
    })
begins tokens_here (function called_so taken type_name body) rules_before functions_before is_declaration =
    rw is_declaration.0.1
    (record {
      rules = omega arith;
      functions = refl;
      rules_left = λ not_full no_more. omega arith;
      functions_left = λ not_full no_more. not_so_many functions_before not_full no_more;
    })

listed : Due → List Declared
listed (Ok declarations) = declarations
listed (Err why) = []

bounded : (number rules_before functions_before : ℕ) (before : List Declared) (more_pieces : List Piece) (declarations : List Declared)
    → IsDue number rules_before functions_before before more_pieces (Ok declarations)
    → (most : ℕ) → most ≤ TEXT_MAX → ArePieces most more_pieces → AreWithin declared_depth DEPTH_MAX before → AreWithin nodes_of TEXT_MAX before
    → rule_count before ≡ rules_before → function_count before ≡ functions_before → rules_before ≤ RULES_MAX → functions_before ≤ RULES_MAX
    → AreLimited declarations
unfolding listed
bounded number rules_before functions_before before
    [] declarations due most few small deep nodes rules_counted functions_counted rules_few functions_few =
    subst AreLimited (sym (ap listed due))
    (record { depth = deep; nodes = nodes; rules = omega (arith, rules_counted); functions = omega (arith, functions_counted) })
bounded number rules_before functions_before before (a_piece ∷ more_pieces) declarations
    (inl due_so) most few small deep nodes rules_counted functions_counted rules_few functions_few = absurd (cc due_so.1)
bounded number rules_before functions_before before (a_piece ∷ more_pieces) declarations
    (inr (inl due_so)) most few small deep nodes rules_counted functions_counted rules_few functions_few = absurd (cc due_so.2)
bounded number rules_before functions_before before (a_piece ∷ more_pieces) declarations
    (inr (inr due_so)) most few small deep nodes rules_counted functions_counted rules_few functions_few =
    let declaration = due_so.1.0 in
    let begun = begins a_piece.toks declaration rules_before functions_before due_so.1.1 in
    let rule_more = begun.rules in
    let function_more = begun.functions in
    let rules_still = begun.rules_left due_so.0 rules_few in
    let functions_still = begun.functions_left due_so.0 functions_few in
    let rules_there = rules_end before declaration in
    let functions_there = functions_end before declaration in
    bounded (number + 1) (one_more_if (begins_rule a_piece.toks) rules_before) (one_more_if (begins_function a_piece.toks) functions_before)
    (before ++ declaration ∷ []) more_pieces declarations due_so.1.2
    most few small.1
    (within_end declared_depth DEPTH_MAX before declaration deep (let is_one = due_so.1.1 in is_one.1))
    (within_end nodes_of TEXT_MAX before declaration nodes
    (let is_one = nodes_within a_piece.toks declaration due_so.1.1 in let piece_small = small.0 in omega arith))
    (omega (arith, rules_there, rules_counted, rule_more))
    (omega (arith, functions_there, functions_counted, function_more)) (omega (arith, rule_more, rules_still))
    (omega (arith, function_more, functions_still))

of_scanned : (scanned : Scanned) (declarations : List Declared) → IsDueOf scanned (Ok declarations)
    → ((lined_tokens : List Lined) → scanned ≡ all lined_tokens → length lined_tokens ≤ TEXT_MAX) → AreLimited declarations
of_scanned (all further_lined) declarations is_due_of few =
    bounded 1 0 0 [] (pieces further_lined) declarations is_due_of (length further_lined) (few further_lined refl)
    (pieces_within further_lined) tt tt refl refl (omega arith) (omega arith)
of_scanned (bad_at bad_line) declarations is_due_of few = absurd (cc is_due_of)

pub bounds_hold : (rules : ParsedRules) → IsRuleset rules → AreLimited (rules_of rules)
bounds_hold rules is_ruleset =
    of_scanned (tokens is_ruleset.0) (rules_of rules) is_ruleset.2
    (λ tokens_here e. let few_tokens = tokens_few is_ruleset.0 tokens_here e in let source_few = is_ruleset.1 in omega arith)
