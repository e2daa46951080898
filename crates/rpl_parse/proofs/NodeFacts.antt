-- A tree has no more nodes than it has tokens, and a text no more tokens than bytes.
use Rattle.rw_base.proofs.Common.{◌≡◌, ◌≤◌, ◌-◌, ◌+◌, ℕ, zero, suc, Bool, true, false, List, [], ◌∷◌, length, Some, None, refl, sym, ap, arith}
use Rattle.rw_base.proofs.Common.{if◌then◌else◌, inl, inr}
use Rattle.rpl_tree.proofs.Common.{Tree, Trees, literal, truth, now, slot, name, call, brackets, list, choice, bind, each, mapped, one, two, convert}
use Rattle.rpl_tree.proofs.Common.{at, no_trees, tree, Act, Acts, assign, branch, with_name, no_acts, act, Declared, rule, function, node_count}
use Rattle.rpl_tree.proofs.Common.{node_counts, act_nodes, acts_nodes, nodes_of}
use Rattle.rpl_parse.specs.declared.token.Mark.TheVariants as M
use Rattle.rpl_parse.specs.Tokens.{Tok, mark, word, digits, text, Lined, lined}
use Rattle.rpl_parse.specs.Scan.{Front, gap, token as found, bad, front, Scanned, all, bad_at, led_by, by_front, line_behind, scan, tokens}
use Rattle.rpl_parse.specs.Grammar.{Part, ◌⨾◌, sign, token, form, at_most, Spells, SpellsList, SpellsMore, looseness_of, looseness_of_one}
use Rattle.rpl_parse.specs.Grammar.{looseness_on_left, mark_of, mark_of_one, mark_of_truth, mark_of_convert, is_prefix, is_operator}
use Rattle.rpl_parse.specs.Statements.{SpellsAct, SpellsActs, SpellsParameters, SpellsType, if_none, ◌or◌, IsDeclaration}
use Rattle.rpl_parse.specs.Declarations.{Piece, piece, is_end, token_joined, pieces}
use Rattle.rpl_parse.proofs.Beginnings.{Shrinks, one_shrinks}
use Rattle.rpl_parse.proofs.CompleteActs.{Ahead, ahead_shrinks}
use Rattle.rpl_parse.proofs.Both.{type_shrinks, parameters_shrink}

-- a part has at least n tokens
abbrev Uses : ℕ → Part → Type 0
Uses count first_part = (tokens_here rest : List Tok) → first_part tokens_here rest → count + length rest ≤ length tokens_here

alone : (a_token : Tok) → Uses 1 (token a_token)
alone a_token tokens_here rest tokens_are = let counted : length tokens_here ≡ suc (length rest) = ap length tokens_are in omega arith

own : (a_token : Tok) (count : ℕ) (second_part : Part) → Uses count second_part → Uses (suc count) (token a_token ⨾ second_part)
own a_token count second_part second_part_uses tokens_here rest spells =
    let counted : length tokens_here ≡ suc (length spells.0) = ap length spells.1 in
    let second_shorter = second_part_uses spells.0 rest spells.2 in omega arith

pass : (first_part : Part) (count : ℕ) (second_part : Part) → Shrinks first_part → Uses count second_part → Uses count (first_part ⨾ second_part)
pass first_part count second_part first_part_shrinks second_part_uses tokens_here rest spells = let first_shorter =
    first_part_shrinks tokens_here spells.0 spells.1 in let second_shorter = second_part_uses spells.0 rest spells.2 in omega arith

skip : (a_token : Tok) (count : ℕ) (second_part : Part) → Uses count second_part → Uses count (token a_token ⨾ second_part)
skip a_token count second_part second_part_uses = pass (token a_token) count second_part (one_shrinks a_token) second_part_uses

child : (first_count second_count : ℕ) (first_part second_part : Part) → Uses first_count first_part → Uses second_count second_part
    → Uses (first_count + second_count) (first_part ⨾ second_part)
child first_count second_count first_part second_part first_part_uses second_part_uses tokens_here rest spells = let first_shorter =
    first_part_uses tokens_here spells.0 spells.1 in let second_shorter = second_part_uses spells.0 rest spells.2 in omega arith

last : (first_count : ℕ) (first_part : Part) (a_token : Tok) → Uses first_count first_part → Uses first_count (first_part ⨾ token a_token)
last first_count first_part a_token first_part_uses tokens_here rest spells = let first_shorter = first_part_uses tokens_here spells.0 spells.1 in
    let second_shorter = one_shrinks a_token spells.0 rest spells.2 in omega arith

fewer : (first_count second_count : ℕ) (first_part : Part) → second_count ≤ first_count → Uses first_count first_part → Uses second_count first_part
fewer first_count second_count first_part no_more it_uses tokens_here rest spells = let uses_there = it_uses tokens_here rest spells in omega arith

tight : (loose : ℕ) (expression : Tree) (count : ℕ) → Uses count (Spells expression) → Uses count (at_most loose expression (Spells expression))
tight loose expression count it_uses tokens_here rest spells = it_uses tokens_here rest spells.1

by_form : (test : Bool) (count : ℕ) (first_part second_part : Part) → Uses count first_part → Uses count second_part
    → Uses count (form test first_part second_part)
by_form true count first_part second_part first_part_uses second_part_uses = first_part_uses
by_form false count first_part second_part first_part_uses second_part_uses = second_part_uses

mutual
  pub uses : (expression : Tree) → Uses (node_count expression) (Spells expression)
  uses (literal number None) = alone (digits number)
  uses (literal number (Some unit)) = skip (digits number) 1 (token (text unit)) (alone (text unit))
  uses (truth is_so) = alone (mark (mark_of_truth is_so))
  uses now = alone (mark M.Now)
  uses (slot object slot_name) = skip (word object) 1 _ (skip (mark M.Dot) 1 _ (alone (word slot_name)))
  uses (name its_name) = alone (word its_name)
  uses (call function_name arguments) =
      own (word function_name) (node_counts arguments) _
      (skip (mark M.LeftParen) (node_counts arguments) _ (last (node_counts arguments) (SpellsList arguments) _ (list_uses arguments)))
  uses (brackets inside) = own (mark M.LeftParen) (node_count inside) _ (last (node_count inside) (Spells inside) _ (uses inside))
  uses (list no_trees) = λ tokens_here rest h. absurd h
  uses (list (tree first more)) =
      own (mark M.LeftBrace) (node_count first + node_counts more) _
      (child (node_count first) (node_counts more) (Spells first) _ (uses first) (last (node_counts more) (SpellsMore more) _ (more_uses more)))
  uses (choice condition if_true if_false) =
      own (mark M.If) (node_count condition + (node_count if_true + node_count if_false)) _
      (child (node_count condition) (node_count if_true + node_count if_false) (Spells condition) _ (uses condition)
      (skip (mark M.Then) (node_count if_true + node_count if_false) _
      (child (node_count if_true) (node_count if_false) (Spells if_true) _ (uses if_true)
      (skip (mark M.Else) (node_count if_false) _ (last (node_count if_false) (Spells if_false) _ (uses if_false))))))
  uses (bind new_name value_tree body) =
      own (mark M.Let) (node_count value_tree + node_count body) _
      (skip (word new_name) (node_count value_tree + node_count body) _ (skip (mark M.Assign) (node_count value_tree + node_count body) _
      (child (node_count value_tree) (node_count body) (Spells value_tree) _ (uses value_tree)
      (skip (mark M.In) (node_count body) _ (last (node_count body) (Spells body) _ (uses body))))))
  uses (each item_name source total_name initial body) =
      let nodes_there = node_count source + (node_count initial + node_count body) in
      let behind_source = node_count initial + node_count body in
      own (mark M.For) nodes_there _ (skip (word item_name) nodes_there _ (skip (mark M.In) nodes_there _
      (child (node_count source) behind_source (Spells source) _ (uses source)
      (skip (mark M.With) behind_source _ (skip (word total_name) behind_source _ (skip (mark M.Assign) behind_source _
      (child (node_count initial) (node_count body) (Spells initial) _ (uses initial)
      (skip (mark M.Do) (node_count body) _ (last (node_count body) (Spells body) _ (uses body))))))))))
  uses (mapped item_name source body) =
      let nodes_there = node_count source + node_count body in
      own (mark M.Map) nodes_there _ (skip (word item_name) nodes_there _ (skip (mark M.In) nodes_there _
      (child (node_count source) (node_count body) (Spells source) _ (uses source)
      (skip (mark M.Do) (node_count body) _ (last (node_count body) (Spells body) _ (uses body))))))
  uses (one its_word operand) =
      by_form (is_prefix its_word) (suc (node_count operand)) _ _
      (own (mark (mark_of_one its_word)) (node_count operand) _ (tight (looseness_of_one its_word) operand (node_count operand) (uses operand)))
      (own (mark (mark_of_one its_word)) (node_count operand) _
      (skip (mark M.LeftParen) (node_count operand) _ (last (node_count operand) (Spells operand) _ (uses operand))))
  uses (two its_word left right) = by_form (is_operator its_word) (suc (node_count left + node_count right)) _ _
      (fewer (node_count left + suc (node_count right)) (suc (node_count left + node_count right)) _ (omega arith)
      (child (node_count left) (suc (node_count right)) _ _ (tight (looseness_on_left its_word) left (node_count left) (uses left))
      (own (mark (mark_of its_word)) (node_count right) _ (tight (looseness_of its_word - 1) right (node_count right) (uses right)))))
      (own (mark (mark_of its_word)) (node_count left + node_count right) _
      (skip (mark M.LeftParen) (node_count left + node_count right) _
      (child (node_count left) (node_count right) (Spells left) _ (uses left)
      (skip (mark M.Comma) (node_count right) _ (last (node_count right) (Spells right) _ (uses right))))))
  uses (convert its_word object operand) =
      own (mark (mark_of_convert its_word)) (node_count operand) _
      (skip (mark M.LeftParen) (node_count operand) _
      (skip (word object) (node_count operand) _
      (skip (mark M.Comma) (node_count operand) _ (last (node_count operand) (Spells operand) _ (uses operand)))))
  uses (at slot_tree date) =
      fewer (node_count slot_tree + suc (node_count date)) (suc (node_count slot_tree + node_count date)) _ (omega arith)
      (child (node_count slot_tree) (suc (node_count date)) _ _ (tight 0 slot_tree (node_count slot_tree) (uses slot_tree))
      (own (mark M.LeftBracket) (node_count date) _ (last (node_count date) (Spells date) _ (uses date))))

  list_uses : (expressions : Trees) → Uses (node_counts expressions) (SpellsList expressions)
  list_uses no_trees = λ tokens_here rest tokens_are. let counted : length tokens_here ≡ length rest = ap length tokens_are in omega arith
  list_uses (tree first more) = child (node_count first) (node_counts more) (Spells first) _ (uses first) (more_uses more)

  more_uses : (expressions : Trees) → Uses (node_counts expressions) (SpellsMore expressions)
  more_uses no_trees = λ tokens_here rest tokens_are. let counted : length tokens_here ≡ length rest = ap length tokens_are in omega arith
  more_uses (tree first more) =
      skip (mark M.Comma) (node_count first + node_counts more) _
      (child (node_count first) (node_counts more) (Spells first) _ (uses first) (more_uses more))

others_use : (second : Acts) → Uses (acts_nodes second) (SpellsActs second)
    → Uses (acts_nodes second) (if_none second or (sign M.Else ⨾ SpellsActs second))
others_use no_acts it_uses tokens_here rest (inl spells) = let counted : length tokens_here ≡ length rest = ap length spells in omega arith
others_use (act first more) it_uses tokens_here rest (inl spells) = absurd spells
others_use second it_uses tokens_here rest (inr spells) = skip (mark M.Else) (acts_nodes second) (SpellsActs second) it_uses tokens_here rest spells

mutual
  act_uses : (statement : Act) → Uses (act_nodes statement) (SpellsAct statement)
  act_uses (assign object slot_name ahead value_tree) =
      own (word object) (node_count value_tree) _ (skip (mark M.Dot) (node_count value_tree) _
      (skip (word slot_name) (node_count value_tree) _
      (skip (mark M.LeftBracket) (node_count value_tree) _ (skip (mark M.Now) (node_count value_tree) _
      (pass (Ahead ahead) (node_count value_tree) _ (ahead_shrinks ahead)
      (skip (mark M.RightBracket) (node_count value_tree) _
      (skip (mark M.Assign) (node_count value_tree) _ (last (node_count value_tree) (Spells value_tree) _ (uses value_tree)))))))))
  act_uses (branch condition first second) =
      let nodes_there = acts_nodes first + acts_nodes second in
      own (mark M.If) (node_count condition + nodes_there) _ (child (node_count condition) nodes_there (Spells condition) _ (uses condition)
      (skip (mark M.Then) nodes_there _ (child (acts_nodes first) (acts_nodes second) (SpellsActs first) _ (acts_use first)
      (last (acts_nodes second) (if_none second or (sign M.Else ⨾ SpellsActs second)) _ (others_use second (acts_use second))))))
  act_uses (with_name new_name value_tree body) =
      let nodes_there = node_count value_tree + acts_nodes body in
      own (mark M.With) nodes_there _ (skip (word new_name) nodes_there _
      (skip (mark M.Assign) nodes_there _ (child (node_count value_tree) (acts_nodes body) (Spells value_tree) _ (uses value_tree)
      (skip (mark M.Do) (acts_nodes body) _ (last (acts_nodes body) (SpellsActs body) _ (acts_use body))))))

  acts_use : (statements : Acts) → Uses (acts_nodes statements) (SpellsActs statements)
  acts_use no_acts = λ tokens_here rest tokens_are. let counted : length tokens_here ≡ length rest = ap length tokens_are in omega arith
  acts_use (act first more) = child (act_nodes first) (acts_nodes more) (SpellsAct first) _ (act_uses first) (acts_use more)

-- the nodes of a declaration are no more than its tokens
pub nodes_within : (tokens_here : List Tok) (declaration : Declared) → IsDeclaration tokens_here declaration
    → nodes_of declaration ≤ length tokens_here
nodes_within tokens_here (rule called_so body) is_declaration =
    let nodes_there = acts_nodes body in
    let uses_there =
    skip (mark M.Rule) nodes_there _
    (skip (text called_so) nodes_there _
    (skip (mark M.Colon) nodes_there _ (last nodes_there (SpellsActs body) (mark M.EndRule) (acts_use body)))) tokens_here [] is_declaration.0 in
    omega arith
nodes_within tokens_here (function called_so taken type_name body) is_declaration =
    let nodes_there = node_count body in
    let uses_there =
    skip (mark M.Function) nodes_there _ (skip (word called_so) nodes_there _
    (skip (mark M.LeftParen) nodes_there _
    (pass (SpellsParameters taken) nodes_there _ (parameters_shrink taken)
    (skip (mark M.RightParen) nodes_there _ (skip (mark M.Colon) nodes_there _
    (pass (SpellsType type_name) nodes_there _ (type_shrinks type_name)
    (skip (mark M.Is) nodes_there _ (last nodes_there (Spells body) (mark M.EndFunction) (uses body))))))))) tokens_here [] is_declaration.0 in
    omega arith

-- a text has no more tokens than bytes

all_one : (lined_tokens other_lined : List Lined) → all lined_tokens ≡ all other_lined → lined_tokens ≡ other_lined
all_one lined_tokens other_lined alike = cc alike

led_few : (a_token : Lined) (scanned : Scanned) (lined_tokens : List Lined) (most : ℕ) → led_by (a_token ∷ []) scanned ≡ all lined_tokens
    → ((further_lined : List Lined) → scanned ≡ all further_lined → length further_lined ≤ most)
    → length lined_tokens ≤ suc most
led_few a_token (all further_lined) lined_tokens most led_so few_there = let tokens_are = all_one (a_token ∷ further_lined) lined_tokens led_so in
    let counted : length lined_tokens ≡ suc (length further_lined) = sym (ap length tokens_are) in let few_so =
    few_there further_lined refl in omega arith
led_few a_token (bad_at bad_line) lined_tokens most led_so few_there = absurd (cc led_so)

few : (skipped line : ℕ) (bytes : List ℕ) (lined_tokens : List Lined) → scan skipped line bytes ≡ all lined_tokens
    → length lined_tokens ≤ length bytes
unfolding scan
few skipped line [] lined_tokens scans_so = let none_there = ap length (all_one [] lined_tokens scans_so) in omega arith
few (suc skipped) line (byte ∷ bytes) lined_tokens scans_so = let few_there = few skipped line bytes lined_tokens scans_so in omega arith
few zero line (byte ∷ bytes) lined_tokens scans_so =
    by_found (front (byte ∷ bytes)) scans_so
    (λ skipped_there line_there further_lined scans_there. few skipped_there line_there bytes further_lined scans_there)
  where
    by_found : (front_there : Front) → by_front front_there (bad_at line) (λ n. scan (n - 1) (line_behind line (byte ∷ bytes)) bytes)
        (λ t n. led_by (lined t line ∷ []) (scan (n - 1) line bytes)) ≡ all lined_tokens
        → ((skipped_there line_there : ℕ) (further_lined : List Lined) → scan skipped_there line_there bytes ≡ all further_lined
        → length further_lined ≤ length bytes) → length lined_tokens ≤ suc (length bytes)
    by_found bad scans_there few_there = absurd (cc scans_there)
    by_found (gap size_there) scans_there few_there = let few_so =
        few_there (size_there - 1) (line_behind line (byte ∷ bytes)) lined_tokens scans_there in omega arith
    by_found (found a_token size_there) scans_there few_there =
        led_few (lined a_token line) (scan (size_there - 1) line bytes) lined_tokens (length bytes) scans_there
        (λ further_lined few_so. few_there (size_there - 1) line further_lined few_so)

pub tokens_few : (source : List ℕ) (lined_tokens : List Lined) → tokens source ≡ all lined_tokens → length lined_tokens ≤ length source
tokens_few source lined_tokens scans_so = few 0 1 source lined_tokens scans_so

-- each piece has at most so many tokens
abbrev pub ArePieces : ℕ → List Piece → Type 0
ArePieces most [] = Unit {0}
ArePieces most (a_piece ∷ more_pieces) = (length a_piece.toks ≤ most) × ArePieces most more_pieces

one_more : (most : ℕ) (more_pieces : List Piece) → ArePieces most more_pieces → ArePieces (suc most) more_pieces
one_more most [] are_pieces = tt
one_more most (a_piece ∷ more_pieces) are_pieces = (let small_there = are_pieces.0 in omega arith, one_more most more_pieces are_pieces.1)

joined_within : (a_token : Lined) (most : ℕ) (more_pieces : List Piece) → ArePieces most more_pieces
    → ArePieces (suc most) (token_joined a_token more_pieces)
joined_within a_token most [] are_pieces = (omega arith, tt)
joined_within a_token most (a_piece ∷ more_pieces) are_pieces =
    (let small_there = are_pieces.0 in omega arith, one_more most more_pieces are_pieces.1)

pub pieces_within : (lined_tokens : List Lined) → ArePieces (length lined_tokens) (pieces lined_tokens)
pieces_within [] = tt
pieces_within (a_token ∷ lined_tokens) = by_end (is_end a_token.tok) (pieces_within lined_tokens)
  where
    by_end : (test : Bool) → ArePieces (length lined_tokens) (pieces lined_tokens)
        → ArePieces (suc (length lined_tokens))
        (if test then piece (a_token.tok ∷ []) a_token.line ∷ pieces lined_tokens else token_joined a_token (pieces lined_tokens))
    by_end true are_pieces = (omega arith, one_more (length lined_tokens) (pieces lined_tokens) are_pieces)
    by_end false are_pieces = joined_within a_token (length lined_tokens) (pieces lined_tokens) are_pieces
