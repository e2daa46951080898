-- What is in the grammar is read, to that very tree.
use Rattle.rw_base.proofs.Common.{◌≡◌, ◌<◌, ◌≤◌, ◌-◌, ◌+◌, ◌*◌, ◌==◌, ◌∙◌, ◌++◌, ◌⊎◌, ℕ, ℤ, zero, suc, Bool, true, false, List, [], ◌∷◌, length, max}
use Rattle.rw_base.proofs.Common.{Option, Some, None, refl, sym, subst, arith, if◌then◌else◌, inl, inr, lt-ltb}
use Rattle.std.proofs.lemmas.List.{append-nil, append_assoc}
use Rattle.rpl_parse.specs.declared.token.Mark.{Mark}
use Rattle.rpl_parse.specs.declared.token.Mark.TheVariants as M
use Rattle.rpl_tree.specs.declared.words.OneWord.{OneWord}
use Rattle.rpl_tree.specs.declared.words.OneWord.TheVariants as O
use Rattle.rpl_tree.specs.declared.words.TwoWord.{TwoWord}
use Rattle.rpl_tree.specs.declared.words.TwoWord.TheVariants as T
use Rattle.rpl_tree.specs.declared.words.ConvertWord.{ConvertWord}
use Rattle.rpl_tree.specs.declared.words.ConvertWord.TheVariants as C
use Rattle.rpl_parse.specs.Tokens.{Tok, mark, word, digits, text, same}
use Rattle.rpl_tree.specs.Tree.{Tree, Trees, literal, truth, now, slot, name, call, brackets, list, choice, bind, each, mapped, one, two, convert, at}
use Rattle.rpl_tree.specs.Tree.{no_trees, tree}
use Rattle.rpl_tree.specs.Depth.{depth, depths}
use Rattle.rpl_parse.specs.Grammar.{Part, ◌⨾◌, sign, token, form, at_most, Spells, SpellsMore, looseness, looseness_of, looseness_of_one}
use Rattle.rpl_parse.specs.Grammar.{looseness_on_left, mark_of, mark_of_one, mark_of_truth, mark_of_convert, is_prefix, is_operator}
use Rattle.rpl_parse.specs.Reading.{Read, got, Many, many, ◌>>=◌, behind, up_to, items, some_items, word_of_one}
use Rattle.rpl_parse.specs.Reading.{word_of_two, converts, opened, prim, steps, turn, if_loose, operator, chain, prefix_of, level}
use Rattle.rpl_parse.specs.Reading.{read_tree, turns_of}
use Rattle.rpl_parse.proofs.Beginnings.{list_of, trees_back, count, count_within, depth_pos, not_here, begins, left_within, Unlike}
use Rattle.rpl_parse.proofs.Beginnings.{not_first, behind_here, name_here_before}
use Rattle.rpl_parse.proofs.Sound.{max_three, prefix_sound}
use Rattle.rpl_parse.proofs.Turns.{items_stops, items_turn, steps_stops, steps_turn, chain_stops, chain_turn}

-- What may follow what is read at a level.

abbrev has_text : List Tok → Bool
has_text (text its_text ∷ tokens_here) = true
has_text _ = false

pub record Stops (loose : ℕ) (rest : List Tok) : Type 0 where
  pub no_text : has_text rest ≡ false
  pub no_paren : behind M.LeftParen rest ≡ None
  pub no_dot : behind M.Dot rest ≡ None
  pub no_bracket : behind M.LeftBracket rest ≡ None
  pub no_turn : (lower : ℕ) → lower ≤ loose → turn lower rest ≡ None

-- a mark that ends each expression
pub record Closes (a_mark : Mark) : Type 0 where
  pub paren : same M.LeftParen a_mark ≡ false
  pub bracket : same M.LeftBracket a_mark ≡ false
  pub dot : same M.Dot a_mark ≡ false
  pub no_operator : operator a_mark ≡ None

pub closing : (a_mark : Mark) (tokens_here : List Tok) (loose : ℕ) → Closes a_mark → Stops loose (mark a_mark ∷ tokens_here)
closing a_mark tokens_here loose closes =
    record {
      no_text = refl;
      no_paren = rw closes.paren refl;
      no_dot = rw closes.dot refl;
      no_bracket = rw closes.bracket refl;
      no_turn = λ lower no_more. rw closes.no_operator refl;
    }

pub fewer : (lower loose : ℕ) (rest : List Tok) → lower ≤ loose → Stops loose rest → Stops lower rest
fewer lower loose rest no_more stops =
    record {
      no_text = stops.no_text;
      no_paren = stops.no_paren;
      no_dot = stops.no_dot;
      no_bracket = stops.no_bracket;
      no_turn = λ i l. stops.no_turn i (omega arith);
    }

not_level : (its_word : TwoWord) (lower : ℕ) (tokens_here : List Tok) → lower < looseness_of its_word
    → if_loose (looseness_of its_word == lower) its_word tokens_here ≡ None
not_level its_word lower tokens_here less = let is_level : (looseness_of its_word == lower) ≡ false = grind (arith, less) in rw is_level refl

-- an operator ends what is tighter
operator_ends : (its_word : TwoWord) (tokens_here : List Tok) (loose : ℕ) → is_operator its_word ≡ true → loose < looseness_of its_word
    → Stops loose (mark (mark_of its_word) ∷ tokens_here)
operator_ends T.Append tokens_here loose is_between less = absurd (cc is_between)
operator_ends T.Item tokens_here loose is_between less = absurd (cc is_between)
operator_ends T.Or tokens_here loose is_between less =
    record {
      no_text = refl;
      no_paren = refl;
      no_dot = refl;
      no_bracket = refl;
      no_turn = λ lower no_more. not_level T.Or lower tokens_here (omega arith);
    }
operator_ends T.And tokens_here loose is_between less =
    record {
      no_text = refl;
      no_paren = refl;
      no_dot = refl;
      no_bracket = refl;
      no_turn = λ lower no_more. not_level T.And lower tokens_here (omega arith);
    }
operator_ends T.Equal tokens_here loose is_between less =
    record {
      no_text = refl;
      no_paren = refl;
      no_dot = refl;
      no_bracket = refl;
      no_turn = λ lower no_more. not_level T.Equal lower tokens_here (omega arith);
    }
operator_ends T.Unequal tokens_here loose is_between less =
    record {
      no_text = refl;
      no_paren = refl;
      no_dot = refl;
      no_bracket = refl;
      no_turn = λ lower no_more. not_level T.Unequal lower tokens_here (omega arith);
    }
operator_ends T.Less tokens_here loose is_between less =
    record {
      no_text = refl;
      no_paren = refl;
      no_dot = refl;
      no_bracket = refl;
      no_turn = λ lower no_more. not_level T.Less lower tokens_here (omega arith);
    }
operator_ends T.LessEqual tokens_here loose is_between less =
    record {
      no_text = refl;
      no_paren = refl;
      no_dot = refl;
      no_bracket = refl;
      no_turn = λ lower no_more. not_level T.LessEqual lower tokens_here (omega arith);
    }
operator_ends T.Greater tokens_here loose is_between less =
    record {
      no_text = refl;
      no_paren = refl;
      no_dot = refl;
      no_bracket = refl;
      no_turn = λ lower no_more. not_level T.Greater lower tokens_here (omega arith);
    }
operator_ends T.GreaterEqual tokens_here loose is_between less =
    record {
      no_text = refl;
      no_paren = refl;
      no_dot = refl;
      no_bracket = refl;
      no_turn = λ lower no_more. not_level T.GreaterEqual lower tokens_here (omega arith);
    }
operator_ends T.Plus tokens_here loose is_between less =
    record {
      no_text = refl;
      no_paren = refl;
      no_dot = refl;
      no_bracket = refl;
      no_turn = λ lower no_more. not_level T.Plus lower tokens_here (omega arith);
    }
operator_ends T.Minus tokens_here loose is_between less =
    record {
      no_text = refl;
      no_paren = refl;
      no_dot = refl;
      no_bracket = refl;
      no_turn = λ lower no_more. not_level T.Minus lower tokens_here (omega arith);
    }
operator_ends T.Times tokens_here loose is_between less =
    record {
      no_text = refl;
      no_paren = refl;
      no_dot = refl;
      no_bracket = refl;
      no_turn = λ lower no_more. not_level T.Times lower tokens_here (omega arith);
    }
operator_ends T.Divide tokens_here loose is_between less =
    record {
      no_text = refl;
      no_paren = refl;
      no_dot = refl;
      no_bracket = refl;
      no_turn = λ lower no_more. not_level T.Divide lower tokens_here (omega arith);
    }

operator_back : (its_word : TwoWord) → is_operator its_word ≡ true → operator (mark_of its_word) ≡ Some its_word
operator_back T.Append is_between = absurd (cc is_between)
operator_back T.Item is_between = absurd (cc is_between)
operator_back its_word is_between = refl

turn_here : (its_word : TwoWord) (loose : ℕ) (tokens_here : List Tok) → is_operator its_word ≡ true → looseness_of its_word ≡ loose
    → turn loose (mark (mark_of its_word) ∷ tokens_here) ≡ Some (record { op = its_word; more = tokens_here })
turn_here its_word loose tokens_here is_between is_level = let is_loose : (looseness_of its_word == loose) ≡ true = grind (arith, is_level) in
    rw (operator_back its_word is_between, is_loose) refl

ends_comma : Closes M.Comma
ends_comma = record { paren = refl; bracket = refl; dot = refl; no_operator = refl }

ends_paren : Closes M.RightParen
ends_paren = record { paren = refl; bracket = refl; dot = refl; no_operator = refl }

ends_brace : Closes M.RightBrace
ends_brace = record { paren = refl; bracket = refl; dot = refl; no_operator = refl }

ends_bracket : Closes M.RightBracket
ends_bracket = record { paren = refl; bracket = refl; dot = refl; no_operator = refl }

pub ends_then : Closes M.Then
ends_then = record { paren = refl; bracket = refl; dot = refl; no_operator = refl }

ends_else : Closes M.Else
ends_else = record { paren = refl; bracket = refl; dot = refl; no_operator = refl }

pub ends_endif : Closes M.EndIf
ends_endif = record { paren = refl; bracket = refl; dot = refl; no_operator = refl }

ends_in : Closes M.In
ends_in = record { paren = refl; bracket = refl; dot = refl; no_operator = refl }

ends_with : Closes M.With
ends_with = record { paren = refl; bracket = refl; dot = refl; no_operator = refl }

pub ends_do : Closes M.Do
ends_do = record { paren = refl; bracket = refl; dot = refl; no_operator = refl }

ends_endfor : Closes M.EndFor
ends_endfor = record { paren = refl; bracket = refl; dot = refl; no_operator = refl }

ends_endmap : Closes M.EndMap
ends_endmap = record { paren = refl; bracket = refl; dot = refl; no_operator = refl }

ends_endlet : Closes M.EndLet
ends_endlet = record { paren = refl; bracket = refl; dot = refl; no_operator = refl }

-- what follows an expression of a list
more_ends : (expressions : Trees) (a_mark : Mark) (tokens_here middle rest : List Tok) → SpellsMore expressions tokens_here middle
    → middle ≡ mark a_mark ∷ rest → Closes a_mark → Stops 7 tokens_here
more_ends no_trees a_mark tokens_here middle rest spells_more closes_list closes =
    subst (λ l. Stops 7 l) (sym (spells_more ∙ closes_list)) (closing a_mark rest 7 closes)
more_ends (tree first more) a_mark tokens_here middle rest spells_more closes_list closes =
    subst (λ l. Stops 7 l) (sym spells_more.1) (closing M.Comma spells_more.0 7 ends_comma)

unfoldable pub Reads : (inner : ℕ → List Tok → Read) (deepest : ℕ) → Type 0
Reads inner deepest =
    (loose : ℕ) (expression : Tree) (tokens_here rest : List Tok) → looseness expression ≤ loose → depth expression ≤ deepest
    → Spells expression tokens_here rest → Stops loose rest
    → inner loose tokens_here ≡ Some (got expression (depth expression) rest)

number_alone : (inner : ℕ → List Tok → Read) (deepest : ℕ) (number : ℤ) (rest : List Tok) → has_text rest ≡ false
    → prim inner deepest (digits number ∷ rest) ≡ Some (got (literal number None) 1 rest)
number_alone inner deepest number [] fails = refl
number_alone inner deepest number (mark other_mark ∷ tokens_here) fails = refl
number_alone inner deepest number (word its_name ∷ tokens_here) fails = refl
number_alone inner deepest number (digits its_number ∷ tokens_here) fails = refl
number_alone inner deepest number (text its_text ∷ tokens_here) fails = absurd (cc fails)

loose_one : (its_word : OneWord) → looseness_of_one its_word ≤ 7
loose_one O.Not = omega arith
loose_one its_word = omega arith

loose_two : (its_word : TwoWord) → looseness_of its_word ≤ 7
loose_two T.Or = omega arith
loose_two its_word = omega arith

pub loose_all : (expression : Tree) → looseness expression ≤ 7
loose_all (one its_word operand) = loose_one its_word
loose_all (two its_word left right) = loose_two its_word
loose_all expression = omega arith

-- a comparison isn't in a chain
left_four : (its_word : TwoWord) → looseness_of its_word ≡ 4 → looseness_on_left its_word ≡ 3
left_four T.Equal agree = refl
left_four T.Unequal agree = refl
left_four T.Less agree = refl
left_four T.LessEqual agree = refl
left_four T.Greater agree = refl
left_four T.GreaterEqual agree = refl
left_four its_word agree = absurd (omega (arith, agree))

tight_word : (its_word : OneWord) → looseness_of_one its_word ≤ 0 → is_prefix its_word ≡ false
tight_word O.Not tight_so = absurd (omega arith)
tight_word O.Minus tight_so = absurd (omega arith)
tight_word its_word tight_so = refl

tight_two : (its_word : TwoWord) → looseness_of its_word ≤ 0 → is_operator its_word ≡ false
tight_two T.Append tight_so = refl
tight_two T.Item tight_so = refl
tight_two its_word tight_so = absurd (omega arith)

prefix_loose : (its_word : OneWord) → 1 ≤ looseness_of_one its_word → is_prefix its_word ≡ true
prefix_loose O.Not no_more = refl
prefix_loose O.Minus no_more = refl
prefix_loose its_word no_more = absurd (omega arith)

operator_loose : (its_word : TwoWord) → 1 ≤ looseness_of its_word → is_operator its_word ≡ true
operator_loose T.Append no_more = absurd (omega arith)
operator_loose T.Item no_more = absurd (omega arith)
operator_loose its_word no_more = refl

-- a part in one of two forms
first_of_form : (test : Bool) (first_part second_part : Part) (tokens_here rest : List Tok) → test ≡ true
    → form test first_part second_part tokens_here rest → first_part tokens_here rest
first_of_form true first_part second_part tokens_here rest is_form spells = spells
first_of_form false first_part second_part tokens_here rest is_form spells = absurd (cc is_form)

second_of_form : (test : Bool) (first_part second_part : Part) (tokens_here rest : List Tok) → test ≡ false
    → form test first_part second_part tokens_here rest → second_part tokens_here rest
second_of_form true first_part second_part tokens_here rest is_form spells = absurd (cc is_form)
second_of_form false first_part second_part tokens_here rest is_form spells = spells

abbrev Between : TwoWord → Tree → Tree → Part
Between its_word left right = at_most (looseness_on_left its_word) left (Spells left) ⨾ sign (mark_of its_word)
    ⨾ at_most (looseness_of its_word - 1) right (Spells right)

between : (its_word : TwoWord) (left right : Tree) (tokens_here rest : List Tok) → is_operator its_word ≡ true
    → Spells (two its_word left right) tokens_here rest → Between its_word left right tokens_here rest
between its_word left right tokens_here rest is_form spells = first_of_form (is_operator its_word) _ _ tokens_here rest is_form spells

abbrev Before : OneWord → Tree → Part
Before its_word expression = sign (mark_of_one its_word) ⨾ at_most (looseness_of_one its_word) expression (Spells expression)

before : (its_word : OneWord) (expression : Tree) (tokens_here rest : List Tok) → is_prefix its_word ≡ true
    → Spells (one its_word expression) tokens_here rest → Before its_word expression tokens_here rest
before its_word expression tokens_here rest is_form spells = first_of_form (is_prefix its_word) _ _ tokens_here rest is_form spells

unlike_paren : (loose : ℕ) → Unlike M.RightParen loose
unlike_paren loose O.Not holds tight_so = refl
unlike_paren loose O.Minus holds tight_so = refl
unlike_paren loose its_word holds tight_so = absurd (cc holds)

some_eq : (other_word its_word : OneWord) → Some other_word ≡ Some its_word → other_word ≡ its_word
some_eq other_word its_word alike = cc alike

prefix_back : (its_word : OneWord) (loose : ℕ) → looseness_of_one its_word ≡ loose → 1 ≤ loose → prefix_of loose ≡ Some its_word
prefix_back O.Not loose is_level some_level = rw (← is_level) refl
prefix_back O.Minus loose is_level some_level = rw (← is_level) refl
prefix_back its_word loose is_level some_level = absurd (omega (arith, is_level))

prefix_no_begin : (its_word : OneWord) → is_prefix its_word ≡ true → begins (mark_of_one its_word) ≡ false
prefix_no_begin O.Not holds = refl
prefix_no_begin O.Minus holds = refl
prefix_no_begin its_word holds = absurd (cc holds)

prefix_unlike : (other_word : OneWord) (lower : ℕ) (expression : Tree) → looseness_of_one other_word ≡ suc lower → looseness expression ≤ lower
    → Unlike (mark_of_one other_word) (looseness expression)
prefix_unlike O.Not lower expression is_level tight_so O.Not is_prefix_so some_level = absurd (omega (arith, is_level))
prefix_unlike O.Not lower expression is_level tight_so O.Minus is_prefix_so some_level = refl
prefix_unlike O.Not lower expression is_level tight_so its_word is_prefix_so some_level = absurd (cc is_prefix_so)
prefix_unlike O.Minus lower expression is_level tight_so O.Not is_prefix_so some_level = refl
prefix_unlike O.Minus lower expression is_level tight_so O.Minus is_prefix_so some_level = absurd (omega (arith, is_level))
prefix_unlike O.Minus lower expression is_level tight_so its_word is_prefix_so some_level = absurd (cc is_prefix_so)
prefix_unlike other_word lower expression is_level tight_so its_word is_prefix_so some_level = absurd (omega (arith, is_level))

no_two : (its_word : TwoWord) (other_word : OneWord) → is_prefix other_word ≡ true → looseness_of its_word ≡ looseness_of_one other_word → ⊥
no_two its_word O.Not is_before same_level = no_five its_word same_level
  where
    no_five : (its_word : TwoWord) → looseness_of its_word ≡ 5 → ⊥
    no_five T.Or is_level = omega (arith, is_level)
    no_five its_word is_level = omega (arith, is_level)
no_two its_word O.Minus is_before same_level = no_one its_word same_level
  where
    no_one : (its_word : TwoWord) → looseness_of its_word ≡ 1 → ⊥
    no_one T.Or is_level = omega (arith, is_level)
    no_one its_word is_level = omega (arith, is_level)
no_two its_word other_word is_before same_level = absurd (cc is_before)

module _ (inner : ℕ → List Tok → Read) (deepest : ℕ) (inner_reads : Reads inner deepest) where
  up_to_reads : (a_mark : Mark) (expression : Tree) (tokens_here middle rest : List Tok) → depth expression ≤ deepest
      → Spells expression tokens_here middle → middle ≡ mark a_mark ∷ rest → Closes a_mark
      → up_to inner deepest a_mark tokens_here ≡ Some (got expression (depth expression) rest)
  unfolding Reads
  up_to_reads a_mark expression tokens_here middle rest shallow spells closes_at closes =
      let stops_there : Stops 7 middle = subst (λ l. Stops 7 l) (sym closes_at) (closing a_mark rest 7 closes) in
      rw (
        inner_reads 7 expression tokens_here middle (loose_all expression) shallow spells stops_there,
        behind_here a_mark middle rest closes_at,
      ) refl

  items_reads : (expressions : Trees) (a_mark : Mark) (turns : ℕ) (so_far : Many) (middle rest : List Tok) → depths expressions ≤ deepest
      → SpellsMore expressions so_far.left middle → middle ≡ mark a_mark ∷ rest
      → Closes a_mark → same M.Comma a_mark ≡ false → count expressions ≤ turns
      → items inner deepest turns so_far ≡ Some (many (so_far.trees ++ list_of expressions) (max so_far.most (depths expressions)) middle)
  unfolding Reads list_of count
  items_reads no_trees a_mark turns so_far middle rest shallow spells_more closes_at closes no_comma fits_so =
      let comma_none : behind M.Comma so_far.left ≡ None = not_here M.Comma a_mark so_far.left rest no_comma (spells_more ∙ closes_at) in
      let most_is : max so_far.most 0 ≡ so_far.most = omega arith in
      items_stops inner deepest turns so_far comma_none ∙ rw (append-nil so_far.trees, most_is, ← spells_more) refl
  items_reads (tree first more) a_mark zero so_far middle rest shallow spells_more closes_at closes no_comma fits_so = absurd (omega arith)
  items_reads (tree first more) a_mark (suc turns) so_far middle rest shallow spells_more closes_at closes no_comma fits_so =
      let first_read = got first (depth first) spells_more.2.0 in
      let read_one =
      inner_reads 7 first spells_more.0 spells_more.2.0 (loose_all first) (omega arith) spells_more.2.1
      (more_ends more a_mark spells_more.2.0 middle rest spells_more.2.2 closes_at closes) in
      let with_first = many (so_far.trees ++ first ∷ []) (max so_far.most (depth first)) spells_more.2.0 in
      items_turn inner deepest turns so_far spells_more.0 first_read (behind_here M.Comma so_far.left spells_more.0 spells_more.1) read_one
      ∙ items_reads more a_mark turns with_first middle rest (omega arith) spells_more.2.2 closes_at closes no_comma (omega arith)
      ∙ rw (append_assoc so_far.trees (first ∷ []) (list_of more), max_three so_far.most (depth first) (depths more)) refl

  list_reads : (expression : Tree) (expressions : Trees) (a_mark : Mark) (tokens_here middle second_middle rest : List Tok)
      → depths (tree expression expressions) ≤ deepest → Spells expression tokens_here middle → SpellsMore expressions middle second_middle
      → second_middle ≡ mark a_mark ∷ rest → Closes a_mark → same M.Comma a_mark ≡ false
      → some_items inner deepest tokens_here ≡ Some (many (expression ∷ list_of expressions) (depths (tree expression expressions)) second_middle)
  unfolding Reads
  list_reads expression expressions a_mark tokens_here middle second_middle rest shallow spells more_spells closes_at closes no_comma =
      rw (inner_reads 7 expression tokens_here middle (loose_all expression) (omega arith) spells
      (more_ends expressions a_mark middle second_middle rest more_spells closes_at closes))
      (items_reads expressions a_mark (length middle) (many (expression ∷ []) (depth expression) middle) second_middle rest
      (omega arith) more_spells closes_at closes no_comma (count_within expressions middle second_middle more_spells))

  -- a primary
  Primary : Tree → Type 0
  Primary expression =
      (tokens_here rest : List Tok) → depth expression ≤ suc deepest → Spells expression tokens_here rest → has_text rest ≡ false
      → behind M.LeftParen rest ≡ None → behind M.Dot rest ≡ None
      → prim inner deepest tokens_here ≡ Some (got expression (depth expression) rest)

  call_reads : (called_so : List ℕ) (expressions : Trees) → Primary (call called_so expressions)
  unfolding Primary
  call_reads called_so no_trees tokens_here rest shallow spells no_text no_paren no_dot =
      let closed_at : spells.2.0 ≡ mark M.RightParen ∷ rest = spells.2.2.1 ∙ spells.2.2.2 in
      rw (spells.1, spells.2.1, closed_at) refl
  call_reads called_so (tree first more) tokens_here rest shallow spells no_text no_paren no_dot =
      let items_spell = spells.2.2 in
      let none : behind M.RightParen spells.2.0 ≡ None =
      not_first M.RightParen refl first spells.2.0 items_spell.1.0 (unlike_paren (looseness first)) items_spell.1.1 in
      rw (
        spells.1,
        spells.2.1,
        none,
        list_reads first more M.RightParen spells.2.0 items_spell.1.0 items_spell.0 rest
            (omega arith) items_spell.1.1 items_spell.1.2 items_spell.2 ends_paren refl,
        behind_here M.RightParen items_spell.0 rest items_spell.2,
        trees_back more,
      ) refl

  one_reads : (its_word : OneWord) (expression : Tree) → is_prefix its_word ≡ false → (tokens_here rest : List Tok)
      → depth (one its_word expression) ≤ suc deepest
      → (spells : (sign M.LeftParen ⨾ Spells expression ⨾ sign M.RightParen) tokens_here rest)
      → word_of_one inner deepest its_word tokens_here ≡ Some (got (one its_word expression) (depth (one its_word expression)) rest)
  one_reads its_word expression fails tokens_here rest shallow spells =
      rw (
        behind_here M.LeftParen tokens_here spells.0 spells.1,
        up_to_reads M.RightParen expression spells.0 spells.2.0 rest (omega arith) spells.2.1 spells.2.2 ends_paren,
      ) refl

  opened_one : (its_word : OneWord) → is_prefix its_word ≡ false → (tokens_here : List Tok)
      → opened inner deepest (mark_of_one its_word) tokens_here ≡ word_of_one inner deepest its_word tokens_here
  opened_one O.Not fails tokens_here = absurd (cc fails)
  opened_one O.Minus fails tokens_here = absurd (cc fails)
  opened_one its_word fails tokens_here = refl

  two_reads : (its_word : TwoWord) (left right : Tree) (tokens_here rest : List Tok) → depth (two its_word left right) ≤ suc deepest
      → (spells : (sign M.LeftParen ⨾ Spells left ⨾ sign M.Comma ⨾ Spells right ⨾ sign M.RightParen) tokens_here rest)
      → word_of_two inner deepest its_word tokens_here ≡ Some (got (two its_word left right) (depth (two its_word left right)) rest)
  two_reads its_word left right tokens_here rest shallow spells =
      let second_half = spells.2.2 in
      rw (
        behind_here M.LeftParen tokens_here spells.0 spells.1,
        up_to_reads M.Comma left spells.0 spells.2.0 second_half.0 (omega arith) spells.2.1 second_half.1 ends_comma,
        up_to_reads M.RightParen right second_half.0 second_half.2.0 rest (omega arith) second_half.2.1 second_half.2.2 ends_paren,
      ) refl

  opened_two : (its_word : TwoWord) → is_operator its_word ≡ false → (tokens_here : List Tok)
      → opened inner deepest (mark_of its_word) tokens_here ≡ word_of_two inner deepest its_word tokens_here
  opened_two T.Append fails tokens_here = refl
  opened_two T.Item fails tokens_here = refl
  opened_two its_word fails tokens_here = absurd (cc fails)

  convert_reads : (its_word : ConvertWord) (object : List ℕ) (expression : Tree) (tokens_here rest : List Tok)
      → depth (convert its_word object expression) ≤ suc deepest
      → (spells : (sign M.LeftParen ⨾ token (word object) ⨾ sign M.Comma ⨾ Spells expression ⨾ sign M.RightParen) tokens_here rest)
      → converts inner deepest its_word tokens_here
      ≡ Some (got (convert its_word object expression) (depth (convert its_word object expression)) rest)
  convert_reads its_word object expression tokens_here rest shallow spells =
      let second_half = spells.2.2 in
      rw (
        behind_here M.LeftParen tokens_here spells.0 spells.1,
        name_here_before M.Comma object spells.0 spells.2.0 second_half.0 spells.2.1 second_half.1,
        up_to_reads M.RightParen expression second_half.0 second_half.2.0 rest (omega arith) second_half.2.1 second_half.2.2 ends_paren,
      ) refl

  opened_convert : (its_word : ConvertWord) (tokens_here : List Tok)
      → opened inner deepest (mark_of_convert its_word) tokens_here ≡ converts inner deepest its_word tokens_here
  opened_convert C.StorageToElevation tokens_here = refl
  opened_convert C.ElevationToStorage tokens_here = refl

  truth_reads : (test : Bool) (rest : List Tok) → opened inner deepest (mark_of_truth test) rest ≡ Some (got (truth test) 1 rest)
  truth_reads true rest = refl
  truth_reads false rest = refl

  each_reads : (item_name : List ℕ) (source : Tree) (total_name : List ℕ) (initial body : Tree)
      → Primary (each item_name source total_name initial body)
  unfolding Primary
  each_reads item_name source total_name initial body tokens_here rest shallow spells no_text no_paren no_dot =
      let source_spells = spells.2.2.2 in
      let initial_spells = source_spells.2.2 in
      let body_spells = initial_spells.2.2 in
      rw (
        spells.1,
        name_here_before M.In item_name spells.0 spells.2.0 spells.2.2.0 spells.2.1 spells.2.2.1,
        up_to_reads M.With source spells.2.2.0 source_spells.0 source_spells.2.0 (omega arith) source_spells.1 source_spells.2.1 ends_with,
        name_here_before M.Assign total_name source_spells.2.0 initial_spells.0 initial_spells.2.0 initial_spells.1 initial_spells.2.1,
        up_to_reads M.Do initial initial_spells.2.0 body_spells.0 body_spells.2.0 (omega arith) body_spells.1 body_spells.2.1 ends_do,
        up_to_reads M.EndFor body body_spells.2.0 body_spells.2.2.0 rest (omega arith) body_spells.2.2.1 body_spells.2.2.2 ends_endfor,
      ) refl

  prim_reads : (expression : Tree) → ((slot_tree date : Tree) → expression ≡ at slot_tree date → ⊥) → looseness expression ≤ 0 → Primary expression
  unfolding Primary
  prim_reads (literal number None) no_look is_primary tokens_here rest shallow spells no_text no_paren no_dot =
      rw spells (number_alone inner deepest number rest no_text)
  prim_reads (literal number (Some unit)) no_look is_primary tokens_here rest shallow spells no_text no_paren no_dot = rw (spells.1, spells.2) refl
  prim_reads (truth is_so) no_look is_primary tokens_here rest shallow spells no_text no_paren no_dot = rw spells (truth_reads is_so rest)
  prim_reads now no_look is_primary tokens_here rest shallow spells no_text no_paren no_dot = rw spells refl
  prim_reads (slot object slot_name) no_look is_primary tokens_here rest shallow spells no_text no_paren no_dot =
      rw (spells.1, spells.2.1, spells.2.2) refl
  prim_reads (name its_name) no_look is_primary tokens_here rest shallow spells no_text no_paren no_dot = rw (spells, no_paren, no_dot) refl
  prim_reads (call function_name arguments) no_look is_primary tokens_here rest shallow spells no_text no_paren no_dot =
      call_reads function_name arguments tokens_here rest shallow spells no_text no_paren no_dot
  prim_reads (brackets inside) no_look is_primary tokens_here rest shallow spells no_text no_paren no_dot =
      rw (spells.1, up_to_reads M.RightParen inside spells.0 spells.2.0 rest (omega arith) spells.2.1 spells.2.2 ends_paren) refl
  prim_reads (list no_trees) no_look is_primary tokens_here rest shallow spells no_text no_paren no_dot = absurd spells
  prim_reads (list (tree first more)) no_look is_primary tokens_here rest shallow spells no_text no_paren no_dot =
      rw (
        spells.1,
        list_reads first more M.RightBrace spells.0 spells.2.0 spells.2.2.0 rest (omega arith) spells.2.1 spells.2.2.1 spells.2.2.2 ends_brace refl,
        behind_here M.RightBrace spells.2.2.0 rest spells.2.2.2,
        trees_back more,
      ) refl
  prim_reads (choice condition if_true if_false) no_look is_primary tokens_here rest shallow spells no_text no_paren no_dot =
      rw (
        spells.1,
        up_to_reads M.Then condition spells.0 spells.2.0 spells.2.2.0 (omega arith) spells.2.1 spells.2.2.1 ends_then,
        up_to_reads M.Else if_true spells.2.2.0 spells.2.2.2.0 spells.2.2.2.2.0 (omega arith) spells.2.2.2.1 spells.2.2.2.2.1 ends_else,
        up_to_reads M.EndIf if_false spells.2.2.2.2.0 spells.2.2.2.2.2.0 rest (omega arith) spells.2.2.2.2.2.1 spells.2.2.2.2.2.2 ends_endif,
      ) refl
  prim_reads (bind new_name value_tree body) no_look is_primary tokens_here rest shallow spells no_text no_paren no_dot =
      let value_spells = spells.2.2.2 in
      rw (
        spells.1,
        name_here_before M.Assign new_name spells.0 spells.2.0 spells.2.2.0 spells.2.1 spells.2.2.1,
        up_to_reads M.In value_tree spells.2.2.0 value_spells.0 value_spells.2.0 (omega arith) value_spells.1 value_spells.2.1 ends_in,
        up_to_reads M.EndLet body value_spells.2.0 value_spells.2.2.0 rest (omega arith) value_spells.2.2.1 value_spells.2.2.2 ends_endlet,
      ) refl
  prim_reads (each item_name source total_name initial body) no_look is_primary tokens_here rest shallow spells no_text no_paren no_dot =
      each_reads item_name source total_name initial body tokens_here rest shallow spells no_text no_paren no_dot
  prim_reads (mapped item_name source body) no_look is_primary tokens_here rest shallow spells no_text no_paren no_dot =
      let value_spells = spells.2.2.2 in
      rw (
        spells.1,
        name_here_before M.In item_name spells.0 spells.2.0 spells.2.2.0 spells.2.1 spells.2.2.1,
        up_to_reads M.Do source spells.2.2.0 value_spells.0 value_spells.2.0 (omega arith) value_spells.1 value_spells.2.1 ends_do,
        up_to_reads M.EndMap body value_spells.2.0 value_spells.2.2.0 rest (omega arith) value_spells.2.2.1 value_spells.2.2.2 ends_endmap,
      ) refl
  prim_reads (one its_word operand) no_look is_primary tokens_here rest shallow spells no_text no_paren no_dot =
      let is_tight = tight_word its_word is_primary in
      let value_spells = second_of_form (is_prefix its_word) _ _ tokens_here rest is_tight spells in
      rw value_spells.1 (opened_one its_word is_tight value_spells.0 ∙ one_reads its_word operand is_tight value_spells.0 rest shallow value_spells.2)
  prim_reads (two its_word left right) no_look is_primary tokens_here rest shallow spells no_text no_paren no_dot =
      let is_tight = tight_two its_word is_primary in
      let value_spells = second_of_form (is_operator its_word) _ _ tokens_here rest is_tight spells in
      rw value_spells.1 (opened_two its_word is_tight value_spells.0 ∙ two_reads its_word left right value_spells.0 rest shallow value_spells.2)
  prim_reads (convert its_word object operand) no_look is_primary tokens_here rest shallow spells no_text no_paren no_dot =
      rw spells.1 (opened_convert its_word spells.0 ∙ convert_reads its_word object operand spells.0 rest shallow spells.2)
  prim_reads (at slot_tree date) no_look is_primary tokens_here rest shallow spells no_text no_paren no_dot = absurd (no_look slot_tree date refl)

  -- a primary and its brackets: after so many turns all of it is read
  record Posts (expression : Tree) (tokens_here rest : List Tok) : Type 0 where
    turns : ℕ
    few : turns < depth expression
    reads : (turns_given turns_left : ℕ) → turns_given ≡ turns + turns_left
        → (prim inner deepest tokens_here >>= steps inner deepest turns_given)
        ≡ steps inner deepest turns_left (got expression (depth expression) rest)

  post_alone : (expression : Tree) → ((slot_tree date : Tree) → expression ≡ at slot_tree date → ⊥) → looseness expression ≤ 0
      → (tokens_here rest : List Tok) → depth expression ≤ suc deepest → Spells expression tokens_here rest
      → has_text rest ≡ false → behind M.LeftParen rest ≡ None → behind M.Dot rest ≡ None → Posts expression tokens_here rest
  unfolding Primary
  post_alone expression no_look is_primary tokens_here rest shallow spells no_text no_paren no_dot =
      let some_depth = depth_pos expression in
      record {
        turns = 0;
        few = omega arith;
        reads = λ turns_given turns_left are_given. let same_turns : turns_given ≡ turns_left = omega arith in
            rw (prim_reads expression no_look is_primary tokens_here rest shallow spells no_text no_paren no_dot, same_turns) refl;
      }

  post_reads : (expression : Tree) → looseness expression ≤ 0 → (tokens_here rest : List Tok) → depth expression ≤ suc deepest
      → Spells expression tokens_here rest → has_text rest ≡ false
      → behind M.LeftParen rest ≡ None → behind M.Dot rest ≡ None → Posts expression tokens_here rest
  unfolding Primary
  post_reads (at slot_tree date) is_primary tokens_here rest shallow spells no_text no_paren no_dot =
      let mid = spells.2.0 in
      let before_date =
      post_reads slot_tree spells.1.0 tokens_here spells.0 (omega arith) spells.1.1 (rw spells.2.1 refl) (rw spells.2.1 refl)
      (rw spells.2.1 refl) in
      let few = before_date.few in
      record {
        turns = suc before_date.turns;
        few = omega arith;
        reads = λ turns_given turns_left are_given.
            before_date.reads turns_given (suc turns_left) (omega arith)
            ∙ steps_turn inner deepest turns_left (got slot_tree (depth slot_tree) spells.0) mid (got date (depth date) rest)
            (behind_here M.LeftBracket spells.0 mid spells.2.1)
            (lt-ltb (depth slot_tree) (suc deepest) (omega arith))
            (up_to_reads M.RightBracket date mid spells.2.2.0 rest (omega arith) spells.2.2.1 spells.2.2.2 ends_bracket);
      }
  post_reads expression is_primary tokens_here rest shallow spells no_text no_paren no_dot =
      post_alone expression (λ slot_tree date alike. absurd (cc alike)) is_primary tokens_here rest shallow spells no_text no_paren no_dot

  AtLevel : ℕ → Type 0
  AtLevel loose =
      (expression : Tree) (tokens_here rest : List Tok) → looseness expression ≤ loose → depth expression ≤ suc deepest
      → Spells expression tokens_here rest → Stops loose rest
      → level inner deepest loose tokens_here ≡ Some (got expression (depth expression) rest)

  -- a chain of one level: after so many turns all of it is read
  record Chains (lower : ℕ) (expression : Tree) (tokens_here rest : List Tok) : Type 0 where
    turns : ℕ
    few : turns < depth expression
    once : suc lower ≡ 4 → 4 * turns ≤ looseness expression
    reads : (turns_given turns_left : ℕ) → turns_given ≡ turns + turns_left
        → (level inner deepest lower tokens_here >>= chain inner deepest (suc lower) turns_given)
        ≡ chain inner deepest (suc lower) turns_left (got expression (depth expression) rest)

  chain_alone : (lower : ℕ) → AtLevel lower → (expression : Tree) (tokens_here rest : List Tok) → looseness expression ≤ lower
      → depth expression ≤ suc deepest → Spells expression tokens_here rest → Stops lower rest
      → Chains lower expression tokens_here rest
  unfolding AtLevel
  chain_alone lower below expression tokens_here rest tight_so shallow spells stops =
      let some_depth = depth_pos expression in
      record {
        turns = 0;
        few = omega arith;
        once = λ four. omega arith;
        reads = λ turns_given turns_left are_given. let same_turns : turns_given ≡ turns_left = omega arith in
            rw (below expression tokens_here rest tight_so shallow spells stops, same_turns) refl;
      }

  le_or : (first second : ℕ) → first ≤ suc second → (first ≤ second) ⊎ (first ≡ suc second)
  le_or first second no_more = grind (arith, no_more)

  chain_step : (lower : ℕ) → 1 ≤ lower → (its_word : TwoWord) (left right : Tree) → looseness_of its_word ≡ suc lower → is_operator its_word ≡ true
      → (tokens_here rest : List Tok)
      → depth (two its_word left right) ≤ suc deepest → (between : Between its_word left right tokens_here rest) → Stops lower rest
      → Chains lower left tokens_here between.0 → Chains lower (two its_word left right) tokens_here rest
  unfolding Reads
  chain_step lower pos its_word left right is_level is_between tokens_here rest shallow between stops left_chain =
      let few = left_chain.few in
      let mid = between.2.0 in
      let right_loose : suc lower - 1 ≡ lower = omega arith in
      let right_read_so : inner (suc lower - 1) mid ≡ Some (got right (depth right) rest) =
      rw right_loose
      (inner_reads lower right mid rest
      (let right_tight = between.2.2.0 in omega (arith, right_tight, is_level)) (omega arith) between.2.2.1 stops) in
      record {
        turns = suc left_chain.turns;
        few = omega arith;
        once = λ four. let right_tight = left_chain.once four in let left_tight = left_four its_word (is_level ∙ four) in let left_so = between.1.0 in
            omega (arith, right_tight, left_tight, left_so, is_level, four);
        reads = λ turns_given turns_left are_given.
            left_chain.reads turns_given (suc turns_left) (omega arith)
            ∙ chain_turn inner deepest (suc lower) turns_left (got left (depth left) between.0) (record { op = its_word; more = mid })
            (got right (depth right) rest)
            (rw between.2.1 (turn_here its_word (suc lower) mid is_between is_level)) (lt-ltb (depth left) (suc deepest) (omega arith)) right_read_so;
      }

  two_pos : (its_word : TwoWord) (lower : ℕ) → looseness_of its_word ≡ suc lower → is_operator its_word ≡ true
  two_pos its_word lower is_level = operator_loose its_word (omega (arith, is_level))

  -- a level that has no word before its expressions
  abbrev Bare : ℕ → Type 0
  Bare lower = prefix_of (suc lower) ≡ None

  chain_two : (lower : ℕ) → 1 ≤ lower → AtLevel lower → (its_word : TwoWord) (left right : Tree) → (looseness_of its_word ≤ lower)
      ⊎ (looseness_of its_word ≡ suc lower) → (tokens_here rest : List Tok)
      → depth (two its_word left right) ≤ suc deepest → (spells : Spells (two its_word left right) tokens_here rest) → Stops lower rest
      → ((is_level : looseness_of its_word ≡ suc lower)
      → Chains lower left tokens_here (between its_word left right tokens_here rest (two_pos its_word lower is_level) spells).0)
      → Chains lower (two its_word left right) tokens_here rest
  chain_two lower pos below its_word left right (inl tight_so) tokens_here rest shallow spells stops left_chain =
      chain_alone lower below (two its_word left right) tokens_here rest tight_so shallow spells stops
  chain_two lower pos below its_word left right (inr is_level) tokens_here rest shallow spells stops left_chain =
      let is_between = two_pos its_word lower is_level in
      chain_step lower pos its_word left right is_level is_between tokens_here rest shallow
      (between its_word left right tokens_here rest is_between spells) stops (left_chain is_level)

  chain_one : (lower : ℕ) → Bare lower → AtLevel lower → (its_word : OneWord) (expression : Tree) → (looseness_of_one its_word ≤ lower)
      ⊎ (looseness_of_one its_word ≡ suc lower) → (tokens_here rest : List Tok)
      → depth (one its_word expression) ≤ suc deepest → Spells (one its_word expression) tokens_here rest → Stops lower rest
      → Chains lower (one its_word expression) tokens_here rest
  chain_one lower bare below its_word expression (inl tight_so) tokens_here rest shallow spells stops =
      chain_alone lower below (one its_word expression) tokens_here rest tight_so shallow spells stops
  chain_one lower bare below its_word expression (inr is_level) tokens_here rest shallow spells stops =
      absurd (cc (sym (prefix_back its_word (suc lower) is_level (omega arith)) ∙ bare))

  chain_reads : (lower : ℕ) → Bare lower → 1 ≤ lower → AtLevel lower → (expression : Tree) (tokens_here rest : List Tok)
      → looseness expression ≤ suc lower → depth expression ≤ suc deepest → Spells expression tokens_here rest
      → Stops lower rest → Chains lower expression tokens_here rest
  chain_reads lower bare pos below (two its_word left right) tokens_here rest tight_so shallow spells stops =
      chain_two lower pos below its_word left right (le_or (looseness_of its_word) lower tight_so) tokens_here rest shallow spells stops
      (λ is_level.
      let is_between = two_pos its_word lower is_level in
      let parts = between its_word left right tokens_here rest is_between spells in
      let few = parts.1.0 in
      let within = left_within its_word in
      chain_reads lower bare pos below left tokens_here parts.0 (omega (arith, few, within, is_level)) (omega arith) parts.1.1
      (subst (Stops lower) (sym parts.2.1) (operator_ends its_word parts.2.0 lower is_between (omega (arith, is_level)))))
  chain_reads lower bare pos below (one its_word operand) tokens_here rest tight_so shallow spells stops =
      chain_one lower bare below its_word operand (le_or (looseness_of_one its_word) lower tight_so) tokens_here rest shallow spells stops
  chain_reads lower bare pos below expression tokens_here rest tight_so shallow spells stops =
      chain_alone lower below expression tokens_here rest (omega arith) shallow spells stops

  enough : (loose turns_there : ℕ) (expression : Tree) → turns_there < depth expression → depth expression ≤ suc deepest
      → (loose ≡ 4 → 4 * turns_there ≤ looseness expression) → turns_there ≤ turns_of loose deepest
  enough loose turns_there expression few shallow once = enough_by (loose == 4) (λ e. once (grind (arith, e)))
    where
      enough_by : (test : Bool) → (test ≡ true → 4 * turns_there ≤ looseness expression) → turns_there ≤ (if test then 1 else deepest)
      enough_by true once_so = let few_there = once_so refl in let loose_there = loose_all expression in omega arith
      enough_by false once_so = omega arith

  level_zero : AtLevel 0
  unfolding AtLevel level
  level_zero expression tokens_here rest is_primary shallow spells stops =
      let before_date = post_reads expression is_primary tokens_here rest shallow spells stops.no_text stops.no_paren stops.no_dot in
      let few = before_date.few in
      before_date.reads deepest (deepest - before_date.turns) (omega arith)
      ∙ steps_stops inner deepest (deepest - before_date.turns) (got expression (depth expression) rest) stops.no_bracket

  -- a level with a word before its expressions
  module _ (lower : ℕ) (prefix_word : OneWord) (is_prefix_there : prefix_of (suc lower) ≡ Some prefix_word) (below : AtLevel lower) where
    tighter : (expression : Tree) (tokens_here rest : List Tok) → looseness expression ≤ lower → depth expression ≤ suc deepest
        → Spells expression tokens_here rest → Stops (suc lower) rest
        → level inner deepest (suc lower) tokens_here ≡ Some (got expression (depth expression) rest)
    unfolding AtLevel level
    tighter expression tokens_here rest tight_so shallow spells stops =
        let none : behind (mark_of_one prefix_word) tokens_here ≡ None =
        not_first (mark_of_one prefix_word)
        (prefix_no_begin prefix_word (prefix_sound (suc lower) prefix_word is_prefix_there).before) expression tokens_here rest
        (prefix_unlike prefix_word lower expression (prefix_sound (suc lower) prefix_word is_prefix_there).level tight_so) spells in
        rw (is_prefix_there, none) (below expression tokens_here rest tight_so shallow spells (fewer lower (suc lower) rest (omega arith) stops))

    by_word : (its_word : OneWord) (expression : Tree) → (looseness_of_one its_word ≤ lower) ⊎ (looseness_of_one its_word ≡ suc lower)
        → (tokens_here rest : List Tok) → depth (one its_word expression) ≤ suc deepest
        → Spells (one its_word expression) tokens_here rest → Stops (suc lower) rest
        → level inner deepest (suc lower) tokens_here ≡ Some (got (one its_word expression) (depth (one its_word expression)) rest)
    unfolding level Reads
    by_word its_word expression (inl tight_so) tokens_here rest shallow spells stops =
        tighter (one its_word expression) tokens_here rest tight_so shallow spells stops
    by_word its_word expression (inr is_level) tokens_here rest shallow spells stops =
        let parts = before its_word expression tokens_here rest (prefix_loose its_word (omega (arith, is_level))) spells in
        let tight_so = parts.2.0 in
        let same_word : prefix_word ≡ its_word =
        some_eq prefix_word its_word (sym is_prefix_there ∙ prefix_back its_word (suc lower) is_level (omega arith)) in
        rw (
          is_prefix_there,
          same_word,
          behind_here (mark_of_one its_word) tokens_here parts.0 parts.1,
          inner_reads (suc lower) expression parts.0 rest (omega (arith, tight_so, is_level)) (omega arith) parts.2.1 stops,
        ) refl

    by_two : (its_word : TwoWord) (left right : Tree) → (looseness_of its_word ≤ lower) ⊎ (looseness_of its_word ≡ suc lower)
        → (tokens_here rest : List Tok) → depth (two its_word left right) ≤ suc deepest
        → Spells (two its_word left right) tokens_here rest → Stops (suc lower) rest
        → level inner deepest (suc lower) tokens_here ≡ Some (got (two its_word left right) (depth (two its_word left right)) rest)
    by_two its_word left right (inl tight_so) tokens_here rest shallow spells stops =
        tighter (two its_word left right) tokens_here rest tight_so shallow spells stops
    by_two its_word left right (inr is_level) tokens_here rest shallow spells stops =
        absurd (no_two its_word prefix_word (prefix_sound (suc lower) prefix_word is_prefix_there).before
        (is_level ∙ sym (prefix_sound (suc lower) prefix_word is_prefix_there).level))

    level_prefix : AtLevel (suc lower)
    unfolding AtLevel
    level_prefix (one its_word operand) tokens_here rest tight_so shallow spells stops =
        by_word its_word operand (le_or (looseness_of_one its_word) lower tight_so) tokens_here rest shallow spells stops
    level_prefix (two its_word left right) tokens_here rest tight_so shallow spells stops =
        by_two its_word left right (le_or (looseness_of its_word) lower tight_so) tokens_here rest shallow spells stops
    level_prefix expression tokens_here rest tight_so shallow spells stops = tighter expression tokens_here rest (omega arith) shallow spells stops

  -- a level of operators
  level_bare : (lower : ℕ) → Bare lower → AtLevel lower → AtLevel (suc lower)
  unfolding AtLevel level
  level_bare zero bare below = absurd (cc bare)
  level_bare (suc lower) bare below = λ expression tokens_here rest tight_so shallow spells stops.
      let loose = suc (suc lower) in
      let chain_there =
      chain_reads (suc lower) bare (omega arith) below expression tokens_here rest tight_so shallow spells
      (fewer (suc lower) loose rest (omega arith) stops) in
      let turns_given = turns_of loose deepest in
      let room = enough loose chain_there.turns expression chain_there.few shallow chain_there.once in
      rw bare (chain_there.reads turns_given (turns_given - chain_there.turns) (omega (arith, room))
      ∙ chain_stops inner deepest loose (turns_given - chain_there.turns) (got expression (depth expression) rest)
      (stops.no_turn loose (omega arith)))

  level_by : (lower : ℕ) (found_there : Option OneWord) → prefix_of (suc lower) ≡ found_there → AtLevel lower → AtLevel (suc lower)
  level_by lower None prefix_is below = level_bare lower prefix_is below
  level_by lower (Some prefix_word) prefix_is below = level_prefix lower prefix_word prefix_is below

  level_reads : (loose : ℕ) → AtLevel loose
  level_reads zero = level_zero
  level_reads (suc lower) = level_by lower (prefix_of (suc lower)) refl (level_reads lower)

pub complete : (deepest : ℕ) → Reads (read_tree deepest) deepest
unfolding Reads read_tree AtLevel
complete zero = λ loose expression tokens_here rest tight_so shallow spells stops. let some_depth = depth_pos expression in absurd (omega arith)
complete (suc deepest) =
    λ loose expression tokens_here rest tight_so shallow spells stops.
    level_reads (read_tree deepest) deepest (complete deepest) loose expression tokens_here rest tight_so shallow spells stops
