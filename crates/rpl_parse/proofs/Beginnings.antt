-- What a part of the grammar leaves of the words it is read from, and with which marks an expression begins: what Complete's proof rests on.
use Rattle.rw_base.proofs.Common.{◌≡◌, ◌≤◌, ◌-◌, ◌∙◌, ℕ, ℤ, suc, Bool, true, false, List, [], ◌∷◌, length}
use Rattle.rw_base.proofs.Common.{Some, None, refl, sym, ap, arith}
use Rattle.rpl_parse.specs.declared.token.Mark.{Mark}
use Rattle.rpl_parse.specs.declared.token.Mark.TheVariants as M
use Rattle.rpl_tree.specs.declared.words.OneWord.{OneWord}
use Rattle.rpl_tree.specs.declared.words.OneWord.TheVariants as O
use Rattle.rpl_tree.specs.declared.words.TwoWord.{TwoWord}
use Rattle.rpl_tree.specs.declared.words.TwoWord.TheVariants as T
use Rattle.rpl_tree.specs.declared.words.ConvertWord.{ConvertWord}
use Rattle.rpl_tree.specs.declared.words.ConvertWord.TheVariants as C
use Rattle.rpl_parse.specs.Tokens.{Tok, mark, word, digits, text, same}
use Rattle.rpl_tree.specs.Tree.{Tree, Trees, literal, truth, now, slot, name, call, brackets, list, choice, bind, each, mapped, one, two, convert, at}
use Rattle.rpl_tree.specs.Tree.{no_trees, tree}
use Rattle.rpl_tree.specs.Depth.{depth}
use Rattle.rpl_parse.specs.Grammar.{Part, ◌⨾◌, sign, token, form, at_most, Spells, SpellsList, SpellsMore, looseness, looseness_of, looseness_of_one}
use Rattle.rpl_parse.specs.Grammar.{looseness_on_left, mark_of, mark_of_one, mark_of_truth, mark_of_convert, is_prefix, is_operator}
use Rattle.rpl_parse.specs.Reading.{behind, behind_name, name_before, trees_of}
use Rattle.rpl_parse.proofs.Marks.{same_self, same_mark}

-- A part leaves no more than there was.

abbrev pub Shrinks : Part → Type 0
Shrinks first_part = (tokens_here rest : List Tok) → first_part tokens_here rest → length rest ≤ length tokens_here

pub one_shrinks : (a_token : Tok) → Shrinks (token a_token)
one_shrinks a_token tokens_here rest begins_so = let counted : length tokens_here ≡ suc (length rest) = ap length begins_so in omega arith

pub shrinks_then : (first_part second_part : Part) → Shrinks first_part → Shrinks second_part → Shrinks (first_part ⨾ second_part)
shrinks_then first_part second_part first_part_shrinks second_part_shrinks tokens_here rest parts = let first_shorter =
    first_part_shrinks tokens_here parts.0 parts.1 in let second_shorter = second_part_shrinks parts.0 rest parts.2 in omega arith

pub mark_then : (a_token : Tok) (second_part : Part) → Shrinks second_part → Shrinks (token a_token ⨾ second_part)
mark_then a_token second_part second_part_shrinks = shrinks_then (token a_token) second_part (one_shrinks a_token) second_part_shrinks

form_shrinks : (test : Bool) (first_part second_part : Part) → Shrinks first_part → Shrinks second_part → Shrinks (form test first_part second_part)
form_shrinks true first_part second_part first_part_shrinks second_part_shrinks = first_part_shrinks
form_shrinks false first_part second_part first_part_shrinks second_part_shrinks = second_part_shrinks

ends_paren_shrinks : (first_part : Part) → Shrinks first_part → Shrinks (first_part ⨾ sign M.RightParen)
ends_paren_shrinks first_part first_part_shrinks = shrinks_then first_part _ first_part_shrinks (one_shrinks (mark M.RightParen))

mutual
  pub shrinks : (expression : Tree) → Shrinks (Spells expression)
  shrinks (literal number None) = one_shrinks (digits number)
  shrinks (literal number (Some unit)) = mark_then (digits number) (token (text unit)) (one_shrinks (text unit))
  shrinks (truth is_so) = one_shrinks (mark (mark_of_truth is_so))
  shrinks now = one_shrinks (mark M.Now)
  shrinks (slot object slot_name) = mark_then (word object) _ (mark_then (mark M.Dot) _ (one_shrinks (word slot_name)))
  shrinks (name its_name) = one_shrinks (word its_name)
  shrinks (call function_name arguments) =
      mark_then (word function_name) _ (mark_then (mark M.LeftParen) _ (ends_paren_shrinks (SpellsList arguments) (list_shrinks arguments)))
  shrinks (brackets inside) = mark_then (mark M.LeftParen) _ (ends_paren_shrinks (Spells inside) (shrinks inside))
  shrinks (list no_trees) = λ tokens_here rest spells. absurd spells
  shrinks (list (tree first more)) =
      mark_then (mark M.LeftBrace) _ (shrinks_then (Spells first) _ (shrinks first)
      (shrinks_then (SpellsMore more) _ (more_shrinks more) (one_shrinks (mark M.RightBrace))))
  shrinks (choice condition if_true if_false) =
      mark_then (mark M.If) _ (shrinks_then (Spells condition) _ (shrinks condition)
      (mark_then (mark M.Then) _ (shrinks_then (Spells if_true) _ (shrinks if_true)
      (mark_then (mark M.Else) _ (shrinks_then (Spells if_false) _ (shrinks if_false) (one_shrinks (mark M.EndIf)))))))
  shrinks (bind new_name value_tree body) =
      mark_then (mark M.Let) _ (mark_then (word new_name) _
      (mark_then (mark M.Assign) _ (shrinks_then (Spells value_tree) _ (shrinks value_tree)
      (mark_then (mark M.In) _ (shrinks_then (Spells body) _ (shrinks body) (one_shrinks (mark M.EndLet)))))))
  shrinks (each item_name source total_name initial body) =
      mark_then (mark M.For) _ (mark_then (word item_name) _
      (mark_then (mark M.In) _ (shrinks_then (Spells source) _ (shrinks source)
      (mark_then (mark M.With) _ (mark_then (word total_name) _ (mark_then (mark M.Assign) _ (shrinks_then (Spells initial) _ (shrinks initial)
      (mark_then (mark M.Do) _ (shrinks_then (Spells body) _ (shrinks body) (one_shrinks (mark M.EndFor)))))))))))
  shrinks (mapped item_name source body) =
      mark_then (mark M.Map) _ (mark_then (word item_name) _
      (mark_then (mark M.In) _ (shrinks_then (Spells source) _ (shrinks source)
      (mark_then (mark M.Do) _ (shrinks_then (Spells body) _ (shrinks body) (one_shrinks (mark M.EndMap)))))))
  shrinks (one its_word operand) =
      form_shrinks (is_prefix its_word) _ _
      (mark_then (mark (mark_of_one its_word)) _ (λ tokens_here rest spells. shrinks operand tokens_here rest spells.1))
      (mark_then (mark (mark_of_one its_word)) _ (mark_then (mark M.LeftParen) _ (ends_paren_shrinks (Spells operand) (shrinks operand))))
  shrinks (two its_word left right) = form_shrinks (is_operator its_word) _ _
      (shrinks_then (at_most (looseness_on_left its_word) left (Spells left)) _ (λ tokens_here rest spells. shrinks left tokens_here rest spells.1)
      (mark_then (mark (mark_of its_word)) _ (λ tokens_here rest spells. shrinks right tokens_here rest spells.1)))
      (mark_then (mark (mark_of its_word)) _ (mark_then (mark M.LeftParen) _
      (shrinks_then (Spells left) _ (shrinks left) (mark_then (mark M.Comma) _ (ends_paren_shrinks (Spells right) (shrinks right))))))
  shrinks (convert its_word object operand) =
      mark_then (mark (mark_of_convert its_word)) _ (mark_then (mark M.LeftParen) _
      (mark_then (word object) _ (mark_then (mark M.Comma) _ (ends_paren_shrinks (Spells operand) (shrinks operand)))))
  shrinks (at slot_tree date) =
      shrinks_then (at_most 0 slot_tree (Spells slot_tree)) _ (λ tokens_here rest spells. shrinks slot_tree tokens_here rest spells.1)
      (mark_then (mark M.LeftBracket) _ (shrinks_then (Spells date) _ (shrinks date) (one_shrinks (mark M.RightBracket))))

  list_shrinks : (expressions : Trees) → Shrinks (SpellsList expressions)
  list_shrinks no_trees = λ tokens_here rest tokens_are. let counted : length tokens_here ≡ length rest = ap length tokens_are in omega arith
  list_shrinks (tree first more) = shrinks_then (Spells first) _ (shrinks first) (more_shrinks more)

  more_shrinks : (expressions : Trees) → Shrinks (SpellsMore expressions)
  more_shrinks no_trees = λ tokens_here rest tokens_are. let counted : length tokens_here ≡ length rest = ap length tokens_are in omega arith
  more_shrinks (tree first more) = mark_then (mark M.Comma) _ (shrinks_then (Spells first) _ (shrinks first) (more_shrinks more))

unfoldable pub list_of : Trees → List Tree
list_of no_trees = []
list_of (tree first more) = first ∷ list_of more

pub trees_back : (expressions : Trees) → trees_of (list_of expressions) ≡ expressions
unfolding list_of
trees_back no_trees = refl
trees_back (tree first more) = ap (tree first) (trees_back more)

unfoldable pub count : Trees → ℕ
count no_trees = 0
count (tree first more) = suc (count more)

pub count_within : (expressions : Trees) (tokens_here rest : List Tok) → SpellsMore expressions tokens_here rest
    → count expressions ≤ length tokens_here
unfolding count
count_within no_trees tokens_here rest spells_more = omega arith
count_within (tree first more) tokens_here rest spells_more =
    let counted : length tokens_here ≡ suc (length spells_more.0) = ap length spells_more.1 in
    let first_shorter = shrinks first spells_more.0 spells_more.2.0 spells_more.2.1 in
    let second_shorter = count_within more spells_more.2.0 rest spells_more.2.2 in
    omega arith

pub depth_pos : (expression : Tree) → 1 ≤ depth expression
depth_pos (literal number unit) = omega arith
depth_pos expression = omega arith

-- What stands first is taken.

pub behind_here : (a_mark : Mark) (tokens_here further : List Tok) → tokens_here ≡ mark a_mark ∷ further → behind a_mark tokens_here ≡ Some further
behind_here a_mark tokens_here further tokens_here_is = rw (tokens_here_is, same_self a_mark) refl

pub name_here : (called_so : List ℕ) (tokens_here further : List Tok) → tokens_here ≡ word called_so ∷ further
    → behind_name tokens_here ≡ Some (record { called = called_so; next = further })
name_here called_so tokens_here further tokens_here_is = rw tokens_here_is refl

pub name_here_before : (a_mark : Mark) (called_so : List ℕ) (tokens_here middle rest : List Tok) → tokens_here ≡ word called_so ∷ middle
    → middle ≡ mark a_mark ∷ rest
    → name_before a_mark tokens_here ≡ Some (record { called = called_so; next = rest })
name_here_before a_mark called_so tokens_here middle rest name_stands mark_stands = rw (name_stands, behind_here a_mark middle rest mark_stands) refl

-- Which marks begin no expression.

pub not_here : (a_mark other_mark : Mark) (tokens_here further : List Tok) → same a_mark other_mark ≡ false → tokens_here ≡ mark other_mark ∷ further
    → behind a_mark tokens_here ≡ None
not_here a_mark other_mark tokens_here further unlike_mark stands = rw (stands, unlike_mark) refl

pub not_word : (a_mark : Mark) (called_so : List ℕ) (tokens_here further : List Tok) → tokens_here ≡ word called_so ∷ further
    → behind a_mark tokens_here ≡ None
not_word a_mark called_so tokens_here further stands = rw stands refl

not_digits : (a_mark : Mark) (number : ℤ) (tokens_here further : List Tok) → tokens_here ≡ digits number ∷ further → behind a_mark tokens_here ≡ None
not_digits a_mark number tokens_here further stands = rw stands refl

-- the marks with which an expression may begin, but for those of a prefix
abbrev pub begins : Mark → Bool
begins M.LeftParen = true
begins M.LeftBrace = true
begins M.If = true
begins M.Let = true
begins M.For = true
begins M.Map = true
begins M.True = true
begins M.False = true
begins M.Now = true
begins M.Known = true
begins M.Length = true
begins M.Month = true
begins M.Day = true
begins M.Year = true
begins M.Append = true
begins M.Item = true
begins M.StorageToElevation = true
begins M.ElevationToStorage = true
begins _ = false

apart : (a_mark other_mark : Mark) → begins a_mark ≡ false → begins other_mark ≡ true → same a_mark other_mark ≡ false
apart a_mark other_mark no_begin begins_so = by_same (same a_mark other_mark) refl
  where
    by_same : (test : Bool) → same a_mark other_mark ≡ test → test ≡ false
    by_same false alike = refl
    by_same true alike = absurd (cc (sym (ap begins (same_mark a_mark other_mark alike) ∙ begins_so) ∙ no_begin))

truth_begins : (test : Bool) → begins (mark_of_truth test) ≡ true
truth_begins true = refl
truth_begins false = refl

convert_begins : (its_word : ConvertWord) → begins (mark_of_convert its_word) ≡ true
convert_begins C.StorageToElevation = refl
convert_begins C.ElevationToStorage = refl

one_begins : (its_word : OneWord) → is_prefix its_word ≡ false → begins (mark_of_one its_word) ≡ true
one_begins O.Not fails = absurd (cc fails)
one_begins O.Minus fails = absurd (cc fails)
one_begins its_word fails = refl

two_begins : (its_word : TwoWord) → is_operator its_word ≡ false → begins (mark_of its_word) ≡ true
two_begins T.Append fails = refl
two_begins T.Item fails = refl
two_begins its_word fails = absurd (cc fails)

pub left_within : (its_word : TwoWord) → looseness_on_left its_word ≤ looseness_of its_word
left_within T.Or = omega arith
left_within its_word = omega arith

-- no prefix at most so loose begins with that mark
abbrev pub Unlike : Mark → ℕ → Type 0
Unlike a_mark loose = (its_word : OneWord) → is_prefix its_word ≡ true → looseness_of_one its_word ≤ loose
    → same a_mark (mark_of_one its_word) ≡ false

module _ (a_mark : Mark) (no_begin : begins a_mark ≡ false) where
  not_first_one : (its_word : OneWord) (expression : Tree) (test : Bool) → is_prefix its_word ≡ test → (tokens_here rest : List Tok)
      → Unlike a_mark (looseness_of_one its_word)
      → form test (sign (mark_of_one its_word) ⨾ at_most (looseness_of_one its_word) expression (Spells expression))
      (sign (mark_of_one its_word) ⨾ sign M.LeftParen ⨾ Spells expression ⨾ sign M.RightParen) tokens_here rest
      → behind a_mark tokens_here ≡ None
  not_first_one its_word expression true is_form tokens_here rest unlike spells =
      not_here a_mark (mark_of_one its_word) tokens_here spells.0 (unlike its_word is_form (omega arith)) spells.1
  not_first_one its_word expression false is_form tokens_here rest unlike spells =
      not_here a_mark (mark_of_one its_word) tokens_here spells.0
      (apart a_mark (mark_of_one its_word) no_begin (one_begins its_word is_form)) spells.1

  not_first_two : (its_word : TwoWord) (left right : Tree) (test : Bool) → is_operator its_word ≡ test → (tokens_here rest : List Tok)
      → Unlike a_mark (looseness_of its_word)
      → ((further left_over : List Tok) → Unlike a_mark (looseness left) → Spells left further left_over → behind a_mark further ≡ None)
      → form test
      (at_most (looseness_on_left its_word) left (Spells left) ⨾ sign (mark_of its_word)
      ⨾ at_most (looseness_of its_word - 1) right (Spells right))
      (sign (mark_of its_word) ⨾ sign M.LeftParen ⨾ Spells left ⨾ sign M.Comma ⨾ Spells right ⨾ sign M.RightParen) tokens_here rest
      → behind a_mark tokens_here ≡ None
  not_first_two its_word left right true is_form tokens_here rest unlike go spells = let left_tight = spells.1.0 in
      let left_bound = left_within its_word in go tokens_here spells.0 (λ any_word i no_more. unlike any_word i (omega arith)) spells.1.1
  not_first_two its_word left right false is_form tokens_here rest unlike go spells =
      not_here a_mark (mark_of its_word) tokens_here spells.0 (apart a_mark (mark_of its_word) no_begin (two_begins its_word is_form)) spells.1

  pub not_first : (expression : Tree) (tokens_here rest : List Tok) → Unlike a_mark (looseness expression) → Spells expression tokens_here rest
      → behind a_mark tokens_here ≡ None
  not_first (literal number None) tokens_here rest unlike spells = not_digits a_mark number tokens_here rest spells
  not_first (literal number (Some unit)) tokens_here rest unlike spells = not_digits a_mark number tokens_here spells.0 spells.1
  not_first (truth is_so) tokens_here rest unlike spells =
      not_here a_mark (mark_of_truth is_so) tokens_here rest (apart a_mark (mark_of_truth is_so) no_begin (truth_begins is_so)) spells
  not_first now tokens_here rest unlike spells = not_here a_mark M.Now tokens_here rest (apart a_mark M.Now no_begin refl) spells
  not_first (slot object slot_name) tokens_here rest unlike spells = not_word a_mark object tokens_here spells.0 spells.1
  not_first (name its_name) tokens_here rest unlike spells = not_word a_mark its_name tokens_here rest spells
  not_first (call function_name arguments) tokens_here rest unlike spells = not_word a_mark function_name tokens_here spells.0 spells.1
  not_first (brackets inside) tokens_here rest unlike spells =
      not_here a_mark M.LeftParen tokens_here spells.0 (apart a_mark M.LeftParen no_begin refl) spells.1
  not_first (list no_trees) tokens_here rest unlike spells = absurd spells
  not_first (list (tree first more)) tokens_here rest unlike spells =
      not_here a_mark M.LeftBrace tokens_here spells.0 (apart a_mark M.LeftBrace no_begin refl) spells.1
  not_first (choice condition if_true if_false) tokens_here rest unlike spells =
      not_here a_mark M.If tokens_here spells.0 (apart a_mark M.If no_begin refl) spells.1
  not_first (bind new_name value_tree body) tokens_here rest unlike spells =
      not_here a_mark M.Let tokens_here spells.0 (apart a_mark M.Let no_begin refl) spells.1
  not_first (each item_name source total_name initial body) tokens_here rest unlike spells =
      not_here a_mark M.For tokens_here spells.0 (apart a_mark M.For no_begin refl) spells.1
  not_first (mapped item_name source body) tokens_here rest unlike spells =
      not_here a_mark M.Map tokens_here spells.0 (apart a_mark M.Map no_begin refl) spells.1
  not_first (one its_word operand) tokens_here rest unlike spells =
      not_first_one its_word operand (is_prefix its_word) refl tokens_here rest unlike spells
  not_first (two its_word left right) tokens_here rest unlike spells =
      not_first_two its_word left right (is_operator its_word) refl tokens_here rest unlike
      (λ further left_over is_form left_spells. not_first left further left_over is_form left_spells) spells
  not_first (convert its_word object operand) tokens_here rest unlike spells =
      not_here a_mark (mark_of_convert its_word) tokens_here spells.0
      (apart a_mark (mark_of_convert its_word) no_begin (convert_begins its_word)) spells.1
  not_first (at slot_tree date) tokens_here rest unlike spells = let left_tight = spells.1.0 in
      not_first slot_tree tokens_here spells.0 (λ w is_form no_more. unlike w is_form (omega arith)) spells.1.1
