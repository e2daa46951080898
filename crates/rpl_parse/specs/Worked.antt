-- Worked tokens, and the trees that they spell.
use Rattle.std.specs.Prelude.{ℕ, pos, codes, None, List, [], ◌∷◌, ◌++◌, map}
use Rattle.rpl_tree.specs.declared.words.OneWord.TheVariants as O
use Rattle.rpl_tree.specs.declared.words.TwoWord.TheVariants as T
use Rattle.rpl_tree.specs.Tree.{Tree, literal, name, now, one, two, at, Declared, rule, assign, no_acts, act}
use Rattle.rpl_parse.specs.declared.token.Mark.{Mark}
use Rattle.rpl_parse.specs.declared.token.Mark.TheVariants as M
use Rattle.rpl_parse.specs.Tokens.{Tok, mark, word, digits, text, lined}
use Rattle.rpl_parse.specs.Scan.{Scanned, all}

abbrev pub number_token : ℕ → Tok
number_token n = digits (pos n)

abbrev pub whole_number : ℕ → Tree
whole_number n = literal (pos n) None

-- ---- tokens

-- these marks, all of them in line 1
abbrev pub marked : List Mark → Scanned
marked marks = all (map (λ m. lined (mark m) 1) marks)

-- all reserved words, as they are written, and as tokens
abbrev pub every_word : List ℕ
every_word =
    codes "RULE ENDRULE FUNCTION ENDFUNCTION IS IF THEN ELSE ENDIF WITH DO ENDWITH LET IN ENDLET FOR ENDFOR MAP ENDMAP "
    ++ codes "AND OR NOT TRUE FALSE KNOWN APPEND ITEM LENGTH MONTH DAY YEAR StorageToElevation ElevationToStorage "
    ++ codes "NUMERIC BOOLEAN DATETIME SLOT LIST OF t"

abbrev pub word_marks : List Mark
word_marks = M.Rule ∷ M.EndRule ∷ M.Function ∷ M.EndFunction ∷ M.Is ∷ M.If ∷ M.Then ∷ M.Else ∷ M.EndIf ∷ M.With ∷ M.Do ∷ M.EndWith ∷ M.Let ∷ M.In
    ∷ M.EndLet ∷ M.For ∷ M.EndFor ∷ M.Map ∷ M.EndMap ∷ M.And ∷ M.Or ∷ M.Not ∷ M.True ∷ M.False ∷ M.Known ∷ M.Append ∷ M.Item ∷ M.Length ∷ M.Month
    ∷ M.Day ∷ M.Year ∷ M.StorageToElevation ∷ M.ElevationToStorage ∷ M.Numeric ∷ M.Boolean ∷ M.Datetime ∷ M.Slot ∷ M.List ∷ M.Of ∷ M.Now ∷ []

-- all other marks, as they are written, and as tokens
abbrev pub every_sign : List ℕ
every_sign = codes ":= : ; , . ( ) { } [ ] + - * / = <> < <= > >="

abbrev pub sign_marks : List Mark
sign_marks = M.Assign ∷ M.Colon ∷ M.Semicolon ∷ M.Comma ∷ M.Dot ∷ M.LeftParen ∷ M.RightParen ∷ M.LeftBrace ∷ M.RightBrace ∷ M.LeftBracket
    ∷ M.RightBracket ∷ M.Plus ∷ M.Minus ∷ M.Times ∷ M.Divide ∷ M.Equal ∷ M.Unequal ∷ M.Less ∷ M.LessEqual ∷ M.Greater ∷ M.GreaterEqual ∷ []

-- ---- trees

-- `1 - 2 - 3`, and what it spells
abbrev pub differences : List Tok
differences = number_token 1 ∷ mark M.Minus ∷ number_token 2 ∷ mark M.Minus ∷ number_token 3 ∷ []

abbrev pub from_the_left : Tree
from_the_left = two T.Minus (two T.Minus (whole_number 1) (whole_number 2)) (whole_number 3)

-- `NOT a AND b OR c`
abbrev pub logical : List Tok
logical = mark M.Not ∷ word (codes "a") ∷ mark M.And ∷ word (codes "b") ∷ mark M.Or ∷ word (codes "c") ∷ []

abbrev pub or_last : Tree
or_last = two T.Or (two T.And (one O.Not (name (codes "a"))) (name (codes "b"))) (name (codes "c"))

-- `a OR NOT b < c + d * - e[t]`, where each level stands in the next looser one, on its right
abbrev pub levels : List Tok
levels = word (codes "a") ∷ mark M.Or ∷ mark M.Not ∷ word (codes "b") ∷ mark M.Less ∷ word (codes "c") ∷ mark M.Plus ∷ word (codes "d") ∷ mark M.Times
    ∷ mark M.Minus ∷ word (codes "e") ∷ mark M.LeftBracket ∷ mark M.Now ∷ mark M.RightBracket ∷ []

abbrev pub tighter_right : Tree
tighter_right = two T.Or (name (codes "a")) (one O.Not (two T.Less (name (codes "b"))
    (two T.Plus (name (codes "c")) (two T.Times (name (codes "d")) (one O.Minus (at (name (codes "e")) now))))))

-- `- a[t] * b + c < d AND e OR f`, and on its left
abbrev pub chain_tokens : List Tok
chain_tokens = mark M.Minus ∷ word (codes "a") ∷ mark M.LeftBracket ∷ mark M.Now ∷ mark M.RightBracket ∷ mark M.Times ∷ word (codes "b") ∷ mark M.Plus
    ∷ word (codes "c") ∷ mark M.Less ∷ word (codes "d") ∷ mark M.And ∷ word (codes "e") ∷ mark M.Or ∷ word (codes "f") ∷ []

abbrev pub tighter_left : Tree
tighter_left = two T.Or (two T.And (two T.Less (two T.Plus (two T.Times (one O.Minus (at (name (codes "a")) now)) (name (codes "b"))) (name (codes "c")))
    (name (codes "d"))) (name (codes "e"))) (name (codes "f"))

-- `RULE "a": D.X[t] :=` value `; ENDRULE`
abbrev pub setting : List Tok → List Tok
setting value = mark M.Rule ∷ text (codes "a") ∷ mark M.Colon ∷ word (codes "D") ∷ mark M.Dot ∷ word (codes "X") ∷ mark M.LeftBracket ∷ mark M.Now
    ∷ mark M.RightBracket ∷ mark M.Assign ∷ (value ++ mark M.Semicolon ∷ mark M.EndRule ∷ [])

abbrev pub set_to : Tree → Declared
set_to value = rule (codes "a") (act (assign (codes "D") (codes "X") (pos 0) value) no_acts)

-- `1 < 2 < 3`
abbrev pub comparisons : List Tok
comparisons = number_token 1 ∷ mark M.Less ∷ number_token 2 ∷ mark M.Less ∷ number_token 3 ∷ []
