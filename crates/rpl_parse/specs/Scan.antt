-- The tokens of a text: from each place the longest, and the line in which each begins.
use Rattle.std.specs.Prelude.{◌==◌, ◌+◌, ◌-◌, ◌*◌, ◌++◌, ◌||◌, ℕ, zero, suc, pos, Bool, true, false, if◌then◌else◌, leb, codes, nat_eq, Option, Some, None, List, [], ◌∷◌, take, drop}
use Rattle.std.specs.Cmp.Lexicographic.{pointwise}
use Rattle.rpl_parse.specs.declared.token.Mark.{Mark}
use Rattle.rpl_parse.specs.declared.token.Mark.TheVariants as M
use Rattle.rpl_parse.specs.declared.class.Class.{Class}
use Rattle.rpl_parse.specs.declared.class.Class.TheVariants as C
use Rattle.rpl_parse.specs.Tokens.{Tok, mark, word, digits, text, Lined, lined}
use Rattle.rw_base.specs.Byte.{is_digit, is_letter}
use Rattle.rpl_parse.specs.declared.front.TheConstants.{GREATEST}

abbrev pub is_blank : ℕ → Bool
is_blank b = b == 32 || b == 9 || b == 13 || b == 10

abbrev pub is_of : Class → ℕ → Bool
is_of C.Digit b = is_digit b
is_of C.WordByte b = is_letter b || is_digit b
is_of C.OfLine b = if b == 10 then false else true
is_of C.Quoted b = if b == 34 then false else (if b == 10 then false else true)

-- how many bytes at the front are of a class
abbrev pub run : Class → List ℕ → ℕ
run c [] = 0
run c (b ∷ bs) = if is_of c b then suc (run c bs) else 0

-- what digits stand for, behind others that stand for n
abbrev pub number_of : ℕ → List ℕ → ℕ
number_of n [] = n
number_of n (b ∷ bs) = number_of (10 * n + (b - 48)) bs

-- the greatest number, Q
abbrev pub greatest : ℕ
greatest = GREATEST

abbrev pub declaration_words : List (List ℕ × Mark)
declaration_words = (codes "RULE", M.Rule) ∷ (codes "ENDRULE", M.EndRule) ∷ (codes "FUNCTION", M.Function) ∷ (codes "ENDFUNCTION", M.EndFunction) ∷ (codes "IS", M.Is) ∷ (codes "NUMERIC", M.Numeric) ∷ (codes "BOOLEAN", M.Boolean) ∷ (codes "DATETIME", M.Datetime) ∷ (codes "SLOT", M.Slot) ∷ (codes "LIST", M.List) ∷ (codes "OF", M.Of) ∷ (codes "t", M.Now) ∷ []

abbrev pub block_words : List (List ℕ × Mark)
block_words = (codes "IF", M.If) ∷ (codes "THEN", M.Then) ∷ (codes "ELSE", M.Else) ∷ (codes "ENDIF", M.EndIf) ∷ (codes "WITH", M.With) ∷ (codes "DO", M.Do) ∷ (codes "ENDWITH", M.EndWith) ∷ (codes "LET", M.Let) ∷ (codes "IN", M.In) ∷ (codes "ENDLET", M.EndLet) ∷ (codes "FOR", M.For) ∷ (codes "ENDFOR", M.EndFor) ∷ (codes "MAP", M.Map) ∷ (codes "ENDMAP", M.EndMap) ∷ []

abbrev pub words_of_values : List (List ℕ × Mark)
words_of_values = (codes "AND", M.And) ∷ (codes "OR", M.Or) ∷ (codes "NOT", M.Not) ∷ (codes "TRUE", M.True) ∷ (codes "FALSE", M.False) ∷ (codes "KNOWN", M.Known) ∷ (codes "APPEND", M.Append) ∷ (codes "ITEM", M.Item) ∷ (codes "LENGTH", M.Length) ∷ (codes "MONTH", M.Month) ∷ (codes "DAY", M.Day) ∷ (codes "YEAR", M.Year) ∷ (codes "StorageToElevation", M.StorageToElevation) ∷ (codes "ElevationToStorage", M.ElevationToStorage) ∷ []

abbrev pub look_up : List (List ℕ × Mark) → List ℕ → Option Mark
look_up [] w = None
look_up (entry ∷ more) w = if pointwise nat_eq w entry.0 then Some entry.1 else look_up more w

abbrev pub mark_or_else : Option Mark → Option Mark → Option Mark
mark_or_else None other = other
mark_or_else (Some m) other = Some m

-- the mark of a reserved word
abbrev pub reserved : List ℕ → Option Mark
reserved w = mark_or_else (look_up declaration_words w) (mark_or_else (look_up block_words w) (look_up words_of_values w))

-- what stands at the front: what parts tokens, of so many bytes, or a token, or neither
pub data Front : Type 0 where
  gap : ℕ → Front
  token : Tok → ℕ → Front
  bad : Front

-- at most 18 digits, and at most Q
abbrev pub number_front : ℕ → List ℕ → Front
number_front n bs = if leb n 18 then (if leb (number_of 0 (take n bs)) greatest then token (digits (pos (number_of 0 (take n bs)))) n else bad) else bad

-- whether that byte is at the front
abbrev pub head_is : ℕ → List ℕ → Bool
head_is c [] = false
head_is c (b ∷ bs) = b == c

-- behind a quote: n bytes, and a quote again
abbrev pub quoted_front : ℕ → List ℕ → Front
quoted_front n bs = if head_is 34 (drop n bs) then token (text (take n bs)) (n + 2) else bad

abbrev pub word_or : Option Mark → List ℕ → Tok
word_or None w = word w
word_or (Some m) w = mark m

abbrev pub word_front : ℕ → List ℕ → Front
word_front n bs = token (word_or (reserved (take n bs)) (take n bs)) n

-- a mark of one byte that no longer mark begins with
abbrev pub single : ℕ → Option Mark
single b = if b == 59 then Some M.Semicolon else
    if b == 44 then Some M.Comma else
    if b == 46 then Some M.Dot else
    if b == 40 then Some M.LeftParen else
    if b == 41 then Some M.RightParen else
    if b == 123 then Some M.LeftBrace else
    if b == 125 then Some M.RightBrace else
    if b == 91 then Some M.LeftBracket else
    if b == 93 then Some M.RightBracket else
    if b == 43 then Some M.Plus else
    if b == 45 then Some M.Minus else
    if b == 42 then Some M.Times else
    if b == 47 then Some M.Divide else
    if b == 61 then Some M.Equal else None

abbrev pub or_bad : Option Mark → Front
or_bad None = bad
or_bad (Some m) = token (mark m) 1

abbrev pub short_or_long : Mark → Mark → Bool → Front
short_or_long short long true = token (mark long) 2
short_or_long short long false = token (mark short) 1

abbrev pub mark_front : ℕ → List ℕ → Front
mark_front b bs = if b == 58 then short_or_long M.Colon M.Assign (head_is 61 bs) else
    if b == 60 then (if head_is 62 bs then token (mark M.Unequal) 2 else short_or_long M.Less M.LessEqual (head_is 61 bs)) else
    if b == 62 then short_or_long M.Greater M.GreaterEqual (head_is 61 bs) else or_bad (single b)

abbrev pub front : List ℕ → Front
front [] = bad
front (b ∷ bs) = if is_blank b then gap 1 else
    if b == 35 then gap (run C.OfLine bs + 1) else
    if is_letter b then word_front (run C.WordByte bs + 1) (b ∷ bs) else
    if is_digit b then number_front (run C.Digit bs + 1) (b ∷ bs) else
    if b == 34 then quoted_front (run C.Quoted bs) bs else mark_front b bs

-- the tokens with their lines, or the line of the first place that has none
pub data Scanned : Type 0 where
  all : List Lined → Scanned
  bad_at : ℕ → Scanned

-- with tokens before
abbrev pub led_by : List Lined → Scanned → Scanned
led_by ts (all us) = all (ts ++ us)
led_by ts (bad_at line) = bad_at line

-- no token goes over the end of a line, so only a gap can begin with a line feed
abbrev pub line_behind : ℕ → List ℕ → ℕ
line_behind line bs = if head_is 10 bs then line + 1 else line

abbrev pub by_front : Front → Scanned → (ℕ → Scanned) → (Tok → ℕ → Scanned) → Scanned
by_front bad stop skip take_up = stop
by_front (gap n) stop skip take_up = skip n
by_front (token t n) stop skip take_up = take_up t n

-- the tokens from a line on, where so many bytes at the front belong to what was read before
unfoldable pub scan : ℕ → ℕ → List ℕ → Scanned
scan skip line [] = all []
scan (suc k) line (b ∷ bs) = scan k line bs
scan zero line (b ∷ bs) = by_front (front (b ∷ bs)) (bad_at line)
    (λ n. scan (n - 1) (line_behind line (b ∷ bs)) bs)
    (λ t n. led_by (lined t line ∷ []) (scan (n - 1) line bs))

-- TOKENS
abbrev pub tokens : List ℕ → Scanned
tokens source = scan 0 1 source
