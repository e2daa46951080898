-- Tokens, with no place in memory.
use denote.Enum.Bare.{sameb}
use Rattle.std.specs.Prelude.{◌-◌, ℕ, ℤ, Bool, List, take, drop, map}
use Rattle.rpl_parse.specs.declared.token.Mark.{Mark}
use Rattle.rpl_parse.specs.contracts.token.Mark.{the_type}
use Rattle.rpl_parse.specs.declared.token.Span.{Span}
use Rattle.rpl_parse.specs.declared.token.Token.{Token}
use Rattle.rpl_parse.specs.declared.token.TokenAt.{TokenAt}

-- a reserved word or mark, another word, a number, or a string
pub data Tok : Type 0 where
  mark : Mark → Tok
  word : List ℕ → Tok
  digits : ℤ → Tok
  text : List ℕ → Tok

-- a token, and the line in which it begins
pub record Lined : Type 0 where
  pub tok : Tok
  pub line : ℕ

abbrev pub lined : Tok → ℕ → Lined
lined t n = record { tok = t; line = n }

-- the bytes of a text from a place up to another
abbrev pub bytes_in : List ℕ → Span → List ℕ
bytes_in source s = take (s.end - s.start) (drop s.start source)

-- what the code's tokens stand for
abbrev pub token_seen : List ℕ → Token → Tok
token_seen source (Token.Mark m) = mark m
token_seen source (Token.Name s) = word (bytes_in source s)
token_seen source (Token.Number z) = digits z
token_seen source (Token.Text s) = text (bytes_in source s)

abbrev pub lined_of : List ℕ → TokenAt → Lined
lined_of source t = lined (token_seen source t.token) t.line

abbrev pub toks : List ℕ → List TokenAt → List Tok
toks source ts = map (λ (t : TokenAt). token_seen source t.token) ts

-- `==` on marks
abbrev pub same : Mark → Mark → Bool
same m n = sameb the_type m n
