-- Within the crate: a text is read declaration by declaration, from a place on.
use Rattle.std.specs.Prelude.{◌≡◌, ◌≤◌, ◌<◌, ◌+◌, ◌++◌, ◌⊎◌, ℕ, true, false, List, [], ◌∷◌, length, map, drop, Option, Some, None, IfSome, Result, Ok, Err}
use Rattle.rpl_tree.specs.Seen.{declared_of}
use Rattle.rpl_tree.specs.declared.rules.Declaration.{Declaration}
use Rattle.rpl_parse.specs.declared.fault.ParseFault.{ParseFault}
use Rattle.rpl_parse.specs.declared.fault.ParseFault.TheVariants.{BadToken, NoMemory}
use Rattle.rpl_parse.specs.declared.scan.Place.{Place}
use Rattle.rpl_parse.specs.declared.scan.ScanStop.{ScanStop}
use Rattle.rpl_parse.specs.declared.scan.ScanStop.TheVariants as S
use Rattle.rpl_parse.specs.declared.token.TokenAt.{TokenAt}
use Rattle.rpl_parse.specs.Tokens.{Lined, lined_of, toks}
use Rattle.rpl_parse.specs.Scan.{Scanned, all, bad_at, led_by, scan}
use Rattle.rpl_parse.specs.Declarations.{GrammarRefusal, bad_token, bad_declaration, too_many, Piece, piece, pieces, is_full}
use Rattle.rpl_parse.specs.Parsing.{grammar_refusal_of}
use Rattle.rpl_parse.specs.ReadingDeclared.{read_declared}

pub record IsPlaceIn (source : List ℕ) (place : Place) : Type 0 where
  pub inside : place.at ≤ length source
  pub line : place.line ≤ place.at + 1

-- the tokens from a place on
abbrev pub scanned_at : List ℕ → Place → Scanned
scanned_at source place = scan 0 place.line (drop place.at source)

abbrev pub first_line : List TokenAt → ℕ
first_line [] = 0
first_line (t ∷ ts) = t.line

-- these tokens are those of the first declaration, if there are any
pub record TakesTokens (source : List ℕ) (ts : List TokenAt) (before behind : Scanned) : Type 0 where
  pub read : before ≡ led_by (map (lined_of source) ts) behind
  pub cut : 0 < length ts → (us : List Lined) → behind ≡ all us
      → pieces (map (lined_of source) ts ++ us) ≡ piece (toks source ts) (first_line ts) ∷ pieces us
  pub spent : length ts ≡ 0 → behind ≡ all []

abbrev pub TakesUp : List ℕ → List TokenAt → Result Place ScanStop → Scanned → Type 0
TakesUp source ts (Ok place) before = TakesTokens source ts before (scanned_at source place)
TakesUp source ts (Err (S.BadToken line)) before = before ≡ bad_at line
TakesUp source ts (Err S.NoMemory) before = Unit {0}

abbrev pub scan_fault : ScanStop → ParseFault
scan_fault (S.BadToken line) = BadToken line
scan_fault S.NoMemory = NoMemory

-- a bad token further on is refused before a declaration is
abbrev pub IsRefusedFirst : Scanned → Option GrammarRefusal → GrammarRefusal → Type 0
IsRefusedFirst (all ts) why refusal = why ≡ Some refusal
IsRefusedFirst (bad_at line) why refusal = refusal ≡ bad_token line

abbrev pub IsRefusedAs : List ℕ → ℕ → ℕ → ℕ → List TokenAt → GrammarRefusal → Type 0
IsRefusedAs source k rules functions ts refusal =
    ((is_full (toks source ts) rules functions ≡ true) × (refusal ≡ too_many k))
    ⊎ ((is_full (toks source ts) rules functions ≡ false) × (read_declared (toks source ts) ≡ None) × (refusal ≡ bad_declaration k (first_line ts)))

-- the declaration of these tokens, which is number k behind so many rules and functions, or why there is none
abbrev pub Judges : List ℕ → ℕ → ℕ → ℕ → List TokenAt → Result Declaration ParseFault → Type 0
Judges source k rules functions ts (Ok d) =
    (is_full (toks source ts) rules functions ≡ false) × (read_declared (toks source ts) ≡ Some (declared_of d))
Judges source k rules functions ts (Err fault) = IfSome (grammar_refusal_of fault) (IsRefusedAs source k rules functions ts)
