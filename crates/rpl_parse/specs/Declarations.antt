-- What a text is: where its declarations are cut, and the ruleset that it spells or the refusal that is due.
use Rattle.std.specs.Prelude.{◌≡◌, ◌≤◌, ◌+◌, ◌==◌, ◌⊎◌, ◌++◌, ℕ, List, [], ◌∷◌, length, Bool, true, false, if◌then◌else◌, Result, Ok, Err}
use Rattle.rw_base.specs.declared.limits.TheConstants.{RULES_MAX, TEXT_MAX}
use Rattle.rpl_tree.specs.Tree.{Declared}
use Rattle.rpl_tree.specs.Seen.{rules_of}
use Rattle.rpl_tree.specs.declared.rules.ParsedRules.{ParsedRules}
use Rattle.rpl_parse.specs.declared.token.Mark.TheVariants as M
use Rattle.rpl_parse.specs.Tokens.{Tok, mark, Lined}
use Rattle.rpl_parse.specs.Scan.{Scanned, all, bad_at, tokens}
use Rattle.rpl_parse.specs.Statements.{IsDeclaration}

-- the tokens that are judged as one declaration, and the line of the first
pub record Piece : Type 0 where
  pub toks : List Tok
  pub line : ℕ

abbrev pub piece : List Tok → ℕ → Piece
piece ts n = record { toks = ts; line = n }

abbrev pub is_end : Tok → Bool
is_end (mark M.EndRule) = true
is_end (mark M.EndFunction) = true
is_end _ = false

-- a token before the pieces that follow belongs to the first of them
abbrev pub token_joined : Lined → List Piece → List Piece
token_joined t [] = piece (t.tok ∷ []) t.line ∷ []
token_joined t (p ∷ ps) = piece (t.tok ∷ p.toks) t.line ∷ ps

-- the tokens are cut behind each ENDRULE and ENDFUNCTION
abbrev pub pieces : List Lined → List Piece
pieces [] = []
pieces (t ∷ ts) = if is_end t.tok then piece (t.tok ∷ []) t.line ∷ pieces ts else token_joined t (pieces ts)

-- what a declaration begins as
abbrev pub begins_rule : List Tok → Bool
begins_rule (mark M.Rule ∷ ts) = true
begins_rule _ = false

abbrev pub begins_function : List Tok → Bool
begins_function (mark M.Function ∷ ts) = true
begins_function _ = false

abbrev pub one_more_if : Bool → ℕ → ℕ
one_more_if true n = n + 1
one_more_if false n = n

-- a rule behind 200 that began as rules, or a function behind 200
abbrev pub is_full : List Tok → ℕ → ℕ → Bool
is_full ts rules functions = if begins_rule ts then rules == RULES_MAX else (if begins_function ts then functions == RULES_MAX else false)

-- why a text is no ruleset: the line of a bad token; a declaration that isn't one, and its line; one too many
pub data GrammarRefusal : Type 0 where
  bad_token : ℕ → GrammarRefusal
  bad_declaration : ℕ → ℕ → GrammarRefusal
  too_many : ℕ → GrammarRefusal

-- what is due for a text: the ruleset that it spells, or why it spells none
abbrev pub Due : Type 0
Due = Result (List Declared) GrammarRefusal

-- What is due for the declarations from number k on, behind so many rules and functions, and those that were read. It goes by the
-- first that is refused.
abbrev pub IsDue : ℕ → ℕ → ℕ → List Declared → List Piece → Due → Type 0
IsDue k rules functions before [] due = due ≡ Ok before
IsDue k rules functions before (p ∷ ps) due =
    ((is_full p.toks rules functions ≡ true) × (due ≡ Err (too_many k)))
    ⊎ ((is_full p.toks rules functions ≡ false) × ((d : Declared) → IsDeclaration p.toks d → ⊥) × (due ≡ Err (bad_declaration k p.line)))
    ⊎ ((is_full p.toks rules functions ≡ false) × ((d : Declared) × IsDeclaration p.toks d
    × IsDue (k + 1) (one_more_if (begins_rule p.toks) rules) (one_more_if (begins_function p.toks) functions) (before ++ d ∷ []) ps due))

-- all tokens are judged before any declaration
abbrev pub IsDueOf : Scanned → Due → Type 0
IsDueOf (all ts) due = IsDue 1 0 0 [] (pieces ts) due
IsDueOf (bad_at line) due = due ≡ Err (bad_token line)

-- what a text is read as
abbrev pub IsReading : List ℕ → Due → Type 0
IsReading source due = IsDueOf (tokens source) due

-- each text is read as something
abbrev pub some_reading : Type 0
some_reading = (source : List ℕ) → (due : Due) × IsReading source due

-- what a text is read as is one thing
abbrev pub one_reading : Type 0
one_reading = (source : List ℕ) (a b : Due) → IsReading source a → IsReading source b → a ≡ b

-- the rules of some text that a file can hold
abbrev pub IsRuleset : ParsedRules → Type 0
IsRuleset rules = (source : List ℕ) × (length source ≤ TEXT_MAX) × IsReading source (Ok (rules_of rules))
