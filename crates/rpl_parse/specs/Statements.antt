-- GRAMMAR, second part: which tokens spell which statements and declarations.
use Rattle.std.specs.Prelude.{◌≡◌, ◌≤◌, ◌⊎◌, ℤ, pos, List, [], ◌∷◌}
use Rattle.rw_base.specs.declared.limits.TheConstants.{DEPTH_MAX}
use Rattle.rpl_tree.specs.Tree.{TypeName, numeric, boolean, datetime, slot_type, numeric_list, slot_list, Act, Acts, assign, branch, with_name, no_acts, act, Parameter, Declared, rule, function}
use Rattle.rpl_parse.specs.declared.token.Mark.TheVariants as M
use Rattle.rpl_parse.specs.Tokens.{Tok, word, digits, text}
use Rattle.rpl_tree.specs.Depth.{declared_depth}
use Rattle.rpl_parse.specs.Grammar.{Part, ◌⨾◌, token, nothing, sign, Spells}

-- one part or another
infixr 15 ◌or◌
abbrev pub ◌or◌ : Part → Part → Part
(p or q) ts rest = p ts rest ⊎ q ts rest

-- a part that is left out stands for 0
abbrev pub if_zero : ℤ → Part
if_zero z ts rest = (z ≡ pos 0) × (ts ≡ rest)

-- a part that is left out stands for no statements
abbrev pub if_none : Acts → Part
if_none no_acts ts rest = ts ≡ rest
if_none (act a more) ts rest = ⊥

abbrev mutual
  pub SpellsAct : Act → Part
  SpellsAct (assign o s ahead e) = token (word o) ⨾ sign M.Dot ⨾ token (word s) ⨾ sign M.LeftBracket ⨾ sign M.Now
      ⨾ (if_zero ahead or (sign M.Plus ⨾ token (digits ahead))) ⨾ sign M.RightBracket ⨾ sign M.Assign ⨾ Spells e ⨾ sign M.Semicolon
  SpellsAct (branch c first second) = sign M.If ⨾ Spells c ⨾ sign M.Then ⨾ SpellsActs first
      ⨾ (if_none second or (sign M.Else ⨾ SpellsActs second)) ⨾ sign M.EndIf
  SpellsAct (with_name x e body) = sign M.With ⨾ token (word x) ⨾ sign M.Assign ⨾ Spells e ⨾ sign M.Do ⨾ SpellsActs body ⨾ sign M.EndWith

  pub SpellsActs : Acts → Part
  SpellsActs no_acts = nothing
  SpellsActs (act a more) = SpellsAct a ⨾ SpellsActs more

abbrev pub SpellsType : TypeName → Part
SpellsType (numeric u) = sign M.Numeric ⨾ token (text u)
SpellsType boolean = sign M.Boolean
SpellsType datetime = sign M.Datetime
SpellsType (slot_type u) = sign M.Slot ⨾ token (text u)
SpellsType (numeric_list m u) = sign M.List ⨾ token (digits m) ⨾ sign M.Of ⨾ sign M.Numeric ⨾ token (text u)
SpellsType (slot_list m u) = sign M.List ⨾ token (digits m) ⨾ sign M.Of ⨾ sign M.Slot ⨾ token (text u)

abbrev pub SpellsParameter : Parameter → Part
SpellsParameter p = SpellsType p.of_type ⨾ token (word p.name)

-- parameters parted by commas
abbrev pub SpellsMoreParameters : List Parameter → Part
SpellsMoreParameters [] = nothing
SpellsMoreParameters (p ∷ ps) = sign M.Comma ⨾ SpellsParameter p ⨾ SpellsMoreParameters ps

abbrev pub SpellsParameters : List Parameter → Part
SpellsParameters [] = nothing
SpellsParameters (p ∷ ps) = SpellsParameter p ⨾ SpellsMoreParameters ps

abbrev pub SpellsDeclared : Declared → Part
SpellsDeclared (rule called_so body) = sign M.Rule ⨾ token (text called_so) ⨾ sign M.Colon ⨾ SpellsActs body ⨾ sign M.EndRule
SpellsDeclared (function called_so params result body) = sign M.Function ⨾ token (word called_so) ⨾ sign M.LeftParen ⨾ SpellsParameters params
    ⨾ sign M.RightParen ⨾ sign M.Colon ⨾ SpellsType result ⨾ sign M.Is ⨾ Spells body ⨾ sign M.EndFunction

-- GRAMMAR: all these tokens spell a declaration that is at most 100 deep
abbrev pub IsDeclaration : List Tok → Declared → Type 0
IsDeclaration ts d = SpellsDeclared d ts [] × (declared_depth d ≤ DEPTH_MAX)
