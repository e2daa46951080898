-- GRAMMAR, first part: which tokens spell which expression, one case for each form, and a number for how loosely it holds
-- together.
use Rattle.std.specs.Prelude.{◌≡◌, ◌≤◌, ◌-◌, ℕ, Bool, true, false, Some, None, List, ◌∷◌}
use Rattle.rpl_tree.specs.declared.words.OneWord.{OneWord}
use Rattle.rpl_tree.specs.declared.words.OneWord.TheVariants as O
use Rattle.rpl_tree.specs.declared.words.TwoWord.{TwoWord}
use Rattle.rpl_tree.specs.declared.words.TwoWord.TheVariants as T
use Rattle.rpl_tree.specs.declared.words.ConvertWord.{ConvertWord}
use Rattle.rpl_tree.specs.declared.words.ConvertWord.TheVariants as C
use Rattle.rpl_tree.specs.Tree.{Tree, Trees, literal, truth, now, slot, name, call, brackets, list, choice, bind, each, mapped, one as one_of, two, convert, at, no_trees, tree}
use Rattle.rpl_parse.specs.declared.token.Mark.{Mark}
use Rattle.rpl_parse.specs.declared.token.Mark.TheVariants as M
use Rattle.rpl_parse.specs.Tokens.{Tok, mark, word, digits, text}

-- what stands at the front of some tokens, and which tokens are left behind it
abbrev pub Part : Type 1
Part = List Tok → List Tok → Type 0

-- one part, and then another
infixr 20 ◌⨾◌
abbrev pub ◌⨾◌ : Part → Part → Part
(p ⨾ q) ts rest = (mid : List Tok) × p ts mid × q mid rest

abbrev pub token : Tok → Part
token x ts rest = ts ≡ x ∷ rest

abbrev pub nothing : Part
nothing ts rest = ts ≡ rest

abbrev pub sign : Mark → Part
sign m = token (mark m)

-- one form or the other
abbrev pub form : Bool → Part → Part → Part
form true p q = p
form false p q = q

-- How loosely an expression holds together: 0 is a primary or postfix form, 1 a minus, 2 a product, 3 a sum, 4 a comparison,
-- 5 a NOT, 6 an AND, 7 an OR.
abbrev pub looseness_of_one : OneWord → ℕ
looseness_of_one O.Not = 5
looseness_of_one O.Minus = 1
looseness_of_one _ = 0

abbrev pub looseness_of : TwoWord → ℕ
looseness_of T.Or = 7
looseness_of T.And = 6
looseness_of T.Equal = 4
looseness_of T.Unequal = 4
looseness_of T.Less = 4
looseness_of T.LessEqual = 4
looseness_of T.Greater = 4
looseness_of T.GreaterEqual = 4
looseness_of T.Plus = 3
looseness_of T.Minus = 3
looseness_of T.Times = 2
looseness_of T.Divide = 2
looseness_of T.Append = 0
looseness_of T.Item = 0

abbrev pub looseness : Tree → ℕ
looseness (one_of w t) = looseness_of_one w
looseness (two w l r) = looseness_of w
looseness _ = 0

-- words that stand before an expression without brackets, and between two
abbrev pub is_prefix : OneWord → Bool
is_prefix O.Not = true
is_prefix O.Minus = true
is_prefix _ = false

abbrev pub is_operator : TwoWord → Bool
is_operator T.Append = false
is_operator T.Item = false
is_operator _ = true

abbrev pub mark_of_truth : Bool → Mark
mark_of_truth true = M.True
mark_of_truth false = M.False

abbrev pub mark_of_one : OneWord → Mark
mark_of_one O.Not = M.Not
mark_of_one O.Minus = M.Minus
mark_of_one O.Known = M.Known
mark_of_one O.Length = M.Length
mark_of_one O.Month = M.Month
mark_of_one O.Day = M.Day
mark_of_one O.Year = M.Year

abbrev pub mark_of : TwoWord → Mark
mark_of T.Or = M.Or
mark_of T.And = M.And
mark_of T.Equal = M.Equal
mark_of T.Unequal = M.Unequal
mark_of T.Less = M.Less
mark_of T.LessEqual = M.LessEqual
mark_of T.Greater = M.Greater
mark_of T.GreaterEqual = M.GreaterEqual
mark_of T.Plus = M.Plus
mark_of T.Minus = M.Minus
mark_of T.Times = M.Times
mark_of T.Divide = M.Divide
mark_of T.Append = M.Append
mark_of T.Item = M.Item

abbrev pub mark_of_convert : ConvertWord → Mark
mark_of_convert C.StorageToElevation = M.StorageToElevation
mark_of_convert C.ElevationToStorage = M.ElevationToStorage

-- How loose the left side may be: as loose as the whole, since chains associate to the left, but a comparison isn't repeated.
abbrev pub looseness_on_left : TwoWord → ℕ
looseness_on_left T.Equal = 3
looseness_on_left T.Unequal = 3
looseness_on_left T.Less = 3
looseness_on_left T.LessEqual = 3
looseness_on_left T.Greater = 3
looseness_on_left T.GreaterEqual = 3
looseness_on_left w = looseness_of w

-- a part that spells a tree which is at most so loose
abbrev pub at_most : ℕ → Tree → Part → Part
at_most k t p ts rest = (looseness t ≤ k) × p ts rest

abbrev mutual
  pub Spells : Tree → Part
  Spells (literal z None) = token (digits z)
  Spells (literal z (Some u)) = token (digits z) ⨾ token (text u)
  Spells (truth b) = sign (mark_of_truth b)
  Spells now = sign M.Now
  Spells (slot o s) = token (word o) ⨾ sign M.Dot ⨾ token (word s)
  Spells (name x) = token (word x)
  Spells (call f ts) = token (word f) ⨾ sign M.LeftParen ⨾ SpellsList ts ⨾ sign M.RightParen
  Spells (brackets t) = sign M.LeftParen ⨾ Spells t ⨾ sign M.RightParen
  Spells (list no_trees) = λ ts rest. ⊥
  Spells (list (tree t ts)) = sign M.LeftBrace ⨾ Spells t ⨾ SpellsMore ts ⨾ sign M.RightBrace
  Spells (choice c y n) = sign M.If ⨾ Spells c ⨾ sign M.Then ⨾ Spells y ⨾ sign M.Else ⨾ Spells n ⨾ sign M.EndIf
  Spells (bind x e b) = sign M.Let ⨾ token (word x) ⨾ sign M.Assign ⨾ Spells e ⨾ sign M.In ⨾ Spells b ⨾ sign M.EndLet
  Spells (each x l a f b) = sign M.For ⨾ token (word x) ⨾ sign M.In ⨾ Spells l ⨾ sign M.With ⨾ token (word a) ⨾ sign M.Assign ⨾ Spells f
      ⨾ sign M.Do ⨾ Spells b ⨾ sign M.EndFor
  Spells (mapped x l b) = sign M.Map ⨾ token (word x) ⨾ sign M.In ⨾ Spells l ⨾ sign M.Do ⨾ Spells b ⨾ sign M.EndMap
  Spells (one_of w t) = form (is_prefix w) (sign (mark_of_one w) ⨾ at_most (looseness_of_one w) t (Spells t))
      (sign (mark_of_one w) ⨾ sign M.LeftParen ⨾ Spells t ⨾ sign M.RightParen)
  Spells (two w l r) = form (is_operator w)
      (at_most (looseness_on_left w) l (Spells l) ⨾ sign (mark_of w) ⨾ at_most (looseness_of w - 1) r (Spells r))
      (sign (mark_of w) ⨾ sign M.LeftParen ⨾ Spells l ⨾ sign M.Comma ⨾ Spells r ⨾ sign M.RightParen)
  Spells (convert w o t) = sign (mark_of_convert w) ⨾ sign M.LeftParen ⨾ token (word o) ⨾ sign M.Comma ⨾ Spells t ⨾ sign M.RightParen
  Spells (at s d) = at_most 0 s (Spells s) ⨾ sign M.LeftBracket ⨾ Spells d ⨾ sign M.RightBracket

  -- expressions parted by commas
  pub SpellsList : Trees → Part
  SpellsList no_trees = nothing
  SpellsList (tree t ts) = Spells t ⨾ SpellsMore ts

  pub SpellsMore : Trees → Part
  SpellsMore no_trees = nothing
  SpellsMore (tree t ts) = sign M.Comma ⨾ Spells t ⨾ SpellsMore ts
