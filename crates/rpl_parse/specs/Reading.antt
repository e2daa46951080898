-- Within the crate: how expressions are read, from the front, with one token of look-ahead.
use Rattle.std.specs.Prelude.{◌≡◌, ◌⊎◌, ◌≤◌, ◌<◌, IfSome, IsSome, IsSomeAnd, ◌+◌, ◌-◌, ◌==◌, ◌++◌, ℕ, zero, suc, ℤ, Bool, true, false, if◌then◌else◌, ltb, Option, Some, None, List, [], ◌∷◌, max, length, option_and_then}
use Rattle.rpl_tree.specs.declared.words.OneWord.{OneWord}
use Rattle.rpl_tree.specs.declared.words.OneWord.TheVariants as O
use Rattle.rpl_tree.specs.declared.words.TwoWord.{TwoWord}
use Rattle.rpl_tree.specs.declared.words.TwoWord.TheVariants as T
use Rattle.rpl_tree.specs.declared.words.ConvertWord.{ConvertWord}
use Rattle.rpl_tree.specs.declared.words.ConvertWord.TheVariants as C
use Rattle.rpl_tree.specs.Tree.{Tree, Trees, literal, truth, now, slot, name, call, brackets, list, choice, bind, each, mapped, one, two, convert, at, no_trees, tree}
use Rattle.rpl_parse.specs.declared.token.Mark.{Mark}
use Rattle.rpl_parse.specs.declared.token.Mark.TheVariants as M
use Rattle.rpl_parse.specs.Tokens.{Tok, mark, word, digits, text, same}
use Rattle.rpl_parse.specs.Grammar.{looseness_of, mark_of_one}

abbrev pub trees_of : List Tree → Trees
trees_of [] = no_trees
trees_of (t ∷ ts) = tree t (trees_of ts)

-- a tree, its depth, and the tokens behind it
pub record Got : Type 0 where
  pub tree : Tree
  pub deep : ℕ
  pub rest : List Tok

abbrev pub Read : Type 0
Read = Option Got

abbrev pub got : Tree → ℕ → List Tok → Got
got t d ts = record { tree = t; deep = d; rest = ts }

-- trees that were parted by commas
pub record Many : Type 0 where
  pub trees : List Tree
  pub most : ℕ
  pub left : List Tok

abbrev pub many : List Tree → ℕ → List Tok → Many
many xs d ts = record { trees = xs; most = d; left = ts }

infixl 10 ◌>>=◌
abbrev pub ◌>>=◌ : {A B : Type 0} → Option A → (A → Option B) → Option B
o >>= f = option_and_then f o

-- by cases on what was found
abbrev pub if_found : {A B : Type 0} → Option A → B → (A → B) → B
if_found None b f = b
if_found (Some a) b f = f a

abbrev pub kept : Bool → List Tok → Option (List Tok)
kept true ts = Some ts
kept false ts = None

-- behind a mark
abbrev pub behind : Mark → List Tok → Option (List Tok)
behind m (mark n ∷ ts) = kept (same m n) ts
behind m _ = None

pub record Named : Type 0 where
  pub called : List ℕ
  pub next : List Tok

abbrev pub behind_name : List Tok → Option Named
behind_name (word n ∷ ts) = Some (record { called = n; next = ts })
behind_name _ = None

-- a name behind a mark
abbrev pub name_after : Mark → List Tok → Option Named
name_after m ts = behind m ts >>= behind_name

-- a name, and a mark behind it
abbrev pub name_before : Mark → List Tok → Option Named
name_before m ts = behind_name ts >>= (λ x. behind m x.next >>= (λ us. Some (record { called = x.called; next = us })))

-- `t`, and a mark behind it
abbrev pub now_before : Mark → List Tok → Option (List Tok)
now_before m ts = behind M.Now ts >>= behind m

abbrev pub closed_by_mark : Mark → Got → Read
closed_by_mark m g = behind m g.rest >>= (λ ts. Some (got g.tree g.deep ts))

-- the word of an operator
abbrev pub operator : Mark → Option TwoWord
operator M.Or = Some T.Or
operator M.And = Some T.And
operator M.Equal = Some T.Equal
operator M.Unequal = Some T.Unequal
operator M.Less = Some T.Less
operator M.LessEqual = Some T.LessEqual
operator M.Greater = Some T.Greater
operator M.GreaterEqual = Some T.GreaterEqual
operator M.Plus = Some T.Plus
operator M.Minus = Some T.Minus
operator M.Times = Some T.Times
operator M.Divide = Some T.Divide
operator _ = None

abbrev pub is_operator : Option TwoWord → Bool
is_operator None = false
is_operator (Some w) = true

-- an operator stands first, of whatever level
abbrev pub has_operator : List Tok → Bool
has_operator (mark m ∷ ts) = is_operator (operator m)
has_operator _ = false

pub record Turn : Type 0 where
  pub op : TwoWord
  pub more : List Tok

abbrev pub if_loose : Bool → TwoWord → List Tok → Option Turn
if_loose true w ts = Some (record { op = w; more = ts })
if_loose false w ts = None

abbrev pub if_word : ℕ → Option TwoWord → List Tok → Option Turn
if_word k None ts = None
if_word k (Some w) ts = if_loose (looseness_of w == k) w ts

-- an operator of a level
abbrev pub turn : ℕ → List Tok → Option Turn
turn k (mark m ∷ ts) = if_word k (operator m) ts
turn k _ = None

-- the word that stands before an expression of a level
abbrev pub prefix_of : ℕ → Option OneWord
prefix_of k = if k == 1 then Some O.Minus else (if k == 5 then Some O.Not else None)

abbrev pub guarded : Bool → Read → Read
guarded true r = r
guarded false r = None

-- a comparison isn't repeated
abbrev pub turns_of : ℕ → ℕ → ℕ
turns_of k d = if k == 4 then 1 else d

-- behind a number: its unit, if there is one
abbrev pub number_with_unit : ℤ → List Tok → Read
number_with_unit z (text u ∷ ts) = Some (got (literal z (Some u)) 1 ts)
number_with_unit z ts = Some (got (literal z None) 1 ts)

-- inner reads what lies one deeper, where trees are at most d deep, at a level
module _ (inner : ℕ → List Tok → Read) (d : ℕ) where
  unfoldable pub items : ℕ → Many → Option Many
  items zero a = Some a
  items (suc n) a = if_found (behind M.Comma a.left) (Some a) (λ us. inner 7 us >>= (λ g. items n (many (a.trees ++ g.tree ∷ []) (max a.most g.deep) g.rest)))

  abbrev pub some_items : List Tok → Option Many
  some_items ts = inner 7 ts >>= (λ g. items (length g.rest) (many (g.tree ∷ []) g.deep g.rest))

  -- the arguments of a call, behind its bracket
  abbrev pub args : List ℕ → List Tok → Read
  args n ts = if_found (behind M.RightParen ts) (some_items ts >>= (λ a. behind M.RightParen a.left >>= (λ us. Some (got (call n (trees_of a.trees)) (a.most + 1) us)))) (λ us. Some (got (call n no_trees) 1 us))

  abbrev pub slots : List ℕ → List Tok → Read
  slots o ts = behind_name ts >>= (λ s. Some (got (slot o s.called) 1 s.next))

  abbrev pub named : List ℕ → List Tok → Read
  named n ts = if_found (behind M.LeftParen ts) (if_found (behind M.Dot ts) (Some (got (name n) 1 ts)) (λ us. slots n us)) (λ us. args n us)

  abbrev pub braces : List Tok → Read
  braces ts = some_items ts >>= (λ a. behind M.RightBrace a.left >>= (λ us. Some (got (list (trees_of a.trees)) (a.most + 1) us)))

  -- an expression, and a mark behind it
  abbrev pub up_to : Mark → List Tok → Read
  up_to m ts = inner 7 ts >>= closed_by_mark m

  abbrev pub in_brackets : List Tok → Read
  in_brackets ts = up_to M.RightParen ts >>= (λ g. Some (got (brackets g.tree) (g.deep + 1) g.rest))

  abbrev pub choices : List Tok → Read
  choices ts = up_to M.Then ts >>= (λ c. up_to M.Else c.rest >>= (λ y. up_to M.EndIf y.rest >>= (λ n. Some (got (choice c.tree y.tree n.tree) (max (max c.deep y.deep) n.deep + 1) n.rest))))

  abbrev pub binds : List Tok → Read
  binds ts = name_before M.Assign ts >>= (λ x. up_to M.In x.next >>= (λ e. up_to M.EndLet e.rest >>= (λ b. Some (got (bind x.called e.tree b.tree) (max e.deep b.deep + 1) b.rest))))

  abbrev pub loops : List Tok → Read
  loops ts = name_before M.In ts >>= (λ x. up_to M.With x.next >>= (λ l. name_before M.Assign l.rest >>= (λ a. up_to M.Do a.next >>= (λ f. up_to M.EndFor f.rest >>= (λ b. Some (got (each x.called l.tree a.called f.tree b.tree) (max (max l.deep f.deep) b.deep + 1) b.rest))))))

  abbrev pub maps : List Tok → Read
  maps ts = name_before M.In ts >>= (λ x. up_to M.Do x.next >>= (λ l. up_to M.EndMap l.rest >>= (λ b. Some (got (mapped x.called l.tree b.tree) (max l.deep b.deep + 1) b.rest))))

  -- a word, and an expression in brackets
  abbrev pub word_of_one : OneWord → List Tok → Read
  word_of_one w ts = behind M.LeftParen ts >>= up_to M.RightParen >>= (λ g. Some (got (one w g.tree) (g.deep + 1) g.rest))

  -- a word, and two expressions in brackets
  abbrev pub word_of_two : TwoWord → List Tok → Read
  word_of_two w ts = behind M.LeftParen ts >>= up_to M.Comma >>= (λ l. up_to M.RightParen l.rest >>= (λ r. Some (got (two w l.tree r.tree) (max l.deep r.deep + 1) r.rest)))

  abbrev pub converts : ConvertWord → List Tok → Read
  converts w ts = behind M.LeftParen ts >>= name_before M.Comma >>= (λ o. up_to M.RightParen o.next >>= (λ g. Some (got (convert w o.called g.tree) (g.deep + 1) g.rest)))

  abbrev pub opened : Mark → List Tok → Read
  opened M.True ts = Some (got (truth true) 1 ts)
  opened M.False ts = Some (got (truth false) 1 ts)
  opened M.Now ts = Some (got now 1 ts)
  opened M.LeftParen ts = in_brackets ts
  opened M.LeftBrace ts = braces ts
  opened M.If ts = choices ts
  opened M.Let ts = binds ts
  opened M.For ts = loops ts
  opened M.Map ts = maps ts
  opened M.Known ts = word_of_one O.Known ts
  opened M.Length ts = word_of_one O.Length ts
  opened M.Month ts = word_of_one O.Month ts
  opened M.Day ts = word_of_one O.Day ts
  opened M.Year ts = word_of_one O.Year ts
  opened M.Append ts = word_of_two T.Append ts
  opened M.Item ts = word_of_two T.Item ts
  opened M.StorageToElevation ts = converts C.StorageToElevation ts
  opened M.ElevationToStorage ts = converts C.ElevationToStorage ts
  opened _ ts = None

  abbrev pub prim : List Tok → Read
  prim (digits z ∷ ts) = number_with_unit z ts
  prim (word n ∷ ts) = named n ts
  prim (mark m ∷ ts) = opened m ts
  prim _ = None

  -- the brackets behind a primary
  unfoldable pub steps : ℕ → Got → Read
  steps zero g = Some g
  steps (suc n) g = if_found (behind M.LeftBracket g.rest) (Some g) (λ us. guarded (ltb g.deep (suc d)) (up_to M.RightBracket us >>= (λ r. steps n (got (at g.tree r.tree) (max g.deep r.deep + 1) r.rest))))

  -- the other operands of a level
  unfoldable pub chain : ℕ → ℕ → Got → Read
  chain k zero g = Some g
  chain k (suc n) g = if_found (turn k g.rest) (Some g) (λ t. guarded (ltb g.deep (suc d)) (inner (k - 1) t.more >>= (λ r. chain k n (got (two t.op g.tree r.tree) (max g.deep r.deep + 1) r.rest))))

  -- behind a word that stands before an expression of a level
  abbrev pub prefixed : ℕ → OneWord → List Tok → Read
  prefixed k w us = inner k us >>= (λ r. Some (got (one w r.tree) (r.deep + 1) r.rest))

  unfoldable pub level : ℕ → List Tok → Read
  level zero ts = prim ts >>= steps d
  level (suc j) ts = if_found (prefix_of (suc j)) (level j ts >>= chain (suc j) (turns_of (suc j) d))
      (λ w. if_found (behind (mark_of_one w) ts) (level j ts) (λ us. prefixed (suc j) w us))

  -- the other operands of a level, unless a word stands before its expressions
  abbrev pub rise : ℕ → Got → Read
  rise k g = if_found (prefix_of k) (chain k (turns_of k d) g) (λ w. Some g)

  -- those of so many levels above one
  unfoldable pub climbed : ℕ → ℕ → Read → Read
  climbed j zero r = r
  climbed j (suc n) r = climbed (j + 1) n (r >>= rise (j + 1))

-- an expression may begin at the level: its word stands first, or it is the tightest
abbrev pub MayBegin : ℕ → List Tok → Type 0
MayBegin k ts = (k ≡ 0) ⊎ IsSomeAnd (prefix_of k) (λ w. IsSome (behind (mark_of_one w) ts))

-- of the levels up to k an expression begins at this one: no word of one above it stands first
pub record StartsAt (k : ℕ) (ts : List Tok) (start : ℕ) : Type 0 where
  pub up_to : start ≤ k
  pub is : MayBegin start ts
  pub bare : (j : ℕ) → start < j → j ≤ k → IfSome (prefix_of j) (λ w. behind (mark_of_one w) ts ≡ None)

-- an expression of a level that is at most so deep
unfoldable pub read_tree : ℕ → ℕ → List Tok → Read
read_tree zero k ts = None
read_tree (suc d) k ts = level (read_tree d) d k ts
