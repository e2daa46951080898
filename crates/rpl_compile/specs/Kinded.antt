-- What the code of a ruleset asks of it: that its names are there, and that its parts are of the kinds that their forms take. Units and the
-- order of refusals are left out.
use Rattle.std.specs.Prelude.{◌≡◌, ◌⊎◌, ℕ, ◌<◌, ◌≤◌, ℤ, pos, ◌*ℤ◌, IsTrue, List, [], ◌∷◌, Option, IsSome, IsSomeAnd, unwrap_or, bytes_eq}
use Rattle.std.specs.List.{list_any}
use Rattle.rw_base.specs.declared.limits.TheConstants.{LIST_MAX}
use Rattle.rw_base.specs.Dimension.{Dimension}
use Rattle.rw_base.specs.Unit.{units, unit_in}
use Rattle.rw_model.specs.Draft.{Draft}
use Rattle.rw_model.specs.Objects.{slot_named}
use Rattle.rpl_tree.specs.declared.words.OneWord.{OneWord}
use Rattle.rpl_tree.specs.declared.words.OneWord.TheVariants.{Not, Minus, Known, Length, Month, Day, Year}
use Rattle.rpl_tree.specs.declared.words.TwoWord.{TwoWord}
use Rattle.rpl_tree.specs.declared.words.TwoWord.TheVariants.{Or, And, Equal, Unequal, Less, LessEqual, Greater, GreaterEqual, Plus, Minus as Less_by, Times, Divide, Append, Item}
use Rattle.rpl_tree.specs.Value.{Kind, number_kind, truth_kind, date_kind, slot_kind, numbers_kind, slots_kind, element_of}
use Rattle.rpl_tree.specs.Operators.{is_quantity}
use Rattle.rpl_tree.specs.World.{can_put_ahead, can_set, table_named}
use Rattle.rpl_tree.specs.Tree.{Tree, Trees, literal, truth, now, slot, name, call, brackets, list, choice, bind, each, mapped, one, two, convert, at, no_trees, tree, Act, Acts, assign, branch, with_name, no_acts, act, Declared, rule, function}
use Rattle.rpl_tree.specs.Kinds.{Head, Names, count_of, first_kind, kind_of_type, takes_named, tree_kind}
use Rattle.rpl_tree.specs.Cost.{param_names}
use Rattle.rpl_tree.specs.Mean.{function_heads, param_kinds, predefined_functions}

-- ---- kinds

-- a list of numbers or of slots, with room for so many
abbrev pub IsList : Kind → ℕ → Type 0
IsList kind m = (kind ≡ numbers_kind m) ⊎ (kind ≡ slots_kind m)

abbrev pub IsAnyList : Kind → Type 0
IsAnyList kind = (m : ℕ) × IsList kind m

-- a list with more room than another has
abbrev pub IsWider : Kind → Kind → Type 0
IsWider place kind =
    (m : ℕ) × (n : ℕ) × (n < m)
    × (((place ≡ numbers_kind m) × (kind ≡ numbers_kind n)) ⊎ ((place ≡ slots_kind m) × (kind ≡ slots_kind n)))

-- a value of the second kind can stand where one of the first is asked for
abbrev pub FitsIn : Kind → Kind → Type 0
FitsIn place kind = (place ≡ kind) ⊎ IsWider place kind

abbrev pub AreBoth : Kind → Kind → Kind → Kind → Type 0
AreBoth first second k l = (k ≡ first) × (l ≡ second)

-- numbers, or dates
abbrev pub AreComparable : Kind → Kind → Type 0
AreComparable k l = AreBoth number_kind number_kind k l ⊎ AreBoth date_kind date_kind k l

-- a number can be added to a number or a date, and taken from one
abbrev pub CanAddKinds : Kind → Kind → Type 0
CanAddKinds k l = AreBoth number_kind number_kind k l ⊎ AreBoth date_kind number_kind k l

-- a list of fewer than 4,096, and an element of it
abbrev pub CanAppend : Kind → Kind → Type 0
CanAppend k l =
    (m : ℕ) × (m < LIST_MAX) × (AreBoth (numbers_kind m) number_kind k l ⊎ AreBoth (slots_kind m) slot_kind k l)

abbrev pub OneTakes : OneWord → Kind → Type 0
OneTakes Not k = k ≡ truth_kind
OneTakes Minus k = k ≡ number_kind
OneTakes Known k = k ≡ number_kind
OneTakes Length k = IsAnyList k
OneTakes Month k = k ≡ date_kind
OneTakes Day k = k ≡ date_kind
OneTakes Year k = k ≡ date_kind

abbrev pub TwoTakes : TwoWord → Kind → Kind → Type 0
TwoTakes Or k l = AreBoth truth_kind truth_kind k l
TwoTakes And k l = AreBoth truth_kind truth_kind k l
TwoTakes Equal k l = AreComparable k l
TwoTakes Unequal k l = AreComparable k l
TwoTakes Less k l = AreComparable k l
TwoTakes LessEqual k l = AreComparable k l
TwoTakes Greater k l = AreComparable k l
TwoTakes GreaterEqual k l = AreComparable k l
TwoTakes Plus k l = CanAddKinds k l
TwoTakes Less_by k l = CanAddKinds k l ⊎ AreBoth date_kind date_kind k l
TwoTakes Times k l = AreBoth number_kind number_kind k l
TwoTakes Divide k l = AreBoth number_kind number_kind k l
TwoTakes Append k l = CanAppend k l
TwoTakes Item k l = IsAnyList k × (l ≡ number_kind)

-- elements of a list
abbrev pub IsElement : Kind → Type 0
IsElement kind = (kind ≡ number_kind) ⊎ (kind ≡ slot_kind)

-- ---- names

abbrev pub HasName : Names → List ℕ → Type 0
HasName names x = IsTrue (list_any (λ (entry : List ℕ × Kind). bytes_eq entry.0 x) names)

abbrev pub HasHead : List Head → List ℕ → Type 0
HasHead heads f = IsTrue (list_any (λ (head : Head). bytes_eq head.name f) heads)

-- a number that is a quantity in base units
abbrev pub IsLiteral : ℤ → Option (Dimension × ℤ) → Type 0
IsLiteral n unit = IsSomeAnd unit (λ (known : Dimension × ℤ). IsTrue (is_quantity (n *ℤ known.1)))

-- KNOWN is asked of a look at a slot
abbrev pub IsAsked : OneWord → Tree → Type 0
IsAsked Known (at s d) = Unit {0}
IsAsked Known _ = ⊥
IsAsked word e = Unit {0}

-- ---- expressions and statements

module _ (basin : Draft) (heads : List Head) where
  abbrev mutual
    pub IsKinded : Names → Tree → Type 0
    IsKinded names (literal n unit) = IsLiteral n (unit_in units (unwrap_or unit []))
    IsKinded names (truth b) = Unit {0}
    IsKinded names now = Unit {0}
    IsKinded names (slot o s) = IsSome (slot_named basin.objects o s)
    IsKinded names (name x) = HasName names x
    IsKinded names (call f ts) = HasHead heads f × AreArguments names (takes_named heads f) ts
    IsKinded names (brackets t) = IsKinded names t
    IsKinded names (list ts) =
        (1 ≤ count_of ts) × (count_of ts ≤ LIST_MAX) × IsElement (first_kind heads names ts) × AreOfKind names (first_kind heads names ts) ts
    IsKinded names (choice c y n) =
        let kind = tree_kind heads names (choice c y n) in
        IsKinded names c × (tree_kind heads names c ≡ truth_kind) × IsKinded names y × FitsIn kind (tree_kind heads names y)
        × IsKinded names n × FitsIn kind (tree_kind heads names n)
    IsKinded names (bind x e b) = IsKinded names e × IsKinded ((x, tree_kind heads names e) ∷ names) b
    IsKinded names (each x l a f b) =
        let total = tree_kind heads names f in
        let inside : Names = (a, total) ∷ (x, element_of (tree_kind heads names l)) ∷ names in
        IsKinded names l × IsAnyList (tree_kind heads names l) × IsKinded names f × IsKinded inside b × FitsIn total (tree_kind heads inside b)
    IsKinded names (mapped x l b) =
        let inside : Names = (x, element_of (tree_kind heads names l)) ∷ names in
        IsKinded names l × IsAnyList (tree_kind heads names l) × IsKinded inside b × (tree_kind heads inside b ≡ number_kind)
    IsKinded names (one word e) = IsKinded names e × IsAsked word e × OneTakes word (tree_kind heads names e)
    IsKinded names (two word l r) =
        IsKinded names l × IsKinded names r × TwoTakes word (tree_kind heads names l) (tree_kind heads names r)
    IsKinded names (convert word o e) =
        IsSome (table_named basin o) × IsKinded names e × (tree_kind heads names e ≡ number_kind)
    IsKinded names (at s d) =
        IsKinded names s × (tree_kind heads names s ≡ slot_kind) × IsKinded names d × (tree_kind heads names d ≡ date_kind)

    -- each is of that kind
    pub AreOfKind : Names → Kind → Trees → Type 0
    AreOfKind names kind no_trees = Unit {0}
    AreOfKind names kind (tree t ts) = IsKinded names t × (tree_kind heads names t ≡ kind) × AreOfKind names kind ts

    -- they are as many, and fit
    pub AreArguments : Names → List Kind → Trees → Type 0
    AreArguments names [] no_trees = Unit {0}
    AreArguments names (kind ∷ kinds) (tree t ts) =
        IsKinded names t × FitsIn kind (tree_kind heads names t) × AreArguments names kinds ts
    AreArguments names _ _ = ⊥

  -- a slot that can be set, not too many timesteps ahead
  abbrev pub IsTarget : Option ℕ → ℤ → Type 0
  IsTarget found ahead = IsSomeAnd found (λ s. IsTrue (can_set basin s)) × IsTrue (can_put_ahead basin ahead)

  abbrev mutual
    pub IsKindedAct : Names → Act → Type 0
    IsKindedAct names (assign o s ahead e) =
        IsKinded names e × (tree_kind heads names e ≡ number_kind) × IsTarget (slot_named basin.objects o s) ahead
    IsKindedAct names (branch c first second) =
        IsKinded names c × (tree_kind heads names c ≡ truth_kind) × AreKindedActs names first × AreKindedActs names second
    IsKindedAct names (with_name x e body) = IsKinded names e × AreKindedActs ((x, tree_kind heads names e) ∷ names) body

    pub AreKindedActs : Names → Acts → Type 0
    AreKindedActs names no_acts = Unit {0}
    AreKindedActs names (act a rest) = IsKindedAct names a × AreKindedActs names rest

  -- a function's body, with the room of its result
  abbrev pub IsKindedBody : Names → Kind → Tree → Type 0
  IsKindedBody names result body = IsKinded names body × FitsIn result (tree_kind heads names body)

-- ---- rulesets

-- declarations that may call the functions with these heads. A function can be called by those behind it
abbrev pub AreKindedFrom : Draft → List Head → List Declared → Type 0
AreKindedFrom basin heads [] = Unit {0}
AreKindedFrom basin heads (rule called_so body ∷ rest) = AreKindedActs basin heads [] body × AreKindedFrom basin heads rest
AreKindedFrom basin heads (function called_so params result body ∷ rest) =
    let kind = kind_of_type result in
    let head : Head = record { name = called_so; takes = param_kinds params; result = kind } in
    IsKindedBody basin heads (param_names params) kind body × AreKindedFrom basin (head ∷ heads) rest

abbrev pub AreKinded : Draft → List Declared → Type 0
AreKinded basin rules = AreKindedFrom basin (function_heads predefined_functions) rules
