-- The most that one firing of a rule can count, look or put, by its tree. One definition serves all three, with a price for each.
use Rattle.std.specs.Prelude.{ℕ, ◌+◌, ◌*◌, max, List, [], ◌∷◌, map, bytes_eq, if◌then◌else◌}
use Rattle.rpl_tree.specs.declared.words.OneWord.{OneWord}
use Rattle.rpl_tree.specs.declared.words.OneWord.TheVariants.{Known}
use Rattle.rpl_tree.specs.declared.words.TwoWord.{TwoWord}
use Rattle.rpl_tree.specs.declared.words.TwoWord.TheVariants.{Or, And, Unequal, Greater, GreaterEqual, Append}
use Rattle.rpl_tree.specs.Value.{Kind, room_of, element_of, is_same_kind, weight, weights}
use Rattle.rpl_tree.specs.Tree.{Tree, Trees, name, call, brackets, list, choice, bind, each, mapped, one, two, convert, at, no_trees, tree, Act, Acts, assign, branch, with_name, no_acts, act, Parameter, Declared, rule, function}
use Rattle.rpl_tree.specs.Kinds.{Head, Names, kind_named, kind_of_type, count_of, takes_named, tree_kind}
use Rattle.rpl_tree.specs.Mean.{Function, predefined_functions, param_kinds}

-- what is paid for a step that counts so much, for a look, and for a put
pub record Price : Type 0 where
  pub step : ℕ → ℕ
  pub look : ℕ
  pub put : ℕ

-- the count itself, the looks alone, and the puts alone
abbrev pub price_of_steps : Price
price_of_steps = record { step = λ n. n; look = 1; put = 1 }

abbrev pub price_of_looks : Price
price_of_looks = record { step = λ n. 0; look = 1; put = 0 }

abbrev pub price_of_puts : Price
price_of_puts = record { step = λ n. 0; look = 0; put = 1 }

-- a function, and the most that a call of it comes to, its arguments apart
pub record Costed : Type 0 where
  pub head : Head
  pub most : ℕ

abbrev pub costed_heads : List Costed → List Head
costed_heads functions = map (λ (f : Costed). f.head) functions

abbrev pub most_named : List Costed → List ℕ → ℕ
most_named [] f = 0
most_named (known ∷ functions) f = if bytes_eq known.head.name f then known.most else most_named functions f

-- each predefined function, at one cost
abbrev pub predefined_costs : ℕ → List Costed
predefined_costs most = map (λ (f : Function). record { head = f.head; most = most }) predefined_functions

-- the parameters as names
abbrev pub param_names : List Parameter → Names
param_names [] = []
param_names (p ∷ ps) = (p.name, kind_of_type p.of_type) ∷ param_names ps

module _ (price : Price) (functions : List Costed) where
  abbrev pub kind_here : Names → Tree → Kind
  kind_here names t = tree_kind (costed_heads functions) names t

  -- of a list that has to be given the room of its place
  abbrev pub to_widen : Kind → Kind → ℕ
  to_widen place kind = if is_same_kind place kind then 0 else price.step (weight place)

  -- of a word and its expression, or of what KNOWN asks
  abbrev pub one_cost : OneWord → ℕ → ℕ → ℕ
  one_cost Known e known = known
  one_cost _ e known = e + price.step 1

  -- OR and AND are those of the IF that they stand for
  abbrev pub two_cost : TwoWord → ℕ → ℕ → Kind → ℕ
  two_cost Or l r kind = l + (max (price.step 1) r + price.step 3)
  two_cost And l r kind = l + (max r (price.step 1) + price.step 3)
  two_cost Unequal l r kind = l + (r + price.step 2)
  two_cost Greater l r kind = l + (r + price.step 2)
  two_cost GreaterEqual l r kind = l + (r + price.step 2)
  two_cost Append l r kind = l + (r + price.step (room_of kind + 2))
  two_cost _ l r kind = l + (r + price.step 1)

  abbrev mutual
    pub most : Names → Tree → ℕ
    most names (name x) = price.step (weight (kind_named names x))
    most names (call f ts) = most_arguments names (takes_named (costed_heads functions) f) ts + most_named functions f
    most names (brackets t) = most names t
    most names (list ts) = most_of names ts + price.step (count_of ts + 1)
    most names (choice c y n) =
        let kind = kind_here names (choice c y n) in
        let first = most names y + to_widen kind (kind_here names y) in
        let second = most names n + to_widen kind (kind_here names n) in
        most names c + (max first second + price.step 3)
    most names (bind x e b) =
        let kind = kind_here names e in
        most names e + (price.step (weight kind) + most ((x, kind) ∷ names) b)
    most names (each x l a f b) =
        let all = kind_here names l in
        let total = kind_here names f in
        let inside : Names = (a, total) ∷ (x, element_of all) ∷ names in
        most names l + (most names f + (price.step (2 * weight total + 1)
        + room_of all * (most inside b + (to_widen total (kind_here inside b) + price.step (weight total + 1)))))
    most names (mapped x l b) =
        let all = kind_here names l in
        most names l + (price.step 1 + room_of all * (most ((x, element_of all) ∷ names) b + price.step 1))
    most names (one word e) = one_cost word (most names e) (most_known names e)
    most names (two word l r) = two_cost word (most names l) (most names r) (kind_here names l)
    most names (convert word o e) = most names e + price.step 1
    most names (at s d) = most names s + (most names d + price.look)
    most names _ = price.step 1

    pub most_known : Names → Tree → ℕ
    most_known names (at s d) = most names s + (most names d + price.look)
    most_known names _ = 0

    pub most_of : Names → Trees → ℕ
    most_of names no_trees = 0
    most_of names (tree t ts) = most names t + most_of names ts

    pub most_arguments : Names → List Kind → Trees → ℕ
    most_arguments names (kind ∷ kinds) (tree t ts) =
        most names t + (to_widen kind (kind_here names t) + most_arguments names kinds ts)
    most_arguments names _ _ = 0

  abbrev mutual
    pub most_of_act : Names → Act → ℕ
    most_of_act names (assign o s ahead e) = most names e + price.put
    most_of_act names (branch c first second) =
        most names c + (max (most_of_acts names first) (most_of_acts names second) + price.step 3)
    most_of_act names (with_name x e body) =
        let kind = kind_here names e in
        most names e + (price.step (weight kind) + most_of_acts ((x, kind) ∷ names) body)

    pub most_of_acts : Names → Acts → ℕ
    most_of_acts names no_acts = 0
    most_of_acts names (act a rest) = most_of_act names a + most_of_acts names rest

  -- of a function's body, with the room of its result
  abbrev pub most_of_body : Names → Kind → Tree → ℕ
  most_of_body names result body = most names body + to_widen result (kind_here names body)

-- of each declaration, in order, where these functions may be called
abbrev pub costs_from : Price → List Costed → List Declared → List ℕ
costs_from price functions [] = []
costs_from price functions (rule called_so body ∷ rest) = most_of_acts price functions [] body ∷ costs_from price functions rest
costs_from price functions (function called_so params result body ∷ rest) =
    let takes = param_kinds params in
    let kind = kind_of_type result in
    let inside = most_of_body price functions (param_names params) kind body in
    let known : Costed = record {
      head = record { name = called_so; takes = takes; result = kind };
      most = price.step (weights takes + 1) + inside;
    } in
    inside ∷ costs_from price (known ∷ functions) rest

abbrev pub costs : Price → List Declared → List ℕ
costs price rules = costs_from price (predefined_costs (price.step 1)) rules
