-- What a rule means: what a firing of it does, by its tree.
use Rattle.std.specs.Prelude.{ℕ, ◌+◌, ◌-◌, ◌==◌, ℤ, pos, ◌*ℤ◌, codes, true, false, List, [], ◌∷◌, map, Option, Some, None, unwrap_or, bytes_eq, if◌then◌else◌}
use Rattle.rw_base.specs.Unit.{units, unit_in}
use Rattle.rw_base.specs.Dimension.{Dimension}
use Rattle.rw_base.specs.Predefined.{predefined_of}
use Rattle.rw_base.specs.declared.number.Cell.{Cell}
use Rattle.rw_calendar.specs.declared.moment.Moment.{Moment}
use Rattle.rw_model.specs.Draft.{Draft}
use Rattle.rw_model.specs.Objects.{slot_named}
use Rattle.rw_firing.specs.Fire.{Fire}
use Rattle.rw_firing.specs.declared.fire.FireEnd.TheVariants.{Done}
use Rattle.rpl_tree.specs.declared.words.OneWord.{OneWord}
use Rattle.rpl_tree.specs.declared.words.OneWord.TheVariants.{Not, Minus, Known, Length, Month, Day, Year}
use Rattle.rpl_tree.specs.declared.words.TwoWord.{TwoWord}
use Rattle.rpl_tree.specs.declared.words.TwoWord.TheVariants.{Or, And, Equal, Unequal, Less, LessEqual, Greater, GreaterEqual, Plus, Minus as Less_by, Times, Divide, Append, Item}
use Rattle.rpl_tree.specs.Value.{Kind, number_kind, truth_kind, Value, a_number, a_truth, a_date, numbers, kind_of_value, room_of, weight, weights}
use Rattle.rpl_tree.specs.Outcome.{Answer, Outcome, Trail, after, ended, gives, is_stuck, spent, stuck, value, ◌>>=◌}
use Rattle.rpl_tree.specs.Operators.{append_of, at_most_of, chosen, difference_of, elements_of, equal_of, is_quantity, item_of, length_of, less_of, list_of, negative_of, not_of, product_of, quotient_of, sum_of, widened}
use Rattle.rpl_tree.specs.World.{World, convert_of, date_part, known_of, put_of, read_of, slot_value, table_named}
use Rattle.rpl_tree.specs.Tree.{Tree, Trees, literal, truth, now, slot, name, call, brackets, list, choice, bind, each, mapped, one, two, convert, at, no_trees, tree, Act, Acts, assign, branch, with_name, no_acts, act, Parameter, Declared, rule, function}
use Rattle.rpl_tree.specs.Kinds.{Head, Names, kind_of_type, tree_kind}

-- ---- names

-- the values of the names that can be used, innermost first
abbrev pub Env : Type 0
Env = List (List ℕ × Value)

abbrev pub names_of_env : Env → Names
names_of_env [] = []
names_of_env (entry ∷ env) = (entry.0, kind_of_value entry.1) ∷ names_of_env env

abbrev pub named : Env → List ℕ → Outcome Value
named [] x = is_stuck
named (entry ∷ env) x = if bytes_eq entry.0 x then gives entry.1 (weight (kind_of_value entry.1)) else named env x

-- ---- functions

-- a function, with what it does with arguments of the kinds that it takes
pub record Function : Type 0 where
  pub head : Head
  pub does : List Value → Outcome Value

abbrev pub function_heads : List Function → List Head
function_heads functions = map (λ (f : Function). f.head) functions

-- goes on with the function that is called so
abbrev pub called : List Function → List ℕ → (Function → Outcome Value) → Outcome Value
called [] f go = is_stuck
called (known ∷ functions) f go = if bytes_eq known.head.name f then go known else called functions f go

abbrev pub predefined_answer : ℕ → List Value → Outcome Value
predefined_answer k (a_number x ∷ []) = gives (a_number (predefined_of k x (pos 0) (pos 0))) 1
predefined_answer k (a_number x ∷ a_number y ∷ []) = gives (a_number (predefined_of k x y (pos 0))) 1
predefined_answer k (a_number x ∷ a_number y ∷ a_number z ∷ []) = gives (a_number (predefined_of k x y z)) 1
predefined_answer k _ = is_stuck

-- the predefined function in a row of their table
abbrev pub predefined : ℕ → List ℕ → List Kind → Function
predefined k called_so takes =
    record { head = record { name = called_so; takes = takes; result = number_kind }; does = predefined_answer k }

abbrev pub predefined_functions : List Function
predefined_functions =
    predefined 1 (codes "Min") (number_kind ∷ number_kind ∷ []) ∷
    predefined 2 (codes "Max") (number_kind ∷ number_kind ∷ []) ∷
    predefined 3 (codes "Abs") (number_kind ∷ []) ∷
    predefined 4 (codes "Clamp") (number_kind ∷ number_kind ∷ number_kind ∷ []) ∷
    predefined 5 (codes "RoundDown") (number_kind ∷ number_kind ∷ []) ∷
    predefined 6 (codes "Sign") (number_kind ∷ []) ∷
    predefined 7 (codes "MulDiv") (number_kind ∷ number_kind ∷ number_kind ∷ []) ∷
    []

-- ---- expressions

-- a number of base units, by the unit that is written beside it
abbrev pub quantity_or_stuck : ℤ → Option (Dimension × ℤ) → Outcome Value
quantity_or_stuck n None = is_stuck
quantity_or_stuck n (Some unit) = if is_quantity (n *ℤ unit.1) then gives (a_number (n *ℤ unit.1)) 1 else is_stuck

abbrev pub literal_value : ℤ → Option (List ℕ) → Outcome Value
literal_value n unit = quantity_or_stuck n (unit_in units (unwrap_or unit []))

-- goes on with the elements of a list
abbrev pub with_elements : {A : Type 0} → Option (List Value) → (List Value → Outcome A) → Outcome A
with_elements None go = is_stuck
with_elements (Some vs) go = go vs

-- one turn for each element, from an accumulator that takes so many words; to set it and go on counts those and 1
abbrev pub turns : ℕ → (Value → Value → Outcome Value) → Value → List Value → Outcome Value
turns words body total [] = gives total 0
turns words body total (v ∷ vs) = body v total >>= (λ new. after (spent (words + 1)) (turns words body new vs))

-- goes on with a number
abbrev pub with_number : {A : Type 0} → Value → (ℤ → Outcome A) → Outcome A
with_number (a_number z) go = go z
with_number _ go = is_stuck

-- a number for each element; to keep it counts 1
abbrev pub numbers_for : (Value → Outcome Value) → List Value → Outcome (List ℤ)
numbers_for body [] = gives [] 0
numbers_for body (v ∷ vs) =
    body v >>= (λ new. with_number new (λ z. after (spent 1) (numbers_for body vs >>= (λ zs. gives (z ∷ zs) 0))))

-- the value of a word's expression, or what KNOWN finds of it
abbrev pub one_value : Draft → OneWord → Outcome Value → Outcome Value → Outcome Value
one_value basin Not e known = e >>= not_of
one_value basin Minus e known = e >>= negative_of
one_value basin Known e known = known
one_value basin Length e known = e >>= length_of
one_value basin Month e known = e >>= date_part basin (λ (m : Moment). m.month)
one_value basin Day e known = e >>= date_part basin (λ (m : Moment). m.day)
one_value basin Year e known = e >>= date_part basin (λ (m : Moment). m.year)

-- both, from left to right
abbrev pub both : Outcome Value → Outcome Value → (Value → Value → Outcome Value) → Outcome Value
both l r does = l >>= (λ x. r >>= (λ y. does x y))

-- OR and AND are `IF l THEN TRUE ELSE r ENDIF` and `IF l THEN r ELSE FALSE ENDIF`, and a test's opposite is NOT of it
abbrev pub two_value : TwoWord → Outcome Value → Outcome Value → Outcome Value
two_value Or l r = l >>= (λ x. chosen x (gives (a_truth true) 1) (r >>= widened truth_kind))
two_value And l r = l >>= (λ x. chosen x (r >>= widened truth_kind) (gives (a_truth false) 1))
two_value Equal l r = both l r equal_of
two_value Unequal l r = both l r equal_of >>= not_of
two_value Less l r = both l r less_of
two_value LessEqual l r = both l r at_most_of
two_value Greater l r = both l r at_most_of >>= not_of
two_value GreaterEqual l r = both l r less_of >>= not_of
two_value Plus l r = both l r sum_of
two_value Less_by l r = both l r difference_of
two_value Times l r = both l r product_of
two_value Divide l r = both l r quotient_of
two_value Append l r = both l r append_of
two_value Item l r = both l r item_of

module _ (world : World) (functions : List Function) where
  -- the kind that an expression has among these names
  abbrev pub kind_in : Env → Tree → Kind
  kind_in env t = tree_kind (function_heads functions) (names_of_env env) t

  abbrev mutual
    pub value_of : Env → Tree → Outcome Value
    value_of env (literal n unit) = literal_value n unit
    value_of env (truth b) = gives (a_truth b) 1
    value_of env now = gives (a_date (pos world.step)) 1
    value_of env (slot o s) = slot_value world.basin o s
    value_of env (name x) = named env x
    value_of env (call f ts) = called functions f (λ known. arguments_of env known.head.takes ts >>= known.does)
    value_of env (brackets t) = value_of env t
    value_of env (list ts) = values_of env ts >>= list_of
    value_of env (choice c y n) =
        let kind = kind_in env (choice c y n) in
        value_of env c >>= (λ x. chosen x (value_of env y >>= widened kind) (value_of env n >>= widened kind))
    value_of env (bind x e b) = value_of env e >>= (λ v. after (spent (weight (kind_of_value v))) (value_of ((x, v) ∷ env) b))
    value_of env (each x l a f b) =
        value_of env l >>= (λ all. value_of env f >>= (λ first.
        let words : ℕ = weight (kind_of_value first) in
        let body : Value → Value → Outcome Value = λ v total. value_of ((a, total) ∷ (x, v) ∷ env) b >>= widened (kind_of_value first) in
        after (spent (words + 1)) (with_elements (elements_of all) (turns words body first) >>= (λ last. gives last words))))
    value_of env (mapped x l b) =
        value_of env l >>= (λ all. after (spent 1) (with_elements (elements_of all) (numbers_for (λ v. value_of ((x, v) ∷ env) b))
        >>= (λ zs. gives (numbers (room_of (kind_of_value all)) zs) 0)))
    value_of env (one word e) = one_value world.basin word (value_of env e) (known_in env e)
    value_of env (two word l r) = two_value word (value_of env l) (value_of env r)
    value_of env (convert word o e) = value_of env e >>= convert_of word (table_named world.basin o)
    value_of env (at s d) = both (value_of env s) (value_of env d) (read_of world)

    -- whether a slot has a value at a date
    pub known_in : Env → Tree → Outcome Value
    known_in env (at s d) = both (value_of env s) (value_of env d) (known_of world)
    known_in env _ = is_stuck

    pub values_of : Env → Trees → Outcome (List Value)
    values_of env no_trees = gives [] 0
    values_of env (tree t ts) = value_of env t >>= (λ v. values_of env ts >>= (λ vs. gives (v ∷ vs) 0))

    -- arguments of these kinds
    pub arguments_of : Env → List Kind → Trees → Outcome (List Value)
    arguments_of env [] no_trees = gives [] 0
    arguments_of env (kind ∷ kinds) (tree t ts) =
        value_of env t >>= widened kind >>= (λ v. arguments_of env kinds ts >>= (λ vs. gives (v ∷ vs) 0))
    arguments_of env _ _ = is_stuck

  -- ---- statements

  abbrev mutual
    pub act_done : Env → Act → Outcome (Unit {0})
    act_done env (assign o s ahead e) = value_of env e >>= put_of world.basin (slot_named world.basin.objects o s) ahead
    act_done env (branch c first second) = value_of env c >>= (λ x. chosen x (acts_done env first) (acts_done env second))
    act_done env (with_name x e body) = value_of env e >>= (λ v. after (spent (weight (kind_of_value v))) (acts_done ((x, v) ∷ env) body))

    pub acts_done : Env → Acts → Outcome (Unit {0})
    acts_done env no_acts = gives tt 0
    acts_done env (act a rest) = act_done env a >>= (λ done. acts_done env rest)

-- ---- rules

abbrev pub param_kinds : List Parameter → List Kind
param_kinds [] = []
param_kinds (p ∷ ps) = kind_of_type p.of_type ∷ param_kinds ps

-- the parameters stand for the arguments
abbrev pub with_arguments : List Parameter → List Value → Env
with_arguments (p ∷ ps) (v ∷ vs) = (p.name, v) ∷ with_arguments ps vs
with_arguments _ _ = []

-- a function of the ruleset, whose body may call these
abbrev pub function_of : World → List Function → List ℕ → List Parameter → Kind → Tree → Function
function_of world functions called_so params result body =
    let takes = param_kinds params in
    record {
      head = record { name = called_so; takes = takes; result = result };
      does = λ args. after (spent (weights takes + 1)) (value_of world functions (with_arguments params args) body >>= widened result);
    }

-- what the rule of a number does. A rule or function may call the functions that are declared before it
abbrev pub rule_done : World → List Function → List Declared → ℕ → Outcome (Unit {0})
rule_done world functions [] number = is_stuck
rule_done world functions (rule called_so body ∷ rest) number =
    if number == 1 then acts_done world functions [] body else rule_done world functions rest (number - 1)
rule_done world functions (function called_so params result body ∷ rest) number =
    rule_done world (function_of world functions called_so params (kind_of_type result) body ∷ functions) rest number

-- a firing that isn't done asks for nothing
abbrev pub fire_of : Answer (Unit {0}) → Trail → Option Fire
fire_of (value done) trail = Some (record { end = Done; looked = trail.looked; puts = trail.puts; count = trail.count })
fire_of (ended end) trail = Some (record { end = end; looked = trail.looked; puts = []; count = trail.count })
fire_of stuck trail = None

-- what a rule does, by its number, at a timestep, for these values of the cells
abbrev pub mean : List Declared → Draft → ℕ → ℕ → (Cell → Option ℤ) → Option Fire
mean rules basin number step values =
    let world : World = record { basin = basin; values = values; step = step } in
    let done = rule_done world predefined_functions rules number in
    fire_of done.answer done.trail
