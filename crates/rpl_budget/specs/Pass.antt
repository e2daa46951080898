-- What one pass over a tree finds, from the leaves on: the kind of each expression, and what it adds to the budgets.
use Rattle.std.specs.Prelude.{ℕ, ◌+◌, ◌*◌, max, List, [], ◌∷◌, map, bytes_eq, if◌then◌else◌}
use Rattle.rpl_tree.specs.declared.words.OneWord.{OneWord}
use Rattle.rpl_tree.specs.declared.words.OneWord.TheVariants.{Known}
use Rattle.rpl_tree.specs.declared.words.TwoWord.{TwoWord}
use Rattle.rpl_tree.specs.declared.words.TwoWord.TheVariants.{Or, And, Unequal, Greater, GreaterEqual, Append}
use Rattle.rpl_tree.specs.Budget.{Budget, budget, capped, limits}
use Rattle.rpl_tree.specs.Kinds.{Head, Names, count_of, join, kind_named, kind_of_type, one_kind, two_kind}
use Rattle.rpl_tree.specs.Cost.{param_names}
use Rattle.rpl_tree.specs.Mean.{Function, param_kinds, predefined_functions}
use Rattle.rpl_tree.specs.Tree.{Tree, Trees, literal, truth, now, slot, name, call, brackets, list, choice, bind, each, mapped, one, two, convert, at, no_trees, tree, Act, Acts, assign, branch, with_name, no_acts, act, Declared, rule, function}
use Rattle.rpl_tree.specs.Value.{Kind, date_kind, element_of, list_kind, number_kind, numbers_kind, room_of, slot_kind, truth_kind, weight, weights}
use Rattle.rpl_budget.specs.declared.load.Load.{Load}
use Rattle.rpl_budget.specs.Loads.{above, load_both, either, fetched, fitted, load_kept, load, local, locals_alone, looked, no_load, one_put, load_standing, steps, load_times, unspent}

-- a function, how many words its parameters take, and the most that a call of it comes to, its arguments apart
pub record Priced : Type 0 where
  pub head : Head
  pub room : ℕ
  pub most : Budget

abbrev pub priced_heads : List Priced → List Head
priced_heads functions = map (λ (f : Priced). f.head) functions

-- what is called where no function has the name
abbrev pub no_function : Priced
no_function = record { head = record { name = []; takes = []; result = number_kind }; room = 0; most = budget 0 0 0 0 }

abbrev pub priced_named : List Priced → List ℕ → Priced
priced_named [] f = no_function
priced_named (known ∷ functions) f = if bytes_eq known.head.name f then known else priced_named functions f

-- an expression's kind, and what it adds
pub record Measured : Type 0 where
  pub kind : Kind
  pub load : Load

abbrev pub measured : Kind → Load → Measured
measured kind load = record { kind = kind; load = load }

-- ---- each form, by its parts

abbrev pub made : Kind → Measured
made kind = measured kind (fetched kind)

abbrev pub measured_leaf : Kind → Measured
measured_leaf kind = measured kind (fetched number_kind)

-- of a call of a function, whose arguments are there
abbrev pub load_of_call : Priced → Load
load_of_call f =
    load f.most.count f.most.looks f.most.puts
    (max (capped limits.words (f.room + f.most.words)) (capped limits.words (weight f.head.result))) 0

-- an argument and those behind it, for parameters of these kinds
abbrev pub argument : List Kind → Measured → Load → Load
argument [] value others = load_both (locals_alone value.load) others
argument (kind ∷ kinds) value others = load_both (fitted kind value.kind value.load) (above (weight kind) others)

abbrev pub kinds_but_first : List Kind → List Kind
kinds_but_first [] = []
kinds_but_first (kind ∷ kinds) = kinds

-- an element and those behind it; their kind is that of the first
abbrev pub measured_element : Measured → Measured → Measured
measured_element value others = measured value.kind (load_both value.load (above 1 others.load))

abbrev pub measured_list : ℕ → Measured → Measured
measured_list count all = measured (list_kind count all.kind) (load_both all.load (load_both (steps (count + 1)) (load_standing (count + 1))))

-- one of two values, each given the room of their kind
abbrev pub one_of : Kind → Measured → Measured → Load
one_of kind first second = either (fitted kind first.kind first.load) (fitted kind second.kind second.load)

abbrev pub measured_choice : Measured → Measured → Measured → Measured
measured_choice test first second =
    let kind = join first.kind second.kind in
    measured kind (load_both test.load (load_both (one_of kind first second) (steps 3)))

-- a value under a name, and what is done with it
abbrev pub measured_binding : Measured → Load → Load
measured_binding value body = load_both value.load (load_both (load_kept value.kind) body)

-- the turns of a loop over a list
abbrev pub load_of_turns : Kind → Kind → Measured → Load
load_of_turns all total body =
    above (room_of all + 3) (load_times (room_of all) (load_both (fitted total body.kind body.load) (steps (weight total + 1))))

abbrev pub load_of_loop : Measured → Measured → Measured → Load
load_of_loop all first body =
    let total = first.kind in
    load_both (load_both all.load (above (weight all.kind) first.load))
    (load_both (load_both (steps (2 * weight total + 1)) (load_both (local (element_of all.kind)) (local total))) (load_of_turns all.kind total body))

abbrev pub mapped_over : Measured → Measured → Load
mapped_over all body =
    load_both all.load (load_both (load_both (steps 1) (local (element_of all.kind)))
    (above (2 * room_of all.kind + 4) (load_times (room_of all.kind) (load_both body.load (steps 1)))))

-- KNOWN does with a slot and a date what a look at them does
abbrev pub known_load : Tree → Load → Load
known_load (at s d) load = load
known_load _ load = unspent load

abbrev pub one_load : OneWord → Tree → Load → Load
one_load Known e load = known_load e load
one_load _ e load = load_both load (steps 1)

abbrev pub operation_weight : TwoWord → Kind → ℕ
operation_weight Unequal kind = 2
operation_weight Greater kind = 2
operation_weight GreaterEqual kind = 2
operation_weight Append kind = room_of kind + 2
operation_weight _ kind = 1

-- a second value is made while the first one waits, but OR and AND have let go of it
abbrev pub two_load : TwoWord → Measured → Load → Load
two_load Or l r = load_both l.load (load_both (either (steps 1) r) (steps 3))
two_load And l r = load_both l.load (load_both (either (steps 1) r) (steps 3))
two_load word l r = load_both l.load (load_both (above (weight l.kind) r) (steps (operation_weight word l.kind)))

-- a test, and one of two
abbrev pub load_of_branches : Load → Load → Load → Load
load_of_branches test first second = load_both test (load_both (either first second) (steps 3))

-- ---- all of a tree

module _ (functions : List Priced) where
  abbrev mutual
    pub pass : Names → Tree → Measured
    pass names (literal n unit) = measured_leaf number_kind
    pass names (truth b) = measured_leaf truth_kind
    pass names now = measured_leaf date_kind
    pass names (slot o s) = measured_leaf slot_kind
    pass names (name x) = made (kind_named names x)
    pass names (call f ts) =
        let known = priced_named functions f in
        measured known.head.result (load_both (pass_arguments names known.head.takes ts) (load_of_call known))
    pass names (brackets t) = pass names t
    pass names (list ts) = measured_list (count_of ts) (pass_all names ts)
    pass names (choice c y n) = measured_choice (pass names c) (pass names y) (pass names n)
    pass names (bind x e b) =
        let value = pass names e in
        let body = pass ((x, value.kind) ∷ names) b in
        measured body.kind (measured_binding value body.load)
    pass names (each x l a f b) =
        let all = pass names l in
        let first = pass names f in
        measured first.kind (load_of_loop all first (pass ((a, first.kind) ∷ (x, element_of all.kind) ∷ names) b))
    pass names (mapped x l b) =
        let all = pass names l in
        measured (numbers_kind (room_of all.kind)) (mapped_over all (pass ((x, element_of all.kind) ∷ names) b))
    pass names (one word e) = measured (one_kind word) (one_load word e (pass names e).load)
    pass names (two word l r) =
        let left = pass names l in
        let right = pass names r in
        measured (two_kind word left.kind right.kind) (two_load word left right.load)
    pass names (convert word o e) = measured number_kind (load_both (pass names e).load (steps 1))
    pass names (at s d) = measured number_kind (looked (pass names s).load (pass names d).load)

    pub pass_all : Names → Trees → Measured
    pass_all names no_trees = measured number_kind no_load
    pass_all names (tree t ts) = measured_element (pass names t) (pass_all names ts)

    pub pass_arguments : Names → List Kind → Trees → Load
    pass_arguments names kinds no_trees = no_load
    pass_arguments names kinds (tree t ts) = argument kinds (pass names t) (pass_arguments names (kinds_but_first kinds) ts)

  abbrev mutual
    pub pass_act : Names → Act → Load
    pass_act names (assign o s ahead e) = load_both (pass names e).load one_put
    pass_act names (branch c first second) = load_of_branches (pass names c).load (pass_acts names first) (pass_acts names second)
    pass_act names (with_name x e body) = let value = pass names e in measured_binding value (pass_acts ((x, value.kind) ∷ names) body)

    pub pass_acts : Names → Acts → Load
    pass_acts names no_acts = no_load
    pass_acts names (act a rest) = load_both (pass_act names a) (pass_acts names rest)

-- ---- all declarations

abbrev pub budget_of_load : Load → Budget
budget_of_load a = budget a.count a.looks a.puts (capped limits.words (a.locals + a.height))

abbrev pub function_budget : ℕ → Kind → Measured → Budget
function_budget room result body =
    let a = fitted result body.kind body.load in
    budget a.count a.looks a.puts
    (capped limits.words (room + capped limits.words (a.locals + a.height)))

-- what a call of it comes to, where its body comes to this: its parameters are kept, too
abbrev pub call_budget : ℕ → Budget → Budget
call_budget room inside = budget (capped limits.count (room + 1 + inside.count)) inside.looks inside.puts inside.words

-- how many words values of these kinds take
abbrev pub room_for : List Kind → ℕ
room_for kinds = capped limits.words (weights kinds)

abbrev pub predefined_priced : List Priced
predefined_priced = map (λ (f : Function). record { head = f.head; room = room_for f.head.takes; most = budget 1 0 0 0 }) predefined_functions

abbrev pub priced_of_numbers : List ℕ → List Kind → Priced
priced_of_numbers called_so takes =
    record { head = record { name = called_so; takes = takes; result = number_kind }; room = room_for takes; most = budget 1 0 0 0 }

-- of a declaration that may call these
abbrev pub declared_budget : List Priced → Declared → Budget
declared_budget functions (rule called_so body) = budget_of_load (pass_acts functions [] body)
declared_budget functions (function called_so params result body) =
    function_budget (room_for (param_kinds params)) (kind_of_type result) (pass functions (param_names params) body)

-- what those that follow may call
abbrev pub and_priced : List Priced → Declared → List Priced
and_priced functions (rule called_so body) = functions
and_priced functions (function called_so params result body) =
    let takes = param_kinds params in
    let kind = kind_of_type result in
    let room = room_for takes in
    let inside = function_budget room kind (pass functions (param_names params) body) in
    record { head = record { name = called_so; takes = takes; result = kind }; room = room; most = call_budget room inside } ∷ functions

abbrev pub passed_from : List Priced → List Declared → List Budget
passed_from functions [] = []
passed_from functions (d ∷ rest) = declared_budget functions d ∷ passed_from (and_priced functions d) rest
