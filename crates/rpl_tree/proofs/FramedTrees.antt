-- A firing depends on the cells alone at which it looks: by recursion on its tree.
use Rattle.rw_base.proofs.Common.{◌≡◌, ◌≢◌, ℕ, ◌+◌, ◌-◌, ◌==◌, ℤ, Bool, true, false, List, [], ◌∷◌, map, Option, Some, None, refl, ap, subst, sym}
use Rattle.rw_base.proofs.Common.{if◌then◌else◌, bytes_eq, none-some}
use Rattle.rw_base.specs.declared.number.Cell.{Cell}
use Rattle.rw_calendar.specs.declared.moment.Moment.{Moment}
use Rattle.rw_model.proofs.Common.{Draft, slot_named}
use Rattle.rw_firing.specs.Fire.{Fire}
use Rattle.rw_firing.specs.declared.fire.FireEnd.{FireEnd}
use Rattle.rw_firing.specs.declared.fire.FireEnd.TheVariants.{Done}
use Rattle.rw_firing.specs.declared.fire.RulePut.{RulePut}
use Rattle.rpl_tree.specs.declared.words.OneWord.{OneWord}
use Rattle.rpl_tree.specs.declared.words.OneWord.TheVariants.{Not, Minus, Known, Length, Month, Day, Year}
use Rattle.rpl_tree.specs.declared.words.TwoWord.{TwoWord}
use Rattle.rpl_tree.specs.declared.words.TwoWord.TheVariants.{Or, And, Equal, Unequal, Less, LessEqual, Greater, GreaterEqual, Plus, Minus as Less_by}
use Rattle.rpl_tree.specs.declared.words.TwoWord.TheVariants.{Times, Divide, Append, Item}
use Rattle.rpl_tree.specs.Value.{Kind, truth_kind, Value, a_truth, kind_of_value, numbers, room_of, weight, weights}
use Rattle.rpl_tree.specs.Outcome.{Answer, Outcome, Trail, after, ended, gives, is_stuck, spent, stuck, value, ◌>>=◌}
use Rattle.rpl_tree.specs.Operators.{append_of, at_most_of, chosen, difference_of, elements_of, equal_of, item_of, length_of, less_of, list_of}
use Rattle.rpl_tree.specs.Operators.{negative_of, not_of, product_of, quotient_of, sum_of, widened}
use Rattle.rpl_tree.specs.World.{convert_of, date_part, known_of, put_of, read_of, slot_value, table_named}
use Rattle.rpl_tree.specs.Tree.{Tree, Trees, literal, truth, now, slot, name, call, brackets, list, choice, bind, each, mapped, one, two, convert, at}
use Rattle.rpl_tree.specs.Tree.{no_trees, tree, Act, Acts, assign, branch, with_name, no_acts, act, Parameter, Declared, rule, function}
use Rattle.rpl_tree.specs.Kinds.{Head, kind_of_type, tree_kind}
use Rattle.rpl_tree.specs.Mean.{Env, Function, acts_done, act_done, arguments_of, both, called, fire_of, function_of, function_heads, kind_in}
use Rattle.rpl_tree.specs.Mean.{known_in, literal_value, mean, named, names_of_env, numbers_for, one_value, param_kinds, predefined_functions}
use Rattle.rpl_tree.specs.Mean.{rule_done, turns, two_value, value_of, values_of, with_arguments, with_elements}
use Rattle.rpl_tree.specs.Frame.{AgreeAt}
use Rattle.rpl_tree.proofs.Framed.{Same, same_after, same_bind, same_both, same_chosen, same_elements, same_itself, same_known, same_numbers}
use Rattle.rpl_tree.proofs.Framed.{same_read, same_then, same_turns, world}

-- a function, and what it does with the values of either
pub record Twin : Type 0 where
  pub head : Head
  pub does_one : List Value → Outcome Value
  pub does_other : List Value → Outcome Value

abbrev twin_itself : Function → Twin
twin_itself f = record { head = f.head; does_one = f.does; does_other = f.does }

abbrev ones : List Twin → List Function
ones [] = []
ones (t ∷ ts) = record { head = t.head; does = t.does_one } ∷ ones ts

abbrev others : List Twin → List Function
others [] = []
others (t ∷ ts) = record { head = t.head; does = t.does_other } ∷ others ts

same_heads : (ts : List Twin) → function_heads (ones ts) ≡ function_heads (others ts)
same_heads [] = refl
same_heads (t ∷ ts) = ap (λ hs. t.head ∷ hs) (same_heads ts)

module _ (one_of other_of : Cell → Option ℤ) where
  abbrev pub Like : {A : Type 0} → Outcome A → Outcome A → Type 0
  Like r s = Same one_of other_of r s

  abbrev AreLike : List Twin → Type 0
  AreLike [] = Unit {0}
  AreLike (t ∷ ts) = ((args : List Value) → Like (t.does_one args) (t.does_other args)) × AreLike ts

  by_test : {A : Type 0} (b : Bool) (r s p q : Outcome A) → Like r s → Like p q → Like (if b then r else p) (if b then s else q)
  by_test true r s p q rs pq = rs
  by_test false r s p q rs pq = pq

  same_called : (ts : List Twin) → AreLike ts → (f : List ℕ) (go on : Function → Outcome Value)
      → ((h : Head) (does did : List Value → Outcome Value) → ((args : List Value) → Like (does args) (did args))
      → Like (go (record { head = h; does = does })) (on (record { head = h; does = did })))
      → Like (called (ones ts) f go) (called (others ts) f on)
  same_called [] likes f go on each_like = same_itself one_of other_of is_stuck
  same_called (t ∷ ts) likes f go on each_like =
      by_test (bytes_eq t.head.name f) (go (record { head = t.head; does = t.does_one })) (on (record { head = t.head; does = t.does_other }))
      (called (ones ts) f go) (called (others ts) f on) (each_like t.head t.does_one t.does_other likes.0) (same_called ts likes.1 f go on each_like)

  same_one : (basin : Draft) (word : OneWord) (e d k j : Outcome Value) → Like e d → Like k j
      → Like (one_value basin word e k) (one_value basin word d j)
  same_one basin Not e d k j ed kj = same_then one_of other_of e d not_of ed
  same_one basin Minus e d k j ed kj = same_then one_of other_of e d negative_of ed
  same_one basin Known e d k j ed kj = kj
  same_one basin Length e d k j ed kj = same_then one_of other_of e d length_of ed
  same_one basin Month e d k j ed kj = same_then one_of other_of e d (date_part basin (λ (m : Moment). m.month)) ed
  same_one basin Day e d k j ed kj = same_then one_of other_of e d (date_part basin (λ (m : Moment). m.day)) ed
  same_one basin Year e d k j ed kj = same_then one_of other_of e d (date_part basin (λ (m : Moment). m.year)) ed

  same_opposite : (l m r s : Outcome Value) (does : Value → Value → Outcome Value) → Like l m → Like r s
      → Like (both l r does >>= not_of) (both m s does >>= not_of)
  same_opposite l m r s does lm rs = same_then one_of other_of (both l r does) (both m s does) not_of (same_both one_of other_of l m r s does lm rs)

  same_two : (word : TwoWord) (l m r s : Outcome Value) → Like l m → Like r s → Like (two_value word l r) (two_value word m s)
  same_two Or l m r s lm rs =
      same_bind one_of other_of l m (λ x. chosen x (gives (a_truth true) 1) (r >>= widened truth_kind))
      (λ x. chosen x (gives (a_truth true) 1) (s >>= widened truth_kind)) lm
      (λ x. same_chosen one_of other_of x (gives (a_truth true) 1) (gives (a_truth true) 1) (r >>= widened truth_kind) (s >>= widened truth_kind)
      (same_itself one_of other_of (gives (a_truth true) 1)) (same_then one_of other_of r s (widened truth_kind) rs))
  same_two And l m r s lm rs =
      same_bind one_of other_of l m (λ x. chosen x (r >>= widened truth_kind) (gives (a_truth false) 1))
      (λ x. chosen x (s >>= widened truth_kind) (gives (a_truth false) 1)) lm
      (λ x. same_chosen one_of other_of x (r >>= widened truth_kind) (s >>= widened truth_kind) (gives (a_truth false) 1) (gives (a_truth false) 1)
      (same_then one_of other_of r s (widened truth_kind) rs) (same_itself one_of other_of (gives (a_truth false) 1)))
  same_two Equal l m r s lm rs = same_both one_of other_of l m r s equal_of lm rs
  same_two Unequal l m r s lm rs = same_opposite l m r s equal_of lm rs
  same_two Less l m r s lm rs = same_both one_of other_of l m r s less_of lm rs
  same_two LessEqual l m r s lm rs = same_both one_of other_of l m r s at_most_of lm rs
  same_two Greater l m r s lm rs = same_opposite l m r s at_most_of lm rs
  same_two GreaterEqual l m r s lm rs = same_opposite l m r s less_of lm rs
  same_two Plus l m r s lm rs = same_both one_of other_of l m r s sum_of lm rs
  same_two Less_by l m r s lm rs = same_both one_of other_of l m r s difference_of lm rs
  same_two Times l m r s lm rs = same_both one_of other_of l m r s product_of lm rs
  same_two Divide l m r s lm rs = same_both one_of other_of l m r s quotient_of lm rs
  same_two Append l m r s lm rs = same_both one_of other_of l m r s append_of lm rs
  same_two Item l m r s lm rs = same_both one_of other_of l m r s item_of lm rs

  -- a part that is given the room of a kind, which is the same in both
  same_widened : (k j : Kind) (r s : Outcome Value) → k ≡ j → Like r s → Like (r >>= widened k) (s >>= widened j)
  same_widened k j r s e rs = subst (λ i. Like (r >>= widened k) (s >>= widened i)) e (same_then one_of other_of r s (widened k) rs)

  -- both parts looked at, by a look that is alike
  same_looks : (l m r s : Outcome Value) (look at_other : Value → Value → Outcome Value) → Like l m → Like r s
      → ((x y : Value) → Like (look x y) (at_other x y)) → Like (both l r look) (both m s at_other)
  same_looks l m r s look at_other lm rs looks =
      same_bind one_of other_of l m (λ x. r >>= (λ y. look x y)) (λ x. s >>= (λ y. at_other x y)) lm
      (λ x. same_bind one_of other_of r s (λ y. look x y) (λ y. at_other x y) rs (looks x))

  module _ (basin : Draft) (step : ℕ) (ts : List Twin) (likes : AreLike ts) where
    abbrev v1 : Env → Tree → Outcome Value
    v1 env t = value_of (world one_of other_of basin step one_of) (ones ts) env t

    abbrev v2 : Env → Tree → Outcome Value
    v2 env t = value_of (world one_of other_of basin step other_of) (others ts) env t

    kinds_same : (env : Env) (t : Tree) → kind_in (world one_of other_of basin step one_of) (ones ts) env t
        ≡ kind_in (world one_of other_of basin step other_of) (others ts) env t
    kinds_same env t = ap (λ hs. tree_kind hs (names_of_env env) t) (same_heads ts)

    abbrev Claim : Tree → Type 0
    Claim t = (env : Env) → Like (v1 env t) (v2 env t)

    on_choice : (c y n : Tree) → Claim c → Claim y → Claim n → Claim (choice c y n)
    on_choice c y n pc py pn env =
        let k1 = kind_in (world one_of other_of basin step one_of) (ones ts) env (choice c y n) in
        let k2 = kind_in (world one_of other_of basin step other_of) (others ts) env (choice c y n) in
        same_bind one_of other_of (v1 env c) (v2 env c)
        (λ x. chosen x (v1 env y >>= widened k1) (v1 env n >>= widened k1))
        (λ x. chosen x (v2 env y >>= widened k2) (v2 env n >>= widened k2)) (pc env)
        (λ x. same_chosen one_of other_of x (v1 env y >>= widened k1) (v2 env y >>= widened k2) (v1 env n >>= widened k1) (v2 env n >>= widened k2)
        (same_widened k1 k2 (v1 env y) (v2 env y) (kinds_same env (choice c y n)) (py env))
        (same_widened k1 k2 (v1 env n) (v2 env n) (kinds_same env (choice c y n)) (pn env)))

    on_bind : (x : List ℕ) (e b : Tree) → Claim e → Claim b → Claim (bind x e b)
    on_bind x e b pe pb env =
        same_bind one_of other_of (v1 env e) (v2 env e)
        (λ v. after (spent (weight (kind_of_value v))) (v1 ((x, v) ∷ env) b))
        (λ v. after (spent (weight (kind_of_value v))) (v2 ((x, v) ∷ env) b)) (pe env)
        (λ v. same_after one_of other_of (spent (weight (kind_of_value v))) (v1 ((x, v) ∷ env) b) (v2 ((x, v) ∷ env) b) (pb ((x, v) ∷ env)))

    abbrev body1 : Env → List ℕ → List ℕ → Tree → Value → Value → Value → Outcome Value
    body1 env x a b first v total = v1 ((a, total) ∷ (x, v) ∷ env) b >>= widened (kind_of_value first)

    abbrev body2 : Env → List ℕ → List ℕ → Tree → Value → Value → Value → Outcome Value
    body2 env x a b first v total = v2 ((a, total) ∷ (x, v) ∷ env) b >>= widened (kind_of_value first)

    abbrev loop1 : Env → List ℕ → List ℕ → Tree → Value → Value → Outcome Value
    loop1 env x a b all first =
        let words : ℕ = weight (kind_of_value first) in
        after (spent (words + 1)) (with_elements (elements_of all) (turns words (body1 env x a b first) first) >>= (λ last. gives last words))

    abbrev loop2 : Env → List ℕ → List ℕ → Tree → Value → Value → Outcome Value
    loop2 env x a b all first =
        let words : ℕ = weight (kind_of_value first) in
        after (spent (words + 1)) (with_elements (elements_of all) (turns words (body2 env x a b first) first) >>= (λ last. gives last words))

    on_loop : (env : Env) (x a : List ℕ) (b : Tree) → Claim b → (all first : Value) → Like (loop1 env x a b all first) (loop2 env x a b all first)
    on_loop env x a b pb all first =
        let words : ℕ = weight (kind_of_value first) in
        same_after one_of other_of (spent (words + 1))
        (with_elements (elements_of all) (turns words (body1 env x a b first) first) >>= (λ last. gives last words))
        (with_elements (elements_of all) (turns words (body2 env x a b first) first) >>= (λ last. gives last words))
        (same_then one_of other_of (with_elements (elements_of all) (turns words (body1 env x a b first) first))
        (with_elements (elements_of all) (turns words (body2 env x a b first) first)) (λ last. gives last words)
        (same_elements one_of other_of (elements_of all) (turns words (body1 env x a b first) first) (turns words (body2 env x a b first) first)
        (same_turns one_of other_of words (body1 env x a b first) (body2 env x a b first)
        (λ v total. same_then one_of other_of (v1 ((a, total) ∷ (x, v) ∷ env) b) (v2 ((a, total) ∷ (x, v) ∷ env) b) (widened (kind_of_value first))
        (pb ((a, total) ∷ (x, v) ∷ env))) first)))

    on_each : (x : List ℕ) (l : Tree) (a : List ℕ) (f b : Tree) → Claim l → Claim f → Claim b → Claim (each x l a f b)
    on_each x l a f b pl pf pb env =
        same_bind one_of other_of (v1 env l) (v2 env l)
        (λ all. v1 env f >>= (λ first. loop1 env x a b all first)) (λ all. v2 env f >>= (λ first. loop2 env x a b all first)) (pl env)
        (λ all. same_bind one_of other_of (v1 env f) (v2 env f) (λ first. loop1 env x a b all first) (λ first. loop2 env x a b all first) (pf env)
        (λ first. on_loop env x a b pb all first))

    abbrev kept : Value → Outcome (List ℤ) → Outcome Value
    kept all r = r >>= (λ zs. gives (numbers (room_of (kind_of_value all)) zs) 0)

    on_mapped : (x : List ℕ) (l b : Tree) → Claim l → Claim b → Claim (mapped x l b)
    on_mapped x l b pl pb env =
        same_bind one_of other_of (v1 env l) (v2 env l)
        (λ all. after (spent 1) (kept all (with_elements (elements_of all) (numbers_for (λ v. v1 ((x, v) ∷ env) b)))))
        (λ all. after (spent 1) (kept all (with_elements (elements_of all) (numbers_for (λ v. v2 ((x, v) ∷ env) b))))) (pl env)
        (λ all. same_after one_of other_of (spent 1) (kept all (with_elements (elements_of all) (numbers_for (λ v. v1 ((x, v) ∷ env) b))))
        (kept all (with_elements (elements_of all) (numbers_for (λ v. v2 ((x, v) ∷ env) b))))
        (same_then one_of other_of (with_elements (elements_of all) (numbers_for (λ v. v1 ((x, v) ∷ env) b)))
        (with_elements (elements_of all) (numbers_for (λ v. v2 ((x, v) ∷ env) b))) (λ zs. gives (numbers (room_of (kind_of_value all)) zs) 0)
        (same_elements one_of other_of (elements_of all) (numbers_for (λ v. v1 ((x, v) ∷ env) b)) (numbers_for (λ v. v2 ((x, v) ∷ env) b))
        (same_numbers one_of other_of (λ v. v1 ((x, v) ∷ env) b) (λ v. v2 ((x, v) ∷ env) b) (λ v. pb ((x, v) ∷ env))))))

    abbrev a1 : Env → List Kind → Trees → Outcome (List Value)
    a1 env ks es = arguments_of (world one_of other_of basin step one_of) (ones ts) env ks es

    abbrev a2 : Env → List Kind → Trees → Outcome (List Value)
    a2 env ks es = arguments_of (world one_of other_of basin step other_of) (others ts) env ks es

    on_call : (f : List ℕ) (es : Trees) → ((env : Env) (ks : List Kind) → Like (a1 env ks es) (a2 env ks es)) → Claim (call f es)
    on_call f es pes env =
        same_called ts likes f (λ known. a1 env known.head.takes es >>= known.does) (λ known. a2 env known.head.takes es >>= known.does)
        (λ h does did like. same_bind one_of other_of (a1 env h.takes es) (a2 env h.takes es) does did (pes env h.takes) like)

    abbrev l1 : Env → Trees → Outcome (List Value)
    l1 env es = values_of (world one_of other_of basin step one_of) (ones ts) env es

    abbrev l2 : Env → Trees → Outcome (List Value)
    l2 env es = values_of (world one_of other_of basin step other_of) (others ts) env es

    abbrev n1 : Env → Tree → Outcome Value
    n1 env t = known_in (world one_of other_of basin step one_of) (ones ts) env t

    abbrev n2 : Env → Tree → Outcome Value
    n2 env t = known_in (world one_of other_of basin step other_of) (others ts) env t

    on_tree : (e : Tree) (es : Trees) → Claim e → ((env : Env) → Like (l1 env es) (l2 env es)) → (env : Env)
        → Like (l1 env (tree e es)) (l2 env (tree e es))
    on_tree e es pe pes env =
        same_bind one_of other_of (v1 env e) (v2 env e) (λ v. l1 env es >>= (λ vs. gives (v ∷ vs) 0))
        (λ v. l2 env es >>= (λ vs. gives (v ∷ vs) 0)) (pe env)
        (λ v. same_then one_of other_of (l1 env es) (l2 env es) (λ vs. gives (v ∷ vs) 0) (pes env))

    on_argument : (e : Tree) (es : Trees) → Claim e → ((env : Env) (ks : List Kind) → Like (a1 env ks es) (a2 env ks es))
        → (env : Env) (k : Kind) (ks : List Kind) → Like (a1 env (k ∷ ks) (tree e es)) (a2 env (k ∷ ks) (tree e es))
    on_argument e es pe pes env k ks =
        same_bind one_of other_of (v1 env e >>= widened k) (v2 env e >>= widened k)
        (λ v. a1 env ks es >>= (λ vs. gives (v ∷ vs) 0)) (λ v. a2 env ks es >>= (λ vs. gives (v ∷ vs) 0))
        (same_then one_of other_of (v1 env e) (v2 env e) (widened k) (pe env))
        (λ v. same_then one_of other_of (a1 env ks es) (a2 env ks es) (λ vs. gives (v ∷ vs) 0) (pes env ks))

    mutual
      pub same_value : (t : Tree) (env : Env) → Like (v1 env t) (v2 env t)
      same_value (literal n unit) env = same_itself one_of other_of (literal_value n unit)
      same_value (truth b) env = same_itself one_of other_of (gives (a_truth b) 1)
      same_value now env = λ alike. refl
      same_value (slot o s) env = same_itself one_of other_of (slot_value basin o s)
      same_value (name x) env = same_itself one_of other_of (named env x)
      same_value (call f es) env = on_call f es (λ env2 ks. same_arguments es env2 ks) env
      same_value (brackets t) env = same_value t env
      same_value (list es) env = same_then one_of other_of (l1 env es) (l2 env es) list_of (same_list es env)
      same_value (choice c y n) env = on_choice c y n (same_value c) (same_value y) (same_value n) env
      same_value (bind x e b) env = on_bind x e b (same_value e) (same_value b) env
      same_value (each x l a f b) env = on_each x l a f b (same_value l) (same_value f) (same_value b) env
      same_value (mapped x l b) env = on_mapped x l b (same_value l) (same_value b) env
      same_value (one word e) env = same_one basin word (v1 env e) (v2 env e) (n1 env e) (n2 env e) (same_value e env) (same_knowing e env)
      same_value (two word l r) env = same_two word (v1 env l) (v2 env l) (v1 env r) (v2 env r) (same_value l env) (same_value r env)
      same_value (convert word o e) env = same_then one_of other_of (v1 env e) (v2 env e) (convert_of word (table_named basin o)) (same_value e env)
      same_value (at s d) env =
          same_looks (v1 env s) (v2 env s) (v1 env d) (v2 env d) (read_of (world one_of other_of basin step one_of))
          (read_of (world one_of other_of basin step other_of))
          (same_value s env) (same_value d env) (same_read one_of other_of basin step)

      same_knowing : (t : Tree) (env : Env) → Like (n1 env t) (n2 env t)
      same_knowing (at s d) env =
          same_looks (v1 env s) (v2 env s) (v1 env d) (v2 env d) (known_of (world one_of other_of basin step one_of))
          (known_of (world one_of other_of basin step other_of))
          (same_value s env) (same_value d env) (same_known one_of other_of basin step)
      same_knowing (literal n unit) env = same_itself one_of other_of is_stuck
      same_knowing (truth b) env = same_itself one_of other_of is_stuck
      same_knowing now env = same_itself one_of other_of is_stuck
      same_knowing (slot o s) env = same_itself one_of other_of is_stuck
      same_knowing (name x) env = same_itself one_of other_of is_stuck
      same_knowing (call f es) env = same_itself one_of other_of is_stuck
      same_knowing (brackets t) env = same_itself one_of other_of is_stuck
      same_knowing (list es) env = same_itself one_of other_of is_stuck
      same_knowing (choice c y n) env = same_itself one_of other_of is_stuck
      same_knowing (bind x e b) env = same_itself one_of other_of is_stuck
      same_knowing (each x l a f b) env = same_itself one_of other_of is_stuck
      same_knowing (mapped x l b) env = same_itself one_of other_of is_stuck
      same_knowing (one word e) env = same_itself one_of other_of is_stuck
      same_knowing (two word l r) env = same_itself one_of other_of is_stuck
      same_knowing (convert word o e) env = same_itself one_of other_of is_stuck

      same_list : (es : Trees) (env : Env) → Like (l1 env es) (l2 env es)
      same_list no_trees env = same_itself one_of other_of (gives [] 0)
      same_list (tree e es) env = on_tree e es (same_value e) (same_list es) env

      same_arguments : (es : Trees) (env : Env) (ks : List Kind) → Like (a1 env ks es) (a2 env ks es)
      same_arguments no_trees env [] = same_itself one_of other_of (gives [] 0)
      same_arguments no_trees env (k ∷ ks) = same_itself one_of other_of is_stuck
      same_arguments (tree e es) env [] = same_itself one_of other_of is_stuck
      same_arguments (tree e es) env (k ∷ ks) = on_argument e es (same_value e) (same_arguments es) env k ks

    abbrev d1 : Env → Acts → Outcome (Unit {0})
    d1 env body = acts_done (world one_of other_of basin step one_of) (ones ts) env body

    abbrev d2 : Env → Acts → Outcome (Unit {0})
    d2 env body = acts_done (world one_of other_of basin step other_of) (others ts) env body

    abbrev s1 : Env → Act → Outcome (Unit {0})
    s1 env a = act_done (world one_of other_of basin step one_of) (ones ts) env a

    abbrev s2 : Env → Act → Outcome (Unit {0})
    s2 env a = act_done (world one_of other_of basin step other_of) (others ts) env a

    mutual
      same_act : (a : Act) (env : Env) → Like (s1 env a) (s2 env a)
      same_act (assign o s ahead e) env =
          same_then one_of other_of (v1 env e) (v2 env e) (put_of basin (slot_named basin.objects o s) ahead) (same_value e env)
      same_act (branch c p q) env =
          same_bind one_of other_of (v1 env c) (v2 env c) (λ x. chosen x (d1 env p) (d1 env q)) (λ x. chosen x (d2 env p) (d2 env q))
          (same_value c env)
          (λ x. same_chosen one_of other_of x (d1 env p) (d2 env p) (d1 env q) (d2 env q) (same_acts p env) (same_acts q env))
      same_act (with_name x e body) env =
          same_bind one_of other_of (v1 env e) (v2 env e) (λ v. after (spent (weight (kind_of_value v))) (d1 ((x, v) ∷ env) body))
          (λ v. after (spent (weight (kind_of_value v))) (d2 ((x, v) ∷ env) body)) (same_value e env)
          (λ v. same_after one_of other_of (spent (weight (kind_of_value v))) (d1 ((x, v) ∷ env) body) (d2 ((x, v) ∷ env) body)
          (same_acts body ((x, v) ∷ env)))

      pub same_acts : (body : Acts) (env : Env) → Like (d1 env body) (d2 env body)
      same_acts no_acts env = same_itself one_of other_of (gives tt 0)
      same_acts (act a rest) env =
          same_bind one_of other_of (s1 env a) (s2 env a) (λ done. d1 env rest) (λ done. d2 env rest) (same_act a env) (λ done. same_acts rest env)

    -- a function of the ruleset
    abbrev twin_of : List ℕ → List Parameter → Kind → Tree → Twin
    twin_of x params result body =
        let one_does = function_of (world one_of other_of basin step one_of) (ones ts) x params result body in
        let other_does = function_of (world one_of other_of basin step other_of) (others ts) x params result body in
        record { head = one_does.head; does_one = one_does.does; does_other = other_does.does }

    same_function : (x : List ℕ) (params : List Parameter) (result : Kind) (body : Tree) (args : List Value)
        → Like ((twin_of x params result body).does_one args) ((twin_of x params result body).does_other args)
    same_function x params result body args =
        let env = with_arguments params args in
        same_after one_of other_of (spent (weights (param_kinds params) + 1)) (v1 env body >>= widened result) (v2 env body >>= widened result)
        (same_then one_of other_of (v1 env body) (v2 env body) (widened result) (same_value body env))

  module _ (basin : Draft) (step : ℕ) where
    by_number : (b : Bool) (r s p q : Outcome (Unit {0})) → Like r s → Like p q → Like (if b then r else p) (if b then s else q)
    by_number b r s p q rs pq = by_test b r s p q rs pq

    same_rule : (ds : List Declared) (ts : List Twin) → AreLike ts → (number : ℕ)
        → Like (rule_done (world one_of other_of basin step one_of) (ones ts) ds number)
        (rule_done (world one_of other_of basin step other_of) (others ts) ds number)
    same_rule [] ts likes number = same_itself one_of other_of is_stuck
    same_rule (rule x body ∷ ds) ts likes number =
        by_number (number == 1) (d1 basin step ts likes [] body) (d2 basin step ts likes [] body)
        (rule_done (world one_of other_of basin step one_of) (ones ts) ds (number - 1))
        (rule_done (world one_of other_of basin step other_of) (others ts) ds (number - 1))
        (same_acts basin step ts likes body []) (same_rule ds ts likes (number - 1))
    same_rule (function x params result body ∷ ds) ts likes number =
        same_rule ds (twin_of basin step ts likes x params (kind_of_type result) body ∷ ts)
        (same_function basin step ts likes x params (kind_of_type result) body, likes) number

-- ---- firings

abbrev predefined_twins : List Twin
predefined_twins = map twin_itself predefined_functions

likes_itself : (values other : Cell → Option ℤ) (fs : List Function) → AreLike values other (map twin_itself fs)
likes_itself values other [] = tt
likes_itself values other (f ∷ fs) = (λ args. same_itself values other (f.does args), likes_itself values other fs)

abbrev pub looked_in : Option Fire → List Cell
looked_in None = []
looked_in (Some fire) = fire.looked

pub looked_of : (a : Answer (Unit {0})) (t : Trail) (fire : Fire) → fire_of a t ≡ Some fire → t.looked ≡ fire.looked
looked_of (value u) t fire e = ap looked_in e
looked_of (ended u) t fire e = ap looked_in e
looked_of stuck t fire e = absurd (none-some fire e)

-- a firing depends on the cells alone at which it looks
pub framed : (rules : List Declared) (basin : Draft) (number step : ℕ) (values other : Cell → Option ℤ) (fire : Fire)
    → mean rules basin number step values ≡ Some fire → AgreeAt values other fire.looked → mean rules basin number step other ≡ Some fire
framed rules basin number step values other fire e alike =
    let r : Outcome (Unit {0}) = rule_done (world values other basin step values) predefined_functions rules number in
    let s : Outcome (Unit {0}) = rule_done (world values other basin step other) predefined_functions rules number in
    let same : r ≡ s = same_rule values other basin step rules predefined_twins (likes_itself values other predefined_functions) number
    (subst (λ cells. AgreeAt values other cells) (sym (looked_of r.answer r.trail fire e)) alike) in
    subst (λ (z : Outcome (Unit {0})). fire_of z.answer z.trail ≡ Some fire) same e

-- ---- a firing that isn't done

abbrev pub puts_in : Option Fire → List RulePut
puts_in None = []
puts_in (Some fire) = fire.puts

abbrev pub end_in : Option Fire → FireEnd
end_in None = Done
end_in (Some fire) = fire.end

pub asks_nothing : (a : Answer (Unit {0})) (t : Trail) (fire : Fire) → fire_of a t ≡ Some fire → fire.end ≢ Done → fire.puts ≡ []
asks_nothing (value u) t fire e isnt = absurd (isnt (sym (ap end_in e)))
asks_nothing (ended u) t fire e isnt = sym (ap puts_in e)
asks_nothing stuck t fire e isnt = absurd (none-some fire e)

pub silent : (rules : List Declared) (basin : Draft) (number step : ℕ) (values : Cell → Option ℤ) (fire : Fire)
    → mean rules basin number step values ≡ Some fire → fire.end ≢ Done → fire.puts ≡ []
silent rules basin number step values fire e isnt =
    let r : Outcome (Unit {0}) = rule_done (record { basin = basin; values = values; step = step }) predefined_functions rules number in
    asks_nothing r.answer r.trail fire e isnt
