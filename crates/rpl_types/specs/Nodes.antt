-- The types of a declaration's nodes, or the first refusal. Nodes are counted from 1, each before its parts, and these from left to
-- right; but a node is judged after its parts.
use Rattle.std.specs.Prelude.{ℕ, ◌+◌, List, [], ◌∷◌, ◌++◌, length, Option, Some, None, is_some, Result, Ok, Err}
use Rattle.rw_model.specs.Draft.{Draft}
use Rattle.rw_model.specs.Objects.{object_named}
use Rattle.rpl_tree.specs.World.{table_named}
use Rattle.rpl_tree.specs.Tree.{Tree, Trees, literal, truth, now, slot, name, call, brackets, list, choice, bind, each, mapped, one, two, convert, at, no_trees, tree, Act, Acts, assign, branch, with_name, no_acts, act}
use Rattle.rpl_tree.specs.declared.rpl_type.RplType.{RplType}
use Rattle.rpl_tree.specs.declared.rpl_type.RplType.TheVariants.{Boolean, Datetime}
use Rattle.rpl_types.specs.declared.type_kind.TypeKind.{TypeKind}
use Rattle.rpl_types.specs.Fits.{Typed}
use Rattle.rpl_types.specs.Forms.{TypeScope, choice_type, condition_misfit, convert_type, element_type, is_look, list_type, literal_type, look_type, mapped_type, name_type, one_type, slot_type, target_misfit, total_type, two_type}
use Rattle.rpl_types.specs.Functions.{Callable, call_type}

-- what is wrong at which node
pub record NodeRefusal : Type 0 where
  pub kind : TypeKind
  pub node : ℕ

abbrev pub Judged : Type 0 → Type 0
Judged A = Result A NodeRefusal

infixl 10 ◌>>=◌
abbrev pub ◌>>=◌ : {A B : Type 0} → Judged A → (A → Judged B) → Judged B
(Ok x) >>= f = f x
(Err refusal) >>= f = Err refusal

abbrev pub at_node : ℕ → {A : Type 0} → Result A TypeKind → Judged A
at_node n (Ok x) = Ok x
at_node n (Err kind) = Err (record { kind = kind; node = n })

-- the types of the nodes in order; a statement has none
abbrev pub Types : Type 0
Types = List (Option RplType)

-- the type of an expression, and those of the nodes below it
pub record Expression : Type 0 where
  pub own : RplType
  pub below : Types

abbrev pub nodes : Expression → Types
nodes e = Some e.own ∷ e.below

-- the types of expressions in a row, and those of all their nodes
pub record RowTypes : Type 0 where
  pub types : List RplType
  pub all : Types

-- the expression of a number, behind the nodes below it
abbrev pub expression : ℕ → Types → Typed → Judged Expression
expression n below t = at_node n t >>= λ own. Ok (record { own = own; below = below })

-- a statement of a number, behind the nodes below it
abbrev pub statement : ℕ → Types → Option TypeKind → Judged Types
statement n below None = Ok (None ∷ below)
statement n below (Some kind) = Err (record { kind = kind; node = n })

-- the number of the node that follows these
abbrev pub node_behind : ℕ → Types → ℕ
node_behind n types = n + length types

module _ (basin : Draft) (callable : Callable) where
  abbrev mutual
    -- of the expression whose first node has the number
    pub types_of : TypeScope → ℕ → Tree → Judged Expression
    types_of scope n (literal z unit) = expression n [] (literal_type z unit)
    types_of scope n (truth b) = expression n [] (Ok Boolean)
    types_of scope n now = expression n [] (Ok Datetime)
    types_of scope n (slot o s) = expression n [] (slot_type basin o s)
    types_of scope n (name x) = expression n [] (name_type scope x)
    types_of scope n (call f ts) =
        types_of_all scope (n + 1) ts >>= λ row. expression n row.all (call_type callable f row.types)
    types_of scope n (brackets t) = types_of scope (n + 1) t >>= λ e. expression n (nodes e) (Ok e.own)
    types_of scope n (list ts) = types_of_all scope (n + 1) ts >>= λ row. expression n row.all (list_type row.types)
    types_of scope n (choice c y d) =
        types_of scope (n + 1) c >>= λ first.
        types_of scope (node_behind (n + 1) (nodes first)) y >>= λ second.
        types_of scope (node_behind (n + 1) (nodes first ++ nodes second)) d >>= λ third.
        expression n (nodes first ++ nodes second ++ nodes third) (choice_type first.own second.own third.own)
    types_of scope n (bind x e b) =
        types_of scope (n + 1) e >>= λ value.
        types_of ((x, value.own) ∷ scope) (node_behind (n + 1) (nodes value)) b >>= λ body.
        expression n (nodes value ++ nodes body) (Ok body.own)
    types_of scope n (each x l a f b) =
        types_of scope (n + 1) l >>= λ all.
        types_of scope (node_behind (n + 1) (nodes all)) f >>= λ total.
        at_node n (element_type all.own) >>= λ item.
        types_of ((a, total.own) ∷ (x, item) ∷ scope) (node_behind (n + 1) (nodes all ++ nodes total)) b >>= λ body.
        expression n (nodes all ++ nodes total ++ nodes body) (total_type total.own body.own)
    types_of scope n (mapped x l b) =
        types_of scope (n + 1) l >>= λ all.
        at_node n (element_type all.own) >>= λ item.
        types_of ((x, item) ∷ scope) (node_behind (n + 1) (nodes all)) b >>= λ body.
        expression n (nodes all ++ nodes body) (mapped_type all.own body.own)
    types_of scope n (one word e) =
        types_of scope (n + 1) e >>= λ part. expression n (nodes part) (one_type word (is_look e) part.own)
    types_of scope n (two word l r) =
        types_of scope (n + 1) l >>= λ left.
        types_of scope (node_behind (n + 1) (nodes left)) r >>= λ right.
        expression n (nodes left ++ nodes right) (two_type word left.own right.own)
    types_of scope n (convert word o e) =
        types_of scope (n + 1) e >>= λ part.
        expression n (nodes part) (convert_type word (is_some (object_named basin.objects o)) (is_some (table_named basin o)) part.own)
    types_of scope n (at s d) =
        types_of scope (n + 1) s >>= λ place.
        types_of scope (node_behind (n + 1) (nodes place)) d >>= λ date.
        expression n (nodes place ++ nodes date) (look_type place.own date.own)

    pub types_of_all : TypeScope → ℕ → Trees → Judged RowTypes
    types_of_all scope n no_trees = Ok (record { types = []; all = [] })
    types_of_all scope n (tree t ts) =
        types_of scope n t >>= λ first.
        types_of_all scope (node_behind n (nodes first)) ts >>= λ rest.
        Ok (record { types = first.own ∷ rest.types; all = nodes first ++ rest.all })

  abbrev mutual
    -- of the statement whose first node has the number
    pub types_of_act : TypeScope → ℕ → Act → Judged Types
    types_of_act scope n (assign o s ahead e) =
        types_of scope (n + 1) e >>= λ value. statement n (nodes value) (target_misfit basin o s ahead value.own)
    types_of_act scope n (branch c first second) =
        types_of scope (n + 1) c >>= λ test.
        types_of_acts scope (node_behind (n + 1) (nodes test)) first >>= λ yes.
        types_of_acts scope (node_behind (n + 1) (nodes test ++ yes)) second >>= λ no.
        statement n (nodes test ++ yes ++ no) (condition_misfit test.own)
    types_of_act scope n (with_name x e body) =
        types_of scope (n + 1) e >>= λ value.
        types_of_acts ((x, value.own) ∷ scope) (node_behind (n + 1) (nodes value)) body >>= λ inside.
        statement n (nodes value ++ inside) None

    pub types_of_acts : TypeScope → ℕ → Acts → Judged Types
    types_of_acts scope n no_acts = Ok []
    types_of_acts scope n (act a rest) =
        types_of_act scope n a >>= λ first.
        types_of_acts scope (node_behind n first) rest >>= λ others.
        Ok (first ++ others)
