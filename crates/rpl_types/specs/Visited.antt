-- Within the crate: how the types of nodes are found on one way over a tree: a node's place in the table is kept free before its parts, and filled
-- after them.
use Rattle.std.specs.Prelude.{ℕ, ◌+◌, ◌-◌, List, [], ◌∷◌, ◌++◌, length, Option, Some, None, is_some, slice_set, Ok, Err}
use Rattle.rw_model.specs.Draft.{Draft}
use Rattle.rw_model.specs.Objects.{object_named}
use Rattle.rpl_tree.specs.World.{table_named}
use Rattle.rpl_tree.specs.Tree.{Tree, Trees, literal, truth, now, slot, name, call, brackets, list, choice, bind, each, mapped, one, two, convert, at, no_trees, tree, Act, Acts, assign, branch, with_name, no_acts, act}
use Rattle.rpl_tree.specs.declared.rpl_type.RplType.{RplType}
use Rattle.rpl_tree.specs.declared.rpl_type.RplType.TheVariants.{Boolean, Datetime}
use Rattle.rpl_types.specs.declared.type_kind.TypeKind.{TypeKind}
use Rattle.rpl_types.specs.Fits.{Typed}
use Rattle.rpl_types.specs.Forms.{TypeScope, choice_type, condition_misfit, convert_type, element_type, is_look, list_type, literal_type, look_type, mapped_type, name_type, one_type, slot_type, target_misfit, total_type, two_type}
use Rattle.rpl_types.specs.Functions.{Callable, call_type}
use Rattle.rpl_types.specs.Nodes.{Judged, Types, at_node, ◌>>=◌}

-- the names that can be used, innermost first, and the types of the nodes so far
pub record Progress : Type 0 where
  pub scope : TypeScope
  pub types : Types

-- with a node whose parts come next
abbrev pub node_reserved : Progress → Progress
node_reserved p = record { scope = p.scope; types = p.types ++ None ∷ [] }

abbrev pub with_variable : List ℕ → RplType → Progress → Progress
with_variable x t p = record { scope = (x, t) ∷ p.scope; types = p.types }

abbrev pub outer_scope : TypeScope → TypeScope
outer_scope [] = []
outer_scope (variable ∷ scope) = scope

abbrev pub without_variable : Progress → Progress
without_variable p = record { scope = outer_scope p.scope; types = p.types }

-- the type of an expression, and what is known behind it
pub record Visit : Type 0 where
  pub own : RplType
  pub progress : Progress

abbrev pub visit : RplType → Progress → Visit
visit t p = record { own = t; progress = p }

-- the number of the node that comes next
abbrev pub next_node : Progress → ℕ
next_node p = length p.types + 1

abbrev pub node_filled : ℕ → Progress → RplType → Visit
node_filled node p t = visit t (record { scope = p.scope; types = slice_set p.types (node - 1) (Some t) })

-- the node has the type, if there is one
abbrev pub node_settled : ℕ → Progress → Typed → Judged Visit
node_settled node p t = at_node node t >>= λ own. Ok (node_filled node p own)

abbrev pub leaf : Progress → Typed → Judged Visit
leaf p t = node_settled (next_node p) (node_reserved p) t

-- the types of expressions in a row, and what is known behind them
pub record RowVisit : Type 0 where
  pub types : List RplType
  pub progress : Progress

abbrev pub row_visit : List RplType → Progress → RowVisit
row_visit ts p = record { types = ts; progress = p }

module _ (basin : Draft) (callable : Callable) where
  abbrev mutual
    pub visited : Progress → Tree → Judged Visit
    visited p (literal z unit) = leaf p (literal_type z unit)
    visited p (truth b) = leaf p (Ok Boolean)
    visited p now = leaf p (Ok Datetime)
    visited p (slot o s) = leaf p (slot_type basin o s)
    visited p (name x) = leaf p (name_type p.scope x)
    visited p (call f ts) =
        visited_all [] (node_reserved p) ts >>= λ row. node_settled (next_node p) row.progress (call_type callable f row.types)
    visited p (brackets t) =
        visited (node_reserved p) t >>= λ inside. node_settled (next_node p) inside.progress (Ok inside.own)
    visited p (list ts) =
        visited_all [] (node_reserved p) ts >>= λ row. node_settled (next_node p) row.progress (list_type row.types)
    visited p (choice c y d) =
        visited (node_reserved p) c >>= λ first.
        visited first.progress y >>= λ second.
        visited second.progress d >>= λ third.
        node_settled (next_node p) third.progress (choice_type first.own second.own third.own)
    visited p (bind x e b) =
        visited (node_reserved p) e >>= λ value.
        visited (with_variable x value.own value.progress) b >>= λ body.
        node_settled (next_node p) (without_variable body.progress) (Ok body.own)
    visited p (each x l a f b) =
        visited (node_reserved p) l >>= λ all.
        visited all.progress f >>= λ total.
        at_node (next_node p) (element_type all.own) >>= λ item.
        visited (with_variable a total.own (with_variable x item total.progress)) b >>= λ body.
        node_settled (next_node p) (without_variable (without_variable body.progress)) (total_type total.own body.own)
    visited p (mapped x l b) =
        visited (node_reserved p) l >>= λ all.
        at_node (next_node p) (element_type all.own) >>= λ item.
        visited (with_variable x item all.progress) b >>= λ body.
        node_settled (next_node p) (without_variable body.progress) (mapped_type all.own body.own)
    visited p (one word e) =
        visited (node_reserved p) e >>= λ part. node_settled (next_node p) part.progress (one_type word (is_look e) part.own)
    visited p (two word l r) =
        visited (node_reserved p) l >>= λ left.
        visited left.progress r >>= λ right.
        node_settled (next_node p) right.progress (two_type word left.own right.own)
    visited p (convert word o e) =
        visited (node_reserved p) e >>= λ part.
        node_settled (next_node p) part.progress
        (convert_type word (is_some (object_named basin.objects o)) (is_some (table_named basin o)) part.own)
    visited p (at s d) =
        visited (node_reserved p) s >>= λ place.
        visited place.progress d >>= λ date.
        node_settled (next_node p) date.progress (look_type place.own date.own)

    -- behind those types that were found before
    pub visited_all : List RplType → Progress → Trees → Judged RowVisit
    visited_all found p no_trees = Ok (row_visit found p)
    visited_all found p (tree t ts) =
        visited p t >>= λ first. visited_all (found ++ first.own ∷ []) first.progress ts

-- the statement stands, unless something is wrong
abbrev pub stands : ℕ → Progress → Option TypeKind → Judged Progress
stands node p None = Ok p
stands node p (Some kind) = Err (record { kind = kind; node = node })

module _ (basin : Draft) (callable : Callable) where
  abbrev mutual
    pub visited_act : Progress → Act → Judged Progress
    visited_act p (assign o s ahead e) =
        visited basin callable (node_reserved p) e >>= λ value.
        stands (next_node p) value.progress (target_misfit basin o s ahead value.own)
    visited_act p (branch c first second) =
        visited basin callable (node_reserved p) c >>= λ test.
        visited_acts test.progress first >>= λ yes.
        visited_acts yes second >>= λ no.
        stands (next_node p) no (condition_misfit test.own)
    visited_act p (with_name x e body) =
        visited basin callable (node_reserved p) e >>= λ value.
        visited_acts (with_variable x value.own value.progress) body >>= λ inside.
        Ok (without_variable inside)

    pub visited_acts : Progress → Acts → Judged Progress
    visited_acts p no_acts = Ok p
    visited_acts p (act a rest) = visited_act p a >>= λ first. visited_acts first rest
