-- Where the code of an expression or statement stands in its block.
use Rattle.std.specs.Prelude.{ℕ, ◌+◌, List, [], ◌∷◌, bytes_eq, if◌then◌else◌}
use Rattle.rpl_tree.specs.Value.{Kind}
use Rattle.rpl_tree.specs.Tree.{Tree, Act, Acts, Parameter}
use Rattle.rpl_tree.specs.Kinds.{Head, Names, kind_of_type, tree_kind}
use Rattle.rpl_tree.specs.Count.{local_count, act_locals, acts_locals}
use Rattle.rpl_compile.specs.Size.{size, size_of_act, size_of_acts}

-- a name that can be used: the kind of its value, and the local that holds it
pub record BoundName : Type 0 where
  pub name : List ℕ
  pub kind : Kind
  pub local : ℕ

abbrev pub bound : List ℕ → Kind → ℕ → BoundName
bound name kind local = record { name = name; kind = kind; local = local }

-- the names that can be used, innermost first; the first local that no name has; the place of the first line; and the kinds of the
-- operands that are there already, last one first
pub record Site : Type 0 where
  pub scope : List BoundName
  pub free : ℕ
  pub place : ℕ
  pub below : List Kind

-- at the beginning of a block
abbrev pub start : List BoundName → ℕ → Site
start scope free = record { scope = scope; free = free; place = 0; below = [] }

abbrev pub names_in : List BoundName → Names
names_in [] = []
names_in (b ∷ scope) = (b.name, b.kind) ∷ names_in scope

abbrev pub local_named : List BoundName → List ℕ → ℕ
local_named [] x = 0
local_named (b ∷ scope) x = if bytes_eq b.name x then b.local else local_named scope x

-- parameters are the first locals
abbrev pub parameters_from : ℕ → List Parameter → List BoundName
parameters_from n [] = []
parameters_from n (p ∷ ps) = bound p.name (kind_of_type p.of_type) n ∷ parameters_from (n + 1) ps

-- ---- further on

-- so many lines
abbrev pub on : ℕ → Site → Site
on lines site = record { scope = site.scope; free = site.free; place = site.place + lines; below = site.below }

-- with an operand more
abbrev pub over : Kind → Site → Site
over kind site = record { scope = site.scope; free = site.free; place = site.place; below = kind ∷ site.below }

-- the first free locals are kept, but have no name yet
abbrev pub keeping : ℕ → Site → Site
keeping locals site = record { scope = site.scope; free = site.free + locals; place = site.place; below = site.below }

-- with this name for a local
abbrev pub knowing : BoundName → Site → Site
knowing b site = record { scope = b ∷ site.scope; free = site.free; place = site.place; below = site.below }

module _ (heads : List Head) where
  -- the kind of an expression here
  abbrev pub kind_at : Site → Tree → Kind
  kind_at site t = tree_kind heads (names_in site.scope) t

  -- behind an expression or statements, with their locals
  abbrev pub behind : Tree → Site → Site
  behind t site = on (size heads (names_in site.scope) t) (keeping (local_count t) site)

  abbrev pub behind_act : Act → Site → Site
  behind_act a site = on (size_of_act heads (names_in site.scope) a) (keeping (act_locals a) site)

  abbrev pub behind_acts : Acts → Site → Site
  behind_acts acts site = on (size_of_acts heads (names_in site.scope) acts) (keeping (acts_locals acts) site)
