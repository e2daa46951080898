-- Which type an expression has, and what holds of statements and declarations that are accepted: for each form what holds of its
-- parts. The nodes' numbers and the order of refusals are left out.
use Rattle.std.specs.Prelude.{◌≡◌, ℕ, ◌+◌, List, [], ◌∷◌, None, is_some, Ok}
use Rattle.rw_model.specs.Draft.{Draft}
use Rattle.rw_model.specs.Objects.{object_named}
use Rattle.rpl_tree.specs.Budget.{budget_of}
use Rattle.rpl_tree.specs.World.{table_named}
use Rattle.rpl_tree.specs.Tree.{Tree, Trees, literal, truth, now, slot, name, call, brackets, list, choice, bind, each, mapped, one, two, convert, at, no_trees, tree, Act, Acts, assign, branch, with_name, no_acts, act, Declared, rule, function}
use Rattle.rpl_tree.specs.declared.rpl_type.RplType.{RplType}
use Rattle.rpl_tree.specs.declared.rpl_type.RplType.TheVariants.{Boolean, Datetime}
use Rattle.rpl_types.specs.Fits.{joined_type, misfit}
use Rattle.rpl_types.specs.Forms.{TypeScope, convert_type, element_type, is_look, list_type, literal_type, look_type, mapped_type, name_type, one_type, slot_type, target_misfit, two_type}
use Rattle.rpl_types.specs.Functions.{Callable, Signature, call_type, param_scope, type_here}
use Rattle.rpl_types.specs.Judged.{and_function, cost_refusal, function_names, head_refusal}

module _ (basin : Draft) (callable : Callable) where
  abbrev mutual
    -- where those names can be used
    pub HasType : TypeScope → Tree → RplType → Type 0
    HasType scope (literal z unit) t = literal_type z unit ≡ Ok t
    HasType scope (truth b) t = t ≡ Boolean
    HasType scope now t = t ≡ Datetime
    HasType scope (slot o s) t = slot_type basin o s ≡ Ok t
    HasType scope (name x) t = name_type scope x ≡ Ok t
    HasType scope (call f es) t = (ts : List RplType) × HaveTypes scope es ts × (call_type callable f ts ≡ Ok t)
    HasType scope (brackets e) t = HasType scope e t
    HasType scope (list es) t = (ts : List RplType) × HaveTypes scope es ts × (list_type ts ≡ Ok t)
    HasType scope (choice c y d) t =
        HasType scope c Boolean × (yes : RplType) × (no : RplType) × HasType scope y yes × HasType scope d no × (joined_type yes no ≡ Ok t)
    HasType scope (bind x e b) t = (value : RplType) × HasType scope e value × HasType ((x, value) ∷ scope) b t
    HasType scope (each x l a f b) t =
        (all : RplType) × (item : RplType) × (turn : RplType) × HasType scope l all × (element_type all ≡ Ok item) × HasType scope f t
        × HasType ((a, t) ∷ (x, item) ∷ scope) b turn × (misfit turn t ≡ None)
    HasType scope (mapped x l b) t =
        (all : RplType) × (item : RplType) × (turn : RplType) × HasType scope l all × (element_type all ≡ Ok item)
        × HasType ((x, item) ∷ scope) b turn × (mapped_type all turn ≡ Ok t)
    HasType scope (one word e) t = (part : RplType) × HasType scope e part × (one_type word (is_look e) part ≡ Ok t)
    HasType scope (two word l r) t =
        (left : RplType) × (right : RplType) × HasType scope l left × HasType scope r right × (two_type word left right ≡ Ok t)
    HasType scope (convert word o e) t =
        (part : RplType) × HasType scope e part
        × (convert_type word (is_some (object_named basin.objects o)) (is_some (table_named basin o)) part ≡ Ok t)
    HasType scope (at s d) t =
        (place : RplType) × (date : RplType) × HasType scope s place × HasType scope d date × (look_type place date ≡ Ok t)

    pub HaveTypes : TypeScope → Trees → List RplType → Type 0
    HaveTypes scope no_trees ts = ts ≡ []
    HaveTypes scope (tree e es) ts =
        (first : RplType) × (rest : List RplType) × (ts ≡ first ∷ rest) × HasType scope e first × HaveTypes scope es rest

  abbrev mutual
    -- a statement whose expressions have the types that it asks for
    pub Stands : TypeScope → Act → Type 0
    Stands scope (assign o s ahead e) = (value : RplType) × HasType scope e value × (target_misfit basin o s ahead value ≡ None)
    Stands scope (branch c first second) = HasType scope c Boolean × AllStand scope first × AllStand scope second
    Stands scope (with_name x e body) = (value : RplType) × HasType scope e value × AllStand ((x, value) ∷ scope) body

    pub AllStand : TypeScope → Acts → Type 0
    AllStand scope no_acts = Unit {0}
    AllStand scope (act a rest) = Stands scope a × AllStand scope rest

  -- a declaration, its cost apart
  abbrev pub IsDeclared : Declared → Type 0
  IsDeclared (rule called_so body) = AllStand [] body
  IsDeclared (function f ps result body) =
      (head_refusal callable.earlier f ps result ≡ None) × (own : RplType) × HasType (param_scope ps) body own
      × (misfit own (type_here result) ≡ None)

-- the declarations from a number on, behind those functions
abbrev pub AreDeclared : Draft → List Declared → ℕ → List Signature → List Declared → Type 0
AreDeclared basin rules k earlier [] = Unit {0}
AreDeclared basin rules k earlier (d ∷ ds) =
    IsDeclared basin (record { earlier = earlier; later = function_names (d ∷ ds) }) d × (cost_refusal (budget_of rules k) ≡ None)
    × AreDeclared basin rules (k + 1) (and_function d earlier) ds

-- a ruleset
abbrev pub IsTyped : Draft → List Declared → Type 0
IsTyped basin rules = AreDeclared basin rules 1 [] rules
