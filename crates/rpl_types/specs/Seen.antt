-- Within the crate: what the crate's own types hold, as the definitions see it.
use Rattle.std.specs.Prelude.{◌≡◌, ℕ, suc, List, [], ◌∷◌, map, Option, None, Some, bytes_eq, is_some, option_map, if◌then◌else◌}
use Rattle.rpl_scope.specs.Scope.{first_named}
use Rattle.rpl_tree.specs.declared.rules.Declaration.{Declaration}
use Rattle.rpl_tree.specs.Seen.{declared_of}
use Rattle.rpl_types.specs.Functions as F
use Rattle.rpl_types.specs.Judged.{function_names}
use Rattle.rpl_types.specs.declared.functions.Signature.{Signature}

abbrev pub signature_of : Signature → F.Signature
signature_of s = record { name = s.name.now; takes = s.takes.items; result = s.result }

abbrev pub signatures_of : List Signature → List F.Signature
signatures_of all = map signature_of all

-- the place of the first function of a name
abbrev pub function_place : List Signature → List ℕ → Option ℕ
function_place [] x = None
function_place (s ∷ all) x = if bytes_eq s.name.now x then Some 0 else option_map suc (function_place all x)

-- each name has the place of its first function
abbrev pub AreFirst : List Signature → List (List ℕ × ℕ) → Type 0
AreFirst all places = (x : List ℕ) → first_named places x ≡ function_place all x

-- the places with that of a name that has none yet
abbrev pub with_first : List ℕ → ℕ → List (List ℕ × ℕ) → List (List ℕ × ℕ)
with_first x place places = if is_some (first_named places x) then places else (x, place) ∷ places

-- what can be called, and what can't yet
abbrev pub callable_of : List F.Signature → List Declaration → F.Callable
callable_of earlier later = record { earlier = earlier; later = function_names (map declared_of later) }
