-- The kind of a name, and the function of a name that was declared last.
use Rattle.rw_base.proofs.Common.{◌≡◌, ◌<◌, ℕ, zero, suc, Bool, true, false, List, [], ◌∷◌, ◌++◌, length, map, reverse, Option, None, Some, Bor, bytes_eq}
use Rattle.rw_base.proofs.Common.{arith, unwrap_or, refl, sym, ap, ◌∙◌, if◌then◌else◌, option_and_then, option_map, slice_get, slice_get_read}
use Rattle.rw_base.proofs.Common.{length-reverse, reverse-append}
use Rattle.rpl_tree.specs.Kinds.{kind_named}
use Rattle.rpl_scope.specs.Scope.{first_named}
use Rattle.rpl_budget.specs.declared.kind.TreeKind.{TreeKind}
use Rattle.rpl_budget.specs.declared.known.Known.{Known}
use Rattle.rpl_budget.specs.declared.kind.TreeKind.TheVariants.{Number}
use Rattle.rpl_budget.specs.Seen.{tree_kind_seen, names_of, places_of, priced_or_none, priced_seen}
use Rattle.rpl_budget.proofs.Exact.{of_choice}
use Rattle.rpl_budget.specs.Pass.{priced_named}

-- ---- names

pub kind_found : (names : List (List ℕ × TreeKind)) (sought : List ℕ)
    → tree_kind_seen (unwrap_or (first_named names sought) Number) ≡ kind_named (names_of names) sought
kind_found [] sought = refl
kind_found (entry ∷ names) sought =
    of_choice (λ kind. tree_kind_seen (unwrap_or kind Number)) (bytes_eq entry.0 sought) (Some entry.1) (first_named names sought) _
    (kind_found names sought)

-- ---- functions

-- the function in a place, if there is a place, where the last function stands first
abbrev pub at_place : List Known → Option ℕ → Option Known
at_place all place = option_and_then (slice_get (reverse all)) place

front : (xs : List Known) (y : Known) (p : ℕ) → p < length xs → slice_get (xs ++ y ∷ []) p ≡ slice_get xs p
front [] y p low = absurd (omega (arith, low))
front (x ∷ xs) y zero low = refl
front (x ∷ xs) y (suc p) low = front xs y p (omega (arith, low))

last : (xs : List Known) (y : Known) → slice_get (xs ++ y ∷ []) (length xs) ≡ Some y
last [] y = refl
last (x ∷ xs) y = last xs y

one_more : (f : Known) (all : List Known) (place : Option ℕ) → ((p : ℕ) → place ≡ Some p → p < length all)
    → at_place (f ∷ all) place ≡ at_place all place
one_more f all None low = refl
one_more f all (Some p) low =
    ap (λ xs. slice_get xs p) (reverse-append (f ∷ []) all) ∙ front (reverse all) f p (omega (arith, low p refl, length-reverse all))

newest : (f : Known) (all : List Known) → at_place (f ∷ all) (Some (length all)) ≡ Some f
newest f all =
    ap (λ xs. slice_get xs (length all)) (reverse-append (f ∷ []) all)
    ∙ ap (slice_get (reverse all ++ f ∷ [])) (sym (length-reverse all)) ∙ last (reverse all) f

below : (test : Bool) (all : List Known) (x : List ℕ) (p : ℕ)
    → (if test then Some (length all) else first_named (places_of all) x) ≡ Some p
    → (first_named (places_of all) x ≡ Some p → p < length all) → p < suc (length all)
below true all x p here rest = let same : length all ≡ p = grind (arith, here) in omega (arith, same)
below false all x p here rest = omega (arith, rest here)

within : (all : List Known) (x : List ℕ) (p : ℕ) → first_named (places_of all) x ≡ Some p → p < length all
within [] x p here = absurd (grind (arith, here))
within (f ∷ all) x p here = below (bytes_eq f.name.now x) all x p here (within all x p)

by_test : (test : Bool) (f : Known) (all : List Known) (x : List ℕ)
    → priced_or_none (at_place all (first_named (places_of all) x)) ≡ priced_named (map priced_seen all) x
    → priced_or_none (at_place (f ∷ all) (if test then Some (length all) else first_named (places_of all) x))
    ≡ (if test then priced_seen f else priced_named (map priced_seen all) x)
by_test true f all x rest = ap priced_or_none (newest f all)
by_test false f all x rest = ap priced_or_none (one_more f all (first_named (places_of all) x) (within all x)) ∙ rest

pub function_found : (all : List Known) (x : List ℕ)
    → priced_or_none (at_place all (first_named (places_of all) x)) ≡ priced_named (map priced_seen all) x
function_found [] x = refl
function_found (f ∷ all) x = by_test (bytes_eq f.name.now x) f all x (function_found all x)
