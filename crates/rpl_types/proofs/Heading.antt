-- What the heads of functions say, parameter by parameter.
use Rattle.rw_base.proofs.Common.{◌≡◌, ℕ, ◌+◌, ◌-◌, List, [], ◌∷◌, ◌++◌, map, Bool, true, false, Option, Some, None, Ok, Err, refl, sym, ap, ap₂, ◌∙◌}
use Rattle.rw_base.proofs.Common.{map-append, ◌||◌, bytes_eq, if◌then◌else◌, is_some, list_any}
use Rattle.rpl_scope.specs.Scope.{first_named}
use Rattle.rpl_tree.specs.Tree.{Parameter, TypeName}
use Rattle.rpl_tree.specs.declared.rpl_type.RplType.{RplType}
use Rattle.rpl_types.specs.declared.type_kind.TypeKind.{TypeKind}
use Rattle.rpl_types.specs.declared.type_kind.TypeKind.TheVariants.{UnknownName}
use Rattle.rpl_types.specs.Fits.{Typed, sooner}
use Rattle.rpl_types.specs.Forms.{TypeScope, name_type}
use Rattle.rpl_types.specs.Functions.{Signature, head_misfit, is_named_as, param_scope, repeats_name, refusal_in, type_here, written_type}
use Rattle.rpl_types.proofs.Sooner.{sooner_by_threes}

pub head_next : (whole found : Option TypeKind) (answers : TypeName) (parameter : Parameter) (parameters all : List Parameter)
    → all ≡ parameter ∷ parameters
    → sooner found (head_misfit all answers) ≡ whole
    → sooner (sooner found (refusal_in (written_type parameter.of_type))) (head_misfit parameters answers) ≡ whole
head_next whole found answers parameter parameters all all_is same =
    sooner_by_threes found (refusal_in (written_type parameter.of_type)) (head_misfit parameters answers) ∙ (rw all_is at same)

pub head_last : (whole found : Option TypeKind) (answers : TypeName) (all : List Parameter) → all ≡ []
    → sooner found (head_misfit all answers) ≡ whole → sooner found (refusal_in (written_type answers)) ≡ whole
head_last whole found answers all all_is same = rw all_is at same

abbrev pub signature_with : List ℕ → List RplType → RplType → Signature
signature_with name takes result = record { name = name; takes = takes; result = result }

pub one_before : (scope new : TypeScope) (its_type : RplType) (parameter : Parameter) (parameters all : List Parameter)
    → new ≡ (parameter.name, its_type) ∷ scope → all ≡ parameter ∷ parameters
    → its_type ≡ type_here parameter.of_type → scope ≡ param_scope parameters → new ≡ param_scope all
one_before scope new its_type parameter parameters all new_is all_is of_type scope_is =
    new_is ∙ ap (λ new_name. (parameter.name, new_name) ∷ scope) of_type ∙ ap (λ s. (parameter.name, type_here parameter.of_type) ∷ s) scope_is
    ∙ ap param_scope (sym all_is)

-- ---- the type of a name

abbrev pub type_found : Option RplType → Typed
type_found None = Err UnknownName
type_found (Some t) = Ok t

by_test : (same : Bool) (its_type : RplType) (rest : Typed) (found : Option RplType) → rest ≡ type_found found
    → (if same then Ok its_type else rest) ≡ type_found (if same then Some its_type else found)
by_test true its_type rest found rest_is = refl
by_test false its_type rest found rest_is = rest_is

pub found_type : (scope : TypeScope) (new_name : List ℕ) → name_type scope new_name ≡ type_found (first_named scope new_name)
found_type [] new_name = refl
found_type (variable ∷ scope) new_name =
    by_test (bytes_eq variable.0 new_name) variable.1 (name_type scope new_name) (first_named scope new_name) (found_type scope new_name)

-- ---- names that were seen

-- it is one of those
abbrev pub is_seen : List (List ℕ × Unit {0}) → Parameter → Bool
is_seen seen parameter = is_some (first_named seen parameter.name)

-- one of them was seen before, or two have one name
abbrev pub repeats_behind : List (List ℕ × Unit {0}) → List Parameter → Bool
repeats_behind seen parameters = list_any (is_seen seen) parameters || repeats_name parameters

none_seen : (parameters : List Parameter) → list_any (is_seen []) parameters ≡ false
none_seen [] = refl
none_seen (parameter ∷ parameters) = none_seen parameters

pub from_none : (parameters : List Parameter) → repeats_behind [] parameters ≡ repeats_name parameters
from_none parameters = ap (λ b. b || repeats_name parameters) (none_seen parameters)

by_name : (same : Bool) (found : Option (Unit {0})) → is_some (if same then Some tt else found) ≡ (same || is_some found)
by_name true found = refl
by_name false found = refl

four : (first second third fourth : Bool) → ((first || second) || (third || fourth)) ≡ ((first || third) || (second || fourth))
four true second third fourth = refl
four false true true fourth = refl
four false true false fourth = refl
four false false true fourth = refl
four false false false fourth = refl

-- those that have the name, and those that were seen
seen_more : (sought : List ℕ) (seen : List (List ℕ × Unit {0})) (parameters : List Parameter)
    → list_any (is_seen ((sought, tt) ∷ seen)) parameters ≡ (list_any (is_named_as sought) parameters || list_any (is_seen seen) parameters)
seen_more sought seen [] = refl
seen_more sought seen (parameter ∷ parameters) =
    ap₂ (λ a b. a || b) (by_name (bytes_eq sought parameter.name) (first_named seen parameter.name)) (seen_more sought seen parameters)
    ∙ four (bytes_eq sought parameter.name) (is_seen seen parameter) (list_any (is_named_as sought) parameters) (list_any (is_seen seen) parameters)

swap : (first second third : Bool) → ((first || second) || third) ≡ (second || (first || third))
swap true true third = refl
swap true false third = refl
swap false true third = refl
swap false false third = refl

pub seen_next : (seen new : List (List ℕ × Unit {0})) (parameter : Parameter) (parameters all : List Parameter) → all ≡ parameter ∷ parameters
    → first_named seen parameter.name ≡ None
    → new ≡ (parameter.name, tt) ∷ seen → repeats_behind new parameters ≡ repeats_behind seen all
seen_next seen new parameter parameters all all_is none new_is =
    ap (λ scope. repeats_behind scope parameters) new_is ∙ ap (λ b. b || repeats_name parameters) (seen_more parameter.name seen parameters)
    ∙ swap (list_any (is_named_as parameter.name) parameters) (list_any (is_seen seen) parameters) (repeats_name parameters)
    ∙ sym (ap (λ o.
    (is_some o || list_any (is_seen seen) parameters) || (list_any (is_named_as parameter.name) parameters || repeats_name parameters)) none)
    ∙ ap (repeats_behind seen) (sym all_is)

pub seen_here : (seen : List (List ℕ × Unit {0})) (parameter : Parameter) (parameters all : List Parameter) → all ≡ parameter ∷ parameters
    → is_seen seen parameter ≡ true
    → repeats_behind seen all ≡ true
seen_here seen parameter parameters all all_is here =
    ap (repeats_behind seen) all_is ∙ ap (λ b. (b || list_any (is_seen seen) parameters) || repeats_name (parameter ∷ parameters)) here

-- ---- what a function takes

abbrev pub taken : List Parameter → List RplType
taken parameters = map (λ (parameter : Parameter). type_here parameter.of_type) parameters

pub taken_more : (takes new : List RplType) (its_type : RplType) (parameter : Parameter) (before all : List Parameter) → takes ≡ taken before
    → new ≡ takes ++ its_type ∷ [] → its_type ≡ type_here parameter.of_type → all ≡ before ++ parameter ∷ [] → new ≡ taken all
taken_more takes new its_type parameter before all takes_is added of_type all_is =
    added ∙ ap (λ ts. ts ++ its_type ∷ []) takes_is ∙ ap (λ x. taken before ++ x ∷ []) of_type
    ∙ sym (map-append (λ (q : Parameter). type_here q.of_type) before (parameter ∷ [])) ∙ ap taken (sym all_is)

pub same_signature : (name : List ℕ) (takes others : List RplType) (result other_result : RplType) → takes ≡ others → result ≡ other_result
    → signature_with name takes result ≡ signature_with name others other_result
same_signature name takes others result other_result takes_is result_is = ap₂ (signature_with name) takes_is result_is
