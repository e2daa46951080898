-- The function of a name that was declared last, and the local of a name.
use Rattle.rpl_compile.proofs.Common.{B, Bool, Callee, IsSome, IsSomeAnd, Kind, List, N, None, Option, Some, ValueKind, [], ap, bytes_eq}
use Rattle.rpl_compile.proofs.Common.{callee_named, code_kind, code_kinds, false, if◌then◌else◌, kind_named, kind_seen, kinds_seen, length}
use Rattle.rpl_compile.proofs.Common.{length-map, local_named, map, names_in, no_callee, parameter_of, refl, reverse, scope_seen, sym}
use Rattle.rpl_compile.proofs.Common.{true, unwrap_or, ℕ, ◌∙◌, ◌∷◌, ◌≡◌}
use Rattle.rpl_scope.specs.Scope.{first_named as first_found}
use Rattle.rpl_scope.proofs.Latest.{first_of_all, last_is_first, last_of_all}
use Rattle.rpl_tree.specs.declared.rules.Param.{Param}
use Rattle.rpl_compile.specs.declared.writing.Local.{Local}

abbrev pub last_named : List ℕ → Callee → List Callee → Callee
last_named sought = last_of_all (λ (callee : Callee). bytes_eq callee.head.name sought) (λ (callee : Callee). callee)

first_is : (sought : List ℕ) (callees : List Callee)
    → first_of_all (λ (callee : Callee). bytes_eq callee.head.name sought) (λ (callee : Callee). callee) no_callee callees
    ≡ callee_named callees sought
first_is sought [] = refl
first_is sought (callee ∷ callees) = ap (λ found. if bytes_eq callee.head.name sought then callee else found) (first_is sought callees)

pub function_found : (sought : List ℕ) (callees : List Callee) → last_named sought no_callee callees ≡ callee_named (reverse callees) sought
function_found sought callees =
    last_is_first (λ (callee : Callee). bytes_eq callee.head.name sought) (λ (callee : Callee). callee) no_callee callees
    ∙ first_is sought (reverse callees)

-- ---- names

pub by_test : {A B : Type 0} (f : A → B) (test : Bool) (a other : A) (y : B) → f other ≡ y → f (if test then a else other) ≡ (if test then f a else y)
by_test f true a other y same = refl
by_test f false a other y same = same

module _ (sought : List ℕ) where
  abbrev nothing : Local
  nothing = record { kind = N; number = 0 }

  pub kind_found : (names : List (List ℕ × Local)) → kind_seen (unwrap_or (first_found names sought) nothing).kind ≡ kind_named (names_in
      (scope_seen names)) sought
  kind_found [] = refl
  kind_found (entry ∷ names) =
      by_test (λ (found : Option Local). kind_seen (unwrap_or found nothing).kind) (bytes_eq entry.0 sought) (Some entry.1)
      (first_found names sought) _
      (kind_found names)

  pub number_found : (names : List (List ℕ × Local)) → (unwrap_or (first_found names sought) nothing).number ≡ local_named (scope_seen names) sought
  number_found [] = refl
  number_found (entry ∷ names) =
      by_test (λ (found : Option Local). (unwrap_or found nothing).number) (bytes_eq entry.0 sought) (Some entry.1) (first_found names sought) _
      (number_found names)

-- ---- kinds

pub code_of_seen : (kind : ValueKind) → code_kind (kind_seen kind) ≡ kind
code_of_seen N = refl
code_of_seen kind = refl

pub codes_of_seen : (kinds : List ValueKind) → code_kinds (kinds_seen kinds) ≡ kinds
codes_of_seen [] = refl
codes_of_seen (kind ∷ kinds) = λ i. code_of_seen kind i ∷ codes_of_seen kinds i

pub codes_seen : (kinds : List ValueKind) (seen : List Kind) → kinds_seen kinds ≡ seen → kinds ≡ code_kinds seen
codes_seen kinds seen same = sym (codes_of_seen kinds) ∙ ap code_kinds same

pub params_length : (parameters : List Param) → length (map parameter_of parameters) ≡ length parameters
params_length parameters = length-map parameters parameter_of

pub is_there : (found : Option ℕ) (P : ℕ → Type 0) → IsSomeAnd found P → IsSome found
is_there None P holds = absurd holds
is_there (Some n) P holds = refl
