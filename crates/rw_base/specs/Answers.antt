-- What a call answers where a definition decides: what the definition gives, or that memory was wanting.
use Rattle.std.specs.Prelude.{◌≡◌, Option, None, Some, IsSome, MatchOption, Result, Ok, Err}
use Rattle.std.specs.Option.{ForSome}

-- what is given, unless it is refused
abbrev pub unless_refused : {R A : Type 0} → Option R → A → Result A R
unless_refused None x = Ok x
unless_refused (Some refusal) x = Err refusal

-- a call that judges finds nothing where nothing is refused, and otherwise a fault that tells what is
abbrev pub Finds : {F R : Type 0} → (F → Option R) → Option F → Option R → Type 0
Finds refusal_of found refusal = MatchOption found (refusal ≡ None) (λ fault. (refusal ≡ refusal_of fault) × IsSome refusal)

-- the refusal that the fault tells is the one that is given. A fault that tells none is want of memory
abbrev pub IsWhy : {F R A : Type 0} → F → (F → Option R) → Result A R → F → Type 0
IsWhy memory refusal_of given fault =
    ForSome (refusal_of fault) (λ refusal. given ≡ Err refusal) × (refusal_of fault ≡ None → fault ≡ memory)

-- the call answers what is given, seen in the definition's terms, or why nothing is, unless memory was wanting
abbrev pub Answers : {F R X A : Type 0} → F → (F → Option R) → (X → A) → Result X F → Result A R → Type 0
Answers memory refusal_of seen (Ok x) given = given ≡ Ok (seen x)
Answers memory refusal_of seen (Err fault) given = IsWhy memory refusal_of given fault
