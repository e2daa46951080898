-- What the terms of a balance come to: which of them is solved for, and as what.
use Rattle.std.specs.Prelude.{ℕ, ◌≡◌, ◌≢◌, ◌⊎◌, ◌<◌, ◌≤◌, ◌+◌, max, ◌==◌, nat_lt, nat_le, ℤ, pos, neg_ℤ, ◌+ℤ◌, ◌-ℤ◌, if◌then◌else◌, Bool, false, List, [], ◌∷◌, ◌++◌, All, Contains, Option, None, Some, is_some, IsSome}
use Rattle.std.specs.Ordering.{int_eq}
use Rattle.rw_method.specs.declared.given.Given.{Given}
use Rattle.rw_method.specs.declared.term.Term.{Term}
use Rattle.rw_method.specs.declared.balanced.Balanced.{Balanced}
use Rattle.rw_method.specs.declared.balanced.Balanced.TheVariants.{Idle, Holds, Solves, Conflicts}
use Rattle.rw_method.specs.Term.{brought, brought_by, bringing}

-- how many of the terms aren't given
abbrev pub missing : List Term → ℕ
missing [] = 0
missing (term ∷ terms) = (if is_some term.given then 0 else 1) + missing terms

-- how much the given terms bring, all together
abbrev pub net_of : List Term → ℤ
net_of [] = pos 0
net_of (term ∷ terms) = brought_by term.share term.given +ℤ net_of terms

abbrev pub priority_of : Option Given → ℕ
priority_of None = 0
priority_of (Some held) = held.number

-- the lowest priority of the given terms but the one of this place, 0 if there is none
abbrev pub greatest_beside : ℕ → List Term → ℕ
greatest_beside place [] = 0
greatest_beside place (term ∷ terms) = max (if term.place == place then 0 else priority_of term.given) (greatest_beside place terms)

-- whether a term gives way before a later one
abbrev pub gives_way_before : Option Given → Option Given → Bool
gives_way_before None later = is_some later
gives_way_before (Some held) None = false
gives_way_before (Some held) (Some later) = nat_lt later.number held.number

-- the term that gives way: one that isn't given, or else the one of the lowest priority, and of several such the last
abbrev pub weakest : Term → List Term → Term
weakest term [] = term
weakest term (next ∷ terms) = weakest (if gives_way_before term.given next.given then term else next) terms

-- the value of a term that makes the balance true, from the other terms and what else is brought
abbrev pub value_from_others : ℤ → List Term → Term → ℤ
value_from_others steady terms term =
    bringing term.share (neg_ℤ (steady +ℤ (net_of terms -ℤ brought_by term.share term.given)))

-- the term is put as that value, with the lowest priority of the others
abbrev pub solves : ℤ → List Term → Term → Balanced
solves steady terms term =
    Solves term.place (value_from_others steady terms term) (greatest_beside term.place terms)

-- a term that isn't given is solved. A given one stays where the balance is true; otherwise it is solved, unless its priority, the
-- lowest, is 0: then it conflicts
abbrev pub solved_at : ℤ → List Term → Term → Option Given → Balanced
solved_at steady terms term None = solves steady terms term
solved_at steady terms term (Some held) =
    if int_eq (steady +ℤ net_of terms) (pos 0) then Holds
    else (if held.number == 0 then Conflicts term.place held.value (value_from_others steady terms term)
    else solves steady terms term)

-- what the terms come to, beside what else is brought, where that is known. All but one have to be given
abbrev pub solved_balance : Option ℤ → List Term → Balanced
solved_balance None terms = Idle
solved_balance (Some steady) [] = Holds
solved_balance (Some steady) (term ∷ terms) =
    if nat_le 2 (missing (term ∷ terms)) then Idle
    else solved_at steady (term ∷ terms) (weakest term terms) (weakest term terms).given

-- a term has no lower priority than another: the other isn't given, or this one is given with no lower one
abbrev pub HasNoLowerPriority : Option Given → Option Given → Type 0
HasNoLowerPriority given None = Unit {0}
HasNoLowerPriority None (Some other) = ⊥
HasNoLowerPriority (Some held) (Some other) = held.number ≤ other.number

-- a term has a higher priority than another: it is given, and the other isn't or has a lower one
abbrev pub HasHigherPriority : Option Given → Option Given → Type 0
HasHigherPriority None other = ⊥
HasHigherPriority (Some held) None = Unit {0}
HasHigherPriority (Some held) (Some other) = held.number < other.number

-- of these terms none has a lower priority than this one, and all that come after it have a higher one
pub record GivesWay (terms : List Term) (term : Term) : Type 0 where
  pub before : List Term
  pub after : List Term
  pub among : terms ≡ before ++ term ∷ after
  pub earlier : All (λ (other : Term). HasNoLowerPriority other.given term.given) before
  pub later : All (λ (other : Term). HasHigherPriority other.given term.given) after

-- of these terms the one in this place gives way, the others are all given, and with this value of it the balance is true, beside
-- what else is brought
pub record IsSolved (steady : ℤ) (terms : List Term) (place : ℕ) (value : ℤ) : Type 0 where
  pub term : Term
  pub there : term.place ≡ place
  pub way : GivesWay terms term
  pub given : All (λ (other : Term). IsSome other.given) (way.before ++ way.after)
  pub balances : steady +ℤ (net_of way.before +ℤ brought term.share value +ℤ net_of way.after) ≡ pos 0

-- a number that no given term in another place passes, and that one of them has, or 0
pub record IsGreatestBeside (place : ℕ) (terms : List Term) (number : ℕ) : Type 0 where
  pub most : All (λ (other : Term). other.place ≢ place → priority_of other.given ≤ number) terms
  pub one : (number ≡ 0) ⊎ ((other : Term) × Contains terms other × (other.place ≢ place) × (priority_of other.given ≡ number))
