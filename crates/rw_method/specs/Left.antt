-- What dispatches, rules and inputs leave in an object's slots.
use Rattle.std.specs.Prelude.{◌≡◌, ◌≢◌, ◌⊎◌, ℕ, ◌≤◌, true, List, [], ◌∷◌, Contains, Option, Some, None, Bool, is_some, if◌then◌else◌, ◌++◌}
use Rattle.rw_model.specs.declared.content.Content.{Content}
use Rattle.rw_model.specs.declared.kind.Kind.{Kind}
use Rattle.rw_model.specs.declared.kind.Kind.TheVariants.{Reservoir, WaterUser, Canal, PowerReservoir, RoutedReach}
use Rattle.rw_model.specs.declared.writer.Writer.TheVariants.{Object}
use Rattle.rw_model.specs.Put.{is_same_object}
use Rattle.rw_method.specs.declared.given.Given.{Given}
use Rattle.rw_method.specs.declared.places.TheConstants.{DEPLETION, DIVERSION, ENERGY, ENERGY_REQUEST, INFLOW, OUTFLOW, POOL_ELEVATION, POWER_RELEASE, POWER_SPILL, RELEASE, RETURN_FLOW, SEEPAGE, SPILL, STORAGE, CONTENT}
use Rattle.rw_method.specs.declared.term.Term.{Term}
use Rattle.rw_method.specs.declared.view.View.{View}
use Rattle.rw_method.specs.Power.{plant}
use Rattle.rw_method.specs.Balance.{balance_of, power_balance}
use Rattle.rw_method.specs.View.{known}

-- the object wrote it itself
abbrev pub is_own : View → Content → Bool
is_own view content = is_same_object content.writer (Object view.own)

-- known, with a number that is no greater than this
pub record IsUpTo (number : ℕ) (held : Option Content) : Type 0 where
  pub content : Content
  pub is : held ≡ Some content
  pub most : content.number ≤ number

-- given, with a number that is no greater than this
pub record IsGivenUpTo (number : ℕ) (given : Option Given) : Type 0 where
  pub held : Given
  pub is : given ≡ Some held
  pub most : held.number ≤ number

-- a slot that gets its value from another one
pub record Rest : Type 0 where
  pub place : ℕ
  pub on : ℕ

abbrev pub rest : ℕ → ℕ → Rest
rest place on = record { place = place; on = on }

-- the slots of a kind that get their values from another one; of storage and elevation, where there is a table, each from the other
abbrev pub rests_of : Kind → List Rest
rests_of (Reservoir initial_storage table local_inflow diversion return_flow evaporation max_release) =
    (if is_some table then rest STORAGE POOL_ELEVATION ∷ rest POOL_ELEVATION STORAGE ∷ [] else [])
    ++ rest RELEASE OUTFLOW ∷ rest SPILL OUTFLOW ∷ []
rests_of (WaterUser depletion supply) = rest DEPLETION DIVERSION ∷ rest RETURN_FLOW DIVERSION ∷ []
rests_of (Canal seepage) = rest SEEPAGE INFLOW ∷ []
rests_of (PowerReservoir initial_storage table max_release tailwater power) =
    rest STORAGE POOL_ELEVATION ∷ rest POOL_ELEVATION STORAGE ∷ rest ENERGY OUTFLOW ∷ rest POWER_RELEASE OUTFLOW ∷ rest POWER_SPILL OUTFLOW ∷ []
rests_of (RoutedReach initial_content release) = rest CONTENT OUTFLOW ∷ []
rests_of kind = []

-- in all other places, the terms are given, with a number that is no greater than this
abbrev pub AreOthersUpTo : ℕ → ℕ → List Term → Type 0
AreOthersUpTo number place terms = (other : Term) → Contains terms other → other.place ≢ place → IsGivenUpTo number other.given

-- an outflow that a power reservoir wrote has no lesser number than the request, or than the inflow and the contents, which are given
abbrev pub IsOutflowLeft : Kind → View → Type 0
IsOutflowLeft (PowerReservoir initial_storage table max_release tailwater power) view =
    (content : Content) → known view OUTFLOW ≡ Some content → is_own view content ≡ true
    → IsUpTo content.number (known view ENERGY_REQUEST)
    ⊎ AreOthersUpTo content.number OUTFLOW (power_balance (plant table max_release tailwater power) view).terms
IsOutflowLeft kind view = Unit {0}

-- where a term isn't given and its slot is known, so that the object wrote it, all other terms are given; and what the object wrote has
-- no lesser number than that on which it rests
pub record Left (kind : Kind) (view : View) : Type 0 where
  pub terms : (term other : Term) (content : Content) → Contains (balance_of kind view).terms term → Contains (balance_of kind view).terms other
      → other.place ≢ term.place → term.given ≡ None → known view term.place ≡ Some content → IsGivenUpTo content.number other.given
  pub rests : (pair : Rest) (content : Content) → Contains (rests_of kind) pair → known view pair.place ≡ Some content → is_own view content ≡ true
      → IsUpTo content.number (known view pair.on)
  pub outflow : IsOutflowLeft kind view
