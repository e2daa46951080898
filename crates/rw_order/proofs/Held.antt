-- Values that stand in places, and what of them a view knows.
use Rattle.rw_order.proofs.Common.{AllByRecursion, Bool, ByObject, Conflict, Content, Given, IdleAnswer, IsSome, List, None, ObjectNo, Option}
use Rattle.rw_order.proofs.Common.{OutOfRange, Put, Puts, Solved, Some, View, ap, false, given, given_by, if◌then◌else◌, is_same_object, known}
use Rattle.rw_order.proofs.Common.{known_value, none-some, option_map, put, refl, same_Some, sym, true, ℕ, ℤ, ◌∙◌, ◌≡◌}

-- a value for each place, where there is one
abbrev pub Values : Type 0
Values = ℕ → Option ℤ

-- what the view knows are these values
pub record IsSeenOf (values : Values) (past : Option ℤ) (view : View) : Type 0 where
  pub now : (place : ℕ) (content : Content) → known view place ≡ Some content → values place ≡ Some content.value
  pub before : (value : ℤ) → view.past ≡ Some value → past ≡ Some value

-- all that stands in the places is given to the view
pub record IsWhole (values : Values) (past : Option ℤ) (view : View) : Type 0 where
  pub now : (place : ℕ) (value : ℤ) → values place ≡ Some value → IsSome (given view place) × (known_value view place ≡ Some value)
  pub before : (value : ℤ) → past ≡ Some value → view.past ≡ Some value

-- each put is of the value that stands in its place
abbrev pub AreHeld : Values → List Put → Type 0
AreHeld values puts = AllByRecursion (λ (put : Put). values put.place ≡ Some put.value) puts

-- the answer adds nothing to these values, and finds nothing wrong with them
abbrev pub AnswersWithin : Values → Solved → Type 0
AnswersWithin values IdleAnswer = Unit {0}
AnswersWithin values (Puts puts) = AreHeld values puts
AnswersWithin values (Conflict place held solved) = ⊥
AnswersWithin values (OutOfRange place value) = ⊥

-- each put of a value that stands in its place fits
abbrev pub FitsThere : Values → (Put → Bool) → Type 0
FitsThere values fit = (place : ℕ) (value : ℤ) (number : ℕ) → values place ≡ Some value → fit (put place value number) ≡ true

pub known_stands : (values : Values) (past : Option ℤ) (view : View) (place : ℕ) (value : ℤ) → IsSeenOf values past view
    → known_value view place ≡ Some value
    → values place ≡ Some value
known_stands values past view place value seen is = by (known view place) refl is
  where
    by : (content : Option Content) → known view place ≡ content → option_map (λ (c : Content). c.value) content ≡ Some value
        → values place ≡ Some value
    by None there e = absurd (none-some _ e)
    by (Some content) there e = seen.now place content there ∙ e

-- ---- what is given stands there

-- what is given in each place
abbrev pub Sight : Type 0
Sight = ℕ → Option Given

abbrev pub Stands : Values → Sight → Type 0
Stands values sight = (place : ℕ) (held : Given) → sight place ≡ Some held → values place ≡ Some held.value

-- all numbers are 0
abbrev pub AreZero : Sight → Type 0
AreZero sight = (place : ℕ) (held : Given) → sight place ≡ Some held → held.number ≡ 0

pub record IsKnownAs (content : Option Content) (held : Given) : Type 0 where
  pub is : Content
  pub known_one : content ≡ Some is
  pub value : held.value ≡ is.value
  pub number : held.number ≡ is.number

pub given_known : (own : ObjectNo) (content : Option Content) (held : Given) → given_by own content ≡ Some held → IsKnownAs content held
given_known own None held e = absurd (none-some _ e)
given_known own (Some content) held e = by (is_same_object content.writer (ByObject own)) e
  where
    by : (test : Bool) → (if test then None else Some (record { value = content.value; number = content.number })) ≡ Some held
        → IsKnownAs (Some content) held
    by true e = absurd (none-some _ e)
    by false e =
        let same = sym (same_Some _ _ e) in
        record { is = content; known_one = refl; value = ap (λ (g : Given). g.value) same; number = ap (λ (g : Given). g.number) same }

pub given_stands : (values : Values) (past : Option ℤ) (view : View) → IsSeenOf values past view → Stands values (given view)
given_stands values past view seen place held is =
    let there = given_known view.own (known view place) held is in
    seen.now place there.is there.known_one ∙ ap Some (sym there.value)
