-- The terms of a balance, and by what each is given.
use Rattle.rw_method.proofs.Common.{AllByRecursion, Bifurcation, Bool, Brings, ByObject, ByRule, Canal, Confluence, Content, Conveys, DataObject}
use Rattle.rw_method.proofs.Common.{Elevation, Gage, Given, Kind, List, None, ObjectNo, Option, Plant, PowerReservoir, Reach, Request, Reservoir}
use Rattle.rw_method.proofs.Common.{RoutedReach, Routes, Row, Share, Some, Storage, Takes, Term, View, WaterUser, [], ap, arith, balance_of, basis_of}
use Rattle.rw_method.proofs.Common.{contents_by, false, given, given_by, if◌then◌else◌, inl, inr, is_same_object, is_some, known, map, nat_le}
use Rattle.rw_method.proofs.Common.{nat_tests, none-some, option_map, asked_of, outflow_of, plant, pos, refl, same_Some, subst, suc, sym, true}
use Rattle.rw_method.proofs.Common.{unwrap_or, volume_of, zero, ℕ, ℤ, ◌∙◌, ◌∷◌, ◌≡◌, ◌≤◌, ◌⊎◌}
use Rattle.rw_method.specs.Left.{IsGivenUpTo, IsUpTo, is_own}
use Rattle.rw_method.specs.Passing.{IsAfterOthers}
use Rattle.rw_method.proofs.Among.{Among}
use Rattle.rw_method.proofs.Counting.{from_asked, none_asked, to_asked}

-- ---- a term of a kind, apart from any view; how it counts may go by the past value

pub data Source : Type 0 where
  slot : Source
  contents : Option (List Row) → Source
  asked : Plant → Source

pub record Sort : Type 0 where
  pub share : Option ℤ → Share
  pub place : ℕ
  pub source : Source

abbrev pub sort : Share → ℕ → Sort
sort share place = record { share = λ past. share; place = place; source = slot }

abbrev pub given_from : View → ℕ → Source → Option Given
given_from view place slot = given view place
given_from view place (contents table) = contents_by table (basis_of (given view 2) (given view 3))
given_from view place (asked plant) = outflow_of plant view

abbrev pub given_in : View → Sort → Option Given
given_in view s = given_from view s.place s.source

abbrev pub term_in : View → Sort → Term
term_in view s = record { place = s.place; share = s.share view.past; given = given_in view s }

-- the inflow of a reach that lets so much go of what it held and of what flows in
abbrev pub routed : ℕ → Sort
routed release = record { share = λ past. Routes (unwrap_or past (pos 0)) release; place = 0; source = slot }

-- the contents, which take water and are put as the storage
abbrev pub stored : Option (List Row) → Sort
stored table = record { share = λ past. Takes; place = 2; source = contents table }

-- the outflow, which a request may ask for
abbrev pub let_out : Plant → Sort
let_out plant = record { share = λ past. Takes; place = 1; source = asked plant }

abbrev pub shape_of : Kind → List Sort
shape_of (DataObject slots) = []
shape_of Gage = sort Brings 0 ∷ sort Takes 1 ∷ []
shape_of Confluence = sort Brings 0 ∷ sort Brings 1 ∷ sort Takes 2 ∷ []
shape_of Bifurcation = sort Brings 0 ∷ sort Takes 1 ∷ sort Takes 2 ∷ []
shape_of (Reach zero history local_inflow diversion return_flow) = sort Brings 0 ∷ sort Takes 1 ∷ []
shape_of (Reach (suc lag) history local_inflow diversion return_flow) = sort Takes 1 ∷ []
shape_of (Reservoir initial_storage table local_inflow diversion return_flow evaporation max_release) =
    sort Brings 0 ∷ sort Takes 1 ∷ stored table ∷ []
shape_of (WaterUser depletion Request) = sort Takes 1 ∷ []
shape_of (WaterUser depletion ByRule) = []
shape_of (Canal seepage) = sort (Conveys seepage) 0 ∷ sort Takes 1 ∷ []
shape_of (PowerReservoir initial_storage table max_release tailwater power) =
    sort Brings 0 ∷ let_out (plant table max_release tailwater power) ∷ stored (Some table) ∷ []
shape_of (RoutedReach initial_content release) = routed release ∷ sort Takes 1 ∷ []

pub terms_are : (kind : Kind) (view : View) → (balance_of kind view).terms ≡ map (term_in view) (shape_of kind)
terms_are (DataObject slots) view = refl
terms_are Gage view = refl
terms_are Confluence view = refl
terms_are Bifurcation view = refl
terms_are (Reach zero history local_inflow diversion return_flow) view = refl
terms_are (Reach (suc lag) history local_inflow diversion return_flow) view = refl
terms_are (Reservoir initial_storage table local_inflow diversion return_flow evaporation max_release) view = refl
terms_are (WaterUser depletion Request) view = refl
terms_are (WaterUser depletion ByRule) view = refl
terms_are (Canal seepage) view = refl
terms_are (PowerReservoir initial_storage table max_release tailwater power) view = refl
terms_are (RoutedReach initial_content release) view = refl

-- contents are taken from storage and elevation, and count as a storage; what is asked for is an outflow
abbrev pub IsPlacedBy : ℕ → Source → Type 0
IsPlacedBy place slot = Unit {0}
IsPlacedBy place (contents table) = place ≡ 2
IsPlacedBy place (asked plant) = place ≡ 1

abbrev pub IsSorted : Sort → Type 0
IsSorted s = IsPlacedBy s.place s.source

pub all_sorted : (kind : Kind) → AllByRecursion IsSorted (shape_of kind)
all_sorted (DataObject slots) = tt
all_sorted Gage = (tt, (tt, tt))
all_sorted Confluence = (tt, (tt, (tt, tt)))
all_sorted Bifurcation = (tt, (tt, (tt, tt)))
all_sorted (Reach zero history local_inflow diversion return_flow) = (tt, (tt, tt))
all_sorted (Reach (suc lag) history local_inflow diversion return_flow) = (tt, tt)
all_sorted (Reservoir initial_storage table local_inflow diversion return_flow evaporation max_release) = (tt, (tt, (refl, tt)))
all_sorted (WaterUser depletion Request) = (tt, tt)
all_sorted (WaterUser depletion ByRule) = tt
all_sorted (Canal seepage) = (tt, (tt, tt))
all_sorted (PowerReservoir initial_storage table max_release tailwater power) = (tt, (refl, (refl, tt)))
all_sorted (RoutedReach initial_content release) = (tt, (tt, tt))

-- the sorts whose terms these are
pub record IsTermOf (view : View) (shape : List Sort) (term : Term) : Type 0 where
  pub at : Sort
  pub has : Among shape at
  pub is : term ≡ term_in view at

pub term_of : (view : View) (shape : List Sort) (term : Term) → Among (map (term_in view) shape) term → IsTermOf view shape term
term_of view [] term has = absurd has
term_of view (s ∷ shape) term (inl same) = record { at = s; has = inl refl; is = sym same }
term_of view (s ∷ shape) term (inr later) = let rest = term_of view shape term later in record { at = rest.at; has = inr rest.has; is = rest.is }

pub among_terms : (view : View) (shape : List Sort) (s : Sort) → Among shape s → Among (map (term_in view) shape) (term_in view s)
among_terms view [] s has = absurd has
among_terms view (first ∷ shape) s (inl same) = inl (ap (term_in view) same)
among_terms view (first ∷ shape) s (inr later) = inr (among_terms view shape s later)

-- ---- what is given

-- what has a value is known
pub some_value : (held : Option Content) (value : ℤ) → option_map (λ (content : Content). content.value) held ≡ Some value
    → (content : Content) × (held ≡ Some content)
some_value None value is = absurd (none-some value is)
some_value (Some content) value is = (content, refl)

abbrev pub given_of : Content → Given
given_of content = record { value = content.value; number = content.number }

given_when : (own : ObjectNo) (content : Content) (test : Bool) → is_same_object content.writer (ByObject own) ≡ test
    → (if test then None else Some (given_of content)) ≡ None → test ≡ true
given_when own content true is none = refl
given_when own content false is none = absurd (none-some _ (sym none))

-- what is known and isn't given the object wrote itself
pub own_of : (view : View) (place : ℕ) (content : Content) → given view place ≡ None → known view place ≡ Some content → is_own view content ≡ true
own_of view place content none there =
    given_when view.own content (is_own view content) refl (ap (given_by view.own) (sym there) ∙ none)

-- what another wrote is given
pub given_other : (view : View) (place : ℕ) (content : Content) → known view place ≡ Some content → is_own view content ≡ false
    → given view place ≡ Some (record { value = content.value; number = content.number })
given_other view place content there other =
    ap (given_by view.own) there ∙ ap (λ test. if test then None else Some (record { value = content.value; number = content.number })) other

pub record IsGivenAs (view : View) (place : ℕ) (held : Given) : Type 0 where
  pub content : Content
  pub there : known view place ≡ Some content
  pub other : is_own view content ≡ false
  pub value : content.value ≡ held.value
  pub number : content.number ≡ held.number

given_as_when : (view : View) (place : ℕ) (held : Given) (content : Content) → known view place ≡ Some content → (test : Bool)
    → is_own view content ≡ test
    → (if test then None else Some (given_of content)) ≡ Some held → IsGivenAs view place held
given_as_when view place held content there true is found = absurd (none-some held found)
given_as_when view place held content there false is found =
    let same : record { value = content.value; number = content.number } ≡ held = same_Some _ _ found in
    record { content = content; there = there; other = is; value = ap (λ (g : Given). g.value) same; number = ap (λ (g : Given). g.number) same }

given_as_by : (view : View) (place : ℕ) (held : Given) (found : Option Content) → known view place ≡ found → given_by view.own found ≡ Some held
    → IsGivenAs view place held
given_as_by view place held None there is = absurd (none-some held is)
given_as_by view place held (Some content) there is = given_as_when view place held content there (is_own view content) refl is

pub given_as : (view : View) (place : ℕ) (held : Given) → given view place ≡ Some held → IsGivenAs view place held
given_as view place held is = given_as_by view place held (known view place) refl is

-- what is given in a slot has the number of what the slot holds
pub given_number : (view : View) (place : ℕ) (held : Given) (content : Content) → given view place ≡ Some held → known view place ≡ Some content
    → held.number ≤ content.number
given_number view place held content given_is there =
    let seen = given_as view place held given_is in
    let same : seen.content ≡ content = same_Some _ _ (sym seen.there ∙ there) in
    let n : seen.content.number ≡ content.number = ap (λ (c : Content). c.number) same in
    let m = seen.number in omega (arith, n, m)

-- ---- contents

-- so many of storage and elevation have a number up to this
pub from_contents : (table : Option (List Row)) (storage elevation : Option Given) (number : ℕ)
    → IsGivenUpTo number (contents_by table (basis_of storage elevation))
    → IsGivenUpTo number storage ⊎ IsGivenUpTo number elevation
from_contents table None None number is = absurd (none-some is.held is.is)
from_contents table (Some s) None number is = inl (record { held = is.held; is = is.is; most = is.most })
from_contents table None (Some e) number is =
    let same = same_Some _ _ is.is in let most =
    is.most in inr (record { held = e; is = refl; most = subst (λ n. n ≤ number) (sym (ap (λ (g : Given). g.number) same)) most })
from_contents table (Some s) (Some e) number is = by (nat_le s.number e.number) is.is
  where
    by : (test : Bool) → contents_by table (if test then Storage s else Elevation e) ≡ Some is.held
        → IsGivenUpTo number (Some s) ⊎ IsGivenUpTo number (Some e)
    by true found = inl (record { held = is.held; is = found; most = is.most })
    by false found =
        let same = same_Some _ _ found in let most =
        is.most in inr (record { held = e; is = refl; most = subst (λ n. n ≤ number) (sym (ap (λ (g : Given). g.number) same)) most })

by_elevation : (table : Option (List Row)) (e : Given) (number : ℕ) → e.number ≤ number → IsGivenUpTo number (contents_by table (Elevation e))
by_elevation table e number most =
    record { held = record { value = unwrap_or (volume_of table e.value) (pos 0); number = e.number }; is = refl; most = most }

by_storage : (table : Option (List Row)) (s : Given) (number : ℕ) → s.number ≤ number → IsGivenUpTo number (contents_by table (Storage s))
by_storage table s number most = record { held = s; is = refl; most = most }

least_of : (table : Option (List Row)) (s e : Given) (number : ℕ) → (s.number ≤ number) ⊎ (e.number ≤ number) → (test : Bool)
    → nat_le s.number e.number ≡ test
    → IsGivenUpTo number (contents_by table (if test then Storage s else Elevation e))
least_of table s e number (inl most) true less = by_storage table s number most
least_of table s e number (inr most) true less = by_storage table s number (grind (arith, nat_tests, most, less))
least_of table s e number (inl most) false less = by_elevation table e number (grind (arith, nat_tests, most, less))
least_of table s e number (inr most) false less = by_elevation table e number most

held_up_to : (held : Given) (number : ℕ) → IsGivenUpTo number (Some held) → held.number ≤ number
held_up_to held number is = let most = is.most in subst (λ (g : Given). g.number ≤ number) (sym (same_Some _ _ is.is)) most

pub to_contents : (table : Option (List Row)) (storage elevation : Option Given) (number : ℕ)
    → IsGivenUpTo number storage ⊎ IsGivenUpTo number elevation
    → IsGivenUpTo number (contents_by table (basis_of storage elevation))
to_contents table None None number (inl is) = absurd (none-some is.held is.is)
to_contents table None None number (inr is) = absurd (none-some is.held is.is)
to_contents table (Some s) None number (inl is) = by_storage table s number (held_up_to s number is)
to_contents table (Some s) None number (inr is) = absurd (none-some is.held is.is)
to_contents table None (Some e) number (inl is) = absurd (none-some is.held is.is)
to_contents table None (Some e) number (inr is) = by_elevation table e number (held_up_to e number is)
to_contents table (Some s) (Some e) number (inl is) = least_of table s e number (inl (held_up_to s number is)) (nat_le s.number e.number) refl
to_contents table (Some s) (Some e) number (inr is) = least_of table s e number (inr (held_up_to e number is)) (nat_le s.number e.number) refl

-- contents that aren't given are given by neither
pub none_of : (table : Option (List Row)) (storage elevation : Option Given) → contents_by table (basis_of storage elevation) ≡ None → storage ≡ None
none_of table None elevation none = refl
none_of table (Some s) elevation none =
    let given_there =
    to_contents table (Some s) elevation s.number (inl (record { held = s; is = refl; most = omega arith })) in
    absurd (none-some given_there.held (sym none ∙ given_there.is))

-- a term that isn't given, in a slot that is known, the object wrote itself
own_from : (view : View) (place : ℕ) (source : Source) (content : Content) → IsPlacedBy place source → given_from view place source ≡ None
    → known view place ≡ Some content
    → is_own view content ≡ true
own_from view place slot content at none there = own_of view place content none there
own_from view place (contents table) content at none there =
    own_of view 2 content (none_of table (given view 2) (given view 3) none) (ap (known view) (sym at) ∙ there)
own_from view place (asked plant) content at none there =
    own_of view 1 content (none_asked (asked_of plant view) (given view 1) none) (ap (known view) (sym at) ∙ there)

pub own_in : (view : View) (s : Sort) (content : Content) → IsSorted s → given_in view s ≡ None → known view s.place ≡ Some content
    → is_own view content ≡ true
own_in view s content sorted none there = own_from view s.place s.source content sorted none there

-- ---- what others write leaves given what was, with no lower priority

pub same_given : (old new : View) (place : ℕ) → new.own ≡ old.own → known new place ≡ known old place → given new place ≡ given old place
same_given old new place own same = ap (λ o. given_by o (known new place)) own ∙ ap (given_by old.own) same

pub other_given : (old new : View) → IsAfterOthers old new → (place number : ℕ) → IsGivenUpTo number (given old place)
    → IsGivenUpTo number (given new place)
other_given old new passes place number is = elim (passes.slots place) [
  | inl same ↦ record { held = is.held; is = same_given old new place passes.own same ∙ is.is; most = is.most }
  | inr replaced ↦
      let was = given_as old place is.held is.is in
      let other : is_own new replaced.content ≡ false =
      ap (λ own. is_same_object replaced.content.writer (ByObject own)) passes.own ∙ replaced.other in
      let falls : replaced.content.number ≤ was.content.number = replaced.falls was.content was.there in
      let number_is = was.number in let most = is.most in
      record {
        held = record { value = replaced.content.value; number = replaced.content.number };
        is = given_other new place replaced.content replaced.is other;
        most = omega (arith, falls, number_is, most);
      }
]

-- what is known stays known
pub up_to_passes : (old new : View) → IsAfterOthers old new → (place number : ℕ) → IsUpTo number (known old place) → IsUpTo number (known new place)
up_to_passes old new passes place number is = elim (passes.slots place) [
  | inl same ↦ record { content = is.content; is = same ∙ is.is; most = is.most }
  | inr replaced ↦ let falls = replaced.falls is.content is.is in let most =
      is.most in record { content = replaced.content; is = replaced.is; most = omega (arith, falls, most) }
]

other_from : (old new : View) → IsAfterOthers old new → (place : ℕ) (source : Source) (number : ℕ) → IsGivenUpTo number (given_from old place source)
    → IsGivenUpTo number (given_from new place source)
other_from old new passes place slot number is = other_given old new passes place number is
other_from old new passes place (asked plant) number is =
    to_asked plant new number (elim (from_asked plant old number is) [
      | inl asks ↦ inl (ap is_some passes.past ∙ asks.0, up_to_passes old new passes 4 number asks.1)
      | inr held ↦ inr (other_given old new passes 1 number held)
    ])
other_from old new passes place (contents table) number is =
    to_contents table (given new 2) (given new 3) number (elim (from_contents table (given old 2) (given old 3) number is) [
      | inl storage ↦ inl (other_given old new passes 2 number storage)
      | inr elevation ↦ inr (other_given old new passes 3 number elevation)
    ])

pub other_in : (old new : View) → IsAfterOthers old new → (s : Sort) (number : ℕ) → IsGivenUpTo number (given_in old s)
    → IsGivenUpTo number (given_in new s)
other_in old new passes s number is = other_from old new passes s.place s.source number is
