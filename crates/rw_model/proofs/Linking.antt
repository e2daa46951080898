-- Which link has a slot, what a link with no fault is, and what stays when a basin grows.
use Rattle.rw_base.proofs.Common.{◌≡◌, ℕ, suc, ◌+◌, ◌<◌, ◌≤◌, ◌==◌, List, [], ◌∷◌, ◌++◌, length, Bool, true, false, not, ◌||◌, Option, Some, None}
use Rattle.rw_base.proofs.Common.{refl, sym, ap, ◌∙◌, arith, slice_index_or, All, is_some, if◌then◌else◌, option_or, All-head, All-tail, All-map}
use Rattle.rw_base.specs.declared.number.SlotNo.{SlotNo}
use Rattle.rw_model.specs.Refusal.{unknown_slot, linked_twice, link_within_object, link_dimension}
use Rattle.rw_model.specs.Kept.{numbers_of, KeepsPlaces}
use Rattle.rw_model.specs.Objects.{Object}
use Rattle.rw_model.specs.Links.{is_among, is_slot, link_from, link_of, measures_alike, shares_owner, join_refusal}

-- ---- which link has a slot

within_step : (test : Bool) (place k n : ℕ) (rest : Option ℕ) → (rest ≡ Some k → k < (place + 1) + n) → (if test then Some place else rest) ≡ Some k
    → k < place + suc n
within_step true place k n rest later found = let same : place ≡ k = cc in omega (arith, same)
within_step false place k n rest later found = let behind = later found in omega (arith, behind)

pub link_from-within : (place : ℕ) (links : List (List ℕ)) (slot k : ℕ) → link_from place links slot ≡ Some k → k < place + length links
link_from-within place [] slot k found = absurd (cc)
link_from-within place (link ∷ links) slot k found =
    within_step (is_among slot link) place k (length links) (link_from (place + 1) links slot) (link_from-within (place + 1) links slot k) found

-- the link that has a slot is one of the links
pub link_of-within : (links : List (List ℕ)) (slot k : ℕ) → link_of links slot ≡ Some k → k + 1 ≤ length links
link_of-within links slot k found = let near = link_from-within 0 links slot k found in omega (arith, near)

either_or : (test : Bool) (place : ℕ) (rest more last : Option ℕ) → more ≡ option_or rest last
    → (if test then Some place else more) ≡ option_or (if test then Some place else rest) last
either_or true place rest more last e = refl
either_or false place rest more last e = e

-- a link more has the slots that no link before it has
pub link_from-push : (place : ℕ) (links : List (List ℕ)) (link : List ℕ) (slot : ℕ)
    → link_from place (links ++ link ∷ []) slot
    ≡ option_or (link_from place links slot) (if is_among slot link then Some (place + length links) else None)
link_from-push place [] link slot =
    let same : place ≡ place + 0 = omega arith in ap (λ n. if is_among slot link then Some n else None) same
link_from-push place (l ∷ links) link slot =
    let same : (place + 1) + length links ≡ place + length (l ∷ links) = omega arith in
    either_or (is_among slot l) place (link_from (place + 1) links slot) (link_from (place + 1) (links ++ link ∷ []) slot) _
    (link_from-push (place + 1) links link slot
    ∙ ap (λ n. option_or (link_from (place + 1) links slot) (if is_among slot link then Some n else None)) same)

marked_link : (test : Bool) (n : ℕ) (old : Option ℕ) → (test ≡ true → old ≡ None)
    → (if test then Some n else old) ≡ option_or old (if test then Some n else None)
marked_link true n old free = let none = free refl in rw none refl
marked_link false n None free = refl
marked_link false n (Some o) free = refl

among_first : (P : ℕ → Type 0) (n m : ℕ) (later : Bool) → P m → (later ≡ true → P n) → ((n == m) || later) ≡ true → P n
among_first P n m later here there among = grind arith

-- what holds of each of the numbers holds of one among them
pub among_all : (P : ℕ → Type 0) (slots : List ℕ) → All P slots → (n : ℕ) → is_among n slots ≡ true → P n
among_all P [] all n among = absurd (cc)
among_all P (slot ∷ slots) all n among =
    among_first P n slot (is_among n slots) (All-head P slot slots all) (among_all P slots (All-tail P slot slots all) n) among

-- what is said of the slots of a new link is what the links say
pub KeepsPlaces-push : (links : List (List ℕ)) (slots : List SlotNo) (places more : List (Option ℕ)) → KeepsPlaces links places
    → All (λ (slot : SlotNo). link_of links slot.0 ≡ None) slots
    → ((k : ℕ) → slice_index_or more k None ≡ (if is_among (k + 1) (numbers_of slots) then Some (length links) else slice_index_or places k None))
    → KeepsPlaces (links ++ numbers_of slots ∷ []) more
KeepsPlaces-push links slots places more kept free marked k =
    let begins : length links ≡ 0 + length links = omega arith in
    marked k
    ∙ ap (λ old. if is_among (k + 1) (numbers_of slots) then Some (length links) else old) (kept k)
    ∙ marked_link (is_among (k + 1) (numbers_of slots)) (length links) (link_of links (k + 1))
    (among_all (λ n. link_of links n ≡ None) (numbers_of slots)
    (All-map (λ n. link_of links n ≡ None) (λ (slot : SlotNo). slot.0) slots free) (k + 1))
    ∙ ap (λ n. option_or (link_of links (k + 1)) (if is_among (k + 1) (numbers_of slots) then Some n else None)) begins
    ∙ sym (link_from-push 0 links (numbers_of slots) (k + 1))

-- ---- a slot that a link names

-- nothing is wrong with a slot that a link names after others
pub record IsJoined (objects : List Object) (links : List (List ℕ)) (before : List ℕ) (slot : ℕ) : Type 0 where
  pub known : is_slot objects slot ≡ true
  pub free : link_of links slot ≡ None
  pub apart : shares_owner objects slot before ≡ false
  pub alike : measures_alike objects slot before ≡ true

no_fault : (known : Bool) (link : Option ℕ) (shares alike : Bool)
    → (if not known then Some unknown_slot else if is_some link then Some linked_twice else if shares then Some link_within_object else if alike then
    None else Some link_dimension) ≡ None
    → (known ≡ true) × (link ≡ None) × (shares ≡ false) × (alike ≡ true)
no_fault false link shares alike none = absurd (cc)
no_fault true (Some link) shares alike none = absurd (cc)
no_fault true None true alike none = absurd (cc)
no_fault true None false false none = absurd (cc)
no_fault true None false true none = (refl, refl, refl, refl)

pub joined : (objects : List Object) (links : List (List ℕ)) (before : List ℕ) (slot : ℕ) → join_refusal objects links before slot ≡ None
    → IsJoined objects links before slot
joined objects links before slot none =
    let facts = no_fault (is_slot objects slot) (link_of links slot) (shares_owner objects slot before) (measures_alike objects slot before) none in
    record { known = facts.0; free = facts.1; apart = facts.2; alike = facts.3 }
