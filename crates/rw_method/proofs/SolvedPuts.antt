-- What a method puts stands in slots of its kind.
use Rattle.rw_method.proofs.Common.{All, All-append, All-push, AllFit, Balanced, Bool, Conflicts, Given, Holds, Idle, IsSome, List, None, Option, Put}
use Rattle.rw_method.proofs.Common.{Solves, Some, Term, View, [], all_or_misfit, answer, ap, ap₂, arith, balanced_of, beside_basis, beside_given}
use Rattle.rw_method.proofs.Common.{content_before, content_put, evaporation_put, false, fault_of_contents, fault_of_past, first_misfit, fits}
use Rattle.rw_method.proofs.Common.{gives_way_before, if◌then◌else◌, inl, inr, int_eq, is_bounded, is_some, known_after, length, length-append}
use Rattle.rw_method.proofs.Common.{level_puts, missing, nat_le, net_of, none-some, not, or_else, pos, put_found, puts_of, refl, release_puts}
use Rattle.rw_method.proofs.Common.{same_Some, seepage_put, solved_balance, solved_at, solve_of, solved_put, solves, subst, suc, true, user_puts}
use Rattle.rw_method.proofs.Common.{value_from_others, weakest, zero, ℕ, ℤ, ◌&&◌, ◌++◌, ◌+ℤ◌, ◌+◌, ◌<◌, ◌==◌, ◌∙◌, ◌∷◌, ◌≡◌, ◌≤◌, ◌⊎◌, asked_of}
use Rattle.rw_method.proofs.Common.{asked_put, energy_puts, fault_of_level, fault_of_request, first_fault, flow_puts, head_of, held_after_puts, plant}
use Rattle.rw_method.proofs.Common.{Plant, power_balance, power_flows, release_for, request_of, unless_faulty, Content, put}
use Rattle.rw_table.specs.Table.{Row}
use Rattle.rw_model.specs.declared.kind.Kind.{Kind}
use Rattle.rw_model.specs.declared.kind.Kind.TheVariants.{DataObject, Gage, Confluence, Bifurcation, Reach, Reservoir, WaterUser, Canal, RoutedReach}
use Rattle.rw_model.specs.declared.kind.Kind.TheVariants.{PowerReservoir}
use Rattle.rw_model.specs.declared.kind.Supply.TheVariants.{Request, Rule}
use Rattle.rw_model.proofs.Common.{IsKind, IsStored, Slot, where_chosen, slot_in}
use Rattle.rw_method.specs.declared.basis.Basis.{Basis}
use Rattle.rw_method.specs.declared.basis.Basis.TheVariants.{Nothing, Storage, Elevation}
use Rattle.rw_method.specs.declared.solved.Solved.{Solved}
use Rattle.rw_method.specs.declared.solved.Solved.TheVariants.{Idle as IdleAnswer, Puts, Conflict, OutOfRange}
use Rattle.rw_method.specs.Balance.{balance_of, evaporation_of}
use Rattle.rw_method.specs.Contents.{basis_of, fault_of_basis, disagreement, can_hold, elevation_of, volume_of, are_both_zero, agree}
use Rattle.rw_method.specs.View.{given}
use Rattle.rw_method.proofs.PutFacts.{first_fits}
use Rattle.rw_method.proofs.BalanceFacts.{balanced_code}

-- ---- a kind has a slot in each place at which it puts

pub record IsOwn (kind : Kind) (place : ℕ) : Type 0 where
  pub few : place < 12
  pub slot : IsSome (slot_in kind place)

-- so many puts at most, each in a place of the kind
record AreOwn (kind : Kind) (most : ℕ) (puts : List Put) : Type 0 where
  own : All (λ (put : Put). IsOwn kind put.place) puts
  few : length puts ≤ most

none_own : (kind : Kind) (most : ℕ) → AreOwn kind most []
none_own kind most = record { own = λ k d lt. absurd (omega (arith, lt)); few = omega arith }

one_own : (kind : Kind) (put : Put) → IsOwn kind put.place → AreOwn kind 1 (put ∷ [])
one_own kind put own =
    record { own = All-push (λ (p : Put). IsOwn kind p.place) [] put (none_own kind 0).own own; few = omega arith }

both_own : (kind : Kind) (m n : ℕ) (xs ys : List Put) → AreOwn kind m xs → AreOwn kind n ys → AreOwn kind (m + n) (xs ++ ys)
both_own kind m n xs ys x y = record {
  own = All-append (λ (p : Put). IsOwn kind p.place) xs ys x.own y.own;
  few = omega (arith, x.few, y.few, length-append xs ys);
}

more_room : (kind : Kind) (m n : ℕ) (puts : List Put) → m ≤ n → AreOwn kind m puts → AreOwn kind n puts
more_room kind m n puts le own = record { own = own.own; few = omega (arith, own.few, le) }

if_own : (kind : Kind) (most : ℕ) (test : Bool) (xs ys : List Put) → (test ≡ true → AreOwn kind most xs) → AreOwn kind most ys
    → AreOwn kind most (if test then xs else ys)
if_own kind most true xs ys x y = x refl
if_own kind most false xs ys x y = y

found_own : (kind : Kind) (place : ℕ) (value : Option ℤ) (number : ℕ) → (is_some value ≡ true → IsOwn kind place)
    → AreOwn kind 1 (put_found place value number)
found_own kind place None number own = none_own kind 1
found_own kind place (Some value) number own = one_own kind _ (own refl)

-- ---- the solved term is one of the balance

-- what is solved stands in a place of the kind
abbrev SolvesOwn : Kind → Balanced → Type 0
SolvesOwn kind Idle = Unit {0}
SolvesOwn kind Holds = Unit {0}
SolvesOwn kind (Solves place value number) = IsOwn kind place
SolvesOwn kind (Conflicts place held solved) = Unit {0}

-- each term stands in a place of the kind
abbrev TermsOwn : Kind → List Term → Type 0
TermsOwn kind [] = Unit {0}
TermsOwn kind (term ∷ terms) = IsOwn kind term.place × TermsOwn kind terms

weaker_own : (kind : Kind) (test : Bool) (a b : Term) → IsOwn kind a.place → IsOwn kind b.place → IsOwn kind (if test then a else b).place
weaker_own kind true a b x y = x
weaker_own kind false a b x y = y

weakest_own : (kind : Kind) (term : Term) (terms : List Term) → IsOwn kind term.place → TermsOwn kind terms
    → IsOwn kind (weakest term terms).place
weakest_own kind term [] own rest = own
weakest_own kind term (next ∷ terms) own rest =
    weakest_own kind (if gives_way_before term.given next.given then term else next) terms
    (weaker_own kind (gives_way_before term.given next.given) term next own rest.0) rest.1

if_solves : (kind : Kind) (test : Bool) (a b : Balanced) → SolvesOwn kind a → SolvesOwn kind b → SolvesOwn kind (if test then a else b)
if_solves kind true a b x y = x
if_solves kind false a b x y = y

solved_at_own : (kind : Kind) (steady : ℤ) (terms : List Term) (term : Term) (given : Option Given) → IsOwn kind term.place
    → SolvesOwn kind (solved_at steady terms term given)
solved_at_own kind steady terms term None own = own
solved_at_own kind steady terms term (Some held) own =
    if_solves kind (int_eq (steady +ℤ net_of terms) (pos 0)) _ _ tt
    (if_solves kind (held.number == 0) (Conflicts term.place held.value (value_from_others steady terms term)) (solves steady terms term) tt own)

solved_own : (kind : Kind) (steady : Option ℤ) (terms : List Term) → TermsOwn kind terms → SolvesOwn kind (solved_balance steady terms)
solved_own kind None terms own = tt
solved_own kind (Some steady) [] own = tt
solved_own kind (Some steady) (term ∷ terms) own =
    if_solves kind (nat_le 2 (missing (term ∷ terms))) _ _ tt
    (solved_at_own kind steady (term ∷ terms) (weakest term terms) (weakest term terms).given (weakest_own kind term terms own.0 own.1))

solved_put_own : (kind : Kind) (balanced : Balanced) → SolvesOwn kind balanced → AreOwn kind 1 (solved_put balanced)
solved_put_own kind Idle own = none_own kind 1
solved_put_own kind Holds own = none_own kind 1
solved_put_own kind (Solves place value number) own = one_own kind _ own
solved_put_own kind (Conflicts place held solved) own = none_own kind 1

-- ---- the other puts of a reservoir, a water user and a canal

beside_basis_own : (kind : Kind) (table : Option (List Row)) (basis : Basis) → IsOwn kind 2 → (is_some table ≡ true → IsOwn kind 3)
    → AreOwn kind 1 (beside_basis table basis)
beside_basis_own kind table Nothing storage elevation = none_own kind 1
beside_basis_own kind None (Storage held) storage elevation = none_own kind 1
beside_basis_own kind (Some rows) (Storage held) storage elevation =
    found_own kind 3 (elevation_of (Some rows) held.value) held.number (λ e. elevation refl)
beside_basis_own kind table (Elevation held) storage elevation =
    found_own kind 2 (volume_of table held.value) held.number (λ e. storage)

beside_given_own : (kind : Kind) (table : Option (List Row)) (storage elevation : Option Given) → IsOwn kind 2 → (is_some table ≡ true → IsOwn kind 3)
    → AreOwn kind 1 (beside_given table storage elevation)
beside_given_own kind table storage elevation own_storage own_elevation =
    if_own kind 1 (are_both_zero storage elevation) [] (beside_basis table (basis_of storage elevation)) (λ e. none_own kind 1)
    (beside_basis_own kind table (basis_of storage elevation) own_storage own_elevation)

elevation_own : (kind : Kind) (table : Option (List Row)) (value : ℤ) (number : ℕ) → (is_some table ≡ true → IsOwn kind 3)
    → AreOwn kind 1 (put_found 3 (elevation_of table value) number)
elevation_own kind None value number elevation = none_own kind 1
elevation_own kind (Some rows) value number elevation =
    found_own kind 3 (elevation_of (Some rows) value) number (λ e. elevation refl)

level_own : (kind : Kind) (table : Option (List Row)) (storage elevation : Option Given) (balanced : Balanced) → IsOwn kind 2
    → (is_some table ≡ true → IsOwn kind 3) → AreOwn kind 1 (level_puts table storage elevation balanced)
level_own kind table storage elevation Idle two three = beside_given_own kind table storage elevation two three
level_own kind table storage elevation Holds two three = beside_given_own kind table storage elevation two three
level_own kind table storage elevation (Conflicts place held solved) two three = beside_given_own kind table storage elevation two three
level_own kind table storage elevation (Solves place value number) two three =
    if_own kind 1 (place == 2) (put_found 3 (elevation_of table value) number) (beside_given table storage elevation)
    (λ e. elevation_own kind table value number three)
    (beside_given_own kind table storage elevation two three)

-- of flows beside which one is asked for
flows_own : (kind : Kind) (asking : Option Given) (terms : List Term) (balanced : Balanced) → SolvesOwn kind balanced → IsOwn kind 1
    → AreOwn kind 2 (flow_puts asking terms balanced)
flows_own kind None terms balanced own one = more_room kind 1 2 _ (omega arith) (solved_put_own kind balanced own)
flows_own kind (Some asking) terms Idle own one = more_room kind 1 2 _ (omega arith) (one_own kind _ one)
flows_own kind (Some asking) terms Holds own one = more_room kind 1 2 _ (omega arith) (one_own kind _ one)
flows_own kind (Some asking) terms (Conflicts place held solved) own one = more_room kind 1 2 _ (omega arith) (one_own kind _ one)
flows_own kind (Some asking) terms (Solves place value number) own one =
    let solved : AreOwn kind 1 (put place value number ∷ []) = one_own kind _ own in
    let asks : AreOwn kind 1 (asked_put terms (Solves place value number) asking ∷ []) = one_own kind _ one in
    if_own kind 2 (place == 1) _ _ (λ e. more_room kind 1 2 _ (omega arith) solved)
    (if_own kind 2 (place == 0) _ _ (λ e. both_own kind 1 1 (_ ∷ []) (_ ∷ []) solved asks) (both_own kind 1 1 (_ ∷ []) (_ ∷ []) asks solved))

release_own : (kind : Kind) (most : Option ℤ) (outflow : Given) → (is_some most ≡ true → IsOwn kind 9 × IsOwn kind 10)
    → AreOwn kind 2 (release_puts most outflow)
release_own kind None outflow own = none_own kind 2
release_own kind (Some most) outflow own = both_own kind 1 1 (_ ∷ []) (_ ∷ []) (one_own kind _ (own refl).0) (one_own kind _ (own refl).1)

-- ---- all that a kind puts

own_at : (kind : Kind) (place : ℕ) (slot : Slot) → place < 12 → slot_in kind place ≡ Some slot → IsOwn kind place
own_at kind place slot few there = record { few = few; slot = ap is_some there }

abbrev PutsOwn : Kind → View → Type 0
PutsOwn kind view = AreOwn kind 8 (puts_of kind view (balanced_of kind view))

-- the solved term
solved_alone : (kind : Kind) (view : View) → TermsOwn kind (balance_of kind view).terms → AreOwn kind 1 (solved_put (balanced_of kind view))
solved_alone kind view own =
    solved_put_own kind (balanced_of kind view) (solved_own kind (balance_of kind view).steady (balance_of kind view).terms own)

-- a kind that puts nothing else
nothing_beside : (kind : Kind) (view : View) → TermsOwn kind (balance_of kind view).terms → AreOwn kind 8 (solved_put (balanced_of kind view))
nothing_beside kind view own = more_room kind 1 8 _ (omega arith) (solved_alone kind view own)

-- a kind that puts others beside it
solved_beside : (kind : Kind) (view : View) (others : List Put) → TermsOwn kind (balance_of kind view).terms → AreOwn kind 7 others
    → AreOwn kind 8 (solved_put (balanced_of kind view) ++ others)
solved_beside kind view others own beside =
    both_own kind 1 7 (solved_put (balanced_of kind view)) others (solved_alone kind view own) beside

chosen_at : (kind : Kind) (place : ℕ) (test : Bool) (slot : Slot) → place < 12 → slot_in kind place ≡ where_chosen test slot → test ≡ true
    → IsOwn kind place
chosen_at kind place test slot few there chosen = own_at kind place slot few (there ∙ ap (λ t. where_chosen t slot) chosen)

reservoir_own : (initial_storage : ℤ) (table : Option (List Row)) (local_inflow diversion return_flow evaporation : Bool) (max_release : Option ℤ)
    (view : View)
    → IsStored initial_storage table evaporation max_release
    → PutsOwn (Reservoir initial_storage table local_inflow diversion return_flow evaporation max_release) view
reservoir_own initial_storage table local_inflow diversion return_flow evaporation max_release view is =
    let kind : Kind = Reservoir initial_storage table local_inflow diversion return_flow evaporation max_release in
    let two : IsOwn kind 2 = own_at kind 2 _ (omega arith) refl in
    let level : AreOwn kind 1 (level_puts table (given view 2) (given view 3) (balanced_of kind view)) =
    level_own kind table (given view 2) (given view 3) (balanced_of kind view) two (λ e. chosen_at kind 3 (is_some table) _ (omega arith) refl e) in
    let lost : AreOwn kind 1 (evaporation_put evaporation (evaporation_of evaporation table view)) =
    if_own kind 1 evaporation (_ ∷ []) []
    (λ e. one_own kind _ (chosen_at kind 8 (evaporation && is_some table) _ (omega arith) refl (ap₂ (λ a b. a && b) e (is.evaporates e))))
    (none_own kind 1) in
    let released : AreOwn kind 2 (release_puts max_release (known_after view (balanced_of kind view) 1)) =
    release_own kind max_release (known_after view (balanced_of kind view) 1)
    (λ e. (chosen_at kind 9 (is_some max_release) _ (omega arith) refl e, chosen_at kind 10 (is_some max_release) _ (omega arith) refl e)) in
    let solved : AreOwn kind 1 (solved_put (balanced_of kind view)) =
    solved_alone kind view (own_at kind 0 _ (omega arith) refl, (own_at kind 1 _ (omega arith) refl, (two, tt))) in
    more_room kind 5 8 _ (omega arith) (both_own kind 3 2 _ _ (both_own kind 2 1 _ _ (both_own kind 1 1 _ _ solved level) lost) released)

puts_own : (kind : Kind) (view : View) → IsKind kind → PutsOwn kind view
puts_own (DataObject slots) view is = none_own (DataObject slots) 8
puts_own Gage view is =
    nothing_beside Gage view (own_at _ 0 _ (omega arith) refl, (own_at _ 1 _ (omega arith) refl, tt))
puts_own Confluence view is =
    nothing_beside Confluence view (own_at _ 0 _ (omega arith) refl, (own_at _ 1 _ (omega arith) refl, (own_at _ 2 _ (omega arith) refl, tt)))
puts_own Bifurcation view is =
    nothing_beside Bifurcation view (own_at _ 0 _ (omega arith) refl, (own_at _ 1 _ (omega arith) refl, (own_at _ 2 _ (omega arith) refl, tt)))
puts_own (Reach zero history local_inflow diversion return_flow) view is =
    nothing_beside (Reach zero history local_inflow diversion return_flow) view
    (own_at _ 0 _ (omega arith) refl, (own_at _ 1 _ (omega arith) refl, tt))
puts_own (Reach (suc lag) history local_inflow diversion return_flow) view is =
    nothing_beside (Reach (suc lag) history local_inflow diversion return_flow) view (own_at _ 1 _ (omega arith) refl, tt)
puts_own (Reservoir initial_storage table local_inflow diversion return_flow evaporation max_release) view is =
    reservoir_own initial_storage table local_inflow diversion return_flow evaporation max_release view is
puts_own (WaterUser depletion Request) view is =
    let kind : Kind = WaterUser depletion Request in
    let used : AreOwn kind 2 (user_puts depletion (known_after view (balanced_of kind view) 1)) =
    both_own kind 1 1 (_ ∷ []) (_ ∷ []) (one_own kind _ (own_at _ 2 _ (omega arith) refl)) (one_own kind _ (own_at _ 3 _ (omega arith) refl)) in
    solved_beside kind view _ (own_at _ 1 _ (omega arith) refl, tt) (more_room kind 2 7 _ (omega arith) used)
puts_own (WaterUser depletion Rule) view is =
    let kind : Kind = WaterUser depletion Rule in
    let used : AreOwn kind 2 (user_puts depletion (known_after view (balanced_of kind view) 1)) =
    both_own kind 1 1 (_ ∷ []) (_ ∷ []) (one_own kind _ (own_at _ 2 _ (omega arith) refl)) (one_own kind _ (own_at _ 3 _ (omega arith) refl)) in
    solved_beside kind view _ tt (more_room kind 2 7 _ (omega arith) used)
puts_own (PowerReservoir initial_storage table max_release tailwater power) view is =
    let kind : Kind = PowerReservoir initial_storage table max_release tailwater power in
    let b = balanced_of kind view in
    let of : Plant = plant table max_release tailwater power in
    let zero_own : IsOwn kind 0 = own_at kind 0 _ (omega arith) refl in
    let one : IsOwn kind 1 = own_at kind 1 _ (omega arith) refl in
    let two : IsOwn kind 2 = own_at kind 2 _ (omega arith) refl in
    let flows : AreOwn kind 2 (power_flows of view b) =
    flows_own kind (asked_of of view) (power_balance of view).terms b
    (solved_own kind view.past (power_balance of view).terms (zero_own, (one, (two, tt)))) one in
    let level : AreOwn kind 1 (level_puts (Some table) (given view 2) (given view 3) b) =
    level_own kind (Some table) (given view 2) (given view 3) b two (λ e. own_at kind 3 _ (omega arith) refl) in
    let energy : AreOwn kind 3 (energy_puts of (head_of of view) (held_after_puts view (power_flows of view b) 1)) =
    both_own kind 1 2 (_ ∷ []) (_ ∷ _ ∷ []) (one_own kind _ (own_at kind 5 _ (omega arith) refl))
    (both_own kind 1 1 (_ ∷ []) (_ ∷ []) (one_own kind _ (own_at kind 6 _ (omega arith) refl))
    (one_own kind _ (own_at kind 7 _ (omega arith) refl))) in
    more_room kind 6 8 _ (omega arith) (both_own kind 3 3 _ _ (both_own kind 2 1 _ _ flows level) energy)
puts_own (Canal seepage) view is =
    let kind : Kind = Canal seepage in
    let seeps : AreOwn kind 1 (seepage_put (known_after view (balanced_of kind view) 0) (known_after view (balanced_of kind view) 1)) =
    one_own kind _ (own_at _ 2 _ (omega arith) refl) in
    solved_beside kind view _ (own_at _ 0 _ (omega arith) refl, (own_at _ 1 _ (omega arith) refl, tt)) (more_room kind 1 7 _ (omega arith) seeps)
puts_own (RoutedReach initial_content release) view is =
    let kind : Kind = RoutedReach initial_content release in
    let left : AreOwn kind 1 (content_put (content_before view) (known_after view (balanced_of kind view) 0)
    (known_after view (balanced_of kind view) 1)) =
    one_own kind _ (own_at _ 2 _ (omega arith) refl) in
    solved_beside kind view _ (own_at _ 0 _ (omega arith) refl, (own_at _ 1 _ (omega arith) refl, tt)) (more_room kind 1 7 _ (omega arith) left)

-- ---- what is answered

abbrev puts_in : Solved → Option (List Put)
puts_in (Puts puts) = Some puts
puts_in any = None

abbrev pub answer_code : Solved → ℕ
answer_code IdleAnswer = 0
answer_code (Puts puts) = 1
answer_code (Conflict place held found) = 2
answer_code (OutOfRange place value) = 3

-- an answer that is neither idle nor puts, if there is one
abbrev pub IsFaulty : Option Solved → Type 0
IsFaulty None = Unit {0}
IsFaulty (Some answer) = 2 ≤ answer_code answer

if_faulty : (test : Bool) (a b : Option Solved) → IsFaulty a → IsFaulty b → IsFaulty (if test then a else b)
if_faulty true a b x y = x
if_faulty false a b x y = y

or_faulty : (a b : Option Solved) → IsFaulty a → IsFaulty b → IsFaulty (or_else a b)
or_faulty None b x y = y
or_faulty (Some answer) b x y = x

past_faulty : (evaporation : Bool) (table : Option (List Row)) (past : Option ℤ) → IsFaulty (fault_of_past evaporation table past)
past_faulty evaporation table None = tt
past_faulty evaporation table (Some storage) =
    if_faulty (evaporation && not (can_hold table storage)) (Some (OutOfRange 2 storage)) None (omega arith) tt

basis_faulty : (table : Option (List Row)) (basis : Basis) → IsFaulty (fault_of_basis table basis)
basis_faulty table Nothing = tt
basis_faulty table (Storage storage) = if_faulty (can_hold table storage.value) None (Some (OutOfRange 2 storage.value)) tt (omega arith)
basis_faulty table (Elevation elevation) =
    if_faulty (is_some (volume_of table elevation.value)) None (Some (OutOfRange 3 elevation.value)) tt (omega arith)

disagreement_faulty : (table : Option (List Row)) (storage elevation : Option Given) → IsFaulty (disagreement table storage elevation)
disagreement_faulty table None elevation = tt
disagreement_faulty table (Some storage) None = tt
disagreement_faulty table (Some storage) (Some elevation) =
    if_faulty (storage.number == 0 && elevation.number == 0 && not (agree table storage.value elevation.value)) (Some (Conflict 3 elevation.value _))
    None (omega arith) tt

level_faulty : (table : Option (List Row)) (view : View) → IsFaulty (fault_of_level table view)
level_faulty table view =
    or_faulty (fault_of_basis table (basis_of (given view 2) (given view 3))) _ (basis_faulty table (basis_of (given view 2) (given view 3)))
    (disagreement_faulty table (given view 2) (given view 3))

request_faulty : (plant : Plant) (view : View) (request : Option Content) → IsFaulty (fault_of_request plant view request)
request_faulty plant view None = tt
request_faulty plant view (Some request) =
    if_faulty (is_some (release_for plant view request)) None (Some (OutOfRange 4 request.value)) tt (omega arith)

pub first_faulty : (kind : Kind) (view : View) → IsFaulty (first_fault kind view)
first_faulty (PowerReservoir initial_storage table max_release tailwater power) view =
    or_faulty (fault_of_past true (Some table) view.past) _ (past_faulty true (Some table) view.past)
    (request_faulty (plant table max_release tailwater power) view (request_of view))
first_faulty kind view = tt

pub contents_faulty : (kind : Kind) (view : View) → IsFaulty (fault_of_contents kind view)
contents_faulty (Reservoir initial_storage table local_inflow diversion return_flow evaporation max_release) view =
    or_faulty (fault_of_past evaporation table view.past) _ (past_faulty evaporation table view.past) (level_faulty table view)
contents_faulty (PowerReservoir initial_storage table max_release tailwater power) view = level_faulty (Some table) view
contents_faulty kind view = tt

-- puts are answered where nothing is wrong before all else
pub faultless : (first : Option Solved) (solved : Solved) (puts : List Put) → IsFaulty first → unless_faulty first solved ≡ Puts puts
    → (first ≡ None) × (solved ≡ Puts puts)
faultless None solved puts fine e = (refl, e)
faultless (Some fault) solved puts fine e = absurd (let code = ap answer_code e in omega (arith, fine, code))

by_misfit : (fit : Put → Bool) (judging puts : List Put) (misfit : Option Put) → first_misfit fit judging ≡ misfit
    → all_or_misfit judging misfit ≡ Puts puts
    → (judging ≡ puts) × AllFit fit puts
by_misfit fit judging puts None is e =
    let same : judging ≡ puts = same_Some _ _ (ap puts_in e) in (same, subst (AllFit fit) same is)
by_misfit fit judging puts (Some put) is e = absurd (none-some _ (ap puts_in e))

-- where puts are answered, they are those that were judged, all of them fit, nothing is wrong with the contents, and a term was solved or the
-- balance is true
pub record Judged (fit : Put → Bool) (judging puts : List Put) (balanced : Balanced) (fault : Option Solved) : Type 0 where
  pub same : judging ≡ puts
  pub fit_all : AllFit fit puts
  pub fine : fault ≡ None
  pub code : (balanced_code balanced ≡ 1) ⊎ (balanced_code balanced ≡ 2)

pub judged : (fit : Put → Bool) (judging puts : List Put) (balanced : Balanced) (fault : Option Solved) → IsFaulty fault
    → answer fit judging balanced fault ≡ Puts puts
    → Judged fit judging puts balanced fault
judged fit judging puts Idle fault fine e = absurd (none-some _ (ap puts_in e))
judged fit judging puts (Conflicts place held found_value) None fine e = absurd (none-some _ (ap puts_in e))
judged fit judging puts Holds None fine e =
    let by = by_misfit fit judging puts (first_misfit fit judging) refl e in record { same = by.0; fit_all = by.1; fine = refl; code = inl refl }
judged fit judging puts (Solves place value number) None fine e =
    let by = by_misfit fit judging puts (first_misfit fit judging) refl e in record { same = by.0; fit_all = by.1; fine = refl; code = inr refl }
judged fit judging puts balanced (Some found) fine e = absurd (let code = ap answer_code e in omega (arith, fine, code))

all_fit : (fit : Put → Bool) (puts : List Put) → AllFit fit puts → All (λ (put : Put). fit put ≡ true) puts
all_fit fit [] h = λ k d lt. absurd (omega (arith, lt))
all_fit fit (put ∷ puts) h =
    let first = first_fits fit put puts h in
    All-append (λ (p : Put). fit p ≡ true) (put ∷ []) puts
    (All-push (λ (p : Put). fit p ≡ true) [] put (λ k d lt. absurd (omega (arith, lt))) first.0) (all_fit fit puts first.1)

and_second : (a b : Bool) → a && b ≡ true → b ≡ true
and_second true b e = e
and_second false b e = absurd (cc)

-- ---- a put of a kind

-- it stands in a slot of the kind, and is a quantity within the slot's bounds
pub record IsPutOf (kind : Kind) (view : View) (put : Put) : Type 0 where
  pub own : IsOwn kind put.place
  pub bounded : is_bounded view put ≡ true

pub solve-puts : (kind : Kind) (view : View) (puts : List Put) → IsKind kind → solve_of kind view ≡ Puts puts
    → All (IsPutOf kind view) puts × (length puts ≤ 8)
solve-puts kind view puts is e =
    let clean = faultless (first_fault kind view) _ puts (first_faulty kind view) e in
    let judging =
    judged (fits kind view) (puts_of kind view (balanced_of kind view)) puts (balanced_of kind view) (fault_of_contents kind view)
    (contents_faulty kind view) clean.1 in
    let own : AreOwn kind 8 puts = subst (AreOwn kind 8) judging.same (puts_own kind view is) in
    let fit : All (λ (put : Put). fits kind view put ≡ true) puts = all_fit (fits kind view) puts judging.fit_all in
    (λ k d lt. record { own = own.own k d lt; bounded = and_second _ _ (fit k d lt) }, own.few)
