-- The machine does what an outcome says: from a state it comes, with the outcome's trail, to a state where what is wanted of the value holds, or
-- to the outcome's end (`Goes`). Such facts are put together here, step by step and one behind another.
use Rattle.rpl_compile.proofs.Common.{Answer, Block, Cell, Frame, List, Outcome, State, Trail, World, after, ap, append-nil, append_assoc, arith}
use Rattle.rpl_compile.proofs.Common.{ended, gives, goes_on, joined, refl, run, spent, step, stuck, suc, sym, value, ℕ, ◌>>=◌, ◌∙◌, ◌∷◌, ◌≡◌}
use Rattle.rw_firing.specs.declared.fire.FireEnd.{FireEnd}
use Rattle.rw_firing.specs.declared.fire.RulePut.{RulePut}

-- ---- trails

pub same_trail : (looked other_looked : List Cell) (puts other_puts : List RulePut) (count other_count : ℕ) → looked ≡ other_looked
    → puts ≡ other_puts → count ≡ other_count
    → ◌≡◌ {A = Trail} (record { looked = looked; puts = puts; count = count })
    (record { looked = other_looked; puts = other_puts; count = other_count })
same_trail looked other_looked puts other_puts count other_count looked_is puts_are counts_are =
    λ i. record { looked = looked_is i; puts = puts_are i; count = counts_are i }

pub joined_assoc : (trail further_trail last_trail : Trail)
    → joined (joined trail further_trail) last_trail ≡ joined trail (joined further_trail last_trail)
joined_assoc trail further_trail last_trail =
    same_trail _ _ _ _ _ _ (append_assoc trail.looked further_trail.looked last_trail.looked)
    (append_assoc trail.puts further_trail.puts last_trail.puts) (omega arith)

pub nothing_first : (trail : Trail) → joined (spent 0) trail ≡ trail
nothing_first trail = same_trail _ _ _ _ _ _ refl refl (omega arith)

pub nothing_last : (trail : Trail) → joined trail (spent 0) ≡ trail
nothing_last trail = same_trail _ _ _ _ _ _ (append-nil trail.looked) (append-nil trail.puts) (omega arith)

pub same_outcome : {A : Type 0} (answer : Answer A) (trail further_trail : Trail) → trail ≡ further_trail
    → ◌≡◌ {A = Outcome A} (record { answer = answer; trail = trail }) (record { answer = answer; trail = further_trail })
same_outcome answer trail further_trail trail_is = λ i. record { answer = answer; trail = trail_is i }

pub after_after : {A : Type 0} (trail further_trail : Trail) (outcome : Outcome A)
    → after trail (after further_trail outcome) ≡ after (joined trail further_trail) outcome
after_after trail further_trail outcome = same_outcome outcome.answer _ _ (sym (joined_assoc trail further_trail outcome.trail))

pub after_nothing : {A : Type 0} (outcome : Outcome A) → after (spent 0) outcome ≡ outcome
after_nothing outcome = same_outcome outcome.answer _ _ (nothing_first outcome.trail)

-- an outcome that isn't stuck, and whose value is so
abbrev pub Made : {A : Type 0} → Answer A → (A → Type 0) → Type 0
Made (value made) Wanted = Wanted made
Made (ended end) Wanted = Unit {0}
Made stuck Wanted = ⊥

-- ---- an outcome, from a state

module _ (code : List Block) (world : World) where
  -- so many steps more from the second state are as many as are wanted from the first, with a trail before
  abbrev pub Leads : State → Trail → State → Type 0
  Leads state trail next_state = (further : ℕ) → (enough : ℕ) × (run code world enough state ≡ after trail (run code world further next_state))

  abbrev pub GoesOn : {A : Type 0} → Answer A → Trail → State → (A → State → Type 0) → Type 0
  GoesOn (value made) trail state Wanted = (next_state : State) × Wanted made next_state × Leads state trail next_state
  GoesOn (ended end) trail state Wanted = (enough : ℕ) × (run code world enough state ≡ record { answer = ended end; trail = trail })
  GoesOn stuck trail state Wanted = ⊥

  -- from a state the machine comes to where what is wanted of the value holds, with this trail, or to this end; and the outcome isn't stuck
  abbrev pub Goes : {A : Type 0} → State → Outcome A → (A → State → Type 0) → Type 0
  Goes state outcome Wanted = GoesOn outcome.answer outcome.trail state Wanted

  then_goes : {C : Type 0} (state next_state : State) (trail further_trail : Trail) (further_answer : Answer C) (Wanted : C → State → Type 0)
      → Leads state trail next_state → GoesOn further_answer further_trail next_state Wanted
      → GoesOn further_answer (joined trail further_trail) state Wanted
  then_goes state next_state trail further_trail (value made) Wanted leads_so goes = (
    goes.0,
    goes.1,
    λ further. let far = goes.2 further in let near = leads_so far.0 in
        (near.0, near.1 ∙ ap (after trail) far.1 ∙ after_after trail further_trail (run code world further goes.0)),
  )
  then_goes state next_state trail further_trail (ended end) Wanted leads_so goes = let near = leads_so goes.0 in
      (near.0, near.1 ∙ ap (after trail) goes.1)
  then_goes state next_state trail further_trail stuck Wanted leads_so goes = goes

  bind_on : {A C : Type 0} (state : State) (answer : Answer A) (trail : Trail) (next : A → Outcome C) (Halfway : A → State → Type 0)
      (Wanted : C → State → Type 0)
      → GoesOn answer trail state Halfway → ((made : A) (next_state : State) → Halfway made next_state → Goes next_state (next made) Wanted)
      → Goes state (goes_on answer trail next) Wanted
  bind_on state (value made) trail next Halfway Wanted goes goes_then =
      then_goes state goes.0 trail (next made).trail (next made).answer Wanted goes.2 (goes_then made goes.0 goes.1)
  bind_on state (ended end) trail next Halfway Wanted goes goes_then = goes
  bind_on state stuck trail next Halfway Wanted goes goes_then = goes

  pub goes_bind : {A C : Type 0} (state : State) (outcome : Outcome A) (next : A → Outcome C) (Halfway : A → State → Type 0)
      (Wanted : C → State → Type 0)
      → Goes state outcome Halfway → ((made : A) (next_state : State) → Halfway made next_state → Goes next_state (next made) Wanted)
      → Goes state (outcome >>= next) Wanted
  goes_bind state outcome next Halfway Wanted goes goes_then = bind_on state outcome.answer outcome.trail next Halfway Wanted goes goes_then

  weaker_on : {A : Type 0} (state : State) (answer : Answer A) (trail : Trail) (Stronger Wanted : A → State → Type 0)
      → ((made : A) (next_state : State) → Stronger made next_state → Wanted made next_state)
      → GoesOn answer trail state Stronger → GoesOn answer trail state Wanted
  weaker_on state (value made) trail Stronger Wanted weaker goes = (goes.0, weaker made goes.0 goes.1, goes.2)
  weaker_on state (ended end) trail Stronger Wanted weaker goes = goes
  weaker_on state stuck trail Stronger Wanted weaker goes = goes

  -- the same, of more
  pub goes_weaker : {A : Type 0} (state : State) (outcome : Outcome A) (Stronger Wanted : A → State → Type 0)
      → ((made : A) (next_state : State) → Stronger made next_state → Wanted made next_state) → Goes state outcome Stronger
      → Goes state outcome Wanted
  goes_weaker state outcome Stronger Wanted weaker goes = weaker_on state outcome.answer outcome.trail Stronger Wanted weaker goes

  -- ---- steps

  one_step : (frame : Frame) (callers : List Frame) (next_state : State) (trail : Trail)
      → step code world frame callers ≡ record { answer = value next_state; trail = trail }
      → Leads (frame ∷ callers) trail next_state
  one_step frame callers next_state trail steps further = (suc further, ap (λ m. m >>= run code world further) steps)

  pub goes_first : {A : Type 0} (frame : Frame) (callers : List Frame) (next_state : State) (trail : Trail) (outcome : Outcome A)
      (Wanted : A → State → Type 0)
      → step code world frame callers ≡ record { answer = value next_state; trail = trail } → Goes next_state outcome Wanted
      → Goes (frame ∷ callers) (after trail outcome) Wanted
  goes_first frame callers next_state trail outcome Wanted steps goes =
      then_goes (frame ∷ callers) next_state trail outcome.trail outcome.answer Wanted (one_step frame callers next_state trail steps) goes

  -- nothing has to be done
  pub goes_none : {A : Type 0} (state : State) (made : A) (Wanted : A → State → Type 0) → Wanted made state → Goes state (gives made 0) Wanted
  goes_none state made Wanted holds = (state, holds, λ k. (k, sym (after_nothing (run code world k state))))

  pub goes_one : {A : Type 0} (frame : Frame) (callers : List Frame) (next_state : State) (trail : Trail) (made : A) (Wanted : A → State → Type 0)
      → step code world frame callers ≡ record { answer = value next_state; trail = trail } → Wanted made next_state
      → Goes (frame ∷ callers) (record { answer = value made; trail = trail }) Wanted
  goes_one frame callers next_state trail made Wanted steps holds = (next_state, holds, one_step frame callers next_state trail steps)

  pub goes_end : {A : Type 0} (frame : Frame) (callers : List Frame) (end : FireEnd) (trail : Trail) (Wanted : A → State → Type 0)
      → step code world frame callers ≡ record { answer = ended end; trail = trail } → GoesOn (ended end) trail (frame ∷ callers) Wanted
  goes_end frame callers end trail Wanted steps = (1, ap (λ m. m >>= run code world 0) steps)

  as_on : {A : Type 0} (frame : Frame) (callers : List Frame) (answer : Answer A) (trail : Trail) (go : A → State) (Wanted : A → State → Type 0)
      → step code world frame callers ≡ goes_on answer trail (λ made. gives (go made) 0) → Made answer (λ made. Wanted made (go made))
      → GoesOn answer trail (frame ∷ callers) Wanted
  as_on frame callers (value made) trail go Wanted steps made_so =
      goes_one frame callers (go made) trail made Wanted (steps ∙ same_outcome (value (go made)) _ _ (nothing_last trail)) made_so
  as_on frame callers (ended end) trail go Wanted steps made_so = goes_end frame callers end trail Wanted steps
  as_on frame callers stuck trail go Wanted steps made_so = made_so

  -- one step, which does what the outcome says
  pub goes_as : {A : Type 0} (frame : Frame) (callers : List Frame) (outcome : Outcome A) (go : A → State) (Wanted : A → State → Type 0)
      → step code world frame callers ≡ (outcome >>= (λ made. gives (go made) 0)) → Made outcome.answer (λ made. Wanted made (go made))
      → Goes (frame ∷ callers) outcome Wanted
  goes_as frame callers outcome go Wanted steps made_so = as_on frame callers outcome.answer outcome.trail go Wanted steps made_so

  free_on : {A : Type 0} (state : State) (answer : Answer A) (trail : Trail) (Halfway Wanted : A → State → Type 0) → GoesOn answer trail state Halfway
      → ((made : A) (next_state : State) → Halfway made next_state → (frame : Frame) × (callers : List Frame) × (last_state : State)
      × (next_state ≡ frame ∷ callers) × (step code world frame callers ≡ gives last_state 0)
      × Wanted made last_state) → GoesOn answer trail state Wanted
  free_on state (value made) trail Halfway Wanted goes free =
      let found = free made goes.0 goes.1 in (
        found.2,
        found.5,
        λ further.
            let near = goes.2 (suc further) in (
              near.0,
              near.1
                  ∙ ap (after trail)
                  (ap (run code world (suc further)) found.3 ∙ ap (λ m. m >>= run code world further) found.4
                  ∙ after_nothing (run code world further found.2)),
            ),
      )
  free_on state (ended end) trail Halfway Wanted goes free = goes
  free_on state stuck trail Halfway Wanted goes free = goes

  -- a step that counts nothing comes after
  pub goes_free : {A : Type 0} (state : State) (outcome : Outcome A) (Halfway Wanted : A → State → Type 0) → Goes state outcome Halfway
      → ((made : A) (next_state : State) → Halfway made next_state → (frame : Frame) × (callers : List Frame) × (last_state : State)
      × (next_state ≡ frame ∷ callers) × (step code world frame callers ≡ gives last_state 0)
      × Wanted made last_state) → Goes state outcome Wanted
  goes_free state outcome Halfway Wanted goes free = free_on state outcome.answer outcome.trail Halfway Wanted goes free
