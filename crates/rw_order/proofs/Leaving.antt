-- A dispatch in a log in any order leaves it sound, and its object at rest.
use Rattle.rw_order.proofs.Common.{AllByRecursion, Asked, ByObject, Cell, Cells, Content, Draft, Event, IdleAnswer, IsFault, IsSome, Kind, List, Look}
use Rattle.rw_order.proofs.Common.{None, Object, Option, Put, Puts, Solved, Some, View, [], answer, answered, ap, ap₂, arith, asked_for, cell_at}
use Rattle.rw_order.proofs.Common.{content_in, denied_by, dispatch_of, dispatched, end_in, false, given, given_by, held_after, idle, if◌then◌else◌}
use Rattle.rw_order.proofs.Common.{inl, inr, is_bounded, is_data, is_same_object, is_shared, is_some, is_written, known_value, last_put, looks_of}
use Rattle.rw_order.proofs.Common.{none-some, numbers, object_at, option_map, option_or, put, puts_written, refl, slot_in_place, solve_of, solved}
use Rattle.rw_order.proofs.Common.{subst, sym, true, unwrap_or, view_of, written_by, ℕ, ℤ, ◌∙◌, ◌∷◌, ◌≡◌, ◌⊎◌}
use Rattle.rw_order.proofs.Lists.{all_kept}
use Rattle.rw_order.proofs.Held.{AnswersWithin, AreHeld}
use Rattle.rw_order.proofs.AllKinds.{AreLevelledOf}
use Rattle.rw_order.proofs.Numbers.{AllZero, answers_plain, given_zero}
use Rattle.rw_order.proofs.Writing.{AllFind, AllNew, Finds, Grow, IsLast, after_puts, all_find_held, all_new, all_pass, all_pass_rest, all_stand}
use Rattle.rw_order.proofs.Writing.{either_by, find_pass, grow_below, known_stays, last_of}
use Rattle.rw_order.proofs.Places.{HaveSlots, are_clear, asked_held, puts_stand, values_at}
use Rattle.rw_order.proofs.Resting.{HasSpoken, IsAtRest, IsSilent, known_zero, rest_within, seen_below}
use Rattle.rw_order.proofs.Sounds.{IsLaidOut, IsMade, IsSound, can_stand, in_bounds, level_kept}
use Rattle.rw_base.proofs.Lists.{both_all, weaker_all}
use Rattle.rw_dispatch.proofs.Viewed.{content-slot, known-view}

-- a put that the object asks for
record IsAskedOf (basin : Draft) (object step : ℕ) (put : Asked) : Type 0 where
  place : ℕ
  slot : ℕ
  at : slot_in_place basin.objects object place ≡ Some slot
  cell : put.cell ≡ cell_at slot step
  number : put.content.number ≡ 0
  writer : put.content.writer ≡ ByObject (record { 0 = object })
  inside : in_bounds basin slot put.content.value ≡ true

-- nothing in the object's places is its own
abbrev pub WroteNothing : Draft → Cells → ℕ → ℕ → Type 0
WroteNothing basin cells object step = (place : ℕ) (content : Content) → content_in basin cells object step place ≡ Some content
    → is_same_object content.writer (ByObject (record { 0 = object })) ≡ false

-- it has spoken, or wrote nothing
abbrev pub HasSaid : Draft → Cells → Cells → ℕ → ℕ → Kind → Type 0
HasSaid basin start cells object step kind = HasSpoken basin start cells object step kind ⊎ WroteNothing basin cells object step

-- the event is a dispatch of the object at the timestep
abbrev pub IsAsked : ℕ → ℕ → Event → Type 0
IsAsked object step (idle other at looked) = (other ≡ object) × (at ≡ step)
IsAsked object step (solved dispatch) = (dispatch.object ≡ object) × (dispatch.step ≡ step)
IsAsked object step event = ⊥

-- what a dispatch leaves
pub record Leaves (basin : Draft) (start : Cells) (step object : ℕ) (kind : Kind) (cells : Cells) (event : Event) : Type 0 where
  pub asked : IsAsked object step event
  -- it writes to unknown cells alone
  pub new : AllNew cells (written_by event)
  pub grows : Grow cells (held_after basin event cells)
  pub sound : IsSound basin start step (held_after basin event cells)
  pub said : HasSaid basin start (held_after basin event cells) object step kind
  pub rest : IsAtRest basin start (held_after basin event cells) object step kind
  -- what is new is the object's, at the timestep
  pub fresh : (cell : Cell) (content : Content) → held_after basin event cells cell ≡ Some content
      → (cells cell ≡ Some content) ⊎ ((cells cell ≡ None) × (content.writer ≡ ByObject (record { 0 = object })) × (cell.step.0 ≡ step))

module _ (basin : Draft) (start : Cells) (step object : ℕ) (found : Object) (laid : IsLaidOut basin)
    (is_object : object_at basin.objects object ≡ Some found) (ready : is_data basin object ≡ false) (cells : Cells)
    (sound : IsSound basin start step cells) where
  abbrev view : View
  view = view_of basin cells object step

  abbrev LeavesBy : Event → Type 0
  LeavesBy event = Leaves basin start step object found.kind cells event

  levelled : AreLevelledOf found.kind view (view_of basin start object step)
  levelled = level_kept basin start step laid cells object step found sound is_object

  -- each put that it asks for
  asked_of : (puts : List Put) → AllZero puts → HaveSlots basin object puts → AllByRecursion (λ (put : Put). is_bounded view put ≡ true) puts
      → AllByRecursion (IsAskedOf basin object step) (asked_for basin object step puts)
  asked_of [] numbers slots bounded = tt
  asked_of (put ∷ puts) numbers slots bounded = (
    record {
      place = put.place;
      slot = slots.0.0;
      at = slots.0.1;
      cell = ap (λ slot. cell_at (unwrap_or slot 0) step) slots.0.1;
      number = numbers.0;
      writer = refl;
      inside = sym (laid.bounds cells object step put.place slots.0.0 put.number put.value found is_object slots.0.1) ∙ bounded.0;
    },
    asked_of puts numbers.1 slots.1 bounded.1,
  )

  -- ---- what its written puts leave

  last_same : (written : List Asked) (one other : Cell) → is_shared basin one other ≡ true → last_put basin written one ≡ last_put basin written other
  last_same [] one other shares = refl
  last_same (put ∷ written) one other shares =
      ap₂ option_or (last_same written one other shares)
      (ap (λ test. if test then Some put.content else None) (laid.same_group put.cell one other shares))

  module _ (written : List Asked) (new : AllNew cells written) (of : AllByRecursion (IsAskedOf basin object step) written) where
    -- what stands in a cell afterwards stood there, or is of one of the puts
    last_new : (cell : Cell) (content : Content) → last_put basin written cell ≡ Some content
        → IsLast basin (λ put. (cells put.cell ≡ None) × IsAskedOf basin object step put) cell content
    last_new cell content put =
        last_of basin (λ p. (cells p.cell ≡ None) × IsAskedOf basin object step p) written cell content
        (both_all (λ p. cells p.cell ≡ None) (IsAskedOf basin object step) written new of) put

    at_step : (cell : Cell) (content : Content) → IsLast basin (λ put. (cells put.cell ≡ None) × IsAskedOf basin object step put) cell content
        → cell.step.0 ≡ step
    at_step cell content last = laid.same_step last.put.cell cell last.shares ∙ ap (λ (c : Cell). c.step.0) last.is.1.cell

    made_of : (cell : Cell) (content : Content) → IsLast basin (λ put. (cells put.cell ≡ None) × IsAskedOf basin object step put) cell content
        → IsMade basin step cell content
    made_of cell content last = record {
      object = object;
      writer = ap (λ (c : Content). c.writer) (sym last.same) ∙ last.is.1.writer;
      ready = ready;
      owns =
          laid.owner object last.is.1.place last.is.1.slot step cell last.is.1.at
          (subst (λ c. is_shared basin c cell ≡ true) last.is.1.cell last.shares);
      step = let here = at_step cell content last in omega (arith, here);
    }

    inside_of : (cell : Cell) (content : Content) → IsLast basin (λ put. (cells put.cell ≡ None) × IsAskedOf basin object step put) cell content
        → in_bounds basin cell.slot.0 content.value ≡ true
    inside_of cell content last =
        sym (laid.same_bounds last.put.cell cell content.value last.shares)
        ∙ ap (λ (c : Cell). in_bounds basin c.slot.0 content.value) last.is.1.cell
        ∙ ap (λ (c : Content). in_bounds basin last.is.1.slot c.value) (sym last.same)
        ∙ last.is.1.inside

    sound_after : IsSound basin start step (after_puts basin cells written)
    sound_after = record {
      zeros = λ cell content e. either_by (last_put basin written cell) (cells cell) content e
          (λ put. let last = last_new cell content put in ap (λ (c : Content). c.number) (sym last.same) ∙ last.is.1.number)
          (λ none stood. sound.zeros cell content stood);
      kept = λ cell content is. known_stays basin cells written sound.shared new cell content (sound.kept cell content is);
      made = λ cell content e. either_by (last_put basin written cell) (cells cell) content e
          (λ put. inr (made_of cell content (last_new cell content put))) (λ none stood. sound.made cell content stood);
      inside = λ cell content e. either_by (last_put basin written cell) (cells cell) content e
          (λ put. inside_of cell content (last_new cell content put)) (λ none stood. sound.inside cell content stood);
      shared = λ cell other shares. ap₂ option_or (last_same written cell other shares) (sound.shared cell other shares);
    }

    fresh_after : (cell : Cell) (content : Content) → after_puts basin cells written cell ≡ Some content
        → (cells cell ≡ Some content) ⊎ ((cells cell ≡ None) × (content.writer ≡ ByObject (record { 0 = object })) × (cell.step.0 ≡ step))
    fresh_after cell content e = either_by (last_put basin written cell) (cells cell) content e
        (λ put.
        let last = last_new cell content put in
        inr (
          sym (sound.shared last.put.cell cell last.shares) ∙ last.is.0,
          ap (λ (c : Content). c.writer) (sym last.same) ∙ last.is.1.writer,
          at_step cell content last,
        ))
        (λ none stood. inl stood)

  -- ---- it is at rest

  silent_of : WroteNothing basin cells object step → solve_of found.kind view ≡ IdleAnswer → IsSilent basin start cells object step found.kind
  silent_of nothing answer = record {
    whole = record {
      now = λ place value is. by place value (content_in basin cells object step place) (slot_in_place basin.objects object place) refl refl is;
      before = λ value is. is;
    };
    levelled = levelled;
    answer = answer;
  }
    where
      by : (place : ℕ) (value : ℤ) (held : Option Content) (slot : Option ℕ) → content_in basin cells object step place ≡ held
          → slot_in_place basin.objects object place ≡ slot → option_map (λ (c : Content). c.value) held ≡ Some value
          → IsSome (given view place) × (known_value view place ≡ Some value)
      by place value None slot is at e = absurd (none-some _ e)
      by place value (Some content) None is at e = absurd (none-some _ (sym (content-slot basin cells object step place None at) ∙ is))
      by place value (Some content) (Some slot) is at e =
          let known_one = known-view basin cells object step place (laid.few object place slot found is_object at) ∙ is in (
            ap is_some (ap (given_by (record { 0 = object })) known_one
                ∙ ap (λ test. if test then None else Some (record { value = content.value; number = content.number })) (nothing place content is)),
            ap (option_map (λ (c : Content). c.value)) known_one ∙ e,
          )

  -- ---- what it answers leaves the log sound

  find_all : (looked : List Look) (puts : List Put) (event : Event) → solve_of found.kind view ≡ Puts puts
      → answered basin cells looked object step (Puts puts) ≡ event → ¬ IsFault event → HasSaid basin start cells object step found.kind
      → AllByRecursion (IsAskedOf basin object step) (asked_for basin object step puts) → AllFind cells (asked_for basin object step puts)
  find_all looked puts event answer e fine (inl spoken) of =
      let within =
      rest_within basin start cells cells object step found.kind (laid.keeps object found is_object) (inl spoken)
      (grow_below cells cells (λ cell content is. is)) sound.zeros
      levelled (can_stand basin start step laid cells cells object step found is_object sound) in
      let held : AreHeld (values_at basin cells object step) puts = subst (AnswersWithin (values_at basin cells object step)) answer within in
      all_find_held cells (asked_for basin object step puts) (asked_held basin cells object step puts held)
  find_all looked puts event answer e fine (inr nothing) of =
      let asked = asked_for basin object step puts in
      weaker_all (λ (put : Asked). IsAskedOf basin object step put × (denied_by (end_in cells put) put ≡ None))
      (λ (put : Asked). Finds (cells put.cell) put.content.value) asked
      (λ put both. find_pass object put (cells put.cell) both.0.writer
      (λ held is. (
        sound.zeros put.cell held is,
        nothing both.0.place held (content-slot basin cells object step both.0.place (Some both.0.slot) both.0.at ∙ ap cells (sym both.0.cell) ∙ is),
      ))
      both.1)
      (both_all (IsAskedOf basin object step) (λ (put : Asked). denied_by (end_in cells put) put ≡ None) asked of
      (all_pass cells object asked (dispatch_of cells looked object step asked) event e fine))

  leaves_by : (looked : List Look) (answer : Solved) (event : Event) → solve_of found.kind view ≡ answer
      → answered basin cells looked object step answer ≡ event
      → ¬ IsFault event → HasSaid basin start cells object step found.kind → LeavesBy event
  leaves_by looked IdleAnswer event answer e fine said =
      let rest : IsAtRest basin start cells object step found.kind = elim said [
        | inl spoken ↦ inl spoken
        | inr nothing ↦ inr (silent_of nothing answer)
      ] in
      let here : LeavesBy (idle object step looked) =
      record {
        asked = (refl, refl);
        new = tt;
        grows = λ cell content is. is;
        sound = sound;
        said = said;
        rest = rest;
        fresh = λ cell content is. inl is;
      } in
      subst LeavesBy e here
  leaves_by looked (Puts puts) event answer e fine said =
      let asked = asked_for basin object step puts in
      let made = dispatch_of cells looked object step asked in
      let is_made : made ≡ event = sym (all_pass_rest cells object asked made (all_pass cells object asked made event e fine)) ∙ e in
      let plain = answers_plain found.kind view puts (known_zero basin cells object step sound.zeros) (laid.keeps object found is_object) answer in
      let slots = laid.slots object found view puts is_object answer in
      let of = asked_of puts plain.0 slots (laid.answers cells object step found puts is_object answer) in
      let find = find_all looked puts event answer e fine said of in
      let written = puts_written cells asked in
      let new : AllNew cells written = all_new cells asked sound.zeros find in
      let of_written = all_kept (IsAskedOf basin object step) (λ (put : Asked). is_written (end_in cells put)) asked of in
      let grows = known_stays basin cells written sound.shared new in
      let stand = all_stand basin cells asked (are_clear basin object step 0 12 puts (laid.apart object) plain.1 slots) find in
      let spoken : HasSpoken basin start (held_after basin made cells) object step found.kind = record {
        view = view;
        puts = puts;
        seen = seen_below basin cells (held_after basin made cells) object step (grow_below cells (held_after basin made cells) grows);
        zeros = given_zero view (known_zero basin cells object step sound.zeros);
        levelled = levelled;
        answer = answer;
        held = puts_stand basin (held_after basin made cells) object step puts slots stand;
      } in
      let here : LeavesBy made = record {
        asked = (refl, refl);
        new = new;
        grows = grows;
        sound = sound_after written new of_written;
        said = inl spoken;
        rest = inl spoken;
        fresh = fresh_after written new of_written;
      } in
      subst LeavesBy is_made here
  leaves_by looked answer event is e fine said = absurd (fine (subst IsFault e tt))

  -- a dispatch that is no fault
  pub leaves : (event : Event) → dispatched basin cells object step ≡ event → ¬ IsFault event → HasSaid basin start cells object step found.kind
      → LeavesBy event
  leaves event e fine said =
      leaves_by (looks_of basin cells object step) (solve_of found.kind view) event refl
      (sym (ap (λ (o : Option Object). answered basin cells (looks_of basin cells object step) object step
      (unwrap_or (option_map (λ (f : Object). solve_of f.kind view) o) IdleAnswer)) is_object)
      ∙ e)
      fine said
