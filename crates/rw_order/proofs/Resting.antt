-- An object at rest, and what any other dispatch of it comes to from less than the cells hold.
use Rattle.rw_order.proofs.Common.{Asked, Bool, Cell, Cells, Content, Draft, Event, IdleAnswer, IsFault, Kind, List, Look, None, Object, Option, Past}
use Rattle.rw_order.proofs.Common.{Put, Puts, Reservoir, Solved, Some, View, [], answer, answered, ap, asked_for, before_of, cell_at, cell_in}
use Rattle.rw_order.proofs.Common.{content_in, dispatch_of, dispatched, end_in, false, given, held_after, if◌then◌else◌, inl, inr, is_bounded}
use Rattle.rw_order.proofs.Common.{is_written, looks_of, nat_lt, none-some, object_at, option_and_then, option_map, past_of, past_value, pos}
use Rattle.rw_order.proofs.Common.{puts_written, refl, solve_of, solved_by, subst, sym, true, unwrap_or, value_in, value_of_past, view_of, ℕ, ℤ, ◌-ℤ◌}
use Rattle.rw_order.proofs.Common.{◌-◌, ◌∙◌, ◌≡◌, ◌⊎◌}
use Rattle.rw_order.specs.Free.{is_free}
use Rattle.rw_order.proofs.Lists.{all_kept}
use Rattle.rw_order.proofs.Held.{AnswersWithin, AreHeld, AreZero, FitsThere, IsSeenOf, IsWhole}
use Rattle.rw_order.proofs.AllKinds.{AreLevelledOf, answers_within}
use Rattle.rw_order.proofs.Carrying.{answers_idle}
use Rattle.rw_order.proofs.Numbers.{KnownZero, given_zero}
use Rattle.rw_order.proofs.Writing.{AreBelow, AreShared, Grow, HaveZeros, HeldIn, grow_below, none_denied, stays_below}
use Rattle.rw_order.proofs.Places.{asked_held, known_is, values_at}
use Rattle.rw_base.proofs.Lists.{weaker_all}

-- ---- a dispatch of which the answer adds nothing

-- it is no fault, and leaves no more in the cells
pub record StaysWithin (basin : Draft) (low high : Cells) (event : Event) : Type 0 where
  pub no_fault : ¬ IsFault event
  pub below : AreBelow (held_after basin event low) high

answered_within : (basin : Draft) (low high : Cells) (looked : List Look) (object step : ℕ) (answer : Solved) → HaveZeros low → AreBelow low high
    → AreShared basin high
    → AnswersWithin (values_at basin high object step) answer → StaysWithin basin low high (answered basin low looked object step answer)
answered_within basin low high looked object step IdleAnswer zeros below shared within =
    record { no_fault = λ is. is; below = stays_below basin low high [] shared below tt }
answered_within basin low high looked object step (Puts puts) zeros below shared within =
    let asked = asked_for basin object step puts in
    let held : HeldIn high asked = asked_held basin high object step puts within in
    let here : StaysWithin basin low high (dispatch_of low looked object step asked) = record {
      no_fault = λ is. is;
      below = stays_below basin low high (puts_written low asked) shared below
          (all_kept (λ (put : Asked). value_in high put.cell ≡ Some put.content.value) (λ (put : Asked). is_written (end_in low put)) asked held);
    } in
    subst (StaysWithin basin low high) (sym (none_denied low high object asked (dispatch_of low looked object step asked) zeros below held)) here
answered_within basin low high looked object step answer zeros below shared within = absurd within

-- ---- what a view of fewer cells knows

value_below : (low high : Cells) (cell : Cell) (found : Option Content) (value : ℤ) → AreBelow low high → low cell ≡ found
    → option_map (λ (content : Content). content.value) found ≡ Some value → value_in high cell ≡ Some value
value_below low high cell None value below is e = absurd (none-some _ e)
value_below low high cell (Some content) value below is e = below cell content is ∙ e

past_below : (basin : Draft) (low high : Cells) (step : ℕ) (past : Option Past) (value : ℤ) → AreBelow low high
    → option_and_then (value_of_past basin low step) past ≡ Some value → option_and_then (value_of_past basin high step) past ≡ Some value
past_below basin low high step None value below is = is
past_below basin low high step (Some past) value below is = by (nat_lt past.ago step) is
  where
    by : (test : Bool) → (if test then value_in low (cell_at past.slot (step - past.ago)) else before_of basin.objects past.slot
        (pos step -ℤ pos past.ago)) ≡ Some value
        → (if test then value_in high (cell_at past.slot (step - past.ago)) else before_of basin.objects past.slot (pos step -ℤ pos past.ago))
        ≡ Some value
    by true is = value_below low high (cell_at past.slot (step - past.ago)) (low (cell_at past.slot (step - past.ago))) value below refl is
    by false is = is

content_below : (low high : Cells) (cell : Option Cell) (content : Content) → AreBelow low high
    → option_and_then low cell ≡ Some content → option_map (λ (c : Content). c.value) (option_and_then high cell) ≡ Some content.value
content_below low high None content below is = absurd (none-some _ is)
content_below low high (Some cell) content below is = below cell content is

pub seen_below : (basin : Draft) (low high : Cells) (object step : ℕ) → AreBelow low high
    → IsSeenOf (values_at basin high object step) (past_value basin high object step) (view_of basin low object step)
seen_below basin low high object step below = record {
  now = λ place content is. content_below low high (cell_in basin object step place) content below (known_is basin low object step place content is);
  before = λ value is. past_below basin low high step (past_of basin object) value below is;
}

pub known_zero : (basin : Draft) (cells : Cells) (object step : ℕ) → HaveZeros cells → KnownZero (view_of basin cells object step)
known_zero basin cells object step zeros place content is = by (cell_in basin object step place) (known_is basin cells object step place content is)
  where
    by : (cell : Option Cell) → option_and_then cells cell ≡ Some content → content.number ≡ 0
    by None none = absurd (none-some _ none)
    by (Some cell) there = zeros cell content there

-- ---- an object at rest

-- it once put, from values that stand in its places, what stands in them
pub record HasSpoken (basin : Draft) (start cells : Cells) (object step : ℕ) (kind : Kind) : Type 0 where
  pub view : View
  pub puts : List Put
  pub seen : IsSeenOf (values_at basin cells object step) (past_value basin cells object step) view
  pub zeros : AreZero (given view)
  pub levelled : AreLevelledOf kind view (view_of basin start object step)
  pub answer : solve_of kind view ≡ Puts puts
  pub held : AreHeld (values_at basin cells object step) puts

-- or it has nothing to put, and wrote nothing
pub record IsSilent (basin : Draft) (start cells : Cells) (object step : ℕ) (kind : Kind) : Type 0 where
  pub whole : IsWhole (values_at basin cells object step) (past_value basin cells object step) (view_of basin cells object step)
  pub levelled : AreLevelledOf kind (view_of basin cells object step) (view_of basin start object step)
  pub answer : solve_of kind (view_of basin cells object step) ≡ IdleAnswer

abbrev pub IsAtRest : Draft → Cells → Cells → ℕ → ℕ → Kind → Type 0
IsAtRest basin start cells object step kind = HasSpoken basin start cells object step kind ⊎ IsSilent basin start cells object step kind

levelled_both : (kind : Kind) (one other start : View) → AreLevelledOf kind one start → AreLevelledOf kind other start → AreLevelledOf kind one other
levelled_both (Reservoir initial_storage table local_inflow diversion return_flow evaporation max_release) one other start a b =
    record { storage = a.storage ∙ sym b.storage; elevation = a.elevation ∙ sym b.elevation }
levelled_both kind one other start a b = tt

module _ (basin : Draft) (start low high : Cells) (object step : ℕ) where
  -- what an object at rest would answer from less than the cells hold
  pub rest_within : (kind : Kind) → is_free kind ≡ true → IsAtRest basin start high object step kind → AreBelow low high → HaveZeros low
      → AreLevelledOf kind (view_of basin low object step) (view_of basin start object step)
      → FitsThere (values_at basin high object step) (is_bounded (view_of basin low object step))
      → AnswersWithin (values_at basin high object step) (solve_of kind (view_of basin low object step))
  rest_within kind keeps (inl spoken) below zeros levelled can =
      answers_within (values_at basin high object step) (past_value basin high object step) spoken.view (view_of basin low object step) spoken.seen
      (seen_below basin low high object step below) spoken.zeros (given_zero (view_of basin low object step) (known_zero basin low object step zeros))
      kind spoken.puts keeps
      (levelled_both kind spoken.view (view_of basin low object step) (view_of basin start object step) spoken.levelled levelled) can spoken.answer
      spoken.held
  rest_within kind keeps (inr silent) below zeros levelled can =
      subst (AnswersWithin (values_at basin high object step))
      (sym (answers_idle (values_at basin high object step) (past_value basin high object step) (view_of basin high object step)
      (view_of basin low object step)
      silent.whole (seen_below basin low high object step below) kind keeps
      (levelled_both kind (view_of basin high object step) (view_of basin low object step) (view_of basin start object step) silent.levelled levelled)
      silent.answer))
      tt

  -- so a dispatch of it, in any order, is no fault, and leaves nothing but what the cells hold at rest
  pub stays_within : (found : Object) → object_at basin.objects object ≡ Some found → is_free found.kind ≡ true
      → IsAtRest basin start high object step found.kind
      → AreBelow low high → HaveZeros low → AreShared basin high
      → AreLevelledOf found.kind (view_of basin low object step) (view_of basin start object step)
      → FitsThere (values_at basin high object step) (is_bounded (view_of basin low object step))
      → StaysWithin basin low high (dispatched basin low object step)
  stays_within found is keeps rest below zeros shared levelled can =
      answered_within basin low high (looks_of basin low object step) object step (solved_by basin low object step) zeros below shared
      (subst (λ (o : Option Object). AnswersWithin (values_at basin high object step)
      (unwrap_or (option_map (λ (f : Object). solve_of f.kind (view_of basin low object step)) o) IdleAnswer)) (sym is)
      (rest_within found.kind keeps rest below zeros levelled can))

-- ---- what carries over to cells that hold more

module _ (basin : Draft) (start old new : Cells) (object step : ℕ) (grow : Grow old new) where
  values_grow : (place : ℕ) (value : ℤ) → values_at basin old object step place ≡ Some value → values_at basin new object step place ≡ Some value
  values_grow place value is = by (cell_in basin object step place) (content_in basin old object step place) refl is
    where
      by : (cell : Option Cell) (held : Option Content) → option_and_then old cell ≡ held → option_map (λ (c : Content). c.value) held ≡ Some value
          → option_map (λ (c : Content). c.value) (option_and_then new cell) ≡ Some value
      by cell None none e = absurd (none-some _ e)
      by None (Some content) none e = absurd (none-some _ none)
      by (Some cell) (Some content) there e = ap (option_map (λ (c : Content). c.value)) (grow cell content there) ∙ e

  pub spoken_grows : (kind : Kind) → HasSpoken basin start old object step kind → HasSpoken basin start new object step kind
  spoken_grows kind spoken = record {
    view = spoken.view;
    puts = spoken.puts;
    seen = record {
      now = λ place content is. values_grow place content.value (spoken.seen.now place content is);
      before = λ value is. past_below basin old new step (past_of basin object) value (grow_below old new grow) (spoken.seen.before value is);
    };
    zeros = spoken.zeros;
    levelled = spoken.levelled;
    answer = spoken.answer;
    held =
        weaker_all (λ (put : Put). values_at basin old object step put.place ≡ Some put.value)
        (λ (put : Put). values_at basin new object step put.place ≡ Some put.value)
        spoken.puts (λ put is. values_grow put.place put.value is) spoken.held;
  }
