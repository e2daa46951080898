-- Books close, by induction on the timesteps that were closed.
use Rattle.rw_base.proofs.Common.{ap, arith, Bool, false, if◌then◌else◌, ints, List, nat_le, nat_lt, nat_tests, none-some, None, option_and_then}
use Rattle.rw_base.proofs.Common.{option_map, Option, pos, refl, same_Some, slice_get, slice_get_within, get_or_from_slice_get, Some, subst, suc, sym}
use Rattle.rw_base.proofs.Common.{true, zero, ℕ, ℤ, ◌+ℤ◌, ◌+◌, ◌-ℤ◌, ◌-◌, ◌∙◌, ◌≡◌, ◌≤◌}
use Rattle.rw_model.proofs.Common.{IsBasin, IsKind, Object, object_at, slot_in_place}
use Rattle.rw_model.specs.Before.{before_of, initial_of_kind}
use Rattle.rw_model.specs.Draft.{Draft, IsSound}
use Rattle.rw_model.specs.declared.content.Content.{Content}
use Rattle.rw_model.specs.declared.kind.Kind.{Kind}
use Rattle.rw_model.specs.declared.kind.Kind.TheVariants.{PowerReservoir, Reservoir, RoutedReach}
use Rattle.rw_method.specs.Past.{past_in}
use Rattle.rw_method.specs.View.{known_value}
use Rattle.rw_run.specs.Dispatch.{cell_at, past_at, past_value, value_of_past, view_of}
use Rattle.rw_run.specs.Log.{Cells, value_in}
use Rattle.rw_books.specs.declared.book.Book.{Book}
use Rattle.rw_books.specs.declared.turnover.Turnover.{Turnover}
use Rattle.rw_books.specs.Book.{book_behind, book_over, opening_book, with_turnover}
use Rattle.rw_laws.specs.Balances.{AllBalanced}
use Rattle.rw_book_laws.specs.Closing.{BooksClose}
use Rattle.rw_books.specs.Turnover.{initial_of, turnover_of, values_at}
use Rattle.rw_book_laws.proofs.OneStep.{held_is, turns_over}
use Rattle.rw_book_laws.proofs.Placed.{before_is, of_kind}

-- ---- a kind that holds water

record IsStoring (kind : Kind) (initial : ℤ) : Type 0 where
  past : past_in kind ≡ Some (2, 1)
  before : initial_of_kind kind 2 (pos 0) ≡ Some initial

storing : (kind : Kind) (initial : ℤ) → initial_of kind ≡ Some initial → IsStoring kind initial
storing (Reservoir initial_storage table local_inflow diversion return_flow evaporation max_release) initial is = record { past = refl; before = is }
storing (PowerReservoir initial_storage table max_release tailwater power) initial is = record { past = refl; before = is }
storing (RoutedReach initial_content release) initial is = record { past = refl; before = is }
storing kind initial is = absurd (none-some initial is)

same_turnover : (basin : Draft) (cells : Cells) (object step : ℕ) (kind : Kind)
    → turnover_of kind (known_value (view_of basin cells object step)) ≡ turnover_of kind (values_at basin cells object step)
same_turnover basin cells object step (Reservoir initial_storage table local_inflow diversion return_flow evaporation max_release) = refl
same_turnover basin cells object step (PowerReservoir initial_storage table max_release tailwater power) = refl
same_turnover basin cells object step (RoutedReach initial_content release) = refl
same_turnover basin cells object step kind = refl

-- ---- its past value

past_is : (basin : Draft) (cells : Cells) (object step slot : ℕ) (kind : Kind)
    → option_map (λ (found : Object). found.kind) (object_at basin.objects object) ≡ Some kind
    → past_in kind ≡ Some (2, 1) → slot_in_place basin.objects object 2 ≡ Some slot
    → past_value basin cells object step ≡ value_of_past basin cells step (record { slot = slot; ago = 1 })
past_is basin cells object step slot kind own looks at =
    ap (option_and_then (value_of_past basin cells step))
    (ap (option_and_then (past_at basin object)) (of_kind past_in (object_at basin.objects object) kind own ∙ looks)
    ∙ ap (option_map (λ s. record { slot = s; ago = 1 })) at)

record IsAt (basin : Draft) (cells : Cells) (object step : ℕ) (held : ℤ) : Type 0 where
  slot : ℕ
  at : slot_in_place basin.objects object 2 ≡ Some slot
  is : value_in cells (cell_at slot step) ≡ Some held

is_at : (basin : Draft) (cells : Cells) (object step : ℕ) (held : ℤ) (found : Option ℕ) → slot_in_place basin.objects object 2 ≡ found
    → option_map (λ (content : Content). content.value) (option_and_then cells (option_map (λ slot. cell_at slot step) found)) ≡ Some held
    → IsAt basin cells object step held
is_at basin cells object step held None at is = absurd (none-some held is)
is_at basin cells object step held (Some slot) at is = record { slot = slot; at = at; is = is }

-- ---- timestep by timestep

record IsClosed (basin : Draft) (cells : Cells) (object step : ℕ) (initial : ℤ) (book : Book) : Type 0 where
  closes : initial +ℤ book.inflow -ℤ book.outflow ≡ book.held
  goes_on : (slot : ℕ) → slot_in_place basin.objects object 2 ≡ Some slot → past_value basin cells object (suc step) ≡ Some book.held

module _ (basin : Draft) (cells : Cells) (object : ℕ) (kind : Kind) (initial : ℤ)
    (own : option_map (λ (found : Object). found.kind) (object_at basin.objects object) ≡ Some kind) (sound : IsKind kind)
    (stores : IsStoring kind initial) where
  abbrev turns : ℕ → Option Turnover
  turns step = turnover_of kind (values_at basin cells object step)

  begins : IsClosed basin cells object 0 initial (opening_book initial)
  begins = record {
    closes = omega (arith, ints);
    goes_on = λ slot at.
        past_is basin cells object 1 slot kind own stores.past at
        ∙ before_is basin.objects object 2 slot kind (pos 0) own at ∙ stores.before;
  }

  later : (step slot : ℕ) (held : ℤ) → value_in cells (cell_at slot (suc step)) ≡ Some held
      → value_of_past basin cells (suc (suc step)) (record { slot = slot; ago = 1 }) ≡ Some held
  later step slot held is =
      let at : suc (suc step) - 1 ≡ suc step = omega arith in
      let ago : nat_lt 1 (suc (suc step)) ≡ true = grind (arith, nat_tests) in
      ap (λ b. if b then value_in cells (cell_at slot (suc (suc step) - 1)) else before_of basin.objects slot (pos (suc (suc step)) -ℤ pos 1)) ago
      ∙ ap (λ s. value_in cells (cell_at slot s)) at ∙ is

  goes : (step : ℕ) (book : Book) (turn : Turnover) → AllBalanced basin (suc step) cells → IsClosed basin cells object step initial book
      → turns (suc step) ≡ Some turn
      → IsClosed basin cells object (suc step) initial (with_turnover book turn)
  goes step book turn balanced before is =
      let seen = same_turnover basin cells object (suc step) kind ∙ is in
      let at = is_at basin cells object (suc step) turn.held (slot_in_place basin.objects object 2) refl
      (held_is kind (values_at basin cells object (suc step)) turn is) in
      let past = before.goes_on at.slot at.at in
      let step_closes = turns_over kind (view_of basin cells object (suc step)) book.held turn sound (balanced object kind own) past seen in
      let so_far = before.closes in
      record {
        closes = omega (arith, ints, step_closes, so_far);
        goes_on = λ slot there.
            past_is basin cells object (suc (suc step)) slot kind own stores.past there
            ∙ later step slot turn.held (ap (λ s. value_in cells (cell_at s (suc step))) (same_Some _ _ (sym there ∙ at.at)) ∙ at.is);
      }

  with_both : (step : ℕ) (before : Option Book) (turn : Option Turnover) (book : Book) → AllBalanced basin (suc step) cells
      → ((b : Book) → before ≡ Some b → IsClosed basin cells object step initial b) → turns (suc step) ≡ turn
      → book_behind before turn ≡ Some book → IsClosed basin cells object (suc step) initial book
  with_both step None turn book balanced so_far turn_is is = absurd (none-some book is)
  with_both step (Some before) None book balanced so_far turn_is is = absurd (none-some book is)
  with_both step (Some before) (Some turn) book balanced so_far turn_is is =
      subst (IsClosed basin cells object (suc step) initial) (same_Some _ _ is)
      (goes step before turn balanced (so_far before refl) turn_is)

  closed_up_to : (closed : ℕ) → ((step : ℕ) → 1 ≤ step → step ≤ closed → AllBalanced basin step cells)
      → (book : Book) → book_over initial turns closed ≡ Some book → IsClosed basin cells object closed initial book
  closed_up_to zero balanced book is = subst (IsClosed basin cells object 0 initial) (same_Some _ _ is) begins
  closed_up_to (suc before) balanced book is =
      with_both before (book_over initial turns before) (turns (suc before)) book (balanced (suc before) (omega arith) (omega arith))
      (closed_up_to before (λ step first last. balanced step first (omega (arith, last)))) refl is

numbered_at : (objects : List Object) (number : ℕ) (found : Object) (first : Bool) → nat_le 1 number ≡ first
    → (if first then slice_get objects (number - 1) else None) ≡ Some found
    → slice_get objects (number - 1) ≡ Some found
numbered_at objects number found true first is = is
numbered_at objects number found false first is = absurd (none-some found is)

sound_of : (basin : Draft) (object : ℕ) (kind : Kind) (found : Option Object) → IsBasin basin → object_at basin.objects object ≡ found
    → option_map (λ (o : Object). o.kind) found ≡ Some kind → IsKind kind
sound_of basin object kind None valid is own = absurd (none-some kind own)
sound_of basin object kind (Some found) valid is own =
    let at = numbered_at basin.objects object found (nat_le 1 object) refl is in
    let sound : IsSound found =
    subst IsSound (get_or_from_slice_get basin.objects (object - 1) found found at)
    (valid.whole.sound (object - 1) found (slice_get_within basin.objects (object - 1) found at)) in
    subst IsKind (same_Some _ _ own) sound.kind

sound_at : (basin : Draft) (object : ℕ) (kind : Kind) → IsBasin basin
    → option_map (λ (found : Object). found.kind) (object_at basin.objects object) ≡ Some kind → IsKind kind
sound_at basin object kind valid own = sound_of basin object kind (object_at basin.objects object) valid refl own

pub books_close : (basin : Draft) (cells : Cells) (closed : ℕ) → IsBasin basin
    → ((step : ℕ) → 1 ≤ step → step ≤ closed → AllBalanced basin step cells)
    → BooksClose basin cells closed
books_close basin cells closed valid balanced object kind initial book own starts is =
    (closed_up_to basin cells object kind initial own (sound_at basin object kind valid own)
    (storing kind initial starts) closed balanced book is).closes
