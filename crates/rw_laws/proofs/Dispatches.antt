-- What a dispatch comes to: an object is idle, or it asks for puts of which none is denied, or the run ends by a fault.
use Rattle.rw_laws.proofs.Common.{AllByRecursion, Asked, Bool, Cells, Denied, Draft, Event, IsFault, Kind, List, None, Object, Option, Put, PutEnd}
use Rattle.rw_laws.proofs.Common.{Puts, Solved, Some, Written, [], answered, ap, asked_for, cond, denied_by, dispatch_of, dispatched, end_in, false}
use Rattle.rw_laws.proofs.Common.{filter, idle, inl, inr, is_written, judged, looks_of, none-some, object_at, option_map, or_fault, puts_written}
use Rattle.rw_laws.proofs.Common.{refl, solve_of, solved_by, subst, sym, true, unwrap_or, view_of, weaker_all, ℕ, ◌∙◌, ◌∷◌, ◌≡◌, ◌⊎◌}
use Rattle.rw_method.specs.declared.solved.Solved.TheVariants.{Idle}
use Rattle.rw_laws.proofs.PutRules.{is_written_fact}

-- a put isn't denied
abbrev pub IsFine : PutEnd → Type 0
IsFine (Denied held) = ⊥
IsFine any = Unit {0}

abbrev pub AreFine : Cells → List Asked → Type 0
AreFine cells asked = AllByRecursion (λ (put : Asked). IsFine (end_in cells put)) asked

if_fine : (cells : Cells) (object : ℕ) (put : Asked) (puts : List Asked) (rest : Event) (end : PutEnd) → end_in cells put ≡ end
    → (judged cells object puts rest ≡ rest) × AreFine cells puts ⊎ IsFault (judged cells object puts rest)
    → ((or_fault (denied_by end put) object put (judged cells object puts rest) ≡ rest) × (IsFine (end_in cells put) × AreFine cells puts))
    ⊎ IsFault (or_fault (denied_by end put) object put (judged cells object puts rest))
if_fine cells object put puts rest (Denied held) is later = inr tt
if_fine cells object put puts rest end is (inl fine) = inl (fine.0, (subst IsFine (sym is) tt, fine.1))
if_fine cells object put puts rest end is (inr why) = inr why

pub judged_fine : (cells : Cells) (object : ℕ) (puts : List Asked) (rest : Event)
    → ((judged cells object puts rest ≡ rest) × AreFine cells puts) ⊎ IsFault (judged cells object puts rest)
judged_fine cells object [] rest = inl (refl, tt)
judged_fine cells object (put ∷ puts) rest = if_fine cells object put puts rest (end_in cells put) refl (judged_fine cells object puts rest)

-- the object has a kind, and asks for these puts
pub record Solves (basin : Draft) (cells : Cells) (object step : ℕ) (event : Event) : Type 0 where
  pub kind : Kind
  pub own : option_map (λ (found : Object). found.kind) (object_at basin.objects object) ≡ Some kind
  pub puts : List Put
  pub answers : solve_of kind (view_of basin cells object step) ≡ Puts puts
  pub fine : AreFine cells (asked_for basin object step puts)
  pub is : event ≡ dispatch_of cells (looks_of basin cells object step) object step (asked_for basin object step puts)

pub record Idles (basin : Draft) (cells : Cells) (object step : ℕ) (event : Event) : Type 0 where
  pub answers : solved_by basin cells object step ≡ Idle
  pub is : event ≡ idle object step (looks_of basin cells object step)

pub data Asked_of (basin : Draft) (cells : Cells) (object step : ℕ) (event : Event) : Type 0 where
  idles : Idles basin cells object step event → Asked_of basin cells object step event
  solves : Solves basin cells object step event → Asked_of basin cells object step event
  stops : IsFault event → Asked_of basin cells object step event

abbrev puts_in : Solved → Option (List Put)
puts_in (Puts puts) = Some puts
puts_in any = None

record HasKind (basin : Draft) (cells : Cells) (object step : ℕ) (puts : List Put) : Type 0 where
  kind : Kind
  own : option_map (λ (found : Object). found.kind) (object_at basin.objects object) ≡ Some kind
  answers : solve_of kind (view_of basin cells object step) ≡ Puts puts

has_kind : (basin : Draft) (cells : Cells) (object step : ℕ) (puts : List Put) (found : Option Object) → object_at basin.objects object ≡ found
    → unwrap_or (option_map (λ (found : Object). solve_of found.kind (view_of basin cells object step)) found) Idle ≡ Puts puts
    → HasKind basin cells object step puts
has_kind basin cells object step puts None is answers = absurd (none-some puts (ap puts_in answers))
has_kind basin cells object step puts (Some found) is answers =
    record { kind = found.kind; own = ap (option_map (λ (found : Object). found.kind)) is; answers = answers }

module _ (basin : Draft) (cells : Cells) (object step : ℕ) (event : Event) where
  by_answer : (answer : Solved) → solved_by basin cells object step ≡ answer
      → answered basin cells (looks_of basin cells object step) object step answer ≡ event → Asked_of basin cells object step event
  by_answer Idle answers is = idles (record { answers = answers; is = sym is })
  by_answer (Puts puts) answers is =
      let asked : List Asked = asked_for basin object step puts in
      let has = has_kind basin cells object step puts (object_at basin.objects object) refl answers in
      elim (judged_fine cells object asked (dispatch_of cells (looks_of basin cells object step) object step asked)) [
        | inl fine ↦ solves (record { kind = has.kind; own = has.own; puts = puts; answers = has.answers; fine = fine.1; is = sym is ∙ fine.0 })
        | inr why ↦ stops (subst IsFault is why)
      ]
  by_answer answer answers is = stops (subst IsFault is tt)

  pub asked_of : event ≡ dispatched basin cells object step → Asked_of basin cells object step event
  asked_of is = by_answer (solved_by basin cells object step) refl (sym is)

-- ---- lists of puts

filtered : {A : Type 0} (P : A → Type 0) (p : A → Bool) (x : A) (xs : List A) (test : Bool) → p x ≡ test → P x
    → AllByRecursion (λ y. (p y ≡ true) × P y) (filter p xs)
    → AllByRecursion (λ y. (p y ≡ true) × P y) (cond test (x ∷ filter p xs) (filter p xs))
filtered P p x xs true is here rest = ((is, here), rest)
filtered P p x xs false is here rest = rest

pub filtered_all : {A : Type 0} (P : A → Type 0) (p : A → Bool) (xs : List A) → AllByRecursion P xs
    → AllByRecursion (λ y. (p y ≡ true) × P y) (filter p xs)
filtered_all P p [] all = tt
filtered_all P p (x ∷ xs) all = filtered P p x xs (p x) refl all.0 (filtered_all P p xs all.1)

-- those that are written
pub written_all : (P : Asked → Type 0) (cells : Cells) (asked : List Asked) → AllByRecursion P asked
    → AllByRecursion (λ put. (end_in cells put ≡ Written) × P put) (puts_written cells asked)
written_all P cells asked all =
    weaker_all (λ (put : Asked). (is_written (end_in cells put) ≡ true) × P put) (λ put. (end_in cells put ≡ Written) × P put)
    (puts_written cells asked)
    (λ put both. (is_written_fact (end_in cells put) both.0, both.1))
    (filtered_all P (λ (put : Asked). is_written (end_in cells put)) asked all)
