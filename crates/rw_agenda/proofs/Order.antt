-- Whose turn it is in an agenda, and what a look through turns has found so far.
use Rattle.rw_base.proofs.Common.{ℕ, zero, suc, ◌+◌, ◌-◌, ◌≤◌, ◌<◌, ◌≡◌, ◌⊎◌, Bool, true, false, [], ◌∷◌, ◌++◌, Some, None, inl, inr, length}
use Rattle.rw_base.proofs.Common.{length-append, length-reverse, reverse, drop, drop-cons, find, get_or, get_or_append_left, get_or_default}
use Rattle.rw_base.proofs.Common.{get_or_from_slice_get, slice_get-get_or, refl, sym, ap, subst, arith, ◌∙◌, if◌then◌else◌}
use Rattle.std.proofs.Math.ListN.{drop_of_length-le}
use Rattle.std.proofs.lemmas.Bool.{cases_lt}
use Rattle.std.proofs.lemmas.List.{get_or-reverse, get_or_push}
use Rattle.std.specs.List.{slice_get}
use Rattle.rw_model.specs.declared.control.AgendaOrder.{AgendaOrder}
use Rattle.rw_model.specs.declared.control.AgendaOrder.TheVariants.{HighFirst, LowFirst}
use Rattle.rw_run.proofs.Common.{Cells, agenda_of, numbers}
use Rattle.rw_run.specs.Next.{is_changed}
use Rattle.rw_agenda.specs.Agenda.{Agenda, Entry, is_due_in, unfired}

length_numbers : (n : ℕ) → length (numbers n) ≡ n
length_numbers zero = refl
length_numbers (suc n) = omega (arith, length-append (numbers n) (suc n ∷ []), length_numbers n)

number_at : (n k : ℕ) → k < n → get_or (numbers n) k 0 ≡ k + 1
number_at zero k lt = absurd (omega (arith, lt))
number_at (suc n) k lt = by (cases_lt k n) (number_at n k)
  where
    by : (k < n) ⊎ (n ≤ k) → (k < n → get_or (numbers n) k 0 ≡ k + 1) → get_or (numbers n ++ suc n ∷ []) k 0 ≡ k + 1
    by (inl below) earlier = get_or_append_left (numbers n) (suc n ∷ []) 0 k (omega (arith, below, length_numbers n)) ∙ earlier below
    by (inr above) earlier = get_or_push (numbers n) (suc n) 0 k (omega (arith, lt, above, length_numbers n)) ∙ omega (arith, lt, above)

-- ---- turns

from_first : (n k : ℕ) → k < n → slice_get (numbers n) k ≡ Some (k + 1)
from_first n k lt = slice_get-get_or (numbers n) k 0 (omega (arith, lt, length_numbers n)) ∙ ap Some (number_at n k lt)

from_last : (n k : ℕ) → k < n → slice_get (reverse (numbers n)) k ≡ Some (n - k)
from_last n k lt =
    let turned = get_or-reverse (numbers n) k 0 (omega (arith, lt, length_numbers n)) in
    let place : length (numbers n) - 1 - k ≡ n - 1 - k = omega (arith, length_numbers n) in
    let there = number_at n (n - 1 - k) (omega (arith, lt)) in
    let is : n - 1 - k + 1 ≡ n - k = omega (arith, lt) in
    slice_get-get_or (reverse (numbers n)) k 0 (omega (arith, lt, length_numbers n, length-reverse (numbers n)))
    ∙ ap Some (turned ∙ ap (λ i. get_or (numbers n) i 0) place ∙ there ∙ is)

pub high_turn : (order : AgendaOrder) (n k : ℕ) → order ≡ HighFirst → k < n → slice_get (agenda_of order n) k ≡ Some (k + 1)
high_turn order n k is lt = subst (λ o. slice_get (agenda_of o n) k ≡ Some (k + 1)) (sym is) (from_first n k lt)

pub low_turn : (order : AgendaOrder) (n k : ℕ) → order ≡ LowFirst → k < n → slice_get (agenda_of order n) k ≡ Some (n - k)
low_turn order n k is lt = subst (λ o. slice_get (agenda_of o n) k ≡ Some (n - k)) (sym is) (from_last n k lt)

-- ---- a look through turns

there_are : (order : AgendaOrder) (n : ℕ) → length (agenda_of order n) ≡ n
there_are HighFirst n = length_numbers n
there_are LowFirst n = length-reverse (numbers n) ∙ length_numbers n

turn_drops : (order : AgendaOrder) (n k rule : ℕ) → k < n → slice_get (agenda_of order n) k ≡ Some rule
    → drop k (agenda_of order n) ≡ rule ∷ drop (suc k) (agenda_of order n)
turn_drops order n k rule lt turn =
    drop-cons (agenda_of order n) k rule (omega (arith, lt, there_are order n))
    ∙ ap (λ x. x ∷ drop (suc k) (agenda_of order n)) (get_or_from_slice_get (agenda_of order n) k rule rule turn)

-- the rule whose turn it is passes the test, or it doesn't
by_test : (test : ℕ → Bool) (order : AgendaOrder) (n k rule : ℕ) (answer : Bool) → k < n → slice_get (agenda_of order n) k ≡ Some rule
    → test rule ≡ answer
    → find test (drop k (agenda_of order n)) ≡ (if answer then Some rule else find test (drop (suc k) (agenda_of order n)))
by_test test order n k rule answer lt turn is =
    ap (find test) (turn_drops order n k rule lt turn) ∙ ap (λ (t : Bool). if t then Some rule else find test (drop (suc k) (agenda_of order n))) is

pub found_in_turn : (test : ℕ → Bool) (order : AgendaOrder) (n k rule : ℕ) → k < n → slice_get (agenda_of order n) k ≡ Some rule → test rule ≡ true
    → find test (drop k (agenda_of order n)) ≡ find test (agenda_of order n) → Some rule ≡ find test (agenda_of order n)
found_in_turn test order n k rule lt turn is before = sym (by_test test order n k rule true lt turn is) ∙ before

pub not_in_turn : (test : ℕ → Bool) (order : AgendaOrder) (n k rule : ℕ) → k < n → slice_get (agenda_of order n) k ≡ Some rule → test rule ≡ false
    → find test (drop k (agenda_of order n)) ≡ find test (agenda_of order n)
    → find test (drop (k + 1) (agenda_of order n)) ≡ find test (agenda_of order n)
not_in_turn test order n k rule lt turn is before =
    let next : k + 1 ≡ suc k = omega arith in
    ap (λ j. find test (drop j (agenda_of order n))) next ∙ sym (by_test test order n k rule false lt turn is) ∙ before

pub in_no_turn : (test : ℕ → Bool) (order : AgendaOrder) (n k : ℕ) → n ≤ k
    → find test (drop k (agenda_of order n)) ≡ find test (agenda_of order n) → None ≡ find test (agenda_of order n)
in_no_turn test order n k past before =
    sym (ap (find test) (drop_of_length-le (agenda_of order n) (omega (arith, past, there_are order n)))) ∙ before

-- what is read of a rule's place is its entry
pub reads_entry : (agenda : Agenda) (cells : Cells) (number rule : ℕ) (entry : Entry) → number ≡ rule → 1 ≤ rule → rule ≤ length agenda.rules
    → entry ≡ get_or agenda.rules (number - 1) entry → is_due_in agenda cells rule ≡ is_changed cells entry.looked
reads_entry agenda cells number rule entry same first last is =
    ap (λ (e : Entry). is_changed cells e.looked)
    (get_or_default agenda.rules (rule - 1) (unfired 0) entry (omega (arith, first, last))
    ∙ ap (λ n. get_or agenda.rules (n - 1) entry) (sym same) ∙ sym is)
