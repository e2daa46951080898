-- What the puts of an event leave in the cells, where each is over a content with no lesser number.
use Rattle.rw_laws.proofs.Common.{All, All-cons, All-nil, AllByRecursion, Asked, Cell, Cells, Content, Draft, Event, Input, IsSlot, List, Log, Rule}
use Rattle.rw_laws.proofs.Common.{Shared-of, Some, Writer, Written, [], ap, arith, cells_of, end_in, end_of_put, inl, inr, is_same_object, option_or}
use Rattle.rw_laws.proofs.Common.{same_Some, subst, sym, true, weaker_all, written_by, ℕ, ◌∙◌, ◌∷◌, ◌≡◌, ◌≤◌, ◌⊎◌}
use Rattle.rw_model.specs.declared.writer.Writer.TheVariants.{Object}
use Rattle.rw_laws.specs.Priority.{IsNoLowerPut, KeepsPriority}
use Rattle.rw_laws.proofs.Linked.{Found, last_found, linked}
use Rattle.rw_laws.proofs.PutRules.{was_written}

-- what the writer of a content tells of its number, and of the timestep of its cell where that was opened last
abbrev pub IsTold : ℕ → ℕ → ℕ → Writer → Type 0
IsTold latest step number Input = number ≡ 0
IsTold latest step number (Rule rule) = (number ≡ rule.0) × (1 ≤ rule.0)
IsTold latest step number (Object object) = step ≤ latest

abbrev pub AreTold : ℕ → Cells → Type 0
AreTold latest cells = (cell : Cell) (content : Content) → cells cell ≡ Some content → IsTold latest cell.step.0 content.number content.writer

-- a put that an event writes over these cells
pub record IsWriting (basin : Draft) (latest : ℕ) (cells : Cells) (put : Asked) : Type 0 where
  pub slot : IsSlot basin.objects put.cell.slot.0
  pub end : end_in cells put ≡ Written
  pub told : IsTold latest put.cell.step.0 put.content.number put.content.writer
  pub falls : IsNoLowerPut cells put

pub to_all : {A : Type 0} (P : A → Type 0) (xs : List A) → AllByRecursion P xs → All P xs
to_all P [] all = All-nil P
to_all P (x ∷ xs) all = All-cons P x xs all.0 (to_all P xs all.1)

input_stays : (held new : Content) → held.writer ≡ Input → held.number ≡ 0 → end_of_put (Some held) new ≡ Written → ⊥
input_stays held new writer none written = elim (was_written held new written) [
  | inl some ↦ omega (arith, some.0, none)
  | inr own ↦ let same : is_same_object Input new.writer ≡ true = rw writer at own.1 in absurd (grind (arith, same))
]

module _ (basin : Draft) (latest : ℕ) (log : Log) (event : Event) (told : AreTold latest (cells_of basin log))
    (all : AllByRecursion (IsWriting basin latest (cells_of basin log)) (written_by event)) where
  -- a cell holds what it held, or the content of a put that the event wrote, which is to this cell as well
  pub after : (cell : Cell) → (cells_of basin (event ∷ log) cell ≡ cells_of basin log cell)
      ⊎ Found basin (IsWriting basin latest (cells_of basin log)) (written_by event) cell
  after cell = elim (last_found basin (IsWriting basin latest (cells_of basin log)) (written_by event) cell all) [
    | inl none ↦ inl (ap (λ found. option_or found (cells_of basin log cell)) none)
    | inr found ↦ inr found
  ]

  pub found_is : (cell : Cell) (found : Found basin (IsWriting basin latest (cells_of basin log)) (written_by event) cell)
      → cells_of basin (event ∷ log) cell ≡ Some found.put.content
  found_is cell found = ap (λ put. option_or put (cells_of basin log cell)) found.is

  pub found_was : (cell : Cell) (found : Found basin (IsWriting basin latest (cells_of basin log)) (written_by event) cell)
      → cells_of basin log found.put.cell ≡ cells_of basin log cell
  found_was cell found = linked basin log found.put.cell cell found.passes.slot found.shared

  -- no number rises
  pub falls : (cell : Cell) (content : Content) → cells_of basin log cell ≡ Some content
      → (now : Content) × ((cells_of basin (event ∷ log) cell ≡ Some now) × (now.number ≤ content.number))
  falls cell content held = elim (after cell) [
    | inl same ↦ (content, (same ∙ held, omega arith))
    | inr found ↦ (found.put.content, (found_is cell found, found.passes.falls content (found_was cell found ∙ held)))
  ]

  input : (cell : Cell) (content : Content) → cells_of basin log cell ≡ Some content → content.writer ≡ Input
      → cells_of basin (event ∷ log) cell ≡ Some content
  input cell content held writer = elim (after cell) [
    | inl same ↦ same ∙ held
    | inr found ↦
        let none : content.number ≡ 0 = subst (IsTold latest cell.step.0 content.number) writer (told cell content held) in
        absurd (input_stays content found.put.content writer none
        (ap (λ z. end_of_put z found.put.content) (sym (found_was cell found ∙ held)) ∙ found.passes.end))
  ]

  pub keeps_priority : KeepsPriority basin (cells_of basin log) event
  keeps_priority = record {
    puts =
        to_all (IsNoLowerPut (cells_of basin log)) (written_by event)
        (weaker_all (IsWriting basin latest (cells_of basin log)) (IsNoLowerPut (cells_of basin log)) (written_by event) (λ put is. is.falls) all);
    inputs = input;
  }

  pub told_after : AreTold latest (cells_of basin (event ∷ log))
  told_after cell content held = elim (after cell) [
    | inl same ↦ told cell content (sym same ∙ held)
    | inr found ↦
        let is : found.put.content ≡ content = same_Some _ _ (sym (found_is cell found) ∙ held) in
        let step : found.put.cell.step.0 ≡ cell.step.0 = sym (Shared-of basin found.put.cell cell found.shared).step in
        subst (λ (c : Content). IsTold latest cell.step.0 c.number c.writer) is
        (subst (λ s. IsTold latest s found.put.content.number found.put.content.writer) step found.passes.told)
  ]
