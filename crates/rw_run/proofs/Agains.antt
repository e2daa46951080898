-- A timestep goes alike in another run that holds alike what it looked at.
use Rattle.rw_base.proofs.Common.{◌≡◌, ℕ, ◌+◌, List, [], ◌∷◌, ◌++◌, Contains, refl, sym, arith}
use Rattle.std.proofs.lemmas.List.Elements.{Contains-append_left, Contains-append_right}
use Rattle.std.specs.List.{flat_map}
use Rattle.rw_base.specs.declared.number.Cell.{Cell}
use Rattle.rw_model.specs.Draft.{Draft}
use Rattle.rw_run.specs.Frame.{AreAlike, IsFramed, cells_asked, cells_looked, log_after, cells_of_event, looked_in}
use Rattle.rw_run.specs.Log.{Asked, Cells, Event, Log, asked_in, cells_of, looks_in, opened}
use Rattle.rw_run.specs.Next.{Policy}
use Rattle.rw_run.specs.Runs.{rests, standing}
use Rattle.rw_run.specs.Step.{cells_reached, cells_with, reached_by}
use Rattle.rw_run.specs.Timestep.{AreLooked, IsTimestep}
use Rattle.rw_run.specs.declared.held.Held.{Held}
use Rattle.rw_run.proofs.Reuses.{reuse}

-- each of these events has the property
abbrev pub AreAll : (Event → Type 0) → List Event → Type 0
AreAll P [] = Unit {0}
AreAll P (event ∷ events) = P event × AreAll P events

module _ (basin : Draft) (one other : Cells) where
  -- each of the cells is alike in both
  abbrev pub AllAlike : List Cell → Type 0
  AllAlike cells = (cell : Cell) → Contains cells cell → one cell ≡ other cell

  alike_all : (cells : List Cell) → AllAlike cells → AreAlike one other cells
  alike_all [] same = tt
  alike_all (cell ∷ cells) same =
      (same cell (0, omega arith, refl), alike_all cells (λ c has. same c (Contains-append_right (cell ∷ []) cells c has)))

  alike_asked : (puts : List Asked) → AllAlike (cells_reached basin puts) → AreAlike one other (cells_asked puts)
  alike_asked [] same = tt
  alike_asked (put ∷ puts) same = (
    same put.cell (0, omega arith, refl),
    alike_asked puts (λ c has. same c (Contains-append_right (cells_with basin put.cell) (cells_reached basin puts) c has)),
  )

  alike_both : (cells others : List Cell) → AreAlike one other cells → AreAlike one other others → AreAlike one other (cells ++ others)
  alike_both [] others first second = second
  alike_both (cell ∷ cells) others first second = (first.0, alike_both cells others first.1 second)

  pub alike_event : (event : Event) → AllAlike (reached_by basin event) → AreAlike one other (cells_of_event event)
  alike_event event same =
      let looks : List Cell = cells_looked (looks_in event) in
      let reached : List Cell = cells_reached basin (asked_in event) in
      alike_both looks (cells_asked (asked_in event)) (alike_all looks (λ c has. same c (Contains-append_left looks reached c has)))
      (alike_asked (asked_in event) (λ c has. same c (Contains-append_right looks reached c has)))

  pub alike_events : (events : List Event) → AreAll (λ event. AllAlike (reached_by basin event)) events → AreAlike one other (looked_in events)
  alike_events [] same = tt
  alike_events (event ∷ events) same =
      alike_both (cells_of_event event) (looked_in events) (alike_event event same.0) (alike_events events same.1)

  -- cells of all events are alike, so those of each are
  pub alike_each : (events : List Event) → AllAlike (flat_map (reached_by basin) events) → AreAll (λ event. AllAlike (reached_by basin event)) events
  alike_each [] same = tt
  alike_each (event ∷ events) same = (
    λ c has. same c (Contains-append_left (reached_by basin event) (flat_map (reached_by basin) events) c has),
    alike_each events (λ c has. same c (Contains-append_right (reached_by basin event) (flat_map (reached_by basin) events) c has)),
  )

pub again : (basin : Draft) (policy : Policy) (step last : ℕ) (old other : Log) (first : Event) (events : List Event) (looked : List Held)
    → IsFramed policy
    → IsTimestep basin policy step old first events → AreLooked basin (cells_of basin old) (first ∷ events) looked
    → ((held : Held) → Contains looked held → cells_of basin other held.cell ≡ held.content) → standing other ≡ rests last → step ≡ last + 1
    → IsTimestep basin policy step other first events
again basin policy step last old other first events looked framed timestep are alike rest next = record {
  last = last;
  rest = rest;
  next_one = next;
  goes = timestep.goes;
  leads = reuse basin policy step old other (log_after (first ∷ events) (opened step ∷ old)) first events framed timestep.goes timestep.leads
      (alike_events basin (cells_of basin old) (cells_of basin other) (first ∷ events)
      (alike_each basin (cells_of basin old) (cells_of basin other) (first ∷ events) (λ cell has.
      let held : Held = record { cell = cell; content = cells_of basin old cell } in sym (alike held ((are held).1 (has, refl))))));
}
