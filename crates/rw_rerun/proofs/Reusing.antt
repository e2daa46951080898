-- A timestep is taken over exactly where it is reused.
use Rattle.rw_base.proofs.Common.{◌≡◌, ◌≢◌, ◌⊎◌, ◌↔◌, ◌<◌, ◌≤◌, ◌+◌, ◌==◌, ◌∙◌, ℕ, zero, suc, Bool, true, false, false≢true, nat_lt, List, [], ◌∷◌}
use Rattle.rw_base.proofs.Common.{◌++◌, map, All, All-cons, All-head, All-nil, All-push, All-tail, Contains, Option, Some, None, IsSome, IfSome}
use Rattle.rw_base.proofs.Common.{length, length-append, refl, sym, ap, subst, arith, inl, inr, nat_tests, same_Some}
use Rattle.std.proofs.lemmas.List.Elements.{Contains-append_cases, Contains-append_left, Contains-append_right}
use Rattle.std.specs.List.{flat_map}
use Rattle.rw_base.specs.declared.number.Cell.{Cell}
use Rattle.rw_base.specs.declared.number.StepNo.{StepNo}
use Rattle.rw_run.proofs.Reruns.{alike_at}
use Rattle.rw_model.specs.Draft.{Draft}
use Rattle.rw_run.specs.Behind.{IsBehind}
use Rattle.rw_run.specs.Frame.{AreAlike, log_after}
use Rattle.rw_run.specs.Log.{Cells, Event, Log, cells_of, opened}
use Rattle.rw_run.specs.Next.{Policy}
use Rattle.rw_run.specs.Reuse.{AreRerun, AreRising, IsReused}
use Rattle.rw_run.specs.Step.{before_opening, looked_at, reached_by}
use Rattle.rw_run.specs.declared.held.Held.{Held}
use Rattle.rw_record.specs.Noted.{AreHeld}
use Rattle.rw_record.specs.Record.{StepRecord}
use Rattle.rw_rerun.specs.Kept.{IsKeptOrNot, IsKeptAs}

-- ---- what events reach, whichever of them is the newest

module _ {B : Type 0} (f : Event → List B) where
  -- of the newest first, and of those before them
  pub reached_after : (events log : List Event) (c : B) → Contains (flat_map f (log_after events log)) c
      → Contains (flat_map f events) c ⊎ Contains (flat_map f log) c
  reached_after [] log c has = inr has
  reached_after (event ∷ events) log c has = by (reached_after events (event ∷ log) c has)
    where
      last : Contains (f event) c ⊎ Contains (flat_map f log) c → Contains (flat_map f (event ∷ events)) c ⊎ Contains (flat_map f log) c
      last (inl one) = inl (Contains-append_left (f event) (flat_map f events) c one)
      last (inr rest) = inr rest

      by : Contains (flat_map f events) c ⊎ Contains (flat_map f (event ∷ log)) c
          → Contains (flat_map f (event ∷ events)) c ⊎ Contains (flat_map f log) c
      by (inl later) = inl (Contains-append_right (f event) (flat_map f events) c later)
      by (inr one) = last (Contains-append_cases (f event) (flat_map f log) c one)

  pub reached_log : (events log : List Event) (c : B) → Contains (flat_map f log) c → Contains (flat_map f (log_after events log)) c
  reached_log [] log c has = has
  reached_log (event ∷ events) log c has = reached_log events (event ∷ log) c (Contains-append_right (f event) (flat_map f log) c has)

  pub reached_events : (events log : List Event) (c : B) → Contains (flat_map f events) c → Contains (flat_map f (log_after events log)) c
  reached_events [] log c has = absurd (none has)
    where
      none : Contains (flat_map f []) c → ⊥
      none (k, less, same) = absurd (omega (arith, less))
  reached_events (event ∷ events) log c has = by (Contains-append_cases (f event) (flat_map f events) c has) (reached_events events (event ∷ log) c)
    where
      by : Contains (f event) c ⊎ Contains (flat_map f events) c
          → (Contains (flat_map f events) c → Contains (flat_map f (log_after events (event ∷ log))) c)
          → Contains (flat_map f (log_after events (event ∷ log))) c
      by (inl one) rest = reached_log events (event ∷ log) c (Contains-append_left (f event) (flat_map f log) c one)
      by (inr later) rest = rest later

  pub length_after : (events log : List Event) → length (flat_map f (log_after events log)) ≡ length (flat_map f events) + length (flat_map f log)
  length_after [] log = omega arith
  length_after (event ∷ events) log =
      let rest = length_after events (event ∷ log) in
      let one = length-append (f event) (flat_map f log) in
      let other = length-append (f event) (flat_map f events) in omega (arith, rest, one, other)

-- ---- held alike

alike_all : (one other : Cells) (cells : List Cell) → ((cell : Cell) → Contains cells cell → one cell ≡ other cell) → AreAlike one other cells
alike_all one other [] same = tt
alike_all one other (cell ∷ cells) same =
    (same cell (0, omega arith, refl), alike_all one other cells (λ c has. same c (Contains-append_right (cell ∷ []) cells c has)))

module _ (basin : Draft) (policy : Policy) (earlier later now : Log) (step : ℕ) where
  -- what the record has is what the timestep looked at
  looks : (kept : StepRecord) (is : IsKeptAs basin policy earlier step kept) (cell : Cell)
      → Contains (looked_at basin step earlier) cell ↔ Contains (flat_map (reached_by basin) (is.first ∷ is.events)) cell
  looks kept is cell = (
    λ has. by (reached_after (reached_by basin) (is.first ∷ is.events) (opened step ∷ []) cell
        (subst (λ es. Contains (flat_map (reached_by basin) es) cell) is.own has)),
    λ has. subst (λ es. Contains (flat_map (reached_by basin) es) cell) (sym is.own)
        (reached_events (reached_by basin) (is.first ∷ is.events) (opened step ∷ []) cell has),
  )
    where
      by : Contains (flat_map (reached_by basin) (is.first ∷ is.events)) cell ⊎ Contains (flat_map (reached_by basin) (opened step ∷ [])) cell
          → Contains (flat_map (reached_by basin) (is.first ∷ is.events)) cell
      by (inl has) = has
      by (inr (k, less, same)) = absurd (omega (arith, less))

  pub is_reused : (kept : StepRecord) → IsKeptAs basin policy earlier step kept → before_opening step later ≡ Some now
      → AreHeld (cells_of basin now) kept.looked
      → IsReused basin earlier later step
  is_reused kept is opening held = record {
    closed = is.keepable.closing;
    few_cells = is.keepable.few_cells;
    few_lines = is.keepable.few_lines;
    one = is.old;
    one_is = is.opening;
    other = now;
    other_is = opening;
    alike = alike_all (cells_of basin is.old) (cells_of basin now) (looked_at basin step earlier) (λ cell has.
        let one : Held = record { cell = cell; content = cells_of basin is.old cell } in
        sym (held one ((is.these.looked one).1 ((looks kept is cell).0 has, refl))));
  }

  pub is_alike : (kept : StepRecord) → IsKeptAs basin policy earlier step kept → before_opening step later ≡ Some now
      → IsReused basin earlier later step
      → AreHeld (cells_of basin now) kept.looked
  is_alike kept is opening reused = λ one has.
      let both = (is.these.looked one).0 has in
      let same_one : reused.one ≡ is.old = same_Some _ _ (sym reused.one_is ∙ is.opening) in
      let same_other : reused.other ≡ now = same_Some _ _ (sym reused.other_is ∙ opening) in
      let alike = alike_at (cells_of basin reused.one) (cells_of basin reused.other) (looked_at basin step earlier) reused.alike one.cell
      ((looks kept is one.cell).1 both.0) in
      ap (λ log. cells_of basin log one.cell) (sym same_other) ∙ sym alike ∙ ap (λ log. cells_of basin log one.cell) same_one ∙ sym both.1

  -- where there is no record, or one that isn't alike, it isn't reused
  pub not_reused : (entry : Option StepRecord) → IsKeptOrNot basin policy earlier step entry → before_opening step later ≡ Some now
      → IfSome entry (λ kept. ¬ AreHeld (cells_of basin now) kept.looked) → ¬ IsReused basin earlier later step
  not_reused None is opening unlike = λ reused. is (record { closing = reused.closed; few_cells = reused.few_cells; few_lines = reused.few_lines })
  not_reused (Some kept) is opening unlike = λ reused. unlike (is_alike kept is opening reused)

-- ---- the timesteps that are run

rising_more : (steps : List ℕ) (step : ℕ) → AreRising steps → All (λ one. one < step) steps → AreRising (steps ++ step ∷ [])
rising_more [] step rising all = (All-nil (λ later. step < later), tt)
rising_more (first ∷ steps) step rising all = (
  All-push (λ later. first < later) steps step rising.0 (All-head (λ one. one < step) first steps all),
  rising_more steps step rising.1 (All-tail (λ one. one < step) first steps all),
)

all_of : (P : ℕ → Type 0) (steps : List ℕ) → ((step : ℕ) → Contains steps step → P step) → All P steps
all_of P [] each = All-nil P
all_of P (first ∷ steps) each =
    All-cons P first steps (each first (0, omega arith, refl))
    (all_of P steps (λ step has. each step (Contains-append_right (first ∷ []) steps step has)))

reused_still : (basin : Draft) (earlier log later : Log) (step : ℕ) → before_opening step later ≡ before_opening step log
    → IsReused basin earlier later step → IsReused basin earlier log step
reused_still basin earlier log later step same is = record {
  closed = is.closed;
  few_cells = is.few_cells;
  few_lines = is.few_lines;
  one = is.one;
  one_is = is.one_is;
  other = is.other;
  other_is = sym same ∙ is.other_is;
  alike = is.alike;
}

module _ (basin : Draft) (earlier log later : Log) (step : ℕ) (steps : List ℕ) (behind : IsBehind step log later)
    (none : (other : ℕ) → step ≤ other → before_opening other log ≡ None) (rerun : AreRerun basin earlier log steps) where
  abbrev IsRun : Log → ℕ → Type 0
  IsRun at other = IsSome (before_opening other at) × ¬ IsReused basin earlier at other

  on : (other : ℕ) → step ≢ other → IsRun log other → IsRun later other
  on other differ is = (
    subst IsSome (sym (behind.openings other differ)) is.0,
    λ reused. is.1 (reused_still basin earlier log later other (behind.openings other differ) reused),
  )

  back : (other : ℕ) → step ≢ other → IsRun later other → IsRun log other
  back other differ is = (
    subst IsSome (behind.openings other differ) is.0,
    λ reused. is.1 (reused_still basin earlier later log other (sym (behind.openings other differ)) reused),
  )

  -- each of them is an earlier one
  below : (other : ℕ) → Contains steps other → other < step
  below other has = by (nat_lt other step) refl
    where
      by : (near : Bool) → nat_lt other step ≡ near → other < step
      by true is = grind (arith, nat_tests, is)
      by false is =
          let far : step ≤ other = grind (arith, nat_tests, is) in
          absurd (false≢true (subst IsSome (none other far) ((rerun.those other).0 has).0))

  pub taken_over : IsReused basin earlier later step → AreRerun basin earlier later steps
  taken_over reused = record {
    rising = rerun.rising;
    those = λ other. (
      λ has. let near = below other has in on other (λ same. absurd (omega (arith, near, same))) ((rerun.those other).0 has),
      λ is. (rerun.those other).1 (back other (λ same. absurd (is.1 (subst (IsReused basin earlier later) same reused))) is),
    );
  }

  pub run_again : ¬ IsReused basin earlier later step → AreRerun basin earlier later (steps ++ step ∷ [])
  run_again differs = record {
    rising = rising_more steps step rerun.rising (all_of (λ one. one < step) steps below);
    those = λ other. (λ has. first other (Contains-append_cases steps (step ∷ []) other has), λ is. second other (step == other) refl is);
  }
    where
      first : (other : ℕ) → Contains steps other ⊎ Contains (step ∷ []) other → IsRun later other
      first other (inl has) = let near = below other has in on other (λ same. absurd (omega (arith, near, same))) ((rerun.those other).0 has)
      first other (inr (zero, less, same)) =
          subst (IsRun later) same (subst IsSome (sym behind.opening) refl, differs)
      first other (inr (suc k, less, same)) = absurd (omega (arith, less))

      second : (other : ℕ) (here : Bool) → (step == other) ≡ here → IsRun later other → Contains (steps ++ step ∷ []) other
      second other true is run' =
          let same : step ≡ other = grind (arith, nat_tests, is) in
          Contains-append_right steps (step ∷ []) other (0, omega arith, same)
      second other false is run' =
          let differ : step ≢ other = grind (arith, nat_tests, is) in
          Contains-append_left steps (step ∷ []) other ((rerun.those other).1 (back other differ run'))
