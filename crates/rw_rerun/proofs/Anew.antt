-- What is kept of a timestep that was run, and of one that was taken over.
use Rattle.rw_base.proofs.Common.{◌≡◌, ◌⊎◌, ◌<◌, ◌≤◌, ◌∙◌, ℕ, Bool, true, false, List, [], ◌∷◌, Contains, Option, Some, None, IsSome, length}
use Rattle.rw_base.proofs.Common.{length-append, nat_lt, refl, sym, ap, subst, arith, inl, inr, nat_tests}
use Rattle.std.specs.List.{flat_map}
use Rattle.rw_base.specs.declared.number.Cell.{Cell}
use Rattle.rw_model.specs.Draft.{Draft}
use Rattle.rw_run.specs.Behind.{IsBehind}
use Rattle.rw_run.specs.Frame.{log_after}
use Rattle.rw_run.specs.Log.{Event, Log, cells_of, opened}
use Rattle.rw_run.specs.Next.{Policy}
use Rattle.rw_run.specs.Reuse.{most_kept}
use Rattle.rw_run.specs.RunOf.{lines}
use Rattle.rw_run.specs.Step.{before_closing, cell_count, events_of, line_count, looked_at, reached_by}
use Rattle.rw_run.specs.Timestep.{AreLooked, IsTimestep}
use Rattle.rw_run.specs.declared.held.Held.{Held}
use Rattle.rw_record.specs.Noted.{AreHeld, AreOnce}
use Rattle.rw_record.specs.Record.{StepRecord}
use Rattle.rw_engine.specs.Records.{HasNoted, IsTooLarge, Records, RecordsOrNot, RecordsThese, lines_of_step}
use Rattle.rw_engine.specs.Engine.{Engine}
use Rattle.rw_rerun.specs.Kept.{IsKeptOrNot, IsKeptAs, IsKeepable}
use Rattle.rw_rerun.proofs.Reusing.{length_after, reached_after, reached_events}

at_most : (most n : ℕ) → ¬ (most < n) → n ≤ most
at_most most n few = by (nat_lt most n) refl
  where
    by : (more : Bool) → nat_lt most n ≡ more → n ≤ most
    by true is = absurd (few (grind (arith, nat_tests, is)))
    by false is = grind (arith, nat_tests, is)

-- what the log closed of the timestep
pub record IsClosedIn (step : ℕ) (log old : Log) (first : Event) (events : List Event) : Type 0 where
  pub behind : IsBehind step old log
  pub own : events_of step log ≡ log_after (first ∷ events) (opened step ∷ [])
  pub closing : IsSome (before_closing step log)

module _ (basin : Draft) (policy : Policy) (step : ℕ) (log old : Log) (first : Event) (events : List Event)
    (closed : IsClosedIn step log old first events)
    (timestep : IsTimestep basin policy step old first events) where
  abbrev own : Log
  own = log_after (first ∷ events) (opened step ∷ [])

  either_way : (cell : Cell) → Contains (flat_map (reached_by basin) (first ∷ events)) cell → Contains (flat_map (reached_by basin) own) cell
  either_way cell has = reached_events (reached_by basin) (first ∷ events) (opened step ∷ []) cell has

  other_way : (cell : Cell) → Contains (flat_map (reached_by basin) own) cell → Contains (flat_map (reached_by basin) (first ∷ events)) cell
  other_way cell has = by (reached_after (reached_by basin) (first ∷ events) (opened step ∷ []) cell has)
    where
      by : Contains (flat_map (reached_by basin) (first ∷ events)) cell ⊎ Contains (flat_map (reached_by basin) (opened step ∷ [])) cell
          → Contains (flat_map (reached_by basin) (first ∷ events)) cell
      by (inl there) = there
      by (inr (k, less, same)) = absurd (omega (arith, less))

  looked_own : (cells : List Held) → AreLooked basin (cells_of basin old) (first ∷ events) cells → AreLooked basin (cells_of basin old) own cells
  looked_own cells are held = (
    λ has. let both = (are held).0 has in (either_way held.cell both.0, both.1),
    λ both. (are held).1 (other_way held.cell both.0, both.1),
  )

  lines_same : line_count step log ≡ length (lines_of_step step (first ∷ events))
  lines_same =
      let whole = ap (λ (es : Log). length (flat_map lines es)) closed.own in
      let parts = length_after lines (first ∷ events) (opened step ∷ []) in
      let other = length-append (lines (opened step)) (flat_map lines (first ∷ events)) in
      let one = length-append (lines (opened step)) [] in omega (arith, whole, parts, other, one)

  module _ (engine : Engine) (noted : HasNoted basin step old (first ∷ events) engine)
      (how_many : (events : List Event) (cells : List Held) → AreOnce cells → AreLooked basin (cells_of basin old) events cells
      → length cells ≡ cell_count (flat_map (reached_by basin) events)) where
    cells_same : cell_count (looked_at basin step log) ≡ cell_count (flat_map (reached_by basin) (first ∷ events))
    cells_same =
        ap (λ (es : Log). cell_count (flat_map (reached_by basin) es)) closed.own
        ∙ sym (how_many own noted.cells noted.once (looked_own noted.cells noted.looked))
        ∙ how_many (first ∷ events) noted.cells noted.once noted.looked

    pub kept_anew : (found : Option StepRecord) → RecordsOrNot basin step old (first ∷ events) found → IsKeptOrNot basin policy log step found
    kept_anew None large = λ keepable. by keepable large
      where
        by : IsKeepable basin log step → IsTooLarge basin step (first ∷ events) → ⊥
        by keepable (inl cells) = let few = keepable.few_cells in let same = cells_same in absurd (omega (arith, cells, few, same))
        by keepable (inr told) = let few = keepable.few_lines in let same = lines_same in absurd (omega (arith, told, few, same))
    kept_anew (Some kept) both = record {
      keepable = record {
        closing = closed.closing;
        few_cells =
            subst (λ n. n ≤ most_kept) (sym cells_same)
            (at_most most_kept (cell_count (flat_map (reached_by basin) (first ∷ events))) (λ more. both.0 (inl more)));
        few_lines =
            subst (λ n. n ≤ most_kept) (sym lines_same)
            (at_most most_kept (length (lines_of_step step (first ∷ events))) (λ more. both.0 (inr more)));
      };
      old = old;
      first = first;
      events = events;
      opening = closed.behind.opening;
      own = closed.own;
      timestep = timestep;
      these = both.1;
    }

-- ---- taken over

module _ (basin : Draft) (policy : Policy) (earlier log now : Log) (step : ℕ) (kept : StepRecord) (is : IsKeptAs basin policy earlier step kept)
    (held : AreHeld (cells_of basin now) kept.looked) where
  pub record_stands : Records basin policy kept
  record_stands = record {
    old = is.old;
    first = is.first;
    events = is.events;
    timestep = subst (λ s. IsTimestep basin policy s is.old is.first is.events) (sym is.these.step_is) is.timestep;
    these = subst (λ s. RecordsThese basin s is.old (is.first ∷ is.events) kept) (sym is.these.step_is) is.these;
  }

  -- it looked at the same with other cells before it
  looked_now : AreLooked basin (cells_of basin now) (is.first ∷ is.events) kept.looked
  looked_now one = (
    λ has. (((is.these.looked one).0 has).0, sym (held one has)),
    λ both.
        let was : Held = record { cell = one.cell; content = cells_of basin is.old one.cell } in
        let had : Contains kept.looked was = (is.these.looked was).1 (both.0, refl) in
        let same : one.content ≡ was.content = both.1 ∙ held was had in
        subst (Contains kept.looked) (ap (λ c. record { cell = one.cell; content = c }) (sym same)) had,
  )

  pub these_again : RecordsThese basin step now (is.first ∷ is.events) kept
  these_again = record {
    step_is = is.these.step_is;
    looked = looked_now;
    rising = is.these.rising;
    lines_are = is.these.lines_are;
    can = is.these.can;
  }

  pub kept_again : IsClosedIn step log now is.first is.events → IsTimestep basin policy step now is.first is.events
      → IsKeptOrNot basin policy log step (Some kept)
  kept_again closed timestep = record {
    keepable = record {
      closing = closed.closing;
      few_cells = subst (λ es. cell_count (flat_map (reached_by basin) es) ≤ most_kept) (is.own ∙ sym closed.own) is.keepable.few_cells;
      few_lines = subst (λ es. length (flat_map lines es) ≤ most_kept) (is.own ∙ sym closed.own) is.keepable.few_lines;
    };
    old = now;
    first = is.first;
    events = is.events;
    opening = closed.behind.opening;
    own = closed.own;
    timestep = timestep;
    these = these_again;
  }
