-- What each way of passing a timestep comes to.
use Rattle.rw_base.proofs.Common.{◌≡◌, ◌≤◌, ◌+◌, ◌∙◌, ℕ, true, false, List, [], ◌∷◌, ◌++◌, Ok, Option, Some, None, IsSome, IfSome, length}
use Rattle.rw_base.proofs.Common.{length-append, false≢true, refl, sym, ap, subst, arith}
use Rattle.rw_base.specs.declared.number.StepNo.{StepNo}
use Rattle.rw_model.specs.Draft.{Draft}
use Rattle.rw_model.specs.Turn.{IsStep}
use Rattle.rw_series.specs.Series.{held}
use Rattle.rw_run.specs.Behind.{IsBehind}
use Rattle.rw_run.specs.Frame.{log_after}
use Rattle.rw_run.specs.Log.{Cells, Event, Log, cells_of, closed, fault, opened}
use Rattle.rw_run.specs.Next.{Policy}
use Rattle.rw_run.specs.Reuse.{AreRerun, most_kept}
use Rattle.rw_run.specs.RunOf.{last_closed, lines}
use Rattle.rw_run.specs.Runs.{Leads, rests, standing}
use Rattle.rw_run.specs.Step.{before_closing, cell_count, events_of, reached_by}
use Rattle.rw_run.specs.Timestep.{AreLooked, IsTimestep}
use Rattle.rw_run.specs.declared.fault.RunFault.{RunFault}
use Rattle.rw_run.specs.declared.held.Held.{Held}
use Rattle.rw_run.proofs.Agains.{again}
use Rattle.rw_run.proofs.Passings.{closed_behind, faulted_behind, nothing_of, one_timestep}
use Rattle.std.specs.List.{flat_map}
use Rattle.rw_record.specs.Noted.{AreHeld, AreOnce}
use Rattle.rw_record.specs.Record.{StepRecord}
use Rattle.rw_engine.specs.Engine.{Engine}
use Rattle.rw_engine.specs.Passing.{Passes, PassesAgain, ReplaysKept, RunsStep}
use Rattle.rw_engine.specs.Records.{HandsOver, HasNoted, RecordsOrNot}
use Rattle.rw_engine.specs.Shows.{CanShow, IsBefore, IsEngineOf}
use Rattle.rw_engine.specs.declared.step_end.StepEnd.TheVariants.{Closed as IsClosed, Fault as IsFault}
use Rattle.rw_engine.proofs.Backs.{can_show}
use Rattle.rpl_verify.specs.Verified.{Accepted}
use Rattle.rw_rules.specs.Rules.{policy_in}
use Rattle.rw_rerun.specs.Kept.{IsKeptOrNot, IsKeptAs, IsStepLink}
use Rattle.rw_rerun.specs.Session.{numbers_of_steps}
use Rattle.rw_rerun.specs.UnderWay.{IsReplayable, GoesOn, IsPassOf, IsUnlike, stands_at}
use Rattle.rw_rerun.specs.declared.pass.Pass.{Pass}
use Rattle.rw_rerun.proofs.Anew.{IsClosedIn, kept_again, kept_anew, record_stands, these_again}
use Rattle.rw_rerun.proofs.Gives.{closed_left, keeps_left, keeps_more, keeps_same, made_left, shows_left}
use Rattle.rw_rerun.proofs.Reusing.{is_reused, not_reused, run_again, taken_over}
use Rattle.rw_rerun.proofs.Ways.{before_next, none_on, none_open, not_kept, numbers_more, one_on, shown_next}

unlike_now : (series cells : Cells) (entry : Option StepRecord) → ((one : Held) → series one.cell ≡ cells one.cell)
    → IfSome entry (λ kept. ¬ AreHeld series kept.looked) → IfSome entry (λ kept. ¬ AreHeld cells kept.looked)
unlike_now series cells None same unlike = tt
unlike_now series cells (Some kept) same unlike = λ are. unlike (λ one has. same one ∙ are one has)

link_anew : (basin : Draft) (policy : Policy) (step : ℕ) (now log : Log) (first : Event) (events : List Event) (found : Option StepRecord)
    → IsTimestep basin policy step now first events → log ≡ log_after (first ∷ events) (opened step ∷ now)
    → events_of step log ≡ log_after (first ∷ events) (opened step ∷ []) → RecordsOrNot basin step now (first ∷ events) found
    → IsKeptOrNot basin policy log step found → CanShow basin step now → IsStepLink basin policy step now found log
link_anew basin policy step now log first events None timestep is own records kept could = tt
link_anew basin policy step now log first events (Some it) timestep is own records kept could = record {
  first = first;
  events = events;
  timestep = timestep;
  shown = could;
  these = records.1;
  is = is;
  few_cells = subst (λ es. cell_count (flat_map (reached_by basin) es) ≤ most_kept) own kept.keepable.few_cells;
  few_lines = subst (λ es. length (flat_map lines es) ≤ most_kept) own kept.keepable.few_lines;
}

module _ (basin : Draft) (policy : Accepted) (step : ℕ) (old new : Pass) (made : IsPassOf basin policy old) where
  abbrev in_run : Policy
  in_run = policy_in basin policy

  pub skip_goes : (steps : ℕ) (done : Unit {0}) → old.over ≡ true → new.over ≡ true → new.engine ≡ old.engine → new.reran.items ≡ old.reran.items
      → new.changes.items ≡ old.changes.items ++ Some None ∷ [] → GoesOn basin policy step (λ entry. Unit {0}) old new steps steps (Ok done)
  skip_goes steps done was_over is_over engine reran changes = record {
    made =
        record {
          made = subst (λ e. IsEngineOf basin policy e) (sym engine) made.made;
          noted = subst (λ (e : Engine). IsSome e.noted) (sym engine) made.noted;
        };
    kept = keeps_same old.engine new.engine engine;
    goes = λ inputs earlier was last entry framed there fits next_one way.
        none_on basin in_run inputs earlier was old new last step entry (Some None) way next_one there.there changes was_over is_over engine reran
        (nothing_of step way.log (none_open basin in_run inputs earlier was old new last step entry (Some None) way next_one there.there changes step
        (omega arith))).1
        refl;
    grows = (Some None ∷ [], changes);
    each = let same = ap length reran in omega (arith, same);
    rises = omega arith;
    few = omega arith;
  }

  pub take_goes : (steps : ℕ) (done : Unit {0}) (kept : StepRecord) → old.over ≡ false → new.over ≡ false → IsStep basin step
      → IsReplayable basin step kept
      → AreHeld (held old.engine.series) kept.looked → ReplaysKept basin kept old.engine new.engine (Ok done) → new.reran.items ≡ old.reran.items
      → new.changes.items ≡ old.changes.items ++ None ∷ [] → GoesOn basin policy step (λ entry. entry ≡ Some kept) old new steps steps (Ok done)
  take_goes steps done kept goes still_goes exists can alike replays reran changes = record {
    made = record { made = replays.made policy made.made; noted = replays.keeps.noted ∙ made.noted };
    kept = replays.keeps;
    goes = λ inputs earlier was last entry framed there fits next_one way.
        let is : IsKeptAs basin in_run earlier step kept =
        subst (IsKeptOrNot basin in_run earlier step) fits (subst (λ s. IsKeptOrNot basin in_run earlier s entry) (sym next_one) there.kept) in
        let now : Log = way.log in
        let held_now : AreHeld (cells_of basin now) kept.looked = λ one has. sym (way.shows.cells one.cell) ∙ alike one has in
        let rest : standing now ≡ rests last = way.stands ∙ ap (λ o. stands_at o last) goes in
        let before : IsBefore basin step now =
        before_next basin in_run inputs earlier was old new last step entry None way next_one there.there changes goes exists.last in
        let none : (other : ℕ) → step ≤ other → events_of other now ≡ [] =
        none_open basin in_run inputs earlier was old new last step entry None way next_one there.there changes in
        let passes : PassesAgain basin in_run now new.engine step =
        subst (λ s. PassesAgain basin in_run now new.engine s) can.step_is
        (replays.passes in_run now framed (record_stands basin in_run earlier now now step kept is held_now) way.shows
        (subst (λ s. IsBefore basin s now) (sym can.step_is) before) alike) in
        let timestep : IsTimestep basin in_run step now is.first is.events =
        again basin in_run step last is.old now is.first is.events kept.looked framed is.timestep is.these.looked held_now rest next_one in
        let log : Log = passes.last ∷ passes.before in
        let ends : log ≡ closed step ∷ passes.before = ap (λ e. e ∷ passes.before) passes.ends in
        let same : log ≡ log_after (is.first ∷ is.events) (opened step ∷ now) =
        ends ∙ one_timestep basin in_run step last now passes.before passes.events is.events is.first rest next_one passes.within
        (subst (Leads basin in_run now passes.events) ends passes.leads) timestep in
        let facts = closed_behind basin in_run step now is.first is.events timestep (none step (omega arith)) in
        let closed_in : IsClosedIn step log now is.first is.events =
        subst (λ l. IsClosedIn step l now is.first is.events) (sym same) (record { behind = facts.0; own = facts.1; closing = facts.2 }) in
        one_on basin in_run inputs earlier was old new last step entry None way next_one there.there changes log passes.events passes.leads
        passes.shows
        (ap standing ends ∙ sym (ap (λ o. stands_at o step) still_goes)) closed_in.behind
        (subst (λ (steps : List StepNo). AreRerun basin earlier log (numbers_of_steps steps)) (sym reran)
        (taken_over basin earlier now log step (numbers_of_steps old.reran.items) closed_in.behind
        (λ other far. (nothing_of other now (none other far)).0) way.rerun
        (is_reused basin in_run earlier log now step kept is closed_in.behind.opening held_now)))
        (subst (IsKeptOrNot basin in_run log step) (sym fits) (kept_again basin in_run earlier log now step kept is held_now closed_in timestep))
        (subst (λ kept. IsStepLink basin in_run step now kept log) (sym fits) (record {
          first = is.first;
          events = is.events;
          timestep = timestep;
          shown = shown_next basin in_run inputs earlier was old new last step entry None way next_one there.there changes goes;
          these = these_again basin in_run earlier log now step kept is held_now;
          is = same;
          few_cells = subst (λ es. cell_count (flat_map (reached_by basin) es) ≤ most_kept) is.own is.keepable.few_cells;
          few_lines = subst (λ es. length (flat_map lines es) ≤ most_kept) is.own is.keepable.few_lines;
        }))
        (λ same. can_show basin new.engine (step + 1) log (replays.made policy made.made).series passes.shows
        (ap (λ n. n + 1) (sym (passes.shows.closed_steps ∙ ap last_closed ends))));
    grows = (None ∷ [], changes);
    each = let same = ap length reran in omega (arith, same);
    rises = omega arith;
    few = omega arith;
  }

  -- of a timestep that is run
  module _ (before after : ℕ) (number : StepNo) (at : number.0 ≡ step) (goes : old.over ≡ false) (exists : IsStep basin step)
      (counted : after ≡ before + 1)
      (reran : new.reran.items ≡ old.reran.items ++ number ∷ []) (done : Unit {0}) where
    one_more : after + length old.reran.items ≡ before + length new.reran.items
    one_more = let all = ap length reran in let more = length-append old.reran.items (number ∷ []) in omega (arith, all, more, counted)

    listed : (earlier log : Log) → AreRerun basin earlier log (numbers_of_steps old.reran.items ++ step ∷ [])
        → AreRerun basin earlier log (numbers_of_steps new.reran.items)
    listed earlier log are =
        subst (AreRerun basin earlier log)
        (ap (λ n. numbers_of_steps old.reran.items ++ n ∷ []) (sym at) ∙ sym (numbers_more old.reran.items number)
        ∙ ap numbers_of_steps (sym reran)) are

    pub run_goes : (ran : Engine) (found : Option StepRecord) → new.over ≡ false → RunsStep basin policy step old.engine ran (Ok IsClosed)
        → HandsOver ran new.engine
        → ((basin : Draft) (step : ℕ) (old : Log) (events : List Event) → HasNoted basin step old events ran → ran.closed ≡ step
        → RecordsOrNot basin step old events found)
        → ((basin : Draft) (cells : Cells) (events : List Event) (noted : List Held) → AreOnce noted → AreLooked basin cells events noted
        → length noted ≡ cell_count (flat_map (reached_by basin) events))
        → new.changes.items ≡ old.changes.items ++ Some found ∷ [] → GoesOn basin policy step (IsUnlike old) old new before after (Ok done)
    run_goes ran found still_goes runs hands records how_many changes = record {
      made =
          record {
            made = made_left basin ran new.engine hands policy runs.made;
            noted = (keeps_left basin ran new.engine hands).noted ∙ (runs.kept.noted ∙ made.noted);
          };
      kept = keeps_more old.engine ran new.engine runs.kept (keeps_left basin ran new.engine hands);
      goes = λ inputs earlier was last entry framed there fits next_one way.
          let now : Log = way.log in
          let none : (other : ℕ) → step ≤ other → events_of other now ≡ [] =
          none_open basin in_run inputs earlier was old new last step entry (Some found) way next_one there.there changes in
          let passes : Passes basin in_run now IsClosed ran step =
          runs.passes now way.shows (before_next basin in_run inputs earlier was old new last step entry (Some found) way next_one there.there changes
          goes exists.last) in
          let closes = passes.closes in
          let log : Log = passes.last ∷ passes.before in
          let noted = closes.noted (runs.kept.noted ∙ made.noted) in
          let facts = closed_behind basin in_run step now closes.first closes.events closes.timestep (none step (omega arith)) in
          let closed_in : IsClosedIn step log now closes.first closes.events =
          subst (λ l. IsClosedIn step l now closes.first closes.events) (sym closes.is)
          (record { behind = facts.0; own = facts.1; closing = facts.2 }) in
          one_on basin in_run inputs earlier was old new last step entry (Some found) way next_one there.there changes log passes.events passes.leads
          (shows_left basin ran new.engine hands log passes.shows)
          (ap (λ e. standing (e ∷ passes.before)) passes.ends ∙ sym (ap (λ o. stands_at o step) still_goes)) closed_in.behind
          (listed earlier log
          (run_again basin earlier now log step (numbers_of_steps old.reran.items) closed_in.behind
          (λ other far. (nothing_of other now (none other far)).0) way.rerun
          (not_reused basin in_run earlier log now step entry (subst (λ s. IsKeptOrNot basin in_run earlier s entry) (sym next_one) there.kept)
          closed_in.behind.opening
          (unlike_now (held old.engine.series) (cells_of basin now) entry (λ one. way.shows.cells one.cell) fits))))
          (kept_anew basin in_run step log now closes.first closes.events closed_in closes.timestep ran noted
          (how_many basin (cells_of basin now)) found
          (records basin step now (closes.first ∷ closes.events) noted runs.closed_steps))
          (link_anew basin in_run step now log closes.first closes.events found closes.timestep closes.is closed_in.own
          (records basin step now (closes.first ∷ closes.events) noted runs.closed_steps)
          (kept_anew basin in_run step log now closes.first closes.events closed_in closes.timestep ran noted
          (how_many basin (cells_of basin now)) found
          (records basin step now (closes.first ∷ closes.events) noted runs.closed_steps))
          (shown_next basin in_run inputs earlier was old new last step entry (Some found) way next_one there.there changes goes))
          (λ same. can_show basin new.engine (step + 1) log (made_left basin ran new.engine hands policy runs.made).series
          (shows_left basin ran new.engine hands log passes.shows)
          (ap (λ n. n + 1) (sym (closed_left basin ran new.engine hands ∙ runs.closed_steps))));
      grows = (Some found ∷ [], changes);
      each = one_more;
      rises = omega (arith, counted);
      few = omega (arith, counted);
    }

    pub fault_goes : (why : RunFault) → new.over ≡ true → RunsStep basin policy step old.engine new.engine (Ok (IsFault why))
        → new.changes.items ≡ old.changes.items ++ Some None ∷ [] → GoesOn basin policy step (IsUnlike old) old new before after (Ok done)
    fault_goes why ended runs changes = record {
      made = record { made = runs.made; noted = runs.kept.noted ∙ made.noted };
      kept = runs.kept;
      goes = λ inputs earlier was last entry framed there fits next_one way.
          let now : Log = way.log in
          let none : (other : ℕ) → step ≤ other → events_of other now ≡ [] =
          none_open basin in_run inputs earlier was old new last step entry (Some None) way next_one there.there changes in
          let rest : standing now ≡ rests last = way.stands ∙ ap (λ o. stands_at o last) goes in
          let passes : Passes basin in_run now (IsFault why) new.engine step =
          runs.passes now way.shows (before_next basin in_run inputs earlier was old new last step entry (Some None) way next_one there.there changes
          goes exists.last) in
          let log : Log = passes.last ∷ passes.before in
          let ends : log ≡ fault why ∷ passes.before = ap (λ e. e ∷ passes.before) passes.ends in
          let facts = faulted_behind basin in_run step last now passes.before passes.events why rest next_one passes.within
          (subst (Leads basin in_run now passes.events) ends passes.leads) (none step (omega arith)) in
          let behind : IsBehind step now log = subst (IsBehind step now) (sym ends) facts.0 in
          one_on basin in_run inputs earlier was old new last step entry (Some None) way next_one there.there changes log passes.events passes.leads
          passes.shows
          (ap standing ends ∙ sym (ap (λ o. stands_at o step) ended)) behind
          (listed earlier log
          (run_again basin earlier now log step (numbers_of_steps old.reran.items) behind
          (λ other far. (nothing_of other now (none other far)).0) way.rerun
          (not_reused basin in_run earlier log now step entry (subst (λ s. IsKeptOrNot basin in_run earlier s entry) (sym next_one) there.kept)
          behind.opening
          (unlike_now (held old.engine.series) (cells_of basin now) entry (λ one. way.shows.cells one.cell) fits))))
          (not_kept basin in_run step log (ap (before_closing step) ends ∙ facts.1)) tt (λ same. absurd (false≢true (sym same ∙ ended)));
      grows = (Some None ∷ [], changes);
      each = one_more;
      rises = omega (arith, counted);
      few = omega (arith, counted);
    }
