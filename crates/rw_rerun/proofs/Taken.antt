-- The first timesteps that a batch doesn't touch, in the run of the inputs behind it.
use Rattle.rw_base.proofs.Common.{◌≡◌, ◌≤◌, ◌+◌, ◌∙◌, ℕ, zero, suc, Bool, true, false, List, [], ◌∷◌, ◌++◌, map, Option, Some, None, IsSome, IfSome}
use Rattle.rw_base.proofs.Common.{Ok, drop_all, length, take, take_all, refl, sym, ap, subst, arith, false≢true, same_Some}
use Rattle.std.specs.List.{flat_map}
use Rattle.rw_base.specs.declared.number.Cell.{Cell}
use Rattle.rw_model.specs.Draft.{Draft}
use Rattle.rw_inputs.specs.Edits.{Batch, after_batch}
use Rattle.rw_inputs.specs.Placings.{placings}
use Rattle.rw_inputs.specs.Inputs.{Inputs, IsInputsOf, value_at}
use Rattle.rw_series.specs.Series.{held}
use Rattle.rw_run.specs.Frame.{IsFramed, IsStepFrom, log_after}
use Rattle.rw_run.specs.Log.{Event, Log, cells_of, opened}
use Rattle.rw_run.specs.Next.{Policy}
use Rattle.rw_run.specs.RunOf.{last_closed, trace_of}
use Rattle.rw_run.specs.Runs.{Leads, inside, with_inputs, rests, standing}
use Rattle.rw_run.specs.declared.trace.TraceEvent.{TraceEvent}
use Rattle.rw_run.proofs.Passings.{begun, nothing_of}
use Rattle.rw_run.proofs.Placed.{settled_at_rest, standing-placed, trace-placed}
use Rattle.rw_record.specs.Record.{StepRecord}
use Rattle.rw_engine.specs.Engine.{Engine}
use Rattle.rw_engine.specs.Shows.{CanReplay, Shows}
use Rattle.rpl_verify.specs.Verified.{Accepted, verified}
use Rattle.rw_rules.specs.Rules.{policy_in}
use Rattle.rw_rerun.specs.Begun.{AreAlikeIn, HasTakenOver, TakesOver}
use Rattle.rw_rerun.specs.Edited.{AreEdited, BecomesSpare, HasComeBehind, LeavesFirst, TakesFirst, is_edited}
use Rattle.rw_rerun.specs.Kept.{AreKept, AreStepLinks, IsLinkOf}
use Rattle.rw_rerun.specs.Session.{IsSessionOf, Session}
use Rattle.rw_rerun.specs.Spare.{AreKeptFrom, BringsTo, GivesAll, IsSpare, StandsIn}
use Rattle.rw_rerun.specs.Touched.{CountsUntouched, is_untouched}
use Rattle.rw_rerun.specs.declared.spare.Spare.{Spare}
use Rattle.rw_rerun.proofs.Beginning.{takes_over}
use Rattle.rw_rerun.proofs.Gives.{gives_keep, keeps_more}
use Rattle.rw_rerun.proofs.Edited.{AreUntouched, given_alike, given_anew, not_given, untouched_first}
use Rattle.rw_rerun.proofs.Showing.{placed_shown}
use Rattle.rw_rerun.proofs.Standing.{told_by, unmoved_in}

-- ---- kept timesteps lead to one log

not_inside : (step : ℕ) → rests step ≡ inside step → ⊥
not_inside step same = absurd (cc)

module _ (basin : Draft) (policy : Policy) (step : ℕ) where
  -- a timestep goes in one way
  one_way : (log end last : Log) (first other : Event) (events others : List Event) → IsStepFrom step first events → IsStepFrom step other others
      → Leads basin policy log (first ∷ events) end → Leads basin policy log (other ∷ others) last
      → log_after (first ∷ events) log ≡ log_after (other ∷ others) log
  one_way log end last first other [] [] goes went leads led = ap (λ e. e ∷ log) (same_Some first other (sym leads.0 ∙ led.0))
  one_way log end last first other [] (next ∷ others) goes went leads led =
      let same : other ≡ first = same_Some other first (sym led.0 ∙ leads.0) in
      absurd (not_inside step (sym (ap (λ e. standing (e ∷ [])) (same ∙ goes)) ∙ went.0))
  one_way log end last first other (next ∷ events) [] goes went leads led =
      let same : first ≡ other = same_Some first other (sym leads.0 ∙ led.0) in
      absurd (not_inside step (sym (ap (λ e. standing (e ∷ [])) (same ∙ went)) ∙ goes.0))
  one_way log end last first other (next ∷ events) (after ∷ others) goes went leads led =
      let same : first ≡ other = same_Some first other (sym leads.0 ∙ led.0) in
      one_way (first ∷ log) end last next after events others goes.1 went.1 leads.1
      (subst (λ e. Leads basin policy (e ∷ log) (after ∷ others) last) (sym same) led.1)
      ∙ ap (λ e. log_after (after ∷ others) (e ∷ log)) same

  one_link : (log one other : Log) (kept : StepRecord) → IsLinkOf basin policy step log kept one → IsLinkOf basin policy step log kept other
      → one ≡ other
  one_link log one other kept link again =
      link.is
      ∙ one_way (opened step ∷ log) (log_after (link.first ∷ link.events) (opened step ∷ log))
      (log_after (again.first ∷ again.events) (opened step ∷ log)) link.first again.first link.events again.events
      link.timestep.goes again.timestep.goes link.timestep.leads again.timestep.leads
      ∙ sym again.is

pub same_end : (basin : Draft) (policy : Policy) (records : List StepRecord) (step : ℕ) (log one other : Log)
    → AreStepLinks basin policy step log (map (λ kept. Some kept) records) one
    → AreStepLinks basin policy step log (map (λ kept. Some kept) records) other
    → one ≡ other
same_end basin policy [] step log one other first second = first ∙ sym second
same_end basin policy (kept ∷ rest) step log one other first second =
    let same : first.0 ≡ second.0 = one_link basin policy step log first.0 second.0 kept first.1 second.1 in
    same_end basin policy rest (step + 1) second.0 one other
    (subst (λ l. AreStepLinks basin policy (step + 1) l (map (λ kept. Some kept) rest) one) same first.2) second.2

-- ---- before all timesteps

first_kept : (basin : Draft) (policy : Policy) (log : Log) (step count : ℕ) (was : List (Option StepRecord)) → AreKept basin policy log step was
    → AreKept basin policy log step (take count was)
first_kept basin policy log step zero was are = tt
first_kept basin policy log step (suc count) [] are = tt
first_kept basin policy log step (suc count) (one ∷ was) are = (are.0, first_kept basin policy log (step + 1) count was are.1)

none_taken : (basin : Draft) (policy : Policy) (inputs : Inputs) (earlier : Log) → IsInputsOf basin inputs
    → HasTakenOver basin policy inputs earlier [] (with_inputs [] (placings basin inputs)) 0
none_taken basin policy inputs earlier made = record {
  many = refl;
  events = [];
  leads = refl;
  stands = standing-placed [] (placings basin inputs) refl;
  shown = placed_shown basin inputs made;
  later = λ other far. begun (placings basin inputs) other;
  rerun = record {
    rising = tt;
    those = λ step. (
      λ (k, less, same). absurd (omega (arith, less)),
      λ is. absurd (false≢true (subst IsSome (nothing_of step (with_inputs [] (placings basin inputs)) (begun (placings basin inputs) step)).0 is.0)),
    );
  };
  kept = tt;
  linked = refl;
}

alike_self : (basin : Draft) (log : Log) (records : List StepRecord) → AreAlikeIn basin log log records
alike_self basin log [] = tt
alike_self basin log (kept ∷ rest) = (λ one has. refl, alike_self basin log rest)

-- ---- behind the first ones

-- as many are taken over behind any inputs with which all is held alike that they hold
module _ (basin : Draft) (policy : Policy) (one : Inputs) (earlier end : Log) (records : List StepRecord) (framed : IsFramed policy)
    (near : length records ≤ basin.control.stamps.count) (kept : AreKept basin policy earlier 1 (map (λ kept. Some kept) records))
    (linked : AreStepLinks basin policy 1 (with_inputs [] (placings basin one)) (map (λ kept. Some kept) records) end) where
  taken_by : (other : Inputs) → IsInputsOf basin other
      → AreAlikeIn basin (with_inputs [] (placings basin one)) (with_inputs [] (placings basin other)) records
      → TakesOver basin policy other earlier (map (λ kept. Some kept) records) (with_inputs [] (placings basin one))
      (with_inputs [] (placings basin other)) end
      (length records)
  taken_by other made alike =
      let from : Log = with_inputs [] (placings basin one) in
      let start : Log = with_inputs [] (placings basin other) in
      let more : 0 + length records ≡ length records = omega arith in
      subst (TakesOver basin policy other earlier (map (λ kept. Some kept) records) from start end) more
      (takes_over basin policy other earlier records 1 0 from start end [] framed refl (omega (arith, near)) linked
      (λ step far. begun (placings basin one) step) (none_taken basin policy other earlier made) kept alike)

  -- so they are behind their own
  own_taken : IsInputsOf basin one → HasTakenOver basin policy one earlier (map (λ kept. Some kept) records) end (length records)
  own_taken made =
      let own = taken_by one made (alike_self basin (with_inputs [] (placings basin one)) records) in
      subst (λ log. HasTakenOver basin policy one earlier (map (λ kept. Some kept) records) log (length records))
      (same_end basin policy records 1 (with_inputs [] (placings basin one)) own.log end own.taken.linked linked) own.taken

told_in : (basin : Draft) (policy : Policy) (inputs : Inputs) (records : List StepRecord) (end : Log)
    → AreStepLinks basin policy 1 (with_inputs [] (placings basin inputs)) (map (λ kept. Some kept) records) end
    → trace_of end ≡ flat_map (λ (kept : StepRecord). kept.lines) records
told_in basin policy inputs records end linked =
    told_by basin policy records 1 (with_inputs [] (placings basin inputs)) end linked
    ∙ ap (λ told. told ++ flat_map (λ (kept : StepRecord). kept.lines) records) (trace-placed [] (placings basin inputs))

module _ (basin : Draft) (policy : Policy) (old new : Inputs) (batch : Batch) (cells : List Cell) (earlier end : Log)
    (was : List (Option StepRecord)) (behind : ℕ) (old_made : IsInputsOf basin old) (new_made : IsInputsOf basin new)
    (values : value_at new ≡ after_batch batch (value_at old)) (edited : AreEdited basin batch old cells)
    (are : AreUntouched basin cells (with_inputs [] (placings basin old)) (with_inputs [] (placings basin new)) (take behind was) behind) where
  abbrev start : Log
  start = with_inputs [] (placings basin new)

  abbrev those : List (Option StepRecord)
  those = map (λ kept. Some kept) are.records

  module _ (over : TakesOver basin policy new earlier those (with_inputs [] (placings basin old)) start end (length are.records))
      (own : HasTakenOver basin policy old earlier those end (length are.records)) where
    module _ (before after : Engine) (showed : Shows basin before end) (gives : GivesAll basin new cells before after) where
      cell_shown : (cell : Cell) (shared : Bool) → is_edited basin cells cell ≡ shared → held after.series cell ≡ cells_of basin over.log cell
      cell_shown cell true shared =
          gives.holds cell ∙ given_anew basin batch old new cells new_made edited (held before.series) cell shared
          ∙ sym (unmoved_in basin policy are.records 1 start over.log cell over.taken.linked (are.without cell shared))
      cell_shown cell false apart =
          gives.holds cell ∙ not_given basin new cells (held before.series) cell apart ∙ showed.cells cell
          ∙ over.alike cell (given_alike basin batch old new cells values edited cell apart)

      same_trace : trace_of end ≡ trace_of over.log
      same_trace = told_in basin policy old are.records end own.linked ∙ sym (told_in basin policy new are.records over.log over.taken.linked)

      same_closed : last_closed end ≡ last_closed over.log
      same_closed = let one = own.shown.closed_steps in let other = over.taken.shown.closed_steps in omega (arith, one, other)

      shown_given : Shows basin after over.log
      shown_given = record {
        cells = λ cell. cell_shown cell (is_edited basin cells cell) refl;
        trace = subst (λ (told : Option (List TraceEvent)). IfSome told (λ lines. lines ≡ trace_of over.log)) (sym gives.trace)
            (subst (λ (told : List TraceEvent). IfSome before.trace (λ lines. lines ≡ told)) same_trace showed.trace);
        closed_steps = gives.closed_steps ∙ showed.closed_steps ∙ same_closed;
        end = gives.end ∙ showed.end ∙ settled_at_rest end (length are.records) own.stands
            ∙ sym (settled_at_rest over.log (length are.records) over.taken.stands);
      }

    first_taken : TakesFirst basin policy new cells earlier end was behind
    first_taken = record {
      log = over.log;
      taken = subst (λ ks. HasTakenOver basin policy new earlier ks over.log behind) (sym are.are)
          (subst (HasTakenOver basin policy new earlier those over.log) are.many over.taken);
      alike = λ cell apart. over.alike cell (given_alike basin batch old new cells values edited cell apart);
      shows = λ before after showed gives. shown_given before after showed gives;
    }

pub takes_first : (basin : Draft) (policy : Policy) (old new : Inputs) (batch : Batch) (cells : List Cell) (earlier end : Log)
    (was : List (Option StepRecord)) (behind : ℕ) → IsFramed policy → IsInputsOf basin old → IsInputsOf basin new
    → value_at new ≡ after_batch batch (value_at old) → AreEdited basin batch old cells → length was ≡ basin.control.stamps.count
    → CountsUntouched basin cells was behind → AreKept basin policy earlier 1 was
    → AreStepLinks basin policy 1 (with_inputs [] (placings basin old)) (take behind was) end
    → TakesFirst basin policy new cells earlier end was behind
takes_first basin policy old new batch cells earlier end was behind framed old_made new_made values edited many untouched kept linked =
    let one : Log = with_inputs [] (placings basin old) in
    let other : Log = with_inputs [] (placings basin new) in
    let are : AreUntouched basin cells one other (take behind was) behind =
    untouched_first basin cells was behind one other untouched
    (λ cell apart. given_alike basin batch old new cells values edited cell apart) in
    let near : length are.records ≤ basin.control.stamps.count = let same = are.many in let few = untouched.few in omega (arith, same, few, many) in
    let kept_here = subst (AreKept basin policy earlier 1) are.are (first_kept basin policy earlier 1 behind was kept) in
    let linked_here = subst (λ ks. AreStepLinks basin policy 1 one ks end) are.are linked in
    first_taken basin policy old new batch cells earlier end was behind old_made new_made values edited are
    (taken_by basin policy old earlier end are.records framed near kept_here linked_here new new_made are.alike)
    (own_taken basin policy old earlier end are.records framed near kept_here linked_here old_made)

-- ---- a spare engine behind a batch

pub comes_behind : (basin : Draft) (policy : Accepted) (old new : Inputs) (batch : Batch) (cells : List Cell) (earlier : Log)
    (was : List (Option StepRecord)) (spare given : Spare) → IsFramed (policy_in basin policy)
    → LeavesFirst basin batch cells old new was spare.behind → AreKept basin (policy_in basin policy) earlier 1 was
    → StandsIn basin policy (with_inputs [] (placings basin old)) earlier was spare → given.behind ≡ spare.behind
    → GivesAll basin new cells spare.engine given.engine → HasComeBehind basin policy new earlier was given
comes_behind basin policy old new batch cells earlier was spare given framed leaves kept stands same gives =
    let first = takes_first basin (policy_in basin policy) old new batch cells earlier stands.log was spare.behind framed
    leaves.old_made leaves.new_made leaves.values leaves.edited leaves.many leaves.untouched kept stands.before in record {
      made = gives.made policy stands.made;
      noted = subst IsSome (sym gives.noted) stands.noted;
      log = first.log;
      taken = subst (λ n. HasTakenOver basin (policy_in basin policy) new earlier (take n was) first.log n) (sym same) first.taken;
      shows = first.shows spare.engine given.engine stands.shows gives;
    }

-- brought back and given the cells, the engine of a run is a spare one
pub becomes_spare : (basin : Draft) (inputs : Inputs) (cells : List Cell) (was : List (Option StepRecord)) (behind count : ℕ) (engine : Engine)
    (back given : Spare) → count ≡ basin.control.stamps.count
    → ((policy : Accepted) → verified basin policy.blocks ≡ Ok policy → IsFramed (policy_in basin policy))
    → BringsTo basin was behind (record { engine = engine; behind = count }) back → given.behind ≡ back.behind
    → GivesAll basin inputs cells back.engine given.engine → BecomesSpare basin inputs cells was behind engine given
becomes_spare basin inputs cells was behind count engine back given count_is framed brings same gives = record {
  behind_is = same ∙ brings.behind_is;
  kept = keeps_more engine back.engine given.engine brings.kept (gives_keep basin inputs cells back.engine given.engine gives);
  comes = λ policy old batch earlier leaves kept stands.
      comes_behind basin policy old inputs batch cells earlier was back given (framed policy stands.made.fits)
      (subst (LeavesFirst basin batch cells old inputs was) (sym brings.behind_is) leaves) kept
      (brings.stands policy (with_inputs [] (placings basin old)) earlier
      (subst (λ n. StandsIn basin policy (with_inputs [] (placings basin old)) earlier was (record { engine = engine; behind = n }))
      (sym count_is) stands))
      same gives;
}

-- wherever it was brought, it can be given inputs
pub can_give : (basin : Draft) (was : List (Option StepRecord)) (behind : ℕ) (old new : Spare) → IsSpare basin was old
    → BringsTo basin was behind old new → CanReplay basin new.engine
can_give basin was behind old new is brings =
    let made = (brings.stands is.policy is.start is.end is.stands).made in record { series = made.series; notes = made.notes }

-- a session's engine stands behind all timesteps of its run
pub stands_behind_all : (basin : Draft) (policy : Accepted) (session : Session) (is : IsSessionOf basin policy session)
    → StandsIn basin policy (with_inputs [] (placings basin session.inputs)) is.log session.kept
    (record { engine = session.engine; behind = basin.control.stamps.count })
stands_behind_all basin policy session is =
    let count : ℕ = basin.control.stamps.count in
    let few : length session.kept ≤ count = let many = is.many in omega (arith, many) in record {
      made = is.made;
      noted = is.noted;
      few = let many = is.many in omega (arith, many);
      log = is.log;
      shows = is.shows;
      before = subst (λ ks. AreStepLinks basin (policy_in basin policy) 1 (with_inputs [] (placings basin session.inputs)) ks is.log)
          (sym (take_all count session.kept few)) is.linked;
      rest = subst (λ ks. AreStepLinks basin (policy_in basin policy) (count + 1) is.log ks is.log) (sym (drop_all count session.kept few)) refl;
    }

kept_untouched : (basin : Draft) (cells : List Cell) (entry : Option StepRecord) → is_untouched basin cells entry ≡ true → IsSome entry
kept_untouched basin cells None is = absurd (false≢true is)
kept_untouched basin cells (Some kept) is = refl

pub first_are_kept : (basin : Draft) (cells : List Cell) (was : List (Option StepRecord)) (behind : ℕ) → CountsUntouched basin cells was behind
    → AreKeptFrom was 0 behind
first_are_kept basin cells was behind untouched =
    λ place entry first last there. kept_untouched basin cells entry (untouched.each place entry last there)
