-- A run on its way, one timestep on.
use Rattle.rw_base.proofs.Common.{◌≡◌, ◌<◌, ◌≤◌, ◌+◌, ◌∙◌, ℕ, Bool, true, false, List, [], ◌∷◌, ◌++◌, Option, Some, None, IsSome, unwrap_or, length}
use Rattle.rw_base.proofs.Common.{append_assoc, length-append, refl, sym, ap, subst, arith, false≢true, slice_get, slice_get_within}
use Rattle.rw_base.specs.declared.number.StepNo.{StepNo}
use Rattle.rw_model.specs.Draft.{Draft}
use Rattle.rw_inputs.specs.Placings.{placings}
use Rattle.rw_inputs.specs.Inputs.{Inputs}
use Rattle.rw_run.specs.Behind.{IsBehind}
use Rattle.rw_run.specs.Log.{Event, Log}
use Rattle.rw_run.specs.Next.{Policy}
use Rattle.rw_run.specs.Reuse.{AreRerun}
use Rattle.rw_run.specs.Runs.{IsOver, IsRun, Leads, with_inputs, rests, standing}
use Rattle.rw_run.specs.Step.{before_closing, before_opening, events_of}
use Rattle.rw_record.specs.Record.{StepRecord}
use Rattle.rw_engine.specs.Shows.{CanShow, IsBefore, Shows}
use Rattle.rw_rerun.specs.Kept.{AreKept, AreStepLinks, IsKeptOrNot, IsStepLink, changed}
use Rattle.rw_rerun.specs.Session.{numbers_of_steps}
use Rattle.rw_rerun.specs.UnderWay.{GrowsChanges, IsUnderWay, stands_at}
use Rattle.rw_rerun.specs.declared.pass.Pass.{Pass}
use Rattle.rw_rerun.proofs.Keeping.{changed_more, kept_more, length_changed, linked_more, still_kept}

pub leads_more : (basin : Draft) (policy : Policy) (old : Log) (first last : List Event) (mid new : Log) → Leads basin policy old first mid
    → Leads basin policy mid last new → Leads basin policy old (first ++ last) new
leads_more basin policy old [] last mid new one other = subst (λ log. Leads basin policy log last new) one other
leads_more basin policy old (event ∷ first) last mid new one other = (one.0, leads_more basin policy (event ∷ old) first last mid new one.1 other)

-- nothing is kept of a timestep that wasn't closed
pub not_kept : (basin : Draft) (policy : Policy) (step : ℕ) (log : Log) → before_closing step log ≡ None → IsKeptOrNot basin policy log step None
not_kept basin policy step log none = λ keepable. absurd (false≢true (subst IsSome none keepable.closing))

pub numbers_more : (steps : List StepNo) (step : StepNo) → numbers_of_steps (steps ++ step ∷ []) ≡ numbers_of_steps steps ++ step.0 ∷ []
numbers_more [] step = refl
numbers_more (first ∷ steps) step = ap (λ rest. first.0 ∷ rest) (numbers_more steps step)

pub grows_on : (old mid new : Pass) → GrowsChanges old mid → GrowsChanges mid new → GrowsChanges old new
grows_on old mid new first more = (
  first.0 ++ more.0,
  more.1 ∙ ap (λ changes. changes ++ more.0) first.1 ∙ append_assoc old.changes.items first.0 more.0,
)

module _ (basin : Draft) (policy : Policy) (inputs : Inputs) (earlier : Log) (was : List (Option StepRecord)) (old new : Pass) (last step : ℕ)
    (entry : Option StepRecord) (change : Option (Option StepRecord)) (way : IsUnderWay basin policy inputs earlier was old last)
    (next_one : step ≡ last + 1)
    (there : slice_get was last ≡ Some entry) (changes : new.changes.items ≡ old.changes.items ++ change ∷ []) where
  within : last < length was
  within = slice_get_within was last entry there

  so_many : length new.changes.items ≡ step
  so_many = let all = ap length changes in let more = length-append old.changes.items (change ∷ []) in let were =
      way.many in omega (arith, all, more, were, next_one)

  kept_so_far : length (changed was old.changes.items) ≡ last
  kept_so_far = length_changed was old.changes.items (let near = within in let were = way.many in omega (arith, near, were)) ∙ way.many

  changed_now : changed was new.changes.items ≡ changed was old.changes.items ++ unwrap_or change entry ∷ []
  changed_now = ap (changed was) changes ∙ changed_more was old.changes.items entry change (ap (slice_get was) way.many ∙ there)

  linked_now : (log : Log) → IsStepLink basin policy step way.log (unwrap_or change entry) log
      → AreStepLinks basin policy 1 (with_inputs [] (placings basin inputs)) (changed was new.changes.items) log
  linked_now log link =
      let many = kept_so_far in
      subst (λ kept. AreStepLinks basin policy 1 (with_inputs [] (placings basin inputs)) kept log) (sym changed_now)
      (linked_more basin policy step 1 (with_inputs [] (placings basin inputs)) way.log log (changed was old.changes.items) (unwrap_or change entry)
      (omega (arith, many, next_one)) way.linked link)

  -- one timestep more was passed
  pub one_on : (log : Log) (more : List Event) → Leads basin policy way.log more log → Shows basin new.engine log
      → standing log ≡ stands_at new.over step
      → IsBehind step way.log log → AreRerun basin earlier log (numbers_of_steps new.reran.items)
      → IsKeptOrNot basin policy log step (unwrap_or change entry)
      → IsStepLink basin policy step way.log (unwrap_or change entry) log → (new.over ≡ false → CanShow basin (step + 1) log)
      → IsUnderWay basin policy inputs earlier was new step
  one_on log more leads shows stands behind rerun kept link could = record {
    many = so_many;
    log = log;
    events = way.events ++ more;
    leads = leads_more basin policy (with_inputs [] (placings basin inputs)) way.events more way.log log way.leads leads;
    shows = shows;
    stands = stands;
    shown = could;
    later = λ other far. behind.events other (λ same. absurd (omega (arith, far, same))) ∙ way.later other (omega (arith, far, next_one));
    rerun = rerun;
    kept = let many = kept_so_far in
        subst (AreKept basin policy log 1) (sym changed_now)
        (kept_more basin policy step 1 log (changed was old.changes.items) (unwrap_or change entry) (omega (arith, many, next_one))
        (still_kept basin policy step 1 way.log log (changed was old.changes.items) behind (omega (arith, many, next_one)) way.kept) kept);
    linked = linked_now log link;
  }

  -- behind a fault nothing happens
  pub none_on : old.over ≡ true → new.over ≡ true → new.engine ≡ old.engine → new.reran.items ≡ old.reran.items → before_closing step way.log ≡ None
      → change ≡ Some None → IsUnderWay basin policy inputs earlier was new step
  none_on was_over is_over engine reran unclosed nothing = record {
    many = so_many;
    log = way.log;
    events = way.events;
    leads = way.leads;
    shows = subst (λ e. Shows basin e way.log) (sym engine) way.shows;
    stands = way.stands ∙ ap (λ o. stands_at o last) was_over ∙ sym (ap (λ o. stands_at o step) is_over);
    shown = λ ends. absurd (false≢true (sym ends ∙ is_over));
    later = λ other far. way.later other (omega (arith, far, next_one));
    rerun = subst (λ (steps : List StepNo). AreRerun basin earlier way.log (numbers_of_steps steps)) (sym reran) way.rerun;
    kept = let many = kept_so_far in
        subst (AreKept basin policy way.log 1) (sym changed_now)
        (kept_more basin policy step 1 way.log (changed was old.changes.items) (unwrap_or change entry) (omega (arith, many, next_one)) way.kept
        (subst (λ c. IsKeptOrNot basin policy way.log step (unwrap_or c entry)) (sym nothing) (not_kept basin policy step way.log unclosed)));
    linked = linked_now way.log (subst (λ c. IsStepLink basin policy step way.log (unwrap_or c entry) way.log) (sym nothing) tt);
  }

  -- the timestep may be passed
  pub before_next : old.over ≡ false → step ≤ basin.control.stamps.count → IsBefore basin step way.log
  before_next goes near = record {
    last = last;
    rest = way.stands ∙ ap (λ o. stands_at o last) goes;
    next_one = next_one;
    exists = near;
  }

  pub shown_next : old.over ≡ false → CanShow basin step way.log
  shown_next goes = subst (λ s. CanShow basin s way.log) (sym next_one) (way.shown goes)

  pub none_open : (other : ℕ) → step ≤ other → events_of other way.log ≡ []
  none_open other far = way.later other (omega (arith, far, next_one))

-- ---- the first one, and the last

pub first_way : (basin : Draft) (policy : Policy) (inputs : Inputs) (earlier : Log) (was : List (Option StepRecord)) (pass : Pass)
    → pass.changes.items ≡ [] → pass.reran.items ≡ [] → pass.over ≡ false → Shows basin pass.engine (with_inputs [] (placings basin inputs))
    → standing (with_inputs [] (placings basin inputs)) ≡ rests 0
    → ((step : ℕ) → events_of step (with_inputs [] (placings basin inputs)) ≡ [])
    → ((step : ℕ) → before_opening step (with_inputs [] (placings basin inputs)) ≡ None)
    → CanShow basin 1 (with_inputs [] (placings basin inputs)) → IsUnderWay basin policy inputs earlier was pass 0
first_way basin policy inputs earlier was pass changes reran goes shows stands none unopened could = record {
  many = ap length changes;
  log = with_inputs [] (placings basin inputs);
  events = [];
  leads = refl;
  shows = shows;
  stands = stands ∙ sym (ap (λ o. stands_at o 0) goes);
  shown = λ same. could;
  later = λ other far. none other;
  rerun = subst (λ steps. AreRerun basin earlier (with_inputs [] (placings basin inputs)) (numbers_of_steps steps)) (sym reran) (record {
    rising = tt;
    those = λ step. (
      λ (k, less, same). absurd (omega (arith, less)),
      λ is. absurd (false≢true (subst IsSome (unopened step) is.0)),
    );
  });
  kept = subst (λ cs. AreKept basin policy (with_inputs [] (placings basin inputs)) 1 (changed was cs)) (sym changes) tt;
  linked =
      subst (λ cs. AreStepLinks basin policy 1 (with_inputs [] (placings basin inputs)) (changed was cs) (with_inputs [] (placings basin inputs)))
      (sym changes) refl;
}

over_by : (basin : Draft) (is_over : Bool) → IsOver basin (stands_at is_over basin.control.stamps.count)
over_by basin false = omega arith
over_by basin true = tt

-- behind the last timestep the run is whole
pub whole_way : (basin : Draft) (policy : Policy) (inputs : Inputs) (earlier : Log) (was : List (Option StepRecord)) (pass : Pass)
    → (way : IsUnderWay basin policy inputs earlier was pass basin.control.stamps.count) → IsRun basin policy (placings basin inputs) way.log
whole_way basin policy inputs earlier was pass way = record {
  events = way.events;
  leads = way.leads;
  end = subst (IsOver basin) (sym way.stands) (over_by basin pass.over);
}
