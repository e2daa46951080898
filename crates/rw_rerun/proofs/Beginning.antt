-- A run that begins where a batch begins: the timesteps that it doesn't touch are taken over.
use Rattle.rw_base.proofs.Common.{◌≡◌, ◌≤◌, ◌+◌, ◌∙◌, ℕ, zero, suc, false, List, [], ◌∷◌, ◌++◌, map, Contains, Option, Some, None, replicate, take}
use Rattle.rw_base.proofs.Common.{length, length-append, append-nil, append_assoc, refl, sym, ap, subst, arith}
use Rattle.std.specs.List.{flat_map}
use Rattle.std.proofs.lemmas.List.{length-replicate}
use Rattle.rw_base.specs.declared.number.Cell.{Cell}
use Rattle.rw_base.specs.declared.number.StepNo.{StepNo}
use Rattle.rw_model.specs.Draft.{Draft}
use Rattle.rw_inputs.specs.Placings.{placings}
use Rattle.rw_inputs.specs.Inputs.{Inputs}
use Rattle.rw_run.specs.Frame.{IsFramed, log_after}
use Rattle.rw_run.specs.Log.{Event, Log, cells_of, opened}
use Rattle.rw_run.specs.Next.{Policy}
use Rattle.rw_run.specs.Runs.{Leads, with_inputs, rests, standing}
use Rattle.rw_run.specs.Reuse.{AreRerun, most_kept}
use Rattle.rw_run.specs.RunOf.{lines}
use Rattle.rw_run.specs.Step.{cell_count, events_of, reached_by}
use Rattle.rw_run.specs.Timestep.{IsTimestep}
use Rattle.rw_run.specs.Waiting.{first_waiting}
use Rattle.rw_run.specs.declared.held.Held.{Held}
use Rattle.rw_run.proofs.Agains.{again}
use Rattle.rw_run.proofs.Passings.{closed_behind, nothing_of}
use Rattle.rw_record.specs.Noted.{AreHeld}
use Rattle.rw_record.specs.Record.{StepRecord}
use Rattle.rw_engine.specs.Records.{RecordsThese}
use Rattle.rw_engine.specs.Shows.{CanShow, IsBefore, Shows}
use Rattle.rw_engine.proofs.Steps.{begins_step}
use Rattle.rw_rerun.specs.Begun.{AreAlikeIn, HasTakenOver, TakesOver}
use Rattle.rw_rerun.specs.Kept.{AreKept, AreStepLinks, IsKeptAs, IsLinkOf, changed}
use Rattle.rw_rerun.specs.Session.{numbers_of_steps}
use Rattle.rw_rerun.specs.Spare.{BeginsBy}
use Rattle.rw_rerun.specs.UnderWay.{stands_at}
use Rattle.rw_rerun.specs.declared.pass.Pass.{Pass}
use Rattle.rw_rerun.specs.declared.spare.Spare.{Spare}
use Rattle.rw_rerun.proofs.Anew.{IsClosedIn, kept_again, these_again}
use Rattle.rw_rerun.proofs.Begun.{alike_behind, rests_behind}
use Rattle.rw_rerun.proofs.Keeping.{kept_more, linked_more, still_kept}
use Rattle.rw_rerun.proofs.Reusing.{is_reused, taken_over}
use Rattle.rw_rerun.proofs.Showing.{shown_behind}
use Rattle.rw_rerun.proofs.Ways.{leads_more}

-- ---- one timestep more

module _ (basin : Draft) (policy : Policy) (step last : ℕ) (one next : Log) (kept : StepRecord) (link : IsLinkOf basin policy step one kept next)
    (none : events_of step one ≡ []) where
  pub linked_in : IsClosedIn step next one link.first link.events
  linked_in =
      let facts = closed_behind basin policy step one link.first link.events link.timestep none in
      subst (λ log. IsClosedIn step log one link.first link.events) (sym link.is) (record { behind = facts.0; own = facts.1; closing = facts.2 })

  abbrev kept_there : IsKeptAs basin policy next step kept
  kept_there = record {
    keepable = record {
      closing = linked_in.closing;
      few_cells = subst (λ es. cell_count (flat_map (reached_by basin) es) ≤ most_kept) (sym linked_in.own) link.few_cells;
      few_lines = subst (λ es. length (flat_map lines es) ≤ most_kept) (sym linked_in.own) link.few_lines;
    };
    old = one;
    first = link.first;
    events = link.events;
    opening = linked_in.behind.opening;
    own = linked_in.own;
    timestep = link.timestep;
    these = link.these;
  }

  module _ (inputs : Inputs) (earlier now : Log) (all_kept : List (Option StepRecord))
      (taken : HasTakenOver basin policy inputs earlier all_kept now last)
      (next_one : step ≡ last + 1) (near : step ≤ basin.control.stamps.count) (framed : IsFramed policy)
      (was : IsKeptAs basin policy earlier step kept)
      (held : AreHeld (cells_of basin now) kept.looked) where
    abbrev pub log_on : Log
    log_on = log_after (link.first ∷ link.events) (opened step ∷ now)

    timestep_on : IsTimestep basin policy step now link.first link.events
    timestep_on =
        again basin policy step last one now link.first link.events kept.looked framed link.timestep link.these.looked held taken.stands next_one

    none_yet : (other : ℕ) → step ≤ other → events_of other now ≡ []
    none_yet other far = taken.later other (omega (arith, far, next_one))

    closed_on : IsClosedIn step log_on now link.first link.events
    closed_on =
        let facts = closed_behind basin policy step now link.first link.events timestep_on (none_yet step (omega arith)) in
        record { behind = facts.0; own = facts.1; closing = facts.2 }

    kept_on : IsKeptAs basin policy log_on step kept
    kept_on = kept_again basin policy next log_on now step kept kept_there held closed_on timestep_on

    before_on : IsBefore basin step now
    before_on = record { last = last; rest = taken.stands; next_one = next_one; exists = near }

    shown_here : CanShow basin step now
    shown_here = subst (λ s. CanShow basin s now) (sym next_one) taken.shown

    place_on : step ≡ 1 + length all_kept
    place_on = let many = taken.many in omega (arith, many, next_one)

    pub taken_on : HasTakenOver basin policy inputs earlier (all_kept ++ Some kept ∷ []) log_on step
    taken_on = record {
      many = let more = length-append all_kept (Some kept ∷ []) in let at = place_on in omega (arith, more, at);
      events = taken.events ++ opened step ∷ link.first ∷ link.events;
      leads =
          leads_more basin policy (with_inputs [] (placings basin inputs)) taken.events (opened step ∷ link.first ∷ link.events) now log_on
          taken.leads
          (begins_step basin policy (first_waiting basin now) now step before_on, timestep_on.leads);
      stands = rests_behind step link.first link.events (opened step ∷ now) timestep_on.goes;
      shown = shown_behind basin step one now link.first link.events kept link.timestep.goes link.these shown_here;
      later =
          λ other far. closed_on.behind.events other (λ same. absurd (omega (arith, far, same))) ∙ taken.later other (omega (arith, far, next_one));
      rerun = taken_over basin earlier now log_on step [] closed_on.behind (λ other far. (nothing_of other now (none_yet other far)).0) taken.rerun
          (is_reused basin policy earlier log_on now step kept was closed_on.behind.opening held);
      kept = kept_more basin policy step 1 log_on all_kept (Some kept) place_on
          (still_kept basin policy step 1 now log_on all_kept closed_on.behind (let at = place_on in omega (arith, at)) taken.kept) kept_on;
      linked =
          linked_more basin policy step 1 (with_inputs [] (placings basin inputs)) now log_on all_kept (Some kept) place_on taken.linked (record {
            first = link.first;
            events = link.events;
            timestep = timestep_on;
            shown = shown_here;
            these = these_again basin policy next log_on now step kept kept_there held;
            is = refl;
            few_cells = link.few_cells;
            few_lines = link.few_lines;
          });
    }

-- ---- all of them

alike_in : (basin : Draft) (one other : Log) (events : List Event) (step : ℕ) (records : List StepRecord) → AreAlikeIn basin one other records
    → AreAlikeIn basin (log_after events (opened step ∷ one)) (log_after events (opened step ∷ other)) records
alike_in basin one other events step [] alike = tt
alike_in basin one other events step (kept ∷ rest) alike = (
  λ one_of has. alike_behind basin events (opened step ∷ one) (opened step ∷ other) one_of.cell (alike.0 one_of has),
  alike_in basin one other events step rest alike.1,
)

-- the cells of a record are alike behind the other log, so it can be taken over there
held_there : (basin : Draft) (step : ℕ) (one other : Log) (events : List Event) (kept : StepRecord) → RecordsThese basin step one events kept
    → ((one_of : Held) → Contains kept.looked one_of → cells_of basin one one_of.cell ≡ cells_of basin other one_of.cell)
    → AreHeld (cells_of basin other) kept.looked
held_there basin step one other events kept these alike = λ one_of has. sym (alike one_of has) ∙ sym ((these.looked one_of).0 has).1

pub takes_over : (basin : Draft) (policy : Policy) (inputs : Inputs) (earlier : Log) (records : List StepRecord) (step last : ℕ) (one other end : Log)
    (all_kept : List (Option StepRecord)) → IsFramed policy → step ≡ last + 1 → last + length records ≤ basin.control.stamps.count
    → AreStepLinks basin policy step one (map (λ kept. Some kept) records) end → ((other : ℕ) → step ≤ other → events_of other one ≡ [])
    → HasTakenOver basin policy inputs earlier all_kept other last → AreKept basin policy earlier step (map (λ kept. Some kept) records)
    → AreAlikeIn basin one other records
    → TakesOver basin policy inputs earlier (all_kept ++ map (λ kept. Some kept) records) one other end (last + length records)
takes_over basin policy inputs earlier [] step last one other end all_kept framed next_one near linked none taken kept alike = record {
  log = other;
  taken = let same : last ≡ last + 0 = omega arith in
      subst (λ ks. HasTakenOver basin policy inputs earlier ks other (last + 0)) (sym (append-nil all_kept))
      (subst (HasTakenOver basin policy inputs earlier all_kept other) same taken);
  alike = λ cell same. ap (λ log. cells_of basin log cell) linked ∙ same;
}
takes_over basin policy inputs earlier (first ∷ rest) step last one other end all_kept framed next_one near linked none taken kept alike =
    let link = linked.1 in
    let held = held_there basin step one other (link.first ∷ link.events) first link.these alike.0 in
    let here : step ≤ basin.control.stamps.count = omega (arith, near, next_one) in
    let on =
    taken_on basin policy step last one linked.0 first link (none step (omega arith)) inputs earlier other all_kept taken next_one here framed
    kept.0 held in
    let behind = linked_in basin policy step last one linked.0 first link (none step (omega arith)) in
    let none_next : (other : ℕ) → step + 1 ≤ other → events_of other linked.0 ≡ [] =
    λ other far. behind.behind.events other (λ same. absurd (omega (arith, far, same))) ∙ none other (omega (arith, far)) in
    let alike_next = subst (λ log. AreAlikeIn basin log (log_after (link.first ∷ link.events) (opened step ∷ other)) rest) (sym link.is)
    (alike_in basin one other (link.first ∷ link.events) step rest alike.1) in
    let more = takes_over basin policy inputs earlier rest (step + 1) step linked.0 (log_after (link.first ∷ link.events) (opened step ∷ other)) end
    (all_kept ++ Some first ∷ []) framed refl (omega (arith, near, next_one)) linked.2 none_next on kept.1 alike_next in record {
      log = more.log;
      taken = let same : step + length rest ≡ last + suc (length rest) = omega (arith, next_one) in
          subst (λ ks. HasTakenOver basin policy inputs earlier ks more.log (last + suc (length rest)))
          (append_assoc all_kept (Some first ∷ []) (map (λ kept. Some kept) rest))
          (subst (HasTakenOver basin policy inputs earlier ((all_kept ++ Some first ∷ []) ++ map (λ kept. Some kept) rest) more.log) same more.taken);
      alike = λ cell same. more.alike cell
          (ap (λ log. cells_of basin log cell) link.is
          ∙ alike_behind basin (link.first ∷ link.events) (opened step ∷ one) (opened step ∷ other) cell same);
    }

-- ---- a run on its way

none_changed : (count : ℕ) (was : List (Option StepRecord)) → count ≤ length was → changed was (replicate count None) ≡ take count was
none_changed zero was few = refl
none_changed (suc count) [] few = absurd (omega (arith, few))
none_changed (suc count) (one ∷ was) few = ap (λ rest. one ∷ rest) (none_changed count was (omega (arith, few)))

pub begins_by : (spare : Spare) (pass : Pass) → pass.engine ≡ spare.engine → pass.changes.items ≡ replicate spare.behind None → pass.reran.items ≡ []
    → pass.over ≡ false → BeginsBy spare pass
begins_by spare pass same changes reran goes = record {
  engine = same;
  none = reran;
  unchanged = changes;
  goes = λ basin policy inputs earlier log was few shows taken.
      let now : changed was pass.changes.items ≡ take spare.behind was = ap (changed was) changes ∙ none_changed spare.behind was few in record {
        many = ap length changes ∙ length-replicate spare.behind _;
        log = log;
        events = taken.events;
        leads = taken.leads;
        shows = subst (λ engine. Shows basin engine log) (sym same) shows;
        stands = taken.stands ∙ sym (ap (λ o. stands_at o spare.behind) goes);
        shown = λ same. taken.shown;
        later = taken.later;
        rerun = subst (λ (steps : List StepNo). AreRerun basin earlier log (numbers_of_steps steps)) (sym reran) taken.rerun;
        kept = subst (AreKept basin policy log 1) (sym now) taken.kept;
        linked = subst (λ ks. AreStepLinks basin policy 1 (with_inputs [] (placings basin inputs)) ks log) (sym now) taken.linked;
      };
}
