-- A spare engine, moved along the timesteps of a run.
use Rattle.rw_base.proofs.Common.{◌≡◌, ◌≤◌, ◌+◌, ◌-◌, ◌∙◌, ℕ, zero, suc, IsFalse, List, [], ◌∷◌, ◌++◌, map, append-nil, append_assoc, length, Ok}
use Rattle.rw_base.proofs.Common.{Option, Some, drop, take, ap, refl, sym, subst, arith, slice_get, slice_get_within, get_or_from_slice_get}
use Rattle.std.proofs.lemmas.List.{drop_more, take_more}
use Rattle.std.specs.List.{flat_map}
use Rattle.rw_base.specs.declared.number.Cell.{Cell}
use Rattle.rw_model.specs.Draft.{Draft}
use Rattle.rw_series.specs.Series.{held}
use Rattle.rw_run.specs.Frame.{IsFramed, log_after}
use Rattle.rw_run.specs.Log.{Log, cells_of, closed, opened}
use Rattle.rw_run.specs.Next.{Policy}
use Rattle.rw_run.specs.RunOf.{lines, trace_of}
use Rattle.rw_run.specs.Runs.{Leads}
use Rattle.rw_run.specs.Timestep.{IsTimestep}
use Rattle.rw_run.proofs.Passings.{one_timestep}
use Rattle.rw_record.specs.Noted.{AreHeld, is_noted}
use Rattle.rw_record.specs.Record.{StepRecord}
use Rattle.rw_engine.specs.Passing.{ComesBack, PassesAgain, ReplaysKept, TakesBack}
use Rattle.rw_engine.specs.Records.{Records, RecordsThese}
use Rattle.rw_engine.specs.Shows.{CanShow, IsBefore, Shows}
use Rattle.rpl_verify.specs.Verified.{Accepted, verified}
use Rattle.rw_engine.proofs.Backs.{taken}
use Rattle.rw_engine.proofs.Steps.{trace_after}
use Rattle.rw_rules.specs.Rules.{policy_in}
use Rattle.rw_rerun.specs.Begun.{AreWithout}
use Rattle.rw_rerun.specs.Kept.{AreStepLinks, IsLinkOf}
use Rattle.rw_rerun.specs.Spare.{BringsTo, StandsIn}
use Rattle.rw_rerun.specs.UnderWay.{IsReplayable}
use Rattle.rw_rerun.specs.declared.spare.Spare.{Spare}
use Rattle.rw_rerun.proofs.Keeping.{SplitsAt, linked_more, split_back}

-- ---- what a kept timestep leaves

link_unmoved : (basin : Draft) (policy : Policy) (step : ℕ) (log next : Log) (kept : StepRecord) (cell : Cell)
    → IsLinkOf basin policy step log kept next
    → IsFalse (is_noted kept.looked cell) → cells_of basin next cell ≡ cells_of basin log cell
link_unmoved basin policy step log next kept cell link none =
    ap (λ l. cells_of basin l cell) link.is
    ∙ (taken basin policy step log link.first link.events kept.looked link.timestep link.these.looked).same cell none

pub unmoved_in : (basin : Draft) (policy : Policy) (records : List StepRecord) (step : ℕ) (log end : Log) (cell : Cell)
    → AreStepLinks basin policy step log (map (λ kept. Some kept) records) end → AreWithout cell records
    → cells_of basin end cell ≡ cells_of basin log cell
unmoved_in basin policy [] step log end cell linked without = ap (λ l. cells_of basin l cell) linked
unmoved_in basin policy (first ∷ rest) step log end cell linked without =
    unmoved_in basin policy rest (step + 1) linked.0 end cell linked.2 without.1
    ∙ link_unmoved basin policy step log linked.0 first cell linked.1 without.0

pub told_by : (basin : Draft) (policy : Policy) (records : List StepRecord) (step : ℕ) (log end : Log)
    → AreStepLinks basin policy step log (map (λ kept. Some kept) records) end
    → trace_of end ≡ trace_of log ++ flat_map (λ (kept : StepRecord). kept.lines) records
told_by basin policy [] step log end linked = ap trace_of linked ∙ sym (append-nil (trace_of log))
told_by basin policy (first ∷ rest) step log end linked =
    let link : IsLinkOf basin policy step log first linked.0 = linked.1 in
    let here : trace_of linked.0 ≡ trace_of log ++ first.lines =
    ap trace_of link.is ∙ trace_after (link.first ∷ link.events) (opened step ∷ log)
    ∙ append_assoc (trace_of log) (lines (opened step)) (flat_map lines (link.first ∷ link.events))
    ∙ ap (λ told. trace_of log ++ told) (sym link.these.lines_are) in
    told_by basin policy rest (step + 1) linked.0 end linked.2
    ∙ ap (λ told. told ++ flat_map (λ (kept : StepRecord). kept.lines) rest) here
    ∙ append_assoc (trace_of log) first.lines (flat_map (λ (kept : StepRecord). kept.lines) rest)

-- ---- one timestep back

-- by the record of the timestep behind which it stands
link_back : (basin : Draft) (policy : Policy) (step : ℕ) (mid log : Log) (kept : StepRecord) (old new : Spare)
    → IsLinkOf basin policy step mid kept log
    → TakesBack basin kept old.engine new.engine → Shows basin old.engine log → ComesBack basin mid old.engine new.engine
link_back basin policy step mid log kept old new link takes shows =
    let at = sym link.these.step_is in
    takes.back policy mid link.first link.events (subst (λ s. IsTimestep basin policy s mid link.first link.events) at link.timestep)
    (subst (λ s. RecordsThese basin s mid (link.first ∷ link.events) kept) at link.these) (subst (λ s. CanShow basin s mid) at link.shown)
    (subst (λ s. Shows basin old.engine (log_after (link.first ∷ link.events) (opened s ∷ mid))) at (subst (Shows basin old.engine) link.is shows))

pub goes_back : (basin : Draft) (was : List (Option StepRecord)) (old new : Spare) (kept : StepRecord) → 1 ≤ old.behind → new.behind ≡ old.behind - 1
    → slice_get was (old.behind - 1) ≡ Some (Some kept) → TakesBack basin kept old.engine new.engine → BringsTo basin was (old.behind - 1) old new
goes_back basin was old new kept some is there takes = record {
  behind_is = is;
  kept = takes.keeps;
  stands = λ policy start end stands.
      let count : ℕ = old.behind - 1 in
      let more : old.behind ≡ suc count = omega (arith, some) in
      let split = split_back basin (policy_in basin policy) 1 old.behind start stands.log end was count (Some kept) (omega (arith, some)) there
      (subst (λ n. AreStepLinks basin (policy_in basin policy) 1 start (take n was) stands.log) more stands.before)
      (subst (λ n. AreStepLinks basin (policy_in basin policy) (old.behind + 1) stands.log (drop n was) end) more stands.rest) in
      let back = link_back basin (policy_in basin policy) old.behind split.mid stands.log kept old new split.link takes stands.shows in
      let next_one : old.behind ≡ new.behind + 1 = omega (arith, is, some) in record {
        made = back.made policy stands.made;
        noted = takes.keeps.noted ∙ stands.noted;
        few = let few = stands.few in omega (arith, is, few);
        log = split.mid;
        shows = back.shows;
        before = subst (λ n. AreStepLinks basin (policy_in basin policy) 1 start (take n was) split.mid) (sym is) split.before;
        rest = subst (λ n. AreStepLinks basin (policy_in basin policy) n split.mid (drop new.behind was) end) next_one
            (subst (λ n. AreStepLinks basin (policy_in basin policy) old.behind split.mid (drop n was) end) (sym is) split.rest);
      };
}

-- ---- one timestep on

length_taken : (count : ℕ) (was : List (Option StepRecord)) → count ≤ length was → length (take count was) ≡ count
length_taken zero was few = refl
length_taken (suc count) [] few = absurd (omega (arith, few))
length_taken (suc count) (one ∷ was) few = ap suc (length_taken count was (omega (arith, few)))

link_on : (basin : Draft) (policy : Policy) (step : ℕ) (log next : Log) (kept : StepRecord) (old new : Spare) (done : Unit {0}) → IsFramed policy
    → step ≤ basin.control.stamps.count → IsLinkOf basin policy step log kept next → ReplaysKept basin kept old.engine new.engine (Ok done)
    → Shows basin old.engine log → Shows basin new.engine next
link_on basin policy step log next kept old new done framed exists link replays shows =
    let at = sym link.these.step_is in
    let records : Records basin policy kept = record {
      old = log;
      first = link.first;
      events = link.events;
      timestep = subst (λ s. IsTimestep basin policy s log link.first link.events) at link.timestep;
      these = subst (λ s. RecordsThese basin s log (link.first ∷ link.events) kept) at link.these;
    } in
    let before : IsBefore basin step log =
    record { last = link.timestep.last; rest = link.timestep.rest; next_one = link.timestep.next_one; exists = exists } in
    let alike : AreHeld (held old.engine.series) kept.looked = λ one has. shows.cells one.cell ∙ sym ((link.these.looked one).0 has).1 in
    let passes : PassesAgain basin policy log new.engine step =
    subst (λ s. PassesAgain basin policy log new.engine s) link.these.step_is
    (replays.passes policy log framed records shows (subst (λ s. IsBefore basin s log) at before) alike) in
    let ends : (passes.last ∷ passes.before) ≡ closed step ∷ passes.before = ap (λ e. e ∷ passes.before) passes.ends in
    let same : (passes.last ∷ passes.before) ≡ log_after (link.first ∷ link.events) (opened step ∷ log) =
    ends ∙ one_timestep basin policy step link.timestep.last log passes.before passes.events link.events link.first link.timestep.rest
    link.timestep.next_one
    passes.within (subst (Leads basin policy log passes.events) ends passes.leads) link.timestep in
    subst (Shows basin new.engine) (same ∙ sym link.is) passes.shows

pub goes_on : (basin : Draft) (was : List (Option StepRecord)) (next : ℕ) (old new : Spare) (kept : StepRecord) (done : Unit {0})
    → ((policy : Accepted) → verified basin policy.blocks ≡ Ok policy → IsFramed (policy_in basin policy))
    → old.behind + 1 ≤ basin.control.stamps.count
    → next ≡ old.behind + 1 → new.behind ≡ next → slice_get was old.behind ≡ Some (Some kept) → ReplaysKept basin kept old.engine new.engine (Ok done)
    → BringsTo basin was next old new
goes_on basin was next old new kept done framed exists on at there replays = record {
  behind_is = at;
  kept = replays.keeps;
  stands = λ policy start end stands.
      let in_run = policy_in basin policy in
      let step : ℕ = old.behind + 1 in
      let is : new.behind ≡ old.behind + 1 = at ∙ on in
      let within = slice_get_within was old.behind (Some kept) there in
      let here = get_or_from_slice_get was old.behind (Some kept) (Some kept) there in
      let linked : AreStepLinks basin in_run step stands.log (Some kept ∷ drop step was) end =
      subst (λ ks. AreStepLinks basin in_run step stands.log ks end)
      (drop_more was old.behind (Some kept) within ∙ ap (λ (k : Option StepRecord). k ∷ drop step was) here) stands.rest in
      let many : length (take old.behind was) ≡ old.behind = length_taken old.behind was (omega (arith, within)) in record {
        made = replays.made policy stands.made;
        noted = replays.keeps.noted ∙ stands.noted;
        few = omega (arith, is, within);
        log = linked.0;
        shows = link_on basin in_run step stands.log linked.0 kept old new done (framed policy stands.made.fits) exists linked.1 replays stands.shows;
        before = subst (λ n. AreStepLinks basin in_run 1 start (take n was) linked.0) (sym is)
            (subst (λ ks. AreStepLinks basin in_run 1 start ks linked.0)
            (sym (take_more was old.behind (Some kept) within ∙ ap (λ (k : Option StepRecord). take old.behind was ++ k ∷ []) here))
            (linked_more basin in_run step 1 start stands.log linked.0 (take old.behind was) (Some kept) (omega (arith, many)) stands.before
            linked.1));
        rest = subst (λ n. AreStepLinks basin in_run (n + 1) linked.0 (drop n was) end) (sym is) linked.2;
      };
}

pub replays_on : (basin : Draft) (policy : Accepted) (start end : Log) (was : List (Option StepRecord)) (spare : Spare) (kept : StepRecord)
    → StandsIn basin policy start end was spare → slice_get was spare.behind ≡ Some (Some kept) → IsReplayable basin (spare.behind + 1) kept
replays_on basin policy start end was spare kept stands there =
    let within = slice_get_within was spare.behind (Some kept) there in
    let here = get_or_from_slice_get was spare.behind (Some kept) (Some kept) there in
    let linked : AreStepLinks basin (policy_in basin policy) (spare.behind + 1) stands.log (Some kept ∷ drop (spare.behind + 1) was) end =
    subst (λ ks. AreStepLinks basin (policy_in basin policy) (spare.behind + 1) stands.log ks end)
    (drop_more was spare.behind (Some kept) within ∙ ap (λ (k : Option StepRecord). k ∷ drop (spare.behind + 1) was) here) stands.rest in
    let link : IsLinkOf basin (policy_in basin policy) (spare.behind + 1) stands.log kept linked.0 = linked.1 in
    record { step_is = link.these.step_is; can = link.these.can }
