-- The next run of a session, and the spare engine behind it.
use Rattle.rw_base.proofs.Common.{◌≡◌, ◌≤◌, ◌+◌, ◌++◌, ◌∙◌, ℕ, List, [], Err, Ok, Result, Option, Some, None, IfOk, IfSome, length, map, take, drop}
use Rattle.rw_base.proofs.Common.{refl, sym, ap, subst, arith}
use Rattle.std.specs.Prelude.{Bool, is_some}
use Rattle.rw_base.specs.declared.memory.NoMemory.{NoMemory}
use Rattle.rw_base.specs.declared.number.Cell.{Cell}
use Rattle.rw_model.specs.Draft.{Draft}
use Rattle.rw_inputs.specs.Edits.{Batch, after_batch}
use Rattle.rw_inputs.specs.Placings.{placings}
use Rattle.rw_inputs.specs.Inputs.{Inputs, IsInputsOf, value_at}
use Rattle.rw_run.specs.Frame.{IsFramed}
use Rattle.rw_run.specs.Log.{Log}
use Rattle.rw_run.specs.Next.{Policy}
use Rattle.rw_run.specs.Runs.{with_inputs}
use Rattle.rw_run.proofs.OneRun.{one_run}
use Rattle.rw_record.specs.Record.{StepRecord}
use Rattle.rw_engine.specs.Engine.{Engine}
use Rattle.rw_engine.specs.Shows.{KeepsOn, Shows}
use Rattle.rpl_verify.specs.Verified.{Accepted}
use Rattle.rw_rules.specs.Rules.{policy_in}
use Rattle.rw_rerun.specs.Begun.{HasTakenOver}
use Rattle.rw_rerun.specs.Edited.{AreEdited, BecomesSpare, LeavesFirst}
use Rattle.rw_rerun.specs.Kept.{AreKept, AreStepLinks, changed}
use Rattle.rw_rerun.specs.Next.{BeginsReady, IsNext, PassesBehind, PassesNext, StayFirst}
use Rattle.rw_rerun.specs.Session.{Applies, HoldAsBefore, IsSessionOf, Session}
use Rattle.rw_rerun.specs.Spare.{BeginsBy, IsSpare, IsSpareIn, MayBeSpare, StandsIn}
use Rattle.rw_rerun.specs.Touched.{CountsUntouched}
use Rattle.rw_rerun.specs.UnderWay.{HandsOn, IsPassOf, IsUnderWay, PassesAll}
use Rattle.rw_rerun.specs.declared.pass.Pass.{Pass}
use Rattle.rw_rerun.specs.declared.spare.Spare.{Spare}
use Rattle.rw_rerun.proofs.Gives.{gives_keep, keeps_between, keeps_more}
use Rattle.rw_rerun.proofs.Keeping.{all_known, known_records, split_at, stay_first}
use Rattle.rw_rerun.proofs.Sessions.{applies, session_behind}
use Rattle.rw_rerun.proofs.Taken.{comes_behind, first_are_kept, same_end, stands_behind_all}
use Rattle.rw_rerun.proofs.Ways.{whole_way}

-- a call comes from behind the timesteps that a spare engine has taken over behind all, and counts those that it runs
record PassesFrom (basin : Draft) (policy : Accepted) (was : List (Option StepRecord)) (spare : Spare) (before after : ℕ) (result : Result Pass NoMemory) : Type 0 where
  pub made : IfOk result (λ pass. IsPassOf basin policy pass)
  pub kept : IfOk result (λ pass. KeepsOn spare.engine pass.engine)
  pub goes : (inputs : Inputs) (earlier log : Log) → AreKept basin (policy_in basin policy) earlier 1 was → Shows basin spare.engine log
      → HasTakenOver basin (policy_in basin policy) inputs earlier (take spare.behind was) log spare.behind
      → IfOk result (λ pass. IsUnderWay basin (policy_in basin policy) inputs earlier was pass basin.control.stamps.count)
  pub stay : IfOk result (StayFirst was spare.behind)
  pub each : IfOk result (λ pass. after ≡ before + length pass.reran.items)
  pub rises : before ≤ after
  pub few : after ≤ before + basin.control.stamps.count

-- the other timesteps are passed, one by one
passes_from : (basin : Draft) (policy : Accepted) (was : List (Option StepRecord)) (spare : Spare) (first : Pass) (before after : ℕ)
    (result : Result Pass NoMemory)
    → spare.behind ≤ length was → BeginsBy spare first → HandsOn basin policy was spare.behind first before after result
    → PassesFrom basin policy was spare before after result
passes_from basin policy was spare first before after (Err why) near begins ends = record {
  made = tt;
  kept = tt;
  goes = λ inputs earlier log kept shows taken. tt;
  stay = tt;
  each = tt;
  rises = ends.0;
  few = ends.1;
}
passes_from basin policy was spare first before after (Ok last) near begins rest =
    let in_run = policy_in basin policy in
    let more = rest.grows in
    let none = ap length begins.none in
    let counted = rest.each in record {
      made = rest.made;
      kept = subst (λ (engine : Engine). KeepsOn engine last.engine) begins.engine rest.kept;
      goes = λ inputs earlier log kept shows taken. rest.goes inputs earlier kept (begins.goes basin in_run inputs earlier log was near shows taken);
      stay = ap (λ changes. take spare.behind (changed was changes)) (more.1 ∙ ap (λ changes. changes ++ more.0) begins.unchanged)
          ∙ stay_first was spare.behind more.0 near;
      each = omega (arith, none, counted);
      rises = rest.rises;
      few = rest.few;
    }

-- and from the first one on
pub passes_all : (basin : Draft) (policy : Accepted) (inputs : Inputs) (traced : Bool) (was : List (Option StepRecord)) (first : Pass)
    (before after : ℕ)
    (result : Result Pass NoMemory) → is_some first.engine.trace ≡ traced → first.reran.items ≡ []
    → ((earlier : Log) → IsUnderWay basin (policy_in basin policy) inputs earlier was first 0)
    → HandsOn basin policy was 0 first before after result → PassesAll basin policy inputs traced was before after result
passes_all basin policy inputs traced was first before after (Err why) told none way ends =
    record { made = tt; kept = tt; goes = λ earlier kept. tt; each = tt; rises = ends.0; few = ends.1 }
passes_all basin policy inputs traced was first before after (Ok last) told none way rest =
    let none = ap length none in
    let counted = rest.each in record {
      made = rest.made;
      kept = rest.kept.trace ∙ told;
      goes = λ earlier kept. rest.goes inputs earlier kept (way earlier);
      each = omega (arith, none, counted);
      rises = rest.rises;
      few = rest.few;
    }

-- by a spare engine that was made ready
stays_first : (was : List (Option StepRecord)) (behind other : ℕ) (result : Result Pass NoMemory) → other ≡ behind → IfOk result (StayFirst was other)
    → IfOk result (StayFirst was behind)
stays_first was behind other (Err fault) same stay = tt
stays_first was behind other (Ok pass) same stay = subst (λ n. StayFirst was n pass) same stay

kept_first : (one other : Engine) (result : Result Pass NoMemory) → KeepsOn one other → IfOk result (λ pass. KeepsOn other pass.engine)
    → IfOk result (λ pass. KeepsOn one pass.engine)
kept_first one other (Err fault) first kept = tt
kept_first one other (Ok pass) first kept = keeps_more one other pass.engine first kept

pub passes_behind : (basin : Draft) (policy : Accepted) (inputs : Inputs) (cells : List Cell) (was : List (Option StepRecord)) (behind : ℕ)
    (old : Spare) (first : Pass)
    (before after : ℕ) (result : Result Pass NoMemory) → IsFramed (policy_in basin policy) → behind ≤ length was
    → BeginsReady basin inputs cells was behind old first → HandsOn basin policy was behind first before after result
    → PassesBehind basin policy inputs cells was behind old before after result
passes_behind basin policy inputs cells was behind old first before after result framed near begins hands =
    let in_run = policy_in basin policy in
    let new = begins.new in
    let ready = begins.ready in
    let at : ready.mid.behind ≡ behind = ready.brings.behind_is in
    let there : new.behind ≡ behind = ready.same ∙ at in
    let passes : PassesFrom basin policy was new before after result =
    passes_from basin policy was new first before after result (subst (λ n. n ≤ length was) (sym there) near) begins.begins
    (subst (λ n. HandsOn basin policy was n first before after result) (sym there) hands) in record {
      made = passes.made;
      kept =
          kept_first old.engine new.engine result (keeps_more old.engine ready.mid.engine new.engine ready.brings.kept
          (gives_keep basin inputs cells ready.mid.engine new.engine ready.gives)) passes.kept;
      goes = λ given batch earlier leaves kept stands.
          let comes = comes_behind basin policy given inputs batch cells earlier was ready.mid new framed
          (subst (LeavesFirst basin batch cells given inputs was) (sym at) leaves) kept
          (ready.brings.stands policy (with_inputs [] (placings basin given)) earlier stands) ready.same ready.gives in
          passes.goes inputs earlier comes.log kept comes.shows comes.taken;
      stay = stays_first was behind new.behind result there passes.stay;
      each = passes.each;
      rises = passes.rises;
      few = passes.few;
    }

-- ---- the next run of a session

-- what its state keeps of the spare engine
found_spare : (basin : Draft) (policy : Accepted) (session : Session) (is : IsSessionOf basin policy session) (found : Option Spare)
    → MayBeSpare session found
    → IfSome found (IsSpareIn basin policy session is.log)
found_spare basin policy session is found may =
    let here : (same : IsSessionOf session.basin policy session) × (same.log ≡ is.log) =
    subst (λ b. (same : IsSessionOf b policy session) × (same.log ≡ is.log)) (sym is.of_basin) (is, refl) in
    let there : (same : IsSessionOf session.basin session.policy session) × (same.log ≡ is.log) =
    subst (λ p. (same : IsSessionOf session.basin p session) × (same.log ≡ is.log)) (sym is.by_policy) here in
    subst (λ b. IfSome found (IsSpareIn b policy session is.log)) is.of_basin
    (subst (λ p. IfSome found (IsSpareIn session.basin p session is.log)) is.by_policy
    (subst (λ log. IfSome found (IsSpareIn session.basin session.policy session log)) there.1 (may there.0)))

pub spare_ready : (basin : Draft) (policy : Accepted) (session seen : Session) (is : IsSessionOf basin policy session) (kept found : Option Spare)
    (spare : Spare)
    (traced : Bool) → seen ≡ session → traced ≡ is_some seen.engine.trace → MayBeSpare seen kept → found ≡ kept
    → ((one : Session) (there : IsSessionOf basin policy one) → one.inputs ≡ seen.inputs → is_some one.engine.trace ≡ traced
    → IfSome found (IsSpareIn basin policy one there.log)
    → IsSpareIn basin policy one there.log spare) → IsSpareIn basin policy session is.log spare
spare_ready basin policy session seen is kept found spare traced same told may was ready =
    ready session is (sym (ap (λ (s : Session). s.inputs) same)) (sym (ap (λ (s : Session). is_some s.engine.trace) same) ∙ sym told)
    (subst (λ one. IfSome one (IsSpareIn basin policy session is.log)) (sym was)
    (found_spare basin policy session is kept (subst (λ (s : Session). MayBeSpare s kept) same may)))

pub passes_next : (basin : Draft) (policy : Accepted) (session : Session) (inputs : Inputs) (cells : List Cell) (behind : ℕ)
    (was : List (Option StepRecord))
    (spare : Spare) (before after : ℕ) (result : Result Pass NoMemory) (is : IsSessionOf basin policy session)
    → IsSpareIn basin policy session is.log spare
    → session.kept ≡ was → PassesBehind basin policy inputs cells was behind spare before after result
    → PassesNext basin policy session inputs cells behind before after result
passes_next basin policy session inputs cells behind was spare before after (Err fault) is stands lent passes = record {
  next = λ batch leaves. tt;
  each = tt;
  rises = passes.rises;
  few = passes.few;
}
passes_next basin policy session inputs cells behind was spare before after (Ok pass) is stands lent passes =
    let there : PassesBehind basin policy inputs cells session.kept behind spare before after (Ok pass) =
    subst (λ kept. PassesBehind basin policy inputs cells kept behind spare before after (Ok pass)) (sym lent) passes in record {
      next = λ batch leaves. record {
        is = is;
        batch = batch;
        leaves = leaves;
        made = there.made;
        kept = keeps_more session.engine spare.engine pass.engine stands.kept there.kept;
        way = there.goes session.inputs batch is.log leaves is.kept stands.stands;
        stay = there.stay;
      };
      each = passes.each;
      rises = passes.rises;
      few = passes.few;
    }

pub leaves_first : (basin : Draft) (policy : Accepted) (session : Session) (batch : Batch) (inputs : Inputs) (given cells : List Cell) (behind : ℕ)
    (was : List (Option StepRecord)) → IsSessionOf basin policy session → value_at inputs ≡ after_batch batch (value_at session.inputs)
    → IsInputsOf basin inputs
    → AreEdited basin batch session.inputs given → given ≡ cells → session.kept ≡ was → CountsUntouched basin cells was behind
    → LeavesFirst basin batch cells session.inputs inputs session.kept behind
leaves_first basin policy session batch inputs given cells behind was is values made edited same lent untouched = record {
  old_made = is.given;
  new_made = made;
  values = values;
  edited = subst (AreEdited basin batch session.inputs) same edited;
  many = is.many;
  untouched = subst (λ kept. CountsUntouched basin cells kept behind) (sym lent) untouched;
}

pub applies_next : (basin : Draft) (policy : Accepted) (session old new : Session) (batch : Batch) (inputs : Inputs) (cells : List Cell) (behind : ℕ)
    (pass : Pass)
    (before after : ℕ) → PassesNext basin policy session inputs cells behind before after (Ok pass)
    → LeavesFirst basin batch cells session.inputs inputs session.kept behind → old ≡ session
    → new ≡ session_behind old.basin old.policy inputs old.kept pass new.same → HoldAsBefore old new → Applies basin policy batch session new
applies_next basin policy session old new batch inputs cells behind pass before after passes leaves same is held_before =
    let next = passes.next batch leaves in
    let whole : new ≡ session_behind session.basin session.policy inputs session.kept pass new.same =
    is ∙ ap (λ (one : Session). session_behind one.basin one.policy inputs one.kept pass new.same) same in
    subst (Applies basin policy batch session) (sym whole)
    (applies basin policy batch inputs session pass next.is leaves.values leaves.new_made next.made next.way next.kept new.same
    (subst (HoldAsBefore session) whole (subst (λ (one : Session). HoldAsBefore one new) same held_before)))

-- ---- the spare engine behind it

module _ (basin : Draft) (policy : Accepted) (session : Session) (inputs : Inputs) (cells : List Cell) (behind : ℕ) (pass : Pass)
    (next : IsNext basin policy session inputs cells behind pass) (same : ℕ) where
  abbrev in_run : Policy
  in_run = policy_in basin policy

  abbrev now_kept : List (Option StepRecord)
  now_kept = changed session.kept pass.changes.items

  is_spare : (spare : Spare) → BecomesSpare basin inputs cells session.kept behind session.engine spare
      → (is : IsSessionOf basin policy (session_behind basin policy inputs session.kept pass same))
      → IsSpareIn basin policy (session_behind basin policy inputs session.kept pass same) is.log spare
  is_spare spare becomes is =
      let at : spare.behind ≡ behind = becomes.behind_is in
      let start : Log = with_inputs [] (placings basin inputs) in
      let comes =
      becomes.comes policy session.inputs next.batch next.is.log next.leaves next.is.kept (stands_behind_all basin policy session next.is) in
      let some = next.leaves.untouched.few in
      let left = known_records session.kept behind some (first_are_kept basin cells session.kept behind next.leaves.untouched) in
      let first : take spare.behind session.kept ≡ map (λ kept. Some kept) left.0 = ap (λ n. take n session.kept) at ∙ left.1 in
      let stay : take spare.behind now_kept ≡ take spare.behind session.kept =
      subst (λ n. take n now_kept ≡ take n session.kept) (sym at) next.stay in
      let few : spare.behind ≤ length now_kept =
      let all = is.many in let many = next.leaves.many in omega (arith, at, all, many, some) in
      let met_end : next.way.log ≡ is.log =
      one_run basin in_run (placings basin inputs) next.way.log is.log (whole_way basin in_run inputs next.is.log session.kept pass next.way)
      is.whole in
      let split = split_at basin in_run 1 start next.way.log now_kept spare.behind (spare.behind + 1) (omega arith) few next.way.linked in
      let met : split.0 ≡ comes.log =
      same_end basin in_run left.0 1 start split.0 comes.log
      (subst (λ kept. AreStepLinks basin in_run 1 start kept split.0) (stay ∙ first) split.1)
      (subst (λ kept. AreStepLinks basin in_run 1 start kept comes.log) first comes.taken.linked) in record {
        stands = record {
          made = comes.made;
          noted = comes.noted;
          few = few;
          log = comes.log;
          shows = comes.shows;
          before = subst (λ kept. AreStepLinks basin in_run 1 start kept comes.log) (sym stay) comes.taken.linked;
          rest = subst (λ end. AreStepLinks basin in_run (spare.behind + 1) comes.log (drop spare.behind now_kept) end) met_end
              (subst (λ log. AreStepLinks basin in_run (spare.behind + 1) log (drop spare.behind now_kept) next.way.log) met split.2);
        };
        kept = keeps_between session.engine pass.engine spare.engine next.kept becomes.kept;
        known = λ place entry first_one last there. all_known now_kept left.0 spare.behind (stay ∙ first) place entry last there;
      }

  may_be : (spare : Option Spare) → IfSome spare (BecomesSpare basin inputs cells session.kept behind session.engine)
      → MayBeSpare (session_behind basin policy inputs session.kept pass same) spare
  may_be None becomes = λ is. tt
  may_be (Some spare) becomes = is_spare spare becomes

  pub next_spare : (spare : Option Spare) → IfSome spare (BecomesSpare basin inputs cells session.kept behind session.engine)
      → MayBeSpare (session_behind session.basin session.policy inputs session.kept pass same) spare
  next_spare spare becomes =
      subst (λ of_basin. MayBeSpare (session_behind of_basin session.policy inputs session.kept pass same) spare) (sym next.is.of_basin)
      (subst (λ by_policy. MayBeSpare (session_behind basin by_policy inputs session.kept pass same) spare) (sym next.is.by_policy)
      (may_be spare becomes))

  -- ---- at its place

  module _ (was : List (Option StepRecord)) (engine : Engine) (lent : session.kept ≡ was) (engine_is : session.engine ≡ engine) where
    pub stands_there : IsSpare basin was (record { engine = engine; behind = basin.control.stamps.count })
    stands_there = record {
      policy = policy;
      start = with_inputs [] (placings basin session.inputs);
      end = next.is.log;
      stands = subst (λ kept. StandsIn basin policy (with_inputs [] (placings basin session.inputs)) next.is.log kept
          (record { engine = engine; behind = basin.control.stamps.count })) lent
          (subst (λ (one : Engine). StandsIn basin policy (with_inputs [] (placings basin session.inputs)) next.is.log session.kept
          (record { engine = one; behind = basin.control.stamps.count })) engine_is (stands_behind_all basin policy session next.is));
    }

    pub spare_there : (spare : Option Spare) (now : Session) → IfSome spare (BecomesSpare basin inputs cells was behind engine)
        → session_behind session.basin session.policy inputs session.kept pass same ≡ now → MayBeSpare now spare
    spare_there spare now becomes is =
        subst (λ (one : Session). MayBeSpare one spare) is
        (next_spare spare
        (subst (λ kept. IfSome spare (BecomesSpare basin inputs cells kept behind session.engine)) (sym lent)
        (subst (λ one. IfSome spare (BecomesSpare basin inputs cells was behind one)) (sym engine_is) becomes)))
