-- What a run comes to for its session.
use Rattle.rw_base.proofs.Common.{◌≡◌, ◌<◌, ◌+◌, ◌∙◌, ℕ, zero, suc, false≢true, List, [], ◌∷◌, Option, Some, None, Ok, IfSome, get_or, length, refl}
use Rattle.rw_base.proofs.Common.{sym, ap, subst, arith, replicate, same_Some, none-some, slice_get}
use Rattle.std.proofs.lemmas.Option.{slice_get_read}
use Rattle.rw_model.specs.Draft.{Draft}
use Rattle.rw_inputs.specs.Edits.{Batch, after_batch}
use Rattle.rw_inputs.specs.Placings.{placings}
use Rattle.rw_inputs.specs.Inputs.{Inputs, IsInputsOf, value_at}
use Rattle.rw_run.specs.Frame.{IsFramed}
use Rattle.rw_run.specs.Log.{Log}
use Rattle.rw_run.specs.Next.{Policy}
use Rattle.rw_run.specs.Reuse.{AreRerun}
use Rattle.rw_run.proofs.OneRun.{one_run}
use Rattle.rw_record.specs.Record.{AreRisingCells, StepRecord}
use Rattle.rpl_verify.specs.Verified.{Accepted}
use Rattle.rw_rules.specs.Rules.{policy_in}
use Rattle.rw_engine.specs.Shows.{KeepsOn}
use Rattle.rw_rerun.specs.Kept.{AreKept, IsKeptOrNot, IsKeepable, changed}
use Rattle.rw_rerun.specs.Session.{Applies, HoldAsBefore, IsSessionOf, IsStarted, Session, numbers_of_steps}
use Rattle.rw_rerun.specs.Touched.{AreRisingIn}
use Rattle.rw_rerun.specs.UnderWay.{AreReplayable, GoesOn, IsEntry, IsReplayable, IsPassOf, IsUnderWay}
use Rattle.rw_rerun.specs.declared.pass.Pass.{Pass}
use Rattle.rw_rerun.proofs.Keeping.{kept_there, length_changed}
use Rattle.rw_rerun.proofs.Ways.{whole_way}

-- the session once its run has passed all timesteps
abbrev pub session_behind : Draft → Accepted → Inputs → List (Option StepRecord) → Pass → ℕ → Session
session_behind of_basin by_policy inputs was pass same = record {
  basin = of_basin;
  policy = by_policy;
  inputs = inputs;
  engine = pass.engine;
  kept = changed was pass.changes.items;
  reran = pass.reran.items;
  same = same;
}

module _ (basin : Draft) (policy : Accepted) (inputs : Inputs) (earlier : Log) (was : List (Option StepRecord)) (pass : Pass)
    (given : IsInputsOf basin inputs)
    (made : IsPassOf basin policy pass) (many : length was ≡ basin.control.stamps.count)
    (way : IsUnderWay basin (policy_in basin policy) inputs earlier was pass basin.control.stamps.count) (of_basin : Draft) (by_policy : Accepted)
    (basin_is : of_basin ≡ basin) (policy_is : by_policy ≡ policy) (same : ℕ) where
  abbrev pub is_session : IsSessionOf basin policy (session_behind of_basin by_policy inputs was pass same)
  is_session = record {
    of_basin = basin_is;
    by_policy = policy_is;
    given = given;
    made = made.made;
    noted = made.noted;
    log = way.log;
    whole = whole_way basin (policy_in basin policy) inputs earlier was pass way;
    shows = way.shows;
    many = length_changed was pass.changes.items (let all = way.many in omega (arith, many, all)) ∙ way.many;
    kept = way.kept;
    linked = way.linked;
  }

-- ---- the first run

none_closed : (basin : Draft) (step : ℕ) → ¬ IsKeepable basin [] step
none_closed basin step = λ keepable. absurd (false≢true keepable.closing)

pub none_kept : (basin : Draft) (policy : Policy) (first count : ℕ) → AreKept basin policy [] first (replicate count None)
none_kept basin policy first zero = tt
none_kept basin policy first (suc count) = (none_closed basin first, none_kept basin policy (first + 1) count)

none_there : (count place : ℕ) (kept : StepRecord) → slice_get (replicate count None) place ≡ Some (Some kept) → ⊥
none_there zero place kept there = absurd (none-some _ there)
none_there (suc count) zero kept there = absurd (none-some _ (same_Some None (Some kept) there))
none_there (suc count) (suc place) kept there = none_there count place kept there

pub none_replayed : (basin : Draft) (count : ℕ) → AreReplayable basin (replicate count None)
none_replayed basin count = λ place kept there. absurd (none_there count place kept there)

pub starts : (basin : Draft) (policy : Accepted) (inputs : Inputs) (was : List (Option StepRecord)) (pass : Pass) → IsInputsOf basin inputs
    → IsPassOf basin policy pass → length was ≡ basin.control.stamps.count
    → IsUnderWay basin (policy_in basin policy) inputs [] was pass basin.control.stamps.count
    → IsStarted basin policy inputs (session_behind basin policy inputs was pass 0)
starts basin policy inputs was pass given made many way = record {
  is = is_session basin policy inputs [] was pass given made many way basin policy refl refl 0;
  inputs_are = refl;
  opened_steps = record {
    rising = way.rerun.rising;
    those = λ step. (
      λ has. ((way.rerun.those step).0 has).0,
      λ some. (way.rerun.those step).1 (some, λ reused. absurd (false≢true reused.closed)),
    );
  };
  none_same = refl;
}

-- ---- and a later one

replayed_from : (basin : Draft) (policy : Policy) (log : Log) (first place : ℕ) (was : List (Option StepRecord)) (kept : StepRecord)
    → AreKept basin policy log first was
    → slice_get was place ≡ Some (Some kept) → IsReplayable basin (first + place) kept
replayed_from basin policy log first place [] kept are there = absurd (none-some _ there)
replayed_from basin policy log first zero (entry ∷ was) kept are there =
    let is = subst (IsKeptOrNot basin policy log first) (same_Some entry (Some kept) there) are.0 in
    let here : first ≡ first + zero = omega arith in record { step_is = is.these.step_is ∙ here; can = is.these.can }
replayed_from basin policy log first (suc place) (entry ∷ was) kept are there =
    let here : (first + 1) + place ≡ first + suc place = omega arith in
    subst (λ step. IsReplayable basin step kept) here (replayed_from basin policy log (first + 1) place was kept are.1 there)

pub all_replayed : (basin : Draft) (policy : Policy) (log : Log) (was : List (Option StepRecord)) → AreKept basin policy log 1 was
    → AreReplayable basin was
all_replayed basin policy log was are = λ place kept there.
    let here : 1 + place ≡ place + 1 = omega arith in
    subst (λ step. IsReplayable basin step kept) here (replayed_from basin policy log 1 place was kept are there)

pub applies : (basin : Draft) (policy : Accepted) (batch : Batch) (inputs : Inputs) (old : Session) (pass : Pass)
    (session : IsSessionOf basin policy old)
    → value_at inputs ≡ after_batch batch (value_at old.inputs) → IsInputsOf basin inputs → IsPassOf basin policy pass
    → IsUnderWay basin (policy_in basin policy) inputs session.log old.kept pass basin.control.stamps.count → KeepsOn old.engine pass.engine
    → (same : ℕ) → HoldAsBefore old (session_behind old.basin old.policy inputs old.kept pass same)
    → Applies basin policy batch old (session_behind old.basin old.policy inputs old.kept pass same)
applies basin policy batch inputs old pass session values given made way kept same before = record {
  is =
      is_session basin policy inputs session.log old.kept pass given made session.many way old.basin old.policy session.of_basin
      session.by_policy same;
  values = values;
  rerun = λ earlier run'.
      subst (λ log. AreRerun basin log way.log (numbers_of_steps pass.reran.items))
      (one_run basin (policy_in basin policy) (placings basin old.inputs) session.log earlier session.whole run') way.rerun;
  before_same = before;
  kept = kept;
}

-- the cells of each record rise
rising_in : (basin : Draft) (policy : Policy) (log : Log) (step : ℕ) (entry : Option StepRecord) → IsKeptOrNot basin policy log step entry
    → IfSome entry (λ kept. AreRisingCells kept.looked)
rising_in basin policy log step None is = tt
rising_in basin policy log step (Some kept) is = is.these.rising

pub rising_from : (basin : Draft) (policy : Policy) (log : Log) (first : ℕ) (was : List (Option StepRecord)) → AreKept basin policy log first was
    → AreRisingIn was
rising_from basin policy log first was are =
    λ place entry there. rising_in basin policy log (first + place) entry (kept_there basin policy log first place was entry are there)

-- ---- one timestep of those that are kept

pub entry_there : (was : List (Option StepRecord)) (place from count : ℕ) (entry : Option StepRecord) → from ≡ place → place < count
    → length was ≡ count
    → entry ≡ get_or was from entry → slice_get was place ≡ Some entry
entry_there was place from count entry at near many is =
    ap (slice_get was) (sym at) ∙ slice_get_read was count from entry (sym many) (omega (arith, at, near)) is

pub replayed_here : (basin : Draft) (was : List (Option StepRecord)) (place : ℕ) (entry : Option StepRecord) → AreReplayable basin was
    → slice_get was place ≡ Some entry → IfSome entry (IsReplayable basin (place + 1))
replayed_here basin was place None all there = tt
replayed_here basin was place (Some kept) all there = all place kept there

pub entry_is : (basin : Draft) (policy : Policy) (earlier : Log) (was : List (Option StepRecord)) (place : ℕ) (entry : Option StepRecord)
    → AreKept basin policy earlier 1 was → slice_get was place ≡ Some entry → IsEntry basin policy earlier was place entry
entry_is basin policy earlier was place entry are there =
    let here : 1 + place ≡ place + 1 = omega arith in
    record {
      there = there;
      kept = subst (λ step. IsKeptOrNot basin policy earlier step entry) here
          (kept_there basin policy earlier 1 place was entry are there);
    }

-- a call that comes behind it
pub passes_on : (basin : Draft) (policy : Accepted) (inputs : Inputs) (earlier : Log) (was : List (Option StepRecord)) (place : ℕ)
    (entry : Option StepRecord)
    (old new : Pass) (before after : ℕ) (done : Unit {0}) → IsFramed (policy_in basin policy) → slice_get was place ≡ Some entry
    → AreKept basin (policy_in basin policy) earlier 1 was → GoesOn basin policy (place + 1) (λ kept. kept ≡ entry) old new before after (Ok done)
    → IsUnderWay basin (policy_in basin policy) inputs earlier was old place
    → IsUnderWay basin (policy_in basin policy) inputs earlier was new (place + 1)
passes_on basin policy inputs earlier was place entry old new before after done framed there are on way =
    on.goes inputs earlier was place entry framed (entry_is basin (policy_in basin policy) earlier was place entry are there) refl refl way
