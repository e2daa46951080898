-- The turn that is counted, and that it can't overflow.
use Rattle.std.specs.Prelude.{◌*◌, ◌^◌, min}
use Rattle.std.proofs.Math.Nat.{suc-mul}
use Rattle.std.proofs.lemmas.Nat.{mul-le}
use Rattle.rw_base.specs.declared.number.Cell.{Cell}
use Rattle.rw_model.specs.Basin.{IsBasin}
use Rattle.rw_engine.proofs.Common.{add-one, Cells, DispatchEnd, Draft, Event, HasCount, List, Log, Look, None, Option, Policy, Put, RunFault, Some}
use Rattle.rw_engine.proofs.Common.{State, [], ap, arith, count_of_number, ended_by, event_of, fault, placed, length, with_inputs, raised, refl, room}
use Rattle.rw_engine.proofs.Common.{sym}
use Rattle.rw_engine.proofs.Common.{ℕ, ℤ, ◌++◌, ◌+◌, ◌-◌, ◌<◌, ◌∙◌, ◌∷◌, ◌≡◌, ◌≤◌}
use Rattle.rw_dispatch.specs.Answer.{Ends, answer_of}
use Rattle.rw_dispatch.specs.Pick.{LeadsPicked, Picking, picked_at, turn_of, turn_count}
use Rattle.rw_dispatch.specs.declared.dispatch_end.DispatchEnd.TheVariants.{Idle as IsIdle, Solved as IsSolved, Conflict as IsConflict}
use Rattle.rw_dispatch.specs.declared.dispatch_end.DispatchEnd.TheVariants.{OutOfRange as IsOutOfRange}
use Rattle.rw_run.specs.Frame.{IsFault}
use Rattle.rw_run.specs.Log.{dispatched_in}
use Rattle.rw_run.specs.Next.{ended}
use Rattle.rw_run.specs.Runs.{follows_by, standing}
use Rattle.rw_run.specs.Waiting.{waiting}
use Rattle.rw_firing.specs.Fire.{Fire}
use Rattle.rw_firing.specs.declared.fire.FireEnd.{FireEnd}
use Rattle.rw_firing.specs.declared.fire.FireEnd.TheVariants.{Done, Unknown, ZeroDivisor as DividesByZero, OutOfRange}
use Rattle.rw_engine.specs.Picked.{CountsTurns, LeadsBy, most_turns, next_turn_number, turn_after, turn_behind, turns_after}
use Rattle.rw_engine.specs.State.{CountsTurn, turns_at_most}
use Rattle.rw_engine.specs.declared.step_end.StepEnd.{StepEnd}
use Rattle.rw_engine.proofs.Raises.{room_falls}

-- ---- an event

-- of a dispatch that ended so, where the turn was raised before
pub counts_dispatch : (basin : Draft) (looked : List Look) (object step before after : ℕ) (event : Event) (ended : DispatchEnd)
    → Ends basin looked object step event ended
    → after ≡ next_turn_number before → before ≤ after → CountsTurn before after event
counts_dispatch basin looked object step before after event ended ends is rises = rw (ends.is, is) (by ended (rw (← is) rises))
  where
    by : (e : DispatchEnd) → before ≤ next_turn_number before
        → CountsTurn before (next_turn_number before) (event_of basin looked object step (answer_of e ends.asked ends.written))
    by IsIdle rises = record { least = omega arith; same = λ calm. refl }
    by IsSolved rises = record { least = omega arith; same = λ calm. refl }
    by (IsConflict slot held solves) rises = record { least = rises; same = λ calm. absurd (calm tt) }
    by (IsOutOfRange slot value) rises = record { least = rises; same = λ calm. absurd (calm tt) }

-- of a firing
pub counts_firing : (basin : Draft) (cells : Cells) (rule step : ℕ) (fire : Fire) (turn : ℕ) (so : FireEnd)
    → CountsTurn turn turn (ended basin cells rule step fire so)
counts_firing basin cells rule step fire turn Done = record { least = omega arith; same = λ calm. refl }
counts_firing basin cells rule step fire turn Unknown = record { least = omega arith; same = λ calm. refl }
counts_firing basin cells rule step fire turn DividesByZero = record { least = omega arith; same = λ calm. refl }
counts_firing basin cells rule step fire turn (OutOfRange value) = record { least = omega arith; same = λ calm. refl }

-- where the run may end by a fault
pub counts_ended : (before : ℕ) (state : State) (event : Event) (why : Option RunFault) → CountsTurn before state.turns event
    → CountsTurn before (ended_by why state).turns event
counts_ended before state event None counts = counts
counts_ended before state event (Some why) counts = counts

pub few_ended : (basin : Draft) (old new : State) (why : Option RunFault) → turns_at_most basin new ≤ turns_at_most basin old
    → turns_at_most basin (ended_by why new) ≤ turns_at_most basin old
few_ended basin old new None few = few
few_ended basin old new (Some why) few = few

-- a turn more, of an object that may be dispatched as often less
pub few_object : (basin : Draft) (old : State) (counts : List ℕ) (turn object : ℕ) → HasCount old.counts object
    → count_of_number old.counts object < basin.control.object_limit
    → counts ≡ raised old.counts object → turn ≤ old.turns + 1 → turn + room basin.control.object_limit counts ≤ turns_at_most basin old
few_object basin old counts turn object known below is few =
    let less = room_falls basin.control.object_limit old.counts object known below in
    let own : room basin.control.object_limit counts ≡ room basin.control.object_limit (raised old.counts object) =
    ap (room basin.control.object_limit) is in
    omega (arith, less, own, few)

-- ---- events

pub turns_more : (turn : ℕ) (events more : List Event) → turns_after turn (events ++ more) ≡ turns_after (turns_after turn events) more
turns_more turn [] more = refl
turns_more turn (event ∷ events) more = turns_more (turn_after turn event) events more

-- an object has no more dispatches than its limit
pub room_at_most : (limit : ℕ) (counts : List ℕ) → room limit counts ≤ length counts * limit
room_at_most limit [] = omega arith
room_at_most limit (count ∷ counts) =
    let rest = room_at_most limit counts in
    let more : length (count ∷ counts) * limit ≡ length counts * limit + limit = suc-mul (length counts) limit in
    omega (arith, rest, more)

-- so a timestep has no more than its most turns
pub few_first : (basin : Draft) (old new : State) → new.turns ≡ old.turns → length new.counts ≡ length basin.objects
    → turns_at_most basin new ≤ old.turns + most_turns basin
few_first basin old new same many =
    let left = room_at_most basin.control.object_limit new.counts in
    let all = ap (λ n. n * basin.control.object_limit) many in omega (arith, same, left, all)

pub few_more : (basin : Draft) (old new : State) (most : ℕ) → turns_at_most basin new ≤ turns_at_most basin old → turns_at_most basin old ≤ most
    → turns_at_most basin new ≤ most
few_more basin old new most less few = omega (arith, less, few)

pub few_last : (basin : Draft) (old new : State) (most : ℕ) → turns_at_most basin new ≤ turns_at_most basin old → turns_at_most basin old ≤ most
    → new.turns ≤ most
few_last basin old new most less few = omega (arith, less, few)

-- ---- a run

-- a timestep more
pub more_turns : (basin : Draft) (before old new : ℕ) → new ≤ old + most_turns basin → old ≤ before * most_turns basin
    → new ≤ (before + 1) * most_turns basin
more_turns basin before old new more few =
    let next : (before + 1) * most_turns basin ≡ before * most_turns basin + most_turns basin =
    ap (λ n. n * most_turns basin) (add-one before) ∙ suc-mul before (most_turns basin) in
    omega (arith, more, few, next)

-- no run comes to the greatest turn
pub few_turns : (basin : Draft) (step turn : ℕ) → IsBasin basin → step ≤ basin.control.stamps.count → turn ≤ step * most_turns basin
    → turn < 2 ^ 64 - 1
few_turns basin step turn valid exists few =
    let steps = valid.whole.control.timesteps.few in
    let objects = valid.whole.few_objects in
    let most = valid.whole.control.most_object in
    let own = mul-le (length basin.objects) basin.control.object_limit 500 100 objects most in
    let all = mul-le step (most_turns basin) 4096 50000 (omega (arith, exists, steps)) (omega (arith, own)) in
    omega (arith, few, all)

turn_more : (turn : ℕ) (found : Option ℕ) → turn ≤ 2 ^ 64 - 1 → (turn ≤ turn_behind turn found) × (turn_behind turn found ≤ 2 ^ 64 - 1)
turn_more turn None most = (omega arith, most)
turn_more turn (Some object) most = (omega (arith, most), omega arith)

rising : (turn : ℕ) (events : List Event) → turn ≤ 2 ^ 64 - 1 → turn ≤ turns_after turn events
rising turn [] most = omega arith
rising turn (event ∷ events) most =
    let one = turn_more turn (dispatched_in event) most in
    let rest = rising (turn_after turn event) events one.1 in
    let first = one.0 in omega (arith, first, rest)

one_more : (turn before : ℕ) (found : Option ℕ) → turn ≡ before → turn_behind turn found < 2 ^ 64 - 1
    → turn_behind turn found ≡ turn_of found + before
one_more turn before None is below = omega (arith, is)
one_more turn before (Some object) is below = omega (arith, is, below)

-- so the turn that is counted is that of the log
pub leads_picked : (basin : Draft) (policy : Policy) (rule : Picking) (turn : ℕ) (old : Log) (events : List Event) (new : Log) → turn ≡ turn_count old
    → turn ≤ 2 ^ 64 - 1
    → turns_after turn events < 2 ^ 64 - 1 → LeadsBy basin policy rule turn old events new → LeadsPicked basin policy rule old events new
leads_picked basin policy rule turn old [] new is most below leads = leads
leads_picked basin policy rule turn old (event ∷ events) new is most below leads =
    let one = turn_more turn (dispatched_in event) most in
    let rest = rising (turn_after turn event) events one.1 in
    let near : turn_after turn event < 2 ^ 64 - 1 = omega (arith, rest, below) in (
      ap (λ t. follows_by basin policy old (picked_at rule t (waiting basin old)) (standing old)) (sym is) ∙ leads.0,
      leads_picked basin policy rule (turn_after turn event) (event ∷ old) events new (one_more turn (turn_count old) (dispatched_in event) is near)
          one.1 below leads.2,
    )

-- no input is a dispatch
pub turns_placed : (log : Log) (inputs : List (Cell × ℤ)) → turn_count (with_inputs log inputs) ≡ turn_count log
turns_placed log [] = refl
turns_placed log (input ∷ inputs) = turns_placed (placed input.0 input.1 ∷ log) inputs ∙ omega arith
