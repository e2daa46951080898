-- The event where an object that waits is taken out of the queue.
use Rattle.std.specs.Prelude.{Bool, Err, IfOk, IfErr, Ok, Result, slice_get}
use Rattle.std.proofs.Math.ListN.{length, length-append}
use Rattle.rw_base.specs.declared.memory.NoMemory.{NoMemory}
use Rattle.rw_dispatch.specs.Pick.{Picking, picked_at}
use Rattle.rw_dispatch.specs.Queue.{IsTaken, Queue}
use Rattle.rpl_verify.specs.Verified.{Accepted}
use Rattle.rw_engine.specs.State.{seen_end}
use Rattle.rw_engine.proofs.Common.{All, All-cons, All-head, All-tail, DoesEvent, Draft, HoldsWithin, IsOnTheWay, List, Log, None, Option, Some}
use Rattle.rw_engine.proofs.Common.{State, [], ap, arith, false, refl, subst, sym, true, ℕ, ◌++◌, ◌<◌, ◌∙◌, ◌∷◌, ◌≡◌}

-- ---- lists

at_place : (before behind : List ℕ) (object : ℕ) → slice_get (before ++ object ∷ behind) (length before) ≡ Some object
at_place [] behind object = refl
at_place (first ∷ before) behind object = at_place before behind object

module _ (P : ℕ → Type 0) where
  without : (before behind : List ℕ) (object : ℕ) → All P (before ++ object ∷ behind) → All P (before ++ behind)
  without [] behind object all = All-tail P object behind all
  without (first ∷ before) behind object all =
      All-cons P first (before ++ behind) (All-head P first (before ++ object ∷ behind) all)
      (without before behind object (All-tail P first (before ++ object ∷ behind) all))

  own : (before behind : List ℕ) (object : ℕ) → All P (before ++ object ∷ behind) → P object
  own [] behind object all = All-head P object behind all
  own (first ∷ before) behind object all = own before behind object (All-tail P first (before ++ object ∷ behind) all)

  -- what holds of all holds of who was taken out, and of the others
  pub others_hold : (place object : ℕ) (all rest : List ℕ) → IsTaken place all object rest → All P all → All P rest
  others_hold place object all rest is holds =
      subst (All P) (sym is.new_is) (without is.before is.behind object (subst (All P) is.old_is holds))

  pub own_holds : (place object : ℕ) (all rest : List ℕ) → IsTaken place all object rest → All P all → P object
  own_holds place object all rest is holds = own is.before is.behind object (subst (All P) is.old_is holds)

-- who was taken out is the one that was picked
pub picked_is : (rule : Picking) (turn object : ℕ) (waits rest : List ℕ) → IsTaken (rule turn waits) waits object rest
    → picked_at rule turn waits ≡ Some object
picked_is rule turn object waits rest is =
    ap (λ place. slice_get waits place) (sym is.place_is) ∙ ap (λ all. slice_get all (length is.before)) is.old_is
    ∙ at_place is.before is.behind object

-- so one that waits is picked
pub picks_one : (place object : ℕ) (waits rest : List ℕ) → IsTaken place waits object rest → place < length waits
picks_one place object waits rest is =
    let at = is.place_is in
    let all = ap length is.old_is ∙ length-append is.before (object ∷ is.behind) in omega (arith, at, all)

-- where none waits none is picked
pub none_picked : (rule : Picking) (turn : ℕ) (waits : List ℕ) → waits ≡ [] → picked_at rule turn waits ≡ None
none_picked rule turn waits none = ap (λ all. picked_at rule turn all) none

-- ---- what is done

module _ (basin : Draft) (policy : Accepted) (step : ℕ) (old new : State) (queue : Queue) where
  -- the queue is no part of what a log is shown by
  pub holds_on : (waits others : List ℕ) (log : Log) → waits ≡ others → HoldsWithin basin policy old step waits log
      → HoldsWithin basin policy (record old { queue = queue }) step others log
  holds_on waits others log same holds = record {
    open_step = holds.open_step;
    shows = record {
      cells = holds.shows.cells;
      trace = holds.shows.trace;
      closed_steps = holds.shows.closed_steps;
      end = holds.shows.end;
    };
    queue = sym same ∙ holds.queue;
    counts = holds.counts;
    looks = holds.looks;
    firings = holds.firings;
  }

  on : (result : Result Bool NoMemory) → IsOnTheWay basin step (seen_end new result) (record old { queue = queue }) new
      → IsOnTheWay basin step (seen_end new result) old new
  on (Ok true) way = way
  on (Ok false) way = (record { closed_steps = way.0.closed_steps; end = way.0.end }, way.1)
  on (Err fault) way = record { closed_steps = way.closed_steps; end = way.end }

  -- what is done behind another queue is done behind this one, where this object is chosen
  pub does_on : (chosen one : Option ℕ) (waits others : List ℕ) (result : Result Bool NoMemory) → chosen ≡ one → waits ≡ others
      → DoesEvent basin policy one step (record old { queue = queue }) new
      (HoldsWithin basin policy (record old { queue = queue }) step others) result
      → DoesEvent basin policy chosen step old new (HoldsWithin basin policy old step waits) result
  does_on chosen one waits others result is same does =
      subst (λ which. DoesEvent basin policy which step old new (HoldsWithin basin policy old step waits) result) (sym is) (record {
        keeps = record {
          within = does.keeps.within;
          revocable = does.keeps.revocable;
          notes = does.keeps.notes;
          grows = does.keeps.grows;
        };
        on_the_way = on result does.on_the_way;
        goes = λ log holds. does.goes log (holds_on waits others log same holds);
        few = does.few;
        wants = does.wants;
      })
