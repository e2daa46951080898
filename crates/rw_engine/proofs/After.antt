-- The state after an event.
use Rattle.rw_engine.proofs.Common.{AreReady, Draft, TraceGrows, HasCount, IsObject, IsOnTheWay, IsSome, IsStageOf, IsWithinStep, KeepsWithin, Leaves}
use Rattle.rw_engine.proofs.Common.{List, None, Ok, Option, RunFault, Some, State, ap, arith, count_of_number, ended_by, held, left, length}
use Rattle.rw_engine.proofs.Common.{length-set, queued_after-ready, raised, room, stage, subst, sym, ℕ, ◌-◌, ◌<◌, ◌∙◌, ◌≡◌, ◌≤◌}
use Rattle.rw_engine.proofs.Raises.{room_falls}
use Rattle.rpl_verify.specs.Verified.{Accepted}
use Rattle.rw_agenda.specs.Agenda.{IsIndexed, unfired}
use Rattle.rw_base.specs.declared.memory.NoMemory.{NoMemory}
use Rattle.rw_run.specs.Log.{Cells, Log}
use Rattle.rw_rules.specs.Rules.{IsRulesOf, Rules, WrittenOn}
use Rattle.rw_rules.specs.Firing.{most_looks}
use Rattle.rw_engine.proofs.Common.{Cell, Event, refl, slice_index_or, written_by}
use Rattle.rw_run.specs.Step.{cells_reached}
use Rattle.rw_run.specs.declared.trace.TraceEvent.{TraceEvent}
use Rattle.rw_record.specs.Noted.{with_noted}
use Rattle.rw_engine.specs.Noting.{NotesSome}
use Rattle.rw_engine.proofs.Traces.{alike_on, alike_told, grows_some}
use Rattle.std.specs.Prelude.{Bool, Contains, Result, Err, IsErrAnd, is_some}
use Rattle.rw_engine.specs.Shows.{NotesAlike}
use Rattle.rw_engine.specs.State.{DoesEvent, IsStill, seen_end}
use Rattle.rw_engine.proofs.Notings.{revocable_made, revocable_noted, some_noted}

-- each object has a count, and so has each rule
pub counted : (basin : Draft) (policy : Accepted) (state : State) (object : ℕ) → IsWithinStep basin policy state → IsObject basin.objects object
    → HasCount state.counts object
counted basin policy state object within known =
    let many = within.made.counts in let last = known.last in record { first = known.first; last = omega (arith, many, last) }

-- nothing but what is told is another, and what waits is still
pub only_told : (basin : Draft) (policy : Accepted) (old : State) (trace lines : Option (List TraceEvent)) → IsWithinStep basin policy old
    → TraceGrows old.run.trace trace
    → TraceGrows old.lines lines → KeepsWithin basin policy old (record old { run = record old.run { trace = trace }; lines = lines })
only_told basin policy old trace lines within grows adds = record {
  within = record {
    made = record {
      engine = record {
        valid = within.made.engine.valid;
        fits = within.made.engine.fits;
        objects = within.made.engine.objects;
        rules = within.made.engine.rules;
        series = within.made.engine.series;
        closed_steps = within.made.engine.closed_steps;
        notes = alike_told old.noted old.lines lines old.run.trace trace adds grows within.made.engine.notes;
      };
      keeps = within.made.keeps;
      counts = within.made.counts;
      firings = within.made.firings;
    };
    ready = within.ready;
    indexed = within.indexed;
  };
  revocable = λ before can. can;
  notes = refl;
  grows = grows;
}

-- what each event leaves of counts and rules
pub record Stays (basin : Draft) (policy : Accepted) (old new : State) : Type 0 where
  pub counts : length new.counts ≡ length old.counts
  pub firings : length new.firings ≡ length old.firings
  pub rules : IsRulesOf basin policy new.rules
  pub closed_steps : new.run.closed ≡ old.run.closed
  pub keeps : new.work.keeps ≡ old.work.keeps

-- one number was counted once more, of objects or of rules
pub stays_counted : (basin : Draft) (policy : Accepted) (old new : State) (object : ℕ) → new.counts ≡ raised old.counts object
    → new.firings ≡ old.firings
    → IsRulesOf basin policy new.rules → new.run.closed ≡ old.run.closed → new.work.keeps ≡ old.work.keeps
    → Stays basin policy old new
stays_counted basin policy old new object counts firings rules closed keeps = record {
  counts = ap length counts ∙ length-set old.counts (object - 1) _;
  firings = ap length firings;
  rules = rules;
  closed_steps = closed;
  keeps = keeps;
}

pub stays_fired : (basin : Draft) (policy : Accepted) (old new : State) (rule : ℕ) → new.firings ≡ raised old.firings rule → new.counts ≡ old.counts
    → IsRulesOf basin policy new.rules → new.run.closed ≡ old.run.closed → new.work.keeps ≡ old.work.keeps
    → Stays basin policy old new
stays_fired basin policy old new rule firings counts rules closed keeps = record {
  counts = ap length counts;
  firings = ap length firings ∙ length-set old.firings (rule - 1) _;
  rules = rules;
  closed_steps = closed;
  keeps = keeps;
}

module _ (basin : Draft) (policy : Accepted) (old new : State) (within : IsWithinStep basin policy old) (stays : Stays basin policy old new) where
  firings_kept : length new.firings ≡ length new.rules.agenda.rules
  firings_kept = stays.firings ∙ within.made.firings ∙ within.made.engine.rules.many ∙ sym stays.rules.many

  notes_kept : is_some new.noted ≡ is_some old.noted → TraceGrows old.run.trace new.run.trace → TraceGrows old.lines new.lines
      → NotesAlike new.noted new.lines new.run.trace
  notes_kept noted grows adds =
      alike_on old.noted new.noted old.lines new.lines old.run.trace new.run.trace noted (grows_some old.lines new.lines adds)
      (grows_some old.run.trace new.run.trace grows) within.made.engine.notes

  -- some cells were noted, and nothing changed
  pub keeps_noted : IsIndexed new.rules.agenda (held old.run.series) → new.run.series ≡ old.run.series → new.queue ≡ old.queue
      → TraceGrows old.run.trace new.run.trace → TraceGrows old.lines new.lines → NotesSome (held old.run.series) old.noted new.noted
      → KeepsWithin basin policy old new
  keeps_noted indexed series queue grows adds some =
      let kept = some_noted (held old.run.series) old.noted new.noted some in record {
        within = record {
          made = record {
            engine = record {
              valid = within.made.engine.valid;
              fits = within.made.engine.fits;
              objects = ap (λ (q : _). q.objects) queue ∙ within.made.engine.objects;
              rules = stays.rules;
              series = rw series within.made.engine.series;
              closed_steps = rw stays.closed_steps within.made.engine.closed_steps;
              notes = notes_kept kept grows adds;
            };
            keeps = stays.keeps ∙ within.made.keeps ∙ sym kept;
            counts = stays.counts ∙ within.made.counts;
            firings = firings_kept;
          };
          ready = rw queue within.ready;
          indexed = rw series indexed;
        };
        revocable = λ before can. rw series (revocable_noted before (held old.run.series) old.noted new.noted some can);
        notes = kept;
        grows = grows;
      }

  -- an event was made, and what it reaches was noted before
  pub keeps_done : (event : Event) (reached : List Cell) → IsIndexed new.rules.agenda (held new.run.series)
      → IsStageOf basin (stage new.run.series new.queue) → Leaves basin event (stage old.run.series old.queue) (stage new.run.series new.queue)
      → TraceGrows old.run.trace new.run.trace → TraceGrows old.lines new.lines → new.noted ≡ with_noted (held old.run.series) reached old.noted
      → (IsSome old.noted → (cell : Cell) → Contains (cells_reached basin (written_by event)) cell → Contains reached cell)
      → KeepsWithin basin policy old new
  keeps_done event reached indexed made leaves grows adds noted all =
      let kept = some_noted (held old.run.series) old.noted new.noted (reached, noted) in record {
        within = record {
          made = record {
            engine = record {
              valid = within.made.engine.valid;
              fits = within.made.engine.fits;
              objects = made.queue;
              rules = stays.rules;
              series = made.series;
              closed_steps = subst (λ n. n ≤ basin.control.stamps.count) (sym stays.closed_steps) within.made.engine.closed_steps;
              notes = notes_kept kept grows adds;
            };
            keeps = stays.keeps ∙ within.made.keeps ∙ sym kept;
            counts = stays.counts ∙ within.made.counts;
            firings = firings_kept;
          };
          ready = subst (AreReady basin) (sym leaves.queue) (queued_after-ready basin event old.queue.waiting within.ready);
          indexed = indexed;
        };
        revocable = λ before can.
            revocable_made basin before (held old.run.series) (held new.run.series) (written_by event) reached old.noted new.noted noted all
            leaves.cells can;
        notes = kept;
        grows = grows;
      }

-- and so where the run ends by a fault
pub keeps_ended : (basin : Draft) (policy : Accepted) (old new : State) (why : Option RunFault) → KeepsWithin basin policy old new
    → KeepsWithin basin policy old (ended_by why new)
keeps_ended basin policy old new None keeps = keeps
keeps_ended basin policy old new (Some why) keeps =
    let engine = keeps.within.made.engine in record {
      within = record {
        made = record {
          engine = record {
            valid = engine.valid;
            fits = engine.fits;
            objects = engine.objects;
            rules = engine.rules;
            series = engine.series;
            closed_steps = engine.closed_steps;
            notes = engine.notes;
          };
          keeps = keeps.within.made.keeps;
          counts = keeps.within.made.counts;
          firings = keeps.within.made.firings;
        };
        ready = keeps.within.ready;
        indexed = keeps.within.indexed;
      };
      revocable = keeps.revocable;
      notes = keeps.notes;
      grows = keeps.grows;
    }

-- rules whose marks alone changed are rules of the policy still
pub rules_on : (basin : Draft) (policy : Accepted) (before after : Cells) (old new : Rules) → WrittenOn before after old new
    → IsRulesOf basin policy old
    → IsRulesOf basin policy new
rules_on basin policy before after old new on made = record {
  order = on.order ∙ made.order;
  many = ap length on.rules ∙ made.many;
  rooms =
      λ rule first last. subst (λ entries. most_looks policy rule ≤ (slice_index_or entries (rule - 1) (unfired 0)).room) (sym on.rules)
      (made.rooms rule first last);
}

-- ---- what is left to do

less_objects : (basin : Draft) (old new : State) (object : ℕ) → HasCount old.counts object
    → count_of_number old.counts object < basin.control.object_limit
    → new.counts ≡ raised old.counts object → new.firings ≡ old.firings → left basin new < left basin old
less_objects basin old new object known below counts firings =
    let less = room_falls basin.control.object_limit old.counts object known below in
    let own : room basin.control.object_limit new.counts ≡ room basin.control.object_limit (raised old.counts object) =
    ap (room basin.control.object_limit) counts in
    let others : room basin.control.rule_limit new.firings ≡ room basin.control.rule_limit old.firings = ap (room basin.control.rule_limit) firings in
    omega (arith, less, own, others)

less_rules : (basin : Draft) (old new : State) (rule : ℕ) → HasCount old.firings rule → count_of_number old.firings rule < basin.control.rule_limit
    → new.firings ≡ raised old.firings rule → new.counts ≡ old.counts → left basin new < left basin old
less_rules basin old new rule known below firings counts =
    let less = room_falls basin.control.rule_limit old.firings rule known below in
    let own : room basin.control.rule_limit new.firings ≡ room basin.control.rule_limit (raised old.firings rule) =
    ap (room basin.control.rule_limit) firings in
    let others : room basin.control.object_limit new.counts ≡ room basin.control.object_limit old.counts =
    ap (room basin.control.object_limit) counts in
    omega (arith, less, own, others)

-- where no fault came, less is left to do
on_the_way : (basin : Draft) (step : ℕ) (old new : State) (why : Option RunFault) → left basin new < left basin old → new.run.closed ≡ old.run.closed
    → new.run.end ≡ old.run.end
    → IsOnTheWay basin step (seen_end (ended_by why new) (Ok (is_some why))) old (ended_by why new)
on_the_way basin step old new None less closed end = (record { closed_steps = closed; end = end }, less)
on_the_way basin step old new (Some why) less closed end = closed

pub on_the_way_object : (basin : Draft) (step : ℕ) (old new : State) (why : Option RunFault) (object : ℕ) → HasCount old.counts object
    → count_of_number old.counts object < basin.control.object_limit → new.counts ≡ raised old.counts object → new.firings ≡ old.firings
    → new.run.closed ≡ old.run.closed → new.run.end ≡ old.run.end
    → IsOnTheWay basin step (seen_end (ended_by why new) (Ok (is_some why))) old (ended_by why new)
on_the_way_object basin step old new why object known below counts firings closed end =
    on_the_way basin step old new why (less_objects basin old new object known below counts firings) closed end

pub on_the_way_rule : (basin : Draft) (step : ℕ) (old new : State) (why : Option RunFault) (rule : ℕ) → HasCount old.firings rule
    → count_of_number old.firings rule < basin.control.rule_limit → new.firings ≡ raised old.firings rule → new.counts ≡ old.counts
    → new.run.closed ≡ old.run.closed → new.run.end ≡ old.run.end
    → IsOnTheWay basin step (seen_end (ended_by why new) (Ok (is_some why))) old (ended_by why new)
on_the_way_rule basin step old new why rule known below firings counts closed end =
    on_the_way basin step old new why (less_rules basin old new rule known below firings counts) closed end

-- memory wants for an event
pub wanted : (basin : Draft) (policy : Accepted) (chosen : Option ℕ) (step : ℕ) (old new : State) (given : Log → Type 0)
    (result : Result Bool NoMemory) (why : NoMemory)
    → IsErrAnd result (λ fault. fault ≡ why) → KeepsWithin basin policy old new → IsStill old new → IsSome old.noted
    → DoesEvent basin policy chosen step old new given result
wanted basin policy chosen step old new given (Ok end) why is keeps still kept = absurd is
wanted basin policy chosen step old new given (Err fault) why is keeps still kept =
    record { keeps = keeps; on_the_way = still; goes = λ log holds. tt; few = tt; wants = kept }
