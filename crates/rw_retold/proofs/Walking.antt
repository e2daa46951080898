-- Line by line through a trace.
use Rattle.rw_base.proofs.Common.{◌≡◌, ◌∙◌, ◌≤◌, ℕ, ℤ, Bool, true, false, false≢true, List, [], ◌∷◌, ◌++◌, Option, Some, None, All-head, All-nil}
use Rattle.rw_base.proofs.Common.{All-tail}
use Rattle.rw_base.proofs.Common.{OnOk, Ok, Err, Result, append_assoc, append-nil, arith, ap, ap₂, codes, flat_map, if◌then◌else◌, length, map}
use Rattle.rw_base.proofs.Common.{option_or, refl, same_Some, subst, sym}
use Rattle.rw_base.specs.declared.number.Cell.{Cell}
use Rattle.rw_base.specs.declared.memory.NoMemory.{NoMemory}
use Rattle.rw_base.specs.declared.number.ObjectNo.{ObjectNo}
use Rattle.rw_base.specs.declared.number.RuleNo.{RuleNo}
use Rattle.rw_base.specs.declared.number.StepNo.{StepNo}
use Rattle.rw_base.proofs.Lists.{option_or_joined}
use Rattle.rw_model.specs.Draft.{Draft}
use Rattle.rw_model.specs.Turn.{IsStep}
use Rattle.rw_firing.specs.Fire.{Fire}
use Rattle.rw_series.specs.Series.{held, is_shared}
use Rattle.rw_dispatch.specs.Writes.{AreWrites, CanWrite}
use Rattle.rw_run.specs.declared.trace.TraceEvent.{TraceEvent}
use Rattle.rw_run.specs.declared.trace.TraceEvent.TheVariants as Line
use Rattle.rw_run.specs.Choice.{MayFollow, MayLead}
use Rattle.rw_run.specs.Dispatch.{dispatched, puts_written}
use Rattle.rw_run.specs.Log.{Asked, Cells, Dispatch, Event, Firing, Log, placed, opened, closed, idle, solved, fired, fault, cells_of, last_put}
use Rattle.rw_run.specs.Log.{value_in, written_by}
use Rattle.rw_run.specs.Next.{Policy}
use Rattle.rw_run.specs.Frame.{log_after}
use Rattle.rw_run.specs.RunOf.{line_of, lines, trace_of}
use Rattle.rw_run.specs.Runs.{inside, standing, with_inputs}
use Rattle.rw_run.proofs.Placed.{standing-placed, trace-placed}
use Rattle.rw_engine.proofs.Steps.{trace_after}
use Rattle.rpl_code.specs.declared.block.Block.{Block}
use Rattle.rpl_verify.specs.Machine.{fire_of_code}
use Rattle.rpl_policy.specs.Policy.{policy_of_code}
use Rattle.rpl_policy.proofs.Asking.{code_asks}
use Rattle.rw_report.proofs.Growing.{written}
use Rattle.rw_report.specs.Lines.{line_words}
use Rattle.rw_asked.specs.Asked.{AskedLine, asked_after, asked_lines, asked_trace, fates_alone, fates_of, lines_of_asks, plain_line, put_in_line}
use Rattle.rw_asked.specs.Asked.{wanted_by, wanted_of}
use Rattle.rw_asked.specs.Words.{asked_lines_words}
use Rattle.rw_asked.proofs.Follow.{IsOwn, may_own}
use Rattle.rw_asked.proofs.Reused.{appended}
use Rattle.rw_asked.proofs.Telling.{words_joined}
use Rattle.rw_retold.specs.declared.walk.Walk.{Walk}
use Rattle.rw_retold.specs.Walk.{IsAtStep, IsWalkedTo}
use Rattle.rw_retold.proofs.Asks.{firing_within}
use Rattle.rw_retold.proofs.Made.{IsMade, may_made}

-- ---- the first line of an event

abbrev head_line : Event → TraceEvent
head_line (placed cell value) = Line.Closed (record { 0 = 0 })
head_line (opened step) = Line.Opened (record { 0 = step })
head_line (closed step) = Line.Closed (record { 0 = step })
head_line (idle object step looked) = Line.Idle (record { 0 = object })
head_line (solved dispatch) = Line.Solve (record { 0 = dispatch.object })
head_line (fired firing) = Line.Fire (record { 0 = firing.rule }) firing.is_done firing.count
head_line (fault why) = Line.Fault why

lines_split : (basin : Draft) (policy : Policy) (log : Log) (event : Event) → IsMade basin policy log event
    → lines event ≡ head_line event ∷ map line_of (written_by event)
lines_split basin policy log (placed cell value) made = absurd made
lines_split basin policy log (opened step) made = refl
lines_split basin policy log (closed step) made = refl
lines_split basin policy log (idle object step looked) made = refl
lines_split basin policy log (solved dispatch) made = refl
lines_split basin policy log (fired firing) made = refl
lines_split basin policy log (fault why) made = refl

-- what a line is
abbrev pub line_code : TraceEvent → ℕ
line_code (Line.Opened step) = 0
line_code (Line.Idle object) = 1
line_code (Line.Solve object) = 2
line_code (Line.Fire rule done count) = 3
line_code (Line.Written slot step content) = 4
line_code (Line.Closed step) = 5
line_code (Line.Fault why) = 6

abbrev pub is_put : TraceEvent → Bool
is_put (Line.Written slot step content) = true
is_put line = false

head_is_none : (event : Event) → is_put (head_line event) ≡ false
head_is_none (placed cell value) = refl
head_is_none (opened step) = refl
head_is_none (closed step) = refl
head_is_none (idle object step looked) = refl
head_is_none (solved dispatch) = refl
head_is_none (fired firing) = refl
head_is_none (fault why) = refl

abbrev first_line : List TraceEvent → TraceEvent
first_line [] = Line.Opened (record { 0 = 0 })
first_line (line ∷ rest) = line

abbrev lines_behind : List TraceEvent → List TraceEvent
lines_behind [] = []
lines_behind (line ∷ rest) = rest

-- ---- an event begins

-- its first line is told next
pub record Begins (basin : Draft) (policy : Policy) (line : TraceEvent) (left : List TraceEvent) (log : Log) (whole : List ℕ) (walk : Walk)
    (text : List ℕ) : Type 0 where
  pub now : Log
  pub event : Event
  pub events : List Event
  pub made : IsMade basin policy now event
  pub may : MayFollow basin policy now event
  pub is : head_line event ≡ line
  pub leads : MayLead basin policy (event ∷ now) events log
  pub left_is : left ≡ map line_of (written_by event) ++ flat_map lines events
  pub cells : cells_of basin now ≡ held walk.series
  pub at : IsAtStep basin (standing now) walk.step.0
  pub text_is : text ++ asked_lines_words basin (asked_lines basin policy (cells_of basin now) event ++ asked_after basin policy (event ∷ now) events)
      ≡ whole

module _ (basin : Draft) (policy : Policy) (line : TraceEvent) (left : List TraceEvent) (log : Log) (whole : List ℕ) (walk : Walk)
    (text : List ℕ) where
  begins_by : (now : Log) (events : List Event) (pending : List Asked) → MayLead basin policy now events log
      → line ∷ left ≡ map line_of pending ++ flat_map lines events
      → ((cell : Cell) → cells_of basin now cell ≡ option_or (last_put basin pending cell) (held walk.series cell))
      → IsAtStep basin (standing now) walk.step.0
      → text ++ asked_lines_words basin (asked_after basin policy now events) ≡ whole
      → is_put line ≡ false → Begins basin policy line left log whole walk text
  begins_by now events (put ∷ pending) leads are cells at is plain =
      absurd (false≢true (sym plain ∙ ap (λ these. is_put (first_line these)) are))
  begins_by now [] [] leads are cells at is plain = absurd (let no = ap length are in omega (arith, no))
  begins_by now (event ∷ events) [] leads are cells at is plain =
      let made = may_made basin policy now event leads.0 in
      let both = are ∙ ap (λ these. these ++ flat_map lines events) (lines_split basin policy now event made) in
      record {
        now = now;
        event = event;
        events = events;
        made = made;
        may = leads.0;
        is = sym (ap first_line both);
        leads = leads.1;
        left_is = ap lines_behind both;
        cells = λ i cell. cells cell i;
        at = at;
        text_is = is;
      }

  pub begins : IsWalkedTo basin policy (line ∷ left) log whole walk text → is_put line ≡ false → Begins basin policy line left log whole walk text
  begins stands plain = begins_by stands.now stands.events stands.pending stands.leads stands.lines_are stands.cells stands.at stands.text_is plain

  -- once what it asked for is told
  pub goes_on : (b : Begins basin policy line left log whole walk text) (new : Walk) (grown : List ℕ) → new.series ≡ walk.series
      → AreWrites basin (written_by b.event) → IsAtStep basin (standing (b.event ∷ b.now)) new.step.0
      → grown ≡ text ++ asked_lines_words basin (asked_lines basin policy (cells_of basin b.now) b.event)
      → IsWalkedTo basin policy left log whole new grown
  goes_on b new grown same can at is = record {
    now = b.event ∷ b.now;
    events = b.events;
    pending = written_by b.event;
    leads = b.leads;
    lines_are = b.left_is;
    cells = λ cell. ap (λ z. option_or (last_put basin (written_by b.event) cell) z)
        (ap (λ cells. cells cell) b.cells ∙ ap (λ series. held series cell) (sym same));
    can = can;
    at = at;
    text_is =
        let asks = asked_lines basin policy (cells_of basin b.now) b.event in
        let rest = asked_after basin policy (b.event ∷ b.now) b.events in
        written text grown (asked_lines_words basin asks) (asked_lines_words basin rest) whole
        (ap (λ t. text ++ t) (sym (words_joined basin asks rest)) ∙ b.text_is) is;
  }

-- ---- where the run stands behind an event

abbrev step_in : TraceEvent → ℕ
step_in (Line.Opened step) = step.0
step_in line = 0

at_opened : (basin : Draft) (policy : Policy) (now : Log) (step : StepNo) (walked : ℕ) (event : Event) → IsMade basin policy now event
    → head_line event ≡ Line.Opened step → walked ≡ step.0 → IsAtStep basin (standing (event ∷ now)) walked
at_opened basin policy now step walked (placed cell value) made is same = absurd made
at_opened basin policy now step walked (opened other) made is same =
    let alike : other ≡ walked = ap step_in is ∙ sym same in (alike, subst (IsStep basin) alike made)
at_opened basin policy now step walked (closed other) made is same = absurd (let no = ap line_code is in omega (arith, no))
at_opened basin policy now step walked (idle object other looked) made is same = absurd (let no = ap line_code is in omega (arith, no))
at_opened basin policy now step walked (solved dispatch) made is same = absurd (let no = ap line_code is in omega (arith, no))
at_opened basin policy now step walked (fired firing) made is same = absurd (let no = ap line_code is in omega (arith, no))
at_opened basin policy now step walked (fault why) made is same = absurd (let no = ap line_code is in omega (arith, no))

at_else : (basin : Draft) (policy : Policy) (now : Log) (step : ℕ) (event : Event) → IsMade basin policy now event
    → (line_code (head_line event) ≡ 0 → ⊥) → IsAtStep basin (standing now) step → IsAtStep basin (standing (event ∷ now)) step
at_else basin policy now step (placed cell value) made other at = absurd made
at_else basin policy now step (opened one) made other at = absurd (other refl)
at_else basin policy now step (closed one) made other at = tt
at_else basin policy now step (idle object one looked) made other at = subst (λ where_it. IsAtStep basin where_it step) made at
at_else basin policy now step (solved dispatch) made other at = subst (λ where_it. IsAtStep basin where_it step) made.0 at
at_else basin policy now step (fired firing) made other at = subst (λ where_it. IsAtStep basin where_it step) made.0 at
at_else basin policy now step (fault why) made other at = tt

-- ---- lines with nothing below them

alone : (basin : Draft) (policy : Policy) (now : Log) (cells : Cells) (event : Event) → IsMade basin policy now event
    → (line_code (head_line event) ≡ 2 → ⊥) → (line_code (head_line event) ≡ 3 → ⊥)
    → (written_by event ≡ []) × (asked_lines basin policy cells event ≡ plain_line (head_line event) ∷ [])
alone basin policy now cells (placed cell value) made dispatch fires = absurd made
alone basin policy now cells (opened step) made dispatch fires = (refl, refl)
alone basin policy now cells (closed step) made dispatch fires = (refl, refl)
alone basin policy now cells (idle object step looked) made dispatch fires = (refl, refl)
alone basin policy now cells (solved one) made dispatch fires = absurd (dispatch refl)
alone basin policy now cells (fired one) made dispatch fires = absurd (fires refl)
alone basin policy now cells (fault why) made dispatch fires = (refl, refl)

module _ (basin : Draft) (policy : Policy) (line : TraceEvent) (left : List TraceEvent) (log : Log) (whole : List ℕ) (walk : Walk)
    (text : List ℕ) where
  alone_goes : (b : Begins basin policy line left log whole walk text) (new : Walk) (grown : List ℕ) → new.series ≡ walk.series
      → (line_code line ≡ 2 → ⊥) → (line_code line ≡ 3 → ⊥) → IsAtStep basin (standing (b.event ∷ b.now)) new.step.0
      → grown ≡ text ++ (line_words basin line ++ codes "\n") → IsWalkedTo basin policy left log whole new grown
  alone_goes b new grown same dispatch fires at is =
      let both = alone basin policy b.now (cells_of basin b.now) b.event b.made (λ e. dispatch (sym (ap line_code b.is) ∙ e))
      (λ e. fires (sym (ap line_code b.is) ∙ e)) in
      goes_on basin policy line left log whole walk text b new grown same (subst (AreWrites basin) (sym both.0) (All-nil (CanWrite basin))) at
      (is ∙ ap (λ one. text ++ (line_words basin one ++ codes "\n")) (sym b.is)
      ∙ ap (λ t. text ++ t) (sym (append-nil (line_words basin (head_line b.event) ++ codes "\n")))
      ∙ ap (λ these. text ++ asked_lines_words basin these) (sym both.1))

  -- a line that opens no timestep
  pub plain_goes : IsWalkedTo basin policy (line ∷ left) log whole walk text → is_put line ≡ false → (line_code line ≡ 0 → ⊥)
      → (line_code line ≡ 2 → ⊥) → (line_code line ≡ 3 → ⊥) → (grown : List ℕ) (result : Result (Unit {0}) NoMemory)
      → OnOk result (grown ≡ text ++ (line_words basin line ++ codes "\n")) → OnOk result (IsWalkedTo basin policy left log whole walk grown)
  plain_goes stands put opens dispatch fires grown (Ok done) is =
      let b = begins basin policy line left log whole walk text stands put in
      alone_goes b walk grown refl dispatch fires
      (at_else basin policy b.now walk.step.0 b.event b.made (λ e. opens (sym (ap line_code b.is) ∙ e)) b.at) is
  plain_goes stands put opens dispatch fires grown (Err want) is = tt

-- one that does
pub opened_goes : (basin : Draft) (policy : Policy) (step : StepNo) (left : List TraceEvent) (log : Log) (whole : List ℕ) (walk new : Walk)
    (text grown : List ℕ) → IsWalkedTo basin policy (Line.Opened step ∷ left) log whole walk text → new.series ≡ walk.series → new.step ≡ step
    → (result : Result (Unit {0}) NoMemory) → OnOk result (grown ≡ text ++ (line_words basin (Line.Opened step) ++ codes "\n"))
    → OnOk result (IsWalkedTo basin policy left log whole new grown)
opened_goes basin policy step left log whole walk new text grown stands same to (Ok done) is =
    let b = begins basin policy (Line.Opened step) left log whole walk text stands refl in
    alone_goes basin policy (Line.Opened step) left log whole walk text b new grown same (λ e. absurd (omega (arith, e)))
    (λ e. absurd (omega (arith, e)))
    (at_opened basin policy b.now step new.step.0 b.event b.made b.is (ap (λ (n : StepNo). n.0) to)) is
opened_goes basin policy step left log whole walk new text grown stands same to (Err want) is = tt

-- ---- a dispatch

abbrev object_in : TraceEvent → ℕ
object_in (Line.Solve object) = object.0
object_in line = 0

solve_of_line : (object : ObjectNo) (event : Event) → head_line event ≡ Line.Solve object
    → (dispatch : Dispatch) × ((event ≡ solved dispatch) × (dispatch.object ≡ object.0))
solve_of_line object (placed cell value) is = absurd (let no = ap line_code is in omega (arith, no))
solve_of_line object (opened step) is = absurd (let no = ap line_code is in omega (arith, no))
solve_of_line object (closed step) is = absurd (let no = ap line_code is in omega (arith, no))
solve_of_line object (idle other step looked) is = absurd (let no = ap line_code is in omega (arith, no))
solve_of_line object (solved dispatch) is = (dispatch, (refl, ap object_in is))
solve_of_line object (fired firing) is = absurd (let no = ap line_code is in omega (arith, no))
solve_of_line object (fault why) is = absurd (let no = ap line_code is in omega (arith, no))

-- the line of an event, and then the lines of what it asked for
told_text : (basin : Draft) (line : TraceEvent) (rest : List AskedLine) (text mid grown : List ℕ)
    → mid ≡ text ++ (line_words basin line ++ codes "\n") → grown ≡ mid ++ asked_lines_words basin rest
    → grown ≡ text ++ asked_lines_words basin (plain_line line ∷ rest)
told_text basin line rest text mid grown first is =
    is ∙ ap (λ t. t ++ asked_lines_words basin rest) first
    ∙ append_assoc text (line_words basin line ++ codes "\n") (asked_lines_words basin rest)

abbrev pub TellsDispatch : Draft → ℕ → Walk → (mid grown : List ℕ) → Result (Unit {0}) NoMemory → Type 0
TellsDispatch basin object walk mid grown result =
    (dispatch : Dispatch) → IsStep basin walk.step.0 → dispatched basin (held walk.series) object walk.step.0 ≡ solved dispatch
    → OnOk result ((grown ≡ mid ++ asked_lines_words basin (lines_of_asks (fates_alone (held walk.series) dispatch.asked)))
    × AreWrites basin dispatch.written)

pub solve_goes : (basin : Draft) (policy : Policy) (object : ObjectNo) (left : List TraceEvent) (log : Log) (whole : List ℕ) (walk new : Walk)
    (text mid grown : List ℕ) → IsWalkedTo basin policy (Line.Solve object ∷ left) log whole walk text
    → new.series ≡ walk.series → new.step ≡ walk.step
    → mid ≡ text ++ (line_words basin (Line.Solve object) ++ codes "\n") → (result : Result (Unit {0}) NoMemory)
    → TellsDispatch basin object.0 walk mid grown result → OnOk result (IsWalkedTo basin policy left log whole new grown)
solve_goes basin policy object left log whole walk new text mid grown stands same stays first (Err want) told = tt
solve_goes basin policy object left log whole walk new text mid grown stands same stays first (Ok done) told =
    let line = Line.Solve object in
    let b = begins basin policy line left log whole walk text stands refl in
    let found = solve_of_line object b.event b.is in
    let dispatch = found.0 in
    let is = found.1.0 in
    let object_is = found.1.1 in
    let made : (standing b.now ≡ inside dispatch.step)
    × (dispatched basin (cells_of basin b.now) dispatch.object dispatch.step ≡ solved dispatch)
    = subst (IsMade basin policy b.now) is b.made in
    let at : (dispatch.step ≡ walk.step.0) × IsStep basin walk.step.0
    = subst (λ where_it. IsAtStep basin where_it walk.step.0) made.0 b.at in
    let tells = told dispatch at.1 (ap (λ cells. dispatched basin cells object.0 walk.step.0) (sym b.cells)
    ∙ ap₂ (dispatched basin (cells_of basin b.now)) (sym object_is) (sym at.0) ∙ made.1) in
    goes_on basin policy line left log whole walk text b new grown same
    (subst (λ event. AreWrites basin (written_by event)) (sym is) tells.1)
    (subst (λ event. IsAtStep basin (standing (event ∷ b.now)) new.step.0) (sym is)
    (subst (λ (n : StepNo). IsAtStep basin (inside dispatch.step) n.0) (sym stays) at))
    (told_text basin line (lines_of_asks (fates_alone (held walk.series) dispatch.asked)) text mid grown first tells.0
    ∙ ap (λ cells. text ++ asked_lines_words basin (plain_line line ∷ lines_of_asks (fates_alone cells dispatch.asked))) (sym b.cells)
    ∙ ap (λ one. text ++ asked_lines_words basin (plain_line one ∷ lines_of_asks (fates_alone (cells_of basin b.now) dispatch.asked)))
    (sym b.is ∙ ap head_line is)
    ∙ ap (λ event. text ++ asked_lines_words basin (asked_lines basin policy (cells_of basin b.now) event)) (sym is))

-- ---- a firing

abbrev rule_in : TraceEvent → ℕ
rule_in (Line.Fire rule done count) = rule.0
rule_in line = 0

abbrev done_in : TraceEvent → Bool
done_in (Line.Fire rule done count) = done
done_in line = false

firing_of_line : (rule : RuleNo) (done : Bool) (count : ℕ) (event : Event) → head_line event ≡ Line.Fire rule done count
    → (firing : Firing) × ((event ≡ fired firing) × ((firing.rule ≡ rule.0) × (firing.is_done ≡ done)))
firing_of_line rule done count (placed cell value) is = absurd (let no = ap line_code is in omega (arith, no))
firing_of_line rule done count (opened step) is = absurd (let no = ap line_code is in omega (arith, no))
firing_of_line rule done count (closed step) is = absurd (let no = ap line_code is in omega (arith, no))
firing_of_line rule done count (idle other step looked) is = absurd (let no = ap line_code is in omega (arith, no))
firing_of_line rule done count (solved dispatch) is = absurd (let no = ap line_code is in omega (arith, no))
firing_of_line rule done count (fired firing) is = (firing, (refl, (ap rule_in is, ap done_in is)))
firing_of_line rule done count (fault why) is = absurd (let no = ap line_code is in omega (arith, no))

-- what is wanted by a firing that came to its end or not
abbrev pub wanted_where : Bool → ℕ → ℕ → Option Fire → List Asked
wanted_where done rule step found = if done then wanted_of rule step found else []

abbrev pub TellsFiring : Draft → List Block → ℕ → Bool → Walk → (mid grown : List ℕ) → Result (Unit {0}) NoMemory → Type 0
TellsFiring basin blocks rule done walk mid grown result =
    (fire : Fire) → IsStep basin walk.step.0
    → fire_of_code blocks basin rule walk.step.0 (value_in (held walk.series)) ≡ Some fire
    → OnOk result (grown ≡ mid
    ++ asked_lines_words basin (lines_of_asks (fates_of basin (held walk.series) (wanted_where done rule walk.step.0 (Some fire)))))

pub fire_goes : (basin : Draft) (blocks : List Block) (rule : RuleNo) (done : Bool) (count : ℕ) (left : List TraceEvent) (log : Log)
    (whole : List ℕ) (walk new : Walk) (text mid grown : List ℕ)
    → IsWalkedTo basin (policy_of_code basin blocks) (Line.Fire rule done count ∷ left) log whole walk text
    → new.series ≡ walk.series → new.step ≡ walk.step
    → mid ≡ text ++ (line_words basin (Line.Fire rule done count) ++ codes "\n") → (result : Result (Unit {0}) NoMemory)
    → TellsFiring basin blocks rule.0 done walk mid grown result
    → OnOk result (IsWalkedTo basin (policy_of_code basin blocks) left log whole new grown)
fire_goes basin blocks rule done count left log whole walk new text mid grown stands same stays first (Err want) told = tt
fire_goes basin blocks rule done count left log whole walk new text mid grown stands same stays first (Ok finished) told =
    let policy = policy_of_code basin blocks in
    let line = Line.Fire rule done count in
    let b = begins basin policy line left log whole walk text stands refl in
    let cells = cells_of basin b.now in
    let found = firing_of_line rule done count b.event b.is in
    let firing = found.0 in
    let is = found.1.0 in
    let rule_is = found.1.1.0 in
    let done_is = found.1.1.1 in
    let made : (standing b.now ≡ inside firing.step)
    × ((fire : Fire) × (fire_of_code blocks basin firing.rule firing.step (value_in cells) ≡ Some fire))
    = subst (IsMade basin policy b.now) is b.made in
    let fire = made.1.0 in
    let fires = made.1.1 in
    let at : (firing.step ≡ walk.step.0) × IsStep basin walk.step.0
    = subst (λ where_it. IsAtStep basin where_it walk.step.0) made.0 b.at in
    let own = subst (IsOwn basin policy cells) is (may_own basin policy b.now b.event b.may) in
    let tells = told fire at.1 (ap (λ seen. fire_of_code blocks basin rule.0 walk.step.0 (value_in seen)) (sym b.cells)
    ∙ ap₂ (λ r s. fire_of_code blocks basin r s (value_in cells)) (sym rule_is) (sym at.0) ∙ fires) in
    let wants : wanted_by policy cells firing ≡ wanted_where done rule.0 walk.step.0 (Some fire)
    = ap (λ k. wanted_where k firing.rule firing.step (fire_of_code blocks basin firing.rule firing.step (value_in cells))) done_is
    ∙ ap (wanted_where done firing.rule firing.step) fires
    ∙ ap₂ (λ r s. wanted_where done r s (Some fire)) rule_is at.0 in
    goes_on basin policy line left log whole walk text b new grown same
    (subst (λ event. AreWrites basin (written_by event)) (sym is)
    (firing_within basin policy cells firing fire fires (subst (IsStep basin) (sym at.0) at.1)
    (code_asks blocks basin firing.rule firing.step (value_in cells) fire fires) own.0))
    (subst (λ event. IsAtStep basin (standing (event ∷ b.now)) new.step.0) (sym is)
    (subst (λ (n : StepNo). IsAtStep basin (inside firing.step) n.0) (sym stays) at))
    (told_text basin line (lines_of_asks (fates_of basin (held walk.series) (wanted_where done rule.0 walk.step.0 (Some fire))))
    text mid grown first tells
    ∙ ap (λ seen. text ++ asked_lines_words basin
    (plain_line line ∷ lines_of_asks (fates_of basin seen (wanted_where done rule.0 walk.step.0 (Some fire)))))
    (sym b.cells)
    ∙ ap (λ puts. text ++ asked_lines_words basin (plain_line line ∷ lines_of_asks (fates_of basin cells puts))) (sym wants)
    ∙ ap (λ one. text ++ asked_lines_words basin (plain_line one ∷ lines_of_asks (fates_of basin cells (wanted_by policy cells firing))))
    (sym b.is ∙ ap head_line is)
    ∙ ap (λ event. text ++ asked_lines_words basin (asked_lines basin policy cells event)) (sym is))

-- ---- a put that is written

abbrev pub Writes : Draft → Asked → Walk → Walk → Type 0
Writes basin put walk new =
    CanWrite basin put → (cell : Cell) → held new.series cell ≡ option_or (last_put basin (put ∷ []) cell) (held walk.series cell)

module _ (basin : Draft) (policy : Policy) (write : Asked) (left : List TraceEvent) (log : Log) (whole : List ℕ) (walk new : Walk) (text : List ℕ)
    (step_is : new.step ≡ walk.step) (writes : Writes basin write walk new) where
  write_by : (now : Log) (events : List Event) (pending : List Asked) → MayLead basin policy now events log
      → line_of write ∷ left ≡ map line_of pending ++ flat_map lines events
      → ((cell : Cell) → cells_of basin now cell ≡ option_or (last_put basin pending cell) (held walk.series cell))
      → AreWrites basin pending → IsAtStep basin (standing now) walk.step.0
      → text ++ asked_lines_words basin (asked_after basin policy now events) ≡ whole
      → IsWalkedTo basin policy left log whole new text
  write_by now [] [] leads are cells can at is = absurd (let no = ap length are in omega (arith, no))
  write_by now (event ∷ events) [] leads are cells can at is =
      let made = may_made basin policy now event leads.0 in
      let both = are ∙ ap (λ these. these ++ flat_map lines events) (lines_split basin policy now event made) in
      absurd (false≢true (sym (head_is_none event) ∙ sym (ap (λ these. is_put (first_line these)) both)))
  write_by now events (put ∷ pending) leads are cells can at is =
      let same : write ≡ put = same_Some _ _ (ap (λ these. put_in_line (first_line these)) are) in
      let wrote = writes (subst (CanWrite basin) (sym same) (All-head (CanWrite basin) put pending can)) in
      record {
        now = now;
        events = events;
        pending = pending;
        leads = leads;
        lines_are = ap lines_behind are;
        cells = λ cell.
            cells cell
            ∙ option_or_joined (last_put basin pending cell) (if is_shared basin put.cell cell then Some put.content else None) (held walk.series cell)
            ∙ ap (λ (one : Asked). option_or (last_put basin pending cell) (option_or (last_put basin (one ∷ []) cell) (held walk.series cell)))
            (sym same)
            ∙ ap (option_or (last_put basin pending cell)) (sym (wrote cell));
        can = All-tail (CanWrite basin) put pending can;
        at = subst (λ (n : StepNo). IsAtStep basin (standing now) n.0) (sym step_is) at;
        text_is = is;
      }

  pub write_goes : IsWalkedTo basin policy (line_of write ∷ left) log whole walk text → IsWalkedTo basin policy left log whole new text
  write_goes stands =
      write_by stands.now stands.events stands.pending stands.leads stands.lines_are stands.cells stands.can stands.at stands.text_is

-- ---- from the first line to the last

may_after : (basin : Draft) (policy : Policy) (old : Log) (events : List Event) (log : Log) → MayLead basin policy old events log
    → log ≡ log_after events old
may_after basin policy old [] log leads = leads
may_after basin policy old (event ∷ events) log leads = may_after basin policy (event ∷ old) events log leads.1

asked_placed : (basin : Draft) (policy : Policy) (log : Log) (inputs : List (Cell × ℤ))
    → asked_trace basin policy (with_inputs log inputs) ≡ asked_trace basin policy log
asked_placed basin policy log [] = refl
asked_placed basin policy log (input ∷ inputs) =
    asked_placed basin policy (placed input.0 input.1 ∷ log) inputs ∙ append-nil (asked_trace basin policy log)

pub stands_first : (basin : Draft) (policy : Policy) (inputs : List (Cell × ℤ)) (log : Log) (events : List Event) (told : List TraceEvent)
    (walk : Walk) (text : List ℕ) → MayLead basin policy (with_inputs [] inputs) events log → told ≡ trace_of log
    → ((cell : Cell) → held walk.series cell ≡ cells_of basin (with_inputs [] inputs) cell)
    → IsWalkedTo basin policy told log (text ++ asked_lines_words basin (asked_trace basin policy log)) walk text
stands_first basin policy inputs log events told walk text leads are cells =
    let first : Log = with_inputs [] inputs in
    let after = may_after basin policy first events log leads in
    record {
      now = first;
      events = events;
      pending = [];
      leads = leads;
      lines_are = are ∙ ap trace_of after ∙ trace_after events first ∙ ap (λ these. these ++ flat_map lines events) (trace-placed [] inputs);
      cells = λ cell. sym (cells cell);
      can = All-nil (CanWrite basin);
      at = subst (λ where_it. IsAtStep basin where_it walk.step.0) (sym (standing-placed [] inputs refl)) tt;
      text_is = ap (λ these. text ++ asked_lines_words basin these)
          (sym (ap (asked_trace basin policy) after ∙ appended basin policy first events
          ∙ ap (λ these. these ++ asked_after basin policy first events) (asked_placed basin policy [] inputs)));
    }

end_by : (basin : Draft) (policy : Policy) (log : Log) (whole text : List ℕ) (now : Log) (events : List Event) (pending : List Asked)
    → MayLead basin policy now events log → [] ≡ map line_of pending ++ flat_map lines events
    → text ++ asked_lines_words basin (asked_after basin policy now events) ≡ whole → text ≡ whole
end_by basin policy log whole text now events (put ∷ pending) leads are is = absurd (let no = ap length are in omega (arith, no))
end_by basin policy log whole text now [] [] leads are is = sym (append-nil text) ∙ is
end_by basin policy log whole text now (event ∷ events) [] leads are is =
    let made = may_made basin policy now event leads.0 in
    let both = are ∙ ap (λ these. these ++ flat_map lines events) (lines_split basin policy now event made) in
    absurd (let no = ap length both in omega (arith, no))

pub stands_last : (basin : Draft) (policy : Policy) (log : Log) (whole text : List ℕ) (walk : Walk) → IsWalkedTo basin policy [] log whole walk text
    → text ≡ whole
stands_last basin policy log whole text walk stands =
    end_by basin policy log whole text stands.now stands.events stands.pending stands.leads stands.lines_are stands.text_is

pub tells_done : (basin : Draft) (blocks : List Block) (rule : ℕ) (done : Bool) (walk : Walk) (mid grown : List ℕ)
    (result : Result (Unit {0}) NoMemory)
    → done ≡ true → TellsFiring basin blocks rule true walk mid grown result → TellsFiring basin blocks rule done walk mid grown result
tells_done basin blocks rule done walk mid grown result is told = subst (λ k. TellsFiring basin blocks rule k walk mid grown result) (sym is) told

pub tells_none : (basin : Draft) (blocks : List Block) (rule : ℕ) (done : Bool) (walk : Walk) (mid : List ℕ) → done ≡ false
    → TellsFiring basin blocks rule done walk mid mid (Ok tt)
tells_none basin blocks rule done walk mid is =
    subst (λ k. TellsFiring basin blocks rule k walk mid mid (Ok tt)) (sym is) (λ fire at fires. sym (append-nil mid))
