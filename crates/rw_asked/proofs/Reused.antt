-- The lines of a timestep with all puts are alike where the cells are alike at which it looked or which it asked for.
use Rattle.rw_base.proofs.Common.{◌≡◌, ℕ, Bool, true, false, cond, List, [], ◌∷◌, ◌++◌, map}
use Rattle.rw_base.proofs.Common.{refl, sym, ap, ap₂, subst, ◌∙◌, if◌then◌else◌, filter, append_assoc}
use Rattle.rw_run.proofs.Frames.{alike_left, alike_over, alike_right, alike_values}
use Rattle.rw_model.specs.Draft.{Draft}
use Rattle.rw_firing.specs.Fire.{Fire}
use Rattle.rw_run.specs.Log.{Asked, Cells, Dispatch, Event, Firing, Log, placed, opened, closed, idle, solved, fired, fault, cells_of, value_in}
use Rattle.rw_run.specs.Frame.{AreAlike, IsFramed, cells_asked, cells_looked, cells_of_event, log_after, looked_in}
use Rattle.rw_run.specs.Next.{Policy, is_put_again}
use Rattle.rw_run.specs.Runs.{Leads}
use Rattle.rw_asked.specs.declared.fate.Fate.TheVariants.{Again, Late}
use Rattle.rw_asked.specs.Asked.{Ask, plain_line, asked_after, asked_lines, asked_trace, fate_over, fates_alone, fates_of, line_of_event, is_in_run, lines_of_asks, wanted_by, wanted_of}
use Rattle.rw_asked.proofs.Follow.{IsFiredBy, IsOwn, own}

-- ---- the fates of puts

alone_alike : (f g : Cells) (puts : List Asked) → AreAlike f g (cells_asked puts) → fates_alone f puts ≡ fates_alone g puts
alone_alike f g [] a = refl
alone_alike f g (put ∷ puts) a =
    ap₂ (λ z zs. record { put = put; fate = fate_over z put.content } ∷ zs) a.0 (alone_alike f g puts a.1)

tail_alike : (f g : Cells) (put : Asked) (those : List Asked) (inside : Bool) → AreAlike f g (cells_asked (cond inside (put ∷ those) those))
    → AreAlike f g (cells_asked those)
tail_alike f g put those true a = a.1
tail_alike f g put those false a = a

fate_alike : (f g : Cells) (put : Asked) (those : List Asked) (inside again : Bool) → AreAlike f g (cells_asked (cond inside (put ∷ those) those))
    → (if inside then (if again then Again else fate_over (f put.cell) put.content) else Late)
    ≡ (if inside then (if again then Again else fate_over (g put.cell) put.content) else Late)
fate_alike f g put those true again a = ap (λ z. if again then Again else fate_over z put.content) a.0
fate_alike f g put those false again a = refl

fates_alike : (basin : Draft) (f g : Cells) (puts : List Asked) → AreAlike f g (cells_asked (filter (is_in_run basin) puts))
    → fates_of basin f puts ≡ fates_of basin g puts
fates_alike basin f g [] a = refl
fates_alike basin f g (put ∷ puts) a =
    ap₂ (λ z zs. record { put = put; fate = z } ∷ zs)
    (fate_alike f g put (filter (is_in_run basin) puts) (is_in_run basin put) (is_put_again basin put puts) a)
    (fates_alike basin f g puts (tail_alike f g put (filter (is_in_run basin) puts) (is_in_run basin put) a))

-- ---- the lines of an event

wanted_alike : (policy : Policy) (f g : Cells) (firing : Firing) → IsFramed policy → IsFiredBy policy f firing
    → AreAlike f g (cells_looked firing.looked) → wanted_by policy f firing ≡ wanted_by policy g firing
wanted_alike policy f g firing framed by a =
    let there = framed firing.rule firing.step (value_in f) (value_in g) by.fire by.is
    (alike_values f g by.fire.looked (subst (AreAlike f g) by.looked a)) in
    ap (λ found. if firing.is_done then wanted_of firing.rule firing.step found else []) (by.is ∙ sym there)

lines_alike : (basin : Draft) (policy : Policy) (f g : Cells) (event : Event) → IsFramed policy → IsOwn basin policy f event
    → AreAlike f g (cells_of_event event) → asked_lines basin policy f event ≡ asked_lines basin policy g event
lines_alike basin policy f g (placed cell value) framed o a = refl
lines_alike basin policy f g (opened step) framed o a = refl
lines_alike basin policy f g (closed step) framed o a = refl
lines_alike basin policy f g (idle object step looked) framed o a = refl
lines_alike basin policy f g (fault why) framed o a = refl
lines_alike basin policy f g (solved dispatch) framed o a =
    ap (λ asks. map plain_line (line_of_event (solved dispatch)) ++ lines_of_asks asks)
    (alone_alike f g dispatch.asked (alike_right f g (cells_looked dispatch.looked) (cells_asked dispatch.asked) a))
lines_alike basin policy f g (fired firing) framed o a =
    let looked = alike_left f g (cells_looked firing.looked) (cells_asked firing.asked) a in
    let asked = alike_right f g (cells_looked firing.looked) (cells_asked firing.asked) a in
    ap (λ asks. map plain_line (line_of_event (fired firing)) ++ lines_of_asks asks)
    (fates_alike basin f g (wanted_by policy f firing) (subst (λ puts. AreAlike f g (cells_asked puts)) o.1.0 asked)
    ∙ ap (fates_of basin g) (wanted_alike policy f g firing framed o.1.1 looked))

-- ---- those of a timestep

step_alike : (basin : Draft) (policy : Policy) (step : ℕ) (x y end : Log) → IsFramed policy → (done : Log) (events : List Event)
    → Leads basin policy (done ++ opened step ∷ x) events end → AreAlike (cells_of basin x) (cells_of basin y) (looked_in events)
    → asked_after basin policy (done ++ opened step ∷ x) events ≡ asked_after basin policy (done ++ opened step ∷ y) events
step_alike basin policy step x y end framed done [] leads a = refl
step_alike basin policy step x y end framed done (event ∷ events) leads a =
    let u : Log = done ++ opened step ∷ x in
    let v : Log = done ++ opened step ∷ y in
    let here = alike_left (cells_of basin x) (cells_of basin y) (cells_of_event event) (looked_in events) a in
    let later = alike_right (cells_of basin x) (cells_of basin y) (cells_of_event event) (looked_in events) a in
    ap₂ (λ xs ys. xs ++ ys)
    (lines_alike basin policy (cells_of basin u) (cells_of basin v) event framed (own basin policy u event leads.0)
    (alike_over basin done step x y (cells_of_event event) here))
    (step_alike basin policy step x y end framed (event ∷ done) events leads.1 later)

pub taken_over : (basin : Draft) (policy : Policy) (step : ℕ) (old other end : Log) (events : List Event) → IsFramed policy
    → Leads basin policy (opened step ∷ old) events end → AreAlike (cells_of basin old) (cells_of basin other) (looked_in events)
    → asked_after basin policy (opened step ∷ old) events ≡ asked_after basin policy (opened step ∷ other) events
taken_over basin policy step old other end events framed leads a = step_alike basin policy step old other end framed [] events leads a

with_nothing : {A : Type 0} (xs : List A) → xs ++ [] ≡ xs
with_nothing [] = refl
with_nothing (x ∷ xs) = ap (λ zs. x ∷ zs) (with_nothing xs)

pub appended : (basin : Draft) (policy : Policy) (log : Log) (events : List Event)
    → asked_trace basin policy (log_after events log) ≡ asked_trace basin policy log ++ asked_after basin policy log events
appended basin policy log [] = sym (with_nothing (asked_trace basin policy log))
appended basin policy log (event ∷ events) =
    appended basin policy (event ∷ log) events
    ∙ append_assoc (asked_trace basin policy log) (asked_lines basin policy (cells_of basin log) event)
    (asked_after basin policy (event ∷ log) events)
