-- The events of a timestep follow in another log that holds alike what they look at, and marks that follow the puts keep an index.
use Rattle.rw_base.proofs.Common.{◌≡◌, ℕ, Bool, false, not, ◌||◌, List, [], ◌∷◌, Option, Some, None, refl, sym, ap, ap₂, subst, ◌∙◌}
use Rattle.rw_base.proofs.Common.{if◌then◌else◌, option_map, option_or, list_any}
use Rattle.rw_base.specs.declared.number.Cell.{Cell}
use Rattle.std.proofs.lemmas.Bool.{or_parts}
use Rattle.rw_model.specs.declared.content.Content.{Content}
use Rattle.rw_model.specs.Draft.{Draft}
use Rattle.rw_series.specs.Series.{is_shared}
use Rattle.rw_firing.specs.declared.look.Look.{Look}
use Rattle.rw_run.specs.Log.{Asked, Cells, Log, Event, placed, opened, closed, fault, cells_of, last_put}
use Rattle.rw_run.specs.Next.{Policy, next, is_changed, is_same_value}
use Rattle.rw_run.specs.Runs.{Leads, follows, follows_in, standing, Standing, rests, inside, over}
use Rattle.rw_run.specs.Frame.{IsFault, looked_in, AreAlike, FollowInStep, IsFramed, IsStepFrom, log_after}
use Rattle.rw_run.specs.Index.{IsIndex, is_touched, MarksTouched}
use Rattle.rw_run.proofs.Frames.{frame}

-- ---- events of a timestep follow as long as it is open

stands_by : (event : Event) (log : Log) → standing (event ∷ log) ≡ standing (event ∷ [])
stands_by (placed cell value) log = refl
stands_by event log = refl

abbrev IsGoingOn : Standing → Type 0
IsGoingOn (rests step) = Unit {0}
IsGoingOn (inside step) = Unit {0}
IsGoingOn over = ⊥

fault_is_over : (event : Event) → IsFault event → standing (event ∷ []) ≡ over
fault_is_over (fault found) why = refl
fault_is_over event why = absurd why

no_fault : (event : Event) (step : ℕ) → standing (event ∷ []) ≡ inside step → ¬ IsFault event
no_fault event step s why = subst IsGoingOn (sym s ∙ fault_is_over event why) tt

inside_next : (basin : Draft) (policy : Policy) (old : Log) (step : ℕ) → standing old ≡ inside step
    → follows basin policy old ≡ next basin policy step old
inside_next basin policy old step s = ap (follows_in basin policy old) s

closes_fine : (step : ℕ) (event : Event) → event ≡ closed step → ¬ IsFault event
closes_fine step event is why = subst IsFault is why

to_goes : (basin : Draft) (policy : Policy) (step : ℕ) (old : Log) (event : Event) (events : List Event) (end : Log) → standing old ≡ inside step
    → IsStepFrom step event events → Leads basin policy old (event ∷ events) end → FollowInStep basin policy step old (event ∷ events)
to_goes basin policy step old event [] end s i l =
    (sym (inside_next basin policy old step s) ∙ l.0, closes_fine step event i, tt)
to_goes basin policy step old event (later ∷ events) end s i l = (
  sym (inside_next basin policy old step s) ∙ l.0,
  no_fault event step i.0,
  to_goes basin policy step (event ∷ old) later events end (stands_by event old ∙ i.0) i.1 l.1,
)

from_goes : (basin : Draft) (policy : Policy) (step : ℕ) (old : Log) (event : Event) (events : List Event) → standing old ≡ inside step
    → IsStepFrom step event events → FollowInStep basin policy step old (event ∷ events)
    → Leads basin policy old (event ∷ events) (log_after (event ∷ events) old)
from_goes basin policy step old event [] s i g = (inside_next basin policy old step s ∙ g.0, refl)
from_goes basin policy step old event (later ∷ events) s i g =
    (inside_next basin policy old step s ∙ g.0, from_goes basin policy step (event ∷ old) later events (stands_by event old ∙ i.0) i.1 g.2)

pub reuse : (basin : Draft) (policy : Policy) (step : ℕ) (x y end : Log) (event : Event) (events : List Event) → IsFramed policy
    → IsStepFrom step event events
    → Leads basin policy (opened step ∷ x) (event ∷ events) end → AreAlike (cells_of basin x) (cells_of basin y) (looked_in (event ∷ events))
    → Leads basin policy (opened step ∷ y) (event ∷ events) (log_after (event ∷ events) (opened step ∷ y))
reuse basin policy step x y end event events framed i l a =
    from_goes basin policy step (opened step ∷ y) event events refl i
    (frame basin policy step x y (event ∷ events) framed (to_goes basin policy step (opened step ∷ x) event events end refl i l) a)

-- ---- marks

apart : (basin : Draft) (puts : List Asked) (cell : Cell) → list_any (λ (put : Asked). is_shared basin put.cell cell) puts ≡ false
    → last_put basin puts cell ≡ None
apart basin [] cell e = refl
apart basin (put ∷ puts) cell e =
    let h = or_parts (is_shared basin put.cell cell) _ e in
    ap₂ (λ rest test. option_or rest (if test then Some put.content else None)) (apart basin puts cell h.1) h.0

still : (basin : Draft) (cells : Cells) (puts : List Asked) (looks : List Look) → is_touched basin puts looks ≡ false
    → is_changed (λ cell. option_or (last_put basin puts cell) (cells cell)) (Some looks) ≡ is_changed cells (Some looks)
still basin cells puts [] e = refl
still basin cells puts (look ∷ looks) e =
    let h = or_parts (list_any (λ (put : Asked). is_shared basin put.cell look.cell) puts) _ e in
    ap₂ (λ z rest. not (is_same_value look.seen (option_map (λ (content : Content). content.value) z)) || rest)
    (ap (λ z. option_or z (cells look.cell)) (apart basin puts look.cell h.0)) (still basin cells puts looks h.1)

pub index : (basin : Draft) (cells : Cells) (puts : List Asked) (looked : ℕ → Option (List Look)) (was_marked is_marked : ℕ → Bool)
    → MarksTouched basin puts looked was_marked is_marked → IsIndex cells looked was_marked
    → IsIndex (λ cell. option_or (last_put basin puts cell) (cells cell)) looked is_marked
index basin cells puts looked was_marked is_marked marks was =
    λ rule looks unmarked there. let fine = marks rule looks unmarked there in still basin cells puts looks fine.1 ∙ was rule looks fine.0 there
