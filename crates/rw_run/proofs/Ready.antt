-- Who waits has a balance: no data object waits.
use Rattle.rw_base.proofs.Common.{◌≡◌, ℕ, Bool, true, false, not, ◌&&◌, List, length, All, Option, Some, None, refl, All-append, filter_passes}
use Rattle.rw_model.specs.Draft.{Draft}
use Rattle.rw_run.specs.Log.{Event, opened, solved, fired}
use Rattle.rw_model.specs.Turn.{is_data}
use Rattle.rw_run.specs.Waiting.{numbers, all_waiting, is_woken, woken, slots_at, queued_after}

-- no object of the list is a data object
abbrev pub AreReady : Draft → List ℕ → Type 0
AreReady basin queue = All (λ object. is_data basin object ≡ false) queue

not_true : (a : Bool) → not a ≡ true → a ≡ false
not_true true e = absurd (cc)
not_true false e = refl

not_first : (a b : Bool) → not a && b ≡ true → a ≡ false
not_first true b e = absurd (cc)
not_first false b e = refl

pub all_waiting-ready : (basin : Draft) → AreReady basin (all_waiting basin)
all_waiting-ready basin =
    λ k d lt. not_true _ (filter_passes (λ object. not (is_data basin object)) (numbers (length basin.objects)) k d lt)

pub woken-ready : (basin : Draft) (but : Option ℕ) (queue slots : List ℕ) → AreReady basin (woken basin but queue slots)
woken-ready basin but queue slots =
    λ k d lt. not_first _ _ (filter_passes (is_woken basin but queue slots) (numbers (length basin.objects)) k d lt)

-- nor is it after an event
pub queued_after-ready : (basin : Draft) (event : Event) (queue : List ℕ) → AreReady basin queue → AreReady basin (queued_after basin event queue)
queued_after-ready basin (opened step) queue ready = all_waiting-ready basin
queued_after-ready basin (solved dispatch) queue ready =
    All-append (λ object. is_data basin object ≡ false) queue (woken basin (Some dispatch.object) queue (slots_at dispatch.step dispatch.written))
    ready (woken-ready basin (Some dispatch.object) queue (slots_at dispatch.step dispatch.written))
queued_after-ready basin (fired firing) queue ready =
    All-append (λ object. is_data basin object ≡ false) queue (woken basin None queue (slots_at firing.step firing.written))
    ready (woken-ready basin None queue (slots_at firing.step firing.written))
queued_after-ready basin event queue ready = ready
