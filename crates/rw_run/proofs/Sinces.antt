-- The look back finds the first event after the last dispatch that wakes the object.
use Rattle.rw_base.proofs.Common.{◌≡◌, ℕ, Bool, true, false, [], ◌∷◌, ◌++◌, length, Option, Some, None, refl, sym, ap, ◌∙◌, inl, inr, ◌⊎◌, ◌↔◌}
use Rattle.rw_base.proofs.Common.{if◌then◌else◌, option_or, same_Some, none-some}
use Rattle.rw_model.specs.Draft.{Draft}
use Rattle.rw_run.specs.Log.{Log, Event}
use Rattle.rw_run.specs.Waiting.{ends_wait, wakes, since}
use Rattle.rw_run.specs.Since.{NoneEnds, NoneWakes, WaitsSince}

-- none wakes, in bits
pub none_bits : (ends wakes : Bool) (s : Option ℕ) (n : ℕ) (P : Type 0) → (s ≡ None → P)
    → option_or (if ends then None else s) (if wakes then Some n else None) ≡ None → (wakes ≡ false) × ((ends ≡ true) ⊎ P)
none_bits true true s n P h e = absurd (none-some _ (sym e))
none_bits true false s n P h e = (refl, inl refl)
none_bits false w (Some q) n P h e = absurd (none-some _ (sym e))
none_bits false true None n P h e = absurd (none-some _ (sym e))
none_bits false false None n P h e = (refl, inr (h refl))

none_wakes : (basin : Draft) (log : Log) (object : ℕ) → since basin log object ≡ None → NoneWakes basin log object
none_wakes basin [] object e = tt
none_wakes basin (event ∷ log) object e =
    none_bits (ends_wait event object) (wakes basin event object) (since basin log object) (length log) (NoneWakes basin log object)
    (none_wakes basin log object) e

none_again : (ends : Bool) (s : Option ℕ) → (ends ≡ true) ⊎ (s ≡ None) → (if ends then None else s) ≡ None
none_again true s h = refl
none_again false s h = elim h [ inl e ↦ absurd (cc) | inr e ↦ e ]

either_none : {P Q R : Type 0} → (P → Q) → R ⊎ P → R ⊎ Q
either_none f (inl r) = inl r
either_none f (inr p) = inr (f p)

waits_none : (basin : Draft) (log : Log) (object : ℕ) → NoneWakes basin log object → since basin log object ≡ None
waits_none basin [] object n = refl
waits_none basin (event ∷ log) object n =
    ap (λ w. option_or (if ends_wait event object then None else since basin log object) (if w then Some (length log) else None)) n.0
    ∙ ap (λ z. option_or z None) (none_again (ends_wait event object) (since basin log object) (either_none (waits_none basin log object) n.1))

found : (basin : Draft) (newer : Log) (event : Event) (before : Log) (object : ℕ) → wakes basin event object ≡ true → NoneEnds newer object
    → (ends_wait event object ≡ true) ⊎ NoneWakes basin before object → since basin (newer ++ event ∷ before) object ≡ Some (length before)
found basin [] event before object w n f =
    ap (λ z. option_or z (if wakes basin event object then Some (length before) else None))
    (none_again (ends_wait event object) (since basin before object) (either_none (waits_none basin before object) f))
    ∙ ap (λ z. if z then Some (length before) else None) w
found basin (x ∷ newer) event before object w n f =
    ap (λ c. option_or (if c then None else since basin (newer ++ event ∷ before) object)
    (if wakes basin x object then Some (length (newer ++ event ∷ before)) else None)) n.0
    ∙ ap (λ z. option_or z (if wakes basin x object then Some (length (newer ++ event ∷ before)) else None))
    (found basin newer event before object w n.1 f)

more : (basin : Draft) (x : Event) (log : Log) (object place : ℕ) → ends_wait x object ≡ false → WaitsSince basin log object place
    → WaitsSince basin (x ∷ log) object place
more basin x log object place e r = record {
  newer = x ∷ r.newer;
  event = r.event;
  before = r.before;
  whole = ap (λ z. x ∷ z) r.whole;
  at_place = r.at_place;
  wakes_it = r.wakes_it;
  none_ends = (e, r.none_ends);
  is_first = r.is_first;
}

here : (basin : Draft) (x : Event) (log : Log) (object place : ℕ) → length log ≡ place → wakes basin x object ≡ true
    → (ends_wait x object ≡ true) ⊎ NoneWakes basin log object → WaitsSince basin (x ∷ log) object place
here basin x log object place l w f =
    record { newer = []; event = x; before = log; whole = refl; at_place = l; wakes_it = w; none_ends = tt; is_first = f }

by_bits : (basin : Draft) (x : Event) (log : Log) (object place : ℕ) (ends wakes_it : Bool) (s : Option ℕ) → ends_wait x object ≡ ends
    → wakes basin x object ≡ wakes_it → since basin log object ≡ s → (since basin log object ≡ Some place → WaitsSince basin log object place)
    → option_or (if ends then None else s) (if wakes_it then Some (length log) else None) ≡ Some place → WaitsSince basin (x ∷ log) object place
by_bits basin x log object place true true s i j k h e = here basin x log object place (same_Some _ _ e) j (inl i)
by_bits basin x log object place true false s i j k h e = absurd (none-some _ e)
by_bits basin x log object place false w (Some q) i j k h e = more basin x log object place i (h (k ∙ e))
by_bits basin x log object place false true None i j k h e = here basin x log object place (same_Some _ _ e) j (inr (none_wakes basin log object k))
by_bits basin x log object place false false None i j k h e = absurd (none-some _ e)

waits : (basin : Draft) (log : Log) (object place : ℕ) → since basin log object ≡ Some place → WaitsSince basin log object place
waits basin [] object place e = absurd (none-some _ e)
waits basin (x ∷ log) object place e =
    by_bits basin x log object place (ends_wait x object) (wakes basin x object) (since basin log object) refl refl refl
    (waits basin log object place) e

pub since_is : (basin : Draft) (log : Log) (object place : ℕ) → (since basin log object ≡ Some place) ↔ WaitsSince basin log object place
since_is basin log object place = (
  waits basin log object place,
  λ r. ap (λ z. since basin z object) r.whole ∙ found basin r.newer r.event r.before object r.wakes_it r.none_ends r.is_first ∙ ap Some r.at_place,
)
