-- Rules that looked at nothing are known to hold what they saw.
use Rattle.rw_base.proofs.Common.{◌≡◌, ℕ, zero, suc, ◌-◌, false, List, [], ◌∷◌, Option, Some, None, refl, ap, subst, none-some, slice_index_or}
use Rattle.rw_firing.specs.declared.look.Look.{Look}
use Rattle.rw_run.specs.Index.{IsIndex}
use Rattle.rw_run.specs.Log.{Cells}
use Rattle.rw_run.specs.Next.{is_changed}
use Rattle.rw_agenda.specs.Agenda.{Agenda, Entry, is_marked, looked_by, unfired}

abbrev Holds : Cells → Option (List Look) → Type 0
Holds cells looked = (looks : List Look) → looked ≡ Some looks → is_changed cells (Some looks) ≡ false

unfired_holds : (cells : Cells) → Holds cells None
unfired_holds cells looks is = absurd (none-some looks is)

nothing_holds : (cells : Cells) → Holds cells (Some [])
nothing_holds cells looks is = subst (λ o. is_changed cells o ≡ false) is refl

both : (cells : Cells) (one other : Entry) (place : ℕ) → Holds cells one.looked → Holds cells other.looked
    → Holds cells (slice_index_or (one ∷ other ∷ []) place (unfired 0)).looked
both cells one other zero h g = h
both cells one other (suc zero) h g = g
both cells one other (suc (suc place)) h g = unfired_holds cells

two : (agenda : Agenda) (cells : Cells) (one other : Entry) → agenda.rules ≡ one ∷ other ∷ [] → Holds cells one.looked → Holds cells other.looked
    → IsIndex cells (looked_by agenda) (is_marked agenda)
two agenda cells one other are h g rule looks unmarked is =
    both cells one other (rule - 1) h g looks (subst (λ rules. (slice_index_or rules (rule - 1) (unfired 0)).looked ≡ Some looks) are is)

-- the first looked at nothing, and the second hasn't fired
pub after_first : (agenda : Agenda) (cells : Cells) (room : ℕ) → agenda.rules ≡ record { room = room; looked = Some [] } ∷ unfired 0 ∷ []
    → IsIndex cells (looked_by agenda) (is_marked agenda)
after_first agenda cells room are =
    two agenda cells (record { room = room; looked = Some [] }) (unfired 0) are (nothing_holds cells) (unfired_holds cells)

-- both looked at nothing
pub after_both : (agenda : Agenda) (cells : Cells) (room other : ℕ)
    → agenda.rules ≡ record { room = room; looked = Some [] } ∷ record { room = other; looked = Some [] } ∷ []
    → IsIndex cells (looked_by agenda) (is_marked agenda)
after_both agenda cells room other are =
    two agenda cells (record { room = room; looked = Some [] }) (record { room = other; looked = Some [] }) are (nothing_holds cells)
    (nothing_holds cells)
