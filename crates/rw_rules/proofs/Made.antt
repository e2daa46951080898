-- What rules have when they are made, when a timestep begins, and when one has fired.
use Rattle.rw_base.proofs.Common.{◌≡◌, ◌∙◌, ℕ, zero, suc, ◌-◌, ◌<◌, List, [], ◌∷◌, None, Some, ap, arith, get_or-map, get_or-set_same, length}
use Rattle.rw_base.proofs.Common.{length-map, map, refl, slice_index_or}
use Rattle.rw_model.proofs.Common.{Draft}
use Rattle.rw_firing.specs.declared.look.Look.{Look}
use Rattle.rw_run.specs.Log.{Asked}
use Rattle.rw_agenda.specs.Agenda.{Agenda, Entry, IsListed, after_firing, forgotten, looked_by, look_room, unfired}
use Rattle.rpl_verify.specs.Verified.{Accepted}
use Rattle.rw_rules.specs.Firing.{AreReads, most_looks}
use Rattle.rw_rules.specs.Rules.{IsRulesOf}

none_looked : (entries : List Entry) (place : ℕ) → (slice_index_or (map forgotten entries) place (unfired 0)).looked ≡ None
none_looked [] place = refl
none_looked (entry ∷ entries) zero = refl
none_looked (entry ∷ entries) (suc place) = none_looked entries place

pub fresh : (agenda : Agenda) (entries : List Entry) (rule : ℕ) → agenda.rules ≡ map forgotten entries → looked_by agenda rule ≡ None
fresh agenda entries rule is =
    ap (λ (rules : List Entry). (slice_index_or rules (rule - 1) (unfired 0)).looked) is ∙ none_looked entries (rule - 1)

pub looked_after : (old new : Agenda) (rule : ℕ) (looks : List Look) → IsListed old rule → new.rules ≡ after_firing old rule looks
    → looked_by new rule ≡ Some looks
looked_after old new rule looks known is =
    ap (λ (rules : List Entry). (slice_index_or rules (rule - 1) (unfired 0)).looked) is
    ∙ ap (λ (e : Entry). e.looked)
    (get_or-set_same old.rules (rule - 1) (record { room = look_room old rule; looked = Some looks }) (unfired 0)
    (omega (arith, known.first, known.last)))

pub made_for : (basin : Draft) (policy : Accepted) (agenda : Agenda) (asked written : List Asked) (reads : List ℕ)
    → agenda.order ≡ basin.control.agenda
    → agenda.rules ≡ map unfired reads → AreReads policy reads → IsRulesOf basin policy (record { agenda = agenda; asked = asked; written = written })
made_for basin policy agenda asked written reads order is each = record {
  order = order;
  many = ap (λ (rules : List Entry). length rules) is ∙ length-map reads unfired ∙ each.many;
  rooms = λ rule first last.
      let near : rule - 1 < length reads = omega (arith, first, last, each.many) in
      let room : look_room agenda rule ≡ most_looks policy rule =
      ap (λ (rules : List Entry). (slice_index_or rules (rule - 1) (unfired 0)).room) is
      ∙ ap (λ (e : Entry). e.room) (get_or-map unfired reads (rule - 1) 0 (unfired 0) near) ∙ each.each rule first last in
      omega (arith, room);
}
