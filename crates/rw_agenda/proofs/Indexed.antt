-- What is known of the cells of rules that aren't marked stays known.
use Rattle.rw_base.proofs.Common.{◌≡◌, ◌∙◌, ◌≢◌, ◌⊎◌, ℕ, ◌+◌, ◌-◌, ◌<◌, ◌≤◌, Bool, true, false, List, Option, None, Some, ap, arith, get_or}
use Rattle.rw_base.proofs.Common.{get_or-set_other, get_or-set_same, inl, inr, length, length-set, nat_eq, nat_tests, none-some, refl, slice_index_or}
use Rattle.rw_base.proofs.Common.{subst, sym}
use Rattle.std.proofs.lemmas.Bool.{cases_lt}
use Rattle.std.proofs.lemmas.List.{get_or_past}
use Rattle.rw_firing.specs.declared.look.Look.{Look}
use Rattle.rw_run.specs.Index.{IsIndex}
use Rattle.rw_run.specs.Log.{Cells}
use Rattle.rw_run.specs.Next.{is_changed}
use Rattle.rw_agenda.specs.Agenda.{Agenda, Entry, IsIndexed, IsListed, KeepsOtherMarks, after_firing, is_marked, looked_by, look_room, unfired}

-- what was kept of a rule by the place of its entry, once the rule in a place has fired
module _ (old new : Agenda) (cells : Cells) (rule : ℕ) (looks : List Look) (indexed : IsIndexed old cells) (known : IsListed old rule)
    (holds : is_changed cells (Some looks) ≡ false) (rules : new.rules ≡ after_firing old rule looks) (others : KeepsOtherMarks rule old new) where
  own : (place : ℕ) (saw : List Look) → place ≡ rule - 1 → (slice_index_or new.rules place (unfired 0)).looked ≡ Some saw
      → is_changed cells (Some saw) ≡ false
  own place saw here is =
      let there : (slice_index_or new.rules place (unfired 0)).looked ≡ Some looks =
      ap (λ (entries : List Entry). (slice_index_or entries place (unfired 0)).looked) rules
      ∙ ap (λ (e : Entry). e.looked)
      (ap (λ p. get_or (after_firing old rule looks) p (unfired 0)) here
      ∙ get_or-set_same old.rules (rule - 1) (record { room = look_room old rule; looked = Some looks }) (unfired 0)
      (omega (arith, known.first, known.last))) in
      subst (λ (o : Option (List Look)). is_changed cells o ≡ false) (sym there ∙ is) holds

  other_place : (place : ℕ) (saw : List Look) → place ≢ rule - 1 → place < length old.rules → is_marked new (place + 1) ≡ false
      → (slice_index_or new.rules place (unfired 0)).looked ≡ Some saw → is_changed cells (Some saw) ≡ false
  other_place place saw apart near unmarked is =
      let before : (slice_index_or new.rules place (unfired 0)).looked ≡ (slice_index_or old.rules place (unfired 0)).looked =
      ap (λ (entries : List Entry). (slice_index_or entries place (unfired 0)).looked) rules
      ∙ ap (λ (e : Entry). e.looked) (get_or-set_other old.rules (rule - 1) place (record { room = look_room old rule; looked = Some looks })
      (unfired 0) apart) in
      let at : place + 1 - 1 ≡ place = omega arith in
      let different : place + 1 ≢ rule = λ same. apart (omega (arith, same)) in
      indexed (place + 1) saw (others (place + 1) (record { first = omega arith; last = omega (arith, near) }) different unmarked)
      (ap (λ p. (slice_index_or old.rules p (unfired 0)).looked) at ∙ sym before ∙ is)

  past : (place : ℕ) (saw : List Look) → length old.rules ≤ place → (slice_index_or new.rules place (unfired 0)).looked ≡ Some saw
      → is_changed cells (Some saw) ≡ false
  past place saw beyond is =
      let many : length new.rules ≡ length old.rules =
      ap (λ (entries : List Entry). length entries) rules
      ∙ length-set old.rules (rule - 1) (record { room = look_room old rule; looked = Some looks }) in
      let none : (slice_index_or new.rules place (unfired 0)).looked ≡ None =
      ap (λ (e : Entry). e.looked) (get_or_past new.rules place (unfired 0) (omega (arith, beyond, many))) in
      absurd (none-some saw (sym none ∙ is))

  by_place : (place : ℕ) (saw : List Look) → is_marked new (place + 1) ≡ false → (slice_index_or new.rules place (unfired 0)).looked ≡ Some saw
      → is_changed cells (Some saw) ≡ false
  by_place place saw unmarked is = by (nat_eq place (rule - 1)) refl (cases_lt place (length old.rules))
    where
      by : (same : Bool) → nat_eq place (rule - 1) ≡ same → (place < length old.rules) ⊎ (length old.rules ≤ place)
          → is_changed cells (Some saw) ≡ false
      by true same near = own place saw (grind (arith, nat_tests, same)) is
      by false same (inl near) = other_place place saw (grind (arith, nat_tests, same)) near unmarked is
      by false same (inr beyond) = past place saw beyond is

  pub fired_indexed : IsIndexed new cells
  fired_indexed other saw unmarked is =
      let place : other - 1 + 1 - 1 ≡ other - 1 = omega arith in
      by_place (other - 1) saw (ap (λ p. slice_index_or new.marks p true) place ∙ unmarked) is

-- the entries are those that there were
pub same_looks : (old new : Agenda) (cells : Cells) → new.rules ≡ old.rules → IsIndexed old cells → IsIndex cells (looked_by new) (is_marked old)
same_looks old new cells rules indexed rule saw unmarked is =
    indexed rule saw unmarked (ap (λ (entries : List Entry). (slice_index_or entries (rule - 1) (unfired 0)).looked) (sym rules) ∙ is)
