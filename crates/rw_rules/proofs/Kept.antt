-- What is known of cells and shown of a log, when a rule has fired and when its puts are written.
use Rattle.rw_base.proofs.Common.{◌≡◌, ◌∙◌, ◌≢◌, ℕ, ◌-◌, ◌≤◌, ◌==◌, ◌||◌, ℤ, Bool, true, false, not, List, [], ◌∷◌, Decides-int_eq, Option, None}
use Rattle.rw_base.proofs.Common.{Some, ap, ap₂, arith, get_or-set_other, if◌then◌else◌, nat_tests, option_map, option_or, refl, slice_index_or}
use Rattle.rw_base.proofs.Common.{subst, sym}
use Rattle.rw_base.specs.declared.number.Cell.{Cell}
use Rattle.rw_model.proofs.Common.{Draft}
use Rattle.rw_model.specs.declared.content.Content.{Content}
use Rattle.rw_firing.specs.declared.look.Look.{Look}
use Rattle.rw_run.specs.Dispatch.{looks_at}
use Rattle.rw_run.specs.Index.{IsIndex}
use Rattle.rw_run.specs.Log.{Asked, Cells, Firing, Log, fired, last_put, value_in}
use Rattle.rw_run.specs.Next.{is_changed, is_same_value, last_looks, newest_firing, since_opening}
use Rattle.rw_agenda.proofs.Indexed.{same_looks}
use Rattle.rw_agenda.specs.Agenda.{Agenda, Entry, IsIndexed, after_firing, is_marked, looked_by, look_room, unfired}
use Rattle.rpl_verify.specs.Verified.{Accepted}
use Rattle.rw_rules.specs.Rules.{Rules, ShowsLooks}

-- ---- what cells hold

same_itself : (value : Option ℤ) → is_same_value value value ≡ true
same_itself None = refl
same_itself (Some z) = (Decides-int_eq z z).1 refl

-- what was just seen is what is held
pub just_seen : (cells : Cells) (at : List Cell) → is_changed cells (Some (looks_at cells at)) ≡ false
just_seen cells [] = refl
just_seen cells (cell ∷ at) =
    ap (λ (t : Bool). not t || is_changed cells (Some (looks_at cells at))) (same_itself (value_in cells cell)) ∙ just_seen cells at

-- cells that hold alike are changed alike
changed_alike : (one other : Cells) (looks : List Look) → ((cell : Cell) → one cell ≡ other cell)
    → is_changed one (Some looks) ≡ is_changed other (Some looks)
changed_alike one other [] alike = refl
changed_alike one other (look ∷ looks) alike =
    ap₂ (λ (a b : Bool). a || b) (ap (λ (held : Option Content).
    not (is_same_value look.seen (option_map (λ (content : Content). content.value) held))) (alike look.cell))
    (changed_alike one other looks alike)

pub indexed_alike : (one other : Cells) (agenda : Agenda) → ((cell : Cell) → other cell ≡ one cell) → IsIndexed agenda one → IsIndexed agenda other
indexed_alike one other agenda alike indexed rule looks unmarked saw = changed_alike other one looks alike ∙ indexed rule looks unmarked saw

-- ---- looks of the log

looks_more : (log : Log) (firing : Firing) (rule : ℕ) (same : Bool) → (firing.rule == rule) ≡ same
    → last_looks (fired firing ∷ log) rule ≡ (if same then Some firing.looked else last_looks log rule)
looks_more log firing rule true is =
    ap (λ (t : Bool). option_map (λ (f : Firing). f.looked) (if t then Some firing else newest_firing rule (since_opening log))) is
looks_more log firing rule false is =
    ap (λ (t : Bool). option_map (λ (f : Firing). f.looked) (if t then Some firing else newest_firing rule (since_opening log))) is

other_looks : (old new : Agenda) (rule other : ℕ) (looks : List Look) → other - 1 ≢ rule - 1 → new.rules ≡ after_firing old rule looks
    → looked_by new other ≡ looked_by old other
other_looks old new rule other looks apart is =
    ap (λ (rules : List Entry). (slice_index_or rules (other - 1) (unfired 0)).looked) is
    ∙ ap (λ (e : Entry). e.looked) (get_or-set_other old.rules (rule - 1) (other - 1) (record { room = look_room old rule; looked = Some looks })
    (unfired 0) apart)

pub shows_more : (policy : Accepted) (old new : Rules) (rule : ℕ) (looks : List Look) (log : Log) (firing : Firing) → 1 ≤ rule
    → new.agenda.rules ≡ after_firing old.agenda rule looks → firing.rule ≡ rule → looked_by new.agenda rule ≡ Some firing.looked
    → ShowsLooks policy old log → ShowsLooks policy new (fired firing ∷ log)
shows_more policy old new rule looks log firing counted is same looked shows other first last = by (firing.rule == other) refl
  where
    by : (t : Bool) → (firing.rule == other) ≡ t → looked_by new.agenda other ≡ last_looks (fired firing ∷ log) other
    by true own =
        let here : rule ≡ other = sym same ∙ grind (arith, nat_tests, own) in
        subst (λ r. looked_by new.agenda r ≡ Some firing.looked) here looked ∙ sym (looks_more log firing other true own)
    by false apart =
        let different : firing.rule ≢ other = grind (arith, nat_tests, apart) in
        let places : other - 1 ≢ rule - 1 = λ e. different (omega (arith, e, same, first, counted)) in
        other_looks old.agenda new.agenda rule other looks places is ∙ shows other first last ∙ sym (looks_more log firing other false apart)

-- ---- written puts

-- what the law of the index says of the puts, of the cells that hold them
pub indexed_on : (basin : Draft) (old new : Agenda) (before after : Cells) (puts : List Asked)
    → (IsIndex before (looked_by new) (is_marked old)
    → IsIndex (λ cell. option_or (last_put basin puts cell) (before cell)) (looked_by new) (is_marked new))
    → new.rules ≡ old.rules → ((cell : Cell) → after cell ≡ option_or (last_put basin puts cell) (before cell)) → IsIndexed old before
    → IsIndexed new after
indexed_on basin old new before after puts law rules cells indexed =
    indexed_alike (λ cell. option_or (last_put basin puts cell) (before cell)) after new cells (law (same_looks old new before rules indexed))
