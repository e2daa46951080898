-- Rules are marked put by put.
use Rattle.rw_base.proofs.Common.{◌≡◌, ◌∙◌, ℕ, ◌+◌, ◌<◌, ◌||◌, Bool, false, List, [], ◌∷◌, ◌++◌, Some, ap, ap₂, get_or, length, list_any}
use Rattle.rw_base.proofs.Common.{list_any-append, refl, sym, take}
use Rattle.std.proofs.lemmas.Bool.{or_parts}
use Rattle.std.proofs.lemmas.List.{take_more}
use Rattle.rw_base.specs.declared.number.Cell.{Cell}
use Rattle.rw_model.proofs.Common.{Draft}
use Rattle.rw_series.specs.Series.{is_shared}
use Rattle.rw_firing.specs.declared.look.Look.{Look}
use Rattle.rw_run.specs.Index.{is_touched}
use Rattle.rw_run.specs.Log.{Asked}
use Rattle.rw_agenda.specs.Agenda.{Agenda, Entry, MarksThose, looked_by}
use Rattle.rw_writes.specs.Writes.{MarksAll}

-- what the first puts don't touch, and the others don't, none of them touches
untouched : (basin : Draft) (puts more : List Asked) (looks : List Look) → is_touched basin puts looks ≡ false → is_touched basin more looks ≡ false
    → is_touched basin (puts ++ more) looks ≡ false
untouched basin puts more [] h g = refl
untouched basin puts more (look ∷ looks) h g =
    let test : Asked → Bool = λ other. is_shared basin other.cell look.cell in
    let first = or_parts (list_any test puts) (is_touched basin puts looks) h in
    let next = or_parts (list_any test more) (is_touched basin more looks) g in
    ap₂ (λ x y. x || y) (list_any-append test puts more ∙ ap₂ (λ x y. x || y) first.0 next.0) (untouched basin puts more looks first.1 next.1)

still : (old new : Agenda) (rule : ℕ) (looks : List Look) → new.rules ≡ old.rules → looked_by new rule ≡ Some looks → looked_by old rule ≡ Some looks
still old new rule looks same is =
    sym (ap (λ (entries : List Entry). looked_by (record { order = old.order; rules = entries; marks = old.marks }) rule) same) ∙ is

pub marks_more : (basin : Draft) (start old new : Agenda) (writes : List Asked) (place : ℕ) (write : Asked) → place < length writes
    → write ≡ get_or writes place write
    → MarksAll basin (take place writes) start old → new.rules ≡ old.rules → MarksThose basin write.cell old new
    → MarksAll basin (take (place + 1) writes) start new
marks_more basin start old new writes place write near is before same marks rule looks unmarked saw =
    let one = marks write.content rule looks unmarked saw in
    let others = before rule looks one.0 (still old new rule looks same saw) in
    let all : take (place + 1) writes ≡ take place writes ++ write ∷ [] =
    take_more writes place write near ∙ ap (λ w. take place writes ++ w ∷ []) (sym is) in (
      others.0,
      ap (λ puts. is_touched basin puts looks) all ∙ untouched basin (take place writes) (write ∷ []) looks others.1 one.1,
    )

-- no put touches nothing
none_touched : (basin : Draft) (looks : List Look) → is_touched basin [] looks ≡ false
none_touched basin [] = refl
none_touched basin (look ∷ looks) = none_touched basin looks

pub marks_none : (basin : Draft) (agenda : Agenda) → MarksAll basin [] agenda agenda
marks_none basin agenda rule looks unmarked saw = (unmarked, none_touched basin looks)

-- where each put marks none, all of them mark none
pub marks_unread : (basin : Draft) (agenda : Agenda) (writes : List Asked) → ((cell : Cell) → MarksThose basin cell agenda agenda)
    → MarksAll basin writes agenda agenda
marks_unread basin agenda [] marks rule looks unmarked saw = marks_none basin agenda rule looks unmarked saw
marks_unread basin agenda (write ∷ writes) marks rule looks unmarked saw =
    let one = marks write.cell write.content rule looks unmarked saw in
    let others = marks_unread basin agenda writes marks rule looks unmarked saw in
    (unmarked, untouched basin (write ∷ []) writes looks one.1 others.1)
