-- Puts are made one after another.
use Rattle.rw_dispatch.proofs.Common.{AreBounded, Bool, CanPut, Cell, Content, List, None, Option, Put, Series, Sets, Some, [], ap, drop, false, held}
use Rattle.rw_dispatch.proofs.Common.{if◌then◌else◌, is_shared, length, option_map, option_or, pos, refl, slice_index_or, subst, sym, true, unwrap_or}
use Rattle.rw_dispatch.proofs.Common.{ℕ, ◌+◌, ◌<◌, ◌∙◌, ◌∷◌, ◌≡◌}
use Rattle.rw_model.proofs.Common.{slot_in_place, Draft, IsBetween, bounds_in}
use Rattle.std.proofs.lemmas.List.{drop_more}
use Rattle.rw_series.proofs.Bounds.{bounds-shared}
use Rattle.rw_base.proofs.Common.{All, All-cons, All-head, All-nil, All-tail}
use Rattle.rw_model.proofs.Common.{known_in_place}
use Rattle.rw_run.proofs.Common.{Asked, Cells, last_put, asked_by, asked_for, slot_or_none}
use Rattle.rw_model.specs.Turn.{IsTurn}
use Rattle.rw_dispatch.specs.Writes.{AreWrites, CanWrite}
use Rattle.rw_base.proofs.Lists.{some_there}

chosen : (test : Bool) (new : Content) (held : Option Content) → (if test then Some new else held) ≡ option_or (if test then Some new else None) held
chosen true new held = refl
chosen false new held = refl

-- a put that is made is what the cells hold last
pub put-set : (basin : Draft) (put : Asked) (old new : Series) → Sets basin put.cell (Some put.content) old new → (cell : Cell)
    → held new cell ≡ option_or (last_put basin (put ∷ []) cell) (held old cell)
put-set basin put old new sets cell = sets cell ∙ chosen (is_shared basin put.cell cell) put.content (held old cell)

-- what is left to be put, over what was put, is what was to be put
abbrev pub IsPutting : Draft → Cells → Cells → List Asked → List Asked → Type 0
IsPutting basin first now all left =
    (cell : Cell) → option_or (last_put basin left cell) (now cell) ≡ option_or (last_put basin all cell) (first cell)

both : {X : Type 0} (a b c : Option X) → option_or a (option_or b c) ≡ option_or (option_or a b) c
both None b c = refl
both (Some x) b c = refl

-- the next of them is made, and the others are left
pub made_one : (basin : Draft) (first before after : Cells) (all left rest : List Asked) (put : Asked) → left ≡ put ∷ rest
    → ((cell : Cell) → after cell ≡ option_or (last_put basin (put ∷ []) cell) (before cell))
    → IsPutting basin first before all left → IsPutting basin first after all rest
made_one basin first before after all left rest put is sets putting cell =
    ap (option_or (last_put basin rest cell)) (sets cell) ∙ both (last_put basin rest cell) (last_put basin (put ∷ []) cell) (before cell)
    ∙ ap (λ puts. option_or (last_put basin puts cell) (before cell)) (sym is) ∙ putting cell

-- the next put is taken out of those that are left
pub next-put : {A : Type 0} (items puts : List A) (place : ℕ) (put : A) → items ≡ puts → place < length items → put ≡ slice_index_or items place put
    → drop place puts ≡ put ∷ drop (place + 1) puts
next-put items puts place put same near is =
    rw (← same) (drop_more items place put near ∙ ap (λ first. first ∷ drop (place + 1) items) (sym is))

-- ---- what is put is within bounds

put_between : (basin : Draft) (object step : ℕ) (put : Put) (slot : ℕ) → slot_in_place basin.objects object put.place ≡ Some slot
    → CanPut basin object put
    → IsBetween (bounds_in basin.objects basin.links basin.bounds slot) put.value
put_between basin object step put slot at can =
    subst (λ bounds. IsBetween bounds put.value)
    (ap (λ s. unwrap_or (option_map (bounds_in basin.objects basin.links basin.bounds) s) (pos 0, pos 0)) at) can.between

-- what an object can put can be written
pub can_write : (basin : Draft) (object step : ℕ) (put : Put) → IsTurn basin object step → CanPut basin object put
    → CanWrite basin (asked_by basin object step put)
can_write basin object step put turn can =
    let slot = some_there (slot_in_place basin.objects object put.place) can.slot in
    let at : slot_or_none basin object put.place ≡ slot.0 = ap (λ s. unwrap_or s 0) slot.1 in
    rw at (record {
      cell = record { slot = known_in_place basin.objects object put.place slot.0 slot.1; first = turn.at.first; last = turn.at.last };
      within = put_between basin object step put slot.0 slot.1 can;
    })

pub all_write : (basin : Draft) (object step : ℕ) (puts : List Put) → IsTurn basin object step → All (λ (put : Put). CanPut basin object put) puts
    → AreWrites basin (asked_for basin object step puts)
all_write basin object step [] turn can = All-nil (CanWrite basin)
all_write basin object step (put ∷ puts) turn can =
    All-cons (CanWrite basin) (asked_by basin object step put) (asked_for basin object step puts)
    (can_write basin object step put turn (All-head (λ (p : Put). CanPut basin object p) put puts can))
    (all_write basin object step puts turn (All-tail (λ (p : Put). CanPut basin object p) put puts can))

held_between : (basin : Draft) (put : Asked) (cell : Cell) (content : Content) (held : Option Content)
    → IsBetween (bounds_in basin.objects basin.links basin.bounds put.cell.slot.0) put.content.value
    → (held ≡ Some content → IsBetween (bounds_in basin.objects basin.links basin.bounds cell.slot.0) content.value)
    → (shared : Bool) → is_shared basin put.cell cell ≡ shared → (if shared then Some put.content else held) ≡ Some content
    → IsBetween (bounds_in basin.objects basin.links basin.bounds cell.slot.0) content.value
held_between basin put cell content held between before true shared is =
    let same : put.content ≡ content = cc in
    subst (λ (c : Content). IsBetween (bounds_in basin.objects basin.links basin.bounds cell.slot.0) c.value) same
    (subst (λ bounds. IsBetween bounds put.content.value) (bounds-shared basin put.cell cell shared) between)
held_between basin put cell content held between before false apart is = before is

-- what is put within bounds leaves what is held within bounds
pub AreBounded-put : (basin : Draft) (put : Asked) (old new : Series)
    → IsBetween (bounds_in basin.objects basin.links basin.bounds put.cell.slot.0) put.content.value
    → AreBounded basin (held old) → Sets basin put.cell (Some put.content) old new → AreBounded basin (held new)
AreBounded-put basin put old new between bounded sets = λ cell content known is.
    held_between basin put cell content (held old cell) between
    (bounded cell content known) (is_shared basin put.cell cell) refl (sym (sets cell) ∙ is)
