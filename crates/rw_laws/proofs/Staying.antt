-- What an object sees stays where no put reaches it, and its earlier value always.
use Rattle.rw_laws.proofs.Common.{AllByRecursion, Asked, Bool, Cell, Cells, Content, Draft, Event, Kind, List, Log, None, Object, Option, Past}
use Rattle.rw_laws.proofs.Common.{Shared-of, Some, [], and_parts, ap, ap₂, arith, before_of, cell_at, cells_of, content_in, false, group_of}
use Rattle.rw_laws.proofs.Common.{if◌then◌else◌, is_among, is_at, is_put_at, is_shared, last_put, list_any, map, nat_lt, nat_tests, none-some}
use Rattle.rw_laws.proofs.Common.{object_at, option_and_then, option_map, option_or, owner_of, past_at, past_in, past_of, past_value, places, pos}
use Rattle.rw_laws.proofs.Common.{refl, same_Some, slot_in_place, some_ago, sym, true, value_in, value_of_past, view_of, written_by, ℕ, ◌&&◌, ◌-ℤ◌}
use Rattle.rw_laws.proofs.Common.{◌-◌, ◌<◌, ◌==◌, ◌||◌, ◌∙◌, ◌∷◌, ◌≡◌, ◌≤◌}
use Rattle.rw_model.proofs.Owned.{owner_in}
use Rattle.std.proofs.lemmas.Bool.{or_parts}

-- ---- which puts reach an object

any_at : (p : ℕ → Bool) (slot : ℕ) (xs : List ℕ) → list_any (λ other. slot == other) xs ≡ true → p slot ≡ true → list_any p xs ≡ true
any_at p slot [] has passes = absurd (cc)
any_at p slot (x ∷ xs) has passes = by (slot == x) refl has (λ later. any_at p slot xs later passes)
  where
    or_true : (a b : Bool) → a ≡ true → (a || b) ≡ true
    or_true true b e = refl
    or_true false b e = absurd (cc)

    or_later : (a b : Bool) → b ≡ true → (a || b) ≡ true
    or_later true b e = refl
    or_later false b e = e

    by : (test : Bool) → (slot == x) ≡ test → (test || list_any (λ other. slot == other) xs) ≡ true
        → (list_any (λ other. slot == other) xs ≡ true → list_any p xs ≡ true)
        → (p x || list_any p xs) ≡ true
    by true same has later = let at : slot ≡ x = grind (arith, nat_tests, same) in or_true (p x) (list_any p xs) (ap p (sym at) ∙ passes)
    by false apart has later = or_later (p x) (list_any p xs) (later has)

-- a put that shares its value with an object's slot is at one of its slots
reaches : (basin : Draft) (object place number step : ℕ) (put : Asked) → slot_in_place basin.objects object place ≡ Some number
    → is_shared basin put.cell (cell_at number step) ≡ true
    → (put.cell.step.0 == step && is_at basin object put.cell.slot.0) ≡ true
reaches basin object place number step put slot shared =
    let parts = and_parts (is_among number (group_of basin.objects basin.links put.cell.slot.0)) (step == put.cell.step.0) shared in
    let same : step ≡ put.cell.step.0 = grind (arith, nat_tests, parts.1) in
    let here : (put.cell.step.0 == step) ≡ true = grind (arith, nat_tests, same) in
    let owns : (owner_of basin.objects number == object) ≡ true = let at =
    owner_in basin.objects object place number slot in grind (arith, nat_tests, at) in
    let at : is_at basin object put.cell.slot.0 ≡ true =
    any_at (λ other. owner_of basin.objects other == object) number (group_of basin.objects basin.links put.cell.slot.0) parts.0 owns in
    ap₂ (λ a b. a && b) here at

unreached : (basin : Draft) (object place number step : ℕ) (puts : List Asked) → slot_in_place basin.objects object place ≡ Some number
    → is_put_at basin object step puts ≡ false
    → last_put basin puts (cell_at number step) ≡ None
unreached basin object place number step [] slot none = refl
unreached basin object place number step (put ∷ puts) slot none =
    let parts = or_parts (put.cell.step.0 == step && is_at basin object put.cell.slot.0) (is_put_at basin object step puts) none in
    ap₂ (λ rest test. option_or rest (if test then Some put.content else None)) (unreached basin object place number step puts slot parts.1)
    (by (is_shared basin put.cell (cell_at number step)) refl parts.0)
  where
    by : (test : Bool) → is_shared basin put.cell (cell_at number step) ≡ test
        → (put.cell.step.0 == step && is_at basin object put.cell.slot.0) ≡ false → is_shared basin put.cell (cell_at number step) ≡ false
    by true shared apart = absurd (let differ : true ≡ false = sym (reaches basin object place number step put slot shared) ∙ apart in cc)
    by false shared apart = shared

-- ---- a view that nothing reaches stays

same_map : {A : Type 0} (f g : ℕ → A) (xs : List ℕ) → ((x : ℕ) → f x ≡ g x) → map f xs ≡ map g xs
same_map f g [] same = refl
same_map f g (x ∷ xs) same = ap₂ (λ y ys. y ∷ ys) (same x) (same_map f g xs same)

-- no put is of an earlier timestep
abbrev pub AreLater : ℕ → List Asked → Type 0
AreLater step puts = AllByRecursion (λ (put : Asked). step ≤ put.cell.step.0) puts

pub earlier_stays : (basin : Draft) (step : ℕ) (puts : List Asked) (cell : Cell) → AreLater step puts → cell.step.0 < step
    → last_put basin puts cell ≡ None
earlier_stays basin step [] cell later before = refl
earlier_stays basin step (put ∷ puts) cell later before =
    ap₂ (λ rest test. option_or rest (if test then Some put.content else None)) (earlier_stays basin step puts cell later.1 before)
    (by (is_shared basin put.cell cell) refl)
  where
    by : (test : Bool) → is_shared basin put.cell cell ≡ test → is_shared basin put.cell cell ≡ false
    by false is = is
    by true is = let same : cell.step.0 ≡ put.cell.step.0 = (Shared-of basin put.cell cell is).step in let le =
        later.0 in absurd (omega (arith, same, le, before))

past_ago : (basin : Draft) (object : ℕ) (past : Past) → past_of basin object ≡ Some past → 1 ≤ past.ago
past_ago basin object past is = by_object (object_at basin.objects object) is
  where
    by_slot : (kind : Kind) (looks : ℕ × ℕ) → past_in kind ≡ Some looks → (slot : Option ℕ)
        → option_map (λ slot. record { slot = slot; ago = looks.1 }) slot ≡ Some past → 1 ≤ past.ago
    by_slot kind looks looks_is None is = absurd (none-some past is)
    by_slot kind looks looks_is (Some slot) is =
        let same : looks.1 ≡ past.ago = ap (λ (p : Past). p.ago) (same_Some _ _ is) in let some =
        some_ago kind looks looks_is in omega (arith, same, some)

    by_kind : (kind : Kind) (looks : Option (ℕ × ℕ)) → past_in kind ≡ looks → option_and_then (past_at basin object) looks ≡ Some past → 1 ≤ past.ago
    by_kind kind None looks_is is = absurd (none-some past is)
    by_kind kind (Some looks) looks_is is = by_slot kind looks looks_is (slot_in_place basin.objects object looks.0) is

    by_object : (found : Option Object) → option_and_then (past_at basin object) (option_and_then (λ (found : Object). past_in found.kind) found)
        ≡ Some past → 1 ≤ past.ago
    by_object None is = absurd (none-some past is)
    by_object (Some found) is = by_kind found.kind (past_in found.kind) refl is

-- an earlier value is the same where all earlier cells are
pub same_past : (basin : Draft) (one other : Cells) (object step : ℕ) → ((cell : Cell) → cell.step.0 < step → one cell ≡ other cell)
    → past_value basin one object step ≡ past_value basin other object step
same_past basin one other object step same = by (past_of basin object) refl
  where
    at : (past : Past) → 1 ≤ past.ago → (test : Bool) → nat_lt past.ago step ≡ test
        → (if test then value_in one (cell_at past.slot (step - past.ago)) else before_of basin.objects past.slot (pos step -ℤ pos past.ago))
        ≡ (if test then value_in other (cell_at past.slot (step - past.ago)) else before_of basin.objects past.slot (pos step -ℤ pos past.ago))
    at past some true inside =
        ap (option_map (λ (content : Content). content.value)) (same (cell_at past.slot (step - past.ago)) (grind (arith, nat_tests, inside, some)))
    at past some false outside = refl

    by : (found : Option Past) → past_of basin object ≡ found
        → option_and_then (value_of_past basin one step) found ≡ option_and_then (value_of_past basin other step) found
    by None is = refl
    by (Some past) is = at past (past_ago basin object past is) (nat_lt past.ago step) refl

-- so is what an object sees where those of the timestep are too
pub same_view : (basin : Draft) (one other : Cells) (object step : ℕ) → ((cell : Cell) → cell.step.0 ≤ step → one cell ≡ other cell)
    → view_of basin one object step ≡ view_of basin other object step
same_view basin one other object step same =
    ap₂ (λ now past. record (view_of basin other object step) { now = now; past = past })
    (same_map (content_in basin one object step) (content_in basin other object step) places (λ place. by (slot_in_place basin.objects object place)))
    (same_past basin one other object step (λ cell before. same cell (omega (arith, before))))
  where
    by : (found : Option ℕ) → option_and_then one (option_map (λ slot. cell_at slot step) found)
        ≡ option_and_then other (option_map (λ slot. cell_at slot step) found)
    by None = refl
    by (Some number) = same (cell_at number step) (omega arith)

pub past_stays : (basin : Draft) (log : Log) (event : Event) (object step : ℕ) → AreLater step (written_by event)
    → past_value basin (cells_of basin (event ∷ log)) object step ≡ past_value basin (cells_of basin log) object step
past_stays basin log event object step later = same_past basin (cells_of basin (event ∷ log)) (cells_of basin log) object step
    (λ cell before. ap (λ found. option_or found (cells_of basin log cell)) (earlier_stays basin step (written_by event) cell later before))

pub view_stays : (basin : Draft) (log : Log) (event : Event) (object step : ℕ) → is_put_at basin object step (written_by event) ≡ false
    → AreLater step (written_by event)
    → view_of basin (cells_of basin (event ∷ log)) object step ≡ view_of basin (cells_of basin log) object step
view_stays basin log event object step none later =
    ap₂ (λ now past. record (view_of basin (cells_of basin log) object step) { now = now; past = past })
    (same_map (content_in basin (cells_of basin (event ∷ log)) object step) (content_in basin (cells_of basin log) object step) places
    (λ place. by place (slot_in_place basin.objects object place) refl))
    (past_stays basin log event object step later)
  where
    by : (place : ℕ) (found : Option ℕ) → slot_in_place basin.objects object place ≡ found
        → option_and_then (cells_of basin (event ∷ log)) (option_map (λ slot. cell_at slot step) (slot_in_place basin.objects object place))
        ≡ option_and_then (cells_of basin log) (option_map (λ slot. cell_at slot step) (slot_in_place basin.objects object place))
    by place None slot =
        ap (λ s. option_and_then (cells_of basin (event ∷ log)) (option_map (λ slot. cell_at slot step) s)) slot
        ∙ sym (ap (λ s. option_and_then (cells_of basin log) (option_map (λ slot. cell_at slot step) s)) slot)
    by place (Some number) slot =
        ap (λ s. option_and_then (cells_of basin (event ∷ log)) (option_map (λ slot. cell_at slot step) s)) slot
        ∙ ap (λ found. option_or found (cells_of basin log (cell_at number step)))
        (unreached basin object place number step (written_by event) slot none)
        ∙ sym (ap (λ s. option_and_then (cells_of basin log) (option_map (λ slot. cell_at slot step) s)) slot)
