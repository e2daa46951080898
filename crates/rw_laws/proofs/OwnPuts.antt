-- What an object's own dispatch leaves in its slots.
use Rattle.rw_laws.proofs.Common.{AllByRecursion, Among, Asked, Bool, Cell, Cells, Contains, Content, Denied, Draft, Event, IsAfterOwn, IsBasin}
use Rattle.rw_laws.proofs.Common.{IsPutKept, IsOwnFall, IsWritten, Kept, List, Log, Look, None, Option, Put, PutEnd, Shared-of, Some, View, Written}
use Rattle.rw_laws.proofs.Common.{[], all_among, all_at, all_mapped, among, ap, arith, asked_by, asked_for, both_all, cell_at, cells_of, cond}
use Rattle.rw_laws.proofs.Common.{contains, dispatch_of, end_in, end_of_put, false, if◌then◌else◌, inl, inr, is_shared, is_written, known}
use Rattle.rw_laws.proofs.Common.{known_in_place, last_put, mapped_all, none-some, option_or, puts_written, refl, subst, sym, true, view_of}
use Rattle.rw_laws.proofs.Common.{weaker_all, ℕ, ◌∙◌, ◌∷◌, ◌≡◌, ◌≢◌, ◌≤◌, ◌⊎◌}
use Rattle.rw_laws.proofs.Apart.{one_slot}
use Rattle.rw_laws.proofs.Dispatches.{AreFine, IsFine, written_all}
use Rattle.rw_laws.proofs.Linked.{Found, last_found, self_shared}
use Rattle.rw_model.proofs.Owned.{owner_in, same_place}
use Rattle.rw_laws.proofs.PutRules.{end_code, kept_known, was_written}
use Rattle.rw_laws.proofs.Viewing.{HasSlot, has_or_bare}
use Rattle.rw_laws.proofs.Writings.{IsObjectPut, sees_at}
use Rattle.rw_laws.proofs.Staying.{AreLater, past_stays}

-- no put of a dispatch is of an earlier timestep
pub later_all : (basin : Draft) (cells : Cells) (object step : ℕ) (puts : List Put)
    → AreLater step (puts_written cells (asked_for basin object step puts))
later_all basin cells object step puts =
    weaker_all (λ (put : Asked). (end_in cells put ≡ Written) × (step ≤ put.cell.step.0)) (λ (put : Asked). step ≤ put.cell.step.0)
    (puts_written cells (asked_for basin object step puts)) (λ put both. both.1)
    (written_all (λ (put : Asked). step ≤ put.cell.step.0) cells (asked_for basin object step puts)
    (mapped_all (λ (put : Asked). step ≤ put.cell.step.0) (asked_by basin object step) puts
    (all_among (λ (put : Put). step ≤ step) puts (λ put has. omega arith))))

-- the puts of a dispatch that are written, and the puts that they are
record IsOwnWrite (basin : Draft) (cells : Cells) (object step : ℕ) (puts : List Put) (asked : Asked) : Type 0 where
  put : Put
  has : Contains puts put
  is : asked ≡ asked_by basin object step put
  at : IsObjectPut basin cells object step put
  end : end_in cells asked ≡ Written

abbrev IsOwnAsked : Draft → Cells → ℕ → ℕ → List Put → Asked → Type 0
IsOwnAsked basin cells object step puts asked =
    (put : Put) × ((Contains puts put) × ((asked ≡ asked_by basin object step put) × IsObjectPut basin cells object step put))

own_writes : (basin : Draft) (cells : Cells) (object step : ℕ) (puts : List Put) → AllByRecursion (IsObjectPut basin cells object step) puts
    → AllByRecursion (IsOwnWrite basin cells object step puts) (puts_written cells (asked_for basin object step puts))
own_writes basin cells object step puts all =
    weaker_all (λ asked. (end_in cells asked ≡ Written) × IsOwnAsked basin cells object step puts asked) (IsOwnWrite basin cells object step puts)
    (puts_written cells (asked_for basin object step puts))
    (λ asked both. record { put = both.1.0; has = both.1.1.0; is = both.1.1.1.0; at = both.1.1.1.1; end = both.0 })
    (written_all (IsOwnAsked basin cells object step puts) cells (asked_for basin object step puts)
    (mapped_all (IsOwnAsked basin cells object step puts) (asked_by basin object step) puts
    (weaker_all (λ put. Contains puts put × IsObjectPut basin cells object step put)
    (λ put. IsOwnAsked basin cells object step puts (asked_by basin object step put)) puts
    (λ put both. (put, (both.0, (refl, both.1))))
    (both_all (λ put. Contains puts put) (IsObjectPut basin cells object step) puts
    (all_among (λ put. Contains puts put) puts (contains puts)) all))))

-- a put that is written is found
some_or : (later : Option Content) (content : Content) → (now : Content) × (option_or later (Some content) ≡ Some now)
some_or None content = (content, refl)
some_or (Some now) content = (now, refl)

some_here : (basin : Draft) (cell : Cell) (first : Asked) (rest : List Asked) (shared : Bool) → is_shared basin first.cell cell ≡ shared
    → shared ≡ true
    → (now : Content) × (last_put basin (first ∷ rest) cell ≡ Some now)
some_here basin cell first rest shared is passes =
    let found = some_or (last_put basin rest cell) first.content in
    (found.0, ap (λ test. option_or (last_put basin rest cell) (if test then Some first.content else None)) (is ∙ passes) ∙ found.1)

some_kept : (basin : Draft) (cell : Cell) (first : Asked) (rest : List Asked) (test : Bool) → (now : Content) × (last_put basin rest cell ≡ Some now)
    → (now : Content) × (last_put basin (cond test (first ∷ rest) rest) cell ≡ Some now)
some_kept basin cell first rest true found =
    (found.0, ap (λ later. option_or later (if is_shared basin first.cell cell then Some first.content else None)) found.1)
some_kept basin cell first rest false found = found

some_written : (basin : Draft) (cells : Cells) (object step : ℕ) (cell : Cell) (puts : List Put) (put : Put) → Among puts put
    → end_in cells (asked_by basin object step put) ≡ Written → is_shared basin (asked_by basin object step put).cell cell ≡ true
    → (now : Content) × (last_put basin (puts_written cells (asked_for basin object step puts)) cell ≡ Some now)
some_written basin cells object step cell [] put has end shared = absurd has
some_written basin cells object step cell (first ∷ puts) put (inr later) end shared =
    some_kept basin cell (asked_by basin object step first) (puts_written cells (asked_for basin object step puts))
    (is_written (end_in cells (asked_by basin object step first)))
    (some_written basin cells object step cell puts put later end shared)
some_written basin cells object step cell (first ∷ puts) put (inl is) end shared =
    let wrote : is_written (end_in cells (asked_by basin object step first)) ≡ true =
    ap (λ p. is_written (end_in cells (asked_by basin object step p))) is ∙ ap is_written end in
    let here =
    some_here basin cell (asked_by basin object step first) (puts_written cells (asked_for basin object step puts))
    (is_shared basin (asked_by basin object step first).cell cell) refl
    (ap (λ p. is_shared basin (asked_by basin object step p).cell cell) is ∙ shared) in (
      here.0,
      ap (λ test. last_put basin (cond test (asked_by basin object step first ∷ puts_written cells (asked_for basin object step puts))
          (puts_written cells (asked_for basin object step puts))) cell) wrote ∙ here.1,
    )

module _ (basin : Draft) (valid : IsBasin basin) (log : Log) (looked : List Look) (object step : ℕ) (puts : List Put)
    (all : AllByRecursion (IsObjectPut basin (cells_of basin log) object step) puts)
    (falls : AllByRecursion (IsOwnFall (view_of basin (cells_of basin log) object step)) puts)
    (fine : AreFine (cells_of basin log) (asked_for basin object step puts))
    (once : (one other : Put) → Contains puts one → Contains puts other → one.place ≡ other.place → one ≡ other) where
  abbrev event : Event
  event = dispatch_of (cells_of basin log) looked object step (asked_for basin object step puts)

  abbrev cells : Cells
  cells = cells_of basin log

  abbrev wrote : List Asked
  wrote = puts_written (cells_of basin log) (asked_for basin object step puts)

  abbrev old : View
  old = view_of basin (cells_of basin log) object step

  abbrev new : View
  new = view_of basin (cells_of basin (event ∷ log)) object step

  -- what is found in a slot of the object is a put to its place
  found_place : (place : ℕ) (has : HasSlot basin object place)
      (found : Found basin (IsOwnWrite basin cells object step puts) wrote (cell_at has.number step))
      → found.passes.put.place ≡ place
  found_place place has found =
      let cell : found.put.cell ≡ cell_at found.passes.at.number step = ap (λ (asked : Asked). asked.cell) found.passes.is ∙ found.passes.at.cell in
      let shared =
      Shared-of basin (cell_at found.passes.at.number step) (cell_at has.number step)
      (subst (λ c. is_shared basin c (cell_at has.number step) ≡ true) cell found.shared) in
      let same : found.passes.at.number ≡ has.number = one_slot basin found.passes.at.number has.number valid shared.together
      (owner_in basin.objects object found.passes.put.place found.passes.at.number found.passes.at.slot
      ∙ sym (owner_in basin.objects object place has.number has.slot)) in
      same_place basin.objects object found.passes.put.place place has.number (found.passes.at.slot ∙ ap Some same) has.slot

  sees_new : (place : ℕ) (has : HasSlot basin object place)
      → known new place ≡ option_or (last_put basin wrote (cell_at has.number step)) (cells (cell_at has.number step))
  sees_new place has = sees_at basin (cells_of basin (event ∷ log)) object step place has.number has.few has.slot

  sees_old : (place : ℕ) (has : HasSlot basin object place) → known old place ≡ cells (cell_at has.number step)
  sees_old place has = sees_at basin cells object step place has.number has.few has.slot

  abbrev has_of : (put : Put) → IsObjectPut basin cells object step put → HasSlot basin object put.place
  has_of put at = record { number = at.number; few = at.few; slot = at.slot }

  shared_at : (put : Put) (at : IsObjectPut basin cells object step put)
      → is_shared basin (asked_by basin object step put).cell (cell_at at.number step) ≡ true
  shared_at put at =
      subst (λ c. is_shared basin c (cell_at at.number step) ≡ true) (sym at.cell)
      (self_shared basin (cell_at at.number step) (known_in_place basin.objects object put.place at.number at.slot))

  sees_cell : (put : Put) (at : IsObjectPut basin cells object step put) → known old put.place ≡ cells (asked_by basin object step put).cell
  sees_cell put at = sees_old put.place (has_of put at) ∙ ap cells (sym at.cell)

  -- the put that is found in the place of a put is this one
  found_put : (put : Put) (has : Contains puts put) (at : IsObjectPut basin cells object step put)
      (found : Found basin (IsOwnWrite basin cells object step puts) wrote (cell_at at.number step)) → found.put ≡ asked_by basin object step put
  found_put put has at found =
      found.passes.is ∙ ap (asked_by basin object step) (once found.passes.put put found.passes.has has (found_place put.place (has_of put at) found))

  falls_from : (put : Put) → IsObjectPut basin cells object step put → IsOwnFall old put → end_in cells (asked_by basin object step put) ≡ Written
      → (before : Content) → known old put.place ≡ Some before → put.number ≤ before.number
  falls_from put at own end before there =
      elim (was_written before (asked_by basin object step put).content
      (ap (λ z. end_of_put z (asked_by basin object step put).content) (sym (sym (sees_cell put at) ∙ there)) ∙ end)) [
        | inl way ↦ way.1
        | inr same ↦ own before there same.1
      ]

  put_after : (put : Put) → Contains puts put → IsObjectPut basin cells object step put → IsOwnFall old put
      → IsFine (end_in cells (asked_by basin object step put))
      → (end : PutEnd) → end_in cells (asked_by basin object step put) ≡ end → IsWritten old new put ⊎ IsPutKept old new put
  put_after put has at own able Written end =
      elim (last_found basin (IsOwnWrite basin cells object step puts) wrote (cell_at at.number step) (own_writes basin cells object step puts all)) [
        | inl none ↦
            let some = some_written basin cells object step (cell_at at.number step) puts put (among puts put has) end (shared_at put at) in
            absurd (none-some some.0 (sym none ∙ some.1))
        | inr found ↦ inl (record {
          is =
              sees_new put.place (has_of put at) ∙ ap (λ z. option_or z (cells (cell_at at.number step))) found.is
              ∙ ap (λ (asked : Asked). Some asked.content) (found_put put has at found);
          falls = falls_from put at own end;
        })
      ]
  put_after put has at own able Kept end =
      let kept = kept_known (cells (asked_by basin object step put).cell) (asked_by basin object step put).content end in
      let was : known old put.place ≡ Some kept.0 = sees_cell put at ∙ kept.1.0 in
      elim (last_found basin (IsOwnWrite basin cells object step puts) wrote (cell_at at.number step) (own_writes basin cells object step puts all)) [
        | inl none ↦ inr (record {
          content = kept.0;
          was = was;
          is =
              sees_new put.place (has_of put at) ∙ ap (λ z. option_or z (cells (cell_at at.number step))) none
              ∙ sym (sees_old put.place (has_of put at)) ∙ was;
          value = kept.1.1.0;
          number = kept.1.1.1;
        })
        | inr found ↦
            let no : 0 ≡ 1 =
            sym (ap end_code found.passes.end) ∙ ap (λ asked. end_code (end_in cells asked)) (found_put put has at found) ∙ ap end_code end in
            absurd (omega (arith, no))
      ]
  put_after put has at own able (Denied held) end = absurd (subst IsFine end able)

  rest_after : (place : ℕ) → ((put : Put) → Contains puts put → put.place ≢ place) → known new place ≡ known old place
  rest_after place none = elim (has_or_bare basin object place) [
    | inr bare ↦ bare (cells_of basin (event ∷ log)) step ∙ sym (bare cells step)
    | inl has ↦ elim (last_found basin (IsOwnWrite basin cells object step puts) wrote (cell_at has.number step)
        (own_writes basin cells object step puts all)) [
          | inl absent ↦ sees_new place has ∙ ap (λ z. option_or z (cells (cell_at has.number step))) absent ∙ sym (sees_old place has)
          | inr found ↦ absurd (none found.passes.put found.passes.has (found_place place has found))
        ]
  ]

  pub own_after : IsAfterOwn old new puts
  own_after = record {
    own = refl;
    past = past_stays basin log event object step (later_all basin cells object step puts);
    put = λ put has.
        put_after put has (all_at (IsObjectPut basin cells object step) puts put all (among puts put has))
        (all_at (IsOwnFall old) puts put falls (among puts put has)) (all_at (λ put. IsFine (end_in cells (asked_by basin object step put))) puts put
        (all_mapped (λ (asked : Asked). IsFine (end_in cells asked)) (asked_by basin object step) puts fine) (among puts put has))
        (end_in cells (asked_by basin object step put)) refl;
    rest = rest_after;
  }
