-- The puts of a firing that aren't put again: what is written of them is found, and nothing else is.
use Rattle.rw_laws.proofs.Common.{AllByRecursion, Among, Asked, Bool, Cell, Cells, Content, Draft, IsSlot, List, None, PutEnd, Some, Written, []}
use Rattle.rw_laws.proofs.Common.{all_at, among_group, ap, ap₂, cond, end_in, false, if◌then◌else◌, inl, inr, is_put_again, is_shared, is_written}
use Rattle.rw_laws.proofs.Common.{known_number, last_ones, last_put, option_or, puts_written, refl, same_turned, subst, sym, together_turned, true}
use Rattle.rw_laws.proofs.Common.{weaker_all, ◌&&◌, ◌∙◌, ◌∷◌, ◌≡◌, ◌≢◌}
use Rattle.rw_laws.proofs.Writings.{last_all}
use Rattle.rw_laws.proofs.Linked.{self_shared}
use Rattle.rw_laws.proofs.Dispatches.{written_all}
use Rattle.std.proofs.lemmas.Bool.{or_parts}

abbrev pub IsAt : Draft → Asked → Type 0
IsAt basin put = IsSlot basin.objects put.cell.slot.0

pub shared_turned : (basin : Draft) (one other : Cell) → IsSlot basin.objects one.slot.0 → IsSlot basin.objects other.slot.0
    → is_shared basin one other ≡ is_shared basin other one
shared_turned basin one other at there =
    ap₂ (λ a b. a && b)
    (among_group basin.objects basin.links one.slot.0 other.slot.0
    ∙ ap₂ (λ a b. a && b) (together_turned basin.links one.slot.0 other.slot.0)
    (known_number basin.objects other.slot.0 there ∙ sym (known_number basin.objects one.slot.0 at))
    ∙ sym (among_group basin.objects basin.links other.slot.0 one.slot.0))
    (same_turned other.step.0 one.step.0)

-- none of the later ones shares the cell
abbrev IsApart : Draft → Cell → Asked → Type 0
IsApart basin cell put = IsAt basin put × (is_shared basin cell put.cell ≡ false)

abbrev NoneShares : Draft → Cell → List Asked → Type 0
NoneShares basin cell puts = AllByRecursion (IsApart basin cell) puts

none_again : (basin : Draft) (put : Asked) (puts : List Asked) → AllByRecursion (IsAt basin) puts → is_put_again basin put puts ≡ false
    → NoneShares basin put.cell puts
none_again basin put [] all e = tt
none_again basin put (first ∷ puts) all e =
    let parts = or_parts (is_shared basin put.cell first.cell) (is_put_again basin put puts) e in
    ((all.0, parts.0), none_again basin put puts all.1 parts.1)

no_last : (basin : Draft) (cell : Cell) (puts : List Asked) → IsSlot basin.objects cell.slot.0 → NoneShares basin cell puts
    → last_put basin puts cell ≡ None
no_last basin cell [] known none = refl
no_last basin cell (put ∷ puts) known none =
    ap₂ (λ rest test. option_or rest (if test then Some put.content else None)) (no_last basin cell puts known none.1)
    (shared_turned basin put.cell cell none.0.0 known ∙ none.0.1)

module _ (basin : Draft) (cells : Cells) where
  abbrev left : List Asked → List Asked
  left puts = puts_written cells (last_ones basin puts)

  none_last : (first : Asked) (puts : List Asked) → AllByRecursion (IsAt basin) puts → is_put_again basin first puts ≡ false
      → NoneShares basin first.cell (last_ones basin puts)
  none_last first puts all is = last_all (IsApart basin first.cell) basin puts (none_again basin first puts all is)

  none_left : (first : Asked) (puts : List Asked) → AllByRecursion (IsAt basin) puts → is_put_again basin first puts ≡ false
      → NoneShares basin first.cell (left puts)
  none_left first puts all is =
      weaker_all (λ put. (end_in cells put ≡ Written) × IsApart basin first.cell put) (IsApart basin first.cell) (left puts) (λ put both. both.1)
      (written_all (IsApart basin first.cell) cells (last_ones basin puts) (none_last first puts all is))

  later_found : (put : Asked) (rest : List Asked) (cell : Cell) (content : Content) (test : Bool) → last_put basin rest cell ≡ Some content
      → last_put basin (cond test (put ∷ rest) rest) cell ≡ Some content
  later_found put rest cell content true found =
      ap (λ later. option_or later (if is_shared basin put.cell cell then Some put.content else None)) found
  later_found put rest cell content false found = found

  here_found : (put : Asked) (rest : List Asked) (test : Bool) → is_written (end_in cells put) ≡ test → test ≡ true → IsAt basin put
      → last_put basin rest put.cell ≡ None
      → last_put basin (cond test (put ∷ rest) rest) put.cell ≡ Some put.content
  here_found put rest true is passes at none =
      ap₂ (λ later shared. option_or later (if shared then Some put.content else None)) none (self_shared basin put.cell at)
  here_found put rest false is passes at none = absurd (cc)

  -- a put that is written, and isn't put again, is what its cell holds then
  found_by : (first : Asked) (puts : List Asked) (put : Asked) → AllByRecursion (IsAt basin) (first ∷ puts) → end_in cells put ≡ Written
      → (Among (last_ones basin puts) put → last_put basin (left puts) put.cell ≡ Some put.content) → (again : Bool)
      → is_put_again basin first puts ≡ again
      → Among (if again then last_ones basin puts else first ∷ last_ones basin puts) put
      → last_put basin (puts_written cells (if again then last_ones basin puts else first ∷ last_ones basin puts)) put.cell ≡ Some put.content
  found_by first puts put all end later true is has = later has
  found_by first puts put all end later false is (inr has) =
      later_found first (left puts) put.cell put.content (is_written (end_in cells first)) (later has)
  found_by first puts put all end later false is (inl same) =
      let none : NoneShares basin first.cell (left puts) = none_left first puts all.1 is in
      let wrote : is_written (end_in cells first) ≡ true = ap (λ p. is_written (end_in cells p)) same ∙ ap is_written end in
      subst (λ (p : Asked). last_put basin (cond (is_written (end_in cells first)) (first ∷ left puts) (left puts)) p.cell ≡ Some p.content) same
      (here_found first (left puts) (is_written (end_in cells first)) refl wrote all.0 (no_last basin first.cell (left puts) all.0 none))

  pub last_written : (puts : List Asked) (put : Asked) → AllByRecursion (IsAt basin) puts → Among (last_ones basin puts) put
      → end_in cells put ≡ Written
      → last_put basin (left puts) put.cell ≡ Some put.content
  last_written [] put all has end = absurd has
  last_written (first ∷ puts) put all has end =
      found_by first puts put all end (λ there. last_written puts put all.1 there end) (is_put_again basin first puts) refl has

  -- ---- where it isn't written, nothing is found

  none_here : (put : Asked) (rest : List Asked) (cell : Cell) (test : Bool) → is_shared basin put.cell cell ≡ false → last_put basin rest cell ≡ None
      → last_put basin (cond test (put ∷ rest) rest) cell ≡ None
  none_here put rest cell true apart none = ap₂ (λ later shared. option_or later (if shared then Some put.content else None)) none apart
  none_here put rest cell false apart none = none

  not_written : (end : PutEnd) → end ≢ Written → is_written end ≡ false
  not_written Written other = absurd (other refl)
  not_written end other = refl

  none_by : (first : Asked) (puts : List Asked) (put : Asked) → AllByRecursion (IsAt basin) (first ∷ puts) → end_in cells put ≢ Written
      → (Among (last_ones basin puts) put → last_put basin (left puts) put.cell ≡ None) → (again : Bool) → is_put_again basin first puts ≡ again
      → Among (if again then last_ones basin puts else first ∷ last_ones basin puts) put
      → last_put basin (puts_written cells (if again then last_ones basin puts else first ∷ last_ones basin puts)) put.cell ≡ None
  none_by first puts put all end later true is has = later has
  none_by first puts put all end later false is (inr has) =
      let apart = all_at (IsApart basin first.cell) (last_ones basin puts) put (none_last first puts all.1 is) has in
      none_here first (left puts) put.cell (is_written (end_in cells first)) apart.1 (later has)
  none_by first puts put all end later false is (inl same) =
      let none : NoneShares basin first.cell (left puts) = none_left first puts all.1 is in
      let no : is_written (end_in cells first) ≡ false = not_written (end_in cells first) (λ e. end (ap (end_in cells) (sym same) ∙ e)) in
      subst (λ (p : Asked). last_put basin (cond (is_written (end_in cells first)) (first ∷ left puts) (left puts)) p.cell ≡ None) same
      (ap (λ test. last_put basin (cond test (first ∷ left puts) (left puts)) first.cell) no ∙ no_last basin first.cell (left puts) all.0 none)

  pub none_written : (puts : List Asked) (put : Asked) → AllByRecursion (IsAt basin) puts → Among (last_ones basin puts) put
      → end_in cells put ≢ Written
      → last_put basin (left puts) put.cell ≡ None
  none_written [] put all has end = absurd has
  none_written (first ∷ puts) put all has end =
      none_by first puts put all end (λ there. none_written puts put all.1 there end) (is_put_again basin first puts) refl has
