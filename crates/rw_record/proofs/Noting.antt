-- What is noted after some cells.
use Rattle.rw_record.proofs.Common.{AreOnce, Bool, Cell, Cells, Contains, Contains-append_left, Contains-append_right, Contains-from_any}
use Rattle.rw_record.proofs.Common.{Contains-push, Contains-push_cases, Held, IsDistinct, IsDistinct-push, IsFalse, IsTrue, List, [], ap, cells_noted}
use Rattle.rw_record.proofs.Common.{false, false≢true, if◌then◌else◌, inl, inr, is_noted, is_same_cell, list_any, list_any-append}
use Rattle.rw_record.proofs.Common.{list_any-from_Contains, map-append, noted_after, or_cases, refl, subst, sym, arith, true, ◌++◌, ◌||◌, ◌↔◌, ◌∙◌}
use Rattle.rw_record.proofs.Common.{None, Option, Some, with_noted, ◌∷◌, ◌≡◌, ◌⊎◌}
use Rattle.rw_record.proofs.Cells.{From, cells_equiv, first_of, first_or, map_from, map_of, same_cell}

or_known : (a b : Bool) → (b ≡ true → a ≡ true) → a ≡ (a || b)
or_known true b known = refl
or_known false true known = known refl
or_known false false known = refl

or_assoc : (a b c : Bool) → ((a || b) || c) ≡ (a || (b || c))
or_assoc true b c = refl
or_assoc false b c = refl

or_left : (a b : Bool) → (a || b) ≡ false → a ≡ false
or_left false b none = refl
or_left true b none = absurd (cc)

-- ---- one cell

abbrev held_now : Cells → Cell → Held
held_now cells cell = record { cell = cell; content = cells cell }

abbrev with_one : Cells → List Held → Cell → List Held
with_one cells noted cell = if is_noted noted cell then noted else noted ++ held_now cells cell ∷ []

pushed : (cells : Cells) (noted : List Held) (cell other : Cell)
    → is_noted (noted ++ held_now cells cell ∷ []) other ≡ (is_noted noted other || (is_same_cell other cell || false))
pushed cells noted cell other =
    ap (list_any (is_same_cell other)) (map-append (λ (one : Held). one.cell) noted (held_now cells cell ∷ []))
    ∙ list_any-append (is_same_cell other) (cells_noted noted) (cell ∷ [])

one_noted : (cells : Cells) (noted : List Held) (cell other : Cell)
    → is_noted (with_one cells noted cell) other ≡ (is_noted noted other || is_same_cell other cell)
one_noted cells noted cell other = by (is_noted noted cell) refl
  where
    by : (known : Bool) → is_noted noted cell ≡ known
        → is_noted (if known then noted else noted ++ held_now cells cell ∷ []) other ≡ (is_noted noted other || is_same_cell other cell)
    by true known =
        or_known (is_noted noted other) (is_same_cell other cell)
        (λ same. ap (is_noted noted) (same_cell other cell same) ∙ known)
    by false known =
        pushed cells noted cell other
        ∙ ap (λ same. is_noted noted other || same) (sym (or_known (is_same_cell other cell) false (λ no. absurd (cc))))

one_once : (cells : Cells) (noted : List Held) (cell : Cell) → AreOnce noted → AreOnce (with_one cells noted cell)
one_once cells noted cell once = by (is_noted noted cell) refl
  where
    by : (known : Bool) → is_noted noted cell ≡ known → AreOnce (if known then noted else noted ++ held_now cells cell ∷ [])
    by true known = once
    by false known =
        subst (IsDistinct is_same_cell) (sym (map-append (λ (one : Held). one.cell) noted (held_now cells cell ∷ [])))
        (IsDistinct-push cells_equiv (cells_noted noted) cell once known)

-- ---- all of them

pub noted_is : (cells : Cells) (noted : List Held) (more : List Cell) (other : Cell)
    → is_noted (noted_after cells noted more) other ≡ (is_noted noted other || list_any (is_same_cell other) more)
noted_is cells noted [] other = or_known (is_noted noted other) false (λ no. absurd (cc))
noted_is cells noted (cell ∷ more) other =
    noted_is cells (with_one cells noted cell) more other
    ∙ ap (λ known. known || list_any (is_same_cell other) more) (one_noted cells noted cell other)
    ∙ or_assoc (is_noted noted other) (is_same_cell other cell) (list_any (is_same_cell other) more)

pub once : (cells : Cells) (noted : List Held) (more : List Cell) → AreOnce noted → AreOnce (noted_after cells noted more)
once cells noted [] distinct = distinct
once cells noted (cell ∷ more) distinct = once cells (with_one cells noted cell) more (one_once cells noted cell distinct)

pub joined : (cells : Cells) (noted : List Held) (first next : List Cell)
    → noted_after cells (noted_after cells noted first) next ≡ noted_after cells noted (first ++ next)
joined cells noted [] next = refl
joined cells noted (cell ∷ first) next = joined cells (with_one cells noted cell) first next

pub joined_notes : (cells : Cells) (first next : List Cell) (kept : Option (List Held))
    → with_noted cells next (with_noted cells first kept) ≡ with_noted cells (first ++ next) kept
joined_notes cells first next None = refl
joined_notes cells first next (Some noted) = ap Some (joined cells noted first next)

pub among : (cells : Cells) (noted : List Held) (more : List Cell) (cell : Cell)
    → IsTrue (is_noted (noted_after cells noted more) cell) ↔ (IsTrue (is_noted noted cell) ⊎ Contains more cell)
among cells noted more cell = (to, from)
  where
    by : IsTrue (is_noted noted cell) ⊎ IsTrue (list_any (is_same_cell cell) more) → IsTrue (is_noted noted cell) ⊎ Contains more cell
    by (inl old) = inl old
    by (inr new) = inr (Contains-from_any same_cell cell more new)

    to : IsTrue (is_noted (noted_after cells noted more) cell) → IsTrue (is_noted noted cell) ⊎ Contains more cell
    to is = by (or_cases (is_noted noted cell) (list_any (is_same_cell cell) more) (sym (noted_is cells noted more cell) ∙ is))

    right : (a b : Bool) → b ≡ true → (a || b) ≡ true
    right true b is = refl
    right false b is = is

    from : IsTrue (is_noted noted cell) ⊎ Contains more cell → IsTrue (is_noted (noted_after cells noted more) cell)
    from (inl old) = noted_is cells noted more cell ∙ ap (λ known. known || list_any (is_same_cell cell) more) old
    from (inr has) =
        noted_is cells noted more cell
        ∙ right (is_noted noted cell) (list_any (is_same_cell cell) more) (list_any-from_Contains cells_equiv cell more has)

-- what isn't noted after them wasn't before
pub before_none : (cells : Cells) (noted : List Held) (more : List Cell) (cell : Cell) → is_noted (noted_after cells noted more) cell ≡ false
    → is_noted noted cell ≡ false
before_none cells noted more cell none =
    or_left (is_noted noted cell) (list_any (is_same_cell cell) more) (sym (noted_is cells noted more cell) ∙ none)

-- ---- with what they hold

-- one of these cells, new, with what it holds
pub record IsNew (cells : Cells) (noted : List Held) (more : List Cell) (one : Held) : Type 0 where
  pub fresh : is_noted noted one.cell ≡ false
  pub has : Contains more one.cell
  pub is : one.content ≡ cells one.cell

kept_one : (cells : Cells) (noted : List Held) (cell : Cell) (one : Held) → Contains noted one → Contains (with_one cells noted cell) one
kept_one cells noted cell one has = by (is_noted noted cell)
  where
    by : (known : Bool) → Contains (if known then noted else noted ++ held_now cells cell ∷ []) one
    by true = has
    by false = Contains-append_left noted (held_now cells cell ∷ []) one has

new_one : (cells : Cells) (noted : List Held) (cell : Cell) → is_noted noted cell ≡ false → Contains (with_one cells noted cell) (held_now cells cell)
new_one cells noted cell fresh =
    subst (λ known. Contains (if known then noted else noted ++ held_now cells cell ∷ []) (held_now cells cell)) (sym fresh)
    (Contains-push noted (held_now cells cell))

old_or_new : (cells : Cells) (noted : List Held) (cell : Cell) (one : Held) → Contains (with_one cells noted cell) one
    → Contains noted one ⊎ ((is_noted noted cell ≡ false) × (held_now cells cell ≡ one))
old_or_new cells noted cell one has = by (is_noted noted cell) refl has
  where
    pushed_or : is_noted noted cell ≡ false → Contains noted one ⊎ (held_now cells cell ≡ one)
        → Contains noted one ⊎ ((is_noted noted cell ≡ false) × (held_now cells cell ≡ one))
    pushed_or fresh (inl old) = inl old
    pushed_or fresh (inr is) = inr (fresh, is)

    by : (known : Bool) → is_noted noted cell ≡ known → Contains (if known then noted else noted ++ held_now cells cell ∷ []) one
        → Contains noted one ⊎ ((is_noted noted cell ≡ false) × (held_now cells cell ≡ one))
    by true known has = inl has
    by false fresh has = pushed_or fresh (Contains-push_cases noted (held_now cells cell) one has)

pub old_or : (cells : Cells) (noted : List Held) (more : List Cell) (one : Held) → Contains (noted_after cells noted more) one
    → Contains noted one ⊎ IsNew cells noted more one
old_or cells noted [] one has = inl has
old_or cells noted (cell ∷ more) one has = by (old_or cells (with_one cells noted cell) more one has)
  where
    here : Contains noted one ⊎ ((is_noted noted cell ≡ false) × (held_now cells cell ≡ one))
        → Contains noted one ⊎ IsNew cells noted (cell ∷ more) one
    here (inl old) = inl old
    here (inr new) =
        let at : cell ≡ one.cell = ap (λ (held : Held). held.cell) new.1 in
        inr (record {
          fresh = ap (is_noted noted) (sym at) ∙ new.0;
          has = subst (Contains (cell ∷ more)) at (first_of cell more);
          is = sym (ap (λ (held : Held). held.content) new.1) ∙ ap cells at;
        })

    by : Contains (with_one cells noted cell) one ⊎ IsNew cells (with_one cells noted cell) more one
        → Contains noted one ⊎ IsNew cells noted (cell ∷ more) one
    by (inl old) = here (old_or_new cells noted cell one old)
    by (inr new) = inr (record {
      fresh = or_left (is_noted noted one.cell) (is_same_cell one.cell cell) (sym (one_noted cells noted cell one.cell) ∙ new.fresh);
      has = Contains-append_right (cell ∷ []) more one.cell new.has;
      is = new.is;
    })

pub old_in : (cells : Cells) (noted : List Held) (more : List Cell) (one : Held) → Contains noted one → Contains (noted_after cells noted more) one
old_in cells noted [] one has = has
old_in cells noted (cell ∷ more) one has = old_in cells (with_one cells noted cell) more one (kept_one cells noted cell one has)

pub new_in : (cells : Cells) (noted : List Held) (more : List Cell) (one : Held) → IsNew cells noted more one
    → Contains (noted_after cells noted more) one
new_in cells noted [] one new = absurd (omega (arith, new.has.1))
new_in cells noted (cell ∷ more) one new = by (new_in cells (with_one cells noted cell) more one) (is_same_cell one.cell cell) refl
  where
    later : is_same_cell one.cell cell ≡ false → (cell ≡ one.cell) ⊎ Contains more one.cell → Contains more one.cell
    later apart (inl at) = absurd (false≢true (sym apart ∙ ap (is_same_cell one.cell) at ∙ cells_equiv.refl one.cell))
    later apart (inr has) = has

    by : (IsNew cells (with_one cells noted cell) more one → Contains (noted_after cells (with_one cells noted cell) more) one)
        → (same : Bool) → is_same_cell one.cell cell ≡ same → Contains (noted_after cells (with_one cells noted cell) more) one
    by others true same =
        let at : one.cell ≡ cell = same_cell one.cell cell same in
        let is : held_now cells cell ≡ one =
        ap (held_now cells) (sym at) ∙ ap (λ content. record { cell = one.cell; content = content }) (sym new.is) in
        old_in cells (with_one cells noted cell) more one
        (subst (Contains (with_one cells noted cell)) is (new_one cells noted cell (ap (is_noted noted) (sym at) ∙ new.fresh)))
    by others false apart = others (record {
      fresh = one_noted cells noted cell one.cell ∙ ap (λ known. known || is_same_cell one.cell cell) new.fresh ∙ apart;
      has = later apart (first_or cell more one.cell new.has);
      is = new.is;
    })

pub members : (cells : Cells) (noted : List Held) (more : List Cell) (one : Held)
    → Contains (noted_after cells noted more) one
    ↔ (Contains noted one ⊎ (IsFalse (is_noted noted one.cell) × Contains more one.cell × (one.content ≡ cells one.cell)))
members cells noted more one = (λ has. to (old_or cells noted more one has), from)
  where
    to : Contains noted one ⊎ IsNew cells noted more one
        → Contains noted one ⊎ (IsFalse (is_noted noted one.cell) × Contains more one.cell × (one.content ≡ cells one.cell))
    to (inl old) = inl old
    to (inr new) = inr (new.fresh, new.has, new.is)

    from : Contains noted one ⊎ (IsFalse (is_noted noted one.cell) × Contains more one.cell × (one.content ≡ cells one.cell))
        → Contains (noted_after cells noted more) one
    from (inl old) = old_in cells noted more one old
    from (inr new) = new_in cells noted more one (record { fresh = new.0; has = new.1; is = new.2 })

-- ---- a noted cell, and what is noted of it

pub noted_of : (noted : List Held) (one : Held) → Contains noted one → is_noted noted one.cell ≡ true
noted_of noted one has = list_any-from_Contains cells_equiv one.cell (cells_noted noted) (map_of (λ (held : Held). held.cell) noted one has)

pub noted_from : (noted : List Held) (cell : Cell) → is_noted noted cell ≡ true → From (λ (held : Held). held.cell) noted cell
noted_from noted cell is = map_from (λ (held : Held). held.cell) noted cell (Contains-from_any same_cell cell (cells_noted noted) is)
