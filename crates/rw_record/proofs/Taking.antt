-- What can be taken back, and what is noted of a timestep.
use Rattle.rw_record.proofs.Common.{Asked, Bool, Cell, Cells, Contains, Contains-append_cases, Contains-append_left, Contains-append_right, Draft}
use Rattle.rw_record.proofs.Common.{Event, Held, IsTrue, List, None, [], ap, append-nil, arith, asked_in, cells_looked, cells_reached, false}
use Rattle.rw_record.proofs.Common.{false≢true, flat_map, flat_map-append, held_after, inl, inr, is_noted, is_shared, last_put, looks_in, noted_after}
use Rattle.rw_record.proofs.Common.{option_or, reached_by, refl, subst, sym, true, written_by, ◌++◌, ◌∙◌, ◌∷◌, ◌≡◌, ◌⊎◌}
use Rattle.std.specs.List.{IsDistinct}
use Rattle.rw_record.specs.Notes.{CanTakeBack, Notes}
use Rattle.rw_record.proofs.Cells.{first_of, reached_at, shared_in}
use Rattle.rw_record.proofs.Noting.{IsNew, among, before_none, new_in, noted_from, old_in, old_or, once}

pub fresh : (before : Cells) → CanTakeBack before before []
fresh before = record {
  held = λ one has. absurd (omega (arith, has.1));
  same = λ cell none. refl;
}

pub more_noted : (before now : Cells) (noted : List Held) (more : List Cell) → CanTakeBack before now noted
    → CanTakeBack before now (noted_after now noted more)
more_noted before now noted more can = record {
  held = λ one has. by one (old_or now noted more one has);
  same = λ cell none. can.same cell (before_none now noted more cell none);
}
  where
    by : (one : Held) → Contains noted one ⊎ IsNew now noted more one → before one.cell ≡ one.content
    by one (inl old) = can.held one old
    by one (inr new) = sym (can.same one.cell new.fresh) ∙ sym new.is

-- ---- puts

-- to a cell that no put shares its value with, nothing is put
unreached : (basin : Draft) (puts : List Asked) (cell : Cell) → ((put : Asked) → Contains puts put → is_shared basin put.cell cell ≡ false)
    → last_put basin puts cell ≡ None
unreached basin [] cell apart = refl
unreached basin (put ∷ puts) cell apart =
    rw (unreached basin puts cell (λ it has. apart it (Contains-append_right (put ∷ []) puts it has)), apart put (first_of put puts)) refl

-- of puts all of whose cells are noted, none shares its value with a cell that isn't
apart_from : (basin : Draft) (puts : List Asked) (noted : List Held) (cell : Cell)
    → ((other : Cell) → Contains (cells_reached basin puts) other → IsTrue (is_noted noted other)) → is_noted noted cell ≡ false
    → (put : Asked) → Contains puts put → is_shared basin put.cell cell ≡ false
apart_from basin puts noted cell all none put has = by (is_shared basin put.cell cell) refl
  where
    by : (shared : Bool) → is_shared basin put.cell cell ≡ shared → shared ≡ false
    by false apart = refl
    by true shared = absurd (false≢true (sym none ∙ all cell (reached_at basin puts put cell has (shared_in basin put.cell cell shared))))

unchanged : (basin : Draft) (puts : List Asked) (now : Cells) (cell : Cell) → last_put basin puts cell ≡ None
    → option_or (last_put basin puts cell) (now cell) ≡ now cell
unchanged basin puts now cell none = ap (λ put. option_or put (now cell)) none

pub all_put : (basin : Draft) (before now : Cells) (noted : List Held) (puts : List Asked) → CanTakeBack before now noted
    → ((cell : Cell) → Contains (cells_reached basin puts) cell → IsTrue (is_noted noted cell))
    → CanTakeBack before (λ cell. option_or (last_put basin puts cell) (now cell)) noted
all_put basin before now noted puts can all = record {
  held = can.held;
  same = λ cell none.
      unchanged basin puts now cell (unreached basin puts cell (apart_from basin puts noted cell all none)) ∙ can.same cell none;
}

-- ---- a timestep

pub whole : (basin : Draft) (before now : Cells) (events : List Event) (noted : List Held) → Notes basin before now events noted
    → CanTakeBack before now noted
whole basin before now events noted notes = record {
  held = λ one has. sym ((notes.looked one).0 has).1;
  same = notes.same;
}

pub opened : (basin : Draft) (before : Cells) → Notes basin before before [] []
unfolding IsDistinct
opened basin before = record {
  looked = λ one. (λ has. absurd (omega (arith, has.1)), λ is. absurd (omega (arith, is.0.1)));
  once = tt;
  same = λ cell none. refl;
}

module _ (basin : Draft) (before now : Cells) (events : List Event) (noted : List Held) (event : Event) (notes : Notes basin before now events noted)
    (asks : (put : Asked) → Contains (written_by event) put → Contains (asked_in event) put) where
  abbrev reached : List Cell
  reached = reached_by basin event

  both : flat_map (reached_by basin) (events ++ event ∷ []) ≡ flat_map (reached_by basin) events ++ reached
  both = flat_map-append (reached_by basin) events (event ∷ []) ∙ ap (λ cells. flat_map (reached_by basin) events ++ cells) (append-nil reached)

  abbrev Looked : Held → Type 0
  Looked one = Contains (flat_map (reached_by basin) (events ++ event ∷ [])) one.cell × (one.content ≡ before one.cell)

  is_looked : (one : Held) → Contains noted one ⊎ IsNew now noted reached one → Looked one
  is_looked one (inl old) =
      let was = (notes.looked one).0 old in
      (subst (λ cells. Contains cells one.cell) (sym both) (Contains-append_left (flat_map (reached_by basin) events) reached one.cell was.0), was.1)
  is_looked one (inr new) = (
    subst (λ cells. Contains cells one.cell) (sym both) (Contains-append_right (flat_map (reached_by basin) events) reached one.cell new.has),
    new.is ∙ notes.same one.cell new.fresh,
  )

  found : (one : Held) → one.content ≡ before one.cell → Contains (flat_map (reached_by basin) events) one.cell
      → Contains (noted_after now noted reached) one
  found one is has = old_in now noted reached one ((notes.looked one).1 (has, is))

  found_new : (one : Held) → one.content ≡ before one.cell → Contains reached one.cell → (known : Bool) → is_noted noted one.cell ≡ known
      → Contains (noted_after now noted reached) one
  found_new one is has false fresh = new_in now noted reached one (record { fresh = fresh; has = has; is = is ∙ sym (notes.same one.cell fresh) })
  found_new one is has true known =
      let old = noted_from noted one.cell known in
      found one is (subst (Contains (flat_map (reached_by basin) events)) old.is ((notes.looked old.at).0 old.has).0)

  is_noted_one : (one : Held) → one.content ≡ before one.cell → Contains (flat_map (reached_by basin) events) one.cell ⊎ Contains reached one.cell
      → Contains (noted_after now noted reached) one
  is_noted_one one is (inl old) = found one is old
  is_noted_one one is (inr new) = found_new one is new (is_noted noted one.cell) refl

  -- what it writes was asked for, and all that this reaches is noted
  written : (cell : Cell) → is_noted (noted_after now noted reached) cell ≡ false → (put : Asked) → Contains (written_by event) put
      → is_shared basin put.cell cell ≡ false
  written cell none put has =
      apart_from basin (asked_in event) (noted_after now noted reached) cell
      (λ other near. (among now noted reached other).1
      (inr (Contains-append_right (cells_looked (looks_in event)) (cells_reached basin (asked_in event)) other near)))
      none put (asks put has)

  pub one_more : Notes basin before (held_after basin event now) (events ++ event ∷ []) (noted_after now noted reached)
  one_more = record {
    looked = λ one. (
      λ has. is_looked one (old_or now noted reached one has),
      λ is. is_noted_one one is.1 (Contains-append_cases (flat_map (reached_by basin) events) reached one.cell
          (subst (λ cells. Contains cells one.cell) both is.0)),
    );
    once = once now noted reached notes.once;
    same = λ cell none.
        unchanged basin (written_by event) now cell (unreached basin (written_by event) cell (written cell none))
        ∙ notes.same cell (before_none now noted reached cell none);
  }
