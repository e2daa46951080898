-- How many of an object's places are known, which bounds how often it is dispatched.
use Rattle.rw_order.proofs.Common.{Asked, Bool, Cell, Cells, Content, Draft, IsSome, List, None, Option, Some, [], ap, arith, both_ways, cell_at}
use Rattle.rw_order.proofs.Common.{cell_in, content_in, false, if◌then◌else◌, inl, inr, is_at, is_put_at, is_shared, is_some, last_put, length}
use Rattle.rw_order.proofs.Common.{length-range_with_len, nat_tests, none-some, option_and_then, option_or, places, put, range_with_len, refl}
use Rattle.rw_order.proofs.Common.{slot_in_place, subst, suc, sym, true, zero, ℕ, ◌&&◌, ◌+◌, ◌<◌, ◌==◌, ◌||◌, ◌∙◌, ◌∷◌, ◌≡◌, ◌≤◌, ◌⊎◌}
use Rattle.rw_order.proofs.Writing.{AllNew, AreShared, Grow}
use Rattle.rw_order.proofs.Sounds.{IsLaidOut}
use Rattle.rw_dispatch.proofs.Viewed.{content-slot}

abbrev pub one_if : Bool → ℕ
one_if true = 1
one_if false = 0

abbrev known_in : (ℕ → Option Content) → List ℕ → ℕ
known_in contents [] = 0
known_in contents (place ∷ rest) = one_if (is_some (contents place)) + known_in contents rest

-- how many of the object's places are known at the timestep
abbrev pub known_count : Draft → Cells → ℕ → ℕ → ℕ
known_count basin cells object step = known_in (content_in basin cells object step) places

pub one_few : (test : Bool) → one_if test ≤ 1
one_few true = omega arith
one_few false = omega arith

known_few : (contents : ℕ → Option Content) (rest : List ℕ) → known_in contents rest ≤ length rest
known_few contents [] = omega arith
known_few contents (place ∷ rest) = let later = known_few contents rest in let one = one_few (is_some (contents place)) in omega (arith, later, one)

pub known_twelve : (basin : Draft) (cells : Cells) (object step : ℕ) → known_count basin cells object step ≤ 12
known_twelve basin cells object step =
    let few = known_few (content_in basin cells object step) places in
    let long : length places ≡ 12 = length-range_with_len 0 12 in omega (arith, few, long)

-- ---- more is known

one_more : (old new : Option Content) → (IsSome old → IsSome new) → one_if (is_some old) ≤ one_if (is_some new)
one_more (Some a) (Some b) more = omega arith
one_more (Some a) None more = absurd (both_ways false refl (more refl))
one_more None new more = omega arith

known_more : (old new : ℕ → Option Content) (rest : List ℕ) → ((place : ℕ) → IsSome (old place) → IsSome (new place))
    → known_in old rest ≤ known_in new rest
known_more old new [] more = omega arith
known_more old new (place ∷ rest) more =
    let first = one_more (old place) (new place) (more place) in let later = known_more old new rest more in omega (arith, first, later)

abbrev IsIn : ℕ → List ℕ → Type 0
IsIn place [] = ⊥
IsIn place (first ∷ rest) = (first ≡ place) ⊎ IsIn place rest

one_rises : (old new : Option Content) → old ≡ None → IsSome new → suc (one_if (is_some old)) ≤ one_if (is_some new)
one_rises old None none some = absurd (both_ways false refl some)
one_rises (Some a) (Some b) none some = absurd (none-some _ (sym none))
one_rises None (Some b) none some = omega arith

known_grows : (old new : ℕ → Option Content) (rest : List ℕ) (place : ℕ) → ((p : ℕ) → IsSome (old p) → IsSome (new p)) → IsIn place rest
    → old place ≡ None
    → IsSome (new place) → suc (known_in old rest) ≤ known_in new rest
known_grows old new [] place more is none some = absurd is
known_grows old new (first ∷ rest) place more (inl here) none some =
    let rises = one_rises (old first) (new first) (ap old here ∙ none) (subst (λ p. IsSome (new p)) (sym here) some) in
    let later = known_more old new rest more in omega (arith, rises, later)
known_grows old new (first ∷ rest) place more (inr is_later) none some =
    let here = one_more (old first) (new first) (more first) in
    let later = known_grows old new rest place more is_later none some in omega (arith, here, later)

is_in_range : (start count place : ℕ) → start ≤ place → place < start + count → IsIn place (range_with_len start count)
is_in_range start zero place low high = absurd (omega (arith, low, high))
is_in_range start (suc count) place low high = by (start == place) refl (λ next. is_in_range (start + 1) count place next (omega (arith, high)))
  where
    by : (test : Bool) → (start == place) ≡ test → (start + 1 ≤ place → IsIn place (range_with_len (start + 1) count))
        → IsIn place (range_with_len start (suc count))
    by true same later = inl (grind (arith, nat_tests, same))
    by false other later = inr (later (grind (arith, nat_tests, other, low)))

-- ---- cells that hold more

content_grows : (old new : Cells) (cell : Option Cell) (held : Option Content) → Grow old new → option_and_then old cell ≡ held → IsSome held
    → IsSome (option_and_then new cell)
content_grows old new cell None grow is some = absurd (both_ways false refl some)
content_grows old new None (Some content) grow is some = absurd (none-some _ is)
content_grows old new (Some cell) (Some content) grow is some = ap is_some (grow cell content is)

module _ (basin : Draft) (old new : Cells) (object step : ℕ) (grow : Grow old new) where
  more_known : (place : ℕ) → IsSome (content_in basin old object step place) → IsSome (content_in basin new object step place)
  more_known place some = content_grows old new (cell_in basin object step place) (content_in basin old object step place) grow refl some

  pub count_grows : known_count basin old object step ≤ known_count basin new object step
  count_grows = known_more (content_in basin old object step) (content_in basin new object step) places more_known

  pub count_rises : (place slot : ℕ) → place < 12 → slot_in_place basin.objects object place ≡ Some slot → old (cell_at slot step) ≡ None
      → IsSome (new (cell_at slot step))
      → suc (known_count basin old object step) ≤ known_count basin new object step
  count_rises place slot near at none some =
      known_grows (content_in basin old object step) (content_in basin new object step) places place more_known
      (is_in_range 0 12 place (omega arith) (omega (arith, near)))
      (content-slot basin old object step place (Some slot) at ∙ none) (subst IsSome (sym (content-slot basin new object step place (Some slot) at)) some)

-- ---- a put that reaches one of the object's slots

pub record IsReached (basin : Draft) (cells : Cells) (object step : ℕ) (written : List Asked) : Type 0 where
  pub place : ℕ
  pub slot : ℕ
  pub at : slot_in_place basin.objects object place ≡ Some slot
  pub none : cells (cell_at slot step) ≡ None
  pub some : IsSome (last_put basin written (cell_at slot step))

pub some_or : {X : Type 0} (a b : Option X) → IsSome a → IsSome (option_or a b)
some_or None b some = absurd (both_ways false refl some)
some_or (Some x) b some = refl

or_some : {X : Type 0} (a b : Option X) → IsSome b → IsSome (option_or a b)
or_some None b some = some
or_some (Some x) b some = refl

pub reached_by : (basin : Draft) (cells : Cells) (object step : ℕ) (written : List Asked) → IsLaidOut basin → AreShared basin cells
    → AllNew cells written
    → is_put_at basin object step written ≡ true → IsReached basin cells object step written
reached_by basin cells object step [] laid shared new is = absurd (both_ways false refl is)
reached_by basin cells object step (put ∷ written) laid shared new is =
    by (put.cell.step.0 == step) refl (is_at basin object put.cell.slot.0) refl is
    (λ later. reached_by basin cells object step written laid shared new.1 later)
  where
    later_reached : IsReached basin cells object step written → IsReached basin cells object step (put ∷ written)
    later_reached later = record {
      place = later.place;
      slot = later.slot;
      at = later.at;
      none = later.none;
      some = some_or (last_put basin written (cell_at later.slot step)) _ later.some;
    }

    by : (here : Bool) → (put.cell.step.0 == step) ≡ here → (own : Bool) → is_at basin object put.cell.slot.0 ≡ own
        → (here && own || is_put_at basin object step written) ≡ true
        → (is_put_at basin object step written ≡ true → IsReached basin cells object step written) → IsReached basin cells object step (put ∷ written)
    by true here true own e rest =
        let hit = laid.hits object put.cell own in
        let at_step : put.cell.step.0 ≡ step = grind (arith, nat_tests, here) in
        let shares : is_shared basin put.cell (cell_at hit.1 step) ≡ true =
        subst (λ t. is_shared basin put.cell (cell_at hit.1 t) ≡ true) at_step hit.3 in
        record {
          place = hit.0;
          slot = hit.1;
          at = hit.2;
          none = sym (shared put.cell (cell_at hit.1 step) shares) ∙ new.0;
          some = or_some (last_put basin written (cell_at hit.1 step)) _ (ap (λ test. is_some (if test then Some put.content else None)) shares);
        }
    by true here false own e rest = later_reached (rest e)
    by false here own is_own e rest = later_reached (rest e)
