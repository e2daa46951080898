-- Cells listed apart from what they held.
use Rattle.rw_record.proofs.Common.{Cell, Contains, Contains-append_right, Contains-push_cases, Content, Held, List, Option, [], ap, ap₂, arith, inl}
use Rattle.rw_record.proofs.Common.{inr, length, map, map-append, refl, slice_get, subst, sym, ℕ, ◌++◌, ◌<◌, ◌∙◌, ◌∷◌, ◌≡◌, ◌≤◌, ◌⊎◌}
use Rattle.std.proofs.Math.ListN.{length-append}
use Rattle.std.proofs.lemmas.Option.{slice_get_past}
use Rattle.rw_base.proofs.Lists.{got_in_front}
use Rattle.rw_record.specs.HeldList.{AreListed, IsPlace, KeepsContent, held_of}
use Rattle.rw_record.specs.declared.held_list.PlacedCell.{PlacedCell}
use Rattle.rw_record.proofs.Cells.{first_of}

-- what stands in a place stays there
stays : (contents more : List Content) (place : ℕ) → IsPlace contents place → length (contents ++ more) ≤ 65535
    → slice_get (contents ++ more) place ≡ slice_get contents place
stays contents more place (inl near) few = got_in_front contents more place near
stays contents more place (inr nowhere) few =
    let many = length-append contents more in
    slice_get_past (contents ++ more) place (omega (arith, nowhere, few))
    ∙ sym (slice_get_past contents place (omega (arith, nowhere, few, many)))

abbrev held_as : Cell → Option Content → Held
held_as cell content = record { cell = cell; content = content }

all_stay : (contents more : List Content) (cells : List PlacedCell) → ((one : PlacedCell) → Contains cells one → IsPlace contents one.place)
    → length (contents ++ more) ≤ 65535 → map (held_of (contents ++ more)) cells ≡ map (held_of contents) cells
all_stay contents more [] known few = refl
all_stay contents more (one ∷ cells) known few =
    let here : held_of (contents ++ more) one ≡ held_of contents one =
    ap (held_as one.cell) (stays contents more one.place (known one (first_of one cells)) few) in
    ap₂ (λ (first : Held) rest. first ∷ rest) here
    (all_stay contents more cells (λ it has. known it (Contains-append_right (one ∷ []) cells it has)) few)

still_place : (old more new : List Content) (place : ℕ) → new ≡ old ++ more → IsPlace old place → IsPlace new place
still_place old more new place is (inl near) = let many = ap length is ∙ length-append old more in inl (omega (arith, near, many))
still_place old more new place is (inr nowhere) = inr nowhere

-- one cell more
pub one_listed : (items : List Held) (cells : List PlacedCell) (old new : List Content) (one : Held) (place : ℕ) → AreListed items cells old
    → length old < 65535
    → KeepsContent one.content old new place → AreListed (items ++ one ∷ []) (cells ++ record { cell = one.cell; place = place } ∷ []) new
one_listed items cells old new one place listed few keeps = record {
  are =
      let many = ap length keeps.added ∙ length-append old keeps.more in
      let all : map (held_of new) cells ≡ items =
      subst (λ contents. map (held_of contents) cells ≡ items) (sym keeps.added)
      (all_stay old keeps.more cells listed.known
      (let more = keeps.few in let sum = length-append old keeps.more in omega (arith, few, more, sum)) ∙ listed.are) in
      map-append (held_of new) cells (last ∷ [])
      ∙ ap₂ (λ (xs : List Held) (x : Held). xs ++ x ∷ []) all (ap (held_as one.cell) keeps.there);
  few =
      let many = ap length keeps.added ∙ length-append old keeps.more in
      let more = keeps.few in
      let before = listed.few in
      let one_more = length-append items (one ∷ []) in omega (arith, many, more, before, one_more);
  known = λ it has. by it (Contains-push_cases cells last it has);
}
  where
    last : PlacedCell
    last = record { cell = one.cell; place = place }

    by : (it : PlacedCell) → Contains cells it ⊎ (last ≡ it) → IsPlace new it.place
    by it (inl before) = still_place old keeps.more new it.place keeps.added (listed.known it before)
    by it (inr same) = subst (λ (it : PlacedCell). IsPlace new it.place) same keeps.known

-- none yet
pub none_listed : (cells : List PlacedCell) (contents : List Content) → cells ≡ [] → contents ≡ [] → AreListed [] cells contents
none_listed [] [] no_cell no_content = record { are = refl; few = omega arith; known = λ one has. absurd (omega (arith, has.1)) }
none_listed (cell ∷ cells) contents no_cell no_content = absurd (cc)
none_listed [] (content ∷ contents) no_cell no_content = absurd (cc)
