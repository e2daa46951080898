-- Names that are looked up.
use Rattle.rw_base.proofs.Common.{◌≡◌, ℕ, zero, suc, ◌+◌, ◌<◌, true, false, nat_le, ◌-◌, List, [], ◌∷◌, length, drop, Option, Some, None, option_map}
use Rattle.rw_base.proofs.Common.{option_and_then, bytes_eq, refl, sym, ap, ◌∙◌, arith, if◌then◌else◌, slice_get, nat_tests}
use Rattle.rw_model.proofs.Common.{Object, object_at, object_from, object_named, Draft}
use Rattle.rw_model.specs.declared.kind.Kind.{Kind}
use Rattle.rpl_tree.specs.World.{table_in, table_named}
use Rattle.rw_base.proofs.Common.{get_or, length-map, map, slice_get-get_or, slice_get-map}
use Rattle.rpl_code.specs.declared.instruction.Instruction.{Instruction}
use Rattle.rpl_verify.specs.Names.{slot_seen}

-- what is left from a place on has the object, if there is one
abbrev pub IsLeft : List Object → List ℕ → ℕ → Type 0
IsLeft objects name place = object_from (place + 1) (drop place objects) name ≡ object_named objects name

-- the object there, and those behind it
record Here (objects : List Object) (place : ℕ) : Type 0 where
  object : Object
  is : slice_get objects place ≡ Some object
  rest : drop place objects ≡ object ∷ drop (place + 1) objects

here : (objects : List Object) (place : ℕ) → place < length objects → Here objects place
here [] place below = absurd (omega (arith, below))
here (object ∷ objects) zero below = record { object = object; is = refl; rest = refl }
here (object ∷ objects) (suc place) below =
    let here_so = here objects place (omega (arith, below)) in
    let same : suc (place + 1) ≡ suc place + 1 = omega arith in
    record { object = here_so.object; is = here_so.is; rest = here_so.rest ∙ ap (λ n. here_so.object ∷ drop n (object ∷ objects)) same }

at_is : (objects : List Object) (place : ℕ) → object_at objects (place + 1) ≡ slice_get objects place
at_is objects place =
    let place_is : place + 1 ≡ suc place = omega arith in
    let nat_le_is : nat_le 1 (suc place) ≡ true = grind (arith, nat_tests) in
    let same : suc place - 1 ≡ place = omega arith in
    ap (object_at objects) place_is ∙ ap (λ t. if t then slice_get objects (suc place - 1) else None) nat_le_is ∙ ap (slice_get objects) same

name_is : (objects : List Object) (place : ℕ) (text : List ℕ) (here : Here objects place)
    → option_map (λ (o : Object). o.name) (object_at objects (place + 1)) ≡ Some text → here.object.name ≡ text
name_is objects place text here option_map_is =
    let option_map_so = ap (option_map (λ (o : Object). o.name)) (sym here.is ∙ sym (at_is objects place)) ∙ option_map_is in cc option_map_so

next : (objects : List Object) (name text : List ℕ) (place : ℕ) → place < length objects
    → option_map (λ (o : Object). o.name) (object_at objects (place + 1)) ≡ Some text
    → object_from (place + 1) (drop place objects) name
    ≡ (if bytes_eq name text then Some (place + 1) else object_from (place + 1 + 1) (drop (place + 1) objects) name)
next objects name text place below option_map_is =
    let here_so = here objects place below in
    ap (λ l. object_from (place + 1) l name) here_so.rest
    ∙ ap (λ t. if bytes_eq name t then Some (place + 1) else object_from (place + 1 + 1) (drop (place + 1) objects) name)
    (name_is objects place text here_so option_map_is)

pub left_on : (objects : List Object) (name text : List ℕ) (place : ℕ) → IsLeft objects name place → place < length objects
    → option_map (λ (o : Object). o.name) (object_at objects (place + 1)) ≡ Some text → bytes_eq name text ≡ false → IsLeft objects name (place + 1)
left_on objects name text place left below option_map_is bytes_eq_is =
    sym (next objects name text place below option_map_is ∙ ap
    (λ b. if b then Some (place + 1) else object_from (place + 1 + 1) (drop (place + 1) objects) name) bytes_eq_is) ∙ left

pub found_here : (objects : List Object) (name text : List ℕ) (place : ℕ) → IsLeft objects name place → place < length objects
    → option_map (λ (o : Object). o.name) (object_at objects (place + 1)) ≡ Some text → bytes_eq name text ≡ true
    → object_named objects name ≡ Some (place + 1)
found_here objects name text place left below option_map_is bytes_eq_is =
    sym left ∙ next objects name text place below option_map_is
    ∙ ap (λ b. if b then Some (place + 1) else object_from (place + 1 + 1) (drop (place + 1) objects) name) bytes_eq_is

-- ---- slots, looked up once

pub slot_there : (basin : Draft) (slots : List (Option ℕ)) (lines : List Instruction) (place : ℕ) (slot : Option ℕ) (instruction : Instruction)
    → slots ≡ map (slot_seen basin) lines → slice_get slots place ≡ Some slot → place < length lines
    → instruction ≡ get_or lines place instruction → slot ≡ slot_seen basin instruction
slot_there basin slots lines place slot instruction slots_is slot_is within line_is =
    let there : slice_get lines place ≡ Some instruction =
    slice_get-get_or lines place instruction within ∙ ap (λ i. Some i) (sym line_is) in
    let same : Some slot ≡ Some (slot_seen basin instruction) =
    sym slot_is ∙ ap (λ ss. slice_get ss place) slots_is ∙ slice_get-map (slot_seen basin) lines place
    ∙ ap (option_map (slot_seen basin)) there in
    cc same

pub length-slots : (basin : Draft) (slots : List (Option ℕ)) (lines : List Instruction) → slots ≡ map (slot_seen basin) lines
    → length slots ≡ length lines
length-slots basin slots lines slots_is = ap length slots_is ∙ length-map lines (slot_seen basin)
