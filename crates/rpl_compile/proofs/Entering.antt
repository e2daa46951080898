-- Elements of a list, and the instructions that begin a loop over them and end its turns.
use Rattle.rpl_compile.proofs.Common.{Bool, Frame, IsAnyList, Kind, List, Loop, Ok, Outcome, Running, Some, Value, [], a_number, a_slot, ap, ap₂}
use Rattle.rpl_compile.proofs.Common.{arith, code_element_of, code_kind, code_kind_of, code_room_of, drop, element_of, elements_of, entered, gives}
use Rattle.rpl_compile.proofs.Common.{goes_by, if◌then◌else◌, inl, inr, is_kind_refl, is_same_loop, is_that_kind, left_of, length, length-map}
use Rattle.rpl_compile.proofs.Common.{loop_end, map, mapping, number_kind, numbers, numbers_kind, of_list, refl, room_of, slice_get, slot_kind, slots}
use Rattle.rpl_compile.proofs.Common.{slots_kind, spent, step, stuck, subst, suc, sym, turned, value, visiting, with_elements, with_left, with_made}
use Rattle.rpl_compile.proofs.Common.{ℕ, ℤ, ◌>>=◌, ◌∙◌, ◌∷◌, ◌≡◌, ◌≤◌, ◌⊎◌}
use Rattle.rpl_code.specs.declared.instruction.Instruction.TheVariants as I
use Rattle.rpl_compile.proofs.Goes.{nothing_last, same_outcome}
use Rattle.rpl_compile.proofs.OfKind.{HasKind}
use Rattle.rpl_compile.proofs.Rows.{AllHave}
use Rattle.rpl_compile.proofs.Setting.{Setting, frame_at}
use Rattle.rpl_compile.proofs.Steps.{local_kind, step_does}

-- ---- elements

pub record Elements (kind : Kind) (a_value : Value) : Type 0 where
  pub all : List Value
  pub are : elements_of a_value ≡ Some all
  pub have : AllHave (element_of kind) all
  pub few : length all ≤ room_of kind
  pub element : code_element_of (code_kind_of a_value) ≡ Some (code_kind (element_of kind))
  pub room : code_room_of (code_kind_of a_value) ≡ room_of kind
  pub row : left_of (goes_by 1 (of_list [])) (code_kind_of a_value ∷ []) ≡ Ok []

numbers_have : (quantities : List ℤ) → AllHave number_kind (map a_number quantities)
numbers_have [] = tt
numbers_have (z ∷ quantities) = ((refl, tt), numbers_have quantities)

slots_have : (slot_numbers : List ℕ) → AllHave slot_kind (map a_slot slot_numbers)
slots_have [] = tt
slots_have (number ∷ slot_numbers) = ((refl, tt), slots_have slot_numbers)

numbers_elements : (kind_room : ℕ) (a_value : Value) → HasKind (numbers_kind kind_room) a_value → Elements (numbers_kind kind_room) a_value
numbers_elements kind_room (numbers room quantities) has_kind =
    let room_is : room ≡ kind_room = cc has_kind.0 in
    record {
      all = map a_number quantities;
      are = refl;
      have = numbers_have quantities;
      few = omega (arith, length-map quantities a_number, has_kind.1, room_is);
      element = refl;
      room = room_is;
      row = refl;
    }
numbers_elements kind_room _ has_kind = absurd (cc has_kind.0)

slots_elements : (kind_room : ℕ) (a_value : Value) → HasKind (slots_kind kind_room) a_value → Elements (slots_kind kind_room) a_value
slots_elements kind_room (slots room slot_numbers) has_kind =
    let room_is : room ≡ kind_room = cc has_kind.0 in
    record {
      all = map a_slot slot_numbers;
      are = refl;
      have = slots_have slot_numbers;
      few = omega (arith, length-map slot_numbers a_slot, has_kind.1, room_is);
      element = refl;
      room = room_is;
      row = refl;
    }
slots_elements kind_room _ has_kind = absurd (cc has_kind.0)

pub elements : (kind : Kind) (a_value : Value) → IsAnyList kind → HasKind kind a_value → Elements kind a_value
elements kind a_value is_any_list has_kind = by is_any_list.0 is_any_list.1
  where
    by : (kind_room : ℕ) → (kind ≡ numbers_kind kind_room) ⊎ (kind ≡ slots_kind kind_room) → Elements kind a_value
    by kind_room (inl e) = subst (λ k. Elements k a_value) (sym e) (numbers_elements kind_room a_value (subst (λ k. HasKind k a_value) e has_kind))
    by kind_room (inr e) = subst (λ k. Elements k a_value) (sym e) (slots_elements kind_room a_value (subst (λ k. HasKind k a_value) e has_kind))

-- ---- a loop

-- what is gone through, before its first turn
abbrev pub loop_at : ℕ → Loop → ℕ → ℕ → List Value → List ℤ → Running
loop_at start loop room local left made = record { start = start; loop = loop; room = room; local = local; left = left; made = made }

module _ (setting : Setting) where
  -- the next turn, or behind the loop
  abbrev pub turn : ℕ → Running → List Value → List Value → List Value → List Running → Frame
  turn past running values locals_now operands loops = turned past running values loops (frame_at setting past locals_now operands loops)

  -- it's the same, wherever the turn before ended
  pub turn_same : (past place : ℕ) (running : Running) (values locals_now operands : List Value) (loops others : List Running)
      → turned past running values loops (frame_at setting place locals_now operands others) ≡ turn past running values locals_now operands loops
  turn_same past place running [] locals_now operands loops others = refl
  turn_same past place running (a_value ∷ values) locals_now operands loops others = refl

  pub turn_left : (past : ℕ) (running : Running) (values others_left locals_now operands : List Value) (loops : List Running)
      → turn past (with_left others_left running) values locals_now operands loops ≡ turn past running values locals_now operands loops
  turn_left past running [] others_left locals_now operands loops = refl
  turn_left past running (a_value ∷ values) others_left locals_now operands loops = refl

  -- where the loop ends that begins at a place
  abbrev pub past_of : ℕ → ℕ
  past_of place = loop_end (suc place) (drop (suc place) setting.block.lines)

  entered_is : (loop : Loop) (place number : ℕ) (kind : Kind) (locals_now operands : List Value) (loops : List Running) (callers : List Frame)
      (a_value : Value) (elements_there : Elements kind a_value)
      → slice_get setting.kinds number ≡ Some (element_of kind)
      → (entered setting.block loop number (a_value ∷ operands) (frame_at setting place locals_now (a_value ∷ operands) loops)
      >>= (λ frame. gives (frame ∷ callers) 0)) ≡ gives
      (turn (past_of place) (loop_at place loop (room_of kind) number elements_there.all []) elements_there.all locals_now operands loops ∷ callers) 1
  entered_is loop place number kind locals_now operands loops callers a_value elements_there has =
      let go : List Value → Outcome Frame = λ all. gives
      (turned (past_of place) (loop_at place loop (code_room_of (code_kind_of a_value)) number all []) all loops
      (frame_at setting place locals_now operands loops)) 1 in
      ap (λ (test : Bool). (if test then with_elements (elements_of a_value) go else record { answer = stuck; trail = spent 0 })
      >>= (λ frame. gives (frame ∷ callers) 0))
      (ap₂ (λ a b. is_that_kind a b) (local_kind setting number (element_of kind) has) elements_there.element
      ∙ is_kind_refl (code_kind (element_of kind)))
      ∙ ap (λ o. with_elements o go >>= (λ frame. gives (frame ∷ callers) 0)) elements_there.are
      ∙ ap (λ m. gives
      (turned (past_of place) (loop_at place loop m number elements_there.all []) elements_there.all loops
      (frame_at setting place locals_now operands loops)) 1 >>= (λ frame. gives (frame ∷ callers) 0)) elements_there.room
      ∙ ap (λ (frame : Frame). gives frame 1 >>= (λ h. gives (h ∷ callers) 0))
      (turn_same (past_of place) place
      (loop_at place loop (room_of kind) number elements_there.all []) elements_there.all locals_now operands loops loops)
      ∙ same_outcome
      (value (turn (past_of place) (loop_at place loop (room_of kind) number elements_there.all []) elements_there.all locals_now operands loops
      ∷ callers)) _ _ (nothing_last (spent 1))

  pub foreach_step : (place number : ℕ) (kind : Kind) (locals_now operands : List Value) (loops : List Running) (callers : List Frame)
      (a_value : Value) (elements_there : Elements kind a_value)
      → slice_get setting.block.lines place ≡ Some (I.Foreach number) → slice_get setting.kinds number ≡ Some (element_of kind)
      → step setting.code setting.world (frame_at setting place locals_now (a_value ∷ operands) loops) callers ≡ gives
      (turn (past_of place) (loop_at place visiting (room_of kind) number elements_there.all []) elements_there.all locals_now operands loops
      ∷ callers) 1
  foreach_step place number kind locals_now operands loops callers a_value elements_there placed has =
      step_does setting place locals_now (a_value ∷ []) operands loops callers (I.Foreach number) [] placed refl elements_there.row
      ∙ entered_is visiting place number kind locals_now operands loops callers a_value elements_there has

  pub map_step : (place number : ℕ) (kind : Kind) (locals_now operands : List Value) (loops : List Running) (callers : List Frame) (a_value : Value)
      (elements_there : Elements kind a_value)
      → slice_get setting.block.lines place ≡ Some (I.Map number) → slice_get setting.kinds number ≡ Some (element_of kind)
      → step setting.code setting.world (frame_at setting place locals_now (a_value ∷ operands) loops) callers
      ≡ gives (turn (past_of place)
      (loop_at place mapping (room_of kind) number elements_there.all []) elements_there.all locals_now operands loops ∷ callers)
      1
  map_step place number kind locals_now operands loops callers a_value elements_there placed has =
      step_does setting place locals_now (a_value ∷ []) operands loops callers (I.Map number) [] placed refl elements_there.row
      ∙ entered_is mapping place number kind locals_now operands loops callers a_value elements_there has

  pub next_step : (place past : ℕ) (running : Running) (values locals_now operands : List Value) (loops : List Running) (callers : List Frame)
      → running.loop ≡ visiting
      → slice_get setting.block.lines place ≡ Some I.Next → suc place ≡ past
      → step setting.code setting.world (frame_at setting place locals_now operands (with_left values running ∷ loops)) callers
      ≡ gives (turn past running values locals_now operands loops ∷ callers) 1
  next_step place past running values locals_now operands loops callers loop_is placed same_place =
      step_does setting place locals_now [] operands (with_left values running ∷ loops) callers I.Next [] placed refl refl
      ∙ ap (λ (loop : Loop).
      (if is_same_loop visiting loop then gives
      (turned (suc place) (with_left values running) values loops (frame_at setting place locals_now operands (with_left values running ∷ loops)))
      1 else
      record { answer = stuck; trail = spent 0 }) >>= (λ frame. gives (frame ∷ callers) 0)) loop_is
      ∙ ap (λ n. gives
      (turned n (with_left values running) values loops (frame_at setting place locals_now operands (with_left values running ∷ loops))) 1
      >>= (λ frame. gives (frame ∷ callers) 0)) same_place
      ∙ ap (λ (frame : Frame). gives frame 1 >>= (λ h. gives (h ∷ callers) 0))
      (turn_same past place (with_left values running) values locals_now operands loops (with_left values running ∷ loops)
      ∙ turn_left past running values values locals_now operands loops)
      ∙ same_outcome (value (turn past running values locals_now operands loops ∷ callers)) _ _ (nothing_last (spent 1))

  pub yield_step : (place past : ℕ) (running : Running) (quantity : ℤ) (values locals_now operands : List Value) (loops : List Running)
      (callers : List Frame) → running.loop ≡ mapping
      → slice_get setting.block.lines place ≡ Some I.Yield → suc place ≡ past
      → step setting.code setting.world (frame_at setting place locals_now (a_number quantity ∷ operands) (with_left values running ∷ loops)) callers
      ≡ gives (turn past (with_made quantity running) values locals_now operands loops ∷ callers) 1
  yield_step place past running quantity values locals_now operands loops callers loop_is placed same_place =
      step_does setting place locals_now (a_number quantity ∷ []) operands (with_left values running ∷ loops) callers I.Yield [] placed refl refl
      ∙ ap (λ (loop : Loop). (if is_same_loop mapping loop then gives
      (turned (suc place) (with_made quantity (with_left values running)) values loops
      (frame_at setting place locals_now operands (with_left values running ∷ loops))) 1 else record { answer = stuck; trail = spent 0 })
      >>= (λ frame. gives (frame ∷ callers) 0)) loop_is
      ∙ ap (λ n. gives
      (turned n (with_made quantity (with_left values running)) values loops
      (frame_at setting place locals_now operands (with_left values running ∷ loops))) 1 >>= (λ frame. gives (frame ∷ callers) 0)) same_place
      ∙ ap (λ (frame : Frame). gives frame 1 >>= (λ h. gives (h ∷ callers) 0))
      (turn_same past place (with_made quantity (with_left values running)) values locals_now operands loops (with_left values running ∷ loops)
      ∙ turn_left past (with_made quantity running) values values locals_now operands loops)
      ∙ same_outcome (value (turn past (with_made quantity running) values locals_now operands loops ∷ callers)) _ _ (nothing_last (spent 1))
