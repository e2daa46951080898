-- The machine does the same, step by step.
use Rattle.rw_base.proofs.Common.{ap, ap₂, arith, Bool, false, if◌then◌else◌, ints, length, List, None, Option, option_map, pos, refl}
use Rattle.rw_base.proofs.Common.{slice_get, Some, suc, sym, take, drop, reverse, true, zero, ℕ, ℤ, ◌&&◌, ◌+◌, ◌∙◌, ◌∷◌, ◌≡◌, ◌≤◌, []}
use Rattle.std.specs.Prelude.{is_ok}
use Rattle.rw_base.specs.Range.{is_from_to}
use Rattle.rw_base.specs.declared.number.Cell.{Cell}
use Rattle.rw_calendar.specs.declared.moment.Moment.{Moment}
use Rattle.rw_model.specs.Draft.{Draft}
use Rattle.rw_model.specs.Objects.{numbered, slot_named}
use Rattle.rpl_code.specs.declared.block.Block.{Block}
use Rattle.rpl_code.specs.declared.instruction.Instruction.{Instruction}
use Rattle.rpl_code.specs.declared.instruction.Instruction.TheVariants as I
use Rattle.rw_firing.specs.Fire.{Fire}
use Rattle.rpl_tree.specs.Outcome.{Outcome, gives, is_stuck, ◌>>=◌}
use Rattle.rpl_tree.specs.Value.{Value, a_number, a_truth, a_date, a_slot, numbers, slots}
use Rattle.rpl_tree.specs.World.{World, bounds_at, can_put_ahead, can_set, date_part, is_within, known_of, put_of, read_of, within_or_end}
use Rattle.rpl_verify.specs.Machine.{Frame, State, act, fire_of_code, fired, first_frame, most_steps, onward, operated, put_by_frame, run}
use Rattle.rpl_verify.specs.Machine.{step, step_at, step_by, step_in}
use Rattle.rpl_verify.specs.Operations.{kinds_of, of_one, of_two, operation}
use Rattle.rpl_tree.specs.Mean.{fire_of}
use Rattle.rpl_verify.specs.Fits.{heads_of, locals_of}
use Rattle.rpl_verify.specs.Table.{operand_count, operand_row, operands_behind}
use Rattle.rw_ahead.specs.Ahead.{ahead_to}
use Rattle.rpl_ahead.specs.Puts.{AllPutUpTo, PutsUpTo}

module _ (basin : Draft) (most : ℕ) (values : Cell → Option ℤ) (at : ℕ) where
  abbrev near : World
  near = record { basin = basin; values = values; step = at }

  abbrev far : World
  far = record { basin = ahead_to most basin; values = values; step = at }

  read_same : (x y : Value) → read_of far x y ≡ read_of near x y
  read_same (a_slot s) (a_date d) = refl
  read_same (a_slot s) y = refl
  read_same x y = refl

  known_same : (x y : Value) → known_of far x y ≡ known_of near x y
  known_same (a_slot s) (a_date d) = refl
  known_same (a_slot s) y = refl
  known_same x y = refl

  date_same : (part : Moment → ℕ) (x : Value) → date_part far.basin part x ≡ date_part near.basin part x
  date_same part (a_date d) = refl
  date_same part x = refl

  operation_same : (i : Instruction) (args : List Value) → operation far i args ≡ operation near i args
  operation_same I.Read args = ap (of_two args) (λ k x y. (read_same x y) k)
  operation_same I.Known args = ap (of_two args) (λ k x y. (known_same x y) k)
  operation_same I.Month args = ap (of_one args) (λ k x. (date_same (λ (m : Moment). m.month) x) k)
  operation_same I.Day args = ap (of_one args) (λ k x. (date_same (λ (m : Moment). m.day) x) k)
  operation_same I.Year args = ap (of_one args) (λ k x. (date_same (λ (m : Moment). m.year) x) k)
  operation_same i args = refl

  module _ (more : basin.control.ahead ≤ most) where
    can_same : (ahead : ℕ) → ahead ≤ basin.control.ahead → can_put_ahead far.basin (pos ahead) ≡ can_put_ahead near.basin (pos ahead)
    can_same ahead few =
        let first : is_from_to (pos 0) (pos most) (pos ahead) ≡ true = grind (arith, ints, few, more) in
        let second : is_from_to (pos 0) (pos basin.control.ahead) (pos ahead) ≡ true = grind (arith, ints, few) in
        first ∙ sym second

    put_same : (slot : Option ℕ) (ahead : ℕ) (v : Value) → ahead ≤ basin.control.ahead
        → put_of far.basin slot (pos ahead) v ≡ put_of near.basin slot (pos ahead) v
    put_same None ahead v few = refl
    put_same (Some s) ahead (a_number z) few =
        ap (λ can. if can_set basin s && can then within_or_end (is_within (bounds_at basin s) z) s ahead z else is_stuck) (can_same ahead few)
    put_same (Some s) ahead v few = refl

    frame_same : (slot : Option ℕ) (ahead : ℕ) (operands : List Value) (f : Frame) → ahead ≤ basin.control.ahead
        → put_by_frame far.basin slot ahead operands f ≡ put_by_frame near.basin slot ahead operands f
    frame_same slot ahead [] f few = refl
    frame_same slot ahead (v ∷ vs) f few = ap (λ o. o >>= (λ done. gives (onward vs f) 0)) (put_same slot ahead v few)

    module _ (code : List Block) (puts : AllPutUpTo basin.control.ahead code) where
      operated_same : (x : Block) (i : Instruction) (f : Frame) → operated code far x i f ≡ operated code near x i f
      operated_same x i f =
          let n : ℕ = operand_count (operand_row (heads_of code) (locals_of x) i) in
          ap (λ o. o >>= (λ v. gives (onward (v ∷ drop n f.operands) f) 0)) (operation_same i (reverse (take n f.operands)))

      act_same : (x : Block) (i : Instruction) (f : Frame) → PutsUpTo basin.control.ahead i → act code far x i f ≡ act code near x i f
      act_same x (I.Load n) f can = refl
      act_same x (I.Store n) f can = refl
      act_same x (I.Jump to) f can = refl
      act_same x (I.Branch to) f can = refl
      act_same x (I.Target kinds) f can = refl
      act_same x (I.Foreach n) f can = refl
      act_same x I.Next f can = refl
      act_same x (I.Map n) f can = refl
      act_same x I.Yield f can = refl
      act_same x (I.Put object slot ahead) f can = frame_same (slot_named basin.objects object slot) ahead f.operands f can
      act_same x i f can = operated_same x i f

      by_same : (x : Block) (i : Instruction) (f : Frame) (callers : List Frame) → PutsUpTo basin.control.ahead i
          → step_by code far x i f callers ≡ step_by code near x i f callers
      by_same x (I.Invoke b) f callers can = refl
      by_same x i f callers can = ap (λ o. o >>= (λ g. gives (g ∷ callers) 0)) (act_same x i f can)

      at_same : (i : Option Instruction) (x : Block) (f : Frame) (callers : List Frame)
          → ((found : Instruction) → i ≡ Some found → PutsUpTo basin.control.ahead found)
          → step_at code far i x f callers ≡ step_at code near i x f callers
      at_same None x f callers can = refl
      at_same (Some i) x f callers can =
          ap (λ o. if is_ok (operands_behind (operand_row (heads_of code) (locals_of x) i) (kinds_of f.operands)) then o else is_stuck)
          (by_same x i f callers (can i refl))

      in_same : (x : Option Block) (f : Frame) (callers : List Frame) → numbered code f.block ≡ x
          → step_in code far x f callers ≡ step_in code near x f callers
      in_same None f callers there = refl
      in_same (Some x) f callers there = at_same (slice_get x.lines f.place) x f callers (λ i found. puts f.block f.place x i there found)

      step_same : (f : Frame) (callers : List Frame) → step code far f callers ≡ step code near f callers
      step_same f callers = in_same (numbered code f.block) f callers refl

      run_same : (n : ℕ) (state : State) → run code far n state ≡ run code near n state
      run_same n [] = refl
      run_same zero (f ∷ callers) = refl
      run_same (suc n) (f ∷ callers) = ap₂ (λ o go. o >>= go) (step_same f callers) (λ k state. (run_same n state) k)

      fired_same : (frame : Option Frame) → fired code far frame ≡ fired code near frame
      fired_same None = refl
      fired_same (Some f) = ap (λ done. fire_of done.answer done.trail) (run_same most_steps (f ∷ []))

pub fire_same : (basin : Draft) (most : ℕ) (code : List Block) (rule step : ℕ) (values : Cell → Option ℤ) → AllPutUpTo basin.control.ahead code
    → basin.control.ahead ≤ most → fire_of_code code basin rule step values ≡ fire_of_code code (ahead_to most basin) rule step values
fire_same basin most code rule step values puts more =
    sym (fired_same basin most values step more code puts (first_frame code rule))
