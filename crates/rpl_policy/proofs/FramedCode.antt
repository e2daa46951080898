-- A firing of code depends on the cells alone at which it looks: step by step.
use Rattle.rw_base.proofs.Common.{◌≡◌, ◌≢◌, ℕ, zero, suc, ℤ, Bool, true, false, List, [], ◌∷◌, drop, take, reverse, Option, Some, None, refl, sym}
use Rattle.rw_base.proofs.Common.{subst, if◌then◌else◌, none-some, slice_get}
use Rattle.std.specs.Prelude.{is_ok}
use Rattle.rw_base.specs.declared.number.Cell.{Cell}
use Rattle.rw_model.proofs.Common.{Draft, numbered}
use Rattle.rw_firing.specs.Fire.{Fire}
use Rattle.rw_firing.specs.declared.fire.FireEnd.TheVariants.{Done}
use Rattle.rpl_code.specs.declared.block.Block.{Block}
use Rattle.rpl_code.specs.declared.instruction.Instruction.{Instruction}
use Rattle.rpl_code.specs.declared.instruction.Instruction.TheVariants as I
use Rattle.rpl_tree.proofs.Common.{Outcome, Value, World, fire_of, gives, is_stuck, known_of, read_of}
use Rattle.rpl_tree.specs.Frame.{AgreeAt}
use Rattle.rpl_tree.proofs.Framed.{Same, same_bind, same_itself, same_known, same_read, same_then, world}
use Rattle.rpl_tree.proofs.FramedTrees.{asks_nothing, looked_of}
use Rattle.rpl_verify.specs.Machine.{Frame, State, act, fire_of_code, fired, first_frame, most_steps, onward, operated, row_in, run, step, step_at}
use Rattle.rpl_verify.specs.Machine.{step_by, step_in}
use Rattle.rpl_verify.specs.Operations.{kinds_of, of_two, operation}
use Rattle.rpl_verify.specs.Table.{operand_count, operands_behind}

module _ (one other : Cell → Option ℤ) (basin : Draft) (now : ℕ) (code : List Block) where
  abbrev Like : {A : Type 0} → Outcome A → Outcome A → Type 0
  Like r s = Same one other r s

  abbrev w1 : World
  w1 = world one other basin now one

  abbrev w2 : World
  w2 = world one other basin now other

  same_two : (args : List Value) (f g : Value → Value → Outcome Value) → ((x y : Value) → Like (f x y) (g x y)) → Like (of_two args f) (of_two args g)
  same_two (x ∷ y ∷ []) f g fg = fg x y
  same_two _ f g fg = same_itself one other is_stuck

  same_operation : (i : Instruction) (args : List Value) → Like (operation w1 i args) (operation w2 i args)
  same_operation I.Read args = same_two args (read_of w1) (read_of w2) (same_read one other basin now)
  same_operation I.Known args = same_two args (known_of w1) (known_of w2) (same_known one other basin now)
  same_operation _ args = λ alike. refl

  same_operated : (x : Block) (i : Instruction) (f : Frame) → Like (operated code w1 x i f) (operated code w2 x i f)
  same_operated x i f =
      let n : ℕ = operand_count (row_in code w1 x i) in
      same_then one other (operation w1 i (reverse (take n f.operands))) (operation w2 i (reverse (take n f.operands)))
      (λ v. gives (onward (v ∷ drop n f.operands) f) 0) (same_operation i (reverse (take n f.operands)))

  same_act : (x : Block) (i : Instruction) (f : Frame) → Like (act code w1 x i f) (act code w2 x i f)
  same_act x (I.Load n) f = λ alike. refl
  same_act x (I.Store n) f = λ alike. refl
  same_act x (I.Jump to) f = λ alike. refl
  same_act x (I.Branch to) f = λ alike. refl
  same_act x (I.Target kinds) f = λ alike. refl
  same_act x (I.Foreach n) f = λ alike. refl
  same_act x I.Next f = λ alike. refl
  same_act x (I.Map n) f = λ alike. refl
  same_act x I.Yield f = λ alike. refl
  same_act x (I.Put object slot ahead) f = λ alike. refl
  same_act x i f = same_operated x i f

  same_by : (x : Block) (i : Instruction) (f : Frame) (callers : List Frame) → Like (step_by code w1 x i f callers) (step_by code w2 x i f callers)
  same_by x (I.Invoke b) f callers = λ alike. refl
  same_by x i f callers = same_then one other (act code w1 x i f) (act code w2 x i f) (λ g. gives (g ∷ callers) 0) (same_act x i f)

  by_test : {A : Type 0} (b : Bool) (r s q : Outcome A) → Like r s → Like (if b then r else q) (if b then s else q)
  by_test true r s q rs = rs
  by_test false r s q rs = same_itself one other q

  same_at : (o : Option Instruction) (x : Block) (f : Frame) (callers : List Frame)
      → Like (step_at code w1 o x f callers) (step_at code w2 o x f callers)
  same_at None x f callers = λ alike. refl
  same_at (Some i) x f callers =
      by_test (is_ok (operands_behind (row_in code w1 x i) (kinds_of f.operands))) (step_by code w1 x i f callers)
      (step_by code w2 x i f callers) is_stuck
      (same_by x i f callers)

  same_in : (o : Option Block) (f : Frame) (callers : List Frame) → Like (step_in code w1 o f callers) (step_in code w2 o f callers)
  same_in None f callers = λ alike. refl
  same_in (Some x) f callers = same_at (slice_get x.lines f.place) x f callers

  same_run : (n : ℕ) (s : State) → Like (run code w1 n s) (run code w2 n s)
  same_run n [] = λ alike. refl
  same_run zero (f ∷ callers) = λ alike. refl
  same_run (suc n) (f ∷ callers) =
      same_bind one other (step code w1 f callers) (step code w2 f callers) (run code w1 n) (run code w2 n)
      (same_in (numbered code f.block) f callers) (same_run n)

  same_fired : (o : Option Frame) (fire : Fire) → fired code w1 o ≡ Some fire → AgreeAt one other fire.looked → fired code w2 o ≡ Some fire
  same_fired None fire is alike = absurd (none-some fire is)
  same_fired (Some f) fire is alike =
      let r : Outcome (Unit {0}) = run code w1 most_steps (f ∷ []) in
      let s : Outcome (Unit {0}) = run code w2 most_steps (f ∷ []) in
      let same : r ≡ s = same_run most_steps (f ∷ []) (subst (λ cells. AgreeAt one other cells) (sym (looked_of r.answer r.trail fire is)) alike) in
      subst (λ (z : Outcome (Unit {0})). fire_of z.answer z.trail ≡ Some fire) same is

pub code_framed : (code : List Block) (basin : Draft) (rule step : ℕ) (one other : Cell → Option ℤ) (fire : Fire)
    → fire_of_code code basin rule step one ≡ Some fire → AgreeAt one other fire.looked → fire_of_code code basin rule step other ≡ Some fire
code_framed code basin rule step one other fire is alike = same_fired one other basin step code (first_frame code rule) fire is alike

-- a firing that isn't done asks for nothing
silent_from : (code : List Block) (w : World) (o : Option Frame) (fire : Fire) → fired code w o ≡ Some fire → fire.end ≢ Done → fire.puts ≡ []
silent_from code w None fire is isnt = absurd (none-some fire is)
silent_from code w (Some f) fire is isnt =
    let r : Outcome (Unit {0}) = run code w most_steps (f ∷ []) in asks_nothing r.answer r.trail fire is isnt

pub code_silent : (code : List Block) (basin : Draft) (rule step : ℕ) (values : Cell → Option ℤ) (fire : Fire)
    → fire_of_code code basin rule step values ≡ Some fire → fire.end ≢ Done → fire.puts ≡ []
code_silent code basin rule step values fire is isnt =
    silent_from code (record { basin = basin; values = values; step = step }) (first_frame code rule) fire is isnt
