-- What is told of a way through lines (`Account`): what it comes to, and the most words that are kept on it. One account serves each reading:
-- `Fitting` tells only that the lines fit, `Paying` what the table of a block's budgets has.
use Rattle.rpl_compile.proofs.Common.{Before, Instruction, List, Ok, Open, Price, Scope, Some, ValueKind, entering, going_of, judged_at, max, onward}
use Rattle.rpl_compile.proofs.Common.{rest_of, room_on_top, slice_get, suc, turning, words_kept, words_of, ℕ, ◌*◌, ◌+◌, ◌<◌, ◌∷◌, ◌≡◌, ◌≤◌}
use Rattle.rpl_code.specs.declared.instruction.Instruction.TheVariants as I

-- an instruction that counts 1, and neither looks nor puts nor calls a block
abbrev pub IsUnit : Instruction → Type 0
IsUnit (I.Load number) = ⊥
IsUnit (I.Store number) = ⊥
IsUnit (I.List number) = ⊥
IsUnit I.Append = ⊥
IsUnit (I.Widen number) = ⊥
IsUnit (I.Invoke number) = ⊥
IsUnit I.Read = ⊥
IsUnit I.Known = ⊥
IsUnit (I.Put o s number) = ⊥
IsUnit line = Unit {0}

abbrev pub IsInvoke : Instruction → Type 0
IsInvoke (I.Invoke number) = Unit {0}
IsInvoke line = ⊥

-- what an instruction comes to, with these prices
pub record Prices (scope : Scope) (pays : Price) (sum_at : Before → Instruction → ℕ) : Type 0 where
  pub adds : (count number : ℕ) → pays.step (count + number) ≡ pays.step count + pays.step number
  pub unit : (here : Before) (line : Instruction) → IsUnit line → sum_at here line ≡ pays.step 1
  pub load : (here : Before) (number : ℕ) (kind : ValueKind) → slice_get scope.locals number ≡ Some kind
      → sum_at here (I.Load number) ≡ pays.step (words_of kind)
  pub store : (here : Before) (number : ℕ) (kind : ValueKind) → slice_get scope.locals number ≡ Some kind
      → sum_at here (I.Store number) ≡ pays.step (words_of kind)
  pub listed : (here : Before) (number : ℕ) → sum_at here (I.List number) ≡ pays.step (number + 1)
  pub appended : (here : Before) → sum_at here I.Append ≡ pays.step (room_on_top (rest_of here.kinds) + 2)
  pub widened : (here : Before) (number : ℕ) → sum_at here (I.Widen number) ≡ pays.step (number + 1)
  pub read : (here : Before) → sum_at here I.Read ≡ pays.look
  pub known : (here : Before) → sum_at here I.Known ≡ pays.look
  pub put : (here : Before) (object slot_name : List ℕ) (number : ℕ) → sum_at here (I.Put object slot_name number) ≡ pays.put

-- a relation between what is before a place and before a later one, with what the way comes to and the most words on it
pub record Account (scope : Scope) (lines : List Instruction) (pays : Price) : Type 1 where
  pub Way : ℕ → Before → ℕ → ℕ → ℕ → Before → Type 0
  pub sum_at : Before → Instruction → ℕ
  pub high_at : Before → Instruction → ℕ
  pub prices : Prices scope pays sum_at
  pub high_is : (here : Before) (line : Instruction) → (IsInvoke line → ⊥) → high_at here line ≡ words_kept scope.locals here
  pub one : (place : ℕ) (here there : Before) (line : Instruction) → slice_get lines place ≡ Some line → judged_at scope place here line ≡ Ok there
      → going_of line ≡ onward
      → Way place here (sum_at here line) (max (high_at here line) (words_kept scope.locals there)) (suc place) there
  pub next : (place second_place third_place sum high other_sum other_high : ℕ) (here there further : Before)
      → Way place here sum high second_place there → Way second_place there other_sum other_high third_place further
      → Way place here (sum + other_sum) (max high other_high) third_place further
  pub none : (place : ℕ) (here : Before) → Way place here 0 (words_kept scope.locals here) place here
  -- a branch, a part, a jump, a target, another part, and a target
  pub choice : (place second_place jump_at to third_place last sum high other_sum other_high : ℕ) (middle_kinds last_kinds : List ValueKind)
      (here there further : Before) → suc place ≡ second_place → suc jump_at ≡ to → suc to ≡ third_place → place < to
      → jump_at < last
      → slice_get lines place ≡ Some (I.Branch to) → judged_at scope place here (I.Branch to) ≡ Ok there
      → Way second_place there sum high jump_at further
      → slice_get lines jump_at ≡ Some (I.Jump last) → judged_at scope jump_at further (I.Jump last) ≡ Ok there
      → slice_get lines to ≡ Some (I.Target middle_kinds) → judged_at scope to there (I.Target middle_kinds) ≡ Ok there
      → Way third_place there other_sum other_high last further
      → slice_get lines last ≡ Some (I.Target last_kinds) → judged_at scope last further (I.Target last_kinds) ≡ Ok further
      → words_kept scope.locals there ≤ words_kept scope.locals here → words_kept scope.locals further ≤ high
      → words_kept scope.locals further ≤ other_high
      → Way place here (max sum other_sum + pays.step 3) (max (words_kept scope.locals here) (max high other_high)) (suc last) further
  -- a loop over a list with so much room
  pub loop : (place second_place last room sum high : ℕ) (line end_line : Instruction) (open_loop : Open) (here there further outside : Before)
      → suc place ≡ second_place → place < last
      → slice_get lines place ≡ Some line → judged_at scope place here line ≡ Ok there → going_of line ≡ entering → IsUnit line
      → room_on_top here.kinds ≡ room
      → Way second_place there sum high last further → open_loop.start ≡ place → further.loops ≡ open_loop ∷ outside.loops
      → slice_get lines last ≡ Some end_line → judged_at scope last further end_line ≡ Ok outside → going_of end_line ≡ turning → IsUnit end_line
      → words_kept scope.locals further ≤ high
      → Way place here (pays.step 1 + room * (sum + pays.step 1)) (max (words_kept scope.locals here) (max high (words_kept scope.locals outside)))
      (suc last) outside
