-- One step of each instruction, in a block of a setting: operations, locals, and jumps. What several instructions do is put together in `Goes`.
use Rattle.rpl_compile.proofs.Common.{Answer, Block, Bool, Err, Frame, Instruction, IsOperation, Kind, List, MissingOperand, None, Ok, OperandRow}
use Rattle.rpl_compile.proofs.Common.{Option, Outcome, Result, Running, Scope, Some, State, Trail, Value, ValueKind, VerifyKind, World, WrongOperand}
use Rattle.rpl_compile.proofs.Common.{[], a_truth, ap, ap₂, are_declared, are_same_kinds, arith, code_kind, code_kind_of, code_kinds, declared_by}
use Rattle.rpl_compile.proofs.Common.{drop, ended, false, gives, goes_on, if◌then◌else◌, is_ok, joined, jumped, kind_of_value, kinds_append}
use Rattle.rpl_compile.proofs.Common.{kinds_length, kinds_of, left_of, length, load_row, loaded, locals_of, name_misfit, numbered, on_top_of}
use Rattle.rpl_compile.proofs.Common.{operand_count, operands_behind, operated, operation, option_and_then, refl, reverse, reverse-reverse, row_in}
use Rattle.rpl_compile.proofs.Common.{same_kinds_refl, scope_of, set, slice_get, spent, step, step_at, step_by, step_in, store_row, stuck, subst, suc}
use Rattle.rpl_compile.proofs.Common.{sym, take, takes, target, true, value, weight, zero, ℕ, ◌++◌, ◌+◌, ◌>>=◌, ◌∙◌, ◌∷◌, ◌≡◌}
use Rattle.rpl_code.specs.declared.instruction.Instruction.TheVariants as I
use Rattle.rpl_verify.specs.Machine.{onward}
use Rattle.rpl_verify.proofs.KindFacts.{AreRoomy}
use Rattle.rpl_verify.proofs.Operating.{MadeOn}
use Rattle.rpl_verify.proofs.Operated.{operation_made}
use Rattle.rpl_compile.proofs.Goes.{Goes, Made, goes_as, goes_one, goes_weaker, nothing_last, same_outcome}
use Rattle.rpl_compile.proofs.OfKind.{HasKind, drop_front, enough, kind_coded, kind_from_code, take_front, value_words}
use Rattle.rpl_compile.proofs.Setting.{Left, Setting, frame_at, left, same_kept}

-- ---- operands of a row

-- what a row takes is on top
row_ready : (row : OperandRow) (kinds below left : List ValueKind) → length kinds ≡ operand_count row → left_of row kinds ≡ Ok left
    → is_ok (operands_behind row (kinds ++ below)) ≡ true
row_ready row kinds below left kinds_counted accepted =
    ap (λ (test : Bool). is_ok (if test then Err MissingOperand else on_top_of (drop (operand_count row) (kinds ++ below))
    (left_of row (take (operand_count row) (kinds ++ below))))) (enough kinds below (operand_count row) kinds_counted)
    ∙ ap (λ l. is_ok (on_top_of (drop (operand_count row) (kinds ++ below)) (left_of row l)))
    (take_front kinds below (operand_count row) kinds_counted)
    ∙ ap (λ (a : Result (List ValueKind) VerifyKind). is_ok (on_top_of (drop (operand_count row) (kinds ++ below)) a)) accepted

-- ---- an operation after an operation

pub two_binds : {A B C : Type 0} (outcome : Outcome A) (first : A → B) (second : B → C)
    → (outcome >>= (λ a_value. gives (first a_value) 0) >>= (λ w. gives (second w) 0)) ≡ (outcome >>= (λ a_value. gives (second (first a_value)) 0))
two_binds {A = A} {B = B} {C = C} outcome first second = by outcome.answer outcome.trail
  where
    by : (answer : Answer A) (trail : Trail)
        → (goes_on answer trail (λ a_value. gives (first a_value) 0) >>= (λ w. gives (second w) 0))
        ≡ goes_on answer trail (λ a_value. gives (second (first a_value)) 0)
    by (value made) trail = same_outcome (value (second (first made))) _ _ (nothing_last (joined trail (spent 0)))
    by (ended end) trail = refl
    by stuck trail = refl

module _ (code : List Block) (world : World) where
  by_operation : (block : Block) (line : Instruction) (frame : Frame) (callers : List Frame) → IsOperation line
      → step_by code world block line frame callers ≡ (operated code world block line frame >>= (λ h. gives (h ∷ callers) 0))
  by_operation block (I.Load n) frame callers is_operation = absurd is_operation
  by_operation block (I.Store n) frame callers is_operation = absurd is_operation
  by_operation block (I.Invoke b) frame callers is_operation = absurd is_operation
  by_operation block (I.Jump to) frame callers is_operation = absurd is_operation
  by_operation block (I.Branch to) frame callers is_operation = absurd is_operation
  by_operation block (I.Target kinds) frame callers is_operation = absurd is_operation
  by_operation block (I.Foreach n) frame callers is_operation = absurd is_operation
  by_operation block I.Next frame callers is_operation = absurd is_operation
  by_operation block (I.Map n) frame callers is_operation = absurd is_operation
  by_operation block I.Yield frame callers is_operation = absurd is_operation
  by_operation block (I.Put object slot ahead) frame callers is_operation = absurd is_operation
  by_operation block line frame callers is_operation = refl

  -- an instruction whose operands are on top
  pub does : (frame : Frame) (callers : List Frame) (block : Block) (line : Instruction) (values operands : List Value) (leaves : List ValueKind)
      → numbered code frame.block ≡ Some block → slice_get block.lines frame.place ≡ Some line → frame.operands ≡ values ++ operands
      → length values ≡ operand_count (row_in code world block line) → left_of (row_in code world block line) (kinds_of values) ≡ Ok leaves
      → step code world frame callers ≡ step_by code world block line frame callers
  does frame callers block line values operands leaves own stands are many accepted =
      ap (λ o. step_in code world o frame callers) own
      ∙ ap (λ o. step_at code world o block frame callers) stands
      ∙ ap (λ (test : Bool). if test then step_by code world block line frame callers else record { answer = stuck; trail = spent 0 })
      (ap (λ l. is_ok (operands_behind (row_in code world block line) l)) (ap kinds_of are ∙ kinds_append values operands)
      ∙ row_ready (row_in code world block line) (kinds_of values) (kinds_of operands) leaves (kinds_length values ∙ many) accepted)

-- ---- in a block

module _ (setting : Setting) where
  abbrev pub row_here : Instruction → OperandRow
  row_here line = row_in setting.code setting.world setting.block line

  abbrev pub our_scope : Scope
  our_scope = scope_of setting.world.basin setting.code setting.own setting.block

  pub step_does : (place : ℕ) (locals values operands : List Value) (loops : List Running) (callers : List Frame) (line : Instruction)
      (leaves : List ValueKind)
      → slice_get setting.block.lines place ≡ Some line → length values ≡ operand_count (row_here line)
      → left_of (row_here line) (kinds_of values) ≡ Ok leaves
      → step setting.code setting.world (frame_at setting place locals (values ++ operands) loops) callers
      ≡ step_by setting.code setting.world setting.block line (frame_at setting place locals (values ++ operands) loops) callers
  step_does place locals values operands loops callers line leaves stands many accepted =
      does setting.code setting.world
      (frame_at setting place locals (values ++ operands) loops) callers setting.block line values operands leaves setting.stands stands refl many
      accepted

  -- an operation on the operands on top changes nothing but them
  pub operates_as : (kind : Kind) (place : ℕ) (locals values operands : List Value) (loops : List Running) (callers : List Frame) (line : Instruction)
      → IsOperation line → name_misfit our_scope line ≡ None → slice_get setting.block.lines place ≡ Some line → AreRoomy values
      → length values ≡ operand_count (row_here line)
      → left_of (row_here line) (kinds_of values) ≡ Ok (code_kind kind ∷ [])
      → Goes setting.code setting.world (frame_at setting place locals (values ++ operands) loops ∷ callers)
      (operation setting.world line (reverse values))
      (λ a_value next_state. (next_state ≡ frame_at setting (suc place) locals (a_value ∷ operands) loops ∷ callers) × HasKind kind a_value)
  operates_as kind place locals values operands loops callers line is_operation there stands roomy many accepted =
      goes_as setting.code setting.world (frame_at setting place locals (values ++ operands) loops) callers
      (operation setting.world line (reverse values)) (λ a_value. frame_at setting (suc place) locals (a_value ∷ operands) loops ∷ callers)
      (λ a_value next_state. (next_state ≡ frame_at setting (suc place) locals (a_value ∷ operands) loops ∷ callers) × HasKind kind a_value)
      (step_does place locals values operands loops callers line (code_kind kind ∷ []) stands many accepted
      ∙ by_operation setting.code setting.world setting.block line (frame_at setting place locals (values ++ operands) loops) callers is_operation
      ∙ ap₂ (λ (taken left_there : List Value). operation setting.world line (reverse taken)
      >>= (λ a_value. gives (onward (a_value ∷ left_there) (frame_at setting place locals (values ++ operands) loops)) 0) >>=
      (λ frame. gives (frame ∷ callers) 0))
      (take_front values operands (operand_count (row_here line)) many) (drop_front values operands (operand_count (row_here line)) many)
      ∙ two_binds (operation setting.world line (reverse values))
      (λ a_value. onward (a_value ∷ operands) (frame_at setting place locals (values ++ operands) loops)) (λ (frame : Frame). frame ∷ callers))
      (by (operation setting.world line (reverse values)).answer
      (operation_made setting.world our_scope refl line values (code_kind kind ∷ []) is_operation there many roomy accepted).answer)
    where
      by : (answer : Answer Value) → MadeOn (code_kind kind ∷ []) answer → Made answer
          (λ a_value.
          (◌≡◌ {A = State} (frame_at setting (suc place) locals (a_value ∷ operands) loops ∷ callers)
          (frame_at setting (suc place) locals (a_value ∷ operands) loops ∷ callers)) × HasKind kind a_value)
      by (value made) made_on = let same : code_kind_of made ≡ code_kind kind = cc made_on.0 in (refl, (kind_from_code kind made same, made_on.1))
      by (ended end) made_on = tt
      by stuck made_on = made_on

  pub operates : (kind : Kind) (free place : ℕ) (locals values operands : List Value) (loops : List Running) (callers : List Frame)
      (line : Instruction)
      → IsOperation line → name_misfit our_scope line ≡ None → slice_get setting.block.lines place ≡ Some line → AreRoomy values
      → length values ≡ operand_count (row_here line)
      → left_of (row_here line) (kinds_of values) ≡ Ok (code_kind kind ∷ [])
      → Goes setting.code setting.world (frame_at setting place locals (values ++ operands) loops ∷ callers)
      (operation setting.world line (reverse values)) (Left setting kind free (place + 1) locals operands loops callers)
  operates kind free place locals values operands loops callers line is_operation there stands roomy many accepted =
      goes_weaker setting.code setting.world (frame_at setting place locals (values ++ operands) loops ∷ callers)
      (operation setting.world line (reverse values))
      (λ a_value next_state. (next_state ≡ frame_at setting (suc place) locals (a_value ∷ operands) loops ∷ callers) × HasKind kind a_value)
      (Left setting kind free (place + 1) locals operands loops callers)
      (λ a_value next_state w. subst (λ state. Left setting kind free (place + 1) locals operands loops callers a_value state) (sym w.0)
      (left setting kind free (place + 1) (suc place) locals locals operands loops callers a_value (omega arith) w.1 (same_kept free locals)))
      (operates_as kind place locals values operands loops callers line is_operation there stands roomy many accepted)

  -- ---- locals

  pub local_kind : (number : ℕ) (kind : Kind) → slice_get setting.kinds number ≡ Some kind
      → slice_get (locals_of setting.block) number ≡ Some (code_kind kind)
  local_kind number kind stands = ap (λ first. slice_get first number) setting.locals_are ∙ by setting.kinds number stands
    where
      by : (kinds : List Kind) (n : ℕ) → slice_get kinds n ≡ Some kind → slice_get (code_kinds kinds) n ≡ Some (code_kind kind)
      by [] n second = absurd (cc second)
      by (first ∷ kinds) zero second = let kind_is : first ≡ kind = cc second in ap (λ k. Some (code_kind k)) kind_is
      by (first ∷ kinds) (suc n) second = by kinds n second

  pub loads : (kind : Kind) (free place number : ℕ) (locals operands : List Value) (loops : List Running) (callers : List Frame) (a_value : Value)
      (kept_kind : Kind)
      → slice_get setting.block.lines place ≡ Some (I.Load number) → slice_get setting.kinds number ≡ Some kept_kind
      → slice_get locals number ≡ Some a_value → HasKind kind a_value
      → Goes setting.code setting.world (frame_at setting place locals operands loops ∷ callers) (gives a_value (weight (kind_of_value a_value)))
      (Left setting kind free (place + 1) locals operands loops callers)
  loads kind free place number locals operands loops callers a_value kept_kind stands has holds has_kind =
      goes_one setting.code setting.world (frame_at setting place locals operands loops) callers
      (frame_at setting (suc place) locals (a_value ∷ operands) loops ∷ callers) (spent (weight (kind_of_value a_value))) a_value
      (Left setting kind free (place + 1) locals operands loops callers)
      (step_does place locals [] operands loops callers (I.Load number) (code_kind kept_kind ∷ []) stands
      (ap (λ o. operand_count (load_row o)) (sym (local_kind number kept_kind has)))
      (ap (λ o. left_of (load_row o) []) (local_kind number kept_kind has))
      ∙ ap (λ o. loaded o (frame_at setting place locals operands loops) >>= (λ frame. gives (frame ∷ callers) 0)) holds
      ∙ same_outcome (value (frame_at setting (suc place) locals (a_value ∷ operands) loops ∷ callers)) _ _
      (nothing_last (spent _) ∙ ap spent (value_words a_value)))
      (left setting kind free (place + 1) (suc place) locals locals operands loops callers a_value (omega arith) has_kind (same_kept free locals))

  pub stores : (place number : ℕ) (locals_now operands : List Value) (loops : List Running) (callers : List Frame) (a_value : Value) (kind : Kind)
      → slice_get setting.block.lines place ≡ Some (I.Store number) → slice_get setting.kinds number ≡ Some kind → HasKind kind a_value
      → step setting.code setting.world (frame_at setting place locals_now (a_value ∷ operands) loops) callers
      ≡ gives (frame_at setting (suc place) (set locals_now number a_value) operands loops ∷ callers) (weight (kind_of_value a_value))
  stores place number locals_now operands loops callers a_value kind stands has has_kind =
      step_does place locals_now (a_value ∷ []) operands loops callers (I.Store number) [] stands
      (ap (λ o. operand_count (store_row o)) (sym (local_kind number kind has)))
      (ap (λ o. left_of (store_row o) (code_kind_of a_value ∷ [])) (local_kind number kind has)
      ∙ ap (λ l. left_of (takes (code_kind kind ∷ []) []) (l ∷ [])) (kind_coded kind a_value has_kind)
      ∙ ap (λ (test : Bool). if test then Ok [] else Err WrongOperand) (same_kinds_refl (code_kind kind ∷ [])))
      ∙ same_outcome (value (frame_at setting (suc place) (set locals_now number a_value) operands loops ∷ callers)) _ _
      (nothing_last (spent _) ∙ ap spent (value_words a_value))

  -- ---- jumps

  declared : (kinds : List Kind) (operands : List Value) → kinds_of operands ≡ code_kinds kinds
      → are_declared (declared_by (target kinds)) operands ≡ true
  declared kinds operands kinds_same = ap₂ (λ a b. are_same_kinds a b) (reverse-reverse (code_kinds kinds)) kinds_same
      ∙ same_kinds_refl (code_kinds kinds)

  pub meets : (place : ℕ) (locals operands : List Value) (loops : List Running) (callers : List Frame) (kinds : List Kind)
      → slice_get setting.block.lines place ≡ Some (target kinds) → kinds_of operands ≡ code_kinds kinds
      → step setting.code setting.world (frame_at setting place locals operands loops) callers
      ≡ gives (frame_at setting (suc place) locals operands loops ∷ callers) 1
  meets place locals operands loops callers kinds stands kinds_same =
      step_does place locals [] operands loops callers (target kinds) [] stands refl refl
      ∙ ap (λ (test : Bool).
      (if test then gives (onward operands (frame_at setting place locals operands loops)) 1 else record { answer = stuck; trail = spent 0 }) >>=
      (λ kinds_same. gives (kinds_same ∷ callers) 0)) (declared kinds operands kinds_same)
      ∙ same_outcome (value (frame_at setting (suc place) locals operands loops ∷ callers)) _ _ (nothing_last (spent 1))

  lands : (place to : ℕ) (locals operands values : List Value) (loops : List Running) (callers : List Frame) (kinds : List Kind)
      → slice_get setting.block.lines to ≡ Some (target kinds)
      → kinds_of values ≡ code_kinds kinds
      → (jumped setting.block to values (frame_at setting place locals operands loops) >>= (λ kinds_same. gives (kinds_same ∷ callers) 0))
      ≡ gives (frame_at setting to locals values loops ∷ callers) 1
  lands place to locals operands values loops callers kinds stands kinds_same =
      ap (λ (test : Bool). (if test then gives (frame_at setting to locals values loops) 1 else record { answer = stuck; trail = spent 0 })
      >>= (λ kinds_same. gives (kinds_same ∷ callers) 0))
      (ap (λ (found : Option Instruction). are_declared (option_and_then declared_by found) values) stands ∙ declared kinds values kinds_same)
      ∙ same_outcome (value (frame_at setting to locals values loops ∷ callers)) _ _ (nothing_last (spent 1))

  pub jumps : (place to : ℕ) (locals operands : List Value) (loops : List Running) (callers : List Frame) (kinds : List Kind)
      → slice_get setting.block.lines place ≡ Some (I.Jump to)
      → slice_get setting.block.lines to ≡ Some (target kinds) → kinds_of operands ≡ code_kinds kinds
      → step setting.code setting.world (frame_at setting place locals operands loops) callers
      ≡ gives (frame_at setting to locals operands loops ∷ callers) 1
  jumps place to locals operands loops callers kinds stands there kinds_same =
      step_does place locals [] operands loops callers (I.Jump to) [] stands refl refl
      ∙ lands place to locals operands operands loops callers kinds there kinds_same

  pub goes_in : (place to : ℕ) (locals operands : List Value) (loops : List Running) (callers : List Frame)
      → slice_get setting.block.lines place ≡ Some (I.Branch to)
      → step setting.code setting.world (frame_at setting place locals (a_truth true ∷ operands) loops) callers
      ≡ gives (frame_at setting (suc place) locals operands loops ∷ callers) 1
  goes_in place to locals operands loops callers stands =
      step_does place locals (a_truth true ∷ []) operands loops callers (I.Branch to) [] stands refl refl
      ∙ same_outcome (value (frame_at setting (suc place) locals operands loops ∷ callers)) _ _ (nothing_last (spent 1))

  pub goes_over : (place to : ℕ) (locals operands : List Value) (loops : List Running) (callers : List Frame) (kinds : List Kind)
      → slice_get setting.block.lines place ≡ Some (I.Branch to) → slice_get setting.block.lines to ≡ Some (target kinds)
      → kinds_of operands ≡ code_kinds kinds
      → step setting.code setting.world (frame_at setting place locals (a_truth false ∷ operands) loops) callers
      ≡ gives (frame_at setting to locals operands loops ∷ callers) 1
  goes_over place to locals operands loops callers kinds stands there kinds_same =
      step_does place locals (a_truth false ∷ []) operands loops callers (I.Branch to) [] stands refl refl
      ∙ lands place to locals (a_truth false ∷ operands) operands loops callers kinds there kinds_same
