-- Within the crate: the steps of a judgement, by what they go by: a row, a kind, the places of the block.
use Rattle.std.specs.Prelude.{◌≡◌, ℕ, suc, true, nat_lt, List, [], ◌∷◌, length, take, drop, slice_get, Option, Some, None, Result, Ok, Err, if◌then◌else◌}
use Rattle.std.specs.List.{list_all}
use Rattle.rw_model.specs.Draft.{Draft}
use Rattle.rpl_code.specs.declared.kind.ValueKind.{ValueKind}
use Rattle.rpl_code.specs.declared.kind.ValueKind.TheVariants as K
use Rattle.rpl_code.specs.declared.block.BlockHead.{BlockHead}
use Rattle.rpl_code.specs.declared.block.Block.{Block}
use Rattle.rpl_tree.specs.Mean.{Function as Predefined}
use Rattle.rpl_verify.specs.declared.verify_kind.VerifyKind.{VerifyKind}
use Rattle.rpl_verify.specs.declared.verify_kind.VerifyKind.TheVariants.{BackwardJump, MissingOperand, WrongOperand, WrongShape}
use Rattle.rpl_verify.specs.declared.place_fault.PlaceFault.{PlaceFault}
use Rattle.rpl_verify.specs.declared.place_fault.PlaceFault.TheVariants.{Misfit, NoMemory}
use Rattle.rpl_verify.specs.Kinds.{is_that_kind, is_same_value_kind}
use Rattle.rpl_verify.specs.Table.{OperandRow, takes, goes_by, of_list, operands_behind}
use Rattle.rpl_verify.specs.Places.{Loop, Spot}
use Rattle.rpl_verify.specs.Names.{Scope}
use Rattle.rpl_verify.specs.Fits.{Before, Open, before, carried, element_on_top, heads_of, if_fits, innermost, landing, restarted, room_on_top, shut, then_do}
use Rattle.rpl_verify.specs.Walked.{Walked, declares, with_kinds}

-- where a block of these locals, head and number is judged, of these blocks
abbrev pub scope_in : Draft → List Block → ℕ → BlockHead → List ValueKind → List Spot → Scope
scope_in basin blocks number head locals spots =
    record { basin = basin; heads = heads_of blocks; number = number; head = head; locals = locals; spots = spots }

-- how many numbers a predefined function takes
abbrev pub takes_count : Predefined → ℕ
takes_count known = length known.head.takes

-- an instruction of this row takes its operands, and leaves others in their place
abbrev pub taken_by : OperandRow → Before → Result Before VerifyKind
taken_by row here = then_do (operands_behind row here.kinds) (λ kinds. Ok (before kinds here.loops))

-- so many operands of one kind are taken
abbrev pub run_taken : ValueKind → ℕ → Before → Result Before VerifyKind
run_taken kind n here =
    if list_all (is_same_value_kind kind) (take n here.kinds) then Ok (before (drop n here.kinds) here.loops) else Err WrongOperand

-- they become a list, if there are such lists
abbrev pub gathered_into : Option ValueKind → Before → Result Before VerifyKind
gathered_into None here = Err WrongOperand
gathered_into (Some list) here = Ok (before (list ∷ here.kinds) here.loops)

-- a loop begins over the list on top, for a local of this kind, if there is one
abbrev pub opened_over : ℕ → Loop → Option ValueKind → Before → Result Before VerifyKind
opened_over place loop local here =
    then_do (taken_by (goes_by 1 (of_list [])) here) (λ c.
    let open_loop : Open = record { start = place; loop = loop; room = room_on_top here.kinds; under = c.kinds } in
    if_fits (is_that_kind local (element_on_top here.kinds)) (before c.kinds (open_loop ∷ here.loops)))

-- the innermost loop ends behind an instruction of this row
abbrev pub closed_behind : OperandRow → Loop → Before → Result Before VerifyKind
closed_behind row loop here = then_do (taken_by row here) (λ c. shut loop c.kinds c.loops)

abbrev pub found_in : List Spot → ℕ → ℕ → Before → Result (List ValueKind) VerifyKind
found_in spots place to here = if nat_lt place to then landing (innermost here.loops) (slice_get spots to) else Err BackwardJump

-- the operands are those that are declared at a place
abbrev pub carried_to : Option (List ValueKind) → Before → Result Before VerifyKind
carried_to None here = Err WrongShape
carried_to (Some declared) here = carried declared here

abbrev pub branched_in : List Spot → ℕ → ℕ → Before → Result Before VerifyKind
branched_in spots place to here =
    then_do (found_in spots place to here) (λ declared. then_do (taken_by (takes (K.B ∷ []) []) here) (carried declared))

abbrev pub jumped_in : List Spot → ℕ → ℕ → Before → Result Before VerifyKind
jumped_in spots place to here =
    then_do (found_in spots place to here) (λ declared. then_do (carried declared here) (restarted (declares spots (suc place))))

-- ---- operands that are taken

abbrev pub TakesOne : Walked → Walked → Result ValueKind PlaceFault → Type 0
TakesOne old new (Ok kind) = (old.before.kinds ≡ kind ∷ new.before.kinds) × (new ≡ with_kinds old new.before.kinds)
TakesOne old new (Err (Misfit misfit)) = (old.before.kinds ≡ []) × (misfit ≡ MissingOperand)
TakesOne old new (Err NoMemory) = ⊥

abbrev pub TakesTwo : Walked → Walked → Result (ValueKind × ValueKind) PlaceFault → Type 0
TakesTwo old new (Ok two) = (old.before.kinds ≡ two.0 ∷ two.1 ∷ new.before.kinds) × (new ≡ with_kinds old new.before.kinds)
TakesTwo old new (Err (Misfit misfit)) = (nat_lt (length old.before.kinds) 2 ≡ true) × (misfit ≡ MissingOperand)
TakesTwo old new (Err NoMemory) = ⊥
