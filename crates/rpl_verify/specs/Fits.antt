-- When code fits a basin: what each place asks of the operands and loops before it, and the first place that doesn't get it.
use Rattle.std.specs.Prelude.{◌≡◌, ℕ, zero, suc, ◌&&◌, Bool, true, false, nat_lt, ◌==◌, List, [], ◌∷◌, ◌++◌, length, map, reverse, slice_get, Option, Some, None, Result, Ok, Err, if◌then◌else◌}
use Rattle.rw_base.specs.declared.limits.TheConstants.{RULES_MAX}
use Rattle.rw_model.specs.Draft.{Draft}
use Rattle.rpl_code.specs.declared.kind.ValueKind.{ValueKind}
use Rattle.rpl_code.specs.declared.kind.ValueKind.TheVariants as K
use Rattle.rpl_code.specs.declared.instruction.Instruction.{Instruction}
use Rattle.rpl_code.specs.declared.instruction.Instruction.TheVariants as I
use Rattle.rpl_code.specs.declared.block.BlockHead.{BlockHead}
use Rattle.rpl_code.specs.declared.block.BlockHead.TheVariants.{Rule, Function}
use Rattle.rpl_code.specs.declared.block.Block.{Block}
use Rattle.rpl_verify.specs.declared.verify_kind.VerifyKind.{VerifyKind}
use Rattle.rpl_verify.specs.declared.verify_kind.VerifyKind.TheVariants.{TooMany, BackwardJump, JumpOutside, WrongShape}
use Rattle.rpl_verify.specs.Kinds.{are_same_kinds, is_that_kind, list_room, element_kind}
use Rattle.rpl_verify.specs.Table.{operand_row, operands_behind}
use Rattle.rpl_verify.specs.Places.{Loop, visiting, mapping, is_same_loop, Spot, spots}
use Rattle.rpl_verify.specs.Names.{Scope, name_misfit}

-- a loop that is open: where it begins, which it is, for how many elements its list has room, and the operands under that list
pub record Open : Type 0 where
  pub start : ℕ
  pub loop : Loop
  pub room : ℕ
  pub under : List ValueKind

-- what is before a place: the kinds of the operands, last one first, and the open loops, innermost first
pub record Before : Type 0 where
  pub kinds : List ValueKind
  pub loops : List Open

abbrev pub before : List ValueKind → List Open → Before
before kinds loops = record { kinds = kinds; loops = loops }

-- goes on with what there is, unless something is refused
abbrev pub then_do : {A B E : Type 0} → Result A E → (A → Result B E) → Result B E
then_do (Ok thing) go = go thing
then_do (Err refusal) go = Err refusal

abbrev pub if_fits : {A : Type 0} → Bool → A → Result A VerifyKind
if_fits true thing = Ok thing
if_fits false thing = Err WrongShape

abbrev pub unless_misfit : {A : Type 0} → Option VerifyKind → Result A VerifyKind → Result A VerifyKind
unless_misfit None result = result
unless_misfit (Some misfit) result = Err misfit

-- ---- operands

-- the instruction takes its operands, and leaves others in their place
abbrev pub taken : Scope → Instruction → Before → Result Before VerifyKind
taken scope instruction here =
    then_do (operands_behind (operand_row scope.heads scope.locals instruction) here.kinds) (λ kinds. Ok (before kinds here.loops))

-- the operands are those that are declared where they are carried to
abbrev pub carried : List ValueKind → Before → Result Before VerifyKind
carried declared here = if_fits (are_same_kinds declared here.kinds) here

-- ---- jumps

abbrev pub is_same_place : Option ℕ → Option ℕ → Bool
is_same_place None None = true
is_same_place (Some first) (Some second) = first == second
is_same_place _ _ = false

abbrev pub innermost : List Open → Option ℕ
innermost [] = None
innermost (open_loop ∷ open_loops) = Some open_loop.start

-- what is declared at a spot, from a place in the loop that begins there
abbrev pub lands_on : Option ℕ → Spot → Option (List ValueKind) → Result (List ValueKind) VerifyKind
lands_on here spot None = Err JumpOutside
lands_on here spot (Some kinds) = if is_same_place here spot.innermost then Ok kinds else Err JumpOutside

abbrev pub landing : Option ℕ → Option Spot → Result (List ValueKind) VerifyKind
landing here None = Err JumpOutside
landing here (Some spot) = lands_on here spot spot.declares

-- what is declared where a jump from a place to another lands
abbrev pub found : Scope → ℕ → ℕ → Before → Result (List ValueKind) VerifyKind
found scope place to here =
    if nat_lt place to then landing (innermost here.loops) (slice_get scope.spots to) else Err BackwardJump

-- a branch takes its truth value, and carries the others
abbrev pub branched : Scope → ℕ → ℕ → Before → Result Before VerifyKind
branched scope place to here =
    then_do (found scope place to here) (λ declared. then_do (taken scope (I.Branch to) here) (carried declared))

abbrev pub declared_at : Option Spot → Option (List ValueKind)
declared_at None = None
declared_at (Some spot) = spot.declares

-- behind a jump stands a target, and before that the operands that it declares
abbrev pub restarted : Option (List ValueKind) → Before → Result Before VerifyKind
restarted None here = Err WrongShape
restarted (Some kinds) here = Ok (before kinds here.loops)

abbrev pub jumped : Scope → ℕ → ℕ → Before → Result Before VerifyKind
jumped scope place to here =
    then_do (found scope place to here) (λ declared. then_do (carried declared here)
    (restarted (declared_at (slice_get scope.spots (suc place)))))

-- ---- loops

abbrev pub element_on_top : List ValueKind → Option ValueKind
element_on_top [] = None
element_on_top (kind ∷ kinds) = element_kind kind

abbrev pub room_on_top : List ValueKind → ℕ
room_on_top [] = 0
room_on_top (kind ∷ kinds) = list_room kind

-- a loop over the list on top, whose element becomes that of a local of its kind
abbrev pub opened : Scope → ℕ → Loop → ℕ → Instruction → Before → Result Before VerifyKind
opened scope place loop local instruction here =
    then_do (taken scope instruction here) (λ c.
    let open_loop : Open = record { start = place; loop = loop; room = room_on_top here.kinds; under = c.kinds } in
    if_fits (is_that_kind (slice_get scope.locals local) (element_on_top here.kinds)) (before c.kinds (open_loop ∷ here.loops)))

-- the operands behind a loop: a mapping leaves its list
abbrev pub behind_loop : Loop → ℕ → List ValueKind → List ValueKind
behind_loop visiting room under = under
behind_loop mapping room under = K.NList room ∷ under

-- the end of the innermost loop, with the operands under its list
abbrev pub shut : Loop → List ValueKind → List Open → Result Before VerifyKind
shut loop kinds [] = Err WrongShape
shut loop kinds (open_loop ∷ open_loops) =
    if_fits (is_same_loop loop open_loop.loop && are_same_kinds open_loop.under kinds)
    (before (behind_loop open_loop.loop open_loop.room open_loop.under) open_loops)

abbrev pub closed : Scope → Loop → Instruction → Before → Result Before VerifyKind
closed scope loop instruction here = then_do (taken scope instruction here) (λ c. shut loop c.kinds c.loops)

-- ---- a place

-- an instruction whose names are there, at a place
abbrev pub behind_instruction : Scope → ℕ → Before → Instruction → Result Before VerifyKind
behind_instruction scope place here (I.Jump to) = jumped scope place to here
behind_instruction scope place here (I.Branch to) = branched scope place to here
behind_instruction scope place here (I.Target kinds) = carried (reverse kinds) here
behind_instruction scope place here (I.Foreach n) = opened scope place visiting n (I.Foreach n) here
behind_instruction scope place here I.Next = closed scope visiting I.Next here
behind_instruction scope place here (I.Map n) = opened scope place mapping n (I.Map n) here
behind_instruction scope place here I.Yield = closed scope mapping I.Yield here
behind_instruction scope place here instruction = taken scope instruction here

-- what is before the next place, or the first misfit of this one
abbrev pub judged_at : Scope → ℕ → Before → Instruction → Result Before VerifyKind
judged_at scope place here instruction = unless_misfit (name_misfit scope instruction) (behind_instruction scope place here instruction)

-- no operands, or a function's result
abbrev pub end_kinds : BlockHead → List ValueKind
end_kinds Rule = []
end_kinds (Function result parameters) = result ∷ []

-- no loop is open at the end
abbrev pub ended_block : BlockHead → Before → List Open → Result Before VerifyKind
ended_block head here [] = carried (end_kinds head) here
ended_block head here (open_loop ∷ open_loops) = Err WrongShape

-- ---- a block

pub record Misplaced : Type 0 where
  pub misfit : VerifyKind
  pub place : ℕ

abbrev pub at_place : {A B : Type 0} → ℕ → Result A VerifyKind → (A → Result B Misplaced) → Result B Misplaced
at_place place (Ok thing) go = go thing
at_place place (Err misfit) go = Err (record { misfit = misfit; place = place })

-- what is before each place from this one on, and at the end; or the first misfit
abbrev pub befores : Scope → ℕ → Before → List Instruction → Result (List Before) Misplaced
befores scope place here [] = at_place place (ended_block scope.head here here.loops) (λ c. Ok (c ∷ []))
befores scope place here (instruction ∷ lines) =
    at_place place (judged_at scope place here instruction) (λ c. then_do (befores scope (suc place) c lines) (λ bs. Ok (here ∷ bs)))

-- what is before a place
abbrev pub before_at : List Before → ℕ → Before
before_at [] n = before [] []
before_at (here ∷ befores_there) zero = here
before_at (here ∷ befores_there) (suc n) = before_at befores_there n

abbrev pub parameters_of : BlockHead → List ValueKind
parameters_of Rule = []
parameters_of (Function result parameters) = parameters

-- the kinds of a block's locals, which begin with its parameters
abbrev pub locals_of : Block → List ValueKind
locals_of block = parameters_of block.head ++ block.locals

abbrev pub heads_of : List Block → List BlockHead
heads_of blocks = map (λ (block : Block). block.head) blocks

abbrev pub scope_of : Draft → List Block → ℕ → Block → Scope
scope_of basin blocks number block = record {
  basin = basin;
  heads = heads_of blocks;
  number = number;
  head = block.head;
  locals = locals_of block;
  spots = spots block.lines;
}

-- both are rules, or both functions
abbrev pub is_alike : BlockHead → BlockHead → Bool
is_alike Rule Rule = true
is_alike (Function kind kinds) (Function other_kind other_kinds) = true
is_alike _ _ = false

abbrev pub count_alike : BlockHead → List Block → ℕ
count_alike head [] = 0
count_alike head (block ∷ blocks) =
    if is_alike head block.head then suc (count_alike head blocks) else count_alike head blocks

-- a block behind others, among all blocks
abbrev pub block_befores : Draft → List Block → List Block → Block → Result (List Before) Misplaced
block_befores basin blocks earlier block =
    if nat_lt (count_alike block.head earlier) RULES_MAX
    then befores (scope_of basin blocks (suc (length earlier)) block) 0 (before [] []) block.lines
    else Err (record { misfit = TooMany; place = 0 })

-- ---- code

-- blocks count from 1, places from 0
pub record Refusal : Type 0 where
  pub misfit : VerifyKind
  pub block : ℕ
  pub place : ℕ

abbrev pub refusal : VerifyKind → ℕ → ℕ → Refusal
refusal misfit block place = record { misfit = misfit; block = block; place = place }

abbrev pub in_block : {A B : Type 0} → ℕ → Result A Misplaced → (A → Result B Refusal) → Result B Refusal
in_block number (Ok thing) go = go thing
in_block number (Err wrong) go = Err (refusal wrong.misfit number wrong.place)

-- what each block is judged as, where a block is judged by itself, the blocks before it, and what those were judged as
abbrev pub each_block : {A : Type 0} → (List Block → List A → Block → Result A Misplaced)
    → List Block → List A → List Block → Result (List A) Refusal
each_block judge earlier done [] = Ok done
each_block judge earlier done (block ∷ blocks) =
    in_block (suc (length earlier)) (judge earlier done block)
    (λ x. each_block judge (earlier ++ block ∷ []) (done ++ x ∷ []) blocks)

-- what is before each place of each block, or the first misfit
abbrev pub fitting : Draft → List Block → Result (List (List Before)) Refusal
fitting basin blocks = each_block (λ earlier done block. block_befores basin blocks earlier block) [] [] blocks

abbrev pub refusal_in_result : {A : Type 0} → Result A Refusal → Option Refusal
refusal_in_result (Ok thing) = None
refusal_in_result (Err why) = Some why

abbrev pub first_code_refusal : Draft → List Block → Option Refusal
first_code_refusal basin blocks = refusal_in_result (fitting basin blocks)

-- no block has a misfit
abbrev pub AreFit : Draft → List Block → Type 0
AreFit basin blocks = first_code_refusal basin blocks ≡ None
