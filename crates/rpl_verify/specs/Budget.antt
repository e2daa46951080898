-- What a firing of a block can come to at most: four measures of the ways through it, by one table.
use Rattle.std.specs.Prelude.{◌≡◌, ℕ, suc, ◌+◌, ◌-◌, ◌*◌, ◌≤◌, max, nat_lt, List, [], ◌∷◌, length, slice_get, slice_index, Option, Some, None, Result, Ok, Err, if◌then◌else◌}
use Rattle.rw_model.specs.Draft.{Draft}
use Rattle.rw_model.specs.Objects.{numbered}
use Rattle.rpl_code.specs.declared.kind.ValueKind.{ValueKind}
use Rattle.rpl_code.specs.declared.instruction.Instruction.{Instruction}
use Rattle.rpl_code.specs.declared.instruction.Instruction.TheVariants as I
use Rattle.rpl_code.specs.declared.block.BlockHead.{BlockHead}
use Rattle.rpl_code.specs.declared.block.Block.{Block}
use Rattle.rpl_code.specs.Weight.{words_of}
use Rattle.rpl_tree.specs.Budget.{Budget, budget, limits, capped}
use Rattle.rpl_verify.specs.declared.verify_kind.VerifyKind.{VerifyKind}
use Rattle.rpl_verify.specs.declared.verify_kind.VerifyKind.TheVariants.{TooCostly, TooManyReads, TooManyPuts, TooDeep}
use Rattle.rpl_verify.specs.Kinds.{words_of_all}
use Rattle.rpl_verify.specs.Places.{Loop, visiting, mapping, loop_end, rest_of}
use Rattle.rpl_verify.specs.Names.{Scope}
use Rattle.rpl_verify.specs.Fits.{Open, Before, before, room_on_top, parameters_of, scope_of, Misplaced, Refusal, at_place, then_do, each_block, block_befores}

-- ---- ways through a block

-- where an instruction goes on: to the next place, to another, to one of the two; into a loop or behind it; or to the loop's next turn
pub data Going : Type 0 where
  onward : Going
  jumping : ℕ → Going
  branching : ℕ → Going
  entering : Going
  turning : Going

abbrev pub going_of : Instruction → Going
going_of (I.Jump to) = jumping to
going_of (I.Branch to) = branching to
going_of (I.Foreach n) = entering
going_of (I.Map n) = entering
going_of I.Next = turning
going_of I.Yield = turning
going_of _ = onward

-- what an instruction comes to by itself, with what is before it, and what the end of the block; how much one thing and another behind
-- it come to, and how much so many turns
pub record Measure : Type 0 where
  pub price : Before → Instruction → ℕ
  pub at_end : Before → ℕ
  pub joined : ℕ → ℕ → ℕ
  pub repeated : ℕ → ℕ → ℕ

-- what is before the first place
abbrev pub first_before : List Before → Before
first_before [] = before [] []
first_before (here ∷ befores_there) = here

-- the most that there is from a place on, to the end of its loop or else of the block. `from` says so of the places behind it, `is`
-- stands there, and the list of a loop that begins here has room for so many
abbrev pub most_from : Measure → ℕ → Going → ℕ → ℕ → List Instruction → (ℕ → ℕ) → ℕ
most_from measure place onward price room lines from = measure.joined price (from (suc place))
most_from measure place (jumping to) price room lines from = measure.joined price (from to)
most_from measure place (branching to) price room lines from = measure.joined price (max (from (suc place)) (from to))
most_from measure place entering price room lines from =
    measure.joined price (measure.joined (measure.repeated room (from (suc place))) (from (loop_end (suc place) lines)))
most_from measure place turning price room lines from = price

-- the most from each place on, and at the end, where these are before them
abbrev pub table : Measure → ℕ → List Before → List Instruction → List ℕ
table measure place befores_there [] = measure.at_end (first_before befores_there) ∷ []
table measure place befores_there (instruction ∷ lines) =
    let here : Before = first_before befores_there in
    let behind : List ℕ = table measure (suc place) (rest_of befores_there) lines in
    most_from measure place (going_of instruction) (measure.price here instruction) (room_on_top here.kinds) lines
    (λ to. slice_index behind (to - suc place)) ∷ behind

-- the most of all ways through a block
abbrev pub most : Measure → List Before → List Instruction → ℕ
most measure befores_there lines = slice_index (table measure 0 befores_there lines) 0

-- ---- prices

abbrev pub words_of_kind : Option ValueKind → ℕ
words_of_kind None = 0
words_of_kind (Some kind) = words_of kind

abbrev pub words_of_parameters : Option BlockHead → ℕ
words_of_parameters None = 0
words_of_parameters (Some head) = words_of_all (parameters_of head)

-- of a function's budget
abbrev pub part_of : (Budget → ℕ) → Option Budget → ℕ
part_of part None = 0
part_of part (Some its_budget) = part its_budget

abbrev pub words_of_loop : Loop → ℕ → ℕ
words_of_loop visiting room = room + 3
words_of_loop mapping room = 2 * room + 4

abbrev pub words_of_loops : List Open → ℕ
words_of_loops [] = 0
words_of_loops (open_loop ∷ open_loops) = words_of_loop open_loop.loop open_loop.room + words_of_loops open_loops

-- in a block of this scope, where these are the budgets of the blocks before it
module _ (scope : Scope) (budgets : List Budget) where
  -- how much an instruction counts, with the function that it calls
  abbrev pub count_of : Before → Instruction → ℕ
  count_of here (I.Load n) = words_of_kind (slice_get scope.locals n)
  count_of here (I.Store n) = words_of_kind (slice_get scope.locals n)
  count_of here (I.List n) = n + 1
  count_of here I.Append = room_on_top (rest_of here.kinds) + 2
  count_of here (I.Widen room) = room + 1
  count_of here (I.Invoke number) =
      1 + words_of_parameters (numbered scope.heads number) + part_of (λ (f : Budget). f.count) (numbered budgets number)
  count_of here _ = 1

  abbrev pub looks_of : Before → Instruction → ℕ
  looks_of here I.Read = 1
  looks_of here I.Known = 1
  looks_of here (I.Invoke number) = part_of (λ (f : Budget). f.looks) (numbered budgets number)
  looks_of here _ = 0

  abbrev pub puts_of : Before → Instruction → ℕ
  puts_of here (I.Put object slot ahead) = 1
  puts_of here (I.Invoke number) = part_of (λ (f : Budget). f.puts) (numbered budgets number)
  puts_of here _ = 0

  -- the words that are kept before a place: those of the locals, the operands and the open loops
  abbrev pub words_before : Before → ℕ
  words_before here = words_of_all scope.locals + (words_of_all here.kinds + words_of_loops here.loops)

  abbrev pub words_at : Before → Instruction → ℕ
  words_at here (I.Invoke number) = words_before here + part_of (λ (f : Budget). f.words) (numbered budgets number)
  words_at here _ = words_before here

  -- ---- budgets

  -- counts of a way are added up
  abbrev pub summed : (Before → Instruction → ℕ) → Measure
  summed price = record { price = price; at_end = λ b. 0; joined = λ a b. a + b; repeated = λ m a. m * a }

  -- of the words that are kept the most at one time counts
  abbrev pub at_a_time : Measure
  at_a_time = record { price = words_at; at_end = words_before; joined = max; repeated = λ m a. a }

  abbrev pub budget_by : List Before → List Instruction → Budget
  budget_by befores_there lines =
      budget
      (capped limits.count (most (summed count_of) befores_there lines))
      (capped limits.looks (most (summed looks_of) befores_there lines))
      (capped limits.puts (most (summed puts_of) befores_there lines))
      (capped limits.words (most at_a_time befores_there lines))

-- the budget, if it keeps within the limits
abbrev pub within_limits : Budget → Result Budget VerifyKind
within_limits its_budget =
    if nat_lt limits.count its_budget.count then Err TooCostly else
    if nat_lt limits.looks its_budget.looks then Err TooManyReads else
    if nat_lt limits.puts its_budget.puts then Err TooManyPuts else
    if nat_lt limits.words its_budget.words then Err TooDeep else Ok its_budget

-- a budget is above a limit
abbrev pub IsOverLimit : VerifyKind → Type 0
IsOverLimit TooCostly = Unit {0}
IsOverLimit TooManyReads = Unit {0}
IsOverLimit TooManyPuts = Unit {0}
IsOverLimit TooDeep = Unit {0}
IsOverLimit _ = ⊥

pub record IsWithinLimits (its_budget : Budget) : Type 0 where
  pub count : its_budget.count ≤ limits.count
  pub looks : its_budget.looks ≤ limits.looks
  pub puts : its_budget.puts ≤ limits.puts
  pub words : its_budget.words ≤ limits.words

-- ---- code

-- the first refusal of a block, or its budget, by the budgets of the blocks before it
abbrev pub block_ruling : Draft → List Block → List Block → List Budget → Block → Result Budget Misplaced
block_ruling basin blocks earlier budgets block =
    then_do (block_befores basin blocks earlier block) (λ bs.
    let scope : Scope = scope_of basin blocks (suc (length earlier)) block in
    at_place (length block.lines) (within_limits (budget_by scope budgets bs block.lines)) (λ b. Ok b))

-- the first refusal of a code, or the budget of each block
abbrev pub ruling : Draft → List Block → Result (List Budget) Refusal
ruling basin blocks = each_block (block_ruling basin blocks) [] [] blocks

-- the code fits the basin, each block keeps within the limits, and these are their budgets
abbrev pub AreAccepted : Draft → List Block → List Budget → Type 0
AreAccepted basin blocks budgets = ruling basin blocks ≡ Ok budgets
