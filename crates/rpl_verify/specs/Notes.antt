-- What a table has to know of each place, and the table by that alone. All numbers stop at the first one above their limit.
use Rattle.std.specs.Prelude.{ℕ, suc, ◌+◌, ◌-◌, ◌*◌, max, List, [], ◌∷◌, slice_index, Result, Ok}
use Rattle.rpl_code.specs.declared.instruction.Instruction.{Instruction}
use Rattle.rpl_tree.specs.Budget.{Budget, budget, capped, limits}
use Rattle.rpl_verify.specs.declared.budget.Budget.{Budget as Numbers}
use Rattle.rpl_verify.specs.declared.notes.Note.{Note}
use Rattle.rpl_verify.specs.declared.notes.Part.{Part}
use Rattle.rpl_verify.specs.declared.notes.Part.TheVariants.{Count, Looks, Puts, Words}
use Rattle.rpl_code.specs.declared.kind.ValueKind.{ValueKind}
use Rattle.rpl_verify.specs.Kinds.{words_of_all}
use Rattle.rpl_verify.specs.Places.{rest_of}
use Rattle.rpl_verify.specs.Names.{Scope}
use Rattle.rpl_verify.specs.Fits.{Before, Misplaced, before, befores, room_on_top, then_do}
use Rattle.rpl_verify.specs.Budget.{Measure, at_a_time, count_of, first_before, looks_of, most_from, puts_of, summed, going_of, words_at, words_before, words_of_loops}

abbrev pub numbers_seen : Numbers → Budget
numbers_seen numbers_there = budget numbers_there.instructions numbers_there.reads numbers_there.puts numbers_there.words

-- ---- notes

-- the words that are kept before a place, in a block with these locals
abbrev pub words_kept : List ValueKind → Before → ℕ
words_kept locals here = words_of_all locals + (words_of_all here.kinds + words_of_loops here.loops)

module _ (scope : Scope) (budgets : List Budget) where
  abbrev pub note_of : Before → Instruction → Note
  note_of here instruction = record {
    room = room_on_top here.kinds;
    below = room_on_top (rest_of here.kinds);
    count = capped limits.count (count_of scope budgets here instruction);
    looks = capped limits.looks (looks_of scope budgets here instruction);
    puts = capped limits.puts (puts_of scope budgets here instruction);
    words = capped limits.words (words_at scope budgets here instruction);
  }

  -- at the end of the block
  abbrev pub end_note : Before → Note
  end_note here = record { room = 0; below = 0; count = 0; looks = 0; puts = 0; words = capped limits.words (words_before scope budgets here) }

  -- of each place, and of the end
  abbrev pub notes_of : List Before → List Instruction → List Note
  notes_of befores_there [] = end_note (first_before befores_there) ∷ []
  notes_of befores_there (instruction ∷ lines) = note_of (first_before befores_there) instruction ∷ notes_of (rest_of befores_there) lines

  -- what a part of a budget is measured by
  abbrev pub measure_of : Part → Measure
  measure_of Count = summed scope budgets (count_of scope budgets)
  measure_of Looks = summed scope budgets (looks_of scope budgets)
  measure_of Puts = summed scope budgets (puts_of scope budgets)
  measure_of Words = at_a_time scope budgets

-- the notes of a block of this scope, or its first misfit
abbrev pub noted_block : Scope → List Budget → List Instruction → Result (List Note) Misplaced
noted_block scope budgets lines =
    then_do (befores scope 0 (before [] []) lines) (λ bs. Ok (notes_of scope budgets bs lines))

-- ---- the table by notes

abbrev pub limit_of : Part → ℕ
limit_of Count = limits.count
limit_of Looks = limits.looks
limit_of Puts = limits.puts
limit_of Words = limits.words

abbrev pub price_in : Part → Note → ℕ
price_in Count note = note.count
price_in Looks note = note.looks
price_in Puts note = note.puts
price_in Words note = note.words

abbrev pub part_joined : Part → ℕ → ℕ → ℕ
part_joined Words first second = max first second
part_joined _ first second = first + second

abbrev pub repeated : Part → ℕ → ℕ → ℕ
repeated Words room first = first
repeated _ room first = room * first

-- the same on numbers that stop
abbrev pub stopping : Part → Measure
stopping part = record {
  price = λ b i. 0;
  at_end = λ b. 0;
  joined = λ a b. capped (limit_of part) (part_joined part a b);
  repeated = λ room a. capped (limit_of part) (repeated part room a);
}

abbrev pub first_price : Part → List Note → ℕ
first_price part [] = 0
first_price part (note ∷ notes) = price_in part note

abbrev pub first_room : List Note → ℕ
first_room [] = 0
first_room (note ∷ notes) = note.room

-- the most from each place on, and at the end
abbrev pub noted : Part → ℕ → List Note → List Instruction → List ℕ
noted part place notes [] = first_price part notes ∷ []
noted part place notes (instruction ∷ lines) =
    let behind : List ℕ = noted part (suc place) (rest_of notes) lines in
    most_from (stopping part) place (going_of instruction) (first_price part notes) (first_room notes) lines
    (λ to. slice_index behind (to - suc place)) ∷ behind

-- the budget by notes
abbrev pub budget_noted : List Note → List Instruction → Budget
budget_noted notes lines =
    budget
    (slice_index (noted Count 0 notes lines) 0)
    (slice_index (noted Looks 0 notes lines) 0)
    (slice_index (noted Puts 0 notes lines) 0)
    (slice_index (noted Words 0 notes lines) 0)
