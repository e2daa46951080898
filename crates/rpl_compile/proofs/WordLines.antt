-- Lines of operators and of room lead from the kinds of their operands to the kind of their result.
use Rattle.rpl_compile.proofs.Common.{And, Append, AreBoth, AreComparable, Before, CanAddKinds, CanAppend, Day, Divide, Equal, FitsIn, Greater}
use Rattle.rpl_compile.proofs.Common.{GreaterEqual, Instruction, IsAnyList, IsWider, Item, Kind, Known, Length, Less, LessEqual, Less_by, List, Minus}
use Rattle.rpl_compile.proofs.Common.{Month, None, Not, OneTakes, OneWord, Open, Option, Or, Plus, Price, Scope, Some, Times, TwoTakes, TwoWord}
use Rattle.rpl_compile.proofs.Common.{Unequal, ValueKind, Year, [], ap, appended, arith, before, code_kind, date_kind, element_picked, goes_by}
use Rattle.rpl_compile.proofs.Common.{going_of, if◌then◌else◌, inl, inr, is_same_kind, judged_at, length, max, nat_le, nat_lt, nat_tests, number_kind}
use Rattle.rpl_compile.proofs.Common.{numbers_kind, of_list, one_kind, one_line, onward, operand_row, refl, room_of, slot_kind, slots_kind, spots}
use Rattle.rpl_compile.proofs.Common.{subst, suc, sym, taken, takes, true, truth_kind, two_kind, two_lines, weight, widened_list, widening}
use Rattle.rpl_compile.proofs.Common.{words_kept, words_of, ℕ, ◌++◌, ◌+◌, ◌<◌, ◌∙◌, ◌∷◌, ◌≡◌, ◌≤◌, ◌⊎◌}
use Rattle.rpl_code.specs.declared.kind.ValueKind.TheVariants as K
use Rattle.rpl_code.specs.declared.instruction.Instruction.TheVariants as I
use Rattle.rpl_verify.specs.Kinds as V
use Rattle.rpl_compile.proofs.TypeKinds.{IsPlain}
use Rattle.rpl_compile.proofs.Counting.{Account, IsInvoke, IsUnit}
use Rattle.rpl_compile.proofs.Going.{Goes, goes_as, goes_line, goes_none, goes_then, takes_by, takes_kinds}
use Rattle.rpl_compile.proofs.OfKind.{other_room, same_kind_refl}
use Rattle.rpl_compile.proofs.Lines.{of_lists}

-- a word that isn't an IF
abbrev pub IsLine : TwoWord → Type 0
IsLine Or = ⊥
IsLine And = ⊥
IsLine _ = Unit {0}

room_grows : (room : ℕ) (make : ℕ → ValueKind) → room < 4096
    → (if nat_lt room 4096 then Some (make (suc room) ∷ []) else None) ≡ Some (make (room + 1) ∷ [])
room_grows room make less =
    let small : nat_lt room 4096 ≡ true = grind (arith, nat_tests, less) in
    let same_place : suc room ≡ room + 1 = omega arith in
    ap (λ t. if t then Some (make (suc room) ∷ []) else None) small ∙ ap (λ n. Some (make n ∷ [])) same_place

fills : (room place_room : ℕ) (make : ℕ → ValueKind) → room < place_room
    → (if nat_le room place_room then Some (make place_room ∷ []) else None) ≡ Some (make place_room ∷ [])
fills room place_room make less =
    let small : nat_le room place_room ≡ true = grind (arith, nat_tests, less) in ap (λ t. if t then Some (make place_room ∷ []) else None) small

-- how much the lines of a word count
abbrev pub two_step : TwoWord → Kind → ℕ
two_step Unequal kind = 2
two_step Greater kind = 2
two_step GreaterEqual kind = 2
two_step Append kind = room_of kind + 2
two_step _ kind = 1

module _ (scope : Scope) (lines : List Instruction) (spots_are : scope.spots ≡ spots lines) (pays : Price) (account : Account scope lines pays) where
  abbrev Leads : List Instruction → ℕ → Before → Before → ℕ → ℕ → Type 0
  Leads first_lines place here there sum high = Goes scope lines spots_are pays account first_lines place here there sum high

  abbrev kept : Before → ℕ
  kept here = words_kept scope.locals here

  -- an instruction without names and jumps
  abbrev IsSimple : Instruction → Type 0
  IsSimple instruction = ((place : ℕ) (here : Before) → judged_at scope place here instruction ≡ taken scope instruction here)
      × (going_of instruction ≡ onward) × (IsInvoke instruction → ⊥)

  -- it comes to so much
  line : (instruction : Instruction) (kinds left : List ValueKind) (sum : ℕ) → IsSimple instruction
      → operand_row scope.heads scope.locals instruction ≡ takes kinds left
      → (place : ℕ) (under : List ValueKind) (open_loops : List Open) → account.sum_at (before (kinds ++ under) open_loops) instruction ≡ sum
      → Leads (instruction ∷ []) place (before (kinds ++ under) open_loops) (before (left ++ under) open_loops) sum
      (max (kept (before (kinds ++ under) open_loops)) (kept (before (left ++ under) open_loops)))
  line instruction kinds left sum simple row place under open_loops sum_is =
      goes_line scope lines spots_are pays account
      (simple.0 place (before (kinds ++ under) open_loops) ∙ takes_kinds scope instruction kinds left under open_loops row) simple.1 simple.2
      sum_is

  line_by : (instruction : Instruction) (count : ℕ) (left_for : List ValueKind → Option (List ValueKind)) (kinds left : List ValueKind) (sum : ℕ)
      → IsSimple instruction
      → operand_row scope.heads scope.locals instruction ≡ goes_by count left_for → count ≡ length kinds → left_for kinds ≡ Some left
      → (place : ℕ) (under : List ValueKind) (open_loops : List Open) → account.sum_at (before (kinds ++ under) open_loops) instruction ≡ sum
      → Leads (instruction ∷ []) place (before (kinds ++ under) open_loops) (before (left ++ under) open_loops) sum
      (max (kept (before (kinds ++ under) open_loops)) (kept (before (left ++ under) open_loops)))
  line_by instruction count left_for kinds left sum simple row counted found place under open_loops sum_is =
      goes_line scope lines spots_are pays account
      (simple.0 place (before (kinds ++ under) open_loops) ∙ takes_by scope instruction count left_for kinds left under open_loops row counted found)
      simple.1 simple.2 sum_is

  told : {first_lines : List Instruction} {place sum other_sum high other_high : ℕ} {here there : Before}
      → Leads first_lines place here there sum high → sum ≡ other_sum → high ≡ other_high → Leads first_lines place here there other_sum other_high
  told {first_lines} {place} {sum} {other_sum} {high} {other_high} {here} {there} way sum_is high_is =
      goes_as scope lines spots_are pays account {first_lines = first_lines} {place = place} {sum = sum} {other_sum = other_sum}
      {high = high} {other_high = other_high} {here = here} {there = there} way sum_is high_is

  -- ---- one operand

  abbrev OneGoes : OneWord → Kind → Type 0
  OneGoes word kind =
      (place : ℕ) (under : List ValueKind) (open_loops : List Open)
      → Leads (one_line word ∷ []) place (before (code_kind kind ∷ under) open_loops) (before (code_kind (one_kind word) ∷ under) open_loops)
      (pays.step 1)
      (kept (before (code_kind kind ∷ under) open_loops))

  one_of : (word : OneWord) (known_kind kind : Kind) → kind ≡ known_kind → OneGoes word known_kind → OneGoes word kind
  one_of word known_kind kind kind_is goes = subst (OneGoes word) (sym kind_is) goes

  unary : (instruction : Instruction) (kind other_kind : ValueKind) → IsSimple instruction → IsUnit instruction
      → operand_row scope.heads scope.locals instruction ≡ takes (kind ∷ []) (other_kind ∷ [])
      → words_of other_kind ≤ words_of kind
      → (place : ℕ) (under : List ValueKind) (open_loops : List Open)
      → Leads (instruction ∷ []) place (before (kind ∷ under) open_loops) (before (other_kind ∷ under) open_loops) (pays.step 1)
      (kept (before (kind ∷ under) open_loops))
  unary instruction kind other_kind simple is_unit row at_most place under open_loops =
      told (line instruction (kind ∷ []) (other_kind ∷ []) (pays.step 1) simple row place under open_loops
      (account.prices.unit (before (kind ∷ under) open_loops) instruction is_unit)) refl (omega (arith, at_most))

  counting : (kind : ValueKind) → of_list (K.N ∷ []) (kind ∷ []) ≡ Some (K.N ∷ []) → 1 ≤ words_of kind
      → (place : ℕ) (under : List ValueKind) (open_loops : List Open)
      → Leads (I.Length ∷ []) place (before (kind ∷ under) open_loops) (before (K.N ∷ under) open_loops) (pays.step 1)
      (kept (before (kind ∷ under) open_loops))
  counting kind found at_most place under open_loops =
      told (line_by I.Length 1 (of_list (K.N ∷ [])) (kind ∷ []) (K.N ∷ []) (pays.step 1)
      (λ p b. refl, refl, λ x. x) refl refl found place under open_loops
      (account.prices.unit (before (kind ∷ under) open_loops) I.Length tt)) refl (omega (arith, at_most))

  pub one_goes : (word : OneWord) (kind : Kind) → IsPlain word → OneTakes word kind → OneGoes word kind
  one_goes Not kind plain one_takes = one_of Not truth_kind kind one_takes (unary I.Not K.B K.B (λ p b. refl, refl, λ x. x) tt refl (omega arith))
  one_goes Minus kind plain one_takes =
      one_of Minus number_kind kind one_takes (unary I.Neg K.N K.N (λ p b. refl, refl, λ x. x) tt refl (omega arith))
  one_goes Known kind plain one_takes = absurd plain
  one_goes Length kind plain one_takes = of_lists (OneGoes Length) (λ m. counting (K.NList m) refl (omega arith))
      (λ m. counting (K.SList m) refl (omega arith)) kind one_takes
  one_goes Month kind plain one_takes =
      one_of Month date_kind kind one_takes (unary I.Month K.D K.N (λ p b. refl, refl, λ x. x) tt refl (omega arith))
  one_goes Day kind plain one_takes = one_of Day date_kind kind one_takes (unary I.Day K.D K.N (λ p b. refl, refl, λ x. x) tt refl (omega arith))
  one_goes Year kind plain one_takes = one_of Year date_kind kind one_takes (unary I.Year K.D K.N (λ p b. refl, refl, λ x. x) tt refl (omega arith))

  -- ---- two operands

  abbrev TwoGoes : TwoWord → Kind → Kind → Type 0
  TwoGoes word kind other_kind =
      (place : ℕ) (under : List ValueKind) (open_loops : List Open)
      → Leads (two_lines word kind other_kind) place (before (code_kind other_kind ∷ code_kind kind ∷ under) open_loops)
      (before (code_kind (two_kind word kind other_kind) ∷ under) open_loops)
      (pays.step (two_step word kind)) (kept (before (code_kind other_kind ∷ code_kind kind ∷ under) open_loops))

  two_of : (word : TwoWord) (known_kind other_known kind other_kind : Kind) → AreBoth known_kind other_known kind other_kind
      → TwoGoes word known_kind other_known → TwoGoes word kind other_kind
  two_of word known_kind other_known kind other_kind are_both goes =
      subst (λ k. TwoGoes word k other_kind) (sym are_both.0) (subst (TwoGoes word known_kind) (sym are_both.1) goes)

  -- of values of a word each
  binary : (instruction : Instruction) (kind other_kind left : ValueKind) → IsSimple instruction → IsUnit instruction
      → operand_row scope.heads scope.locals instruction ≡ takes (other_kind ∷ kind ∷ []) (left ∷ [])
      → words_of left ≤ words_of kind → (place : ℕ) (under : List ValueKind) (open_loops : List Open)
      → Leads (instruction ∷ []) place (before (other_kind ∷ kind ∷ under) open_loops) (before (left ∷ under) open_loops) (pays.step 1)
      (kept (before (other_kind ∷ kind ∷ under) open_loops))
  binary instruction kind other_kind left simple is_unit row at_most place under open_loops =
      told (line instruction (other_kind ∷ kind ∷ []) (left ∷ []) (pays.step 1) simple row place under open_loops
      (account.prices.unit (before (other_kind ∷ kind ∷ under) open_loops) instruction is_unit)) refl
      (omega (arith, at_most))

  numbers_line : (instruction : Instruction) (left : ValueKind) → IsSimple instruction → IsUnit instruction
      → operand_row scope.heads scope.locals instruction ≡ takes (K.N ∷ K.N ∷ []) (left ∷ [])
      → words_of left ≤ 1
      → (place : ℕ) (under : List ValueKind) (open_loops : List Open)
      → Leads (instruction ∷ []) place (before (K.N ∷ K.N ∷ under) open_loops) (before (left ∷ under) open_loops) (pays.step 1)
      (kept (before (K.N ∷ K.N ∷ under) open_loops))
  numbers_line instruction left simple is_unit row at_most = binary instruction K.N K.N left simple is_unit row at_most

  dates_line : (instruction : Instruction) (left : ValueKind) → IsSimple instruction → IsUnit instruction
      → operand_row scope.heads scope.locals instruction ≡ takes (K.D ∷ K.D ∷ []) (left ∷ [])
      → words_of left ≤ 1
      → (place : ℕ) (under : List ValueKind) (open_loops : List Open)
      → Leads (instruction ∷ []) place (before (K.D ∷ K.D ∷ under) open_loops) (before (left ∷ under) open_loops) (pays.step 1)
      (kept (before (K.D ∷ K.D ∷ under) open_loops))
  dates_line instruction left simple is_unit row at_most = binary instruction K.D K.D left simple is_unit row at_most

  -- a test and its opposite
  then_not : (instruction : Instruction) (place : ℕ) (here : Before) (under : List ValueKind) (open_loops : List Open)
      → Leads (instruction ∷ []) place here (before (K.B ∷ under) open_loops) (pays.step 1) (kept here)
      → Leads (instruction ∷ I.Not ∷ []) place here (before (K.B ∷ under) open_loops) (pays.step 2) (kept here)
  then_not instruction place here under open_loops way =
      let there : Before = before (K.B ∷ under) open_loops in
      let low : kept there ≤ kept here = way.tall in
      let two : pays.step 2 ≡ pays.step 1 + pays.step 1 = account.prices.adds 1 1 in
      told (goes_then scope lines spots_are pays account {first_lines = instruction ∷ []} {second_lines = I.Not ∷ []} {place = place}
      {second_place = place + 1} {here = here} {there = there} {further = there} refl way
      (unary I.Not K.B K.B (λ p b. refl, refl, λ x. x) tt refl (omega arith) (place + 1) under open_loops)) (sym two) (omega (arith, low))

  compared_goes : (word : TwoWord) (kind other_kind : Kind) → AreComparable kind other_kind → TwoGoes word number_kind number_kind
      → TwoGoes word date_kind date_kind
      → TwoGoes word kind other_kind
  compared_goes word kind other_kind (inl both_are) of_numbers of_dates = two_of word number_kind number_kind kind other_kind both_are of_numbers
  compared_goes word kind other_kind (inr both_are) of_numbers of_dates = two_of word date_kind date_kind kind other_kind both_are of_dates

  added_goes : (word : TwoWord) (kind other_kind : Kind) → CanAddKinds kind other_kind → TwoGoes word number_kind number_kind
      → TwoGoes word date_kind number_kind
      → TwoGoes word kind other_kind
  added_goes word kind other_kind (inl both_are) of_numbers of_dates = two_of word number_kind number_kind kind other_kind both_are of_numbers
  added_goes word kind other_kind (inr both_are) of_numbers of_dates = two_of word date_kind number_kind kind other_kind both_are of_dates

  parted_goes : (kind other_kind : Kind) → TwoTakes Less_by kind other_kind → TwoGoes Less_by kind other_kind
  parted_goes kind other_kind (inl both_are) =
      added_goes Less_by kind other_kind both_are (numbers_line I.Sub K.N (λ p b. refl, refl, λ x. x) tt refl (omega arith))
      (binary I.Back K.D K.N K.D (λ p b. refl, refl, λ x. x) tt refl (omega arith))
  parted_goes kind other_kind (inr both_are) =
      two_of Less_by date_kind date_kind kind other_kind both_are (dates_line I.Between K.N (λ p b. refl, refl, λ x. x) tt refl (omega arith))

  -- an element behind those of a list
  appending : (many : ℕ) (make : ℕ → ValueKind) (one : ValueKind) → appended (one ∷ make many ∷ []) ≡ Some (make (many + 1) ∷ []) → words_of one ≡ 1
      → ((n : ℕ) → words_of (make n) ≡ n + 1) → V.list_room (make many) ≡ many
      → (place : ℕ) (under : List ValueKind) (open_loops : List Open)
      → Leads (I.Append ∷ []) place (before (one ∷ make many ∷ under) open_loops) (before (make (many + 1) ∷ under) open_loops) (pays.step (many + 2))
      (kept (before (one ∷ make many ∷ under) open_loops))
  appending many make one found one_word words room place under open_loops =
      let low : words_of (make (many + 1)) ≡ words_of one + words_of (make many) = let more_words = words (many + 1) in let list_words = words many in
      omega (arith, more_words, list_words, one_word) in
      told (line_by I.Append 2 appended (one ∷ make many ∷ []) (make (many + 1) ∷ []) (pays.step (many + 2))
      (λ p list_words. refl, refl, λ x. x) refl refl found place under open_loops
      (account.prices.appended (before (one ∷ make many ∷ under) open_loops) ∙ ap (λ n. pays.step (n + 2)) room)) refl (omega (arith, low))

  appended_goes : (kind other_kind : Kind) → CanAppend kind other_kind → TwoGoes Append kind other_kind
  appended_goes kind other_kind can_append = by can_append.0 can_append.1 can_append.2
    where
      by : (place_room : ℕ) → place_room < 4096 → (AreBoth (numbers_kind place_room) number_kind kind other_kind)
          ⊎ (AreBoth (slots_kind place_room) slot_kind kind other_kind) → TwoGoes Append kind other_kind
      by place_room less (inl e) =
          two_of Append (numbers_kind place_room) number_kind kind other_kind e
          (appending place_room K.NList K.N (room_grows place_room K.NList less) refl (λ room. refl) refl)
      by place_room less (inr e) =
          two_of Append (slots_kind place_room) slot_kind kind other_kind e
          (appending place_room K.SList K.S (room_grows place_room K.SList less) refl (λ room. refl) refl)

  picking : (kind left : ValueKind) → element_picked (K.N ∷ kind ∷ []) ≡ Some (left ∷ []) → words_of left ≡ 1
      → (place : ℕ) (under : List ValueKind) (open_loops : List Open)
      → Leads (I.Item ∷ []) place (before (K.N ∷ kind ∷ under) open_loops) (before (left ∷ under) open_loops) (pays.step 1)
      (kept (before (K.N ∷ kind ∷ under) open_loops))
  picking kind left found one_word place under open_loops =
      told (line_by I.Item 2 element_picked (K.N ∷ kind ∷ []) (left ∷ []) (pays.step 1)
      (λ p b. refl, refl, λ x. x) refl refl found place under open_loops
      (account.prices.unit (before (K.N ∷ kind ∷ under) open_loops) I.Item tt)) refl (omega (arith, one_word))

  picked_goes : (kind other_kind : Kind) → IsAnyList kind → other_kind ≡ number_kind → TwoGoes Item kind other_kind
  picked_goes kind other_kind is_any_list is_number =
      subst (TwoGoes Item kind) (sym is_number)
      (of_lists (λ k. TwoGoes Item k number_kind) (λ m. picking (K.NList m) K.N refl refl) (λ m. picking (K.SList m) K.S refl refl) kind is_any_list)

  pub two_goes : (word : TwoWord) (kind other_kind : Kind) → IsLine word → TwoTakes word kind other_kind → TwoGoes word kind other_kind
  two_goes Or kind other_kind plain two_takes = absurd plain
  two_goes And kind other_kind plain two_takes = absurd plain
  two_goes Equal kind other_kind plain two_takes =
      compared_goes Equal kind other_kind two_takes (numbers_line I.Eq K.B (λ p b. refl, refl, λ x. x) tt refl (omega arith))
      (dates_line I.Deq K.B (λ p b. refl, refl, λ x. x) tt refl (omega arith))
  two_goes Unequal kind other_kind plain two_takes =
      compared_goes Unequal kind other_kind two_takes (λ p ls open_loops. then_not I.Eq p _ ls open_loops
      (numbers_line I.Eq K.B (λ p b. refl, refl, λ x. x) tt refl (omega arith) p ls open_loops))
      (λ p ls open_loops. then_not I.Deq p _ ls open_loops (dates_line I.Deq K.B (λ p b. refl, refl, λ x. x) tt refl (omega arith) p ls open_loops))
  two_goes Less kind other_kind plain two_takes =
      compared_goes Less kind other_kind two_takes (numbers_line I.Lt K.B (λ p b. refl, refl, λ x. x) tt refl (omega arith))
      (dates_line I.Dlt K.B (λ p b. refl, refl, λ x. x) tt refl (omega arith))
  two_goes LessEqual kind other_kind plain two_takes =
      compared_goes LessEqual kind other_kind two_takes (numbers_line I.Le K.B (λ p b. refl, refl, λ x. x) tt refl (omega arith))
      (dates_line I.Dle K.B (λ p b. refl, refl, λ x. x) tt refl (omega arith))
  two_goes Greater kind other_kind plain two_takes =
      compared_goes Greater kind other_kind two_takes (λ p ls open_loops. then_not I.Le p _ ls open_loops
      (numbers_line I.Le K.B (λ p b. refl, refl, λ x. x) tt refl (omega arith) p ls open_loops))
      (λ p ls open_loops. then_not I.Dle p _ ls open_loops (dates_line I.Dle K.B (λ p b. refl, refl, λ x. x) tt refl (omega arith) p ls open_loops))
  two_goes GreaterEqual kind other_kind plain two_takes =
      compared_goes GreaterEqual kind other_kind two_takes
      (λ p ls open_loops. then_not I.Lt p _ ls open_loops (numbers_line I.Lt K.B (λ p b. refl, refl, λ x. x) tt refl (omega arith) p ls open_loops))
      (λ p ls open_loops. then_not I.Dlt p _ ls open_loops (dates_line I.Dlt K.B (λ p b. refl, refl, λ x. x) tt refl (omega arith) p ls open_loops))
  two_goes Plus kind other_kind plain two_takes =
      added_goes Plus kind other_kind two_takes (numbers_line I.Add K.N (λ p b. refl, refl, λ x. x) tt refl (omega arith))
      (binary I.Shift K.D K.N K.D (λ p b. refl, refl, λ x. x) tt refl (omega arith))
  two_goes Less_by kind other_kind plain two_takes = parted_goes kind other_kind two_takes
  two_goes Times kind other_kind plain two_takes =
      two_of Times number_kind number_kind kind other_kind two_takes (numbers_line I.Mul K.N (λ p b. refl, refl, λ x. x) tt refl (omega arith))
  two_goes Divide kind other_kind plain two_takes =
      two_of Divide number_kind number_kind kind other_kind two_takes (numbers_line I.Div K.N (λ p b. refl, refl, λ x. x) tt refl (omega arith))
  two_goes Append kind other_kind plain two_takes = appended_goes kind other_kind two_takes
  two_goes Item kind other_kind plain two_takes = picked_goes kind other_kind two_takes.0 two_takes.1

  -- ---- room

  -- what it counts to give a list the room of its place
  abbrev room_price : Kind → Kind → ℕ
  room_price place kind = if is_same_kind place kind then 0 else pays.step (weight place)

  abbrev WidenGoes : Kind → Kind → Type 0
  WidenGoes place kind =
      (from_place : ℕ) (under : List ValueKind) (open_loops : List Open)
      → Leads (widening place kind) from_place (before (code_kind kind ∷ under) open_loops) (before (code_kind place ∷ under) open_loops)
      (room_price place kind)
      (max (kept (before (code_kind kind ∷ under) open_loops)) (kept (before (code_kind place ∷ under) open_loops)))

  same_room : (kind : Kind) → WidenGoes kind kind
  same_room kind from_place under open_loops =
      let here : Before = before (code_kind kind ∷ under) open_loops in
      subst (λ t.
      Leads (if t then [] else I.Widen (room_of kind) ∷ []) from_place here here (if t then 0 else pays.step (weight kind))
      (max (kept here) (kept here)))
      (sym (same_kind_refl kind))
      (told (goes_none scope lines spots_are pays account from_place here) refl (omega arith))

  filling : (place_room room : ℕ) (make : ℕ → ValueKind) → widened_list place_room (make room ∷ []) ≡ Some (make place_room ∷ [])
      → (from_place : ℕ) (under : List ValueKind) (open_loops : List Open)
      → Leads (I.Widen place_room ∷ []) from_place (before (make room ∷ under) open_loops) (before (make place_room ∷ under) open_loops)
      (pays.step (place_room + 1))
      (max (kept (before (make room ∷ under) open_loops)) (kept (before (make place_room ∷ under) open_loops)))
  filling place_room room make found from_place under open_loops =
      line_by (I.Widen place_room) 1 (widened_list place_room) (make room ∷ []) (make place_room ∷ []) (pays.step (place_room + 1))
      (λ from_place b. refl, refl, λ x. x) refl refl found from_place under open_loops
      (account.prices.widened (before (make room ∷ under) open_loops) place_room)

  wider : (place kind : Kind) → IsWider place kind → WidenGoes place kind
  wider place kind is_wider = by is_wider.0 is_wider.1 is_wider.2 is_wider.3
    where
      by : (place_room room : ℕ) → room < place_room → ((place ≡ numbers_kind place_room) × (kind ≡ numbers_kind room))
          ⊎ ((place ≡ slots_kind place_room) × (kind ≡ slots_kind room))
          → WidenGoes place kind
      by place_room room less (inl e) =
          subst (λ place. WidenGoes place kind) (sym e.0) (subst (WidenGoes (numbers_kind place_room)) (sym e.1) (λ p ls open_loops.
          subst (λ t.
          Leads (if t then [] else I.Widen place_room ∷ []) p (before (K.NList room ∷ ls) open_loops)
          (before (K.NList place_room ∷ ls) open_loops)
          (if t then 0 else pays.step (place_room + 1))
          (max (kept (before (K.NList room ∷ ls) open_loops)) (kept (before (K.NList place_room ∷ ls) open_loops))))
          (sym (other_room place_room room less))
          (filling place_room room K.NList (fills room place_room K.NList less) p ls open_loops)))
      by place_room room less (inr e) =
          subst (λ place. WidenGoes place kind) (sym e.0) (subst (WidenGoes (slots_kind place_room)) (sym e.1) (λ p ls open_loops.
          subst (λ t.
          Leads (if t then [] else I.Widen place_room ∷ []) p (before (K.SList room ∷ ls) open_loops)
          (before (K.SList place_room ∷ ls) open_loops)
          (if t then 0 else pays.step (place_room + 1))
          (max (kept (before (K.SList room ∷ ls) open_loops)) (kept (before (K.SList place_room ∷ ls) open_loops))))
          (sym (other_room place_room room less))
          (filling place_room room K.SList (fills room place_room K.SList less) p ls open_loops)))

  pub widen_goes : (place kind : Kind) → FitsIn place kind → WidenGoes place kind
  widen_goes place kind (inl e) = subst (WidenGoes place) e (same_room place)
  widen_goes place kind (inr h) = wider place kind h
