-- The claims of operators and words: their operands (`one_of`, `both_of`), and then one or two instructions.
use Rattle.rpl_compile.proofs.Common.{And, Append, AreBoth, AreComparable, Bool, CanAddKinds, CanAppend, ConvertWord, Day, Divide, ElevationToStorage}
use Rattle.rpl_compile.proofs.Common.{Env, Equal, Frame, Greater, GreaterEqual, Instruction, IsAnyList, IsAsked, IsKinded, IsOperation, Item, Kind}
use Rattle.rpl_compile.proofs.Common.{Known, Length, Less, LessEqual, Less_by, List, Minus, Month, None, Not, Ok, OneWord, Or, Outcome, Plus, Running}
use Rattle.rpl_compile.proofs.Common.{Site, Some, StorageToElevation, Times, Tree, TwoWord, Unequal, Value, ValueKind, Year, [], after_tree, ap}
use Rattle.rpl_compile.proofs.Common.{append_assoc, append_of, ap₂, arith, asked_code, at, at_most_of, both, code_kind, code_of, convert, date_kind}
use Rattle.rpl_compile.proofs.Common.{difference_kind, difference_line, difference_of, element_of, equal_of, if◌then◌else◌, inl, inr, item_of}
use Rattle.rpl_compile.proofs.Common.{keeping, kind_at, known_in, known_of, left_of, less_of, list_kind, local_count, local_kinds, name_misfit}
use Rattle.rpl_compile.proofs.Common.{names_in, nat_lt, nat_tests, not_of, number_kind, numbers_kind, one, operand_count, operation, or_wrong, over}
use Rattle.rpl_compile.proofs.Common.{product_of, quotient_of, read_of, refl, room_of, size, slice_get, slot_kind, slots_kind, subst, suc, sum_line}
use Rattle.rpl_compile.proofs.Common.{sum_of, sym, table_named, test_line, true, truth_kind, two, value_of, ℕ, ◌++◌, ◌+◌, ◌<◌, ◌>>=◌, ◌∙◌, ◌∷◌, ◌≡◌}
use Rattle.rpl_compile.proofs.Common.{◌⊎◌}
use Rattle.rpl_code.specs.declared.kind.ValueKind.TheVariants as K
use Rattle.rpl_code.specs.declared.instruction.Instruction.TheVariants as I
use Rattle.rpl_compile.proofs.Goes.{Goes}
use Rattle.rpl_compile.proofs.OfKind.{At, HasKind, at_back, at_front, at_head, at_moved, at_tail, kind_coded}
use Rattle.rpl_compile.proofs.Sizes.{code-size}
use Rattle.rpl_compile.proofs.LocalSizes.{locals_size}
use Rattle.rpl_compile.proofs.Setting.{Claim, Here, Left, Setting, frame_at, goes_left, heads_in, here_on, here_over, part, then_kept}
use Rattle.rpl_compile.proofs.Steps.{operates, our_scope, row_here}
use Rattle.rpl_compile.proofs.Leaves.{is_there}

module _ (setting : Setting) where
  -- ---- an instruction on one or two operands

  pub on_one : (operand_kind kind : Kind) (free place : ℕ) (locals operands : List Value) (loops : List Running) (callers : List Frame)
      (line : Instruction) (a_value : Value)
      → IsOperation line → name_misfit (our_scope setting) line ≡ None → slice_get setting.block.lines place ≡ Some line
      → 1 ≡ operand_count (row_here setting line)
      → left_of (row_here setting line) (code_kind operand_kind ∷ []) ≡ Ok (code_kind kind ∷ []) → HasKind operand_kind a_value
      → Goes setting.code setting.world (frame_at setting place locals (a_value ∷ operands) loops ∷ callers)
      (operation setting.world line (a_value ∷ [])) (Left setting kind free (place + 1) locals operands loops callers)
  on_one operand_kind K free place locals operands loops callers line a_value is_operation there placed many leaves has_kind =
      operates setting K free place locals (a_value ∷ []) operands loops callers line is_operation there placed (has_kind.1, tt) many
      (ap (λ l. left_of (row_here setting line) (l ∷ [])) (kind_coded operand_kind a_value has_kind) ∙ leaves)

  pub on_two : (left_kind right_kind kind : Kind) (free place : ℕ) (locals operands : List Value) (loops : List Running) (callers : List Frame)
      (line : Instruction) (left_value right_value : Value)
      → IsOperation line → name_misfit (our_scope setting) line ≡ None → slice_get setting.block.lines place ≡ Some line
      → 2 ≡ operand_count (row_here setting line)
      → left_of (row_here setting line) (code_kind right_kind ∷ code_kind left_kind ∷ []) ≡ Ok (code_kind kind ∷ [])
      → HasKind left_kind left_value → HasKind right_kind right_value
      → Goes setting.code setting.world (frame_at setting place locals (right_value ∷ left_value ∷ operands) loops ∷ callers)
      (operation setting.world line (left_value ∷ right_value ∷ [])) (Left setting kind free (place + 1) locals operands loops callers)
  on_two left_kind right_kind K free place locals operands loops callers line left_value right_value is_operation there placed many leaves
      left_has_kind right_has_kind =
      operates setting K free place locals (right_value ∷ left_value ∷ []) operands loops callers line is_operation there placed
      (right_has_kind.1, (left_has_kind.1, tt)) many
      (ap₂ (λ a b. left_of (row_here setting line) (a ∷ b ∷ [])) (kind_coded right_kind right_value right_has_kind)
      (kind_coded left_kind left_value left_has_kind) ∙ leaves)

  -- an operator of two operands, one instruction long
  abbrev pub Does : Kind → Kind → Kind → Instruction → (Value → Value → Outcome Value) → Type 0
  Does left_kind right_kind K line does =
      (free place : ℕ) (locals operands : List Value) (loops : List Running) (callers : List Frame) (left_value right_value : Value)
      → slice_get setting.block.lines place ≡ Some line
      → HasKind left_kind left_value → HasKind right_kind right_value
      → Goes setting.code setting.world (frame_at setting place locals (right_value ∷ left_value ∷ operands) loops ∷ callers)
      (does left_value right_value) (Left setting K free (place + 1) locals operands loops callers)

  operator : (left_kind right_kind kind : Kind) (line : Instruction) → IsOperation line → name_misfit (our_scope setting) line ≡ None
      → 2 ≡ operand_count (row_here setting line)
      → left_of (row_here setting line) (code_kind right_kind ∷ code_kind left_kind ∷ []) ≡ Ok (code_kind kind ∷ [])
      → Does left_kind right_kind kind line (λ left_value right_value. operation setting.world line (left_value ∷ right_value ∷ []))
  operator left_kind right_kind K line is_operation there many leaves free place locals operands loops callers left_value right_value placed
      left_has_kind right_has_kind =
      on_two left_kind right_kind K free place locals operands loops callers line left_value right_value is_operation there placed many leaves
      left_has_kind right_has_kind

  -- ---- a tree, and then an instruction

  pub one_of : (value_tree : Tree) (site : Site) (environment : Env) (locals operands : List Value) (loops : List Running) (callers : List Frame)
      (operand_kind kind : Kind) (line : Instruction)
      → Claim setting value_tree
      → At setting.block.lines site.place (code_of setting.callees site value_tree ++ line ∷ [])
      → At setting.kinds site.free (local_kinds (heads_in setting) (names_in site.scope) value_tree)
      → IsKinded setting.world.basin (heads_in setting) (names_in site.scope) value_tree → Here setting site environment locals operands
      → kind_at (heads_in setting) site value_tree ≡ operand_kind → IsOperation line → name_misfit (our_scope setting) line ≡ None
      → 1 ≡ operand_count (row_here setting line)
      → left_of (row_here setting line) (code_kind operand_kind ∷ []) ≡ Ok (code_kind kind ∷ [])
      → Goes setting.code setting.world (frame_at setting site.place locals operands loops ∷ callers)
      (value_of setting.world setting.functions environment value_tree >>= (λ a_value. operation setting.world line (a_value ∷ [])))
      (Left setting kind site.free (site.place + (size (heads_in setting) (names_in site.scope) value_tree + 1)) locals operands loops callers)
  one_of value_tree site environment locals operands loops callers operand_kind K line claim_of_value_tree placed locals_at kinded here kind_is
      is_operation there many leaves =
      let own_size = size (heads_in setting) (names_in site.scope) value_tree in
      let end : ℕ = site.place + own_size in
      let Wanted = Left setting K site.free (site.place + (own_size + 1)) locals operands loops callers in
      part setting (kind_at (heads_in setting) site value_tree) site.free end locals operands loops callers
      (frame_at setting site.place locals operands loops ∷ callers) (value_of setting.world setting.functions environment value_tree)
      (λ a_value. operation setting.world line (a_value ∷ [])) Wanted
      (claim_of_value_tree site environment locals operands loops callers
      (at_front setting.block.lines site.place (code_of setting.callees site value_tree) (line ∷ []) placed, locals_at, kinded) here)
      (λ a_value locals_now has_kind kept_so.
      goes_left setting K site.free site.free (end + 1) (site.place + (own_size + 1)) locals locals_now operands loops callers
      (frame_at setting end locals_now (a_value ∷ operands) loops ∷ callers)
      (operation setting.world line (a_value ∷ [])) (omega arith) (omega arith) kept_so
      (on_one operand_kind K site.free end locals_now operands loops callers line a_value is_operation there
      (at_head setting.block.lines end line [] (at_back setting.block.lines site.place own_size (code_of setting.callees site value_tree) (line ∷ [])
      (code-size setting.world.basin setting.callees site value_tree kinded) placed)) many leaves
      (subst (λ operand_kind. HasKind operand_kind a_value) kind_is has_kind)))

  -- both operands, and then an instruction
  pub both_of : (left right : Tree) (site : Site) (environment : Env) (locals operands : List Value) (loops : List Running) (callers : List Frame)
      (does : Value → Value → Outcome Value) (kind : Kind) (line : Instruction) (others : List Instruction)
      → Claim setting left → Claim setting right
      → At setting.block.lines site.place (code_of setting.callees site left ++
      (code_of setting.callees (over (kind_at (heads_in setting) site left) (after_tree setting.callees left site)) right ++ line ∷ others))
      → At setting.kinds site.free
      (local_kinds (heads_in setting) (names_in site.scope) left ++ local_kinds (heads_in setting) (names_in site.scope) right)
      → IsKinded setting.world.basin (heads_in setting) (names_in site.scope) left
      → IsKinded setting.world.basin (heads_in setting) (names_in site.scope) right → Here setting site environment locals operands
      → Does (kind_at (heads_in setting) site left) (kind_at (heads_in setting) site right) kind line does
      → Goes setting.code setting.world (frame_at setting site.place locals operands loops ∷ callers)
      (both (value_of setting.world setting.functions environment left) (value_of setting.world setting.functions environment right) does)
      (Left setting kind site.free
      (site.place + (size (heads_in setting) (names_in site.scope) left + (size (heads_in setting) (names_in site.scope) right + 1))) locals
      operands loops callers)
  both_of left right site environment locals operands loops callers does K line others claim_of_left claim_of_right placed locals_at left_kinded
      right_kinded here does_so =
      let left_size = size (heads_in setting) (names_in site.scope) left in
      let right_size = size (heads_in setting) (names_in site.scope) right in
      let left_kind = kind_at (heads_in setting) site left in
      let second : Site = over left_kind (after_tree setting.callees left site) in
      let Wanted = Left setting K site.free (site.place + (left_size + (right_size + 1))) locals operands loops callers in
      let lines = setting.block.lines in
      let right_placed =
      at_back lines site.place left_size (code_of setting.callees site left) (code_of setting.callees second right ++ line ∷ others)
      (code-size setting.world.basin setting.callees site left left_kinded) placed in
      let line_placed =
      at_back lines (site.place + left_size) right_size (code_of setting.callees second right) (line ∷ others)
      (code-size setting.world.basin setting.callees second right right_kinded) right_placed in
      part setting left_kind site.free (site.place + left_size) locals operands loops callers
      (frame_at setting site.place locals operands loops ∷ callers) (value_of setting.world setting.functions environment left)
      (λ left_value. value_of setting.world setting.functions environment right >>= (λ right_value. does left_value right_value)) Wanted
      (claim_of_left site environment locals operands loops callers (
        at_front lines site.place (code_of setting.callees site left) (code_of setting.callees second right ++ line ∷ others) placed,
        at_front setting.kinds site.free (local_kinds (heads_in setting) (names_in site.scope) left)
            (local_kinds (heads_in setting) (names_in site.scope) right) locals_at,
        left_kinded,
      ) here)
      (λ left_value locals_now left_has_kind kept_so.
      part setting (kind_at (heads_in setting) site right) (site.free + local_count left) (site.place + left_size + right_size) locals_now
      (left_value ∷ operands) loops callers
      (frame_at setting (site.place + left_size) locals_now (left_value ∷ operands) loops ∷ callers)
      (value_of setting.world setting.functions environment right) (λ right_value. does left_value right_value) Wanted
      (claim_of_right second environment locals_now (left_value ∷ operands) loops callers (
        at_front lines (site.place + left_size) (code_of setting.callees second right) (line ∷ others) right_placed,
        at_back setting.kinds site.free (local_count left) (local_kinds (heads_in setting) (names_in site.scope) left)
            (local_kinds (heads_in setting) (names_in site.scope) right)
            (locals_size (heads_in setting) left (names_in site.scope)) locals_at,
        right_kinded,
      )
      (here_over setting (keeping (local_count left) site) environment locals_now operands left_kind left_value left_has_kind
      (here_on setting site environment locals locals_now operands (local_count left) here kept_so)))
      (λ right_value locals_then right_has_kind kept_then.
      goes_left setting K site.free site.free (site.place + left_size + right_size + 1)
      (site.place + (left_size + (right_size + 1))) locals locals_then operands loops callers
      (frame_at setting (site.place + left_size + right_size) locals_then (right_value ∷ left_value ∷ operands) loops ∷ callers)
      (does left_value right_value) (omega arith) (omega arith)
      (then_kept site.free (site.free + local_count left) locals locals_now locals_then (omega arith) kept_so kept_then)
      (does_so site.free (site.place + left_size + right_size) locals_then operands loops callers left_value right_value
      (at_head lines (site.place + left_size + right_size) line others line_placed) left_has_kind right_has_kind)))

  -- a test's opposite is NOT of it
  not_of_both : (left right : Tree) (site : Site) (environment : Env) (locals operands : List Value) (loops : List Running) (callers : List Frame)
      (does : Value → Value → Outcome Value) (line : Instruction) → Claim setting left → Claim setting right
      → At setting.block.lines site.place (code_of setting.callees site left ++
      (code_of setting.callees (over (kind_at (heads_in setting) site left) (after_tree setting.callees left site)) right ++ line ∷ I.Not ∷ []))
      → At setting.kinds site.free
      (local_kinds (heads_in setting) (names_in site.scope) left ++ local_kinds (heads_in setting) (names_in site.scope) right)
      → IsKinded setting.world.basin (heads_in setting) (names_in site.scope) left
      → IsKinded setting.world.basin (heads_in setting) (names_in site.scope) right → Here setting site environment locals operands
      → Does (kind_at (heads_in setting) site left) (kind_at (heads_in setting) site right) truth_kind line does
      → Goes setting.code setting.world (frame_at setting site.place locals operands loops ∷ callers)
      (both (value_of setting.world setting.functions environment left) (value_of setting.world setting.functions environment right) does >>= not_of)
      (Left setting truth_kind site.free
      (site.place + (size (heads_in setting) (names_in site.scope) left + (size (heads_in setting) (names_in site.scope) right + 2))) locals
      operands loops callers)
  not_of_both left right site environment locals operands loops callers does line claim_of_left claim_of_right placed locals_at left_kinded
      right_kinded here does_so =
      let left_size = size (heads_in setting) (names_in site.scope) left in
      let right_size = size (heads_in setting) (names_in site.scope) right in
      let second : Site = over (kind_at (heads_in setting) site left) (after_tree setting.callees left site) in
      let end : ℕ = site.place + (left_size + (right_size + 1)) in
      let Wanted = Left setting truth_kind site.free (site.place + (left_size + (right_size + 2))) locals operands loops callers in
      let lines = setting.block.lines in
      let right_placed =
      at_back lines site.place left_size (code_of setting.callees site left) (code_of setting.callees second right ++ line ∷ I.Not ∷ [])
      (code-size setting.world.basin setting.callees site left left_kinded) placed in
      let line_placed =
      at_back lines (site.place + left_size) right_size (code_of setting.callees second right) (line ∷ I.Not ∷ [])
      (code-size setting.world.basin setting.callees second right right_kinded) right_placed in
      let not_placed =
      at_moved lines (site.place + left_size + right_size + 1) end (I.Not ∷ []) (omega arith)
      (at_tail lines (site.place + left_size + right_size) line (I.Not ∷ []) line_placed) in
      part setting truth_kind site.free end locals operands loops callers (frame_at setting site.place locals operands loops ∷ callers)
      (both (value_of setting.world setting.functions environment left) (value_of setting.world setting.functions environment right) does) not_of
      Wanted
      (both_of left right site environment locals operands loops callers does truth_kind line
      (I.Not ∷ []) claim_of_left claim_of_right placed locals_at left_kinded right_kinded here does_so)
      (λ a_value locals_now has_kind kept_so.
      goes_left setting truth_kind site.free site.free (end + 1)
      (site.place + (left_size + (right_size + 2))) locals locals_now operands loops callers
      (frame_at setting end locals_now (a_value ∷ operands) loops ∷ callers) (not_of a_value)
      (omega arith) (omega arith) kept_so
      (on_one truth_kind truth_kind site.free end locals_now operands loops callers I.Not a_value tt refl
      (at_head lines end I.Not [] not_placed) refl refl has_kind))

  -- ---- which instruction, by the kinds

  by_both : (Wanted : Kind → Kind → Type 0) (left_known right_known kind other_kind : Kind) → AreBoth left_known right_known kind other_kind
      → Wanted left_known right_known → Wanted kind other_kind
  by_both Wanted left_known right_known kind other_kind are_both holds =
      subst (λ k. Wanted k other_kind) (sym are_both.0) (subst (λ l. Wanted left_known l) (sym are_both.1) holds)

  test_does : (of_numbers of_dates : Instruction) (does : Value → Value → Outcome Value) (left_kind right_kind : Kind)
      → Does number_kind number_kind truth_kind of_numbers does → Does date_kind date_kind truth_kind of_dates does
      → AreComparable left_kind right_kind
      → Does left_kind right_kind truth_kind (test_line left_kind of_numbers of_dates) does
  test_does of_numbers of_dates does left_kind right_kind numbers_do dates_do (inl both_are) =
      by_both (λ left_kind right_kind. Does left_kind right_kind truth_kind (test_line left_kind of_numbers of_dates) does) number_kind number_kind
      left_kind right_kind both_are numbers_do
  test_does of_numbers of_dates does left_kind right_kind numbers_do dates_do (inr both_are) =
      by_both (λ left_kind right_kind. Does left_kind right_kind truth_kind (test_line left_kind of_numbers of_dates) does) date_kind date_kind
      left_kind right_kind both_are dates_do

  equal_does : (left_kind right_kind : Kind) → AreComparable left_kind right_kind
      → Does left_kind right_kind truth_kind (test_line left_kind I.Eq I.Deq) equal_of
  equal_does left_kind right_kind =
      test_does I.Eq I.Deq equal_of left_kind right_kind (operator number_kind number_kind truth_kind I.Eq tt refl refl refl)
      (operator date_kind date_kind truth_kind I.Deq tt refl refl refl)

  less_does : (left_kind right_kind : Kind) → AreComparable left_kind right_kind
      → Does left_kind right_kind truth_kind (test_line left_kind I.Lt I.Dlt) less_of
  less_does left_kind right_kind =
      test_does I.Lt I.Dlt less_of left_kind right_kind (operator number_kind number_kind truth_kind I.Lt tt refl refl refl)
      (operator date_kind date_kind truth_kind I.Dlt tt refl refl refl)

  at_most_does : (left_kind right_kind : Kind) → AreComparable left_kind right_kind
      → Does left_kind right_kind truth_kind (test_line left_kind I.Le I.Dle) at_most_of
  at_most_does left_kind right_kind =
      test_does I.Le I.Dle at_most_of left_kind right_kind (operator number_kind number_kind truth_kind I.Le tt refl refl refl)
      (operator date_kind date_kind truth_kind I.Dle tt refl refl refl)

  sum_does : (left_kind right_kind : Kind) → CanAddKinds left_kind right_kind → Does left_kind right_kind left_kind (sum_line left_kind) sum_of
  sum_does left_kind right_kind (inl both_are) =
      by_both (λ left_kind right_kind. Does left_kind right_kind left_kind (sum_line left_kind) sum_of) number_kind number_kind left_kind right_kind
      both_are
      (operator number_kind number_kind number_kind I.Add tt refl refl refl)
  sum_does left_kind right_kind (inr both_are) =
      by_both (λ left_kind right_kind. Does left_kind right_kind left_kind (sum_line left_kind) sum_of) date_kind number_kind left_kind right_kind
      both_are
      (operator date_kind number_kind date_kind I.Shift tt refl refl refl)

  difference_does : (left_kind right_kind : Kind) → CanAddKinds left_kind right_kind ⊎ AreBoth date_kind date_kind left_kind right_kind
      → Does left_kind right_kind (difference_kind left_kind right_kind) (difference_line left_kind right_kind) difference_of
  difference_does left_kind right_kind (inl (inl both_are)) =
      by_both (λ left_kind right_kind.
      Does left_kind right_kind (difference_kind left_kind right_kind) (difference_line left_kind right_kind) difference_of) number_kind number_kind
      left_kind right_kind
      both_are (operator number_kind number_kind number_kind I.Sub tt refl refl refl)
  difference_does left_kind right_kind (inl (inr both_are)) =
      by_both (λ left_kind right_kind.
      Does left_kind right_kind (difference_kind left_kind right_kind) (difference_line left_kind right_kind) difference_of) date_kind number_kind
      left_kind right_kind both_are
      (operator date_kind number_kind date_kind I.Back tt refl refl refl)
  difference_does left_kind right_kind (inr both_are) =
      by_both (λ left_kind right_kind.
      Does left_kind right_kind (difference_kind left_kind right_kind) (difference_line left_kind right_kind) difference_of) date_kind date_kind
      left_kind right_kind both_are
      (operator date_kind date_kind number_kind I.Between tt refl refl refl)

  number_does : (left_kind right_kind : Kind) (line : Instruction) (does : Value → Value → Outcome Value)
      → Does number_kind number_kind number_kind line does
      → AreBoth number_kind number_kind left_kind right_kind → Does left_kind right_kind number_kind line does
  number_does left_kind right_kind line does does_so both_are =
      by_both (λ left_kind right_kind. Does left_kind right_kind number_kind line does) number_kind number_kind left_kind right_kind both_are does_so

  longer : (room : ℕ) (made_kind : ℕ → ValueKind) → room < 4096
      → or_wrong (if nat_lt room 4096 then Some (made_kind (suc room) ∷ []) else None) ≡ Ok (made_kind (room + 1) ∷ [])
  longer room made_kind less =
      let less_so : nat_lt room 4096 ≡ true = grind (arith, nat_tests, less) in
      let same_place : suc room ≡ room + 1 = omega arith in
      ap (λ (test : Bool). or_wrong (if test then Some (made_kind (suc room) ∷ []) else None)) less_so ∙ ap (λ n. Ok (made_kind n ∷ [])) same_place

  append_by : (left_kind right_kind : Kind) (room : ℕ) → room < 4096 → AreBoth (numbers_kind room) number_kind left_kind right_kind
      ⊎ AreBoth (slots_kind room) slot_kind left_kind right_kind
      → Does left_kind right_kind (list_kind (room_of left_kind + 1) right_kind) I.Append append_of
  append_by left_kind right_kind room less (inl both_are) =
      by_both (λ left_kind right_kind. Does left_kind right_kind (list_kind (room_of left_kind + 1) right_kind) I.Append append_of)
      (numbers_kind room) number_kind left_kind right_kind both_are
      (operator (numbers_kind room) number_kind (numbers_kind (room + 1)) I.Append tt refl refl (longer room K.NList less))
  append_by left_kind right_kind room less (inr both_are) =
      by_both (λ left_kind right_kind. Does left_kind right_kind (list_kind (room_of left_kind + 1) right_kind) I.Append append_of)
      (slots_kind room) slot_kind left_kind right_kind both_are
      (operator (slots_kind room) slot_kind (slots_kind (room + 1)) I.Append tt refl refl (longer room K.SList less))

  append_does : (left_kind right_kind : Kind) → CanAppend left_kind right_kind
      → Does left_kind right_kind (list_kind (room_of left_kind + 1) right_kind) I.Append append_of
  append_does left_kind right_kind takes_so = append_by left_kind right_kind takes_so.0 takes_so.1 takes_so.2

  item_by : (left_kind right_kind : Kind) (room : ℕ) → (left_kind ≡ numbers_kind room) ⊎ (left_kind ≡ slots_kind room) → right_kind ≡ number_kind
      → Does left_kind right_kind (element_of left_kind) I.Item item_of
  item_by left_kind right_kind room (inl list_is) other_kind_is =
      by_both (λ left_kind right_kind. Does left_kind right_kind (element_of left_kind) I.Item item_of)
      (numbers_kind room) number_kind left_kind right_kind (list_is, other_kind_is)
      (operator (numbers_kind room) number_kind number_kind I.Item tt refl refl refl)
  item_by left_kind right_kind room (inr list_is) other_kind_is =
      by_both (λ left_kind right_kind. Does left_kind right_kind (element_of left_kind) I.Item item_of)
      (slots_kind room) number_kind left_kind right_kind (list_is, other_kind_is)
      (operator (slots_kind room) number_kind slot_kind I.Item tt refl refl refl)

  item_does : (left_kind right_kind : Kind) → IsAnyList left_kind × (right_kind ≡ number_kind)
      → Does left_kind right_kind (element_of left_kind) I.Item item_of
  item_does left_kind right_kind takes_so = item_by left_kind right_kind takes_so.0.0 takes_so.0.1 takes_so.1

  -- ---- the forms

  -- OR and AND have branches
  abbrev pub IsPlain : TwoWord → Type 0
  IsPlain Or = ⊥
  IsPlain And = ⊥
  IsPlain word = Unit {0}

  pub on_two_trees : (word : TwoWord) (left right : Tree) → IsPlain word → Claim setting left → Claim setting right
      → Claim setting (two word left right)
  on_two_trees Or left right is_plain claim_of_left claim_of_right site environment locals operands loops callers wants here = absurd is_plain
  on_two_trees And left right is_plain claim_of_left claim_of_right site environment locals operands loops callers wants here = absurd is_plain
  on_two_trees Equal left right is_plain claim_of_left claim_of_right site environment locals operands loops callers wants here =
      both_of left right site environment locals operands loops callers equal_of truth_kind _
      [] claim_of_left claim_of_right wants.0 wants.1 wants.2.0 wants.2.1 here
      (equal_does (kind_at (heads_in setting) site left) (kind_at (heads_in setting) site right) wants.2.2)
  on_two_trees Unequal left right is_plain claim_of_left claim_of_right site environment locals operands loops callers wants here =
      not_of_both left right site environment locals operands loops callers equal_of _ claim_of_left claim_of_right wants.0 wants.1 wants.2.0
      wants.2.1 here (equal_does (kind_at (heads_in setting) site left) (kind_at (heads_in setting) site right) wants.2.2)
  on_two_trees Less left right is_plain claim_of_left claim_of_right site environment locals operands loops callers wants here =
      both_of left right site environment locals operands loops callers less_of truth_kind _
      [] claim_of_left claim_of_right wants.0 wants.1 wants.2.0 wants.2.1 here
      (less_does (kind_at (heads_in setting) site left) (kind_at (heads_in setting) site right) wants.2.2)
  on_two_trees LessEqual left right is_plain claim_of_left claim_of_right site environment locals operands loops callers wants here =
      both_of left right site environment locals operands loops callers at_most_of truth_kind _
      [] claim_of_left claim_of_right wants.0 wants.1 wants.2.0 wants.2.1 here
      (at_most_does (kind_at (heads_in setting) site left) (kind_at (heads_in setting) site right) wants.2.2)
  on_two_trees Greater left right is_plain claim_of_left claim_of_right site environment locals operands loops callers wants here =
      not_of_both left right site environment locals operands loops callers at_most_of _ claim_of_left claim_of_right wants.0 wants.1 wants.2.0
      wants.2.1 here
      (at_most_does (kind_at (heads_in setting) site left) (kind_at (heads_in setting) site right) wants.2.2)
  on_two_trees GreaterEqual left right is_plain claim_of_left claim_of_right site environment locals operands loops callers wants here =
      not_of_both left right site environment locals operands loops callers less_of _ claim_of_left claim_of_right wants.0 wants.1 wants.2.0 wants.2.1
      here (less_does (kind_at (heads_in setting) site left) (kind_at (heads_in setting) site right) wants.2.2)
  on_two_trees Plus left right is_plain claim_of_left claim_of_right site environment locals operands loops callers wants here =
      both_of left right site environment locals operands loops callers sum_of (kind_at (heads_in setting) site left) _
      [] claim_of_left claim_of_right wants.0 wants.1 wants.2.0 wants.2.1 here
      (sum_does (kind_at (heads_in setting) site left) (kind_at (heads_in setting) site right) wants.2.2)
  on_two_trees Less_by left right is_plain claim_of_left claim_of_right site environment locals operands loops callers wants here =
      both_of left right site environment locals operands loops callers difference_of
      (difference_kind (kind_at (heads_in setting) site left) (kind_at (heads_in setting) site right)) _
      [] claim_of_left claim_of_right wants.0 wants.1 wants.2.0 wants.2.1
      here (difference_does (kind_at (heads_in setting) site left) (kind_at (heads_in setting) site right) wants.2.2)
  on_two_trees Times left right is_plain claim_of_left claim_of_right site environment locals operands loops callers wants here =
      both_of left right site environment locals operands loops callers product_of number_kind I.Mul
      [] claim_of_left claim_of_right wants.0 wants.1 wants.2.0 wants.2.1 here
      (number_does (kind_at (heads_in setting) site left) (kind_at (heads_in setting) site right) I.Mul product_of
      (operator number_kind number_kind number_kind I.Mul tt refl refl refl) wants.2.2)
  on_two_trees Divide left right is_plain claim_of_left claim_of_right site environment locals operands loops callers wants here =
      both_of left right site environment locals operands loops callers quotient_of number_kind I.Div
      [] claim_of_left claim_of_right wants.0 wants.1 wants.2.0 wants.2.1 here
      (number_does (kind_at (heads_in setting) site left) (kind_at (heads_in setting) site right) I.Div quotient_of
      (operator number_kind number_kind number_kind I.Div tt refl refl refl) wants.2.2)
  on_two_trees Append left right is_plain claim_of_left claim_of_right site environment locals operands loops callers wants here =
      both_of left right site environment locals operands loops callers append_of _ I.Append
      [] claim_of_left claim_of_right wants.0 wants.1 wants.2.0 wants.2.1 here
      (append_does (kind_at (heads_in setting) site left) (kind_at (heads_in setting) site right) wants.2.2)
  on_two_trees Item left right is_plain claim_of_left claim_of_right site environment locals operands loops callers wants here =
      both_of left right site environment locals operands loops callers item_of _ I.Item
      [] claim_of_left claim_of_right wants.0 wants.1 wants.2.0 wants.2.1 here
      (item_does (kind_at (heads_in setting) site left) (kind_at (heads_in setting) site right) wants.2.2)

  pub on_at : (slot_tree date : Tree) → Claim setting slot_tree → Claim setting date → Claim setting (at slot_tree date)
  on_at slot_tree date claim_of_slot_tree claim_of_date site environment locals operands loops callers wants here =
      both_of slot_tree date site environment locals operands loops callers (read_of setting.world) number_kind I.Read
      [] claim_of_slot_tree claim_of_date wants.0 wants.1 wants.2.0 wants.2.2 here
      (by_both (λ k l. Does k l number_kind I.Read (read_of setting.world)) slot_kind date_kind _ _ (wants.2.1, wants.2.3)
      (operator slot_kind date_kind number_kind I.Read tt refl refl refl))

  pub on_convert : (word : ConvertWord) (object : List ℕ) (operand : Tree) → Claim setting operand → Claim setting (convert word object operand)
  on_convert StorageToElevation object operand claim_of_operand site environment locals operands loops callers wants here =
      one_of operand site environment locals operands loops callers number_kind number_kind
      (I.ToElevation object) claim_of_operand wants.0 wants.1 wants.2.1 here wants.2.2 tt
      (is_there (table_named setting.world.basin object) wants.2.0) refl refl
  on_convert ElevationToStorage object operand claim_of_operand site environment locals operands loops callers wants here =
      one_of operand site environment locals operands loops callers number_kind number_kind
      (I.ToStorage object) claim_of_operand wants.0 wants.1 wants.2.1 here wants.2.2 tt
      (is_there (table_named setting.world.basin object) wants.2.0) refl refl

  -- what KNOWN finds
  abbrev pub Asks : Tree → Type 0
  Asks operand = (site : Site) (environment : Env) (locals operands : List Value) (loops : List Running) (callers : List Frame)
      → IsAsked Known operand
      → At setting.block.lines site.place (asked_code setting.callees site operand ++ I.Known ∷ [])
      → At setting.kinds site.free (local_kinds (heads_in setting) (names_in site.scope) operand)
      → IsKinded setting.world.basin (heads_in setting) (names_in site.scope) operand
      → Here setting site environment locals operands
      → Goes setting.code setting.world (frame_at setting site.place locals operands loops ∷ callers)
      (known_in setting.world setting.functions environment operand)
      (Left setting truth_kind site.free (site.place + size (heads_in setting) (names_in site.scope) operand) locals operands loops callers)

  pub asks_at : (slot_tree date : Tree) → Claim setting slot_tree → Claim setting date → Asks (at slot_tree date)
  asks_at slot_tree date claim_of_slot_tree claim_of_date site environment locals operands loops callers is_asked placed locals_at is_kinded here =
      let second : Site = over (kind_at (heads_in setting) site slot_tree) (after_tree setting.callees slot_tree site) in
      let line : At setting.block.lines site.place (code_of setting.callees site slot_tree ++ (code_of setting.callees second date ++ I.Known ∷ [])) =
      subst (λ l. At setting.block.lines site.place l)
      (append_assoc (code_of setting.callees site slot_tree) (code_of setting.callees second date) (I.Known ∷ [])) placed in
      both_of slot_tree date site environment locals operands loops callers (known_of setting.world) truth_kind I.Known
      [] claim_of_slot_tree claim_of_date line locals_at is_kinded.0 is_kinded.2 here
      (by_both (λ k l. Does k l truth_kind I.Known (known_of setting.world)) slot_kind date_kind _ _ (is_kinded.1, is_kinded.3)
      (operator slot_kind date_kind truth_kind I.Known tt refl refl refl))

  length_by : (kind : Kind) (room : ℕ) → (kind ≡ numbers_kind room) ⊎ (kind ≡ slots_kind room)
      → left_of (row_here setting I.Length) (code_kind kind ∷ []) ≡ Ok (code_kind number_kind ∷ [])
  length_by kind room (inl e) = ap (λ k. left_of (row_here setting I.Length) (code_kind k ∷ [])) e
  length_by kind room (inr e) = ap (λ k. left_of (row_here setting I.Length) (code_kind k ∷ [])) e

  pub on_word : (word : OneWord) (operand : Tree) → Claim setting operand → Asks operand → Claim setting (one word operand)
  on_word Not operand claim_of_operand asks site environment locals operands loops callers wants here =
      one_of operand site environment locals operands loops callers truth_kind truth_kind I.Not claim_of_operand wants.0 wants.1 wants.2.0 here
      wants.2.2 tt refl refl refl
  on_word Minus operand claim_of_operand asks site environment locals operands loops callers wants here =
      one_of operand site environment locals operands loops callers number_kind number_kind I.Neg claim_of_operand wants.0 wants.1 wants.2.0 here
      wants.2.2 tt refl refl refl
  on_word Known operand claim_of_operand asks site environment locals operands loops callers wants here =
      asks site environment locals operands loops callers wants.2.1 wants.0 wants.1 wants.2.0 here
  on_word Length operand claim_of_operand asks site environment locals operands loops callers wants here =
      one_of operand site environment locals operands loops callers
      (kind_at (heads_in setting) site operand) number_kind I.Length claim_of_operand wants.0 wants.1 wants.2.0 here refl tt refl refl
      (length_by (kind_at (heads_in setting) site operand) wants.2.2.0 wants.2.2.1)
  on_word Month operand claim_of_operand asks site environment locals operands loops callers wants here =
      one_of operand site environment locals operands loops callers date_kind number_kind I.Month claim_of_operand wants.0 wants.1 wants.2.0 here
      wants.2.2 tt refl refl refl
  on_word Day operand claim_of_operand asks site environment locals operands loops callers wants here =
      one_of operand site environment locals operands loops callers date_kind number_kind I.Day claim_of_operand wants.0 wants.1 wants.2.0 here
      wants.2.2 tt refl refl refl
  on_word Year operand claim_of_operand asks site environment locals operands loops callers wants here =
      one_of operand site environment locals operands loops callers date_kind number_kind I.Year claim_of_operand wants.0 wants.1 wants.2.0 here
      wants.2.2 tt refl refl refl
