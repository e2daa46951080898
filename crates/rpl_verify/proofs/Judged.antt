-- What holds before each place of a block that fits, and what each instruction does to the open loops.
use Rattle.rw_base.proofs.Common.{◌≡◌, ℕ, zero, suc, ◌+◌, Bool, true, false, ◌&&◌, nat_lt, List, [], ◌∷◌, ◌++◌, length, take, drop, reverse, Option}
use Rattle.rw_base.proofs.Common.{Some, None, Result, Ok, Err, refl, sym, ap, ◌∙◌, subst, arith, if◌then◌else◌, slice_get}
use Rattle.rpl_code.specs.declared.kind.ValueKind.{ValueKind}
use Rattle.rpl_code.specs.declared.kind.ValueKind.TheVariants as K
use Rattle.rpl_code.specs.declared.instruction.Instruction.{Instruction}
use Rattle.rpl_code.specs.declared.instruction.Instruction.TheVariants as I
use Rattle.rpl_verify.specs.declared.verify_kind.VerifyKind.{VerifyKind}
use Rattle.rpl_verify.specs.declared.verify_kind.VerifyKind.TheVariants.{MissingOperand}
use Rattle.rpl_verify.specs.Kinds.{are_same_kinds, is_that_kind, list_room, element_kind}
use Rattle.rpl_verify.specs.Table.{OperandRow, goes_by, operand_row, left_of, of_list, on_top_of, operand_count, operands_behind, or_wrong}
use Rattle.rpl_verify.specs.Places.{Loop, visiting, mapping, is_same_loop, Bracket, opening, closing, level, bracket}
use Rattle.rpl_verify.specs.Names.{Scope, name_misfit}
use Rattle.rpl_verify.specs.Fits.{Open, Before, Misplaced, at_place, before, before_at, befores, behind_instruction, behind_loop, carried, closed}
use Rattle.rpl_verify.specs.Fits.{declared_at, element_on_top, end_kinds, ended_block, found, if_fits, judged_at, opened, restarted, room_on_top}
use Rattle.rpl_verify.specs.Fits.{shut, taken, then_do}
use Rattle.rpl_verify.proofs.KindFacts.{and_true, same_kinds_true, is_kind_true, then_do_ok, same_ok, fits_ok, no_misfit}

-- ---- steps of a judgement

pub at_place_ok : {A B : Type 0} (place : ℕ) (result : Result A VerifyKind) (go : A → Result B Misplaced) (b : B) → at_place place result go ≡ Ok b
    → (thing : A) × (result ≡ Ok thing) × (go thing ≡ Ok b)
at_place_ok place (Ok thing) go b at_place_is = (thing, refl, at_place_is)
at_place_ok place (Err misfit) go b at_place_is = absurd (cc at_place_is)

-- an instruction that takes its operands: how many there are at least, and what is left
pub record Taken (row : OperandRow) (kinds left_kinds : List ValueKind) : Type 0 where
  pub left : List ValueKind
  pub leaves : left_of row (take (operand_count row) kinds) ≡ Ok left
  pub whole : left_kinds ≡ left ++ drop (operand_count row) kinds
  pub enough : nat_lt (length kinds) (operand_count row) ≡ false

pub taken_ok : (row : OperandRow) (kinds left_kinds : List ValueKind) → operands_behind row kinds ≡ Ok left_kinds → Taken row kinds left_kinds
taken_ok row kinds left_kinds operands_behind_is = by (nat_lt (length kinds) (operand_count row)) refl operands_behind_is
  where
    on_top : (result : Result (List ValueKind) VerifyKind) → left_of row (take (operand_count row) kinds) ≡ result
        → nat_lt (length kinds) (operand_count row) ≡ false
        → on_top_of (drop (operand_count row) kinds) result ≡ Ok left_kinds → Taken row kinds left_kinds
    on_top (Ok left) left_of_is nat_lt_is on_top_of_is =
        record {
          left = left;
          leaves = left_of_is;
          whole = sym (same_ok (left ++ drop (operand_count row) kinds) left_kinds on_top_of_is);
          enough = nat_lt_is;
        }
    on_top (Err misfit) left_of_is nat_lt_is on_top_of_is = absurd (cc on_top_of_is)

    by : (truth : Bool) → nat_lt (length kinds) (operand_count row) ≡ truth
        → (if truth then Err MissingOperand else on_top_of (drop (operand_count row) kinds) (left_of row (take (operand_count row) kinds)))
        ≡ Ok left_kinds → Taken row kinds left_kinds
    by true nat_lt_is if_is = absurd (cc if_is)
    by false nat_lt_is if_is = on_top (left_of row (take (operand_count row) kinds)) refl nat_lt_is if_is

pub same_loop_true : (loop other_loop : Loop) → is_same_loop loop other_loop ≡ true → loop ≡ other_loop
same_loop_true visiting visiting is_same_loop_is = refl
same_loop_true mapping mapping is_same_loop_is = refl
same_loop_true _ _ is_same_loop_is = absurd (cc is_same_loop_is)

pub same_loop_refl : (loop : Loop) → is_same_loop loop loop ≡ true
same_loop_refl visiting = refl
same_loop_refl mapping = refl

-- ---- open loops

-- what an instruction does to the open loops
abbrev pub LoopsGoOn : ℕ → Bracket → List Open → Before → Type 0
LoopsGoOn place (opening loop) open_loops there =
    (open_loop : Open) × (there.loops ≡ open_loop ∷ open_loops) × (there.kinds ≡ open_loop.under) × (open_loop.start ≡ place)
    × (open_loop.loop ≡ loop)
LoopsGoOn place (closing loop) open_loops there =
    (open_loop : Open) × (open_loops ≡ open_loop ∷ there.loops) × (there.kinds ≡ behind_loop open_loop.loop open_loop.room open_loop.under)
    × (open_loop.loop ≡ loop)
LoopsGoOn place level open_loops there = there.loops ≡ open_loops

module _ (scope : Scope) where
  pub taken_is : (instruction : Instruction) (here there : Before) → taken scope instruction here ≡ Ok there
      → (operands_behind (operand_row scope.heads scope.locals instruction) here.kinds ≡ Ok there.kinds) × (there.loops ≡ here.loops)
  taken_is instruction here there taken_is_so =
      let judged =
      then_do_ok (operands_behind (operand_row scope.heads scope.locals instruction) here.kinds) (λ kinds. Ok (before kinds here.loops))
      there taken_is_so in
      let before_is : before judged.0 here.loops ≡ there = same_ok (before judged.0 here.loops) there judged.2 in
      (judged.1 ∙ ap (λ (b : Before). Ok b.kinds) before_is, ap (λ (b : Before). b.loops) (sym before_is))

  pub carried_is : (left_kinds : List ValueKind) (here there : Before) → carried left_kinds here ≡ Ok there
      → (left_kinds ≡ here.kinds) × (here ≡ there)
  carried_is left_kinds here there carried_is_so =
      let fits_ok_so = fits_ok (are_same_kinds left_kinds here.kinds) here there carried_is_so in
      (same_kinds_true left_kinds here.kinds fits_ok_so.0, fits_ok_so.1)

  pub restarted_is : (found : Option (List ValueKind)) (here there : Before) → restarted found here ≡ Ok there → there.loops ≡ here.loops
  restarted_is None here there restarted_is_so = absurd (cc restarted_is_so)
  restarted_is (Some left_kinds) here there restarted_is_so =
      ap (λ (b : Before). b.loops) (sym (same_ok (before left_kinds here.loops) there restarted_is_so))

  -- a loop that begins
  pub record Opens (place : ℕ) (loop : Loop) (n : ℕ) (here there : Before) : Type 0 where
    pub list : ValueKind
    pub under : List ValueKind
    pub element : ValueKind
    pub top : here.kinds ≡ list ∷ under
    pub of_list : element_kind list ≡ Some element
    pub local : slice_get scope.locals n ≡ Some element
    pub news : there ≡ before under (record { start = place; loop = loop; room = list_room list; under = under } ∷ here.loops)

  list_taken : (kinds left_kinds : List ValueKind) → operands_behind (goes_by 1 (of_list [])) kinds ≡ Ok left_kinds
      → (kind : ValueKind) × (kinds ≡ kind ∷ left_kinds)
  list_taken [] left_kinds operands_behind_is = absurd (cc operands_behind_is)
  list_taken (kind ∷ kinds) left_kinds operands_behind_is =
      let taken_row = taken_ok (goes_by 1 (of_list [])) (kind ∷ kinds) left_kinds operands_behind_is in
      by kind taken_row.left taken_row.leaves taken_row.whole
    where
      by : (kind : ValueKind) (left : List ValueKind) → or_wrong (of_list [] (kind ∷ [])) ≡ Ok left → left_kinds ≡ left ++ kinds
          → (other_kind : ValueKind) × (kind ∷ kinds ≡ other_kind ∷ left_kinds)
      by (K.NList m) left or_wrong_is left_kinds_is =
          let left_is : left ≡ [] = cc or_wrong_is in (K.NList m, ap (λ l. K.NList m ∷ l) (sym (left_kinds_is ∙ ap (λ l. l ++ kinds) left_is)))
      by (K.SList m) left or_wrong_is left_kinds_is =
          let left_is : left ≡ [] = cc or_wrong_is in (K.SList m, ap (λ l. K.SList m ∷ l) (sym (left_kinds_is ∙ ap (λ l. l ++ kinds) left_is)))
      by _ left or_wrong_is left_kinds_is = absurd (cc or_wrong_is)

  pub opens_by : (place : ℕ) (loop : Loop) (n : ℕ) (instruction : Instruction) (here there : Before)
      → operand_row scope.heads scope.locals instruction ≡ goes_by 1 (of_list [])
      → opened scope place loop n instruction here ≡ Ok there → Opens place loop n here there
  opens_by place loop n instruction here there operand_row_is opened_is =
      let judged = then_do_ok (taken scope instruction here) (λ (c : Before).
      if_fits (is_that_kind (slice_get scope.locals n) (element_on_top here.kinds))
      (before c.kinds (record { start = place; loop = loop; room = room_on_top here.kinds; under = c.kinds } ∷ here.loops))) there opened_is in
      let taken_kinds = taken_is instruction here judged.0 judged.1 in
      let list_taken_so = list_taken here.kinds judged.0.kinds (ap (λ r. operands_behind r here.kinds) (sym operand_row_is) ∙ taken_kinds.0) in
      let fits_ok_so = fits_ok (is_that_kind (slice_get scope.locals n) (element_on_top here.kinds)) _ there judged.2 in
      let same_kind = is_kind_true (slice_get scope.locals n) (element_on_top here.kinds) fits_ok_so.0 in
      record {
        list = list_taken_so.0;
        under = judged.0.kinds;
        element = same_kind.0;
        top = list_taken_so.1;
        of_list = sym (ap element_on_top list_taken_so.1) ∙ same_kind.2;
        local = same_kind.1;
        news =
            sym fits_ok_so.1 ∙ ap (λ m. before judged.0.kinds (record { start = place; loop = loop; room = m; under = judged.0.kinds } ∷ here.loops))
            (ap room_on_top list_taken_so.1);
      }

  loops_opened : (place : ℕ) (loop : Loop) (n : ℕ) (here there : Before) → Opens place loop n here there
      → LoopsGoOn place (opening loop) here.loops there
  loops_opened place loop n here there opens = (
    record { start = place; loop = loop; room = list_room opens.list; under = opens.under },
    ap (λ (b : Before). b.loops) opens.news,
    ap (λ (b : Before). b.kinds) opens.news,
    refl,
    refl,
  )

  -- a loop that ends
  pub record Closes (loop : Loop) (instruction : Instruction) (here there : Before) : Type 0 where
    pub last : Open
    pub top : here.loops ≡ last ∷ there.loops
    pub same : last.loop ≡ loop
    pub rest : operands_behind (operand_row scope.heads scope.locals instruction) here.kinds ≡ Ok last.under
    pub leaves : there.kinds ≡ behind_loop last.loop last.room last.under

  shut_is : (loop : Loop) (kinds : List ValueKind) (open_loops : List Open) (there : Before) → shut loop kinds open_loops ≡ Ok there
      → (open_loop : Open) × (open_loops ≡ open_loop ∷ there.loops) × (open_loop.loop ≡ loop) × (open_loop.under ≡ kinds)
      × (there.kinds ≡ behind_loop open_loop.loop open_loop.room open_loop.under)
  shut_is loop kinds [] there shut_is_so = absurd (cc shut_is_so)
  shut_is loop kinds (open_loop ∷ open_loops) there shut_is_so =
      let fits_ok_so = fits_ok (is_same_loop loop open_loop.loop && are_same_kinds open_loop.under kinds) _ there shut_is_so in
      let and_true_so = and_true (is_same_loop loop open_loop.loop) (are_same_kinds open_loop.under kinds) fits_ok_so.0 in (
        open_loop,
        ap (λ (b : Before). open_loop ∷ b.loops) fits_ok_so.1,
        sym (same_loop_true loop open_loop.loop and_true_so.0),
        same_kinds_true open_loop.under kinds and_true_so.1,
        ap (λ (b : Before). b.kinds) (sym fits_ok_so.1),
      )

  pub closes_by : (loop : Loop) (instruction : Instruction) (here there : Before) → closed scope loop instruction here ≡ Ok there
      → Closes loop instruction here there
  closes_by loop instruction here there closed_is =
      let judged = then_do_ok (taken scope instruction here) (λ (c : Before). shut loop c.kinds c.loops) there closed_is in
      let taken_kinds = taken_is instruction here judged.0 judged.1 in
      let shut_is_so = shut_is loop judged.0.kinds judged.0.loops there judged.2 in
      record {
        last = shut_is_so.0;
        top = sym taken_kinds.1 ∙ shut_is_so.1;
        same = shut_is_so.2;
        rest = taken_kinds.0 ∙ ap Ok (sym shut_is_so.3);
        leaves = shut_is_so.4;
      }

  loops_closed : (place : ℕ) (loop : Loop) (instruction : Instruction) (here there : Before) → Closes loop instruction here there
      → LoopsGoOn place (closing loop) here.loops there
  loops_closed place loop instruction here there closes = (closes.last, closes.top, closes.leaves, closes.same)

  pub named : (place : ℕ) (here : Before) (instruction : Instruction) (there : Before) → judged_at scope place here instruction ≡ Ok there
      → (name_misfit scope instruction ≡ None) × (behind_instruction scope place here instruction ≡ Ok there)
  named place here instruction there judged_at_is =
      no_misfit (name_misfit scope instruction) (behind_instruction scope place here instruction) there judged_at_is

  loops_go_on_behind : (place : ℕ) (here : Before) (instruction : Instruction) (there : Before)
      → behind_instruction scope place here instruction ≡ Ok there
      → LoopsGoOn place (bracket instruction) here.loops there
  loops_go_on_behind place here (I.Jump to) there behind_instruction_is =
      let judged = then_do_ok (found scope place to here) _ there behind_instruction_is in
      let judged_so = then_do_ok (carried judged.0 here) (restarted (declared_at (slice_get scope.spots (suc place)))) there judged.2 in
      restarted_is _ judged_so.0 there judged_so.2 ∙ ap (λ (b : Before). b.loops) (sym ((carried_is judged.0 here judged_so.0 judged_so.1).1))
  loops_go_on_behind place here (I.Branch to) there behind_instruction_is =
      let judged = then_do_ok (found scope place to here) _ there behind_instruction_is in
      let judged_so = then_do_ok (taken scope (I.Branch to) here) (carried judged.0) there judged.2 in
      ap (λ (b : Before). b.loops) (sym ((carried_is judged.0 judged_so.0 there judged_so.2).1))
      ∙ (taken_is (I.Branch to) here judged_so.0 judged_so.1).1
  loops_go_on_behind place here (I.Target kinds_there) there behind_instruction_is =
      ap (λ (b : Before). b.loops) (sym ((carried_is (reverse kinds_there) here there behind_instruction_is).1))
  loops_go_on_behind place here (I.Foreach n) there behind_instruction_is =
      loops_opened place visiting n here there (opens_by place visiting n (I.Foreach n) here there refl behind_instruction_is)
  loops_go_on_behind place here (I.Map n) there behind_instruction_is =
      loops_opened place mapping n here there (opens_by place mapping n (I.Map n) here there refl behind_instruction_is)
  loops_go_on_behind place here I.Next there behind_instruction_is =
      loops_closed place visiting I.Next here there (closes_by visiting I.Next here there behind_instruction_is)
  loops_go_on_behind place here I.Yield there behind_instruction_is =
      loops_closed place mapping I.Yield here there (closes_by mapping I.Yield here there behind_instruction_is)
  loops_go_on_behind place here instruction there behind_instruction_is = (taken_is instruction here there behind_instruction_is).1

  pub loops_go_on : (place : ℕ) (here : Before) (instruction : Instruction) (there : Before) → judged_at scope place here instruction ≡ Ok there
      → LoopsGoOn place (bracket instruction) here.loops there
  loops_go_on place here instruction there judged_at_is =
      loops_go_on_behind place here instruction there ((named place here instruction there judged_at_is).1)

-- ---- places

module _ (scope : Scope) where
  pub record Parts (place : ℕ) (other_here : Before) (instruction : Instruction) (lines : List Instruction) (befores_there : List Before)
      : Type 0 where
    pub onto : Before
    pub others : List Before
    pub here : judged_at scope place other_here instruction ≡ Ok onto
    pub there : befores scope (suc place) onto lines ≡ Ok others
    pub whole : other_here ∷ others ≡ befores_there

  pub parts : (place : ℕ) (here : Before) (instruction : Instruction) (lines : List Instruction) (befores_there : List Before)
      → befores scope place here (instruction ∷ lines) ≡ Ok befores_there
      → Parts place here instruction lines befores_there
  parts place here instruction lines befores_there befores_is =
      let at_place_ok_so =
      at_place_ok place (judged_at scope place here instruction) (λ c. then_do (befores scope (suc place) c lines) (λ bs. Ok (here ∷ bs)))
      befores_there befores_is in
      let judged = then_do_ok (befores scope (suc place) at_place_ok_so.0 lines) (λ bs. Ok (here ∷ bs)) befores_there at_place_ok_so.2 in
      record {
        onto = at_place_ok_so.0;
        others = judged.0;
        here = at_place_ok_so.1;
        there = judged.1;
        whole = same_ok (here ∷ judged.0) befores_there judged.2;
      }

  pub record Ends (here : Before) (befores_there : List Before) : Type 0 where
    pub whole : here ∷ [] ≡ befores_there
    pub known : end_kinds scope.head ≡ here.kinds
    pub shut_all : here.loops ≡ []

  ends_by : (place : ℕ) (here : Before) (open_loops : List Open) (befores_there : List Before) → open_loops ≡ here.loops
      → at_place place (ended_block scope.head here open_loops) (λ c. Ok (c ∷ [])) ≡ Ok befores_there → Ends here befores_there
  ends_by place here [] befores_there open_loops_is at_place_is =
      let at_place_ok_so = at_place_ok place (ended_block scope.head here []) (λ c. Ok (c ∷ [])) befores_there at_place_is in
      let carried_is_so = carried_is scope (end_kinds scope.head) here at_place_ok_so.0 at_place_ok_so.1 in
      record {
        whole = ap (λ c. c ∷ []) carried_is_so.1 ∙ same_ok (at_place_ok_so.0 ∷ []) befores_there at_place_ok_so.2;
        known = carried_is_so.0;
        shut_all = sym open_loops_is;
      }
  ends_by place here (open_loop ∷ open_loops) befores_there open_loops_is at_place_is = absurd (cc at_place_is)

  pub begins : (place : ℕ) (here : Before) (lines : List Instruction) (befores_there : List Before)
      → befores scope place here lines ≡ Ok befores_there → before_at befores_there 0 ≡ here
  begins place here [] befores_there befores_is = ap (λ l. before_at l 0) (sym ((ends_by place here here.loops befores_there refl befores_is).whole))
  begins place here (instruction ∷ lines) befores_there befores_is =
      ap (λ l. before_at l 0) (sym ((parts place here instruction lines befores_there befores_is).whole))

  pub places_fit : (place : ℕ) (here : Before) (lines : List Instruction) (befores_there : List Before) (index : ℕ) (instruction : Instruction)
      → befores scope place here lines ≡ Ok befores_there
      → slice_get lines index ≡ Some instruction
      → judged_at scope (place + index) (before_at befores_there index) instruction ≡ Ok (before_at befores_there (suc index))
  places_fit place here [] befores_there index instruction befores_is found = absurd (cc found)
  places_fit place here (instruction ∷ lines) befores_there zero line befores_is found =
      let parts_so = parts place here instruction lines befores_there befores_is in
      let instruction_is : instruction ≡ line = cc found in
      let place_is : place ≡ place + 0 = omega arith in
      let judged_at_is : judged_at scope place here instruction ≡ Ok (before_at parts_so.others 0) =
      parts_so.here ∙ ap Ok (sym (begins (suc place) parts_so.onto lines parts_so.others parts_so.there)) in
      subst (λ l. judged_at scope (place + 0) (before_at l 0) line ≡ Ok (before_at l 1)) parts_so.whole
      (subst (λ n. judged_at scope n here line ≡ Ok (before_at parts_so.others 0)) place_is
      (subst (λ m. judged_at scope place here m ≡ Ok (before_at parts_so.others 0)) instruction_is judged_at_is))
  places_fit place here (instruction ∷ lines) befores_there (suc index) line befores_is found =
      let parts_so = parts place here instruction lines befores_there befores_is in
      let places_fit_so = places_fit (suc place) parts_so.onto lines parts_so.others index line parts_so.there found in
      let same : suc place + index ≡ place + suc index = omega arith in
      subst (λ l. judged_at scope (place + suc index) (before_at l (suc index)) line ≡ Ok (before_at l (suc (suc index)))) parts_so.whole
      (subst (λ n. judged_at scope n (before_at parts_so.others index) line ≡ Ok (before_at parts_so.others (suc index))) same places_fit_so)

  pub end_shut : (place : ℕ) (here : Before) (lines : List Instruction) (befores_there : List Before) (index : ℕ)
      → befores scope place here lines ≡ Ok befores_there
      → slice_get lines index ≡ None → (before_at befores_there index).loops ≡ []
  end_shut place here [] befores_there index befores_is found =
      let ends_by_so = ends_by place here here.loops befores_there refl befores_is in
      subst (λ l. (before_at l index).loops ≡ []) ends_by_so.whole (at_end index ends_by_so.shut_all)
    where
      at_end : (index : ℕ) → here.loops ≡ [] → (before_at (here ∷ []) index).loops ≡ []
      at_end zero loops_is = loops_is
      at_end (suc index) loops_is = refl
  end_shut place here (instruction ∷ lines) befores_there zero befores_is found = absurd (cc found)
  end_shut place here (instruction ∷ lines) befores_there (suc index) befores_is found =
      let parts_so = parts place here instruction lines befores_there befores_is in
      subst (λ l. (before_at l (suc index)).loops ≡ []) parts_so.whole
      (end_shut (suc place) parts_so.onto lines parts_so.others index parts_so.there found)

  pub end_known : (place : ℕ) (here : Before) (lines : List Instruction) (befores_there : List Before)
      → befores scope place here lines ≡ Ok befores_there
      → end_kinds scope.head ≡ (before_at befores_there (length lines)).kinds
  end_known place here [] befores_there befores_is =
      let ends_by_so = ends_by place here here.loops befores_there refl befores_is in
      subst (λ l. end_kinds scope.head ≡ (before_at l 0).kinds) ends_by_so.whole ends_by_so.known
  end_known place here (instruction ∷ lines) befores_there befores_is =
      let parts_so = parts place here instruction lines befores_there befores_is in
      subst (λ l. end_kinds scope.head ≡ (before_at l (suc (length lines))).kinds) parts_so.whole
      (end_known (suc place) parts_so.onto lines parts_so.others parts_so.there)
