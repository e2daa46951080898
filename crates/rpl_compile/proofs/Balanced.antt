-- Where loops end: over the code of a tree no loop is closed that was open before it.
use Rattle.rpl_compile.proofs.Common.{And, Append, Bool, Bracket, Callee, ConvertWord, Divide, ElevationToStorage, Equal, Greater, GreaterEqual}
use Rattle.rpl_compile.proofs.Common.{Instruction, Item, Kind, Known, Less, LessEqual, Less_by, List, Loop, Not, OneWord, Or, Plus, Site}
use Rattle.rpl_compile.proofs.Common.{StorageToElevation, Times, Tree, Trees, TwoWord, Unequal, [], after_room, after_tree, all_code, ap}
use Rattle.rpl_compile.proofs.Common.{append_assoc, ap₂, arguments_code, arith, asked_code, at, bind, bound, bracket, brackets, call, call_line}
use Rattle.rpl_compile.proofs.Common.{choice, choice_lines, closing, code_of, cond_both, convert, convert_line, date_kind, difference_line, drop}
use Rattle.rpl_compile.proofs.Common.{each, element_of, ends_before, false, keeping, kind_of_tree, knowing, length, length-append, level, list}
use Rattle.rpl_compile.proofs.Common.{loop_end, loop_ends, mapped, mapping, no_trees, on, one, one_line, one_lines, opening, over, refl, rest_of}
use Rattle.rpl_compile.proofs.Common.{room_lines, room_of, slice_index, suc, sum_line, target, test_line, tree, true, truth_kind, two, two_lines}
use Rattle.rpl_compile.proofs.Common.{visiting, widening, ℕ, ◌++◌, ◌+◌, ◌∙◌, ◌∷◌, ◌≡◌}
use Rattle.rpl_code.specs.declared.instruction.Instruction.TheVariants as I
use Rattle.rpl_compile.proofs.OfKind.{At}
use Rattle.rpl_compile.proofs.Calling.{each_call}

-- the loops that are open behind these lines are those that are open before them
pub record IsBalanced (lines : List Instruction) : Type 0 where
  pub passes : (place : ℕ) (rest : List Instruction) → loop_ends place (lines ++ rest) ≡ loop_ends (place + length lines) rest

-- the line of this place among them closes the innermost loop that is open before them, and the others stay open
pub record IsShut (shut_at : ℕ) (lines : List Instruction) : Type 0 where
  pub passes : (place : ℕ) (rest : List Instruction) → loop_ends place (lines ++ rest) ≡ suc (place + shut_at) ∷ loop_ends (place + length lines) rest

pub no_lines : IsBalanced []
no_lines = record {
  passes = λ p rest.
      let p_is : p ≡ p + 0 = omega arith in ap (λ n. loop_ends n rest) p_is;
}

moved : (place next_place : ℕ) (rest : List Instruction) → place ≡ next_place → loop_ends place rest ≡ loop_ends next_place rest
moved place next_place rest place_is = ap (λ n. loop_ends n rest) place_is

pub both_balanced : (first second : List Instruction) → IsBalanced first → IsBalanced second → IsBalanced (first ++ second)
both_balanced first second first_balanced second_balanced = record {
  passes = λ p rest.
      let same_place : p + length first + length second ≡ p + length (first ++ second) = omega (arith, length-append first second) in
      ap (loop_ends p) (append_assoc first second rest) ∙ first_balanced.passes p (second ++ rest) ∙ second_balanced.passes (p + length first) rest
      ∙ moved (p + length first + length second) (p + length (first ++ second)) rest same_place;
}

pub level_first : (line : Instruction) (others : List Instruction) → bracket line ≡ level → IsBalanced others → IsBalanced (line ∷ others)
level_first line others same others_balanced = record {
  passes = λ p rest.
      let same_place : suc p + length others ≡ p + suc (length others) = omega arith in
      ap (λ (of_bracket : Bracket). ends_before of_bracket p (loop_ends (suc p) (others ++ rest))) same ∙ others_balanced.passes (suc p) rest
      ∙ moved (suc p + length others) (p + suc (length others)) rest same_place;
}

pub loop_balanced : (loop : Loop) (line : Instruction) (shut_at : ℕ) (others : List Instruction) → bracket line ≡ opening loop → IsShut shut_at others
    → IsBalanced (line ∷ others)
loop_balanced loop line shut_at others same others_shut = record {
  passes = λ p rest.
      let same_place : suc p + length others ≡ p + suc (length others) = omega arith in
      ap (λ (of_bracket : Bracket). ends_before of_bracket p (loop_ends (suc p) (others ++ rest))) same ∙ ap rest_of (others_shut.passes (suc p) rest)
      ∙ moved (suc p + length others) (p + suc (length others)) rest same_place;
}

pub shut_behind : (first second : List Instruction) (many shut_at : ℕ) → length first ≡ many → IsBalanced first → IsShut shut_at second
    → IsShut (many + shut_at) (first ++ second)
shut_behind first second many shut_at first_counted first_balanced second_shut = record {
  passes = λ p rest.
      let same_end : p + length first + length second ≡ p + length (first ++ second) = omega (arith, length-append first second) in
      let same_shut : suc (p + length first + shut_at) ≡ suc (p + (many + shut_at)) = omega (arith, first_counted) in
      ap (loop_ends p) (append_assoc first second rest) ∙ first_balanced.passes p (second ++ rest) ∙ second_shut.passes (p + length first) rest
      ∙ ap₂ (λ (x : ℕ) (ends : List ℕ). x ∷ ends) same_shut (moved (p + length first + length second) (p + length (first ++ second)) rest same_end);
}

pub shut_here : (loop : Loop) (line : Instruction) (others : List Instruction) → bracket line ≡ closing loop → IsBalanced others
    → IsShut 0 (line ∷ others)
shut_here loop line others same others_balanced = record {
  passes = λ p rest.
      let same_place : suc p + length others ≡ p + suc (length others) = omega arith in
      let same_shut : suc p ≡ suc (p + 0) = omega arith in
      ap (λ (of_bracket : Bracket). ends_before of_bracket p (loop_ends (suc p) (others ++ rest))) same
      ∙ ap₂ (λ (x : ℕ) (ends : List ℕ). x ∷ ends) same_shut
      (others_balanced.passes (suc p) rest ∙ moved (suc p + length others) (p + suc (length others)) rest same_place);
}

-- where a loop ends that begins before these lines
pub ends_there : (lines : List Instruction) (place shut_at : ℕ) (loop_lines : List Instruction) → At lines place loop_lines
    → IsShut shut_at loop_lines → loop_end place (drop place lines) ≡ suc (place + shut_at)
ends_there lines place shut_at loop_lines placed shut = ap (loop_end place) placed.1
    ∙ ap (λ (ends : List ℕ). slice_index ends 0) (shut.passes place placed.0)

-- ---- lines

one_level : (line : Instruction) → bracket line ≡ level → IsBalanced (line ∷ [])
one_level line same = level_first line [] same no_lines

test_level : (kind : Kind) (of_numbers of_dates : Instruction) → bracket of_numbers ≡ level → bracket of_dates ≡ level
    → bracket (test_line kind of_numbers of_dates) ≡ level
test_level date_kind of_numbers of_dates numbers_level dates_level = dates_level
test_level kind of_numbers of_dates numbers_level dates_level = numbers_level

sum_level : (kind : Kind) → bracket (sum_line kind) ≡ level
sum_level date_kind = refl
sum_level kind = refl

difference_level : (kind other_kind : Kind) → bracket (difference_line kind other_kind) ≡ level
difference_level date_kind date_kind = refl
difference_level kind other_kind = refl

operator_level : (word : TwoWord) (kind other_kind : Kind) → IsBalanced (two_lines word kind other_kind)
operator_level Or kind other_kind = no_lines
operator_level And kind other_kind = no_lines
operator_level Equal kind other_kind = one_level _ (test_level kind I.Eq I.Deq refl refl)
operator_level Unequal kind other_kind = level_first _ _ (test_level kind I.Eq I.Deq refl refl) (one_level I.Not refl)
operator_level Less kind other_kind = one_level _ (test_level kind I.Lt I.Dlt refl refl)
operator_level LessEqual kind other_kind = one_level _ (test_level kind I.Le I.Dle refl refl)
operator_level Greater kind other_kind = level_first _ _ (test_level kind I.Le I.Dle refl refl) (one_level I.Not refl)
operator_level GreaterEqual kind other_kind = level_first _ _ (test_level kind I.Lt I.Dlt refl refl) (one_level I.Not refl)
operator_level Plus kind other_kind = one_level _ (sum_level kind)
operator_level Less_by kind other_kind = one_level _ (difference_level kind other_kind)
operator_level Times kind other_kind = one_level I.Mul refl
operator_level Divide kind other_kind = one_level I.Div refl
operator_level Append kind other_kind = one_level I.Append refl
operator_level Item kind other_kind = one_level I.Item refl

word_level : (word : OneWord) → bracket (one_line word) ≡ level
word_level Not = refl
word_level word = refl

convert_level : (word : ConvertWord) (object : List ℕ) → bracket (convert_line word object) ≡ level
convert_level StorageToElevation object = refl
convert_level ElevationToStorage object = refl

call_level : (callees : List Callee) (function_name : List ℕ) → bracket (call_line callees function_name) ≡ level
call_level callees function_name = each_call (λ i. bracket i ≡ level) function_name refl (λ n. refl) callees

pub room_level : (place kind : Kind) → IsBalanced (widening place kind)
room_level place kind = cond_both _ _ _ IsBalanced (λ e. no_lines) (λ e. one_level (I.Widen (room_of place)) refl)

word_balanced : (word : OneWord) (operand asked : List Instruction) → IsBalanced operand → IsBalanced asked
    → IsBalanced (one_lines word operand asked)
word_balanced Known operand asked operand_balanced asked_so = both_balanced asked _ asked_so (one_level I.Known refl)
word_balanced word operand asked operand_balanced asked_so = both_balanced operand _ operand_balanced (one_level (one_line word) (word_level word))

choice_level : (middle last : Site) (result : List Kind) (condition first second : List Instruction) → IsBalanced condition → IsBalanced first
    → IsBalanced second
    → IsBalanced (choice_lines middle last result condition first second)
choice_level middle last result condition first second condition_balanced first_balanced second_balanced =
    both_balanced condition _ condition_balanced (level_first (I.Branch (middle.place + 1)) _ refl
    (both_balanced first _ first_balanced (level_first (I.Jump last.place) _ refl (level_first (target middle.below) _ refl
    (both_balanced second _ second_balanced (one_level (target result) refl))))))

-- ---- trees

module _ (callees : List Callee) where
  -- from behind the beginning of a FOR
  pub each_shut : (total : Kind) (local : ℕ) (inside : Site) (body : Tree) → IsBalanced (code_of callees inside body)
      → IsShut (length (code_of callees inside body) + (length (room_lines callees total inside body) + 1))
      (code_of callees inside body ++ (room_lines callees total inside body ++ (I.Store (local + 1) ∷ I.Next ∷ I.Load (local + 1) ∷ [])))
  each_shut total local inside body is_balanced =
      shut_behind (code_of callees inside body) _ _ _ refl is_balanced
      (shut_behind (room_lines callees total inside body) _ _ _ refl (room_level total (kind_of_tree callees inside body))
      (shut_behind (I.Store (local + 1) ∷ []) (I.Next ∷ I.Load (local + 1) ∷ []) 1 0 refl (one_level (I.Store (local + 1)) refl)
      (shut_here visiting I.Next (I.Load (local + 1) ∷ []) refl (one_level (I.Load (local + 1)) refl))))

  -- from behind the beginning of a MAP
  pub mapped_shut : (inside : Site) (body : Tree) → IsBalanced (code_of callees inside body)
      → IsShut (length (code_of callees inside body) + 0) (code_of callees inside body ++ I.Yield ∷ [])
  mapped_shut inside body is_balanced =
      shut_behind (code_of callees inside body) (I.Yield ∷ []) _ 0 refl is_balanced (shut_here mapping I.Yield [] refl no_lines)

  mutual
    pub code_balanced : (expression : Tree) (site : Site) → IsBalanced (code_of callees site expression)
    code_balanced (call function_name arguments) site =
        both_balanced _ _ (arguments_balanced arguments _ site) (one_level _ (call_level callees function_name))
    code_balanced (brackets inside) site = code_balanced inside site
    code_balanced (list items) site = both_balanced _ _ (all_balanced items site) (one_level _ refl)
    code_balanced (choice condition if_true if_false) site =
        let kind = kind_of_tree callees site (choice condition if_true if_false) in
        let first : Site = on 1 (after_tree callees condition site) in
        let middle : Site = after_room callees kind first if_true in
        let second : Site = on 2 middle in
        choice_level middle (after_room callees kind second if_false) (kind ∷ site.below) (code_of callees site condition)
        (code_of callees first if_true ++ room_lines callees kind first if_true)
        (code_of callees second if_false ++ room_lines callees kind second if_false)
        (code_balanced condition site) (both_balanced _ _ (code_balanced if_true first) (room_level kind (kind_of_tree callees first if_true)))
        (both_balanced _ _ (code_balanced if_false second) (room_level kind (kind_of_tree callees second if_false)))
    code_balanced (bind new_name value_tree body) site = both_balanced _ _ (code_balanced value_tree _) (level_first _ _ refl (code_balanced body _))
    code_balanced (each item_name source total_name initial body) site =
        let total = kind_of_tree callees site initial in
        let items : Site = keeping 2 site in
        let inside : Site = knowing (bound total_name total (site.free + 1))
        (knowing (bound item_name (element_of (kind_of_tree callees site source)) site.free)
        (on 2 (after_tree callees initial (after_tree callees source items)))) in
        both_balanced _ _ (code_balanced source items) (both_balanced _ _ (code_balanced initial _) (level_first (I.Store (site.free + 1)) _ refl
        (loop_balanced visiting (I.Foreach site.free) _ _ refl (each_shut total site.free inside body (code_balanced body inside)))))
    code_balanced (mapped item_name source body) site =
        both_balanced _ _ (code_balanced source _) (loop_balanced mapping (I.Map site.free) _ _ refl (mapped_shut _ body (code_balanced body _)))
    code_balanced (one word operand) site =
        word_balanced word (code_of callees site operand) (asked_code callees site operand) (code_balanced operand site) (asked_balanced operand site)
    code_balanced (two Or left right) site =
        let middle : Site = on 1 (on 1 (after_tree callees left site)) in
        let second : Site = on 2 middle in
        choice_level middle (after_tree callees right second) (truth_kind ∷ site.below) (code_of callees site left) (I.Bool true ∷ [])
        (code_of callees second right)
        (code_balanced left site) (one_level (I.Bool true) refl) (code_balanced right second)
    code_balanced (two And left right) site =
        let first : Site = on 1 (after_tree callees left site) in
        let middle : Site = after_tree callees right first in
        choice_level middle (on 3 middle) (truth_kind ∷ site.below) (code_of callees site left) (code_of callees first right) (I.Bool false ∷ [])
        (code_balanced left site) (code_balanced right first) (one_level (I.Bool false) refl)
    code_balanced (two word left right) site = both_balanced _ _ (code_balanced left site)
        (both_balanced _ _ (code_balanced right _) (operator_level word (kind_of_tree callees site left) (kind_of_tree callees site right)))
    code_balanced (convert word object operand) site = both_balanced _ _ (code_balanced operand site) (one_level _ (convert_level word object))
    code_balanced (at slot_tree date) site =
        both_balanced _ _ (code_balanced slot_tree site) (both_balanced _ _ (code_balanced date _) (one_level I.Read refl))
    code_balanced expression site = one_level _ refl

    asked_balanced : (expression : Tree) (site : Site) → IsBalanced (asked_code callees site expression)
    asked_balanced (at slot_tree date) site = both_balanced _ _ (code_balanced slot_tree site) (code_balanced date _)
    asked_balanced expression site = no_lines

    all_balanced : (expressions : Trees) (site : Site) → IsBalanced (all_code callees site expressions)
    all_balanced no_trees site = no_lines
    all_balanced (tree first others) site = both_balanced _ _ (code_balanced first site) (all_balanced others _)

    arguments_balanced : (expressions : Trees) (kinds : List Kind) (site : Site) → IsBalanced (arguments_code callees site kinds expressions)
    arguments_balanced (tree first others) (kind ∷ kinds) site = both_balanced _ _ (code_balanced first site)
        (both_balanced _ _ (room_level kind (kind_of_tree callees site first))
        (arguments_balanced others kinds (over kind (after_room callees kind site first))))
    arguments_balanced expressions [] site = no_lines
    arguments_balanced no_trees (kind ∷ kinds) site = no_lines
