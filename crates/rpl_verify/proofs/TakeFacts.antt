-- Taking operands one by one.
use Rattle.rw_base.proofs.Common.{◌≡◌, ℕ, zero, suc, ◌≤◌, Bool, true, false, ◌&&◌, nat_lt, List, [], ◌∷◌, length, take, drop, reverse, Option, Some}
use Rattle.rw_base.proofs.Common.{None, option_map, Ok, Err, refl, sym, ap, ◌∙◌, arith, if◌then◌else◌, list_all, nat_tests}
use Rattle.rpl_code.specs.declared.kind.ValueKind.{ValueKind}
use Rattle.rpl_verify.specs.declared.verify_kind.VerifyKind.TheVariants.{MissingOperand, WrongOperand}
use Rattle.rpl_verify.specs.declared.place_fault.PlaceFault.{PlaceFault}
use Rattle.rpl_verify.specs.declared.place_fault.PlaceFault.TheVariants.{Misfit, NoMemory}
use Rattle.rpl_verify.specs.Kinds.{is_same_value_kind, are_same_kinds, list_value_kind, top_of}
use Rattle.rpl_verify.specs.Table.{OperandRow, goes_by, left_of, listed, on_top_of, operand_count, operands_behind, or_wrong}
use Rattle.rpl_verify.specs.Fits.{Before, before, then_do}
use Rattle.rpl_verify.specs.Walked.{Goes, Walked}
use Rattle.rpl_verify.specs.Steps.{gathered_into, run_taken, taken_by}
use Rattle.rpl_verify.proofs.KindFacts.{same_kind_refl}

-- ---- rows

enough : (n : ℕ) (kinds : List ValueKind) → n ≤ length kinds → nat_lt (length kinds) n ≡ false
enough n kinds at_most = grind (arith, nat_tests)

-- where there are as many operands as the row takes
pub behind_enough : (row : OperandRow) (kinds : List ValueKind) → operand_count row ≤ length kinds
    → operands_behind row kinds ≡ on_top_of (drop (operand_count row) kinds) (left_of row (take (operand_count row) kinds))
behind_enough row kinds at_most =
    ap (λ t. if t then Err MissingOperand else on_top_of (drop (operand_count row) kinds) (left_of row (take (operand_count row) kinds)))
    (enough (operand_count row) kinds at_most)

-- ---- operands of a row, from the last one down

pub record IsTaking (needs start kinds : List ValueKind) (left : ℕ) : Type 0 where
  pub same : are_same_kinds (reverse (take left needs)) (take left kinds) ≡ are_same_kinds (reverse needs) (take (length needs) start)
  pub below : drop left kinds ≡ drop (length needs) start
  pub enough : left ≤ length kinds
  pub within : left ≤ length needs

-- ---- operands of one kind

pub record IsRunning (kind : ValueKind) (n : ℕ) (start kinds : List ValueKind) (left : ℕ) : Type 0 where
  pub same : list_all (is_same_value_kind kind) (take left kinds) ≡ list_all (is_same_value_kind kind) (take n start)
  pub below : drop left kinds ≡ drop n start
  pub enough : left ≤ length kinds

-- a list of operands of the kind on top
pub gathers : (n : ℕ) (here : Before) (kind : ValueKind) → 1 ≤ n → n ≤ length here.kinds → top_of here.kinds ≡ Some kind
    → taken_by (goes_by n (listed n)) here ≡ then_do (run_taken kind n here) (gathered_into (list_value_kind n kind))
gathers zero here kind one at_most top_of_is = absurd (omega (arith, one))
gathers (suc n) here other_kind one at_most top_of_is = at here.kinds at_most top_of_is
  where
    by : (rest : List ValueKind) (alike itself : Bool) (list : Option ValueKind) → itself ≡ true
        → then_do (on_top_of (drop n rest) (or_wrong (if alike then option_map (λ kind. kind ∷ []) list else None)))
        (λ kinds. Ok (before kinds here.loops))
        ≡ then_do (if itself && alike then Ok (before (drop n rest) here.loops) else Err WrongOperand) (gathered_into list)
    by rest true true None itself_is = refl
    by rest true true (Some list) itself_is = refl
    by rest false true list itself_is = refl
    by rest alike false list itself_is = absurd (cc itself_is)

    at : (its_kinds : List ValueKind) → suc n ≤ length its_kinds → top_of its_kinds ≡ Some other_kind
        → then_do (operands_behind (goes_by (suc n) (listed (suc n))) its_kinds) (λ kinds. Ok (before kinds here.loops))
        ≡ then_do (run_taken other_kind (suc n) (before its_kinds here.loops)) (gathered_into (list_value_kind (suc n) other_kind))
    at [] at_most top_of_is = absurd (cc top_of_is)
    at (kind ∷ rest) at_most top_of_is =
        let kind_is : kind ≡ other_kind = cc top_of_is in
        ap (λ v. then_do v (λ kinds. Ok (before kinds here.loops))) (behind_enough (goes_by (suc n) (listed (suc n))) (kind ∷ rest) at_most)
        ∙ ap (λ y. then_do (on_top_of (drop n rest) (or_wrong (listed (suc n) (y ∷ take n rest)))) (λ kinds. Ok (before kinds here.loops))) kind_is
        ∙ by rest (list_all (is_same_value_kind other_kind) (take n rest)) (is_same_value_kind other_kind other_kind)
        (list_value_kind (suc n) other_kind) (same_kind_refl other_kind)
        ∙ ap (λ y. then_do (run_taken other_kind (suc n) (before (y ∷ rest) here.loops)) (gathered_into (list_value_kind (suc n) other_kind)))
        (sym kind_is)

pub gather_fails : (A B : Type 0) (n : ℕ) (kind : ValueKind) (old new : Walked) (fault : PlaceFault) → 1 ≤ n → n ≤ length old.before.kinds
    → top_of old.before.kinds ≡ Some kind → Goes {B = A} (run_taken kind n old.before) old new (Err fault)
    → Goes {B = B} (taken_by (goes_by n (listed n)) old.before) old new (Err fault)
gather_fails A B n kind old new (Misfit misfit) one at_most top_of_is goes =
    gathers n old.before kind one at_most top_of_is ∙ ap (λ v. then_do v (gathered_into (list_value_kind n kind))) goes
gather_fails A B n kind old new NoMemory one at_most top_of_is goes = tt
