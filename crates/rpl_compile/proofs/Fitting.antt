-- Compiled code fits: what is before each place of each block is found.
use Rattle.rpl_compile.proofs.Common.{Acts, AreKindedActs, Before, Block, Callee, Costed, Draft, Instruction, IsKindedBody, Kind, List, Misplaced, Ok}
use Rattle.rpl_compile.proofs.Common.{Parameter, Price, Result, Scope, Some, Tree, ValueKind, VerifyKind, [], ap, arith, at_place, before, befores}
use Rattle.rpl_compile.proofs.Common.{callee_heads, cond_both, costed_heads, drop, drop_all, end_kinds, function_block, judged_at, length, map}
use Rattle.rpl_compile.proofs.Common.{most_named, param_names, refl, rule_block, scope_of, slice_get, subst, suc, sym, then_do, words_kept, ℕ, ◌+◌}
use Rattle.rpl_compile.proofs.Common.{◌∙◌, ◌∷◌, ◌≡◌}
use Rattle.rpl_verify.proofs.Loops.{drop_at}
use Rattle.rpl_code.specs.declared.instruction.Instruction.TheVariants as I
use Rattle.rpl_compile.proofs.Placing.{has_all}
use Rattle.rpl_compile.proofs.Counting.{Account}
use Rattle.rpl_compile.proofs.Going.{carries}
use Rattle.rpl_compile.proofs.Costing.{CallsFit}
use Rattle.rpl_compile.proofs.Calling.{LinesFit, call_onward}
use Rattle.rpl_compile.proofs.BlockWays.{function_goes, rule_goes}

-- ---- what is before each place, from the last one back

module _ (scope : Scope) (lines : List Instruction) where
  -- from a place on each place gets what it asks for
  abbrev pub Fitted : ℕ → Before → Type 0
  Fitted place here = (befores_there : List Before) × (befores scope place here (drop place lines) ≡ Ok befores_there)

  abbrev pub Back : ℕ → Before → ℕ → Before → Type 0
  Back place here second_place there = Fitted second_place there → Fitted place here

  pub back_one : (place : ℕ) (here there : Before) (line : Instruction) → slice_get lines place ≡ Some line
      → judged_at scope place here line ≡ Ok there → Back place here (suc place) there
  back_one place here there line stands judged fitted = (
    here ∷ fitted.0,
    ap (befores scope place here) (drop_at lines place line stands)
        ∙ ap (λ (r : Result Before VerifyKind).
        at_place place r (λ c. then_do (befores scope (suc place) c (drop (suc place) lines)) (λ befores_there. Ok (here ∷ befores_there))))
        judged
        ∙ ap (λ (r : Result (List Before) Misplaced). then_do r (λ befores_there. Ok (here ∷ befores_there))) fitted.1,
  )

  pub back_then : (place second_place third_place : ℕ) (here there further : Before) → Back place here second_place there
      → Back second_place there third_place further → Back place here third_place further
  back_then place second_place third_place here there further first second fitted = first (second fitted)

  pub back_none : (place : ℕ) (here : Before) → Back place here place here
  back_none place here fitted = fitted

  pub fitted_end : (place : ℕ) → place ≡ length lines → Fitted place (before (end_kinds scope.head) [])
  fitted_end place place_is =
      let here : Before = before (end_kinds scope.head) [] in (
        here ∷ [],
        ap (befores scope place here) (ap (λ n. drop n lines) place_is ∙ drop_all (length lines) lines (omega arith))
            ∙ ap (λ (judged : Result Before VerifyKind). at_place place judged (λ c. Ok (c ∷ []))) (carries scope (end_kinds scope.head) []),
      )

-- ---- an account that tells nothing else

abbrev no_price : Price
no_price = record { step = λ n. 0; look = 0; put = 0 }

module _ (scope : Scope) (lines : List Instruction) where
  abbrev back : ℕ → Before → ℕ → Before → Type 0
  back place here second_place there = Back scope lines place here second_place there

  back_choice : (place second_place jump_at to third_place last : ℕ) (middle_kinds last_kinds : List ValueKind) (here there further : Before)
      → suc place ≡ second_place → suc jump_at ≡ to → suc to ≡ third_place
      → slice_get lines place ≡ Some (I.Branch to) → judged_at scope place here (I.Branch to) ≡ Ok there → back second_place there jump_at further
      → slice_get lines jump_at ≡ Some (I.Jump last) → judged_at scope jump_at further (I.Jump last) ≡ Ok there
      → slice_get lines to ≡ Some (I.Target middle_kinds) → judged_at scope to there (I.Target middle_kinds) ≡ Ok there
      → back third_place there last further
      → slice_get lines last ≡ Some (I.Target last_kinds) → judged_at scope last further (I.Target last_kinds) ≡ Ok further
      → back place here (suc last) further
  back_choice place second_place jump_at to third_place last middle_kinds last_kinds here there further second_is to_is third_is branch_stands
      branch_judged first_back jump_stands jump_judged target_stands target_judged second_back end_stands end_judged end =
      let from_end = back_one scope lines last further further (I.Target last_kinds) end_stands end_judged end in
      let from_target =
      back_one scope lines to there there (I.Target middle_kinds) target_stands target_judged
      (subst (λ n. Fitted scope lines n there) (sym third_is) (second_back from_end)) in
      let from_jump =
      back_one scope lines jump_at further there (I.Jump last) jump_stands jump_judged
      (subst (λ n. Fitted scope lines n there) (sym to_is) from_target) in
      back_one scope lines place here there (I.Branch to) branch_stands branch_judged
      (subst (λ n. Fitted scope lines n there) (sym second_is) (first_back from_jump))

  pub fitting_account : Account scope lines no_price
  fitting_account = record {
    Way = λ place here _ _ second_place there. Back scope lines place here second_place there;
    sum_at = λ _ _. 0;
    high_at = λ here _. words_kept scope.locals here;
    prices = record {
      adds = λ _ _. omega arith;
      unit = λ _ _ _. refl;
      load = λ _ _ _ _. refl;
      store = λ _ _ _ _. refl;
      listed = λ _ _. refl;
      appended = λ _. refl;
      widened = λ _ _. refl;
      read = λ _. refl;
      known = λ _. refl;
      put = λ _ _ _ _. refl;
    };
    high_is = λ _ _ _. refl;
    one = λ place here there line at judged _. back_one scope lines place here there line at judged;
    next = λ place second_place third_place _ _ _ _ here there further first_back second_back.
        back_then scope lines place second_place third_place here there further first_back second_back;
    none = λ place here. back_none scope lines place here;
    choice = λ place second_place jump_at to third_place last _ _ _ _ middle_kinds last_kinds here there further second_is to_is third_is _ _
        branch_stands branch_judged first_back jump_stands jump_judged target_stands target_judged second_back end_stands end_judged _ _ _.
        back_choice place second_place jump_at to third_place last middle_kinds last_kinds here there further second_is to_is third_is branch_stands
        branch_judged first_back jump_stands jump_judged target_stands target_judged second_back end_stands end_judged;
    loop = λ place second_place last _ _ _ line end_line _ here there further outside second_is _ at enters _ _ _ inside _ _ at_last leaves _ _ _ end.
        back_one scope lines place here there line at enters
        (subst (λ n. Fitted scope lines n there) (sym second_is) (inside (back_one scope lines last further outside end_line at_last leaves end)));
  }

-- functions that cost nothing
abbrev free_functions : List Callee → List Costed
free_functions callees = map (λ (callee : Callee). record { head = callee.head; most = 0 }) callees

free_heads : (callees : List Callee) → callee_heads callees ≡ costed_heads (free_functions callees)
free_heads [] = refl
free_heads (callee ∷ callees) = ap (λ heads. callee.head ∷ heads) (free_heads callees)

costs_nothing : (callees : List Callee) (function_name : List ℕ) → 0 ≡ most_named (free_functions callees) function_name
costs_nothing [] function_name = refl
costs_nothing (callee ∷ callees) function_name = cond_both _ _ _ (λ n. 0 ≡ n) (λ e. refl) (λ e. costs_nothing callees function_name)

free_calls : (scope : Scope) (lines : List Instruction) (callees : List Callee) → LinesFit scope callees
    → CallsFit scope lines no_price (fitting_account scope lines) callees (free_functions callees) (free_functions callees)
unfolding fitting_account
free_calls scope lines callees fit function_name has place under open_loops =
    let none = costs_nothing callees function_name in
    record {
      fits = fit function_name has place under open_loops;
      goes_on = call_onward callees function_name;
      sum = none;
      high = omega (arith, none);
    }

-- ---- blocks

-- a block fits at a number among all blocks
abbrev pub BlockFits : Draft → List Block → ℕ → Block → Type 0
BlockFits basin all number block = (befores_there : List Before)
    × (befores (scope_of basin all number block) 0 (before [] []) block.lines ≡ Ok befores_there)

module _ (basin : Draft) (all : List Block) (number : ℕ) (callees : List Callee) where
  pub rule_fits : (body : Acts) → LinesFit (scope_of basin all number (rule_block callees body)) callees
      → AreKindedActs basin (callee_heads callees) [] body
      → BlockFits basin all number (rule_block callees body)
  unfolding fitting_account
  rule_fits body calls are_kinded_acts =
      let block : Block = rule_block callees body in
      let scope : Scope = scope_of basin all number block in
      let free : List Costed = free_functions callees in
      let way = rule_goes basin all number callees free free (free_heads callees) (free_heads callees) no_price body
      (fitting_account scope block.lines)
      (free_calls scope block.lines callees calls) are_kinded_acts in
      let same_place : 0 + length block.lines ≡ length block.lines = omega arith in
      (way.go (has_all block.lines) refl).0 (fitted_end scope block.lines (0 + length block.lines) same_place)

  pub function_fits : (parameters : List Parameter) (result : Kind) (body : Tree)
      → LinesFit (scope_of basin all number (function_block callees parameters result body)) callees
      → IsKindedBody basin (callee_heads callees) (param_names parameters) result body
      → BlockFits basin all number (function_block callees parameters result body)
  unfolding fitting_account
  function_fits parameters result body calls is_kinded_body =
      let block : Block = function_block callees parameters result body in
      let scope : Scope = scope_of basin all number block in
      let free : List Costed = free_functions callees in
      let way = function_goes basin all number callees free free (free_heads callees) (free_heads callees) no_price parameters result body
      (fitting_account scope block.lines)
      (free_calls scope block.lines callees calls) is_kinded_body in
      let same_place : 0 + length block.lines ≡ length block.lines = omega arith in
      (way.go (has_all block.lines) refl).0 (fitted_end scope block.lines (0 + length block.lines) same_place)
