-- What calls come to: of a predefined function, and of one whose block has a budget.
use Rattle.rpl_compile.proofs.Common.{Before, BlockHead, Bool, Budget, Callee, Costed, HasHead, Head, Instruction, IsTrue, List, None, Option, Scope}
use Rattle.rpl_compile.proofs.Common.{Some, [], ap, ap₂, arith, bytes_eq, call_by, call_line, callee_heads, costed_heads, false, if◌then◌else◌}
use Rattle.rpl_compile.proofs.Common.{length, list_any, looks_of, most_named, nat_le, numbered, numbered_is, part_of, predefined_callees}
use Rattle.rpl_compile.proofs.Common.{predefined_costs, price_of_looks, price_of_puts, price_of_steps, puts_of, refl, slice_get, suc, true, weights}
use Rattle.rpl_compile.proofs.Common.{words_at, words_kept, words_of_kind, words_of_parameters, zero, ℕ, ◌++◌, ◌+◌, ◌-◌, ◌<◌, ◌||◌, ◌∙◌, ◌∷◌, ◌≡◌}
use Rattle.rpl_compile.proofs.Common.{◌≤◌}
use Rattle.rpl_code.specs.declared.instruction.Instruction.TheVariants as I
use Rattle.rpl_verify.specs.Budget.{count_of}
use Rattle.rpl_compile.proofs.Counting.{IsUnit, Prices}
use Rattle.rpl_compile.proofs.Calling.{AreCallable, IsCallable, each_call}
use Rattle.rpl_compile.proofs.OfKind.{all_words_coded}

-- ---- prices

count_unit : (scope : Scope) (budgets : List Budget) (here : Before) (line : Instruction) → IsUnit line → count_of scope budgets here line ≡ 1
count_unit scope budgets here (I.Load n) is_unit = absurd is_unit
count_unit scope budgets here (I.Store n) is_unit = absurd is_unit
count_unit scope budgets here (I.List n) is_unit = absurd is_unit
count_unit scope budgets here I.Append is_unit = absurd is_unit
count_unit scope budgets here (I.Widen n) is_unit = absurd is_unit
count_unit scope budgets here (I.Invoke n) is_unit = absurd is_unit
count_unit scope budgets here _ is_unit = refl

looks_unit : (scope : Scope) (budgets : List Budget) (here : Before) (line : Instruction) → IsUnit line → looks_of scope budgets here line ≡ 0
looks_unit scope budgets here I.Read is_unit = absurd is_unit
looks_unit scope budgets here I.Known is_unit = absurd is_unit
looks_unit scope budgets here (I.Invoke n) is_unit = absurd is_unit
looks_unit scope budgets here _ is_unit = refl

puts_unit : (scope : Scope) (budgets : List Budget) (here : Before) (line : Instruction) → IsUnit line → puts_of scope budgets here line ≡ 0
puts_unit scope budgets here (I.Put o s n) is_unit = absurd is_unit
puts_unit scope budgets here (I.Invoke n) is_unit = absurd is_unit
puts_unit scope budgets here _ is_unit = refl

pub count_prices : (scope : Scope) (budgets : List Budget) → Prices scope price_of_steps (count_of scope budgets)
count_prices scope budgets = record {
  adds = λ _ _. refl;
  unit = count_unit scope budgets;
  load = λ _ _ _ stands. ap words_of_kind stands;
  store = λ _ _ _ stands. ap words_of_kind stands;
  listed = λ _ _. refl;
  appended = λ _. refl;
  widened = λ _ _. refl;
  read = λ _. refl;
  known = λ _. refl;
  put = λ _ _ _ _. refl;
}

pub looks_prices : (scope : Scope) (budgets : List Budget) → Prices scope price_of_looks (looks_of scope budgets)
looks_prices scope budgets = record {
  adds = λ _ _. omega arith;
  unit = looks_unit scope budgets;
  load = λ _ _ _ _. refl;
  store = λ _ _ _ _. refl;
  listed = λ _ _. refl;
  appended = λ _. refl;
  widened = λ _ _. refl;
  read = λ _. refl;
  known = λ _. refl;
  put = λ _ _ _ _. refl;
}

pub puts_prices : (scope : Scope) (budgets : List Budget) → Prices scope price_of_puts (puts_of scope budgets)
puts_prices scope budgets = record {
  adds = λ _ _. omega arith;
  unit = puts_unit scope budgets;
  load = λ _ _ _ _. refl;
  store = λ _ _ _ _. refl;
  listed = λ _ _. refl;
  appended = λ _. refl;
  widened = λ _ _. refl;
  read = λ _. refl;
  known = λ _. refl;
  put = λ _ _ _ _. refl;
}

-- ---- calls

-- what a call of a function comes to, by its head and its block
abbrev pub CallCost : Type 0
CallCost = Head → Option ℕ → ℕ

abbrev pub call_count : List Budget → CallCost
call_count budgets head None = 1
call_count budgets head (Some number) = weights head.takes + 1 + part_of (λ (its_budget : Budget). its_budget.count) (numbered budgets number)

abbrev pub call_part : (Budget → ℕ) → List Budget → CallCost
call_part part budgets head None = 0
call_part part budgets head (Some number) = part_of part (numbered budgets number)

-- the functions that are costed are those that are called, and cost so much
abbrev pub AreCosted : CallCost → List Callee → List Costed → Type 0
AreCosted cost [] [] = Unit {0}
AreCosted cost (callee ∷ callees) (costed ∷ functions) = (callee.head ≡ costed.head) × (cost callee.head callee.block ≡ costed.most)
    × AreCosted cost callees functions
AreCosted cost _ _ = ⊥

pub costed_same : (cost : CallCost) (callees : List Callee) (functions : List Costed) → AreCosted cost callees functions
    → callee_heads callees ≡ costed_heads functions
costed_same cost [] [] are_costed = refl
costed_same cost [] (costed ∷ functions) are_costed = absurd are_costed
costed_same cost (callee ∷ callees) [] are_costed = absurd are_costed
costed_same cost (callee ∷ callees) (costed ∷ functions) are_costed =
    ap₂ (λ a b. a ∷ b) are_costed.0 (costed_same cost callees functions are_costed.2)

pub called_cost : (all : List BlockHead) (number : ℕ) (cost : CallCost) (price : Instruction → ℕ) (function_name : List ℕ)
    → ((head : Head) (block : Option ℕ) → IsCallable all number head block → price (call_by function_name block) ≡ cost head block)
    → (callees : List Callee) (functions : List Costed) → AreCallable all number callees → AreCosted cost callees functions
    → HasHead (callee_heads callees) function_name
    → price (call_line callees function_name) ≡ most_named functions function_name
called_cost all number cost price function_name at [] functions are_callable are_costed has = absurd (cc has)
called_cost all number cost price function_name at (callee ∷ callees) [] are_callable are_costed has = absurd are_costed
called_cost all number cost price function_name at (callee ∷ callees) (costed ∷ functions) are_callable are_costed has =
    by (bytes_eq callee.head.name function_name) has
    (λ more. called_cost all number cost price function_name at callees functions are_callable.1 are_costed.2 more)
    ∙ ap (λ (head : Head). if bytes_eq head.name function_name then costed.most else most_named functions function_name) are_costed.0
  where
    by : (test : Bool) → IsTrue (test || list_any (λ (head : Head). bytes_eq head.name function_name) (callee_heads callees))
        → (HasHead (callee_heads callees) function_name → price (call_line callees function_name) ≡ most_named functions function_name)
        → price (if test then call_by function_name callee.block else call_line callees function_name)
        ≡ (if test then costed.most else most_named functions function_name)
    by true has later = at callee.head callee.block are_callable.0 ∙ are_costed.1
    by false has later = later has

module _ (scope : Scope) (budgets : List Budget) (here : Before) (function_name : List ℕ) where
  pub counts_call : (head : Head) (block : Option ℕ) → IsCallable scope.heads scope.number head block
      → count_of scope budgets here (call_by function_name block) ≡ call_count budgets head block
  counts_call head None is_callable = refl
  counts_call head (Some number) is_callable =
      let words : words_of_parameters (numbered scope.heads number) ≡ weights head.takes =
      ap words_of_parameters is_callable.there ∙ all_words_coded head.takes in omega (arith, words)

  pub looks_call : (head : Head) (block : Option ℕ) → IsCallable scope.heads scope.number head block
      → looks_of scope budgets here (call_by function_name block) ≡ call_part (λ (its_budget : Budget). its_budget.looks) budgets head block
  looks_call head None is_callable = refl
  looks_call head (Some number) is_callable = refl

  pub puts_call : (head : Head) (block : Option ℕ) → IsCallable scope.heads scope.number head block
      → puts_of scope budgets here (call_by function_name block) ≡ call_part (λ (its_budget : Budget). its_budget.puts) budgets head block
  puts_call head None is_callable = refl
  puts_call head (Some number) is_callable = refl

  -- beside the words that are there already
  pub words_call : (head : Head) (block : Option ℕ) → IsCallable scope.heads scope.number head block
      → words_at scope budgets here (call_by function_name block) - words_kept scope.locals here
      ≡ call_part (λ (its_budget : Budget). its_budget.words) budgets head block
  words_call head None is_callable = omega arith
  words_call head (Some number) is_callable = omega arith

  pub words_above : (callees : List Callee) → words_kept scope.locals here ≤ words_at scope budgets here (call_line callees function_name)
  words_above callees =
      each_call (λ i. words_kept scope.locals here ≤ words_at scope budgets here i) function_name (omega arith) (λ n. omega arith) callees

-- ---- predefined functions

pub predefined_costed : (budgets : List Budget) → AreCosted (call_count budgets) predefined_callees (predefined_costs 1)
predefined_costed budgets = (refl, refl, (refl, refl, (refl, refl, (refl, refl, (refl, refl, (refl, refl, (refl, refl, tt)))))))

pub predefined_free : (part : Budget → ℕ) (budgets : List Budget) → AreCosted (call_part part budgets) predefined_callees (predefined_costs 0)
predefined_free part budgets = (refl, refl, (refl, refl, (refl, refl, (refl, refl, (refl, refl, (refl, refl, (refl, refl, tt)))))))

-- ---- with one budget more

get_front : {A : Type 0} (xs ys : List A) (place : ℕ) → place < length xs → slice_get (xs ++ ys) place ≡ slice_get xs place
get_front [] ys place less = absurd (omega (arith, less))
get_front (x ∷ xs) ys zero less = refl
get_front (x ∷ xs) ys (suc place) less = get_front xs ys place (omega (arith, less))

pub numbered_front : {A : Type 0} (xs ys : List A) (number : ℕ) → 1 ≤ number → number ≤ length xs → numbered (xs ++ ys) number ≡ numbered xs number
numbered_front xs ys number low at_most = ap (λ o. if nat_le 1 number then o else None) (get_front xs ys (number - 1) (omega (arith, low, at_most)))

-- what calls come to stays as it is when budgets are put behind those of the blocks that can be called
pub costed_later : (all : List BlockHead) (number : ℕ) (budgets more : List Budget) (cost : List Budget → CallCost)
    → ((head : Head) (n : ℕ) → numbered (budgets ++ more) n ≡ numbered budgets n → cost (budgets ++ more) head (Some n) ≡ cost budgets head (Some n))
    → ((head : Head) → cost (budgets ++ more) head None ≡ cost budgets head None) → number ≡ suc (length budgets)
    → (callees : List Callee) (functions : List Costed) → AreCallable all number callees → AreCosted (cost budgets) callees functions
    → AreCosted (cost (budgets ++ more)) callees functions
costed_later all number budgets more cost by_block free number_is [] [] are_callable are_costed = tt
costed_later all number budgets more cost by_block free number_is [] (costed ∷ functions) are_callable are_costed = absurd are_costed
costed_later all number budgets more cost by_block free number_is (callee ∷ callees) [] are_callable are_costed = absurd are_costed
costed_later all number budgets more cost by_block free number_is (callee ∷ callees) (costed ∷ functions) are_callable are_costed = (
  are_costed.0,
  by callee.block are_callable.0
      ∙ are_costed.1,
  costed_later all number budgets more cost by_block free number_is callees functions are_callable.1 are_costed.2,
)
  where
    by : (block : Option ℕ) → IsCallable all number callee.head block → cost (budgets ++ more) callee.head block ≡ cost budgets callee.head block
    by None is_callable = free callee.head
    by (Some number_there) is_callable =
        let low = (numbered_is all number_there _ is_callable.there).1 in
        let lt = is_callable.earlier in
        by_block callee.head number_there (numbered_front budgets more number_there low (omega (arith, lt, number_is)))
