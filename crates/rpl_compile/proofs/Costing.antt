-- What the code of a declaration is told in (`Costing`): where it stands, the functions that can be called with what they cost, and the account.
-- `Claim` is what is proved of each tree: its lines lead from the operands below to its value, and come to what the tree costs.
use Rattle.rpl_compile.proofs.Common.{Before, Callee, Costed, HasHead, Head, Instruction, IsKinded, Kind, List, Names, Ok, Open, Price, Scope, Site}
use Rattle.rpl_compile.proofs.Common.{Some, Tree, ValueKind, [], ap, arith, before, behind, call_line, callee_heads, code_kind, code_kinds, code_of}
use Rattle.rpl_compile.proofs.Common.{costed_heads, going_of, height, judged_at, length, local_kinds, max, most, most_named, names_in, onward, refl}
use Rattle.rpl_compile.proofs.Common.{result_named, reverse, slice_get, spots, sym, takes_named, to_widen, tree_kind, weight, words_kept, ℕ, ◌++◌}
use Rattle.rpl_compile.proofs.Common.{◌+◌, ◌∙◌, ◌∷◌, ◌≡◌}
use Rattle.rpl_code.specs.declared.instruction.Instruction.TheVariants as I
use Rattle.rpl_compile.proofs.Sizes.{code-size}
use Rattle.rpl_compile.proofs.LocalFacts.{Placed, kinds_back, kinds_front}
use Rattle.rpl_compile.proofs.Placing.{HasAt}
use Rattle.rpl_compile.proofs.Counting.{Account, IsInvoke}
use Rattle.rpl_compile.proofs.Going.{Goes, goes_as, goes_line, goes_then, goes_to}
use Rattle.rpl_compile.proofs.Lines.{load_fits, store_fits}
use Rattle.rpl_compile.proofs.OfKind.{words_coded}
use Rattle.rpl_compile.proofs.LocalSizes.{locals_size}

-- in a block of this scope, a call of each function that there is fits, and comes to what the function costs
pub record CallFits (scope : Scope) (lines : List Instruction) (pays : Price) (account : Account scope lines pays) (callees : List Callee)
    (functions deep : List Costed)
    (function_name : List ℕ) (place : ℕ) (at_start at_end : Before) : Type 0 where
  pub fits : judged_at scope place at_start (call_line callees function_name) ≡ Ok at_end
  pub goes_on : going_of (call_line callees function_name) ≡ onward
  pub sum : account.sum_at at_start (call_line callees function_name) ≡ most_named functions function_name
  pub high : account.high_at at_start (call_line callees function_name) ≡ words_kept scope.locals at_start + most_named deep function_name

abbrev pub CallsFit : (scope : Scope) (lines : List Instruction) (pays : Price) → Account scope lines pays → List Callee → List Costed → List Costed
    → Type 0
CallsFit scope lines pays account callees functions deep =
    (function_name : List ℕ) → HasHead (callee_heads callees) function_name → (place : ℕ) (under : List ValueKind) (open_loops : List Open)
    → CallFits scope lines pays account callees functions deep function_name place
    (before (reverse (code_kinds (takes_named (callee_heads callees) function_name)) ++ under) open_loops)
    (before (code_kind (result_named (callee_heads callees) function_name) ∷ under) open_loops)

-- what the code of a declaration is told in: the functions that can be called, with what they cost and how high they stand; the block; and the
-- account
pub record Costing : Type 1 where
  pub callees : List Callee
  pub functions : List Costed
  pub deep : List Costed
  pub same_heads : callee_heads callees ≡ costed_heads functions
  pub deep_heads : callee_heads callees ≡ costed_heads deep
  pub scope : Scope
  pub lines : List Instruction
  pub spots_are : scope.spots ≡ spots lines
  pub pays : Price
  pub account : Account scope lines pays
  pub calls : CallsFit scope lines pays account callees functions deep

-- what is before a site, and before one with this operand more
abbrev pub here : Site → List Open → Before
here site open_loops = before (code_kinds site.below) open_loops

abbrev pub with_one : Kind → Site → List Open → Before
with_one kind site open_loops = before (code_kind kind ∷ code_kinds site.below) open_loops

abbrev pub names_at : Site → Names
names_at site = names_in site.scope

module _ (costing : Costing) where
  abbrev pub heads : List Head
  heads = callee_heads costing.callees

  abbrev pub Leads : List Instruction → ℕ → Before → Before → ℕ → ℕ → Type 0
  Leads first_lines place at_start at_end sum high =
      Goes costing.scope costing.lines costing.spots_are costing.pays costing.account first_lines place at_start at_end sum high

  abbrev pub kept : Before → ℕ
  kept at_start = words_kept costing.scope.locals at_start

  pub seq : {first_lines second_lines : List Instruction} {place second_place sum other_sum high other_high : ℕ} {at_start at_middle at_end : Before}
      → second_place ≡ place + length first_lines → Leads first_lines place at_start at_middle sum high
      → Leads second_lines second_place at_middle at_end other_sum other_high
      → Leads (first_lines ++ second_lines) place at_start at_end (sum + other_sum) (max high other_high)
  seq {first_lines} {second_lines} {place} {second_place} {sum} {other_sum} {high} {other_high} {at_start} {at_middle}
      {at_end} second_place_is first second =
      goes_then costing.scope costing.lines costing.spots_are costing.pays costing.account
      {first_lines = first_lines} {second_lines = second_lines} {place = place} {second_place = second_place} {sum = sum} {other_sum = other_sum}
      {high = high} {other_high = other_high} {here = at_start} {there = at_middle} {further = at_end} second_place_is first second

  pub told : {first_lines : List Instruction} {place sum other_sum high other_high : ℕ} {at_start at_end : Before}
      → Leads first_lines place at_start at_end sum high → sum ≡ other_sum → high ≡ other_high
      → Leads first_lines place at_start at_end other_sum other_high
  told {first_lines} {place} {sum} {other_sum} {high} {other_high} {at_start} {at_end} way sum_is high_is =
      goes_as costing.scope costing.lines costing.spots_are costing.pays costing.account
      {first_lines = first_lines} {place = place} {sum = sum} {other_sum = other_sum}
      {high = high} {other_high = other_high} {here = at_start} {there = at_end} way sum_is high_is

  pub to : {first_lines : List Instruction} {place sum high : ℕ} {at_start at_end same_end : Before} → at_end ≡ same_end
      → Leads first_lines place at_start at_end sum high → Leads first_lines place at_start same_end sum high
  to {first_lines} {place} {sum} {high} {at_start} {at_end} {same_end} there_is way =
      goes_to costing.scope costing.lines costing.spots_are costing.pays costing.account
      {first_lines = first_lines} {place = place} {sum = sum} {high = high} {here = at_start} {there = at_end} {further = same_end} there_is way

  pub line : {instruction : Instruction} {place sum : ℕ} {at_start at_end : Before} → judged_at costing.scope place at_start instruction ≡ Ok at_end
      → going_of instruction ≡ onward → (IsInvoke instruction → ⊥)
      → costing.account.sum_at at_start instruction ≡ sum
      → Leads (instruction ∷ []) place at_start at_end sum (max (words_kept costing.scope.locals at_start) (words_kept costing.scope.locals at_end))
  line {instruction} {place} {sum} {at_start} {at_end} judged going none sum_is =
      goes_line costing.scope costing.lines costing.spots_are costing.pays costing.account
      {line = instruction} {place = place} {sum = sum} {here = at_start} {there = at_end} judged going none sum_is

  pub stores : (place number : ℕ) (kind : Kind) (under : List ValueKind) (open_loops : List Open)
      → slice_get costing.scope.locals number ≡ Some (code_kind kind)
      → Leads (I.Store number ∷ []) place (before (code_kind kind ∷ under) open_loops) (before under open_loops) (costing.pays.step (weight kind))
      (kept (before (code_kind kind ∷ under) open_loops))
  stores place number kind under open_loops stands =
      told (line (store_fits costing.scope place number (code_kind kind) under open_loops stands) refl (λ x. x)
      (costing.account.prices.store (before (code_kind kind ∷ under) open_loops) number (code_kind kind) stands
      ∙ ap costing.pays.step (words_coded kind)))
      refl (omega arith)

  pub loads : (place number : ℕ) (kind : Kind) (under : List ValueKind) (open_loops : List Open)
      → slice_get costing.scope.locals number ≡ Some (code_kind kind)
      → Leads (I.Load number ∷ []) place (before under open_loops) (before (code_kind kind ∷ under) open_loops) (costing.pays.step (weight kind))
      (kept (before (code_kind kind ∷ under) open_loops))
  loads place number kind under open_loops stands =
      told (line (load_fits costing.scope place number (code_kind kind) under open_loops stands) refl (λ x. x)
      (costing.account.prices.load (before under open_loops) number (code_kind kind) stands ∙ ap costing.pays.step (words_coded kind))) refl
      (omega arith)

  abbrev pub kind_of_code : Site → Tree → Kind
  kind_of_code site expression = tree_kind heads (names_in site.scope) expression

  -- the kinds by which a tree is costed are those of its code
  pub same_kind : (names : Names) (expression : Tree) → tree_kind heads names expression ≡ tree_kind (costed_heads costing.functions) names expression
  same_kind names expression = ap (λ heads. tree_kind heads names expression) costing.same_heads

  pub deep_kind : (names : Names) (expression : Tree) → tree_kind heads names expression ≡ tree_kind (costed_heads costing.deep) names expression
  deep_kind names expression = ap (λ heads. tree_kind heads names expression) costing.deep_heads

  abbrev pub cost : Names → Tree → ℕ
  cost names expression = most costing.pays costing.functions names expression

  abbrev pub tall_of : Names → Tree → ℕ
  tall_of names expression = height costing.deep names expression

  -- what gives an expression the room of its place
  abbrev pub room_cost : Kind → Kind → ℕ
  room_cost place kind = to_widen costing.pays costing.functions place kind

  -- an expression may stand at a site: it is of the kinds that are asked for, and its names and itself have their locals
  abbrev pub Own : Site → Tree → Type 0
  Own site expression = HasAt costing.scope.locals site.free (code_kinds (local_kinds heads (names_in site.scope) expression))

  abbrev pub Claim : Tree → Type 0
  Claim expression =
      (site : Site) (open_loops : List Open) → IsKinded costing.scope.basin heads (names_in site.scope) expression
      → Placed costing.scope.locals site.scope
      → Own site expression
      → Leads (code_of costing.callees site expression) site.place (here site open_loops) (with_one (kind_of_code site expression) site open_loops)
      (most costing.pays costing.functions (names_in site.scope) expression)
      (words_kept costing.scope.locals (here site open_loops) + height costing.deep (names_in site.scope) expression)

  -- the place behind the code of an expression
  pub far : (site : Site) (expression : Tree) → IsKinded costing.scope.basin heads (names_in site.scope) expression
      → (behind heads expression site).place ≡ site.place + length (code_of costing.callees site expression)
  far site expression is_kinded = ap (λ n. site.place + n) (sym (code-size costing.scope.basin costing.callees site expression is_kinded))

  -- the locals behind those of an expression
  pub own_back : (site : Site) (expression : Tree) (kinds : List Kind)
      → HasAt costing.scope.locals site.free (code_kinds (local_kinds heads (names_in site.scope) expression ++ kinds))
      → HasAt costing.scope.locals (behind heads expression site).free (code_kinds kinds)
  own_back site expression kinds placed = kinds_back costing.scope.locals site.free _ (local_kinds heads (names_in site.scope) expression) kinds
      (locals_size heads expression (names_in site.scope)) placed

  pub own_front : (site : Site) (expression : Tree) (kinds : List Kind)
      → HasAt costing.scope.locals site.free (code_kinds (local_kinds heads (names_in site.scope) expression ++ kinds)) → Own site expression
  own_front site expression kinds placed =
      kinds_front costing.scope.locals site.free (local_kinds heads (names_in site.scope) expression) kinds placed
