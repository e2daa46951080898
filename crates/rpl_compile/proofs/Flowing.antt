-- Forms that open no loop lead from the operands that stand below them to those and their value, and come to what they cost, where their parts do.
use Rattle.rpl_compile.proofs.Common.{And, Before, ConvertWord, ElevationToStorage, FitsIn, Instruction, IsKinded, IsSome, Kind, Known, List, Names}
use Rattle.rpl_compile.proofs.Common.{None, Ok, OneWord, Open, Option, Or, Site, Some, StorageToElevation, Tree, TwoWord, ValueKind, [], ap}
use Rattle.rpl_compile.proofs.Common.{append_assoc, ap₂, arith, at, before, behind, choice, code_kind, code_kinds, code_of, convert, convert_line}
use Rattle.rpl_compile.proofs.Common.{costed_heads, false, going_of, join, judged_at, length, local_kinds, max, names_in, on, one, one_line, onward}
use Rattle.rpl_compile.proofs.Common.{over, refl, room_lines, size, subst, sym, table_named, taken, to_widen, tree_kind, true, truth_kind, two}
use Rattle.rpl_compile.proofs.Common.{two_lines, unless_misfit, unless_there, weight, widening_size, words_of, ℕ, ◌++◌, ◌+◌, ◌∙◌, ◌∷◌, ◌≡◌, ◌≤◌}
use Rattle.rw_table.specs.Table.{Row}
use Rattle.rpl_code.specs.declared.kind.ValueKind.TheVariants as K
use Rattle.rpl_code.specs.declared.instruction.Instruction.TheVariants as I
use Rattle.rpl_compile.proofs.TypeKinds.{IsPlain}
use Rattle.rpl_compile.proofs.Sizes.{beside, code-size, widening-size}
use Rattle.rpl_compile.proofs.LocalFacts.{Placed}
use Rattle.rpl_compile.proofs.Counting.{IsInvoke, IsUnit}
use Rattle.rpl_compile.proofs.Going.{choosing, goes_choice, takes_kinds}
use Rattle.rpl_compile.proofs.TreeCosts.{two_costs, two_heights}
use Rattle.rpl_compile.proofs.WordLines.{IsLine, one_goes, two_goes, two_step, widen_goes}
use Rattle.rpl_compile.proofs.Costing.{Claim, Leads, Own, Costing, cost, deep_kind, far, heads, here, kept, kind_of_code, line, names_at, own_back}
use Rattle.rpl_compile.proofs.Costing.{own_front, room_cost, same_kind, seq, tall_of, to, told, with_one}
use Rattle.rpl_compile.proofs.OfKind.{words_coded}

module _ (costing : Costing) where
  -- ---- leaves

  pub leaf : (instruction : Instruction) (kind : ValueKind) (site : Site) (open_loops : List Open) → words_of kind ≡ 1
      → judged_at costing.scope site.place (here site open_loops) instruction ≡ Ok (before (kind ∷ code_kinds site.below) open_loops)
      → going_of instruction ≡ onward → (IsInvoke instruction → ⊥) → IsUnit instruction
      → Leads costing (instruction ∷ []) site.place (here site open_loops) (before (kind ∷ code_kinds site.below) open_loops) (costing.pays.step 1)
      (kept costing (here site open_loops) + 1)
  leaf instruction kind site open_loops one_word judged on none is_unit =
      told costing (line costing judged on none (costing.account.prices.unit (here site open_loops) instruction is_unit)) refl
      (omega (arith, one_word))

  -- ---- one operand

  pub flow_convert : (word : ConvertWord) (object : List ℕ) (operand : Tree) → Claim costing operand → Claim costing (convert word object operand)
  flow_convert word object operand claim_of_part site open_loops is_kinded placed own_locals =
      let way = claim_of_part site open_loops is_kinded.1 placed own_locals in
      let low = way.tall in
      let one_word : words_of (code_kind (kind_of_code costing site operand)) ≡ 1 = ap (λ k. words_of (code_kind k)) is_kinded.2 in
      told costing
      (seq costing (far costing site operand is_kinded.1) way (line costing (converts word) (onwards word) (no_call word) (unit_price word))) refl
      (omega (arith, low, one_word))
    where
      before_line : Before
      before_line = with_one (kind_of_code costing site operand) site open_loops

      there : (instruction : Instruction) (found : Option (List Row)) → IsSome found → (before_it : Before)
          → unless_misfit (unless_there found) (taken costing.scope instruction before_it) ≡ taken costing.scope instruction before_it
      there instruction None is_some before_it = absurd (cc is_some)
      there instruction (Some rows) is_some before_it = refl

      converts : (word : ConvertWord)
          → judged_at costing.scope (behind (heads costing) operand site).place (with_one (kind_of_code costing site operand) site open_loops)
          (convert_line word object)
          ≡ Ok (before (K.N ∷ code_kinds site.below) open_loops)
      converts StorageToElevation =
          ap (λ k. judged_at costing.scope (behind (heads costing) operand site).place (before (code_kind k ∷ code_kinds site.below) open_loops)
          (I.ToElevation object)) is_kinded.2
          ∙ there (I.ToElevation object) (table_named costing.scope.basin object) is_kinded.0 (before (K.N ∷ code_kinds site.below) open_loops)
          ∙ takes_kinds costing.scope (I.ToElevation object) (K.N ∷ []) (K.N ∷ []) (code_kinds site.below) open_loops refl
      converts ElevationToStorage =
          ap (λ k. judged_at costing.scope (behind (heads costing) operand site).place (before (code_kind k ∷ code_kinds site.below) open_loops)
          (I.ToStorage object)) is_kinded.2
          ∙ there (I.ToStorage object) (table_named costing.scope.basin object) is_kinded.0 (before (K.N ∷ code_kinds site.below) open_loops)
          ∙ takes_kinds costing.scope (I.ToStorage object) (K.N ∷ []) (K.N ∷ []) (code_kinds site.below) open_loops refl

      onwards : (word : ConvertWord) → going_of (convert_line word object) ≡ onward
      onwards StorageToElevation = refl
      onwards ElevationToStorage = refl

      no_call : (word : ConvertWord) → IsInvoke (convert_line word object) → ⊥
      no_call StorageToElevation is_invoke = is_invoke
      no_call ElevationToStorage is_invoke = is_invoke

      unit_price : (word : ConvertWord)
          → costing.account.sum_at (with_one (kind_of_code costing site operand) site open_loops) (convert_line word object) ≡ costing.pays.step 1
      unit_price StorageToElevation =
          costing.account.prices.unit (with_one (kind_of_code costing site operand) site open_loops) (I.ToElevation object) tt
      unit_price ElevationToStorage =
          costing.account.prices.unit (with_one (kind_of_code costing site operand) site open_loops) (I.ToStorage object) tt

  pub flow_plain : (word : OneWord) (operand : Tree) → IsPlain word → Claim costing operand → (site : Site) (open_loops : List Open)
      → IsKinded costing.scope.basin (heads costing) (names_in site.scope) (one word operand)
      → Placed costing.scope.locals site.scope → Own costing site operand
      → Leads costing (code_of costing.callees site operand ++ one_line word ∷ []) site.place (here site open_loops)
      (with_one (kind_of_code costing site (one word operand)) site open_loops)
      (cost costing (names_at site) operand + costing.pays.step 1) (kept costing (here site open_loops) + tall_of costing (names_at site) operand)
  flow_plain word operand plain claim_of_part site open_loops is_kinded placed own_locals =
      let way = claim_of_part site open_loops is_kinded.0 placed own_locals in
      let low = way.tall in
      told costing (seq costing (far costing site operand is_kinded.0) way
      (one_goes costing.scope costing.lines costing.spots_are costing.pays costing.account word (kind_of_code costing site operand) plain is_kinded.2
      (behind (heads costing) operand site).place (code_kinds site.below) open_loops))
      refl (omega (arith, low))

  -- ---- two operands

  pub flow_two : (word : TwoWord) (left right : Tree) → IsLine word → Claim costing left → Claim costing right
      → (site : Site) (open_loops : List Open)
      → IsKinded costing.scope.basin (heads costing) (names_in site.scope) (two word left right) → Placed costing.scope.locals site.scope
      → Own costing site (two word left right)
      → Leads costing (code_of costing.callees site left ++
      (code_of costing.callees (over (kind_of_code costing site left) (behind (heads costing) left site)) right
      ++ two_lines word (kind_of_code costing site left) (kind_of_code costing site right))) site.place (here site open_loops)
      (with_one (kind_of_code costing site (two word left right)) site open_loops)
      (cost costing (names_at site) (two word left right))
      (kept costing (here site open_loops) + tall_of costing (names_at site) (two word left right))
  flow_two word left right plain claim_of_first claim_of_second site open_loops is_kinded placed own_locals =
      let names : Names = names_in site.scope in
      let left_kind : Kind = kind_of_code costing site left in
      let above : Site = over left_kind (behind (heads costing) left site) in
      let left_way =
      claim_of_first site open_loops is_kinded.0 placed (own_front costing site left (local_kinds (heads costing) names right) own_locals) in
      let right_way =
      claim_of_second above open_loops is_kinded.1 placed (own_back costing site left (local_kinds (heads costing) names right) own_locals) in
      let low = right_way.tall in
      let left_words = words_coded left_kind in
      let sum : cost costing names (two word left right)
      ≡ cost costing names left + (cost costing names right + costing.pays.step (two_step word left_kind)) =
      two_costs costing.pays costing.functions word (cost costing names left) (cost costing names right)
      (tree_kind (costed_heads costing.functions) names left) plain
      ∙ ap (λ k. cost costing names left + (cost costing names right + costing.pays.step (two_step word k))) (sym (same_kind costing names left)) in
      let high : tall_of costing names (two word left right) ≡ max (tall_of costing names left) (weight left_kind + tall_of costing names right) =
      two_heights word (tree_kind (costed_heads costing.deep) names left) (tall_of costing names left) (tall_of costing names right) plain
      ∙ ap (λ k. max (tall_of costing names left) (weight k + tall_of costing names right)) (sym (deep_kind costing names left)) in
      told costing (seq costing (far costing site left is_kinded.0) left_way (seq costing (far costing above right is_kinded.1) right_way
      (two_goes costing.scope costing.lines costing.spots_are costing.pays costing.account word left_kind
      (kind_of_code costing site right) plain is_kinded.2
      (behind (heads costing) right above).place (code_kinds site.below) open_loops)))
      (sym sum) (omega (arith, low, left_words, high))

  -- `s[d]`, and KNOWN of it
  looks_at : (slot_tree date : Tree) (instruction : Instruction) (left : ValueKind) → Claim costing slot_tree → Claim costing date → words_of left ≡ 1
      → ((place : ℕ) (under : List ValueKind) (open_loops : List Open)
      → judged_at costing.scope place (before (K.D ∷ K.S ∷ under) open_loops) instruction ≡ Ok (before (left ∷ under) open_loops))
      → going_of instruction ≡ onward → (IsInvoke instruction → ⊥)
      → ((date_way : Before) → costing.account.sum_at date_way instruction ≡ costing.pays.look)
      → (site : Site) (open_loops : List Open) → IsKinded costing.scope.basin (heads costing) (names_in site.scope) (at slot_tree date)
      → Placed costing.scope.locals site.scope → Own costing site (at slot_tree date)
      → Leads costing (code_of costing.callees site slot_tree ++
      (code_of costing.callees (over (kind_of_code costing site slot_tree) (behind (heads costing) slot_tree site)) date ++ instruction ∷ []))
      site.place (here site open_loops)
      (before (left ∷ code_kinds site.below) open_loops) (cost costing (names_at site) (at slot_tree date))
      (kept costing (here site open_loops) + tall_of costing (names_at site) (at slot_tree date))
  looks_at slot_tree date instruction left claim_of_first claim_of_second one_word fits on none price site open_loops is_kinded placed own_locals =
      let above : Site = over (kind_of_code costing site slot_tree) (behind (heads costing) slot_tree site) in
      let slot_way =
      claim_of_first site open_loops is_kinded.0 placed
      (own_front costing site slot_tree (local_kinds (heads costing) (names_in site.scope) date) own_locals) in
      let date_way =
      claim_of_second above open_loops is_kinded.2 placed
      (own_back costing site slot_tree (local_kinds (heads costing) (names_in site.scope) date) own_locals) in
      let low = date_way.tall in
      let slot_word : words_of (code_kind (kind_of_code costing site slot_tree)) ≡ 1 = ap (λ k. words_of (code_kind k)) is_kinded.1 in
      let date_word : words_of (code_kind (kind_of_code costing above date)) ≡ 1 = ap (λ k. words_of (code_kind k)) is_kinded.3 in
      told costing (seq costing (far costing site slot_tree is_kinded.0) slot_way (seq costing (far costing above date is_kinded.2) date_way
      (line costing (ap₂ (λ k l. judged_at costing.scope (behind (heads costing) date above).place
      (before (code_kind k ∷ code_kind l ∷ code_kinds site.below) open_loops) instruction) is_kinded.3 is_kinded.1
      ∙ fits (behind (heads costing) date above).place (code_kinds site.below) open_loops) on none (price _))))
      refl (omega (arith, low, one_word, slot_word, date_word))

  pub flow_at : (slot_tree date : Tree) → Claim costing slot_tree → Claim costing date → Claim costing (at slot_tree date)
  flow_at slot_tree date claim_of_first claim_of_second site open_loops is_kinded placed own_locals =
      looks_at slot_tree date I.Read K.N claim_of_first claim_of_second refl
      (λ p ls open_loops. takes_kinds costing.scope I.Read (K.D ∷ K.S ∷ []) (K.N ∷ []) ls open_loops refl) refl
      (λ x. x) costing.account.prices.read site open_loops is_kinded placed own_locals

  pub flow_known : (slot_tree date : Tree) → Claim costing slot_tree → Claim costing date → Claim costing (one Known (at slot_tree date))
  flow_known slot_tree date claim_of_first claim_of_second site open_loops is_kinded placed own_locals =
      let above : Site = over (kind_of_code costing site slot_tree) (behind (heads costing) slot_tree site) in
      let names : Names = names_in site.scope in
      subst (λ xs. Leads costing xs site.place (here site open_loops) (with_one truth_kind site open_loops) (cost costing names (at slot_tree date))
      (kept costing (here site open_loops) + tall_of costing names (at slot_tree date)))
      (sym (append_assoc (code_of costing.callees site slot_tree) (code_of costing.callees above date) (I.Known ∷ [])))
      (looks_at slot_tree date I.Known K.B claim_of_first claim_of_second refl
      (λ p ls open_loops. takes_kinds costing.scope I.Known (K.D ∷ K.S ∷ []) (K.B ∷ []) ls open_loops refl) refl
      (λ x. x) costing.account.prices.known site open_loops is_kinded.0 placed own_locals)

  -- ---- choices

  -- an expression with the room of its place
  pub with_room : (place : Kind) (expression : Tree) → Claim costing expression → (site : Site) (open_loops : List Open)
      → IsKinded costing.scope.basin (heads costing) (names_in site.scope) expression
      → FitsIn place (kind_of_code costing site expression) → Placed costing.scope.locals site.scope → Own costing site expression
      → Leads costing (code_of costing.callees site expression ++ room_lines costing.callees place site expression) site.place (here site open_loops)
      (with_one place site open_loops)
      (cost costing (names_at site) expression + room_cost costing place (kind_of_code costing site expression))
      (kept costing (here site open_loops) + max (tall_of costing (names_at site) expression) (weight place))
  with_room place expression claim_of_part site open_loops is_kinded fit placed own_locals =
      let way = claim_of_part site open_loops is_kinded placed own_locals in
      let low = way.tall in
      let place_words = words_coded place in
      told costing (seq costing (far costing site expression is_kinded) way
      (widen_goes costing.scope costing.lines costing.spots_are costing.pays costing.account place (kind_of_code costing site expression) fit
      (behind (heads costing) expression site).place (code_kinds site.below) open_loops))
      refl (omega (arith, low, place_words))

  room_size : (place : Kind) (expression : Tree) (site : Site) → IsKinded costing.scope.basin (heads costing) (names_in site.scope) expression
      → length (code_of costing.callees site expression ++ room_lines costing.callees place site expression)
      ≡ size (heads costing) (names_in site.scope) expression + widening_size place (kind_of_code costing site expression)
  room_size place expression site is_kinded =
      beside _ _ (code-size costing.scope.basin costing.callees site expression is_kinded)
      (widening-size place (kind_of_code costing site expression))

  -- behind a condition: two parts that come to one kind
  chosen : (condition : Tree) (first_lines second_lines : List Instruction) (kind : Kind)
      (second_place to_second third_place end sum other_sum high other_high : ℕ) → Claim costing condition → (site : Site) (open_loops : List Open)
      → IsKinded costing.scope.basin (heads costing) (names_in site.scope) condition → kind_of_code costing site condition ≡ truth_kind
      → Placed costing.scope.locals site.scope → Own costing site condition
      → second_place ≡ (behind (heads costing) condition site).place + 1 → to_second ≡ second_place + length first_lines + 1
      → third_place ≡ to_second + 1 → end ≡ third_place + length second_lines
      → Leads costing first_lines second_place (here site open_loops) (with_one kind site open_loops) sum high
      → Leads costing second_lines third_place (here site open_loops) (with_one kind site open_loops) other_sum other_high
      → Leads costing (code_of costing.callees site condition ++ choosing to_second end (code_kinds site.below)
      (code_kind kind ∷ code_kinds site.below) first_lines second_lines) site.place (here site open_loops) (with_one kind site open_loops)
      (cost costing (names_at site) condition + (max sum other_sum + costing.pays.step 3))
      (max (kept costing (here site open_loops) + tall_of costing (names_at site) condition) (max high other_high))
  chosen condition first_lines second_lines kind second_place to_second third_place end sum other_sum high other_high claim_of_condition site
      open_loops kinded is_truth placed own_locals second_is to_is third_is end_is first second =
      let under : List ValueKind = code_kinds site.below in
      let way = to costing (ap (λ k. before (code_kind k ∷ under) open_loops) is_truth)
      (claim_of_condition site open_loops kinded placed own_locals) in
      let low : kept costing (before (K.B ∷ under) open_loops) ≤ kept costing (here site open_loops) + tall_of costing (names_at site) condition =
      way.tall in
      told costing (seq costing (far costing site condition kinded) way
      (goes_choice costing.scope costing.lines costing.spots_are costing.pays costing.account first_lines second_lines
      (behind (heads costing) condition site).place second_place to_second third_place end sum high other_sum other_high under
      (code_kind kind ∷ under) open_loops second_is to_is third_is end_is first second))
      refl (omega (arith, low))

  pub flow_choice : (condition if_true if_false : Tree) → Claim costing condition → Claim costing if_true → Claim costing if_false
      → Claim costing (choice condition if_true if_false)
  flow_choice condition if_true if_false claim_of_condition claim_of_true claim_of_false site open_loops is_kinded placed own_locals =
      let names : Names = names_in site.scope in
      let true_kind : Kind = kind_of_code costing site if_true in
      let false_kind : Kind = kind_of_code costing site if_false in
      let kind : Kind = join true_kind false_kind in
      let first : Site = on 1 (behind (heads costing) condition site) in
      let middle : Site = on (widening_size kind true_kind) (behind (heads costing) if_true first) in
      let second : Site = on 2 middle in
      let end : Site = on (widening_size kind false_kind) (behind (heads costing) if_false second) in
      let first_lines : List Instruction = code_of costing.callees first if_true ++ room_lines costing.callees kind first if_true in
      let second_lines : List Instruction = code_of costing.callees second if_false ++ room_lines costing.callees kind second if_false in
      let behind_condition =
      own_back costing site condition (local_kinds (heads costing) names if_true ++ local_kinds (heads costing) names if_false) own_locals in
      let first_long : length first_lines ≡ size (heads costing) names if_true + widening_size kind true_kind =
      room_size kind if_true first is_kinded.2 in
      let second_long : length second_lines ≡ size (heads costing) names if_false + widening_size kind false_kind =
      room_size kind if_false second is_kinded.4 in
      let true_cost : room_cost costing kind true_kind
      ≡ to_widen costing.pays costing.functions (tree_kind (costed_heads costing.functions) names (choice condition if_true if_false))
      (tree_kind (costed_heads costing.functions) names if_true) =
      ap (λ heads. room_cost costing (tree_kind heads names (choice condition if_true if_false)) (tree_kind heads names if_true))
      costing.same_heads in
      let false_cost : room_cost costing kind false_kind
      ≡ to_widen costing.pays costing.functions (tree_kind (costed_heads costing.functions) names (choice condition if_true if_false))
      (tree_kind (costed_heads costing.functions) names if_false) =
      ap (λ heads. room_cost costing (tree_kind heads names (choice condition if_true if_false)) (tree_kind heads names if_false))
      costing.same_heads in
      let deep_room : weight kind ≡ weight (tree_kind (costed_heads costing.deep) names (choice condition if_true if_false)) =
      ap (λ heads. weight (tree_kind heads names (choice condition if_true if_false))) costing.deep_heads in
      let way = chosen condition first_lines second_lines kind first.place
      (middle.place + 1) second.place end.place _ _ _ _ claim_of_condition site open_loops is_kinded.0 is_kinded.1 placed
      (own_front costing site condition (local_kinds (heads costing) names if_true ++ local_kinds (heads costing) names if_false) own_locals) refl
      (omega (arith, first_long))
      (omega arith) (omega (arith, second_long))
      (with_room kind if_true claim_of_true first open_loops is_kinded.2 is_kinded.3 placed
      (own_front costing first if_true (local_kinds (heads costing) names if_false) behind_condition))
      (with_room kind if_false claim_of_false second open_loops is_kinded.4 is_kinded.5 placed
      (own_back costing first if_true (local_kinds (heads costing) names if_false) behind_condition)) in
      told costing way (omega (arith, true_cost, false_cost)) (omega (arith, deep_room))

  pub flow_or : (left right : Tree) → Claim costing left → Claim costing right → Claim costing (two Or left right)
  flow_or left right claim_of_left claim_of_right site open_loops is_kinded placed own_locals =
      let names : Names = names_in site.scope in
      let first : Site = on 1 (behind (heads costing) left site) in
      let middle : Site = on 1 first in
      let second : Site = on 2 middle in
      let under : List ValueKind = code_kinds site.below in
      let end : Site = behind (heads costing) right second in
      let left_locals = own_front costing site left (local_kinds (heads costing) names right) own_locals in
      let low : kept costing (before (K.B ∷ under) open_loops) ≤ kept costing (here site open_loops) + tall_of costing names left =
      (to costing (ap (λ k. before (code_kind k ∷ under) open_loops) is_kinded.2.0)
      (claim_of_left site open_loops is_kinded.0 placed left_locals)).tall in
      let way = chosen left (I.Bool true ∷ []) (code_of costing.callees second right) truth_kind first.place
      (middle.place + 1) second.place end.place _ _ _ _ claim_of_left site open_loops is_kinded.0 is_kinded.2.0 placed left_locals
      refl (omega arith) (omega arith) (far costing second right is_kinded.1)
      (line costing (takes_kinds costing.scope (I.Bool true) [] (K.B ∷ []) under open_loops refl) refl (λ x. x)
      (costing.account.prices.unit (here first open_loops) (I.Bool true) tt))
      (to costing (ap (λ k. before (code_kind k ∷ under) open_loops) is_kinded.2.1)
      (claim_of_right second open_loops is_kinded.1 placed (own_back costing site left (local_kinds (heads costing) names right) own_locals))) in
      told costing way refl (omega (arith, low))

  pub flow_and : (left right : Tree) → Claim costing left → Claim costing right → Claim costing (two And left right)
  flow_and left right claim_of_left claim_of_right site open_loops is_kinded placed own_locals =
      let names : Names = names_in site.scope in
      let first : Site = on 1 (behind (heads costing) left site) in
      let middle : Site = behind (heads costing) right first in
      let under : List ValueKind = code_kinds site.below in
      let long : middle.place ≡ first.place + length (code_of costing.callees first right) = far costing first right is_kinded.1 in
      let left_locals = own_front costing site left (local_kinds (heads costing) names right) own_locals in
      let low : kept costing (before (K.B ∷ under) open_loops) ≤ kept costing (here site open_loops) + tall_of costing names left =
      (to costing (ap (λ k. before (code_kind k ∷ under) open_loops) is_kinded.2.0)
      (claim_of_left site open_loops is_kinded.0 placed left_locals)).tall in
      let way = chosen left (code_of costing.callees first right) (I.Bool false ∷ []) truth_kind first.place (middle.place + 1) (middle.place + 2)
      (middle.place + 3) _ _ _ _ claim_of_left site open_loops is_kinded.0 is_kinded.2.0 placed left_locals
      refl (omega (arith, long)) (omega arith) (omega arith)
      (to costing (ap (λ k. before (code_kind k ∷ under) open_loops) is_kinded.2.1)
      (claim_of_right first open_loops is_kinded.1 placed (own_back costing site left (local_kinds (heads costing) names right) own_locals)))
      (line costing (takes_kinds costing.scope (I.Bool false) [] (K.B ∷ []) under open_loops refl) refl (λ x. x)
      (costing.account.prices.unit (here first open_loops) (I.Bool false) tt)) in
      told costing way refl (omega (arith, low))
