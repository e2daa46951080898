-- LET, FOR and MAP lead from the operands that stand below them to those and their value, and come to what they cost, where their parts do.
use Rattle.rpl_compile.proofs.Common.{Head, Instruction, Kind, List, Names, Open, Site, Some, Tree, ValueKind, [], ap, append_assoc, arith, before}
use Rattle.rpl_compile.proofs.Common.{behind, bind, bound, code_kind, code_kinds, code_of, costed_heads, each, element_of, keeping, knowing, length}
use Rattle.rpl_compile.proofs.Common.{length-append, local_kinds, mapped, mapping, max, names_in, on, over, refl, room_lines, room_of, size}
use Rattle.rpl_compile.proofs.Common.{slice_get, subst, suc, sym, tree_kind, visiting, weight, widening_size, ℕ, ◌*◌, ◌++◌, ◌+◌, ◌∙◌, ◌∷◌, ◌≡◌, ◌≤◌}
use Rattle.rpl_code.specs.declared.kind.ValueKind.TheVariants as K
use Rattle.rpl_code.specs.declared.instruction.Instruction.TheVariants as I
use Rattle.rpl_compile.proofs.Sizes.{code-size, widening-size}
use Rattle.rpl_compile.proofs.Placing.{HasAt}
use Rattle.rpl_compile.proofs.Going.{goes_loop}
use Rattle.rpl_compile.proofs.Lines.{foreach_fits, loop_at, map_fits, next_fits, yield_fits, room_code}
use Rattle.rpl_compile.proofs.Costing.{Claim, Leads, Costing, cost, deep_kind, far, heads, kept, kind_of_code, loads, own_back, own_front, room_cost}
use Rattle.rpl_compile.proofs.Costing.{same_kind, seq, stores, tall_of, to, told}
use Rattle.rpl_compile.proofs.Flowing.{with_room}
use Rattle.rpl_compile.proofs.OfKind.{words_coded}

module _ (costing : Costing) where
  -- ---- names

  pub flow_bind : (new_name : List ℕ) (value_tree body : Tree) → Claim costing value_tree → Claim costing body
      → Claim costing (bind new_name value_tree body)
  flow_bind new_name value_tree body claim_of_value claim_of_body site open_loops is_kinded placed own_locals =
      let names : Names = names_in site.scope in
      let kind : Kind = kind_of_code costing site value_tree in
      let first : Site = keeping 1 site in
      let inside : Site = knowing (bound new_name kind site.free) (on 1 (behind (heads costing) value_tree first)) in
      let under : List ValueKind = code_kinds site.below in
      let inner = local_kinds (heads costing) ((new_name, kind) ∷ names) body in
      let same_place : suc site.free ≡ site.free + 1 = omega arith in
      let own : HasAt costing.scope.locals first.free (code_kinds (local_kinds (heads costing) names value_tree ++ inner)) =
      subst (λ n. HasAt costing.scope.locals n (code_kinds (local_kinds (heads costing) names value_tree ++ inner))) same_place own_locals.1 in
      let value_way = claim_of_value first open_loops is_kinded.0 placed (own_front costing first value_tree inner own) in
      let low = value_way.tall in
      let sum : costing.pays.step (weight kind) + cost costing ((new_name, kind) ∷ names) body
      ≡ costing.pays.step (weight (tree_kind (costed_heads costing.functions) names value_tree)) + cost costing
      ((new_name, tree_kind (costed_heads costing.functions) names value_tree) ∷ names) body =
      ap (λ k. costing.pays.step (weight k) + cost costing ((new_name, k) ∷ names) body) (same_kind costing names value_tree) in
      let high : tall_of costing ((new_name, kind) ∷ names) body
      ≡ tall_of costing ((new_name, tree_kind (costed_heads costing.deep) names value_tree) ∷ names) body =
      ap (λ k. tall_of costing ((new_name, k) ∷ names) body) (deep_kind costing names value_tree) in
      told costing (seq costing (far costing first value_tree is_kinded.0) value_way
      (seq costing refl (stores costing (behind (heads costing) value_tree first).place site.free kind under open_loops own_locals.0)
      (claim_of_body inside open_loops is_kinded.1 (own_locals.0, placed) (own_back costing first value_tree inner own)))) (omega (arith, sum))
      (omega (arith, low, high))

  -- a loop's turns, with the line that ends each
  turned_lines : (body room : List Instruction) (first second third : Instruction)
      → body ++ (room ++ (first ∷ second ∷ third ∷ [])) ≡ (body ++ (room ++ first ∷ [])) ++ (second ∷ third ∷ [])
  turned_lines body room first second third =
      ap (λ l. body ++ l) (sym (append_assoc room (first ∷ []) (second ∷ third ∷ [])))
      ∙ sym (append_assoc body (room ++ first ∷ []) (second ∷ third ∷ []))

  double : (n : ℕ) → 2 * n + 1 ≡ n + n + 1
  double n = omega arith

  -- what a FOR comes to behind its list and its first value, and how high it stands, by the heads of functions
  abbrev each_cost : Names → List ℕ → Tree → List ℕ → Tree → Tree → List Head → ℕ
  each_cost names item_name source total_name initial body by_heads =
      let total : Kind = tree_kind by_heads names initial in
      let inside : Names = (total_name, total) ∷ (item_name, element_of (tree_kind by_heads names source)) ∷ names in
      costing.pays.step (2 * weight total + 1) + room_of (tree_kind by_heads names source) *
      (cost costing inside body + (room_cost costing total (tree_kind by_heads inside body) + costing.pays.step (weight total + 1)))

  abbrev each_height : Names → List ℕ → Tree → List ℕ → Tree → Tree → List Head → ℕ
  each_height names item_name source total_name initial body by_heads =
      let all : Kind = tree_kind by_heads names source in
      let total : Kind = tree_kind by_heads names initial in
      max (weight all + tall_of costing names initial)
      (room_of all + 3 + max (tall_of costing ((total_name, total) ∷ (item_name, element_of all) ∷ names) body) (weight total))

  pub flow_each : (item_name : List ℕ) (source : Tree) (total_name : List ℕ) (initial body : Tree) → Claim costing source → Claim costing initial
      → Claim costing body
      → Claim costing (each item_name source total_name initial body)
  flow_each item_name source total_name initial body claim_of_source claim_of_initial claim_of_body site open_loops is_kinded placed own_locals =
      let names : Names = names_in site.scope in
      let all : Kind = kind_of_code costing site source in
      let total : Kind = kind_of_code costing site initial in
      let start_site : Site = keeping 2 site in
      let start : Site = over all (behind (heads costing) source start_site) in
      let store_place : ℕ = (behind (heads costing) initial start).place in
      let inside : Site = knowing (bound total_name total (site.free + 1))
      (knowing (bound item_name (element_of all) site.free) (on 2 (behind (heads costing) initial (behind (heads costing) source start_site)))) in
      let inner_names : Names = (total_name, total) ∷ (item_name, element_of all) ∷ names in
      let turn_kind : Kind = kind_of_code costing inside body in
      let under : List ValueKind = code_kinds site.below in
      let open_loop : Open = loop_at visiting (store_place + 1) (room_of all) under in
      let inner = local_kinds (heads costing) inner_names body in
      let one_free : suc site.free ≡ site.free + 1 = omega arith in
      let two_free : suc (suc site.free) ≡ site.free + 2 = omega arith in
      let in_total : slice_get costing.scope.locals (site.free + 1) ≡ Some (code_kind total) =
      ap (slice_get costing.scope.locals) (sym one_free) ∙ own_locals.1.0 in
      let own : HasAt costing.scope.locals start_site.free
      (code_kinds (local_kinds (heads costing) names source ++ (local_kinds (heads costing) names initial ++ inner))) =
      subst (λ n.
      HasAt costing.scope.locals n
      (code_kinds (local_kinds (heads costing) names source ++ (local_kinds (heads costing) names initial ++ inner))))
      two_free own_locals.1.1 in
      let initial_locals = own_back costing start_site source (local_kinds (heads costing) names initial ++ inner) own in
      let body_locals = own_back costing start initial inner initial_locals in
      let room_place : ℕ = (behind (heads costing) body inside).place in
      let keep_place : ℕ = room_place + widening_size total turn_kind in
      let next_place : ℕ = keep_place + 1 in
      let body_lines : List Instruction = code_of costing.callees inside body in
      let room : List Instruction = room_lines costing.callees total inside body in
      -- the parts
      let source_way =
      claim_of_source start_site open_loops is_kinded.0 placed
      (own_front costing start_site source (local_kinds (heads costing) names initial ++ inner) own) in
      let initial_way = claim_of_initial start open_loops is_kinded.2 placed (own_front costing start initial inner initial_locals) in
      let body_way =
      with_room costing total body claim_of_body inside (open_loop ∷ open_loops) is_kinded.3 is_kinded.4
      (in_total, (own_locals.0, placed)) body_locals in
      let source_low = source_way.tall in
      let initial_low = initial_way.tall in
      let source_words = words_coded all in
      let total_words = words_coded total in
      let body_counted : length body_lines ≡ size (heads costing) inner_names body =
      code-size costing.scope.basin costing.callees inside body is_kinded.3 in
      let room_counted : length room ≡ widening_size total turn_kind = widening-size total turn_kind in
      let both_counted = length-append body_lines room in
      let there : keep_place ≡ inside.place + length (body_lines ++ room) = omega (arith, body_counted, room_counted, both_counted) in
      let body_cost : ℕ = cost costing inner_names body + room_cost costing total turn_kind + costing.pays.step (weight total) in
      let body_high : ℕ = kept costing (before under (open_loop ∷ open_loops)) + max (tall_of costing inner_names body) (weight total) in
      let turn_lines : List Instruction = body_lines ++ (room ++ I.Store (site.free + 1) ∷ []) in
      let turn_way : Leads costing turn_lines inside.place (before under (open_loop ∷ open_loops))
      (before under (open_loop ∷ open_loops)) body_cost body_high =
      subst (λ xs. Leads costing xs inside.place (before under (open_loop ∷ open_loops)) (before under (open_loop ∷ open_loops)) body_cost body_high)
      (append_assoc body_lines room (I.Store (site.free + 1) ∷ []))
      (told costing (seq costing there body_way (stores costing keep_place (site.free + 1) total under (open_loop ∷ open_loops) in_total)) refl
      (omega (arith, total_words))) in
      let turn_counted = length-append body_lines (room ++ I.Store (site.free + 1) ∷ []) in
      let store_counted = length-append room (I.Store (site.free + 1) ∷ []) in
      let loop_counted = length-append turn_lines (I.Next ∷ []) in
      let loop_way =
      goes_loop costing.scope costing.lines costing.spots_are costing.pays costing.account turn_lines (store_place + 1) inside.place next_place
      (room_of all) body_cost body_high
      (I.Foreach site.free) I.Next open_loop (before (code_kind all ∷ under) open_loops) (before under (open_loop ∷ open_loops))
      (before under (open_loop ∷ open_loops)) (before under open_loops)
      (omega arith) (omega (arith, body_counted, room_counted, turn_counted, store_counted))
      (foreach_fits costing.scope (store_place + 1) site.free all under open_loops is_kinded.1 own_locals.0) refl tt
      (room_code all) turn_way refl refl
      (next_fits costing.scope next_place (store_place + 1) (room_of all) under open_loops) refl tt in
      let regrouped : body_lines ++ (room ++ (I.Store (site.free + 1) ∷ I.Next ∷ I.Load (site.free + 1) ∷ []))
      ≡ (turn_lines ++ I.Next ∷ []) ++ I.Load (site.free + 1) ∷ [] =
      turned_lines body_lines room (I.Store (site.free + 1)) I.Next (I.Load (site.free + 1))
      ∙ sym (append_assoc turn_lines (I.Next ∷ []) (I.Load (site.free + 1) ∷ [])) in
      let tail_cost : ℕ = costing.pays.step 1 + room_of all * (body_cost + costing.pays.step 1) + costing.pays.step (weight total) in
      let low_loop : kept costing (before under open_loops) ≤ body_high = omega arith in
      let tail_way : Leads costing (I.Foreach site.free ∷ (body_lines ++ (room ++ (I.Store (site.free + 1) ∷ I.Next ∷ I.Load (site.free + 1) ∷ []))))
      (store_place + 1) (before (code_kind all ∷ under) open_loops)
      (before (code_kind total ∷ under) open_loops) tail_cost
      (max (kept costing (before (code_kind all ∷ under) open_loops)) (max body_high (kept costing (before (code_kind total ∷ under) open_loops)))) =
      subst (λ xs.
      Leads costing (I.Foreach site.free ∷ xs) (store_place + 1) (before (code_kind all ∷ under) open_loops)
      (before (code_kind total ∷ under) open_loops) tail_cost
      (max (kept costing (before (code_kind all ∷ under) open_loops)) (max body_high (kept costing (before (code_kind total ∷ under) open_loops)))))
      (sym regrouped)
      (told costing (seq costing {first_lines = I.Foreach site.free ∷ (turn_lines ++ I.Next ∷ [])} {second_place = next_place + 1}
      (omega (arith, body_counted, room_counted, turn_counted, store_counted, loop_counted)) loop_way
      (loads costing (next_place + 1) (site.free + 1) total under open_loops in_total)) refl (omega (arith, low_loop))) in
      -- by the heads of those that are costed
      let total_price : costing.pays.step (2 * weight total + 1)
      ≡ costing.pays.step (weight total) + costing.pays.step (weight total) + costing.pays.step 1 =
      ap costing.pays.step (double (weight total)) ∙ costing.account.prices.adds (weight total + weight total) 1
      ∙ ap (λ n. n + costing.pays.step 1) (costing.account.prices.adds (weight total) (weight total)) in
      let turn_price = costing.account.prices.adds (weight total) 1 in
      let in_turn : body_cost + costing.pays.step 1
      ≡ cost costing inner_names body + (room_cost costing total turn_kind + costing.pays.step (weight total + 1)) = omega (arith, turn_price) in
      let in_turns : room_of all * (body_cost + costing.pays.step 1)
      ≡ room_of all * (cost costing inner_names body + (room_cost costing total turn_kind + costing.pays.step (weight total + 1))) =
      ap (λ n. room_of all * n) in_turn in
      let sum : each_cost names item_name source total_name initial body (heads costing)
      ≡ each_cost names item_name source total_name initial body (costed_heads costing.functions) =
      ap (each_cost names item_name source total_name initial body) costing.same_heads in
      let high : each_height names item_name source total_name initial body (heads costing)
      ≡ each_height names item_name source total_name initial body (costed_heads costing.deep) =
      ap (each_height names item_name source total_name initial body) costing.deep_heads in
      told costing (seq costing (far costing start_site source is_kinded.0) source_way
      (seq costing (far costing start initial is_kinded.2) initial_way
      (seq costing refl (stores costing store_place (site.free + 1) total (code_kind all ∷ under) open_loops in_total) tail_way)))
      (omega (arith, total_price, in_turns, sum)) (omega (arith, source_low, initial_low, source_words, total_words, high))

  abbrev mapped_cost : Names → List ℕ → Tree → Tree → List Head → ℕ
  mapped_cost names item_name source body by_heads = room_of (tree_kind by_heads names source) *
      (cost costing ((item_name, element_of (tree_kind by_heads names source)) ∷ names) body + costing.pays.step 1)

  abbrev mapped_height : Names → List ℕ → Tree → Tree → List Head → ℕ
  mapped_height names item_name source body by_heads =
      2 * room_of (tree_kind by_heads names source) + 4 + tall_of costing ((item_name, element_of (tree_kind by_heads names source)) ∷ names) body

  pub flow_mapped : (item_name : List ℕ) (source body : Tree) → Claim costing source → Claim costing body
      → Claim costing (mapped item_name source body)
  flow_mapped item_name source body claim_of_source claim_of_body site open_loops is_kinded placed own_locals =
      let names : Names = names_in site.scope in
      let all : Kind = kind_of_code costing site source in
      let start_site : Site = keeping 1 site in
      let map_place : ℕ = (behind (heads costing) source start_site).place in
      let inside : Site = knowing (bound item_name (element_of all) site.free) (on 1 (behind (heads costing) source start_site)) in
      let inner_names : Names = (item_name, element_of all) ∷ names in
      let under : List ValueKind = code_kinds site.below in
      let open_loop : Open = loop_at mapping map_place (room_of all) under in
      let inner = local_kinds (heads costing) inner_names body in
      let same_place : suc site.free ≡ site.free + 1 = omega arith in
      let own : HasAt costing.scope.locals start_site.free (code_kinds (local_kinds (heads costing) names source ++ inner)) =
      subst (λ n. HasAt costing.scope.locals n (code_kinds (local_kinds (heads costing) names source ++ inner))) same_place own_locals.1 in
      let source_way = claim_of_source start_site open_loops is_kinded.0 placed (own_front costing start_site source inner own) in
      let source_low = source_way.tall in
      let body_way = to costing (ap (λ k. before (code_kind k ∷ under) (open_loop ∷ open_loops)) is_kinded.3)
      (claim_of_body inside (open_loop ∷ open_loops) is_kinded.2 (own_locals.0, placed) (own_back costing start_site source inner own)) in
      let loop_way = goes_loop costing.scope costing.lines costing.spots_are costing.pays costing.account
      (code_of costing.callees inside body) map_place inside.place (behind (heads costing) body inside).place (room_of all) _ _
      (I.Map site.free) I.Yield open_loop (before (code_kind all ∷ under) open_loops) (before under (open_loop ∷ open_loops))
      (before (K.N ∷ under) (open_loop ∷ open_loops))
      (before (K.NList (room_of all) ∷ under) open_loops)
      refl (far costing inside body is_kinded.2) (map_fits costing.scope map_place site.free all under open_loops is_kinded.1 own_locals.0) refl tt
      (room_code all) body_way refl refl
      (yield_fits costing.scope (behind (heads costing) body inside).place map_place (room_of all) under open_loops) refl tt in
      let sum : mapped_cost names item_name source body (heads costing) ≡ mapped_cost names item_name source body (costed_heads costing.functions) =
      ap (mapped_cost names item_name source body) costing.same_heads in
      let high : mapped_height names item_name source body (heads costing) ≡ mapped_height names item_name source body (costed_heads costing.deep) =
      ap (mapped_height names item_name source body) costing.deep_heads in
      told costing (seq costing (far costing start_site source is_kinded.0) source_way loop_way) (omega (arith, sum))
      (omega (arith, source_low, high))
