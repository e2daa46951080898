-- Why code is refused: for its first misfit, or for a budget above a limit.
use Rattle.rw_base.proofs.Common.{◌≡◌, ◌⊎◌, inl, inr, ℕ, suc, Bool, true, false, nat_lt, List, [], ◌∷◌, ◌++◌, length, Some, Result, Ok, Err}
use Rattle.rw_base.proofs.Common.{if◌then◌else◌, refl, ap, ◌∙◌, subst}
use Rattle.rw_model.specs.Draft.{Draft}
use Rattle.rpl_code.specs.declared.block.Block.{Block}
use Rattle.rpl_tree.specs.Budget.{Budget, limits}
use Rattle.rpl_verify.specs.declared.verify_kind.VerifyKind.{VerifyKind}
use Rattle.rpl_verify.specs.declared.verify_kind.VerifyKind.TheVariants.{TooCostly, TooManyReads, TooManyPuts, TooDeep}
use Rattle.rpl_verify.specs.Fits.{AreFit, Before, Misplaced, Refusal, at_place, block_befores, each_block, first_code_refusal, in_block, refusal}
use Rattle.rpl_verify.specs.Fits.{refusal_in_result, scope_of, then_do}
use Rattle.rpl_verify.specs.Budget.{IsOverLimit, block_ruling, budget_by, ruling, within_limits}
use Rattle.rpl_verify.proofs.KindFacts.{then_do_ok}

-- ---- a block

over_or : (truth : Bool) (misfit why : VerifyKind) (result : Result Budget VerifyKind) → (if truth then Err misfit else result) ≡ Err why
    → (misfit ≡ why) ⊎ (result ≡ Err why)
over_or true misfit why result if_is = inl (cc if_is)
over_or false misfit why result if_is = inr if_is

over : (its_budget : Budget) (why : VerifyKind) → within_limits its_budget ≡ Err why → IsOverLimit why
over its_budget why within_limits_is = elim (over_or (nat_lt limits.count its_budget.count) TooCostly why _ within_limits_is) [
  | inl e ↦ subst IsOverLimit e tt
  | inr within_limits_is ↦ elim (over_or (nat_lt limits.looks its_budget.looks) TooManyReads why _ within_limits_is) [
    | inl e ↦ subst IsOverLimit e tt
    | inr within_limits_is ↦ elim (over_or (nat_lt limits.puts its_budget.puts) TooManyPuts why _ within_limits_is) [
      | inl e ↦ subst IsOverLimit e tt
      | inr within_limits_is ↦ elim (over_or (nat_lt limits.words its_budget.words) TooDeep why _ within_limits_is) [
        | inl e ↦ subst IsOverLimit e tt
        | inr within_limits_is ↦ absurd (cc within_limits_is)
      ]
    ]
  ]
]

over_at : (place : ℕ) (result : Result Budget VerifyKind) (wrong : Misplaced) → ((why : VerifyKind) → result ≡ Err why → IsOverLimit why)
    → at_place place result (λ b. Ok b) ≡ Err wrong → IsOverLimit wrong.misfit
over_at place (Ok its_budget) wrong each at_place_is = absurd (cc at_place_is)
over_at place (Err why) wrong each at_place_is =
    let is_wrong : record { misfit = why; place = place } ≡ wrong = cc at_place_is in
    subst IsOverLimit (ap (λ (w : Misplaced). w.misfit) is_wrong) (each why refl)

-- a block is refused for its own misfit, or for its budget
abbrev Blamed : Result (List Before) Misplaced → Misplaced → Type 0
Blamed fits wrong = (fits ≡ Err wrong) ⊎ IsOverLimit wrong.misfit

blamed : (place : ℕ) (found : List Before → Budget) (fits : Result (List Before) Misplaced) (wrong : Misplaced)
    → then_do fits (λ bs. at_place place (within_limits (found bs)) (λ b. Ok b)) ≡ Err wrong → Blamed fits wrong
blamed place found (Ok befores_there) wrong then_do_is =
    inr (over_at place (within_limits (found befores_there)) wrong (over (found befores_there)) then_do_is)
blamed place found (Err why) wrong then_do_is = inl (cc then_do_is)

-- ---- code

module _ (basin : Draft) (code : List Block) where
  abbrev fit : List Block → List (List Before) → Block → Result (List Before) Misplaced
  fit earlier done block = block_befores basin code earlier block

  abbrev Told : List Block → List (List Before) → List Block → Refusal → Type 0
  Told earlier done blocks why = (refusal_in_result (each_block fit earlier done blocks) ≡ Some why) ⊎ IsOverLimit why.misfit

  -- a block and the blocks behind it, where what is told of those is at hand
  told_of : (earlier : List Block) (budgets : List Budget) (done : List (List Before)) (block : Block) (blocks : List Block) (why : Refusal)
      → ((its_budget : Budget) (befores_there : List Before)
      → each_block (block_ruling basin code) (earlier ++ block ∷ []) (budgets ++ its_budget ∷ []) blocks ≡ Err why
      → Told (earlier ++ block ∷ []) (done ++ befores_there ∷ []) blocks why)
      → (result : Result Budget Misplaced) → block_ruling basin code earlier budgets block ≡ result
      → in_block (suc (length earlier)) result (λ b. each_block (block_ruling basin code) (earlier ++ block ∷ []) (budgets ++ b ∷ []) blocks)
      ≡ Err why
      → Told earlier done (block ∷ blocks) why
  told_of earlier budgets done block blocks why on (Ok its_budget) block_ruling_is in_block_is =
      let judged = then_do_ok (block_befores basin code earlier block) _ its_budget block_ruling_is in
      let refusal_so =
      ap (λ r. refusal_in_result (in_block (suc (length earlier)) r (λ bs. each_block fit (earlier ++ block ∷ []) (done ++ bs ∷ []) blocks)))
      judged.1 in
      elim (on its_budget judged.0 in_block_is) [ inl t ↦ inl (refusal_so ∙ t) | inr o ↦ inr o ]
  told_of earlier budgets done block blocks why on (Err wrong) block_ruling_is in_block_is =
      let n : ℕ = suc (length earlier) in
      let refusal_is : refusal wrong.misfit n wrong.place ≡ why = cc in_block_is in
      elim (blamed (length block.lines) (λ bs. budget_by (scope_of basin code n block) budgets bs block.lines)
      (block_befores basin code earlier block) wrong block_ruling_is) [
        | inl f ↦ inl (ap (λ r. refusal_in_result (in_block n r (λ bs. each_block fit (earlier ++ block ∷ []) (done ++ bs ∷ []) blocks))) f
            ∙ ap Some refusal_is)
        | inr o ↦ inr (subst IsOverLimit (ap (λ (w : Refusal). w.misfit) refusal_is) o)
      ]

  told_from : (earlier : List Block) (budgets : List Budget) (done : List (List Before)) (blocks : List Block) (why : Refusal)
      → each_block (block_ruling basin code) earlier budgets blocks ≡ Err why → Told earlier done blocks why
  told_from earlier budgets done [] why each_block_is = absurd (cc each_block_is)
  told_from earlier budgets done (block ∷ blocks) why each_block_is =
      told_of earlier budgets done block blocks why (λ b bs. told_from (earlier ++ block ∷ []) (budgets ++ b ∷ []) (done ++ bs ∷ []) blocks why)
      (block_ruling basin code earlier budgets block) refl each_block_is

  told : (why : Refusal) → ruling basin code ≡ Err why → Told [] [] code why
  told why ruling_is = told_from [] [] [] code why ruling_is

  pub first_told : (why : Refusal) → ruling basin code ≡ Err why → (IsOverLimit why.misfit → ⊥) → first_code_refusal basin code ≡ Some why
  first_told why ruling_is not = elim (told why ruling_is) [ inl t ↦ t | inr o ↦ absurd (not o) ]

  pub over_told : (why : Refusal) → ruling basin code ≡ Err why → AreFit basin code → IsOverLimit why.misfit
  over_told why ruling_is fits = elim (told why ruling_is) [ inl t ↦ absurd (cc (t, fits)) | inr o ↦ o ]
