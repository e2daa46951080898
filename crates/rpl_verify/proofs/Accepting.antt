-- Code is accepted exactly where it fits and the budgets that its ways have keep within the limits.
use Rattle.rw_base.proofs.Common.{◌≡◌, ℕ, suc, ◌+◌, ◌≤◌, Bool, true, false, nat_lt, List, [], ◌∷◌, ◌++◌, length, take, Some, None, Result, Ok, Err}
use Rattle.rw_base.specs.declared.limits.TheConstants.{RULES_MAX}
use Rattle.rw_base.proofs.Common.{if◌then◌else◌, refl, sym, ap, ap₂, ◌∙◌, subst, arith, nat_tests, slice_get, slice_get_within, All-get_or}
use Rattle.rw_base.proofs.Common.{append-nil, append_assoc, get_or_from_slice_get, length-append, take_all, take_more, ◌-◌}
use Rattle.rw_model.specs.Draft.{Draft}
use Rattle.rw_model.specs.Objects.{numbered}
use Rattle.rpl_code.specs.declared.block.Block.{Block}
use Rattle.rpl_code.specs.declared.instruction.Instruction.{Instruction}
use Rattle.rpl_tree.specs.Budget.{Budget, budget, capped, limits}
use Rattle.rpl_verify.specs.declared.verify_kind.VerifyKind.{VerifyKind}
use Rattle.rpl_verify.specs.declared.verify_kind.VerifyKind.TheVariants.{TooCostly, TooManyReads, TooManyPuts, TooDeep, TooMany}
use Rattle.rpl_verify.specs.Places.{spots}
use Rattle.rpl_verify.specs.Names.{Scope}
use Rattle.rpl_verify.specs.Fits.{Before, Misplaced, Refusal, at_place, before, befores, block_befores, count_alike, each_block, fitting, in_block}
use Rattle.rpl_verify.specs.Fits.{refusal_in_result, scope_of, then_do}
use Rattle.rpl_verify.specs.Budget.{AreAccepted, IsWithinLimits, block_ruling, budget_by, count_of, looks_of, most, puts_of, summed, within_limits}
use Rattle.rpl_verify.specs.Ways.{AreAcceptable, AreBudgets, HasBudget, IsBudget, IsMost, sum_on, words_on}
use Rattle.rpl_verify.proofs.KindFacts.{same_ok}
use Rattle.rpl_verify.proofs.Rulings.{accepted_fits, accepted_within, in_block_ok}
use Rattle.rpl_verify.proofs.Accepted.{accepted_befores as bs_of, earlier, exact, fits as fits_of, get_behind, numbered_by, numbered_is, ruled}
use Rattle.rpl_verify.proofs.VerifiedFacts.{each}
use Rattle.rpl_verify.proofs.Ways.{sums_are_most, words_are_most}

-- ---- accepted code is acceptable

each_budget : (basin : Draft) (code : List Block) (budgets : List Budget) → AreAccepted basin code budgets → (number : ℕ) (block : Block)
    → numbered code number ≡ Some block → HasBudget basin code budgets number block
each_budget basin code budgets accepted number block numbered_so =
    let scope : Scope = scope_of basin code number block in
    let before_all : List Before = bs_of basin code budgets accepted number in
    let fitting = fits_of basin code budgets accepted number block numbered_so in
    let ruling = ruled basin code budgets accepted number block numbered_so in
    let comes_to = exact basin code budgets accepted number block numbered_so in
    let prior : List Budget = earlier basin code budgets accepted number in (
      before_all,
      ruling.budget_is,
      fitting,
      ruling.at,
      record {
        count =
            subst (IsMost block.lines (sum_on before_all block.lines (count_of scope prior))) comes_to.count
            (sums_are_most scope block.lines before_all refl fitting prior (count_of scope prior));
        looks =
            subst (IsMost block.lines (sum_on before_all block.lines (looks_of scope prior))) comes_to.looks
            (sums_are_most scope block.lines before_all refl fitting prior (looks_of scope prior));
        puts =
            subst (IsMost block.lines (sum_on before_all block.lines (puts_of scope prior))) comes_to.puts
            (sums_are_most scope block.lines before_all refl fitting prior (puts_of scope prior));
        words =
            subst (IsMost block.lines (words_on before_all block.lines scope prior)) comes_to.words
            (words_are_most scope block.lines before_all refl fitting prior);
      },
    )

are_budgets : (basin : Draft) (code : List Block) (budgets : List Budget) → AreAccepted basin code budgets → AreBudgets basin code budgets
are_budgets basin code budgets accepted = (each basin code budgets accepted, each_budget basin code budgets accepted)

pub acceptable : (basin : Draft) (code : List Block) (budgets : List Budget) → AreAccepted basin code budgets → AreAcceptable basin code budgets
acceptable basin code budgets accepted =
    record {
      fit = accepted_fits basin code budgets accepted;
      are_budgets = are_budgets basin code budgets accepted;
      within = accepted_within basin code budgets accepted;
    }

-- ---- code that is acceptable is accepted

one_most : (lines : List Instruction) (come : List ℕ → ℕ) (n index : ℕ) → IsMost lines come n → IsMost lines come index → n ≡ index
one_most lines come n index most most_so =
    omega (arith, most.each most_so.one most_so.is_way, most_so.reached, most_so.each most.one most.is_way, most.reached)

lets : (truth : Bool) (misfit : VerifyKind) (result : Result Budget VerifyKind) → truth ≡ false → (if truth then Err misfit else result) ≡ result
lets false misfit result truth_is = refl
lets true misfit result truth_is = absurd (cc truth_is)

not_above : (n m : ℕ) → n ≤ m → nat_lt m n ≡ false
not_above n m at_most = grind (arith, nat_tests)

passes_limits : (its_budget : Budget) → IsWithinLimits its_budget → within_limits its_budget ≡ Ok its_budget
passes_limits its_budget within_limits =
    lets (nat_lt limits.count its_budget.count) TooCostly _ (not_above its_budget.count limits.count within_limits.count)
    ∙ lets (nat_lt limits.looks its_budget.looks) TooManyReads _ (not_above its_budget.looks limits.looks within_limits.looks)
    ∙ lets (nat_lt limits.puts its_budget.puts) TooManyPuts _ (not_above its_budget.puts limits.puts within_limits.puts)
    ∙ lets (nat_lt limits.words its_budget.words) TooDeep _ (not_above its_budget.words limits.words within_limits.words)

stays : (limit n index : ℕ) → n ≡ index → index ≤ limit → capped limit n ≡ index
stays limit n index n_is at_most = omega (arith, n_is, at_most)

budget_is : (scope : Scope) (prior : List Budget) (places : List Before) (lines : List Instruction) (its_budget : Budget) → scope.spots ≡ spots lines
    → befores scope 0 (before [] []) lines ≡ Ok places
    → IsBudget scope prior places lines its_budget → IsWithinLimits its_budget → budget_by scope prior places lines ≡ its_budget
budget_is scope prior places lines its_budget spotted fits is within_limits =
    let sums : (price : Before → Instruction → ℕ) → IsMost lines (sum_on places lines price) (most (summed scope prior price) places lines) =
    sums_are_most scope lines places spotted fits prior in
    let stays_so =
    stays limits.count _ its_budget.count (one_most lines _ _ its_budget.count (sums (count_of scope prior)) is.count) within_limits.count in
    let stays_too =
    stays limits.looks _ its_budget.looks (one_most lines _ _ its_budget.looks (sums (looks_of scope prior)) is.looks) within_limits.looks in
    let stays_here =
    stays limits.puts _ its_budget.puts (one_most lines _ _ its_budget.puts (sums (puts_of scope prior)) is.puts) within_limits.puts in
    let stays_again =
    stays limits.words _ its_budget.words (one_most lines _ _ its_budget.words (words_are_most scope lines places spotted fits prior) is.words)
    within_limits.words in
    ap₂ (λ x y. budget x y (budget_by scope prior places lines).puts (budget_by scope prior places lines).words) stays_so stays_too
    ∙ ap₂ (budget its_budget.count its_budget.looks) stays_here stays_again

module _ (basin : Draft) (code : List Block) (budgets : List Budget) (good : AreAcceptable basin code budgets) where
  counted_few : (truth : Bool) (result : Result (List Before) Misplaced) (befores_there : List Before)
      → (if truth then result else Err (record { misfit = TooMany; place = 0 })) ≡ Ok befores_there → result ≡ Ok befores_there
  counted_few true result befores_there if_is = if_is
  counted_few false result befores_there if_is = absurd (cc if_is)

  within_at : (index : ℕ) (its_budget : Budget) → slice_get budgets index ≡ Some its_budget → IsWithinLimits its_budget
  within_at index its_budget found =
      subst IsWithinLimits (get_or_from_slice_get budgets index its_budget its_budget found)
      (All-get_or IsWithinLimits budgets index its_budget (slice_get_within budgets index its_budget found) good.within)

  taken_one : (index : ℕ) (its_budget : Budget) → slice_get budgets index ≡ Some its_budget
      → take index budgets ++ its_budget ∷ [] ≡ take (index + 1) budgets
  taken_one index its_budget found =
      sym (take_more budgets index its_budget (slice_get_within budgets index its_budget found)
      ∙ ap (λ d. take index budgets ++ d ∷ []) (get_or_from_slice_get budgets index its_budget its_budget found))

  -- a block behind others
  ruled_so : (prior : List Block) (block : Block) (places : List Before) → numbered code (suc (length prior)) ≡ Some block
      → block_befores basin code prior block ≡ Ok places
      → (its_budget : Budget) × (block_ruling basin code prior (take (length prior) budgets) block ≡ Ok its_budget)
      × (slice_get budgets (length prior) ≡ Some its_budget)
  ruled_so prior block places numbered_so block_befores_is =
      let n : ℕ = suc (length prior) in
      let scope : Scope = scope_of basin code n block in
      let n_is : n - 1 ≡ length prior = omega arith in
      let has = good.are_budgets.1 n block numbered_so in
      let its_budget : Budget = has.1 in
      let fit : befores scope 0 (before [] []) block.lines ≡ Ok places =
      counted_few (nat_lt (count_alike block.head prior) RULES_MAX) _ places block_befores_is in
      let one : has.0 ≡ places = same_ok has.0 places (sym has.2 ∙ fit) in
      let at : slice_get budgets (length prior) ≡ Some its_budget = ap (slice_get budgets) (sym n_is) ∙ (numbered_is budgets n its_budget has.3).0 in
      let within_at_so = within_at (length prior) its_budget at in
      let is : IsBudget scope (take (length prior) budgets) places block.lines its_budget =
      subst (λ k. IsBudget scope (take k budgets) places block.lines its_budget) n_is
      (subst (λ l. IsBudget scope (take (n - 1) budgets) l block.lines its_budget) one has.4) in
      let budget_by_is : budget_by scope (take (length prior) budgets) places block.lines ≡ its_budget =
      budget_is scope (take (length prior) budgets) places block.lines its_budget refl fit is within_at_so in (
        its_budget,
        ap (λ r. then_do r (λ l. at_place (length block.lines) (within_limits (budget_by scope (take (length prior) budgets) l block.lines))
            (λ d. Ok d))) block_befores_is
            ∙ ap (λ d. at_place (length block.lines) (within_limits d) (λ d. Ok d)) budget_by_is
            ∙ ap (λ r. at_place (length block.lines) r (λ d. Ok d)) (passes_limits its_budget within_at_so),
        at,
      )

  accepted_from : (prior blocks : List Block) (done all : List (List Before)) → prior ++ blocks ≡ code
      → each_block (λ (prior : List Block) (done : List (List Before)) (x : Block). block_befores basin code prior x) prior done blocks ≡ Ok all
      → each_block (block_ruling basin code) prior (take (length prior) budgets) blocks ≡ Ok budgets
  accepted_from prior [] done all prior_is each_block_is =
      let lengths = ap (λ (l : List Block). length l) (sym (append-nil prior) ∙ prior_is) in
      ap Ok (take_all (length prior) budgets (omega (arith, lengths, good.are_budgets.0)))
  accepted_from prior (block ∷ blocks) done all prior_is each_block_is =
      let in_block_ok_so =
      in_block_ok (suc (length prior)) (block_befores basin code prior block)
      (λ a. each_block (λ (prior : List Block) (done : List (List Before)) (x : Block). block_befores basin code prior x) (prior ++ block ∷ [])
      (done ++ a ∷ []) blocks) all each_block_is in
      let whole : (prior ++ block ∷ []) ++ blocks ≡ code = append_assoc prior (block ∷ []) blocks ∙ prior_is in
      let same : suc (length prior) - 1 ≡ length prior = omega arith in
      let numbered_so : numbered code (suc (length prior)) ≡ Some block =
      numbered_by code (suc (length prior)) block (ap (slice_get code) same ∙ ap (λ l. slice_get l (length prior)) (sym whole)
      ∙ get_behind prior blocks block)
      (omega arith) in
      let ruled_so_so = ruled_so prior block in_block_ok_so.0 numbered_so in_block_ok_so.1 in
      let length_is : length prior + 1 ≡ length (prior ++ block ∷ []) = omega (arith, length-append prior (block ∷ [])) in
      ap (λ r. in_block (suc (length prior)) r
      (λ b. each_block (block_ruling basin code) (prior ++ block ∷ []) (take (length prior) budgets ++ b ∷ []) blocks)) ruled_so_so.1
      ∙ ap (λ ds. each_block (block_ruling basin code) (prior ++ block ∷ []) ds blocks) (taken_one (length prior) ruled_so_so.0 ruled_so_so.2
      ∙ ap (λ k. take k budgets) length_is)
      ∙ accepted_from (prior ++ block ∷ []) blocks (done ++ in_block_ok_so.0 ∷ []) all whole in_block_ok_so.2

  all_fit : (result : Result (List (List Before)) Refusal) → refusal_in_result result ≡ None → (list : List (List Before)) × (result ≡ Ok list)
  all_fit (Ok list) refusal_in_result_is = (list, refl)
  all_fit (Err why) refusal_in_result_is = absurd (cc refusal_in_result_is)

  pub accepts : AreAccepted basin code budgets
  accepts = let all_fit_so = all_fit (fitting basin code) good.fit in accepted_from [] code [] all_fit_so.0 refl all_fit_so.1
