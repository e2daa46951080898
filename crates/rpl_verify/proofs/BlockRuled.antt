-- The code's passes over a block are its ruling.
use Rattle.rw_base.proofs.Common.{◌≡◌, ◌<◌, ◌+◌, ℕ, suc, Bool, true, nat_lt, List, [], ◌∷◌, ◌++◌, length, take, drop, get_or, Some, Result, Ok, Err}
use Rattle.rw_base.specs.declared.limits.TheConstants.{RULES_MAX}
use Rattle.rw_base.proofs.Common.{if◌then◌else◌, refl, sym, ap, ap₂, ◌∙◌, arith, nat_tests, slice_get-get_or, take_more}
use Rattle.rw_base.proofs.Lists.{dropped_to}
use Rattle.rw_model.specs.Draft.{Draft}
use Rattle.rpl_code.specs.declared.block.Block.{Block}
use Rattle.rpl_code.specs.declared.instruction.Instruction.{Instruction}
use Rattle.rpl_tree.specs.Budget.{Budget}
use Rattle.rpl_verify.specs.declared.notes.Note.{Note}
use Rattle.rpl_verify.specs.declared.notes.Part.TheVariants.{Count, Looks, Puts, Words}
use Rattle.rpl_verify.specs.declared.verify_kind.VerifyKind.TheVariants.{TooMany}
use Rattle.rpl_verify.specs.Places.{rest_of, spots}
use Rattle.rpl_verify.specs.Steps.{scope_in}
use Rattle.rpl_code.specs.declared.kind.ValueKind.{ValueKind}
use Rattle.rpl_verify.specs.Names.{Scope}
use Rattle.rpl_verify.specs.Fits.{Before, Misplaced, at_place, before, befores, block_befores, count_alike, each_block, in_block, locals_of, scope_of}
use Rattle.rpl_verify.specs.Fits.{then_do}
use Rattle.rpl_verify.specs.Budget.{block_ruling, budget_by, ruling, within_limits}
use Rattle.rpl_verify.specs.Notes.{budget_noted, noted_block, notes_of}
use Rattle.rpl_verify.proofs.KindFacts.{then_do_ok, same_ok}
use Rattle.rpl_verify.proofs.Caps.{most_is}

module _ (scope : Scope) (budgets : List Budget) where
  budget_is : (befores_there : List Before) (lines : List Instruction)
      → budget_noted (notes_of scope budgets befores_there lines) lines ≡ budget_by scope budgets befores_there lines
  budget_is befores_there lines =
      rw (
        most_is scope budgets Count befores_there lines,
        most_is scope budgets Looks befores_there lines,
        most_is scope budgets Puts befores_there lines,
        most_is scope budgets Words befores_there lines,
      ) refl

  length-notes : (befores_there : List Before) (lines : List Instruction) → length (notes_of scope budgets befores_there lines) ≡ length lines + 1
  length-notes befores_there [] = refl
  length-notes befores_there (instruction ∷ lines) =
      let length_notes_so = length-notes (rest_of befores_there) lines in omega (arith, length_notes_so)

  pub length-noted : (lines : List Instruction) (notes : List Note) → noted_block scope budgets lines ≡ Ok notes → length notes ≡ length lines + 1
  length-noted lines notes noted_block_is =
      let judged = then_do_ok (befores scope 0 (before [] []) lines) (λ bs. Ok (notes_of scope budgets bs lines)) notes noted_block_is in
      ap length (sym (same_ok (notes_of scope budgets judged.0 lines) notes judged.2)) ∙ length-notes judged.0 lines

module _ (basin : Draft) (blocks earlier : List Block) (budgets : List Budget) (block : Block) where
  abbrev here : Scope
  here = scope_of basin blocks (suc (length earlier)) block

  pub same_noted : (number : ℕ) (locals : List ValueKind) (lines : List Instruction) → number ≡ suc (length earlier) → locals ≡ locals_of block
      → lines ≡ block.lines
      → noted_block (scope_in basin blocks number block.head locals (spots lines)) budgets lines ≡ noted_block here budgets block.lines
  same_noted number locals lines number_is locals_is lines_is = rw (number_is, locals_is, lines_is) refl

  abbrev measured : Result (List Before) Misplaced → Result Budget Misplaced
  measured found = then_do found (λ bs. at_place (length block.lines) (within_limits (budget_by here budgets bs block.lines)) (λ b. Ok b))

  few : count_alike block.head earlier < RULES_MAX → block_befores basin blocks earlier block ≡ befores here 0 (before [] []) block.lines
  few below = let nat_lt_is : nat_lt (count_alike block.head earlier) RULES_MAX ≡ true = grind (arith, nat_tests) in
      ap (λ (t : Bool). if t then befores here 0 (before [] []) block.lines else Err (record { misfit = TooMany; place = 0 })) nat_lt_is

  pub ruled : count_alike block.head earlier < RULES_MAX → (notes : List Note) → noted_block here budgets block.lines ≡ Ok notes
      → block_ruling basin blocks earlier budgets block ≡ at_place (length block.lines) (within_limits (budget_noted notes block.lines)) (λ b. Ok b)
  ruled below notes noted_block_is = ap measured (few below) ∙ by (befores here 0 (before [] []) block.lines) noted_block_is
    where
      by : (found : Result (List Before) Misplaced) → then_do found (λ bs. Ok (notes_of here budgets bs block.lines)) ≡ Ok notes
          → measured found ≡ at_place (length block.lines) (within_limits (budget_noted notes block.lines)) (λ b. Ok b)
      by (Ok befores_there) then_do_is =
          let same : notes_of here budgets befores_there block.lines ≡ notes =
          same_ok (notes_of here budgets befores_there block.lines) notes then_do_is in
          ap (λ b. at_place (length block.lines) (within_limits b) (λ b. Ok b))
          (sym (budget_is here budgets befores_there block.lines) ∙ ap (λ ns. budget_noted ns block.lines) same)
      by (Err other) then_do_is = absurd (cc then_do_is)

-- one block more is judged
pub ruling_on : (basin : Draft) (blocks : List Block) (place : ℕ) (block : Block) (budgets new : List Budget) (its_budget : Budget)
    → place < length blocks → block ≡ get_or blocks place block → block_ruling basin blocks (take place blocks) budgets block ≡ Ok its_budget
    → new ≡ budgets ++ its_budget ∷ []
    → ruling basin blocks ≡ each_block (block_ruling basin blocks) (take place blocks) budgets (drop place blocks)
    → ruling basin blocks ≡ each_block (block_ruling basin blocks) (take (place + 1) blocks) new (drop (place + 1) blocks)
ruling_on basin blocks place block budgets new its_budget within got judged new_is so_far =
    let left = drop (place + 1) blocks in
    let next = dropped_to blocks place block (slice_get-get_or blocks place block within ∙ ap (λ b. Some b) (sym got)) in
    let taken = take_more blocks place block within ∙ ap (λ b. take place blocks ++ b ∷ []) (sym got) in
    so_far ∙ ap (each_block (block_ruling basin blocks) (take place blocks) budgets) next
    ∙ ap (λ r. in_block (suc (length (take place blocks))) r
    (λ b. each_block (block_ruling basin blocks) (take place blocks ++ block ∷ []) (budgets ++ b ∷ []) left)) judged
    ∙ ap₂ (λ earlier done. each_block (block_ruling basin blocks) earlier done left) (sym taken) (sym new_is)
