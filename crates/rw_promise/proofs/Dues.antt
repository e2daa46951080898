-- What has to be refused of a call that keeps its promise, in terms of what its shelf tells.
use Rattle.rw_commands.proofs.Common.{AcceptsAll, AskForCommand, BadEdits, BadInputs, BadModel, BadPolicy, BadScenarios, Call, Change, Command, HoldsTooLong}
use Rattle.rw_commands.proofs.Common.{IfSome, InputRefusal, IsHonest, IsSome, List, LongFile, ModelRefusal, None, Option, Promise, RefusesInputs}
use Rattle.rw_commands.proofs.Common.{RefusesModel, RefusesPolicy, Rose, ShelfView, Some, arith, order, path_of, ℕ, ◌≡◌, ◌≤◌, ◌⊎◌}
use Rattle.rw_commands.specs.declared.refusal.File.{File}
use Rattle.rw_commands.specs.Reading.{LacksCell, RefusesEdits, RefusesScenarios}
use Rattle.rw_promise.specs.Told.{AreTold}
use Rattle.rw_commands.specs.declared.refusal.File.TheVariants.{Model}
use Rattle.rw_commands.specs.Policy.{BadCode, RulesRefusal, BadRules, BadBlocks}

-- a path that is told and had no fault
abbrev IsGood : Change ShelfView → List ℕ → Type 0
IsGood shelf path = IsSome (shelf.before.holds path) × ¬ Rose (shelf.before.faults path) (shelf.after.faults path)

honest_at : (shelf : Change ShelfView) (o : Option (List ℕ)) → IfSome o (IsGood shelf) → IfSome o (IsHonest shelf)
honest_at shelf None good = tt
honest_at shelf (Some path) good = record { told = good.0; stands = good.1 }

-- the last file is the fifth
at_most_4 : (file : File) → order file ≤ 4
at_most_4 Model = omega arith
at_most_4 file = omega arith

module _ (call : Call) (status : ℕ) (command : Command) where
  honest : (upto : ℕ) → AreTold command call.shelf upto → (file : File) → order file ≤ upto → IfSome (path_of command file) (IsHonest call.shelf)
  honest upto told file least = honest_at call.shelf (path_of command file) (told file least)

  pub of_model : (why : ModelRefusal) → Promise call status → AskForCommand call.words command
      → RefusesModel command call.shelf.before.holds why → AreTold command call.shelf 0 → (status ≡ 6) ⊎ (status ≡ 5)
  of_model why promise asks found good = promise.due command asks (BadModel why) found (honest 0 good)

  pub of_rules : (why : RulesRefusal) → Promise call status → AskForCommand call.words command
      → RefusesPolicy command call.shelf.before.holds (BadRules why) → AreTold command call.shelf 1 → (status ≡ 7) ⊎ (status ≡ 5)
  of_rules why promise asks found good = promise.due command asks (BadPolicy (BadRules why)) found (honest 1 good)

  pub of_code : (why : BadCode) → Promise call status → AskForCommand call.words command
      → RefusesPolicy command call.shelf.before.holds (BadBlocks why) → AreTold command call.shelf 1 → (status ≡ 9) ⊎ (status ≡ 5)
  of_code why promise asks found good = promise.due command asks (BadPolicy (BadBlocks why)) found (honest 1 good)

  pub of_inputs : (why : InputRefusal) → Promise call status → AskForCommand call.words command
      → RefusesInputs command call.shelf.before.holds why → AreTold command call.shelf 2 → (status ≡ 8) ⊎ (status ≡ 5)
  of_inputs why promise asks found good = promise.due command asks (BadInputs why) found (honest 2 good)

  pub of_edits : (why : InputRefusal) → Promise call status → AskForCommand call.words command
      → RefusesEdits command call.shelf.before.holds why → AreTold command call.shelf 3 → (status ≡ 8) ⊎ (status ≡ 5)
  of_edits why promise asks found good = promise.due command asks (BadEdits why) found (honest 3 good)

  pub of_scenarios : (why : InputRefusal) → Promise call status → AskForCommand call.words command
      → RefusesScenarios command call.shelf.before.holds why → AreTold command call.shelf 4 → (status ≡ 8) ⊎ (status ≡ 5)
  of_scenarios why promise asks found good = promise.due command asks (BadScenarios why) found (honest 4 good)

  pub of_long : (file : File) → Promise call status → AskForCommand call.words command
      → HoldsTooLong command call.shelf.before.holds file → AreTold command call.shelf (order file) → (status ≡ 10) ⊎ (status ≡ 5)
  of_long file promise asks found good = promise.due command asks (LongFile file) found (honest (order file) good)

  pub of_cell : Promise call status → AskForCommand call.words command → LacksCell command call.shelf.before.holds
      → AreTold command call.shelf 4 → (status ≡ 8) ⊎ (status ≡ 5)
  of_cell promise asks lacks good = promise.cell command asks lacks (λ file. honest 4 good file (at_most_4 file))

  pub of_none : Promise call status → AskForCommand call.words command → AcceptsAll command call.shelf.before.holds
      → ¬ LacksCell command call.shelf.before.holds → AreTold command call.shelf 4 → ¬ Rose call.out.before.faults call.out.after.faults
      → (status ≤ 1) ⊎ (status ≡ 5)
  of_none promise asks accepted there good calm =
      promise.complete command asks accepted there
      (record { honest = λ file. honest 4 good file (at_most_4 file); stands = calm })
