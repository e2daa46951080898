-- The statuses of a call that asks for the sample: nothing of it is refused.
use Rattle.rw_commands.proofs.Common.{AskForCommand, BadEdits, BadInputs, BadModel, BadPolicy, BadScenarios, Call, Command, Declared, Err}
use Rattle.rw_commands.proofs.Common.{FailsToRead, Holds, InputRefusal, IsReading, IsSomeAnd, List, LongFile, ModelRefusal, None, Ok, Promise}
use Rattle.rw_commands.proofs.Common.{Reason, Result, Some, WasFound, WasRefused, WritesAll, [], ap, arith, checked, false, inl, inr, model_of}
use Rattle.rw_commands.proofs.Common.{path_of, refl, status_of, subst, suc, sym, with_types, zero, ℕ, ◌∙◌, ◌≡◌, ◌⊎◌}
use Rattle.std.specs.Prelude.{IsTrue, is_ok, true}
use Rattle.rw_inputs.specs.Reading.{inputs_of}
use Rattle.rw_model.specs.Draft.{Draft}
use Rattle.rw_sample.specs.Texts.{sample_inputs, sample_model, sample_rules}
use Rattle.rw_promise.specs.Cascade.{sample_basin}
use Rattle.rw_promise.specs.Inflows.{inflow_at}
use Rattle.rw_promise.specs.Ruleset.{sample_ruleset}
use Rattle.rpl_types.specs.Judged.{TypeRefusal, rules_judged}
use Rattle.rpl_types.specs.Nodes.{Types}
use Rattle.rw_commands.proofs.OneReading.{policy_clash}
use Rattle.rw_commands.proofs.SampleText.{model_of_sample}
use Rattle.rw_commands.specs.Reading.{LacksCell}
use Rattle.rw_commands.specs.Policy.{IsRulesetOf, PolicyRefusal, RefusesText, Ruleset}
use Rattle.rw_commands.specs.declared.refusal.File.{File}
use Rattle.rw_commands.specs.declared.refusal.File.TheVariants.{Model, Policy as PolicyFile, Inputs, Edits, Traces}
use Rattle.rw_commands.specs.declared.refusal.Refusal.{Refusal}
use Rattle.rw_commands.specs.declared.refusal.Refusal.TheVariants.{Words, CannotRead, CannotWrite, NoMemory, NoCell}
use Rattle.rw_words.specs.Plain.{plain_command}
use Rattle.rw_words.specs.declared.job.Job.TheVariants.{Sample}

-- what is judged to be good has types
typed_by : (rules : List Declared) (judged : Result (List Types) TypeRefusal) → IsTrue (is_ok (with_types rules judged))
    → (types : List Types) × (judged ≡ Ok types)
typed_by rules (Ok types) good = (types, refl)
typed_by rules (Err why) good = absurd cc

-- the sample reads no file
no_path : (seed : ℕ) (file : File) → path_of (plain_command (Sample seed) []) file ≡ None
no_path seed Model = refl
no_path seed PolicyFile = refl
no_path seed Inputs = refl
no_path seed Edits = refl
no_path seed Traces = refl

nowhere : (P : List ℕ → Type 0) (seed : ℕ) (file : File) → IsSomeAnd (path_of (plain_command (Sample seed) []) file) P → ⊥
nowhere P seed file there = subst (λ o. IsSomeAnd o P) (no_path seed file) there

module _ (model : model_of sample_model ≡ Ok sample_basin)
    (inputs : (seed : ℕ) → inputs_of sample_basin (sample_inputs seed) ≡ Ok (inflow_at 1 seed 365))
    (read : IsReading sample_rules (Ok sample_ruleset)) (types : IsTrue (is_ok (checked sample_basin sample_ruleset)))
    (call : Call) (seed : ℕ) (asked : AskForCommand call.words (plain_command (Sample seed) [])) where
  abbrev sample : Command
  sample = plain_command (Sample seed) []

  abbrev holds : Holds
  holds = call.shelf.before.holds

  accepted : IsRulesetOf sample_basin sample_rules sample_ruleset
  accepted =
      let typed = typed_by sample_ruleset (rules_judged sample_basin sample_ruleset) types in
      record { spells = read; types = typed.0; typed = typed.1 }

  -- its basin
  is_basin : (basin : Draft) → model_of sample_model ≡ Ok basin → basin ≡ sample_basin
  is_basin basin is = let both : Ok basin ≡ Ok sample_basin = sym is ∙ model in cc

  -- none of its texts is refused
  good_model : (text : List ℕ) → text ≡ sample_model → (why : ModelRefusal) → model_of text ≡ Err why → ⊥
  good_model text made why is = let both : Ok sample_basin ≡ Err why = sym model ∙ ap model_of (sym made) ∙ is in cc

  good_rules : (basin : Draft) (text : List ℕ) (why : PolicyRefusal) → basin ≡ sample_basin → text ≡ sample_rules
      → RefusesText false basin text why → ⊥
  good_rules basin text why same made is =
      policy_clash false sample_basin sample_rules (Ruleset sample_ruleset) why (refl, accepted)
      (subst (λ d. RefusesText false d sample_rules why) same (subst (λ t. RefusesText false basin t why) made is))

  good_inputs : (basin : Draft) (text : List ℕ) (why : InputRefusal) → basin ≡ sample_basin → text ≡ sample_inputs seed
      → inputs_of basin text ≡ Err why → ⊥
  good_inputs basin text why same made is =
      let here : inputs_of sample_basin (sample_inputs seed) ≡ Err why =
      subst (λ d. inputs_of d (sample_inputs seed) ≡ Err why) same (subst (λ t. inputs_of basin t ≡ Err why) made is) in
      let both : Ok (inflow_at 1 seed 365) ≡ Err why = sym (inputs seed) ∙ here in cc

  none_found : (reason : Reason) → WasFound sample call.shelf reason → ⊥
  none_found (BadModel why) found = good_model found.text found.read why found.is
  none_found (BadPolicy why) found =
      good_rules found.basin found.text why (is_basin found.basin (model_of_sample sample holds found.basin seed refl found.model))
      found.read found.is
  none_found (BadInputs why) found =
      good_inputs found.basin found.text why (is_basin found.basin (model_of_sample sample holds found.basin seed refl found.model))
      found.read found.are
  none_found (BadEdits why) found = found.read
  none_found (BadScenarios why) found = found.read
  none_found (LongFile file) found = nowhere _ seed file found.holds_too_long.longer

  -- the words ask for nothing else
  is_sample : (command : Command) → AskForCommand call.words command → command ≡ sample
  is_sample command is = let both : Some command ≡ Some sample = sym is ∙ asked in cc

  refused_by : (why : Refusal) → WasRefused call why → (status_of why ≡ 4) ⊎ (status_of why ≡ 5)
  refused_by Words was = let both : None ≡ Some sample = sym was.nothing ∙ asked in absurd cc
  refused_by (CannotRead file) was =
      let failed = subst (λ command. FailsToRead command call.shelf file) (is_sample was.command was.asked) was.cause.0 in
      absurd (nowhere _ seed file failed.rose)
  refused_by CannotWrite was = inl refl
  refused_by NoMemory was = inr refl
  refused_by NoCell was =
      let lacks = subst (λ command. LacksCell command holds) (is_sample was.command was.asked) was.cause.0 in
      let none : false ≡ true = lacks.seeks in absurd cc
  refused_by why was =
      let told = was.cause.0 in
      absurd (none_found told.reason (subst (λ command. WasFound command call.shelf told.reason) (is_sample was.command was.asked) told.found))

  -- and what is written comes with 0
  pub answers : (status : ℕ) → Promise call status → (status ≡ 0) ⊎ (status ≡ 4) ⊎ (status ≡ 5)
  answers zero promise = inl refl
  answers (suc zero) promise =
      let wrote = promise.done (omega arith) in
      let text = subst (λ command. WritesAll command holds call.out 1) (is_sample wrote.command wrote.asked) wrote.text in
      let none : 1 ≡ 0 = text.2.is.0 in absurd (omega (arith, none))
  answers (suc (suc more)) promise =
      let refused = promise.refused (omega arith) in by refused.0 refused.1 (refused_by refused.0 refused.2)
    where
      by : (why : Refusal) → suc (suc more) ≡ status_of why → (status_of why ≡ 4) ⊎ (status_of why ≡ 5)
          → (suc (suc more) ≡ 0) ⊎ (suc (suc more) ≡ 4) ⊎ (suc (suc more) ≡ 5)
      by why is (inl four) = inr (inl (is ∙ four))
      by why is (inr five) = inr (inr (is ∙ five))
