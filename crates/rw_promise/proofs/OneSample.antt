-- A seed has one line.
use Rattle.rw_commands.proofs.Common.{List, Ok, Reads, ap, length, subst, sym, ℕ, ℤ, ◌∙◌, ◌≡◌}
use Rattle.rw_base.specs.declared.number.Cell.{Cell}
use Rattle.rw_inputs.specs.Placings.{placings}
use Rattle.rw_model.proofs.Common.{Draft, all_slots}
use Rattle.rw_report.specs.Outcome.{outcome_by}
use Rattle.rw_run.proofs.Common.{IsRun, Log, Policy}
use Rattle.rw_sample.specs.Line.{sample_line}
use Rattle.rw_sample.specs.Texts.{sample_inputs, sample_rules}
use Rattle.rw_commands.proofs.OneReading.{one_ruleset, same_values}
use Rattle.rw_promise.proofs.OneText.{same_to}
use Rattle.rw_commands.specs.Policy.{Ruleset}
use Rattle.rw_commands.specs.RunText.{IsSampleOf, IsSampleText, policy_in_run}

pub one_sample : ((basin : Draft) (policy : Policy) (inputs : List (Cell × ℤ)) (log other : Log) → IsRun basin policy inputs log
    → IsRun basin policy inputs other → log ≡ other)
    → (seed : ℕ) (text other : List ℕ) → IsSampleOf seed text → IsSampleOf seed other → text ≡ other
one_sample one_run seed text other a b =
    let basin = b.basin in
    let policy : Policy = policy_in_run basin (Ruleset b.rules) in
    let both : Ok a.basin ≡ Ok basin = sym a.model ∙ b.model in
    let same : a.basin ≡ basin = cc in
    let rules = one_ruleset sample_rules a.rules b.rules a.spelt.spells b.spelt.spells in
    let reads : Reads basin (sample_inputs seed) a.inputs = subst (λ d. Reads d (sample_inputs seed) a.inputs) same a.given in
    let values = same_values basin (sample_inputs seed) a.inputs b.inputs reads b.given in
    let line : IsSampleText basin (Ruleset b.rules) a.inputs seed text =
    subst (λ rs. IsSampleText basin (Ruleset rs) a.inputs seed text) rules
    (subst (λ d. IsSampleText d (Ruleset a.rules) a.inputs seed text) same a.line) in
    let given = same_to a.inputs b.inputs values (length (all_slots basin.objects)) basin.control.stamps.count in
    let log =
    one_run basin policy (placings basin b.inputs) line.log b.line.log (subst (λ xs. IsRun basin policy xs line.log) given line.run) b.line.run in
    line.text_is ∙ ap (λ (l : Log). sample_line basin seed (outcome_by basin l)) log ∙ sym b.line.text_is
