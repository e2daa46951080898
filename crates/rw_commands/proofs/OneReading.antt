-- What is read of a text is one thing.
use Rattle.std.specs.Prelude.{ℤ, Option}
use Rattle.rw_commands.proofs.Common.{Bool, Declared, Err, InputRefusal, IsReading, List, Ok, Reads, Refuses, ap, false, policy_status, refl, sym, true, ℕ}
use Rattle.rw_commands.proofs.Common.{◌∙◌, ◌≡◌}
use Rattle.rpl_parse.proofs.CutFacts.{one_reading_holds}
use Rattle.rpl_types.specs.Judged.{rules_judged}
use Rattle.rw_model.specs.Draft.{Draft}
use Rattle.rw_inputs.specs.Inputs.{Inputs, value_at}
use Rattle.rpl_code.specs.declared.block.Block.{Block}
use Rattle.rpl_tree.specs.Budget.{Budget}
use Rattle.rpl_verify.specs.Budget.{ruling}
use Rattle.rw_commands.specs.Policy.{BadCode, Unread, Misfit, PolicyFile, Ruleset, Code, PolicyRefusal, BadRules, BadBlocks, RulesRefusal, BadGrammar}
use Rattle.rw_commands.specs.Policy.{BadNode, IsCodeOf, IsPolicyFileOf, IsRulesetOf, RefusesCode, RefusesRules, RefusesText}

-- inputs that are refused aren't read
pub refuses_clash : (basin : Draft) (text : List ℕ) (inputs : Inputs) (why : InputRefusal)
    → Reads basin text inputs → Refuses basin text why → ⊥
refuses_clash basin text inputs why h k = let read = h.values in cc

-- and what is read is one thing: the same value for each cell
pub same_values : (basin : Draft) (text : List ℕ) (inputs others : Inputs) → Reads basin text inputs
    → Reads basin text others → (slot step : ℕ) → value_at inputs slot step ≡ value_at others slot step
same_values basin text inputs others h k slot step =
    let both : Ok (value_at inputs) ≡ Ok (value_at others) = sym h.values ∙ k.values in
    let same : value_at inputs ≡ value_at others = cc in
    ap (λ (value : ℕ → ℕ → Option ℤ). value slot step) same

-- a text spells one ruleset
pub one_ruleset : (text : List ℕ) (rules others : List Declared) → IsReading text (Ok rules) → IsReading text (Ok others) → rules ≡ others
one_ruleset text rules others h k =
    let same = one_reading_holds text (Ok rules) (Ok others) h k in cc

-- rules that are refused aren't accepted
rules_clash : (basin : Draft) (text : List ℕ) (rules : List Declared) (why : RulesRefusal)
    → IsRulesetOf basin text rules → RefusesRules basin text why → ⊥
rules_clash basin text rules (BadGrammar why) h k = let same = one_reading_holds text (Ok rules) (Err why) h.spells k in cc
rules_clash basin text rules (BadNode why) h k =
    let same = one_ruleset text rules k.rules h.spells k.spells in
    let both : Ok h.types ≡ Err why = sym h.typed ∙ ap (rules_judged basin) same ∙ k.refused in cc

-- nor is code
code_clash : (basin : Draft) (text : List ℕ) (blocks : List Block) (budgets : List Budget) (why : BadCode)
    → IsCodeOf basin text blocks budgets → RefusesCode basin text why → ⊥
code_clash basin text blocks budgets (Unread why) h k = let both : Ok blocks ≡ Err why = sym h.spells ∙ k in cc
code_clash basin text blocks budgets (Misfit why) h k =
    let read : Ok blocks ≡ Ok k.blocks = sym h.spells ∙ k.spells in
    let same : blocks ≡ k.blocks = cc in
    let both : Ok budgets ≡ Err why = sym h.accepted ∙ ap (ruling basin) same ∙ k.refused in cc

-- a text is read as a ruleset or as code
pub one_kind : (as_code : Bool) → as_code ≡ true → as_code ≡ false → ⊥
one_kind as_code h k = let both : true ≡ false = sym h ∙ k in cc

pub policy_clash : (as_code : Bool) (basin : Draft) (text : List ℕ) (policy : PolicyFile) (why : PolicyRefusal)
    → IsPolicyFileOf as_code basin text policy → RefusesText as_code basin text why → ⊥
policy_clash as_code basin text (Ruleset rules) (BadRules why) h k = rules_clash basin text rules why h.1 k.1
policy_clash as_code basin text (Ruleset rules) (BadBlocks why) h k = one_kind as_code k.0 h.0
policy_clash as_code basin text (Code blocks budgets) (BadRules why) h k = one_kind as_code h.0 k.0
policy_clash as_code basin text (Code blocks budgets) (BadBlocks why) h k = code_clash basin text blocks budgets why h.1 k.1

-- what is refused of it brings one status
pub one_policy_status : (as_code : Bool) (basin others : Draft) (text : List ℕ) (a b : PolicyRefusal)
    → RefusesText as_code basin text a → RefusesText as_code others text b → policy_status a ≡ policy_status b
one_policy_status as_code basin others text (BadRules why) (BadRules other) h k = refl
one_policy_status as_code basin others text (BadRules why) (BadBlocks other) h k = absurd (one_kind as_code k.0 h.0)
one_policy_status as_code basin others text (BadBlocks why) (BadRules other) h k = absurd (one_kind as_code h.0 k.0)
one_policy_status as_code basin others text (BadBlocks why) (BadBlocks other) h k = refl
