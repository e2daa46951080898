-- What the text of a policy is found to be, with a basin.
use Rattle.std.specs.Prelude.{◌≡◌, ℕ, ◌==◌, Bool, true, false, ◌||◌, bytes_eq, codes, List, Ok, Err}
use Rattle.std.specs.List.{starts_with}
use Rattle.rw_model.specs.Draft.{Draft}
use Rattle.rpl_tree.specs.Tree.{Declared}
use Rattle.rpl_parse.specs.Declarations.{GrammarRefusal, IsReading}
use Rattle.rpl_types.specs.Judged.{TypeRefusal, rules_judged}
use Rattle.rpl_types.specs.Nodes.{Types}
use Rattle.rpl_code.specs.declared.block.Block.{Block}
use Rattle.rpl_code.specs.Reading.{CodeRefusal, read}
use Rattle.rpl_compile.specs.Translate.{translate}
use Rattle.rpl_tree.specs.Budget.{Budget}
use Rattle.rpl_verify.specs.Budget.{AreAccepted, ruling}
use Rattle.rpl_verify.specs.Fits.{Refusal as BlockRefusal}

-- its first line is `CODE 1`
abbrev pub is_code : List ℕ → Bool
is_code text = bytes_eq text (codes "CODE 1") || starts_with (λ a b. a == b) text (codes "CODE 1\n")

-- ---- rulesets

-- why it is no ruleset for the basin: it spells none, or what is wrong at which node of a declaration
pub data RulesRefusal : Type 0 where
  BadGrammar : GrammarRefusal → RulesRefusal
  BadNode : TypeRefusal → RulesRefusal

-- the text spells these rules, and they are accepted
pub record IsRulesetOf (basin : Draft) (text : List ℕ) (rules : List Declared) : Type 0 where
  pub spells : IsReading text (Ok rules)
  pub types : List Types
  pub typed : rules_judged basin rules ≡ Ok types

-- the text spells rules that are refused
pub record RefusesNode (basin : Draft) (text : List ℕ) (why : TypeRefusal) : Type 0 where
  pub rules : List Declared
  pub spells : IsReading text (Ok rules)
  pub refused : rules_judged basin rules ≡ Err why

-- the text is refused for this
abbrev pub RefusesRules : Draft → List ℕ → RulesRefusal → Type 0
RefusesRules basin text (BadGrammar why) = IsReading text (Err why)
RefusesRules basin text (BadNode why) = RefusesNode basin text why

-- ---- code

-- why it is no code for the basin: it can't be read, or what is wrong at which place of a block
pub data BadCode : Type 0 where
  Unread : CodeRefusal → BadCode
  Misfit : BlockRefusal → BadCode

-- the text is that of these blocks, which are accepted, with the budget of each
pub record IsCodeOf (basin : Draft) (text : List ℕ) (blocks : List Block) (budgets : List Budget) : Type 0 where
  pub spells : read text ≡ Ok blocks
  pub accepted : AreAccepted basin blocks budgets

-- the text is that of code that is refused
pub record RefusesBlock (basin : Draft) (text : List ℕ) (why : BlockRefusal) : Type 0 where
  pub blocks : List Block
  pub spells : read text ≡ Ok blocks
  pub refused : ruling basin blocks ≡ Err why

abbrev pub RefusesCode : Draft → List ℕ → BadCode → Type 0
RefusesCode basin text (Unread why) = read text ≡ Err why
RefusesCode basin text (Misfit why) = RefusesBlock basin text why

-- ---- policies

-- a ruleset, or blocks of code with the budget of each
pub data PolicyFile : Type 0 where
  Ruleset : List Declared → PolicyFile
  Code : List Block → List Budget → PolicyFile

pub data PolicyRefusal : Type 0 where
  BadRules : RulesRefusal → PolicyRefusal
  BadBlocks : BadCode → PolicyRefusal

-- the text, which is read as code or as a ruleset, is that of this policy, which is accepted
abbrev pub IsPolicyFileOf : Bool → Draft → List ℕ → PolicyFile → Type 0
IsPolicyFileOf as_code basin text (Ruleset rules) = (as_code ≡ false) × IsRulesetOf basin text rules
IsPolicyFileOf as_code basin text (Code blocks budgets) = (as_code ≡ true) × IsCodeOf basin text blocks budgets

-- the text, which is read so, is refused for this
abbrev pub RefusesText : Bool → Draft → List ℕ → PolicyRefusal → Type 0
RefusesText as_code basin text (BadRules why) = (as_code ≡ false) × RefusesRules basin text why
RefusesText as_code basin text (BadBlocks why) = (as_code ≡ true) × RefusesCode basin text why

-- its code: that of the ruleset, or the code itself
abbrev pub code_in_file : PolicyFile → List Block
code_in_file (Ruleset rules) = translate rules
code_in_file (Code blocks budgets) = blocks
