-- The text of `check`.
use Rattle.std.specs.Prelude.{ℕ, List, [], ◌++◌, codes, Option, Some, None, option_and_then}
use Rattle.std.specs.Fmt.{decimal}
use Rattle.rw_model.specs.Objects.{numbered}
use Rattle.rpl_tree.specs.Budget.{Budget}
use Rattle.rpl_tree.specs.Bounds.{function_count, rule_count}
use Rattle.rw_report.specs.Section.{for_each}
use Rattle.rpl_types.specs.Checked.{rule_budget}
use Rattle.rpl_code.specs.declared.block.BlockHead.TheVariants as Head
use Rattle.rpl_verify.specs.Fits.{count_alike}
use Rattle.rpl_verify.specs.Machine.{rule_from}
use Rattle.rpl_verify.specs.Verified.{function_head}
use Rattle.rw_commands.specs.Policy.{PolicyFile, Ruleset, Code}

-- how many rules and functions a policy has
abbrev pub rules_in : PolicyFile → ℕ
rules_in (Ruleset rules) = rule_count rules
rules_in (Code blocks budgets) = count_alike Head.Rule blocks

abbrev pub functions_in : PolicyFile → ℕ
functions_in (Ruleset rules) = function_count rules
functions_in (Code blocks budgets) = count_alike function_head blocks

-- the budgets of its rule of this number
abbrev pub budget_in : PolicyFile → ℕ → Option Budget
budget_in (Ruleset rules) rule = rule_budget rules rule
budget_in (Code blocks budgets) rule = option_and_then (numbered budgets) (rule_from 1 blocks rule)

-- how many rules and functions there are
abbrev pub counts_line : ℕ → ℕ → List ℕ
counts_line rules functions =
    codes "ok " ++ (decimal rules ++ (codes " rules " ++ (decimal functions ++ codes " functions\n")))

-- the budgets of the rule of this number
abbrev pub budget_line : ℕ → Budget → List ℕ
budget_line rule b =
    codes "rule " ++ (decimal rule ++ (codes " instructions " ++ (decimal b.count ++ (codes " reads " ++ (decimal b.looks
    ++ (codes " puts " ++ (decimal b.puts ++ (codes " words " ++ (decimal b.words ++ codes "\n")))))))))

abbrev pub line_if : ℕ → Option Budget → List ℕ
line_if rule None = []
line_if rule (Some b) = budget_line rule b

abbrev pub rule_line : PolicyFile → ℕ → List ℕ
rule_line policy rule = line_if rule (budget_in policy rule)

abbrev pub check_text : PolicyFile → List ℕ
check_text policy = counts_line (rules_in policy) (functions_in policy) ++ for_each (rule_line policy) (rules_in policy)
