-- Within the crate: what was read, in the definitions' terms.
use Rattle.std.specs.Prelude.{option_map}
use Rattle.rpl_tree.specs.Seen.{rules_of}
use Rattle.rw_commands.specs.declared.policy.Policy.{Policy as Held}
use Rattle.rw_commands.specs.declared.files.Files.{Files as Read}
use Rattle.rw_commands.specs.Policy.{PolicyFile, Ruleset, Code}
use Rattle.rw_commands.specs.Reading.{FilesRead}

abbrev pub policy_of : Held → PolicyFile
policy_of (Held.Ruleset typed) = Ruleset (rules_of typed.rules)
policy_of (Held.Code code) = Code code.blocks code.budgets

abbrev pub files_seen : Read → FilesRead
files_seen read = record { basin = read.basin; policy = option_map policy_of read.policy; inputs = read.inputs; edits = option_map (λ batches. batches.items) read.edits; scenarios = option_map (λ batches. batches.items) read.scenarios; cell = read.cell; text = option_map (λ bytes. bytes.items) read.text }
