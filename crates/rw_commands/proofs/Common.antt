-- The names that proofs cite, passed on from one place. Declares nothing.
pub use Rattle.rpl_parse.specs.Declarations.{IsReading}
pub use Rattle.rpl_tree.specs.Tree.{Declared, function, rule}
pub use Rattle.rpl_types.specs.Checked.{Checked, checked, declaration_from, declaration_of_rule, with_types}
pub use Rattle.rw_base.proofs.Common.{Bool, Err, IfOk, IfSome, IsSome, IsSomeAnd, List, MatchBool, MatchResult, None, Ok, Option, Result, Some, []}
pub use Rattle.rw_base.proofs.Common.{ap, ap₂, arith, cases_lt, codes, common_steps, false, get_or, if◌then◌else◌, inl, inr, length, nat_tests}
pub use Rattle.rw_base.proofs.Common.{option_map, refl, rules, slice_index_or, string_bytes, subst, suc, sym, take_all, true, zero, ℕ, ℤ, ◌++◌, ◌+◌}
pub use Rattle.rw_base.proofs.Common.{◌-◌, ◌<◌, ◌==◌, ◌↔◌, ◌∙◌, ◌∷◌, ◌≡◌, ◌≢◌, ◌≤◌, ◌⊎◌}
pub use Rattle.rw_inputs.specs.Reading.{Reads, Refuses}
pub use Rattle.rw_inputs.specs.Refusal.{InputRefusal}
pub use Rattle.rw_io.proofs.KnownLemmas.{GrowsBy-trans, PrefixGrew-left, PrefixGrew-right}
pub use Rattle.rw_io.specs.Causes.{NoneFell, Rose}
pub use Rattle.rw_io.specs.Known.{GrowsBy, PrefixGrew}
pub use Rattle.rw_io.specs.Outside.{Change, Holds, ShelfView, SinkView, change}
pub use Rattle.rw_io.specs.declared.whole_file.TheConstants.{FILE_MAX}
pub use Rattle.rw_model_toml.specs.Model.{model_of}
pub use Rattle.rw_model_toml.specs.Refusal.{ModelRefusal}
pub use Rattle.rw_report.specs.Section.{for_each, section_of, values_in}
pub use Rattle.rw_run.specs.declared.run.RunEnd.TheVariants.{Fault, Settled}
pub use Rattle.rw_run.specs.declared.run.RunEnd.{RunEnd}
pub use Rattle.rw_series.specs.Series.{Series, held}
pub use Rattle.rw_commands.specs.Budgets.{counts_line, functions_in, line_if, rule_line, rules_in}
pub use Rattle.rw_commands.specs.Call.{Call}
pub use Rattle.rw_commands.specs.Command.{AskForCommand, AskNothing, AskOne, ReadsFile, command_said, files_of, order, path_of, place_among, simulation_of}
pub use Rattle.rw_commands.specs.Command.{takes_code}
pub use Rattle.rw_words.specs.Command.{Command}
pub use Rattle.rw_commands.specs.Promise.{Promise, RefusedCommand, RefusedWords, WasRefused, Wrote, WroteCheck, WroteCode, WroteRun}
pub use Rattle.rw_commands.specs.Reading.{Accepts, AcceptsAll, AreRead, FilesRead, HoldsTooLong, IsHonest, IsHonestOfAll, IsHonestUpTo, IsTextAt}
pub use Rattle.rw_commands.specs.Reading.{IsTooLong, Reaches, ReadsInputs, ReadsModel, ReadsPolicy, RefusesInputs, RefusesModel, RefusesPolicy, SaysAt}
pub use Rattle.rw_commands.specs.Reading.{WasRead, reads_code}
pub use Rattle.rw_commands.specs.Reason.{BadEdits, BadInputs, BadModel, BadPolicy, BadScenarios, IsFoundReason, IsHonestFor, LongFile, Reason, file_of, policy_status}
pub use Rattle.rw_commands.specs.Reason.{status_by}
pub use Rattle.rw_commands.specs.Refusal.{Cause, EndsWith, FailsToRead, FileCause, FindsTooLong, IsPolicyRefusal, WasFound, reason_of, refusal_after}
pub use Rattle.rw_commands.specs.Refusal.{status_of}
pub use Rattle.rw_commands.specs.RunText.{IsRunText, told_section}
pub use Rattle.rw_commands.specs.Seen.{files_seen, policy_of}
pub use Rattle.rw_commands.specs.Written.{IsTextOf, TellsLine, WritesAll, WritesFront, status_of_end}
pub use Rattle.rw_words.specs.declared.job.Job.{Job}
pub use Rattle.rw_commands.specs.declared.refusal.File.{File}
pub use Rattle.rw_commands.specs.declared.refusal.Refusal.{Refusal}
pub use Rattle.std.proofs.Common.{All, IsErrOf, drop}
