use Rattle.rw_base.proofs.Common.{◌≡◌, drop, false, map}
use Rattle.clap.specs.Words.{app_of}
use Rattle.clap.specs.declared.builder.command.Command.TheViews.{out-Command}
use Rattle.rw_words.specs.Program.{required_word, with_rules}
use Rattle.rw_words.proofs.program.with_words.Given as goal

abbrev pub invariant-loop-name : goal.invariant-loop-name
invariant-loop-name l =
    (with_rules (app_of l.told) (map required_word (map (λ name. name.now) (drop l.name-index l.names)))
    ≡ with_rules (app_of l.fn.command) (map required_word (map (λ name. name.now) l.names)))
    × ((out-Command l.told).has_globals ≡ false)
