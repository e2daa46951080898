use Rattle.rw_base.proofs.Common.{◌++◌, ◌≡◌, drop, map, option_map}
use Rattle.clap.specs.Words.{found_of, rows_of}
use Rattle.rw_words.specs.Command.{paths_in}
use Rattle.rw_words.proofs.command.paths_in.Given as goal

abbrev pub invariant-loop-name : goal.invariant-loop-name
invariant-loop-name l =
    option_map (λ rest. map (λ path. path.now) l.paths.items ++ rest)
    (paths_in (rows_of (found_of l.found)) (map (λ name. name.now) (drop l.name-index l.names)))
    ≡ paths_in (rows_of (found_of l.found)) (map (λ name. name.now) l.names)
