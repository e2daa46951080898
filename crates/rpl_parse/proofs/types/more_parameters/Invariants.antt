use Rattle.std.proofs.Common.{◌≡◌, ◌-◌, length, map}
use Rattle.rpl_tree.specs.Seen.{parameter_of}
use Rattle.rpl_parse.specs.ReadingDeclared.{more_parameters, params_read}
use Rattle.rpl_parse.specs.Tokens.{toks}
use Rattle.rpl_parse.proofs.types.more_parameters.Given as goal

abbrev pub invariant-loop-turn : goal.invariant-loop-turn
invariant-loop-turn l =
    more_parameters (length l.tokens - l._turn) (params_read (map parameter_of l.params.items) (toks l.text l.rest))
    ≡ more_parameters (length l.tokens) (params_read (map parameter_of l.fn.first.items) (toks l.text l.tokens))
