-- The seed of a sample, as a word spells it.
use Rattle.std.specs.Prelude.{ℕ, Option, option_and_then}
use Rattle.rw_base.specs.Digit.{read_digits, within_64_bits}
use Rattle.rw_words.specs.Job.{Text}
use Rattle.rw_words.specs.declared.seed.TheConstants.{DIGITS_MAX}

-- the seed that a text of 1 to 20 digits spells, if it spells one of at most 2^64 - 1
abbrev pub seed_of_text : Text → Option ℕ
seed_of_text text = option_and_then within_64_bits (read_digits DIGITS_MAX text)
