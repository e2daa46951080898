-- The program is a command of which `clap` tells all.
use Rattle.rw_base.proofs.Common.{◌≡◌, true, refl}
use Rattle.clap.specs.Words.{is_simple, is_simple_and_free}
use Rattle.clap.proofs.OnLiterals.{clap_on_literals}
use Rattle.rw_words.specs.Program.{program}

pub simple : is_simple program ≡ true
unfolding clap_on_literals
simple = refl

pub free : is_simple_and_free program ≡ true
unfolding clap_on_literals
free = refl
