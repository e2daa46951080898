-- Worked tokens are read as their trees, or aren't read.
use Rattle.std.proofs.Common.{[], refl}
use Rattle.rpl_tree.specs.Tree.{Declared}
use Rattle.rpl_parse.specs.Grammar.{Spells}
use Rattle.rpl_parse.specs.Statements.{IsDeclaration}
use Rattle.rpl_parse.specs.Reading.{got, read_tree, level, chain, steps}
use Rattle.rpl_parse.specs.ReadingActs.{read_acts, more_acts}
use Rattle.rpl_parse.specs.Worked.{differences, from_the_left, logical, or_last, levels, tighter_right, chain_tokens, tighter_left, setting, set_to}
use Rattle.rpl_parse.specs.Worked.{comparisons}
use Rattle.rpl_parse.proofs.Sound.{sound}
use Rattle.rpl_parse.proofs.Both.{declared_sound, no_declaration}

pub chain_row : Spells from_the_left differences []
unfolding read_tree level chain steps
chain_row = let read_soundly = sound 100 7 differences (got from_the_left 3 []) refl in read_soundly.spells

pub logic_row : Spells or_last logical []
unfolding read_tree level chain steps
logic_row = let read_soundly = sound 100 7 logical (got or_last 4 []) refl in read_soundly.spells

pub right_row : Spells tighter_right levels []
unfolding read_tree level chain steps
right_row = let read_soundly = sound 100 7 levels (got tighter_right 8 []) refl in read_soundly.spells

pub left_row : Spells tighter_left chain_tokens []
unfolding read_tree level chain steps
left_row = let read_soundly = sound 100 7 chain_tokens (got tighter_left 8 []) refl in read_soundly.spells

pub set_row : IsDeclaration (setting differences) (set_to from_the_left)
unfolding read_tree level chain steps read_acts more_acts
set_row = declared_sound (setting differences) (set_to from_the_left) refl

pub twice_row : (declaration : Declared) → IsDeclaration (setting comparisons) declaration → ⊥
unfolding read_tree level chain steps read_acts more_acts
twice_row declaration is_declaration = no_declaration (setting comparisons) refl declaration is_declaration
