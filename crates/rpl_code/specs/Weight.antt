-- How much room values take.
use Rattle.std.specs.Prelude.{ℕ, ◌+◌}
use Rattle.rpl_code.specs.declared.kind.ValueKind.{ValueKind}
use Rattle.rpl_code.specs.declared.kind.ValueKind.TheVariants.{NList, SList}

-- in words: one, and for a list one more than its greatest length
abbrev pub words_of : ValueKind → ℕ
words_of (NList most) = most + 1
words_of (SList most) = most + 1
words_of _ = 1
