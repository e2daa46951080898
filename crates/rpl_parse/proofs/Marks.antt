-- Marks that are the same.
use Rattle.std.proofs.Common.{◌≡◌, true, refl}
use denote.Enum.Bare.{same_true, true_same}
use Rattle.rpl_parse.specs.contracts.token.Mark.{the_type}
use Rattle.rpl_parse.specs.declared.token.Mark.{Mark}
use Rattle.rpl_parse.specs.Tokens.{same}

pub same_mark : (a_mark other_mark : Mark) → same a_mark other_mark ≡ true → a_mark ≡ other_mark
same_mark a_mark other_mark alike = same_true the_type tt a_mark other_mark alike

pub same_self : (a_mark : Mark) → same a_mark a_mark ≡ true
same_self a_mark = true_same the_type a_mark a_mark refl
