use Rattle.std.proofs.Common.{◌≡◌, ◌∷◌, ◌∙◌, ap, arith}
use Rattle.std.proofs.lemmas.Str.Ascii.{IsAscii-cons}
use Rattle.rw_report.proofs.flags.write_next.Goals as goal

pub returns-clause-written : goal.returns-clause-written
returns-clause-written c = c.write_byte.ensures.written ∙ ap (λ t. 44 ∷ t) c.write_held-start.ensures.written

pub returns-clause-ascii : goal.returns-clause-ascii
returns-clause-ascii c = IsAscii-cons 44 _ (omega arith) c.write_held-start.ensures.ascii
