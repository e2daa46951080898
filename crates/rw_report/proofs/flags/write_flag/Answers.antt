use Rattle.std.proofs.Common.{◌≡◌, ◌++◌, ◌∷◌, ◌∙◌, ap, subst, drop, decimal}
use Rattle.std.specs.Str.{IsAscii}
use Rattle.std.proofs.lemmas.Str.Ascii.{IsAscii-cons}
use Rattle.rw_report.proofs.flags.write_flag.Goals as goal

pub returns-clause-written : goal.returns-clause-written
returns-clause-written c =
    let n = c.write_count-start in
    let letter = c.letter_of in
    c.write_byte.ensures.written ∙ ap (λ t. letter.result ∷ t) n.ensures.written
    ∙ ap (λ l. (l ++ decimal c.args.content.number) ++ drop c.args.end c.args.buffer.now) letter.ensures.letter

pub returns-clause-ascii : goal.returns-clause-ascii
returns-clause-ascii c =
    let letter = c.letter_of in
    subst (λ l. IsAscii (l ++ decimal c.args.content.number)) letter.ensures.letter
    (IsAscii-cons letter.result _ letter.ensures.ascii c.write_count-start.ensures.ascii)
