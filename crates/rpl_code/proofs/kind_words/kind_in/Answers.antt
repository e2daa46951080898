use Rattle.std.proofs.Common.{sym, subst}
use Rattle.rpl_code.specs.Answers.{Says}
use Rattle.rpl_code.proofs.WordsTried.{kind_cut}
use Rattle.rpl_code.proofs.kind_words.kind_in.Goals as goal

pub returns-in-Some : goal.returns-in-Some
returns-in-Some c =
    subst (λ meant. Says meant c.list_kind.result)
    (sym (kind_cut c.args.word.now c.in-Some.letter.now c.in-Some.digits.now c.in-Some.ensures.parts)) c.list_kind.ensures
