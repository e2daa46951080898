use Rattle.std.proofs.Common.{◌≡◌, ◌++◌, ◌∷◌, ◌∙◌, [], ap, arith, codes, decimal, drop, subst, sym}
use Rattle.std.specs.Str.{IsAscii}
use Rattle.std.proofs.lemmas.List.{drop_all}
use Rattle.std.proofs.lemmas.Str.{IsAscii-append}
use Rattle.std.proofs.lemmas.Str.Ascii.{IsAscii-cons, IsAscii-nil}
use Rattle.rw_report.specs.Flags.{content_words}
use Rattle.rw_report.proofs.lines.write_put.Goals as goal

pub returns-clause-written : goal.returns-clause-written
returns-clause-written c =
    let none = drop_all 672 c.args.buffer.now (omega (arith, c.told-buffer)) in
    c.write_count.ensures.written
    ∙ ap (λ t. decimal c.args.step.0 ++ t) (c.write_byte-between.ensures.written
    ∙ ap (λ t. 32 ∷ t) (c.write_content-held.ensures.written
    ∙ ap (λ t. content_words c.args.content ++ t) (c.write_byte-end.ensures.written ∙ ap (λ t. 10 ∷ t) none)))

pub returns-clause-ascii : goal.returns-clause-ascii
returns-clause-ascii c =
    let none = drop_all 672 c.args.buffer.now (omega (arith, c.told-buffer)) in
    let words = content_words c.args.content in
    let is = c.write_count.ensures.written
    ∙ ap (λ t. decimal c.args.step.0 ++ t) (c.write_byte-between.ensures.written
    ∙ ap (λ t. 32 ∷ t) (c.write_content-held.ensures.written
    ∙ ap (λ t. words ++ t) (c.write_byte-end.ensures.written ∙ ap (λ t. 10 ∷ t) none))) in
    subst IsAscii (sym is) (IsAscii-append (decimal c.args.step.0) (32 ∷ (words ++ 10 ∷ [])) c.write_count.ensures.ascii
    (IsAscii-cons 32 (words ++ 10 ∷ []) (omega arith)
    (IsAscii-append words (10 ∷ []) c.write_content-held.ensures.ascii (IsAscii-cons 10 [] (omega arith) IsAscii-nil))))
