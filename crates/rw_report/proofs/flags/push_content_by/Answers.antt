use Rattle.std.proofs.Common.{◌≡◌, ◌++◌, ◌∙◌, [], ap, append-nil, arith, drop, string_bytes, subst, sym}
use Rattle.std.specs.Str.{IsAscii}
use Rattle.std.proofs.lemmas.List.{drop_all}
use Rattle.rw_report.specs.Flags.{content_words}
use Rattle.rw_report.proofs.flags.push_content_by.Goals as goal

pub push_piece-requires-clause-ascii : goal.push_piece-requires-clause-ascii
push_piece-requires-clause-ascii c =
    let w = c.write_content-start in
    let is = w.ensures.written ∙ ap (λ t. content_words c.args.content ++ t) (drop_all 672 c.args.buffer.now (omega (arith, c.told-buffer)))
    ∙ append-nil _ in
    subst IsAscii (sym is) w.ensures.ascii

pub returns : goal.returns
returns c =
    let w = c.write_content-start in
    let is = w.ensures.written ∙ ap (λ t. content_words c.args.content ++ t) (drop_all 672 c.args.buffer.now (omega (arith, c.told-buffer)))
    ∙ append-nil _ in
    c.in_ok-push_piece.ensures ∙ ap (λ t. string_bytes c.args.text.now ++ t) is
