use Rattle.std.proofs.Common.{◌++◌, ◌∙◌, ap, string_bytes}
use Rattle.rw_report.proofs.lines.push_put.Goals as goal

pub returns : goal.returns
returns c = c.in_ok-push_piece.ensures ∙ ap (λ t. string_bytes c.args.text.now ++ t) c.write_put-start.ensures.written
