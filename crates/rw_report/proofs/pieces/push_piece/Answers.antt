use Rattle.std.proofs.Common.{◌≡◌, ◌-◌, ◌++◌, ◌∙◌, ap, drop, string_bytes, arith, take_all, length-drop}
use Rattle.std.proofs.lemmas.Str.{IsUtf8-from_ascii}
use Rattle.rw_report.proofs.pieces.push_piece.Goals as goal

pub from_utf8_unchecked-requires : goal.from_utf8_unchecked-requires
from_utf8_unchecked-requires c =
    IsUtf8-from_ascii _ (rw (take_all (672 - c.args.start) (drop c.args.start c.args.buffer.now)
    (omega (arith, length-drop c.args.start c.args.buffer.now, c.told-buffer))) c.requires.ascii)

pub returns : goal.returns
returns c =
    let all = take_all (672 - c.args.start) (drop c.args.start c.args.buffer.now)
    (omega (arith, length-drop c.args.start c.args.buffer.now, c.told-buffer)) in
    c.in_ok-push_str.ensures.bytes ∙ ap (λ t. string_bytes c.args.text.now ++ t) (c.from_utf8_unchecked.ensures ∙ all)
