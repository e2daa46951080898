use Rattle.rw_base.proofs.Common.{ap, string_bytes, to_z-of_z, ◌++◌, ◌∙◌}
use Rattle.rw_sample.specs.Line.{line_with}
use Rattle.rw_sample.proofs.line.push_line.Goals as goal

pub returns : goal.returns
returns c =
    c.in_ok-writeln.ensures.bytes
    ∙ ap (λ storage. string_bytes c.args.text.now ++ line_with c.args.seed c.args.word.now c.args.dispatches c.args.firings storage)
    (to_z-of_z _ c.args.storage c.ranges.storage)
