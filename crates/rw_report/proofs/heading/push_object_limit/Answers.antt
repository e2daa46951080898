use Rattle.rw_base.proofs.Common.{◌++◌, string_bytes, ap, ◌∙◌, codes, decimal}
use Rattle.rw_report.proofs.heading.push_object_limit.Goals as goal

pub returns : goal.returns
returns c =
    c.in_ok-write.ensures.bytes
    ∙ ap (λ name. string_bytes c.args.text.now
    ++ (codes "limit object " ++ (name ++ (codes " step " ++ (decimal c.args.step.0 ++ (codes " after " ++ decimal c.args.count))))))
    c.object_words-object.ensures
