use Rattle.rw_base.proofs.Common.{◌++◌, string_bytes, ap, ◌∙◌, to_z-of_z, codes, decimal, signed_decimal}
use Rattle.rw_report.proofs.heading.push_rule_value.Goals as goal

pub returns : goal.returns
returns c =
    c.in_ok-write.ensures.bytes
    ∙ ap (λ value. string_bytes c.args.text.now
    ++ (codes "out of range rule " ++ (decimal c.args.rule.0
    ++ (codes " step " ++ (decimal c.args.step.0 ++ (codes " value " ++ signed_decimal value))))))
    (to_z-of_z _ c.args.value c.ranges.value)
