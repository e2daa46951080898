use Rattle.std.proofs.Common.{ap, ap₂, arith, length, string_bytes, take, ◌-◌, ◌∙◌, ◌≡◌}
use Rattle.std.proofs.lemmas.List.{length-append, take-append-le, take_all}
use Rattle.rw_report.proofs.kept.cut_last.Goals as goal

pub returns : goal.returns
returns c = λ front is.
    let line = string_bytes c.args.line.now.text in
    let many = c.args.text.now.ok.0 in
    let long = c.len.ensures in
    let short = ap length c.as_bytes.ensures.value in
    let both = ap length is ∙ length-append front line in
    let rest : c.len.result - length c.as_bytes.result.now ≡ length front = omega (arith, many, long, short, both) in
    c.truncate.ensures.items
    ∙ ap₂ take rest is
    ∙ take-append-le (length front) front line (omega arith)
    ∙ take_all (length front) front (omega arith)
