use Rattle.rw_base.proofs.Common.{OnOk, codes, string_bytes, subst, ◌++◌, ◌≡◌}
use Rattle.rw_report.specs.Lines.{line_words}
use Rattle.rw_retold.proofs.walk.push_plain.Goals as goal

pub returns : goal.returns
returns c =
    subst (λ basin. OnOk c.push_line.result
    (string_bytes c.push_line.new.text ≡ string_bytes c.args.text.now ++ (line_words basin c.args.line ++ codes "\n")))
    c.requires c.push_line.ensures
