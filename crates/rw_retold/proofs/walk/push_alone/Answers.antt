use Rattle.rw_base.proofs.Common.{OnOk, string_bytes, subst, ◌++◌, ◌≡◌}
use Rattle.rw_series.specs.Series.{held}
use Rattle.rw_asked.specs.Asked.{fates_alone, lines_of_asks}
use Rattle.rw_asked.specs.Words.{asked_lines_words}
use Rattle.rw_retold.proofs.walk.push_alone.Goals as goal

pub returns : goal.returns
returns c =
    let asks = lines_of_asks (fates_alone (held c.args.series.now) c.args.puts.now) in
    subst (λ basin. OnOk c.push_dispatched.result
    (string_bytes c.push_dispatched.new.text ≡ string_bytes c.args.text.now ++ asked_lines_words basin asks))
    c.requires c.push_dispatched.ensures
