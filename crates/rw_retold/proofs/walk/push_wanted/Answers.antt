use Rattle.rw_base.proofs.Common.{OnOk, string_bytes, subst, sym, ◌++◌, ◌≡◌}
use Rattle.rw_series.specs.Series.{held}
use Rattle.rw_asked.specs.Asked.{AreToSlots, fates_of, lines_of_asks}
use Rattle.rw_asked.specs.Words.{asked_lines_words}
use Rattle.rw_retold.proofs.walk.push_wanted.Goals as goal

pub push_fired-requires : goal.push_fired-requires
push_fired-requires c = subst (λ basin. AreToSlots basin c.args.puts.now) (sym c.requires.teller) c.requires.slots

pub returns : goal.returns
returns c =
    subst (λ basin. OnOk c.push_fired.result
    (string_bytes c.push_fired.new.text
    ≡ string_bytes c.args.text.now ++ asked_lines_words basin (lines_of_asks (fates_of basin (held c.args.series.now) c.args.puts.now))))
    c.requires.teller c.push_fired.ensures
