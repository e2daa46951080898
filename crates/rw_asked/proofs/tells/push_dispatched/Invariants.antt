use Rattle.rw_base.proofs.Common.{◌≡◌, ◌++◌, drop, string_bytes}
use Rattle.rw_series.specs.Series.{held}
use Rattle.rw_asked.specs.Asked.{fates_alone, lines_of_asks}
use Rattle.rw_asked.specs.Words.{asked_lines_words}
use Rattle.rw_asked.proofs.tells.push_dispatched.Given as goal

-- what is there and the lines of the puts that are left are the whole
abbrev pub invariant-loop-place : goal.invariant-loop-place
invariant-loop-place l =
    string_bytes l.text ++ asked_lines_words l.teller (lines_of_asks (fates_alone (held l.series) (drop l.place l.puts)))
    ≡ string_bytes l.fn.text ++ asked_lines_words l.teller (lines_of_asks (fates_alone (held l.series) l.puts))
