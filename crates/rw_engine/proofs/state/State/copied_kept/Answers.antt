use Rattle.rw_engine.proofs.Common.{Some, rules, seen, subst, sym, ap, ◌∙◌, ◌≡◌}
use Rattle.std.specs.Prelude.{MatchOption}
use Rattle.rw_record.specs.Noted.{noted_in}
use Rattle.rw_record.specs.Record.{IsLarge, IsRecordOf}
use Rattle.rw_run.specs.Trace.{lines_in}
use Rattle.rw_engine.proofs.Records.{if_ok, record_or_not, told_some, untold_none}
use Rattle.rw_engine.proofs.state.State.copied_kept.Goals as goal

pub returns-then-count-eq0-clause-noted : goal.returns-then-count-eq0-clause-noted
returns-then-count-eq0-clause-noted c = λ basin step old events has is.
    absurd (told_some step events c.args.self.now.lines has.lines_are (sym c.len-count.ensures ∙ c.if-count-eq0.true))

pub returns-clause-noted : goal.returns-clause-noted
returns-clause-noted c = λ basin step old events has is.
    let state = c.args.self.now in
    let copied : c.append.new.self ≡ Some (lines_in state.lines) = search rules in
    if_ok c.of.result
    (λ kept made. record_or_not basin step old events (seen state) kept has is
    (subst (λ lines. MatchOption kept (IsLarge (noted_in state.noted) lines) (IsRecordOf state.run.closed (noted_in state.noted) lines))
    (ap lines_in copied) made))
    c.of.ensures.kept

pub returns-clause-untold : goal.returns-clause-untold
returns-clause-untold c = λ none. absurd (c.if-count-eq0.false (c.len-count.ensures ∙ untold_none c.args.self.now.lines none))
