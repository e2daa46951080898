use Rattle.rw_engine.proofs.Common.{seen, sym, ◌∙◌}
use Rattle.rw_engine.proofs.Records.{if_ok, record_or_not, told_some, untold_none}
use Rattle.rw_engine.proofs.state.State.last_kept.Goals as goal

pub returns-then-count-eq0-clause-noted : goal.returns-then-count-eq0-clause-noted
returns-then-count-eq0-clause-noted c = λ basin step old events has is.
    absurd (told_some step events c.args.self.now.lines has.lines_are (sym c.len-count.ensures ∙ c.if-count-eq0.true))

pub returns-clause-noted : goal.returns-clause-noted
returns-clause-noted c = λ basin step old events has is.
    if_ok c.of.result (λ kept. record_or_not basin step old events (seen c.args.self.now) kept has is) c.of.ensures.kept

pub returns-clause-untold : goal.returns-clause-untold
returns-clause-untold c = λ none. absurd (c.if-count-eq0.false (c.len-count.ensures ∙ untold_none c.args.self.now.lines none))
