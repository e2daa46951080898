use Rattle.rw_commands.proofs.Common.{ap, subst, sym, ◌∙◌}
use Rattle.std.specs.Prelude.{is_some}
use Rattle.rw_report.specs.Sheet.{AreToldBefore, AreToldOf}
use Rattle.rw_series.specs.Series.{held}
use Rattle.rw_commands.proofs.RulesText.{of_basin}
use Rattle.rw_commands.proofs.SameValues.{run_cells, told_alike, told_before_alike}
use Rattle.rw_commands.proofs.SessionSections.{next_section}
use Rattle.rw_commands.proofs.reused.tell_run.Goals as goal

pub tell-requires-clause-closed : goal.tell-requires-clause-closed
tell-requires-clause-closed g c =
    rw c.requires.can.own (c.run-run.ensures.told c.args.session.now.setup.basin.now c.args.session.now.setup.policy.now c.requires.can.made).0

pub tell-requires-clause-same : goal.tell-requires-clause-same
tell-requires-clause-same g c =
    let basin = c.args.session.now.setup.basin.now in
    let code = c.args.session.now.setup.policy.now in
    let state = c.args.session.now.state in
    let run = c.run-run.result.now in
    let values = c.args.sheet.now.values in
    let cells = run_cells basin code state run c.requires.can.made (c.run-run.ensures.run basin code c.requires.can.made) in
    subst (λ same. AreToldBefore c.args.sheet.now.basin (held run.series) same values) (sym c.same-same.ensures)
    (subst (λ own. AreToldBefore own (held run.series) state.same values) (sym c.requires.can.own)
    (told_before_alike basin (held state.engine.series) (held run.series) state.same values (λ cell. sym (cells cell)) c.requires.can.same))

pub returns-clause-values : goal.returns-clause-values
returns-clause-values g c =
    let basin = c.args.session.now.setup.basin.now in
    let code = c.args.session.now.setup.policy.now in
    let state = c.args.session.now.state in
    let run = c.run-run.result.now in
    let values = c.tell.new.self.values in
    let cells = run_cells basin code state run c.requires.can.made (c.run-run.ensures.run basin code c.requires.can.made) in
    told_alike basin (held run.series) (held state.engine.series) values cells
    (subst (λ own. AreToldOf own (held run.series) values) c.requires.can.own c.in_ok-tell.ensures.values)

pub returns-clause-text : goal.returns-clause-text
returns-clause-text g c = λ policy given means next.
    let basin = c.args.session.now.setup.basin.now in
    let code = c.args.session.now.setup.policy.now in
    next_section basin policy code means c.texts_of_runs.ensures.whole c.args.extras c.args.number given c.args.session.now.state
    c.run-run.result.now _
    _ c.requires.can.reuse (c.run-run.ensures.run basin code c.requires.can.made)
    (λ asked. ap is_some (c.run-run.ensures.told basin code c.requires.can.made).1 ∙ c.requires.can.traced ∙ asked) next
    c.told-reran.ensures
    (of_basin c.args.sheet.now.basin basin c.args.number c.run-run.result.now _ c.args.extras _ c.requires.can.own c.in_ok-tell.ensures.text)
