use Rattle.rw_base.proofs.Common.{◌+◌, ◌∙◌, drop, slice_get, string_bytes, subst, sym}
use Rattle.rw_report.proofs.Adding.{put_at}
use Rattle.rw_report.proofs.Growing.{here}
use Rattle.rw_run.specs.declared.trace.TraceEvent.TheVariants.{Written}
use Rattle.rw_run.specs.Trace.{lines_in}
use Rattle.rw_rules.specs.Rules.{policy_in}
use Rattle.rw_retold.specs.Walk.{IsWalkedTo}
use Rattle.rw_retold.proofs.Walking.{write_goes}
use Rattle.rw_retold.proofs.retelling.tell_at.Goals as goal

pub returns-in-Some-clause-goes : goal.returns-in-Some-clause-goes
returns-in-Some-clause-goes g c = λ log whole stands.
    let basin = c.args.setup.now.basin.now in
    let policy = policy_in basin c.args.setup.now.policy.now in
    let walk = c.args.walk.now in
    let text = string_bytes c.args.text.now in
    let lines = lines_in c.args.trace.now in
    let place = c.args.place in
    let write = c.in-Some.write in
    write_goes basin policy write (drop (place + 1) lines) log whole walk c.write.new.self text c.write.ensures.step c.write.ensures.cells
    (subst (λ these. IsWalkedTo basin policy these log whole walk text)
    (here lines place (Written write.cell.slot write.cell.step write.content)
    (put_at (slice_get lines place) write (sym c.written.ensures ∙ c.in-Some.is))) stands)

pub returns-in-None-clause-goes : goal.returns-in-None-clause-goes
returns-in-None-clause-goes g c = λ log whole stands.
    let basin = c.args.setup.now.basin.now in
    let policy = policy_in basin c.args.setup.now.policy.now in
    let lines = lines_in c.args.trace.now in
    let place = c.args.place in
    c.tell_line.ensures.goes (drop (place + 1) lines) log whole
    (subst (λ these. IsWalkedTo basin policy these log whole c.args.walk.now (string_bytes c.args.text.now))
    (here lines place c.line_at.result c.line_at.ensures) stands)
