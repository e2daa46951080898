use Rattle.rw_record.proofs.Common.{append-nil, cells_reached, cells_with, held, rules, ◌≡◌}
use Rattle.std.specs.Prelude.{Err}
use Rattle.rw_record.proofs.Adding.{reached_sum, stopped, turned}
use Rattle.rw_record.proofs.noted.Noted.note_writes.Goals as goal

pub returns-in_err-note_group : goal.returns-in_err-note_group
returns-in_err-note_group c =
    let basin = c.args.basin.now in
    let next = cells_with basin c.write-item.result.cell in
    let err : c.from_residual.result ≡ Err c.in_err-note_group.field-0.0 = search rules in
    stopped (cells_reached basin) (reached_sum basin) (held c.args.series.now) c.args.writes.now c.loop-write.write-index c.write-item.result
    c.loop-write-test.true
    c.write-item.is next (append-nil next) c.args.self.now c.loop-write.self c.note_group.new.self c.loop-write.invariant c.from_residual.result
    c.in_err-note_group.field-0.0 err c.in_err-note_group.ensures

pub loop-write-preserved : goal.loop-write-preserved
loop-write-preserved c =
    let basin = c.args.basin.now in
    let next = cells_with basin c.write-item.result.cell in
    turned (cells_reached basin) (reached_sum basin) (held c.args.series.now) c.args.writes.now c.loop-write.write-index c.write-item.result
    c.loop-write-test.true
    c.write-item.is next (append-nil next) c.args.self.now c.loop-write.self c.note_group.new.self c.loop-write.invariant c.in_ok-note_group.ensures
