use Rattle.rw_record.proofs.Common.{arith, held, length, nat_tests, true, ◌≡◌}
use Rattle.rw_record.proofs.Adding.{none_reached}
use Rattle.rw_record.proofs.noted.Noted.note_reached.Goals as goal

pub returns-then-is_empty : goal.returns-then-is_empty
returns-then-is_empty c =
    let is : c.is_empty.result ≡ true = c.if-is_empty.true in
    let none : length c.args.writes.now ≡ 0 = grind (arith, nat_tests, is, c.is_empty.ensures) in
    none_reached c.args.basin.now (held c.args.series.now) c.args.writes.now c.args.self.now none
