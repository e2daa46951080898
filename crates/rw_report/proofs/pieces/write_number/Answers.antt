use Rattle.std.proofs.Common.{◌≡◌, ◌+◌, ◌-◌, ◌≤◌, ◌++◌, ap, drop, arith, rules, to_z-of_z}
use Rattle.std.proofs.lemmas.Fmt.{length-decimal-le}
use Rattle.std.proofs.lemmas.List.{drop-set}
use Rattle.itoa.proofs.Decimal.{minus_first, IsAscii-signed_decimal}
use Rattle.rw_report.proofs.pieces.write_number.Goals as goal

pub write_digits-start-requires : goal.write_digits-start-requires
write_digits-start-requires c = (
  omega (
    arith,
    length-decimal-le 19 c.unsigned_abs.result (omega arith) (omega arith) (omega arith),
    c.requires.room.0,
    c.requires.room.1,
  ),
  search rules,
)

pub overflow_sub-buffer : goal.overflow_sub-buffer
overflow_sub-buffer c = omega (
  arith,
  length-decimal-le 19 c.unsigned_abs.result (omega arith) (omega arith) (omega arith),
  c.requires.room.0,
  c.requires.room.1,
)

pub overflow_sub-result : goal.overflow_sub-result
overflow_sub-result c = omega (
  arith,
  length-decimal-le 19 c.unsigned_abs.result (omega arith) (omega arith) (omega arith),
  c.requires.room.0,
  c.requires.room.1,
)

pub returns-then-number-ge0-clause-ascii : goal.returns-then-number-ge0-clause-ascii
returns-then-number-ge0-clause-ascii c = IsAscii-signed_decimal c.args.number c.ranges.number

pub returns-clause-ascii : goal.returns-clause-ascii
returns-clause-ascii c = IsAscii-signed_decimal c.args.number c.ranges.number

pub returns-clause-start : goal.returns-clause-start
returns-clause-start c =
    let long = length-decimal-le 19 c.unsigned_abs.result (omega arith) (omega arith) (omega arith) in (omega (arith, long), omega (arith, long))

pub returns-then-number-ge0-clause-start : goal.returns-then-number-ge0-clause-start
returns-then-number-ge0-clause-start c =
    let long = length-decimal-le 19 c.unsigned_abs.result (omega arith) (omega arith) (omega arith) in (omega (arith, long), omega (arith, long))

pub returns-clause-written : goal.returns-clause-written
returns-clause-written c =
    let w = c.write_digits-start in
    let long = length-decimal-le 19 c.unsigned_abs.result (omega arith) (omega arith) (omega arith) in
    let e : w.result - 1 + 1 ≡ w.result = omega (arith, long, c.requires.room.0, c.requires.room.1) in
    let back = to_z-of_z c.ranges.number in
    rw (
      drop-set w.new.buf (w.result - 1) 45 (omega (arith, long, c.requires.room.0, c.requires.room.1)),
      e,
      w.ensures.written,
      c.unsigned_abs.ensures.value,
      back,
    )
    (ap (λ t. t ++ drop c.args.end c.args.buffer.now) (minus_first c.args.number (rw back at c.if-number-ge0.false)))
