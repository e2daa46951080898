use Rattle.std.proofs.Common.{◌≡◌, ◌≤◌, ◌+◌, ◌++◌, ◌∙◌, ap, drop, arith, decimal, length, rules}
use Rattle.std.proofs.lemmas.Fmt.{length-decimal-le, IsAscii-decimal}
use Rattle.rw_report.proofs.pieces.write_count.Goals as goal

pub write_digits-requires : goal.write_digits-requires
write_digits-requires c =
    let same : c.from.result ≡ c.args.count = omega (arith, c.from.ensures) in
    let long : length (decimal c.from.result) ≤ 5 =
    length-decimal-le 5 c.from.result (omega arith) (omega (arith, same, c.ranges.count)) (omega (arith, same, c.ranges.count)) in
    (omega (arith, long, c.requires.room.0), omega (arith, c.requires.room.1, c.told-buffer))

pub returns-clause-start : goal.returns-clause-start
returns-clause-start c =
    let same : c.from.result ≡ c.args.count = omega (arith, c.from.ensures) in
    let long : length (decimal c.from.result) ≤ 5 =
    length-decimal-le 5 c.from.result (omega arith) (omega (arith, same, c.ranges.count)) (omega (arith, same, c.ranges.count)) in
    let at = c.write_digits.ensures.start in (omega (arith, at), omega (arith, at, long))

pub returns-clause-written : goal.returns-clause-written
returns-clause-written c =
    let same : c.from.result ≡ c.args.count = omega (arith, c.from.ensures) in
    c.write_digits.ensures.written ∙ ap (λ n. decimal n ++ drop c.args.end c.args.buffer.now) same

pub returns-clause-ascii : goal.returns-clause-ascii
returns-clause-ascii c = IsAscii-decimal c.args.count (omega (arith, c.ranges.count))
