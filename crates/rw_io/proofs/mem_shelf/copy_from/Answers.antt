use Rattle.rw_base.proofs.Common.{common_steps, ◌-◌, length, drop, arith}
use Rattle.rw_io.proofs.ListLemmas.{copied}
use Rattle.rw_io.proofs.mem_shelf.copy_from.Goals as goal

pub returns-clause-copied : goal.returns-clause-copied
returns-clause-copied c =
    copied c.args.at c.min-count.result (length c.args.bytes.now - c.args.at) c.args.bytes.now c.copy_from_slice.new.self
    (drop c.min-count.result c.args.buf.now)
    (c.copy_from_slice.ensures.after) (omega arith) (grind (arith, common_steps))
