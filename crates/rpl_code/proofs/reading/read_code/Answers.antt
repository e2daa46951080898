use Rattle.std.proofs.Common.{arith, sym}
use Rattle.rpl_code.proofs.CodeBack.{read_back}
use Rattle.rpl_code.proofs.ReadingLeft.{reads_on, reads_bad, reads_all}
use Rattle.rpl_code.proofs.reading.read_code.Goals as goal

pub returns-in-Err : goal.returns-in-Err
returns-in-Err c = c.fault_at.ensures _
    (λ bad. reads_bad c.loop-line.code.items c.loop-line.progress c.loop-line.number c.loop-line.left.now c.in-Some.line.now c.in-Some.rest.now _
    c.in-Some.ensures.parts (c.in-Err.ensures.bad bad) c.loop-line.invariant.left)

pub loop-line-preserved : goal.loop-line-preserved
loop-line-preserved c = record {
  left = reads_on c.loop-line.code.items c.loop-line.progress c.loop-line.number c.loop-line.left.now c.in-Some.line.now c.in-Some.rest.now
      c.take_line.new.code.items c.in-Ok.next _ c.in-Some.ensures.parts c.in-Ok.ensures.taken c.loop-line.invariant.left;
  lines = omega (arith, c.loop-line.invariant.lines, c.in-Some.ensures.less);
}

pub of-requires : goal.of-requires
of-requires c =
    let read = reads_all c.loop-line.code.items c.loop-line.progress c.loop-line.number c.loop-line.left.now _ c.in_default.ensures.parts
    (sym c.if-is_whole.ensures) c.loop-line.invariant.left in
    (read_back c.args.text.now c.loop-line.code.items c.requires read).code
