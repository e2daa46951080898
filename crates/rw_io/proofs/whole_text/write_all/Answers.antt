use Rattle.rw_base.proofs.Common.{◌-◌, ◌≤◌, length, drop, arith, take_all, common_steps}
use Rattle.std.proofs.lemmas.List.{length-drop}
use Rattle.rw_io.proofs.KnownLemmas.{GrowsBy-next}
use Rattle.rw_io.proofs.whole_text.write_all.Goals as goal

pub loop-done-preserved : goal.loop-done-preserved
loop-done-preserved g c =
    let rest = drop c.loop-done.done c.args.text.now in
    let room = length c.args.text.now - c.loop-done.done in
    let short : length rest ≤ room = omega (arith, length-drop c.loop-done.done c.args.text.now) in (
      grind (arith, common_steps),
      GrowsBy-next _ _ _ _ _ _ c.loop-done.invariant.1 (rw (take_all room rest short) at c.in-Ok.ensures.bytes),
      omega (arith, c.write.ensures.later),
    )
