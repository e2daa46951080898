use Rattle.rpl_verify.specs.Fits.{behind_instruction}
use Rattle.rpl_verify.specs.Steps.{scope_in}
use Rattle.rpl_verify.proofs.JudgeFacts.{goes_at}
use Rattle.rpl_verify.proofs.judge.act_at.Goals as goal

pub returns-in-Err : goal.returns-in-Err
returns-in-Err c = λ basin number head.
    let scope = scope_in basin c.args.blocks.now number head c.args.locals.now c.args.walk.now.spots in
    goes_at (Unit {0}) (Unit {0}) c.args.place (behind_instruction scope c.args.place c.args.walk.now.before c.args.instruction.now) c.args.walk.now
    c.act.new.walk c.in-Err.fault c.placed_at.result c.placed_at.ensures (c.in-Err.ensures basin number head)
