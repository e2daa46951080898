use Rattle.rw_commands.proofs.CauseLemmas.{its_code, refused_code}
use Rattle.rpl_verify.specs.Budget.{ruling}
use Rattle.rw_commands.proofs.judging.judge_code.Goals as goal

pub refusal_of_block-requires : goal.refusal_of_block-requires
refusal_of_block-requires c = λ why tells.
    let basin = c.args.basin.now in
    let blocks = c.in-Ok.code in
    record {
      blocks = blocks;
      spells = c.in-Ok.ensures;
      refused = refused_code basin blocks (ruling basin blocks) why (c.in-Err-verify.ensures.0 why tells);
    }

pub returns-in-Ok-verify : goal.returns-in-Ok-verify
returns-in-Ok-verify c = its_code c.args.basin.now c.args.text.now c.in-Ok.code c.in-Ok-verify.code c.in-Ok.ensures c.in-Ok-verify.ensures
