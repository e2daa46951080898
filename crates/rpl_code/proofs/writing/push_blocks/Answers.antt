use Rattle.rw_base.proofs.Common.{arith, ◌≡◌, ◌∷◌, ◌+◌, drop, string_bytes, common_steps}
use Rattle.rpl_code.proofs.Growing.{block_more}
use Rattle.rpl_code.proofs.writing.push_blocks.Goals as goal

pub loop-block-preserved : goal.loop-block-preserved
loop-block-preserved c =
    let at = c.loop-block.block-index in
    let step : drop at c.args.blocks.now ≡ c.block-item.result ∷ drop (at + 1) c.args.blocks.now = grind (arith, common_steps, c.block-item.is) in
    block_more c.args.blocks.now at c.block-item.result (string_bytes c.loop-block.text) (string_bytes c.push_block.new.text) _ step
    c.loop-block.invariant c.in_ok-push_block.ensures
