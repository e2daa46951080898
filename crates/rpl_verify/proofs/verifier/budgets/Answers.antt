use Rattle.rw_base.proofs.Common.{[], ◌∷◌, Some, map, take, sym, ap, ◌∙◌, map-append, slice_get-get_or}
use Rattle.rw_base.proofs.Lists.{dropped_to}
use Rattle.rpl_verify.specs.Notes.{numbers_seen}
use Rattle.rpl_verify.specs.Budget.{block_ruling}
use Rattle.rpl_verify.proofs.BlockRuled.{ruling_on}
use Rattle.rpl_verify.proofs.Joined.{codes_on}
use Rattle.rpl_verify.proofs.verifier.budgets.Goals as goal

pub loop-place-preserved : goal.loop-place-preserved
loop-place-preserved c =
    let l = c.loop-place in
    let basin = c.args.basin.now in
    let blocks = c.args.blocks.now in
    let block = c.index-blocks-place.result in
    let judged = c.in-Ok.judged in
    let codes =
    codes_on (λ block. block.items) basin blocks l.joined.items c.push-in-Ok.new.self.items judged.joined block l.place
    (dropped_to blocks l.place block
    (slice_get-get_or blocks l.place block c.loop-place-test.true ∙ ap (λ b. Some b) (sym c.index-blocks-place.is)))
    (l.invariant.1, l.invariant.2) c.in-Ok.ensures.joined c.in_ok-push-in-Ok-2.ensures.items in (
      ruling_on basin blocks l.place block (map numbers_seen l.budgets.items) (map numbers_seen c.push.new.self.items) (numbers_seen judged.budget)
          c.loop-place-test.true c.index-blocks-place.is
          (ap (λ bs. block_ruling basin blocks (take l.place blocks) (map numbers_seen bs) block) (sym c.deref-in-loop-place.ensures.value)
          ∙ c.in-Ok.ensures.budget)
          (ap (map numbers_seen) c.in_ok-push-in-Ok.ensures.items ∙ map-append numbers_seen l.budgets.items (judged.budget ∷ [])) l.invariant.0,
      codes.0,
      codes.1,
    )
