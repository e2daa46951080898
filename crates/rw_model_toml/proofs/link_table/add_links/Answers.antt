use Rattle.std.proofs.Common.{◌∙◌, codes}
use Rattle.rw_model_toml.specs.Told.{link_read}
use Rattle.rw_model_toml.proofs.Lists.{turn-next, turn-fails, gives-fault}
use Rattle.rw_model_toml.proofs.link_table.add_links.Goals as goal

pub returns-in_err-read_link : goal.returns-in_err-read_link
returns-in_err-read_link c =
    gives-fault _ c.from_residual-in_err-read_link.result _ c.in_err-read_link.field-0.0 c.from_residual-in_err-read_link.ensures.1
    (turn-fails link_read (codes "link") c.args.items.now c.loop-place.place c.index-items-place.result c.as_str.result.now c.loop-place.builder _
    c.in_err-read_link.field-0.0
    c.loop-place-test.true c.index-items-place.is (c.as_str.ensures.value ∙ c.in_ok-at.ensures) c.in_err-read_link.ensures c.loop-place.invariant)

pub loop-place-preserved : goal.loop-place-preserved
loop-place-preserved c =
    turn-next link_read (codes "link") c.args.items.now c.loop-place.place c.index-items-place.result c.as_str.result.now c.loop-place.builder
    c.read_link.new.builder _
    c.loop-place-test.true c.index-items-place.is (c.as_str.ensures.value ∙ c.in_ok-at.ensures) c.in_ok-read_link.ensures c.loop-place.invariant
