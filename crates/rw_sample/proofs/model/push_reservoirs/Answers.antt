use Rattle.std.proofs.Common.{string_bytes}
use Rattle.rw_report.proofs.Growing.{next}
use Rattle.rw_sample.specs.Texts.{reservoir_words}
use Rattle.rw_sample.proofs.model.push_reservoirs.Goals as goal

pub loop-before-preserved : goal.loop-before-preserved
loop-before-preserved c =
    next reservoir_words c.loop-before.before (string_bytes c.args.text.now) (string_bytes c.loop-before.text)
    (string_bytes c.push_reservoir.new.text)
    c.loop-before.invariant c.in_ok-push_reservoir.ensures
