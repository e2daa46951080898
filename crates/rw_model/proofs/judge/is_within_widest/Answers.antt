use Rattle.std.proofs.lemmas.Bool.Decides.{same_from_decides}
use Rattle.rw_model.specs.Objects.{slot_at}
use Rattle.rw_model.specs.Build.{is_allowed}
use Rattle.rw_model.proofs.Inside.{widest-iff}
use Rattle.rw_model.proofs.BuildFacts.{Decides-allowed}
use Rattle.rw_model.proofs.judge.is_within_widest.Goals as goal

pub returns : goal.returns
returns c = same_from_decides c.allows.result (is_allowed (slot_at c.args.objects.now c.args.slot) c.args.bounds)
    (widest-iff (slot_at c.args.objects.now c.args.slot) c.slot.result c.args.bounds c.allows.result c.slot.ensures c.allows.ensures)
    (Decides-allowed (slot_at c.args.objects.now c.args.slot) c.args.bounds)
