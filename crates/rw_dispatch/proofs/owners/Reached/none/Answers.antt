use Rattle.rw_base.proofs.Common.{refl}
use Rattle.rw_dispatch.proofs.Owning.{none-reached}
use Rattle.rw_dispatch.proofs.owners.Reached.none.Goals as goal

pub returns : goal.returns
returns c but = none-reached but _ refl
