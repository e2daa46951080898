-- What a firing did, by what is lent of it.
use Rattle.rw_base.proofs.Common.{Option, Some, ap, sym, ◌∙◌, ◌≡◌}
use Rattle.rw_firing.specs.Fire.{Fire}
use Rattle.rpl_fires.specs.declared.fired.Fired.{Fired}
use Rattle.rpl_fires.specs.Fired.{fire_seen}

-- what is given is what is lent
pub fires_told : {given : Option Fire} → {told : Fire} → given ≡ Some told → (fired : Fired) → fire_seen fired ≡ told → given ≡ Some (fire_seen fired)
fires_told is fired same = is ∙ ap (λ (fire : Fire). Some fire) (sym same)
