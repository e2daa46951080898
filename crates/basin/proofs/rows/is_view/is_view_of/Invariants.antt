use Rattle.std.proofs.Common.{ℕ, ◌<◌}
use Rattle.basin.specs.IsView.{IsPlaced}
use Rattle.basin.proofs.rows.is_view.is_view_of.Given as goal

abbrev pub invariant-loop-place : goal.invariant-loop-place
invariant-loop-place l = (k : ℕ) → k < l.place → IsPlaced l.kind l.view k
