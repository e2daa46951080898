use Rattle.rw_base.proofs.Common.{◌≡◌, ◌<◌, ℕ, Option, Some, slice_get, true}
use Rattle.rw_record.specs.Record.{StepRecord}
use Rattle.rw_rerun.specs.Touched.{is_untouched}
use Rattle.rw_rerun.proofs.touched.untouched.Given as goal

abbrev pub invariant-loop-before : goal.invariant-loop-before
invariant-loop-before l =
    (place : ℕ) (entry : Option StepRecord) → place < l.before → slice_get l.kept place ≡ Some entry → is_untouched l.basin l.cells entry ≡ true
