use Rattle.std.proofs.Common.{◌≡◌, ◌++◌, drop, string_bytes}
use Rattle.rw_report.specs.Whole.{steps_words}
use Rattle.rw_report.proofs.whole.push_steps.Given as goal

-- what is there and the timesteps that are left are the whole
abbrev pub invariant-loop-place : goal.invariant-loop-place
invariant-loop-place l =
    string_bytes l.text ++ steps_words (drop l.place l.steps) ≡ string_bytes l.fn.text ++ steps_words l.steps
