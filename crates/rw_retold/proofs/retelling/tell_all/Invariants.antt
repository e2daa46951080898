use Rattle.rw_base.proofs.Common.{ℕ, List, drop, string_bytes}
use Rattle.rw_run.specs.Log.{Log}
use Rattle.rw_run.specs.Trace.{lines_in}
use Rattle.rw_rules.specs.Rules.{policy_in}
use Rattle.rw_retold.specs.Walk.{IsWalkOf, IsWalkedTo}
use Rattle.rw_retold.proofs.retelling.tell_all.Given as goal

-- the lines before the place are told
abbrev pub invariant-loop-place : goal.invariant-loop-place
invariant-loop-place g l =
    IsWalkOf l.setup.basin.now l.walk
    × ((log : Log) (whole : List ℕ)
    → IsWalkedTo l.setup.basin.now (policy_in l.setup.basin.now l.setup.policy.now) (lines_in l.trace) log whole l.fn.walk (string_bytes l.fn.text)
    → IsWalkedTo l.setup.basin.now (policy_in l.setup.basin.now l.setup.policy.now) (drop l.place (lines_in l.trace)) log whole l.walk
    (string_bytes l.text))
