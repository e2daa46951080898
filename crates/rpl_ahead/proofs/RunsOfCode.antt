-- The runs by accepted code are equal.
use Rattle.rw_base.proofs.Common.{List, Ok, refl, ℕ, ℤ, ◌≡◌, ◌≤◌}
use Rattle.rw_base.specs.declared.number.Cell.{Cell}
use Rattle.rw_model.specs.Draft.{Draft}
use Rattle.rw_run.specs.Log.{Log}
use Rattle.rw_run.specs.Runs.{IsRun}
use Rattle.rpl_code.specs.declared.block.Block.{Block}
use Rattle.rpl_verify.specs.Verified.{Accepted, verified}
use Rattle.rw_ahead.proofs.SameRuns.{same_run}
use Rattle.rw_ahead.specs.Ahead.{DoTheSame, ahead_to}
use Rattle.rpl_policy.specs.Policy.{policy_of_code}
use Rattle.rpl_ahead.proofs.Ruled.{accepted_puts}
use Rattle.rpl_ahead.proofs.Same.{fire_same}

pub runs_of_code : (basin : Draft) (most : ℕ) (code : List Block) (policy : Accepted) (inputs : List (Cell × ℤ)) (log : Log)
    → basin.control.ahead ≤ most
    → verified basin code ≡ Ok policy → IsRun basin (policy_of_code basin code) inputs log
    → IsRun (ahead_to most basin) (policy_of_code (ahead_to most basin) code) inputs log
runs_of_code basin most code policy inputs log more is run =
    let puts = accepted_puts basin most code policy more is in
    let same : DoTheSame (policy_of_code basin code) (policy_of_code (ahead_to most basin) code) = record {
      rules = refl;
      fire = λ rule step values. fire_same basin most code rule step values puts more;
    } in
    same_run basin most (policy_of_code basin code) (policy_of_code (ahead_to most basin) code) inputs log same run
