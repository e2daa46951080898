-- The policy of a run, as code gives it.
use Rattle.std.specs.Prelude.{List}
use Rattle.rw_model.specs.Draft.{Draft}
use Rattle.rpl_code.specs.declared.block.Block.{Block}
use Rattle.rpl_code.specs.declared.block.BlockHead.TheVariants.{Rule}
use Rattle.rpl_verify.specs.Fits.{count_alike}
use Rattle.rpl_verify.specs.Machine.{fire_of_code}
use Rattle.rw_run.specs.Next.{Policy}

-- each rule does what its block does in the machine
abbrev pub policy_of_code : Draft → List Block → Policy
policy_of_code basin code = record { rules = count_alike Rule code; fire = fire_of_code code basin }
