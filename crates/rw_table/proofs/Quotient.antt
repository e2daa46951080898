-- Of a rise over a run, the share after d of the run, `d * rise / run`.
use Rattle.rw_base.proofs.Common.{ℕ, ◌*◌, ◌/◌, ◌<◌, ◌≤◌, arith, div_below, le-div, div-mul-le_self}

-- the share before the end is less than the rise
pub share_below : (d rise run : ℕ) → d < run → 0 < rise → d * rise / run < rise
share_below d rise run before some = div_below (d * rise) run rise (omega arith) (grind arith)

-- further along, the share is no less
pub share_rises : (d later rise run : ℕ) → d ≤ later → 0 < run → d * rise / run ≤ later * rise / run
share_rises d later rise run after some =
    let most = div-mul-le_self (d * rise) run in
    let more : d * rise ≤ later * rise = grind arith in
    le-div (d * rise / run) (later * rise) run some (omega arith)
