use Rattle.rw_calendar.proofs.Answered.{ok_is, stamped_is, bad_start_is, not_first_is, beyond_is}
use Rattle.rw_calendar.proofs.law.answered_timesteps.Goals as goal

pub returns : goal.returns
returns c = record { ok = ok_is; stamped = stamped_is; bad_start = bad_start_is; not_first = not_first_is; beyond = beyond_is }
