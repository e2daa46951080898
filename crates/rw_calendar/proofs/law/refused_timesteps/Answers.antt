use Rattle.rw_calendar.proofs.Refusals.{stamped-iff, bad-iff, first-iff, beyond-iff}
use Rattle.rw_calendar.proofs.law.refused_timesteps.Goals as goal

pub returns : goal.returns
returns c = record { stamped = stamped-iff; bad_start = bad-iff; not_first = first-iff; beyond = beyond-iff }
