use Rattle.std.proofs.Common.{refl}
use Rattle.rw_commands.proofs.Common.{files_seen}
use Rattle.rw_commands.proofs.CauseLemmas.{job_cause, unwritten}
use Rattle.rw_commands.proofs.perform.perform.Goals as goal

pub returns-in-Err-clause-cause : goal.returns-in-Err-clause-cause
returns-in-Err-clause-cause g c = unwritten _ _ _ c.in-Err.refusal refl c.in-Err.ensures.read

pub returns-in-Err-write_job-clause-cause : goal.returns-in-Err-write_job-clause-cause
returns-in-Err-write_job-clause-cause g c =
    job_cause _ _ _ (files_seen c.in-Ok.files) c.in-Ok.ensures.read c.in-Err-write_job.refusal
    (rw c.extras-extras.ensures at c.in-Err-write_job.ensures.text)

pub returns-in-Ok-write_job-clause-counted : goal.returns-in-Ok-write_job-clause-counted
returns-in-Ok-write_job-clause-counted g c = λ runs reuse.
    (files_seen c.in-Ok.files, c.in-Ok.ensures.read, c.in-Ok-write_job.ensures.counted runs (rw c.extras-extras.ensures reuse))
