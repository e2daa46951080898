use Rattle.rw_laws.proofs.fact_law.requested_energy.Goals as goal

pub returns : goal.returns
returns c = λ of view request puts gives.
    (gives.release, gives.number, gives.least.inside, gives.least.enough, gives.least.least, gives.outflow, gives.energy)
