use Rattle.rw_base.proofs.Common.{◌≡◌, Ok, sym, ap, ◌∙◌, ℕ, ℤ, Option}
use Rattle.rw_inputs.specs.Inputs.{value_at}
use Rattle.rw_inputs.proofs.law.one_reading.Goals as goal

pub returns-clause-values : goal.returns-clause-values
returns-clause-values c basin text inputs other reads also slot step =
    let both : Ok (value_at inputs) ≡ Ok (value_at other) = sym reads.values ∙ also.values in
    let same : value_at inputs ≡ value_at other = cc in
    ap (λ (value : ℕ → ℕ → Option ℤ). value slot step) same

pub returns-clause-refusal : goal.returns-clause-refusal
returns-clause-refusal c basin text why other refuses also = cc

pub returns-clause-either : goal.returns-clause-either
returns-clause-either c basin text inputs why reads refuses =
    let read = reads.values in
    cc
