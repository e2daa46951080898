use Rattle.std.proofs.Common.{◌≡◌, ℕ, zero, suc, refl}
use Rattle.rw_model.specs.declared.kind.Kind.TheVariants.{Reach}
use Rattle.rw_method.specs.Solve.{solve_of}
use Rattle.rw_stream.proofs.reach.solve_reach.Goals as goal

-- a number that isn't 0 comes after another
after_another : (P : ℕ → Type 0) (n : ℕ) → ¬ (n ≡ 0) → ((m : ℕ) → P (suc m)) → P n
after_another P zero some later = absurd (some refl)
after_another P (suc n) some later = later n

pub returns-then-lag-eq0 : goal.returns-then-lag-eq0
returns-then-lag-eq0 c history =
    rw c.if-lag-eq0.true (c.solve_unlagged.ensures history _ _ _ c.side_flows-side.ensures.flow)

pub returns-else-lag-eq0 : goal.returns-else-lag-eq0
returns-else-lag-eq0 c history =
    after_another
    (λ lag. c.solve_lagged.new.solved ≡ solve_of (Reach lag history c.args.local_inflow c.args.diversion c.args.return_flow) c.args.view.now)
    c.args.lag c.if-lag-eq0.false (λ lag. c.solve_lagged.ensures lag history _ _ _ c.side_flows-side.ensures.flow)
