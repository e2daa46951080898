use Rattle.rw_base.proofs.Common.{◌≡◌, refl, ℕ, ◌<◌, ◌+◌, arith, inl, inr, cases_lt}
use Rattle.rw_model.specs.declared.kind.Kind.{Kind}
use Rattle.rw_method.specs.declared.view.View.{View}
use Rattle.basin.specs.IsView.{IsPlaced}
use Rattle.basin.proofs.rows.is_view.is_view_of.Goals as goal

-- one place more
next_placed : (kind : Kind) (view : View) (n : ℕ) → ((k : ℕ) → k < n → IsPlaced kind view k) → IsPlaced kind view n → (k : ℕ) → k < n + 1
    → IsPlaced kind view k
next_placed kind view n before here k lt = elim (cases_lt k n) [
  | inl less ↦ before k less
  | inr more ↦
      let same : k ≡ n = omega (arith, lt, more) in
      rw same here
]

pub loop-place-preserved : goal.loop-place-preserved
loop-place-preserved c = next_placed c.args.kind.now c.args.view.now c.loop-place.place c.loop-place.invariant (c.if-not-is_placed.ensures refl)

pub returns : goal.returns
returns c is_kind = record {
  parameters = c.is_kind.ensures.kind.0 is_kind;
  absent = λ place lt. (c.loop-place.invariant place (omega (arith, lt))).absent;
  bounded = λ place slot lt. (c.loop-place.invariant place (omega (arith, lt))).bounded slot;
}
