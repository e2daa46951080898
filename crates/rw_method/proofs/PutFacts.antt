-- Whether puts fit, when one more is added.
use Rattle.rw_method.proofs.Common.{AllFit, Bool, List, Put, answer_of_puts, arith, common_steps, false, refl, true, ◌++◌, ◌∷◌, ◌≡◌}
use Rattle.rw_method.specs.declared.solved.Solved.TheVariants.{OutOfRange}
use Rattle.rw_method.proofs.Misfits.{after_fits}

-- of puts of which the first fits, the others decide
pub first_fits : (fit : Put → Bool) (p : Put) (ps : List Put) → AllFit fit (p ∷ ps) → (fit p ≡ true) × AllFit fit ps
first_fits fit p ps h = grind (arith, common_steps, h)

-- one more that doesn't fit is the answer, whatever comes after it
pub misfit_judged : (fit : Put → Bool) (xs : List Put) (p : Put) (more : List Put) → AllFit fit xs → fit p ≡ false
    → OutOfRange p.place p.value ≡ answer_of_puts fit (xs ++ p ∷ more)
misfit_judged fit xs p more h no_fit = rw (after_fits fit xs (p ∷ more) h) rw no_fit refl

-- after one more that fits, the next that doesn't is the answer
pub second_misfit_judged : (fit : Put → Bool) (xs : List Put) (p q : Put) (more : List Put) → AllFit fit xs → fit p ≡ true → fit q ≡ false
    → OutOfRange q.place q.value ≡ answer_of_puts fit (xs ++ p ∷ q ∷ more)
second_misfit_judged fit xs p q more h fits no_fit = rw (after_fits fit xs (p ∷ q ∷ more) h) rw fits rw no_fit refl
