use Rattle.rw_method.proofs.Common.{All, Balanced, Bool, FitsSigned, List, None, Put, Solves, View, answer, arith, false, is_bounded, put, refl}
use Rattle.rw_method.proofs.Common.{rules, solved_put, to_z-of_z, w128, ℕ, ℤ, ◌++◌, ◌∙◌, ◌≡◌}
use Rattle.rw_method.specs.declared.solved.Solved.TheVariants.{OutOfRange}
use Rattle.rw_method.proofs.puts.begin_asking.Goals as goal

-- a solved term that doesn't fit is the answer, whatever else would be put
solved_misfit : (view : View) (balanced : Balanced) (place : ℕ) (value : ℤ) (number : ℕ) (fit : Put → Bool) (more : List Put)
    → balanced ≡ Solves place value number → is_bounded view (put place value number) ≡ false
    → All (λ p. fit p ≡ is_bounded view p) (solved_put balanced)
    → OutOfRange place value ≡ answer fit (solved_put balanced ++ more) balanced None
solved_misfit view balanced place value number fit more is misfit same =
    rw is rw ((rw is at same) 0 (put place value number) (omega arith) ∙ misfit) refl

pub returns-in-Err-clause-err : goal.returns-in-Err-clause-err
returns-in-Err-clause-err c fit more same =
    let fits : FitsSigned w128 c.in-Solves.value = search rules in
    let ended = simp (to_z-of_z w128 _ fits) at c.in-Err.ensures.err in
    let accepted = simp (to_z-of_z w128 _ fits) at c.in-Err.ensures.fits in
    let misfit : is_bounded c.args.view.now (put c.in-Solves.place c.in-Solves.value c.in-Solves.number) ≡ false = grind (arith, accepted) in
    ended ∙ solved_misfit c.args.view.now c.args.balanced c.in-Solves.place c.in-Solves.value c.in-Solves.number fit more
    c.in-Solves.is misfit same
