-- A firing that jumps back for ever takes more steps than it may, however many those are.
use Rattle.rw_base.proofs.Common.{◌≡◌, ℕ, zero, suc, [], ◌∷◌, None, refl, ap}
use Rattle.rpl_tree.proofs.Common.{Answer, Trail, stuck, World, fire_of}
use Rattle.rpl_verify.specs.Machine.{Frame, run}
use Rattle.rpl_verify.specs.Worked.{endless}

abbrev standing : ℕ → Frame
standing place = record { block = 1; place = place; locals = []; operands = []; loops = [] }

mutual
  at_target : (world : World) (n : ℕ) → (run endless world n (standing 0 ∷ [])).answer ≡ stuck
  at_target world zero = refl
  at_target world (suc n) = at_jump world n

  at_jump : (world : World) (n : ℕ) → (run endless world n (standing 1 ∷ [])).answer ≡ stuck
  at_jump world zero = refl
  at_jump world (suc n) = at_target world n

nothing_of : (answer : Answer (Unit {0})) (trail : Trail) → answer ≡ stuck → fire_of answer trail ≡ None
nothing_of answer trail answer_is = ap (λ a. fire_of a trail) answer_is

pub nothing_fired : (world : World) (n : ℕ)
    → fire_of (run endless world n (standing 0 ∷ [])).answer (run endless world n (standing 0 ∷ [])).trail ≡ None
nothing_fired world n = nothing_of (run endless world n (standing 0 ∷ [])).answer (run endless world n (standing 0 ∷ [])).trail (at_target world n)
