-- A firing of a rule by its code: with enough steps, and with as many as a firing has where the code is accepted.
use Rattle.rpl_compile.proofs.Common.{Accepted, Answer, AreKinded, Block, Budget, Cell, Declared, Draft, Err, IsSome, List, Ok, Option, Outcome}
use Rattle.rpl_compile.proofs.Common.{Refusal, Result, Some, State, Trail, World, [], after, answered, ap, arith, begin, ended, fire_of, first_frame}
use Rattle.rpl_compile.proofs.Common.{gives, goes_on, joined, mean, most_steps, numbered, option_and_then, option_map, predefined_callees}
use Rattle.rpl_compile.proofs.Common.{predefined_functions, refl, rule_done, ruling, run, spent, step, stuck, subst, suc, sym, translate, value}
use Rattle.rpl_compile.proofs.Common.{verified, with_budgets, zero, ℕ, ℤ, ◌+◌, ◌>>=◌, ◌∙◌, ◌∷◌, ◌≡◌}
use Rattle.rw_firing.specs.Fire.{Fire}
use Rattle.rpl_verify.proofs.Accepted.{safe}
use Rattle.rpl_verify.specs.Safety.{AreSafe, IsSafe}
use Rattle.rpl_compile.specs.Fires.{EndsAlike, FiresAlike, HasRule, fired_in}
use Rattle.rpl_compile.proofs.Goes.{GoesOn, after_nothing, nothing_last, same_outcome}
use Rattle.rpl_compile.proofs.OfKind.{at_all}
use Rattle.rpl_compile.proofs.Callables.{predefined_called, predefined_heads}
use Rattle.rpl_compile.proofs.Rulesets.{Found, Over, found}

-- ---- runs

abbrev IsSettled : {A : Type 0} → Answer A → Type 0
IsSettled (value made) = Unit {0}
IsSettled (ended end) = Unit {0}
IsSettled stuck = ⊥

module _ (code : List Block) (world : World) where
  -- a run that has come to its end stays as it is, with more steps
  stays : (made more all : ℕ) (state : State) → made + more ≡ all → IsSettled (run code world made state).answer
      → run code world all state ≡ run code world made state
  stays zero more zero [] same_place is_settled = refl
  stays zero more (suc all) [] same_place is_settled = refl
  stays (suc made) more zero [] same_place is_settled = refl
  stays (suc made) more (suc all) [] same_place is_settled = refl
  stays zero more all (f ∷ state) same_place is_settled = absurd is_settled
  stays (suc made) more zero (f ∷ state) same_place is_settled = absurd (omega (arith, same_place))
  stays (suc made) more (suc all) (f ∷ state) same_place is_settled = by (step code world f state).answer (step code world f state).trail is_settled
      (λ s settled. stays made more all s (omega (arith, same_place)) settled)
    where
      by : (answer : Answer State) (trail : Trail) → IsSettled (goes_on answer trail (run code world made)).answer
          → ((some_state : State) → IsSettled (run code world made some_state).answer
          → run code world all some_state ≡ run code world made some_state)
          → goes_on answer trail (run code world all) ≡ goes_on answer trail (run code world made)
      by (value some_state) trail is_settled later = ap (after trail) (later some_state is_settled)
      by (ended end) trail is_settled later = refl
      by stuck trail is_settled later = refl

  -- what a rule comes to, in so many steps
  ran : (state : State) (answer : Answer (Unit {0})) (trail : Trail) → GoesOn code world answer trail state (Over code world)
      → IsSettled answer × ((n : ℕ) × (run code world n state ≡ record { answer = answer; trail = trail }))
  ran state (value made) trail goes =
      let over = goes.1 in
      let settles = goes.2 1 in (
        tt,
        (
          settles.0,
          settles.1 ∙ ap (after trail) (ap (run code world 1) over.1 ∙ ap (λ m. m >>= run code world 0) over.2 ∙ after_nothing (gives tt 0))
              ∙ same_outcome (value tt) (joined trail (spent 0)) trail (nothing_last trail),
        ),
      )
  ran state (ended end) trail goes = (tt, (goes.0, goes.1))
  ran state stuck trail goes = absurd goes

fire_settled : (answer : Answer (Unit {0})) (trail : Trail) (fire : Fire) → fire_of answer trail ≡ Some fire → IsSettled answer
fire_settled (value made) trail fire fires_so = tt
fire_settled (ended end) trail fire fires_so = tt
fire_settled stuck trail fire fires_so = absurd (cc fires_so)

settled_fires : (answer : Answer (Unit {0})) (trail : Trail) → IsSettled answer → IsSome (fire_of answer trail)
settled_fires (value made) trail fires_so = refl
settled_fires (ended end) trail fires_so = refl
settled_fires stuck trail fires_so = absurd fires_so

-- the blocks that are answered
abbrev blocks_or : List Block → Result Accepted Refusal → List Block
blocks_or blocks (Ok code) = code.blocks
blocks_or blocks (Err why) = blocks

same_blocks : (basin : Draft) (blocks : List Block) (code : Accepted) → verified basin blocks ≡ Ok code → code.blocks ≡ blocks
same_blocks basin blocks code accepted = by (ruling basin blocks) accepted
  where
    by : (judged : Result (List Budget) Refusal) → with_budgets basin blocks judged ≡ Ok code → code.blocks ≡ blocks
    by (Ok budgets) accepted = sym (ap (blocks_or blocks) accepted)
    by (Err why) accepted = absurd (cc accepted)

module _ (basin : Draft) (rules : List Declared) (kinded : AreKinded basin rules) (number step_no : ℕ) (values : Cell → Option ℤ)
    (there : HasRule rules number) where
  abbrev world : World
  world = record { basin = basin; values = values; step = step_no }

  abbrev code : List Block
  code = translate rules

  the_rule : Found code world predefined_callees predefined_functions rules 1 number
  the_rule =
      found code world rules predefined_callees predefined_functions 0 number (at_all code) predefined_heads (predefined_called code world) kinded
      there.0 there.1

  abbrev done : Outcome (Unit {0})
  done = rule_done world predefined_functions rules number

  begins : first_frame code number ≡ Some (begin the_rule.at the_rule.block [])
  begins =
      ap (λ o. option_and_then (λ n. option_map (λ x. begin n x []) (numbered code n)) o) the_rule.rule_is
      ∙ ap (λ o. option_map (λ x. begin the_rule.at x []) o) the_rule.there

  abbrev first : State
  first = begin the_rule.at the_rule.block [] ∷ []

  run_ends : IsSettled done.answer × ((n : ℕ) × (run code world n first ≡ done))
  run_ends = ran code world first done.answer done.trail the_rule.goes

  pub fires : IsSome (mean rules basin number step_no values)
  fires = settled_fires done.answer done.trail run_ends.0

  runs_on : (made more : ℕ) → run code world made first ≡ done → run code world (made + more) first ≡ done
  runs_on made more steps =
      stays code world made more (made + more) first refl (subst (λ (outcome : Outcome (Unit {0})). IsSettled outcome.answer) (sym steps) run_ends.0)
      ∙ steps

  pub ends_alike : EndsAlike rules basin number step_no values
  ends_alike = (
    run_ends.1.0,
    λ more.
        ap (fired_in (run_ends.1.0 + more) code world) begins
        ∙ ap (λ (outcome : Outcome (Unit {0})). fire_of outcome.answer outcome.trail) (runs_on run_ends.1.0 more run_ends.1.1),
  )

  pub fires_alike : (its_code : Accepted) → verified basin code ≡ Ok its_code → FiresAlike rules basin number step_no values
  fires_alike its_code verified_so = by run_ends.1.0 run_ends.1.1 most_steps (is_safe.fires)
    where
      accepted : AreSafe basin code its_code.budgets
      accepted = subst (λ blocks. AreSafe basin blocks its_code.budgets) (same_blocks basin code its_code verified_so)
          (safe basin its_code.blocks its_code.budgets (answered basin code its_code verified_so))

      is_safe : IsSafe code basin number step_no values (accepted number the_rule.at step_no values the_rule.rule_is).0
      is_safe = (accepted number the_rule.at step_no values the_rule.rule_is).2

      by : (made : ℕ) → run code world made first ≡ done → (most : ℕ) → fired_in most code world (first_frame code number) ≡ Some is_safe.fire
          → fired_in most code world (first_frame code number) ≡ mean rules basin number step_no values
      by made steps most fires =
          let settled = fire_settled (run code world most first).answer (run code world most first).trail is_safe.fire
          (sym (ap (fired_in most code world) begins) ∙ fires) in
          let same_place : most + made ≡ made + most = omega arith in
          ap (fired_in most code world) begins
          ∙ ap (λ (outcome : Outcome (Unit {0})). fire_of outcome.answer outcome.trail)
          (sym (stays code world most made (made + most) first same_place settled) ∙ runs_on made most steps)
