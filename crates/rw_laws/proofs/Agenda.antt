-- Where no rule of the agenda is due, none is.
use Rattle.rw_laws.proofs.Common.{Bool, Cells, Draft, IsRule, List, Log, None, Policy, Some, [], agenda_of, ap, arith, cond, false, find, first_due}
use Rattle.rw_laws.proofs.Common.{is_due, nat_tests, none-some, numbers, on_agenda, refl, subst, sym, times, times-numbers, true, ℕ, ◌+◌, ◌<◌, ◌==◌}
use Rattle.rw_laws.proofs.Common.{◌∙◌, ◌∷◌, ◌≡◌, ◌≤◌}

none_is : (p : ℕ → Bool) (x r : ℕ) (xs : List ℕ) (test : Bool) → p x ≡ test → (find p xs ≡ None → 0 < times r xs → p r ≡ false)
    → cond test (Some x) (find p xs) ≡ None → (here : Bool) → (r == x) ≡ here → 0 < cond here 1 0 + times r xs → p r ≡ false
none_is p x r xs true is later found here same there = absurd (none-some x (sym found))
none_is p x r xs false is later found true same there = let at : r ≡ x = grind (arith, nat_tests, same) in ap p at ∙ is
none_is p x r xs false is later found false same there = later found (omega (arith, there))

none_in : (p : ℕ → Bool) (r : ℕ) (xs : List ℕ) → find p xs ≡ None → 0 < times r xs → p r ≡ false
none_in p r [] found there = absurd (omega (arith, there))
none_in p r (x ∷ xs) found there = none_is p x r xs (p x) refl (none_in p r xs) found (r == x) refl there

listed : (rule rules : ℕ) → 1 ≤ rule → rule ≤ rules → 0 < times rule (numbers rules)
listed rule rules first last = let counted = times-numbers rule rules in grind (arith, nat_tests, first, last, counted)

-- where none is due, no rule is
pub none_due : (basin : Draft) (policy : Policy) (cells : Cells) (log : Log) (rule : ℕ) → first_due basin policy cells log ≡ None → IsRule policy rule
    → is_due cells log rule ≡ false
none_due basin policy cells log rule none is =
    none_in (is_due cells log) rule (agenda_of basin.control.agenda policy.rules) none
    (subst (λ n. 0 < n) (sym (on_agenda basin.control.agenda rule policy.rules)) (listed rule policy.rules is.first is.last))
