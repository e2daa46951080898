-- A policy and inputs have one run.
use Rattle.rw_base.proofs.Common.{◌≡◌, ◌≤◌, ◌+◌, ℕ, ℤ, nat_lt, false, List, [], ◌∷◌, Option, Some, None, refl, sym, ap, subst, ◌∙◌, arith}
use Rattle.rw_base.proofs.Common.{if◌then◌else◌, nat_tests, same_Some, none-some}
use Rattle.rw_base.specs.declared.number.Cell.{Cell}
use Rattle.rw_model.specs.Draft.{Draft}
use Rattle.rw_run.specs.Log.{Log, Event, opened}
use Rattle.rw_run.specs.Next.{Policy}
use Rattle.rw_run.specs.Runs.{Leads, Standing, rests, inside, over, standing, follows, follows_by, with_inputs, IsOver, IsRun}
use Rattle.rw_run.specs.Waiting.{first_waiting}

rests_last : (step count : ℕ) (event : Event) → count ≤ step → (if nat_lt step count then Some event else None) ≡ None
rests_last step count event last =
    let more : nat_lt step count ≡ false = grind (arith, nat_tests) in ap (λ test. if test then Some event else None) more

-- nothing follows a run that is over
pub none_follows : (basin : Draft) (policy : Policy) (log : Log) (object : Option ℕ) (at : Standing) → IsOver basin at
    → follows_by basin policy log object at ≡ None
none_follows basin policy log object (rests step) end = rests_last step basin.control.stamps.count (opened (step + 1)) end
none_follows basin policy log object (inside step) end = absurd end
none_follows basin policy log object over end = refl

same_end : (basin : Draft) (policy : Policy) (old : Log) (xs ys : List Event) (x y : Log) → Leads basin policy old xs x → Leads basin policy old ys y
    → follows basin policy x ≡ None → follows basin policy y ≡ None → x ≡ y
same_end basin policy old [] [] x y l m u v = l ∙ sym m
same_end basin policy old [] (e ∷ es) x y l m u v = absurd (none-some _ (sym (sym m.0 ∙ ap (follows basin policy) (sym l) ∙ u)))
same_end basin policy old (e ∷ es) [] x y l m u v = absurd (none-some _ (sym (sym l.0 ∙ ap (follows basin policy) (sym m) ∙ v)))
same_end basin policy old (e ∷ es) (f ∷ fs) x y l m u v =
    let same : f ≡ e = same_Some _ _ (sym m.0 ∙ l.0) in
    same_end basin policy (e ∷ old) es fs x y l.1 (subst (λ z. Leads basin policy (z ∷ old) fs y) same m.1) u v

pub one_run : (basin : Draft) (policy : Policy) (inputs : List (Cell × ℤ)) (one other : Log) → IsRun basin policy inputs one
    → IsRun basin policy inputs other
    → one ≡ other
one_run basin policy inputs one other r s =
    same_end basin policy (with_inputs [] inputs) r.events s.events one other r.leads s.leads
    (none_follows basin policy one (first_waiting basin one) (standing one) r.end)
    (none_follows basin policy other (first_waiting basin other) (standing other) s.end)
