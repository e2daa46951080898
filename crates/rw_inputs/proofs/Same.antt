-- The records of a text are one list.
use Rattle.rw_base.proofs.Common.{◌≡◌, ℕ, List, [], ◌∷◌, None, refl, sym, ap, ap₂, subst, ◌∙◌, same_Some, none-some}
use Rattle.csv.specs.Machine.{Read, next_record}
use Rattle.csv.specs.Reading.{Reached, AreRecords}
use Rattle.csv.specs.declared.parser.Config.{Config}
use Rattle.csv.specs.declared.parser.State.{State}

same_rows : (cfg : Config) (s : State) (xs : List ℕ) (rs qs : List (List (List ℕ))) (s1 s2 : State) (ys zs : List ℕ)
    → Reached cfg s xs rs s1 ys → next_record cfg s1 [] [] ys ≡ None
    → Reached cfg s xs qs s2 zs → next_record cfg s2 [] [] zs ≡ None → rs ≡ qs
unfolding Reached
same_rows cfg s xs [] [] s1 s2 ys zs a p b q = refl
same_rows cfg s xs [] (r ∷ qs) s1 s2 ys zs a p b q =
    absurd (none-some b.0 (sym (ap₂ (λ t us. next_record cfg t [] [] us) a.0 a.1 ∙ p) ∙ b.1))
same_rows cfg s xs (r ∷ rs) [] s1 s2 ys zs a p b q =
    absurd (none-some a.0 (sym (ap₂ (λ t us. next_record cfg t [] [] us) b.0 b.1 ∙ q) ∙ a.1))
same_rows cfg s xs (r ∷ rs) (t ∷ qs) s1 s2 ys zs a p b q =
    let e : b.0 ≡ a.0 = same_Some _ _ (sym b.1 ∙ a.1) in
    let rest = subst (λ (u : Read). Reached cfg u.1 u.2 qs s2 zs) e b.3 in
    ap₂ (λ x l. x ∷ l) (a.2 ∙ sym (b.2 ∙ ap (λ (u : Read). u.0) e)) (same_rows cfg a.0.1 a.0.2 rs qs s1 s2 ys zs a.3 p rest q)

pub one_list : (cfg : Config) (s : State) (xs : List ℕ) (rs qs : List (List (List ℕ))) → AreRecords cfg s xs rs → AreRecords cfg s xs qs → rs ≡ qs
one_list cfg s xs rs qs a b = same_rows cfg s xs rs qs a.0 b.0 a.1 b.1 a.2 a.3 b.2 b.3
