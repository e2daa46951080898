use Rattle.rw_laws.proofs.Common.{All, Asked, Content, Firing, List, [], ap, arith, cells_of, inl, inr, last_ones, none-some, pos, same_Some, subst}
use Rattle.rw_laws.proofs.Common.{sym, ◌∙◌, ◌∷◌, ◌≡◌}
use Rattle.std.proofs.Common.{unsigned_abs}
use Rattle.rw_laws.specs.Rules.{IsHeldOr, StandsBy}
use Rattle.rw_laws.specs.Worked.{day_of_firing, by_rule, dam_alone, held_low, fifty_out}
use Rattle.rw_laws.proofs.law.puts_stood_by.Goals as goal

-- the firing's one put, which is held as the law says or isn't, by what was written
held_put : (written : List Asked) → StandsBy dam_alone held_low 1 (day_of_firing (record fifty_out { written = written })) 2
    → IsHeldOr (cells_of dam_alone (day_of_firing (record fifty_out { written = written }))) 2 (by_rule 2 2 (pos 50))
held_put written stands =
    (subst
    (λ (firing : Firing).
    All (IsHeldOr (cells_of dam_alone (day_of_firing (record fifty_out { written = written }))) 2) (last_ones dam_alone firing.asked))
    (sym (same_Some _ _ stands.last)) stands.puts) 0 (by_rule 2 2 (pos 50)) (omega arith)

pub returns-clause-unknown : goal.returns-clause-unknown
returns-clause-unknown c = λ stands. let put = held_put [] stands in none-some put.content put.held

pub returns-clause-number : goal.returns-clause-number
returns-clause-number c = λ stands.
    let put = held_put (by_rule 3 2 (pos 50) ∷ []) stands in
    let three : 3 ≡ put.content.number = ap (λ (content : Content). content.number) (same_Some _ _ put.held) in
    omega (arith, three, put.number)

pub returns-clause-value : goal.returns-clause-value
returns-clause-value c = λ stands.
    let put = held_put (by_rule 2 2 (pos 40) ∷ []) stands in
    let content = same_Some _ _ put.held in
    elim put.so [
      | inl same ↦
          let differ : 40 ≡ 50 = ap unsigned_abs (ap (λ (it : Content). it.value) content ∙ same) in omega (arith, differ)
      | inr other ↦ other (ap (λ (it : Content). it.writer) (sym content))
    ]
