-- A fault that is handed on.
use Rattle.rw_base.proofs.Common.{◌≡◌, ℕ, List, Option, None, Result, Ok, Err, sym, subst, IsErrAnd, Bor, Vec, Global}
use Rattle.rpl_tree.specs.declared.expression.Expr.{Expr}
use Rattle.rpl_parse.specs.declared.token.TokenAt.{TokenAt}
use Rattle.rpl_parse.specs.declared.stop.Stop.{Stop}
use Rattle.rpl_parse.specs.declared.stop.Stop.TheVariants as S
use Rattle.rpl_parse.specs.Gives.{Fails, GivesExpression, GivesMany}
use Rattle.rpl_parse.specs.Reading.{Many, Read}

pub fails_on : {A B : Type 0} (fault : Stop) (first_found : Option A) (second_found : Option B) → (first_found ≡ None → second_found ≡ None)
    → Fails fault first_found → Fails fault second_found
fails_on S.Bad first_found second_found go reads_none = go reads_none
fails_on S.NoMemory first_found second_found go reads_none = reads_none

pub many_fault : (source : List ℕ) (deepest : ℕ) (result : Result (Vec Expr Global × ℕ × Bor (List TokenAt)) Stop) (read : Option Many) (fault : Stop)
    → IsErrAnd result (λ fault_there. fault_there ≡ fault) → Fails fault read → GivesMany source deepest result read
many_fault source deepest (Ok answer) read fault same why = absurd same
many_fault source deepest (Err fault_there) read fault same why = subst (λ any_fault. Fails any_fault read) (sym same) why

pub tree_fault : (source : List ℕ) (deepest : ℕ) (result : Result (Expr × ℕ × Bor (List TokenAt)) Stop) (read : Read) (fault : Stop)
    → IsErrAnd result (λ fault_there. fault_there ≡ fault) → Fails fault read → GivesExpression source deepest result read
tree_fault source deepest (Ok answer) read fault same why = absurd same
tree_fault source deepest (Err fault_there) read fault same why = subst (λ any_fault. Fails any_fault read) (sym same) why
