-- One turn of the reading of parameters.
use Rattle.rw_base.proofs.Common.{◌≡◌, ◌<◌, ◌-◌, ◌+◌, ◌∙◌, ◌++◌, ℕ, zero, suc, List, [], ◌∷◌, Option, Some, None, refl, sym, ap, arith, Result, Ok}
use Rattle.rw_base.proofs.Common.{Err, subst, IsErrAnd, Bor, Vec, Global}
use Rattle.rpl_tree.specs.declared.rules.Param.{Param}
use Rattle.rpl_parse.specs.declared.token.TokenAt.{TokenAt}
use Rattle.rpl_parse.specs.declared.token.Mark.TheVariants as M
use Rattle.rpl_parse.specs.declared.stop.Stop.{Stop}
use Rattle.rpl_parse.specs.Tokens.{Tok}
use Rattle.rpl_parse.specs.Gives.{Fails}
use Rattle.rpl_parse.specs.GivesDeclared.{GivesParameters}
use Rattle.rpl_parse.specs.Reading.{behind}
use Rattle.rpl_parse.specs.ReadingDeclared.{Given, ParametersRead, params_read, read_parameter, more_parameters}

pub more_stops : (turns : ℕ) (so_far : ParametersRead) → behind M.Comma so_far.left ≡ None → more_parameters turns so_far ≡ Some so_far
unfolding more_parameters
more_stops zero so_far comma_stands = refl
more_stops (suc turns) so_far comma_stands = rw comma_stands refl

pub more_turn : (turns : ℕ) (so_far : ParametersRead) (further : List Tok) (given_here : Given) → behind M.Comma so_far.left ≡ Some further
    → read_parameter further ≡ Some given_here
    → more_parameters (suc turns) so_far ≡ more_parameters turns (params_read (so_far.params ++ given_here.it ∷ []) given_here.next)
unfolding more_parameters
more_turn turns so_far further given_here comma_stands reads_one = rw (comma_stands, reads_one) refl

more_end : (turns : ℕ) (so_far : ParametersRead) (further : List Tok) → behind M.Comma so_far.left ≡ Some further → read_parameter further ≡ None
    → more_parameters (suc turns) so_far ≡ None
unfolding more_parameters
more_end turns so_far further comma_stands reads_one = rw (comma_stands, reads_one) refl

pub more_goes : (turns turn_number : ℕ) (so_far : ParametersRead) (further : List Tok) (given_here : Given) → turn_number < turns
    → behind M.Comma so_far.left ≡ Some further → read_parameter further ≡ Some given_here
    → more_parameters (turns - turn_number) so_far
    ≡ more_parameters (turns - (turn_number + 1)) (params_read (so_far.params ++ given_here.it ∷ []) given_here.next)
more_goes turns turn_number so_far further given_here less comma_stands reads_one =
    let next_turns : turns - turn_number ≡ suc (turns - (turn_number + 1)) = omega arith in
    ap (λ k. more_parameters k so_far) next_turns ∙ more_turn (turns - (turn_number + 1)) so_far further given_here comma_stands reads_one

pub more_fails : (turns turn_number : ℕ) (so_far : ParametersRead) (further : List Tok) → turn_number < turns
    → behind M.Comma so_far.left ≡ Some further → read_parameter further ≡ None
    → more_parameters (turns - turn_number) so_far ≡ None
more_fails turns turn_number so_far further less comma_stands reads_one =
    let next_turns : turns - turn_number ≡ suc (turns - (turn_number + 1)) = omega arith in
    ap (λ k. more_parameters k so_far) next_turns ∙ more_end (turns - (turn_number + 1)) so_far further comma_stands reads_one

pub parameters_fault : (source : List ℕ) (result : Result (Vec Param Global × Bor (List TokenAt)) Stop) (read : Option ParametersRead)
    (reads_one : Stop)
    → IsErrAnd result (λ comma_stands. comma_stands ≡ reads_one) → Fails reads_one read → GivesParameters source result read
parameters_fault source (Ok answer) read reads_one same why = absurd same
parameters_fault source (Err comma_stands) read reads_one same why = subst (λ any_fault. Fails any_fault read) (sym same) why
