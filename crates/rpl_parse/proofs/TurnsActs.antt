-- One turn of the reading of statements.
use Rattle.rw_base.proofs.Common.{◌≡◌, ◌<◌, ◌-◌, ◌+◌, ◌∙◌, ℕ, zero, suc, List, [], length, Option, Some, None, refl, sym, ap, arith, Result, Ok, Err}
use Rattle.rw_base.proofs.Common.{subst, IsErrAnd, Bor, Vec, Global}
use Rattle.rpl_tree.specs.declared.statement.Statement.{Statement}
use Rattle.rpl_parse.specs.declared.token.TokenAt.{TokenAt}
use Rattle.rpl_parse.specs.declared.stop.Stop.{Stop}
use Rattle.rpl_parse.specs.Tokens.{Tok}
use Rattle.rpl_parse.specs.Gives.{Fails}
use Rattle.rpl_parse.specs.GivesActs.{GivesActs}
use Rattle.rpl_parse.specs.ReadingActs.{Done, done, Step, with_act, more_acts, read_acts, act_at}

module _ (one : List Tok → Option (Option Step)) where
  pub acts_stop : (turns : ℕ) (so_far : Done) → one so_far.left ≡ Some None → more_acts one turns so_far ≡ Some so_far
  unfolding more_acts
  acts_stop zero so_far reads = refl
  acts_stop (suc turns) so_far reads = rw reads refl

  pub acts_turn : (turns : ℕ) (so_far : Done) (a_step : Step) → one so_far.left ≡ Some (Some a_step)
      → more_acts one (suc turns) so_far ≡ more_acts one turns (with_act so_far a_step)
  unfolding more_acts
  acts_turn turns so_far a_step reads = rw reads refl

  acts_end : (turns : ℕ) (so_far : Done) → one so_far.left ≡ None → more_acts one (suc turns) so_far ≡ None
  unfolding more_acts
  acts_end turns so_far reads_none = rw reads_none refl

  pub acts_fail : (turns turn_number : ℕ) (so_far : Done) → turn_number < turns → one so_far.left ≡ None
      → more_acts one (turns - turn_number) so_far ≡ None
  acts_fail turns turn_number so_far less reads_none =
      let next_turns : turns - turn_number ≡ suc (turns - (turn_number + 1)) = omega arith in
      ap (λ m. more_acts one m so_far) next_turns ∙ acts_end (turns - (turn_number + 1)) so_far reads_none

  pub acts_go : (turns turn_number : ℕ) (so_far : Done) (a_step : Step) → turn_number < turns → one so_far.left ≡ Some (Some a_step)
      → more_acts one (turns - turn_number) so_far ≡ more_acts one (turns - (turn_number + 1)) (with_act so_far a_step)
  acts_go turns turn_number so_far a_step less reads =
      let next_turns : turns - turn_number ≡ suc (turns - (turn_number + 1)) = omega arith in
      ap (λ m. more_acts one m so_far) next_turns ∙ acts_turn (turns - (turn_number + 1)) so_far a_step reads

pub acts_is : (deepest turns : ℕ) (tokens_here : List Tok) → turns ≡ length tokens_here
    → more_acts (act_at deepest) turns (done [] 0 tokens_here) ≡ read_acts deepest tokens_here
unfolding read_acts
acts_is zero turns tokens_here n_is = rw n_is refl
acts_is (suc deepest) turns tokens_here n_is = rw n_is refl

pub acts_fault : (source : List ℕ) (deepest : ℕ) (result : Result (Vec Statement Global × ℕ × Bor (List TokenAt)) Stop) (read : Option Done)
    (fault : Stop)
    → IsErrAnd result (λ fault_there. fault_there ≡ fault) → Fails fault read → GivesActs source deepest result read
acts_fault source deepest (Ok answer) read fault same why = absurd same
acts_fault source deepest (Err fault_there) read fault same why = subst (λ any_fault. Fails any_fault read) (sym same) why
