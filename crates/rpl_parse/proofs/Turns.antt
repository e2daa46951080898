-- One turn of each loop of the reading.
use Rattle.rw_base.proofs.Common.{◌≡◌, ◌<◌, ◌≤◌, ◌-◌, ◌+◌, ◌∙◌, ◌++◌, ℕ, zero, suc, List, [], ◌∷◌, max, Some, None, refl, ap, arith, true, lt-ltb}
use Rattle.rw_base.proofs.Common.{ltb}
use Rattle.rpl_parse.specs.declared.token.Mark.TheVariants as M
use Rattle.rpl_parse.specs.Tokens.{Tok}
use Rattle.rpl_tree.specs.Tree.{two, at}
use Rattle.rpl_parse.specs.Reading.{Read, Got, got, Many, many, Turn, behind, turn, up_to, items, steps, chain}

module _ (inner : ℕ → List Tok → Read) (deepest : ℕ) where
  pub items_stops : (turns : ℕ) (so_far : Many) → behind M.Comma so_far.left ≡ None → items inner deepest turns so_far ≡ Some so_far
  unfolding items
  items_stops zero so_far mark_stands = refl
  items_stops (suc turns) so_far mark_stands = rw mark_stands refl

  pub items_turn : (turns : ℕ) (so_far : Many) (further : List Tok) (so_read : Got) → behind M.Comma so_far.left ≡ Some further
      → inner 7 further ≡ Some so_read
      → items inner deepest (suc turns) so_far
      ≡ items inner deepest turns (many (so_far.trees ++ so_read.tree ∷ []) (max so_far.most so_read.deep) so_read.rest)
  unfolding items
  items_turn turns so_far further so_read mark_stands reads_item = rw (mark_stands, reads_item) refl

  items_end : (turns : ℕ) (so_far : Many) (further : List Tok) → behind M.Comma so_far.left ≡ Some further → inner 7 further ≡ None
      → items inner deepest (suc turns) so_far ≡ None
  unfolding items
  items_end turns so_far further mark_stands reads_item = rw (mark_stands, reads_item) refl

  pub items_goes : (turns turn_number : ℕ) (so_far : Many) (further : List Tok) (so_read : Got) → turn_number < turns
      → behind M.Comma so_far.left ≡ Some further → inner 7 further ≡ Some so_read
      → items inner deepest (turns - turn_number) so_far
      ≡ items inner deepest (turns - (turn_number + 1)) (many (so_far.trees ++ so_read.tree ∷ []) (max so_far.most so_read.deep) so_read.rest)
  items_goes turns turn_number so_far further so_read less mark_stands reads_item =
      let next_turns : turns - turn_number ≡ suc (turns - (turn_number + 1)) = omega arith in
      ap (λ loose. items inner deepest loose so_far) next_turns ∙ items_turn (turns - (turn_number + 1)) so_far further so_read mark_stands reads_item

  pub items_fails : (turns turn_number : ℕ) (so_far : Many) (further : List Tok) → turn_number < turns → behind M.Comma so_far.left ≡ Some further
      → inner 7 further ≡ None
      → items inner deepest (turns - turn_number) so_far ≡ None
  items_fails turns turn_number so_far further less mark_stands reads_item =
      let next_turns : turns - turn_number ≡ suc (turns - (turn_number + 1)) = omega arith in
      ap (λ loose. items inner deepest loose so_far) next_turns ∙ items_end (turns - (turn_number + 1)) so_far further mark_stands reads_item

  pub steps_turn : (turns : ℕ) (so_read : Got) (further : List Tok) (right_read : Got) → behind M.LeftBracket so_read.rest ≡ Some further
      → ltb so_read.deep (suc deepest) ≡ true
      → up_to inner deepest M.RightBracket further ≡ Some right_read
      → steps inner deepest (suc turns) so_read
      ≡ steps inner deepest turns (got (at so_read.tree right_read.tree) (max so_read.deep right_read.deep + 1) right_read.rest)
  unfolding steps
  steps_turn turns so_read further right_read mark_stands is_shallow reads_item = rw (mark_stands, is_shallow, reads_item) refl

  pub steps_goes : (turns turn_number : ℕ) (so_read : Got) (further : List Tok) (right_read : Got) → turn_number < turns
      → behind M.LeftBracket so_read.rest ≡ Some further → so_read.deep ≤ deepest
      → up_to inner deepest M.RightBracket further ≡ Some right_read
      → steps inner deepest (turns - turn_number) so_read
      ≡ steps inner deepest (turns - (turn_number + 1))
      (got (at so_read.tree right_read.tree) (max so_read.deep right_read.deep + 1) right_read.rest)
  steps_goes turns turn_number so_read further right_read less mark_stands is_shallow reads_item =
      let next_turns : turns - turn_number ≡ suc (turns - (turn_number + 1)) = omega arith in
      ap (λ loose. steps inner deepest loose so_read) next_turns
      ∙ steps_turn (turns - (turn_number + 1)) so_read further right_read mark_stands (lt-ltb so_read.deep (suc deepest) (omega arith)) reads_item

  pub chain_turn : (loose turns : ℕ) (so_read : Got) (a_turn : Turn) (right_read : Got) → turn loose so_read.rest ≡ Some a_turn
      → ltb so_read.deep (suc deepest) ≡ true → inner (loose - 1) a_turn.more ≡ Some right_read
      → chain inner deepest loose (suc turns) so_read
      ≡ chain inner deepest loose turns (got (two a_turn.op so_read.tree right_read.tree) (max so_read.deep right_read.deep + 1) right_read.rest)
  unfolding chain
  chain_turn loose turns so_read a_turn right_read mark_stands is_shallow reads_item = rw (mark_stands, is_shallow, reads_item) refl

  pub chain_goes : (loose turns turn_number : ℕ) (so_read : Got) (a_turn : Turn) (right_read : Got) → turn_number < turns
      → turn loose so_read.rest ≡ Some a_turn → so_read.deep ≤ deepest → inner (loose - 1) a_turn.more ≡ Some right_read
      → chain inner deepest loose (turns - turn_number) so_read
      ≡ chain inner deepest loose (turns - (turn_number + 1))
      (got (two a_turn.op so_read.tree right_read.tree) (max so_read.deep right_read.deep + 1) right_read.rest)
  chain_goes loose turns turn_number so_read a_turn right_read less mark_stands is_shallow reads_item =
      let next_turns : turns - turn_number ≡ suc (turns - (turn_number + 1)) = omega arith in
      ap (λ m. chain inner deepest loose m so_read) next_turns
      ∙ chain_turn loose (turns - (turn_number + 1)) so_read a_turn right_read mark_stands
      (lt-ltb so_read.deep (suc deepest) (omega arith)) reads_item

  pub steps_stops : (turns : ℕ) (so_read : Got) → behind M.LeftBracket so_read.rest ≡ None → steps inner deepest turns so_read ≡ Some so_read
  unfolding steps
  steps_stops zero so_read mark_stands = refl
  steps_stops (suc turns) so_read mark_stands = rw mark_stands refl

  pub chain_stops : (loose turns : ℕ) (so_read : Got) → turn loose so_read.rest ≡ None → chain inner deepest loose turns so_read ≡ Some so_read
  unfolding chain
  chain_stops loose zero so_read mark_stands = refl
  chain_stops loose (suc turns) so_read mark_stands = rw mark_stands refl
