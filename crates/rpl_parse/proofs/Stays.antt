-- Levels that take nothing more, and the date t.
use Rattle.rw_base.proofs.Common.{◌≡◌, ◌<◌, ◌-◌, ◌+◌, ◌∙◌, ◌∷◌, ℕ, zero, suc, Bool, true, false, List, [], Option, Some, None, IfSome, refl, ap, arith, sym, subst}
use Rattle.rpl_tree.specs.Tree.{now}
use Rattle.rpl_tree.specs.declared.words.OneWord.{OneWord}
use Rattle.rpl_tree.specs.declared.words.OneWord.TheVariants as O
use Rattle.rpl_tree.specs.declared.words.TwoWord.{TwoWord}
use Rattle.rpl_parse.specs.declared.token.Mark.{Mark}
use Rattle.rpl_parse.specs.declared.token.Mark.TheVariants as M
use Rattle.rpl_parse.specs.Tokens.{Tok, mark, word, digits, text, same}
use Rattle.rpl_parse.specs.Grammar.{mark_of_one}
use Rattle.rpl_parse.specs.Reading.{Read, Got, got, Turn, behind, kept, chain, climbed, closed_by_mark, has_operator, if_found, if_word, is_operator, level, now_before, operator, prefix_of, read_tree, rise, steps, turn, turns_of, up_to, ◌>>=◌}
use Rattle.rpl_parse.proofs.Climb.{above, IsBare}
use Rattle.rpl_parse.proofs.Marks.{same_mark}

by_word : (found : Option TwoWord) (loose : ℕ) (rest : List Tok) → is_operator found ≡ false → if_word loose found rest ≡ None
by_word None loose rest none = refl
by_word (Some its_word) loose rest none = absurd (cc none)

-- where no operator stands, none of a level does
no_turn : (tokens_here : List Tok) (loose : ℕ) → has_operator tokens_here ≡ false → turn loose tokens_here ≡ None
no_turn [] loose none = refl
no_turn (mark a_mark ∷ rest) loose none = by_word (operator a_mark) loose rest none
no_turn (word its_bytes ∷ rest) loose none = refl
no_turn (digits number ∷ rest) loose none = refl
no_turn (text its_bytes ∷ rest) loose none = refl

module _ (inner : ℕ → List Tok → Read) (deepest : ℕ) where
  chain_stays : (loose turns : ℕ) (so_read : Got) → turn loose so_read.rest ≡ None → chain inner deepest loose turns so_read ≡ Some so_read
  unfolding chain
  chain_stays loose zero so_read none = refl
  chain_stays loose (suc turns) so_read none = rw none refl

  steps_stay : (turns : ℕ) (so_read : Got) → behind M.LeftBracket so_read.rest ≡ None → steps inner deepest turns so_read ≡ Some so_read
  unfolding steps
  steps_stay zero so_read none = refl
  steps_stay (suc turns) so_read none = rw none refl

  rise_by : (found : Option OneWord) (loose : ℕ) (so_read : Got) → turn loose so_read.rest ≡ None
      → if_found found (chain inner deepest loose (turns_of loose deepest) so_read) (λ w. Some so_read) ≡ Some so_read
  rise_by None loose so_read none = chain_stays loose (turns_of loose deepest) so_read none
  rise_by (Some its_word) loose so_read none = refl

  rise_stays : (loose : ℕ) (so_read : Got) → turn loose so_read.rest ≡ None → rise inner deepest loose so_read ≡ Some so_read
  rise_stays loose so_read none = rise_by (prefix_of loose) loose so_read none

  pub climb_stays : (levels lower : ℕ) (so_read : Got) → has_operator so_read.rest ≡ false
      → climbed inner deepest lower levels (Some so_read) ≡ Some so_read
  unfolding climbed
  climb_stays zero lower so_read none = refl
  climb_stays (suc levels) lower so_read none =
      ap (climbed inner deepest (lower + 1) levels) (rise_stays (lower + 1) so_read (no_turn so_read.rest (lower + 1) none))
      ∙ climb_stays levels (lower + 1) so_read none

  bare_by : (found : Option OneWord) (rest : List Tok) → IfSome found (λ w. behind (mark_of_one w) (mark M.Now ∷ rest) ≡ None)
  bare_by None rest = tt
  bare_by (Some O.Not) rest = refl
  bare_by (Some O.Minus) rest = refl
  bare_by (Some O.Known) rest = refl
  bare_by (Some O.Length) rest = refl
  bare_by (Some O.Month) rest = refl
  bare_by (Some O.Day) rest = refl
  bare_by (Some O.Year) rest = refl

  now_level : (loose : ℕ) (rest : List Tok)
      → level inner deepest loose (mark M.Now ∷ mark M.RightBracket ∷ rest) ≡ Some (got now 1 (mark M.RightBracket ∷ rest))
  unfolding level
  now_level zero rest = steps_stay deepest (got now 1 (mark M.RightBracket ∷ rest)) refl
  now_level (suc loose) rest =
      above inner deepest loose (mark M.Now ∷ mark M.RightBracket ∷ rest) (bare_by (prefix_of (suc loose)) (mark M.RightBracket ∷ rest))
      ∙ ap (λ reading. reading >>= rise inner deepest (suc loose)) (now_level loose rest)
      ∙ rise_stays (suc loose) (got now 1 (mark M.RightBracket ∷ rest)) refl

now_inside : (deepest : ℕ) (rest : List Tok) → 0 < deepest
    → up_to (read_tree deepest) deepest M.RightBracket (mark M.Now ∷ mark M.RightBracket ∷ rest) ≡ Some (got now 1 rest)
unfolding read_tree
now_inside zero rest some_deep = absurd (omega arith)
now_inside (suc deepest) rest some_deep =
    ap (λ reading. reading >>= closed_by_mark M.RightBracket) (now_level (read_tree deepest) deepest 7 rest)

kept_is : (test : Bool) (tokens_here rest : List Tok) → kept test tokens_here ≡ Some rest → (test ≡ true) × (tokens_here ≡ rest)
kept_is true tokens_here rest same_kept = (refl, ap (λ found. if_found found tokens_here (λ them. them)) same_kept)
kept_is false tokens_here rest same_kept = absurd (cc same_kept)

behind_is : (a_mark : Mark) (tokens_here rest : List Tok) → behind a_mark tokens_here ≡ Some rest → tokens_here ≡ mark a_mark ∷ rest
behind_is a_mark [] rest stands = absurd (cc stands)
behind_is a_mark (mark other_mark ∷ tokens_here) rest stands =
    let alike = kept_is (same a_mark other_mark) tokens_here rest stands in
    rw (sym (same_mark a_mark other_mark alike.0), alike.1) refl
behind_is a_mark (word its_bytes ∷ tokens_here) rest stands = absurd (cc stands)
behind_is a_mark (digits number ∷ tokens_here) rest stands = absurd (cc stands)
behind_is a_mark (text its_bytes ∷ tokens_here) rest stands = absurd (cc stands)

by_first : (found : Option (List Tok)) (a_mark : Mark) (tokens_here rest : List Tok) → behind M.Now tokens_here ≡ found
    → (found >>= behind a_mark) ≡ Some rest → tokens_here ≡ mark M.Now ∷ mark a_mark ∷ rest
by_first None a_mark tokens_here rest first stands = absurd (cc stands)
by_first (Some further) a_mark tokens_here rest first stands =
    behind_is M.Now tokens_here further first ∙ ap (λ them. mark M.Now ∷ them) (behind_is a_mark further rest stands)

pub now_reads : (deepest : ℕ) (tokens_here rest : List Tok) → 0 < deepest → now_before M.RightBracket tokens_here ≡ Some rest
    → up_to (read_tree deepest) deepest M.RightBracket tokens_here ≡ Some (got now 1 rest)
now_reads deepest tokens_here rest some_deep stands =
    rw (by_first (behind M.Now tokens_here) M.RightBracket tokens_here rest refl stands) (now_inside deepest rest some_deep)
