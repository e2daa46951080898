-- The levels above the one at which an expression begins.
use Rattle.rw_base.proofs.Common.{◌≡◌, ◌<◌, ◌≤◌, ◌-◌, ◌+◌, ◌∙◌, ℕ, zero, suc, List, Option, Some, None, IfSome, refl, ap, arith, subst, sym}
use Rattle.rpl_tree.specs.declared.words.OneWord.{OneWord}
use Rattle.rpl_parse.specs.Tokens.{Tok}
use Rattle.rpl_parse.specs.Grammar.{mark_of_one}
use Rattle.rpl_parse.specs.Reading.{Read, Got, StartsAt, behind, chain, climbed, if_found, level, prefix_of, prefixed, rise, turns_of, ◌>>=◌}

-- no word of the level stands first
abbrev pub IsBare : ℕ → List Tok → Type 0
IsBare loose tokens_here = IfSome (prefix_of loose) (λ w. behind (mark_of_one w) tokens_here ≡ None)

module _ (inner : ℕ → List Tok → Read) (deepest : ℕ) where
  nothing : (lower levels : ℕ) → climbed inner deepest lower levels None ≡ None
  unfolding climbed
  nothing lower zero = refl
  nothing lower (suc levels) = nothing (lower + 1) levels

  by_found : (found : Option OneWord) (loose : ℕ) (tokens_here : List Tok) (reading : Read)
      → IfSome found (λ w. behind (mark_of_one w) tokens_here ≡ None)
      → if_found found (reading >>= chain inner deepest loose (turns_of loose deepest))
      (λ w. if_found (behind (mark_of_one w) tokens_here) reading (λ further. prefixed inner deepest loose w further))
      ≡ (reading >>= (λ g. if_found found (chain inner deepest loose (turns_of loose deepest) g) (λ w. Some g)))
  by_found None loose tokens_here reading bare = refl
  by_found (Some its_word) loose tokens_here None bare = rw bare refl
  by_found (Some its_word) loose tokens_here (Some so_read) bare = rw bare refl

  -- a level whose word doesn't stand first goes on from the one below
  pub above : (loose : ℕ) (tokens_here : List Tok) → IsBare (suc loose) tokens_here
      → level inner deepest (suc loose) tokens_here ≡ (level inner deepest loose tokens_here >>= rise inner deepest (suc loose))
  unfolding level
  above loose tokens_here bare = by_found (prefix_of (suc loose)) (suc loose) tokens_here (level inner deepest loose tokens_here) bare

  above_by : (level_there loose : ℕ) (tokens_here : List Tok) → level_there ≡ suc loose → IsBare level_there tokens_here
      → level inner deepest level_there tokens_here ≡ (level inner deepest loose tokens_here >>= rise inner deepest level_there)
  above_by level_there loose tokens_here m_is bare =
      subst (λ levels. IsBare levels tokens_here
      → level inner deepest levels tokens_here ≡ (level inner deepest loose tokens_here >>= rise inner deepest levels)) (sym m_is)
      (above loose tokens_here) bare

  climbs : (levels lower : ℕ) (tokens_here : List Tok) → ((between : ℕ) → lower < between → between ≤ lower + levels → IsBare between tokens_here)
      → level inner deepest (lower + levels) tokens_here ≡ climbed inner deepest lower levels
      (level inner deepest lower tokens_here)
  unfolding climbed
  climbs zero lower tokens_here bare = ap (λ level_there. level inner deepest level_there tokens_here) (omega arith)
  climbs (suc levels) lower tokens_here bare =
      let same : lower + suc levels ≡ lower + 1 + levels = omega arith in
      ap (λ level_there. level inner deepest level_there tokens_here) same
      ∙ climbs levels (lower + 1) tokens_here (λ between less no_more. bare between (omega (arith, less)) (omega (arith, no_more)))
      ∙ ap (climbed inner deepest (lower + 1) levels)
      (above_by (lower + 1) lower tokens_here (omega arith) (bare (lower + 1) (omega arith) (omega arith)))

  pub from_start : (loose start : ℕ) (tokens_here : List Tok) → StartsAt loose tokens_here start
      → level inner deepest loose tokens_here ≡ climbed inner deepest start (loose - start) (level inner deepest start tokens_here)
  from_start loose start tokens_here starts =
      let same : loose ≡ start + (loose - start) = omega (arith, starts.up_to) in
      ap (λ level_there. level inner deepest level_there tokens_here) same
      ∙ climbs (loose - start) start tokens_here (λ between less no_more. starts.bare between less (omega (arith, no_more, starts.up_to)))

  pub fails_from : (loose start : ℕ) (tokens_here : List Tok) → StartsAt loose tokens_here start → level inner deepest start tokens_here ≡ None
      → level inner deepest loose tokens_here ≡ None
  fails_from loose start tokens_here starts none =
      from_start loose start tokens_here starts ∙ ap (climbed inner deepest start (loose - start)) none ∙ nothing start (loose - start)

  pub climb_goes : (lower loose : ℕ) (so_read risen : Got) → lower < loose → rise inner deepest (lower + 1) so_read ≡ Some risen
      → climbed inner deepest lower (loose - lower) (Some so_read) ≡ climbed inner deepest (lower + 1) (loose - (lower + 1)) (Some risen)
  unfolding climbed
  climb_goes lower loose so_read risen less reads =
      let next_levels : loose - lower ≡ suc (loose - (lower + 1)) = omega (arith, less) in
      ap (λ levels. climbed inner deepest lower levels (Some so_read)) next_levels
      ∙ ap (climbed inner deepest (lower + 1) (loose - (lower + 1))) reads

  pub climb_fails : (lower loose : ℕ) (so_read : Got) → lower < loose → rise inner deepest (lower + 1) so_read ≡ None
      → climbed inner deepest lower (loose - lower) (Some so_read) ≡ None
  unfolding climbed
  climb_fails lower loose so_read less reads_none =
      let next_levels : loose - lower ≡ suc (loose - (lower + 1)) = omega (arith, less) in
      ap (λ levels. climbed inner deepest lower levels (Some so_read)) next_levels
      ∙ ap (climbed inner deepest (lower + 1) (loose - (lower + 1))) reads_none ∙ nothing (lower + 1) (loose - (lower + 1))
