-- Within the crate: how statements are read.
use Rattle.std.specs.Prelude.{◌+◌, ◌++◌, ℕ, zero, suc, ℤ, pos, Bool, true, false, if◌then◌else◌, List, [], ◌∷◌, max, length, Option, Some, None}
use Rattle.rpl_tree.specs.Tree.{Act, Acts, assign, branch, with_name, no_acts, act}
use Rattle.rpl_parse.specs.declared.token.Mark.{Mark}
use Rattle.rpl_parse.specs.declared.token.Mark.TheVariants as M
use Rattle.rpl_parse.specs.Tokens.{Tok, mark, word, digits}
use Rattle.rpl_parse.specs.Reading.{◌>>=◌, Read, read_tree, behind, behind_name, name_before, closed_by_mark, if_found}

abbrev pub acts_of : List Act → Acts
acts_of [] = no_acts
acts_of (a ∷ more) = act a (acts_of more)

-- statements, how deep they are at most, and the tokens behind them
pub record Done : Type 0 where
  pub acts : List Act
  pub most : ℕ
  pub left : List Tok

abbrev pub done : List Act → ℕ → List Tok → Done
done xs d ts = record { acts = xs; most = d; left = ts }

-- one statement, its depth, and the tokens behind it
pub record Step : Type 0 where
  pub new : Act
  pub deep : ℕ
  pub rest : List Tok

abbrev pub read_step : Act → ℕ → List Tok → Step
read_step a d ts = record { new = a; deep = d; rest = ts }

-- a number, and the tokens behind it
pub record Numbered : Type 0 where
  pub value : ℤ
  pub next : List Tok

abbrev pub behind_number : List Tok → Option Numbered
behind_number (digits z ∷ ts) = Some (record { value = z; next = ts })
behind_number _ = None

abbrev pub ahead_of : List Tok → Option Numbered
ahead_of ts = if_found (behind M.Plus ts) (Some (record { value = pos 0; next = ts })) behind_number

-- what is set, behind the name of its object
pub record Target : Type 0 where
  pub slot : List ℕ
  pub ahead : ℤ
  pub next : List Tok

abbrev pub dated : List ℕ → List Tok → Option Target
dated s ts = behind M.LeftBracket ts >>= behind M.Now >>= ahead_of >>= (λ n. behind M.RightBracket n.next >>= behind M.Assign >>= (λ us. Some (record { slot = s; ahead = n.value; next = us })))

abbrev pub target_read : List Tok → Option Target
target_read ts = behind M.Dot ts >>= behind_name >>= (λ s. dated s.called s.next)

-- whether a statement begins
abbrev pub begins_act : List Tok → Bool
begins_act (word n ∷ ts) = true
begins_act (mark M.If ∷ ts) = true
begins_act (mark M.With ∷ ts) = true
begins_act _ = false

-- value reads the values in a statement, and inner the statements
module _ (value : List Tok → Read) (inner : List Tok → Option Done) where
  abbrev pub assigns : List ℕ → List Tok → Option Step
  assigns o ts = target_read ts >>= (λ t. value t.next >>= closed_by_mark M.Semicolon >>= (λ e. Some (read_step (assign o t.slot t.ahead e.tree) (e.deep + 1) e.rest)))

  abbrev pub ended : Mark → Done → Option Done
  ended m a = behind m a.left >>= (λ us. Some (done a.acts a.most us))

  abbrev pub others : List Tok → Option Done
  others ts = if_found (behind M.Else ts) (Some (done [] 0 ts)) inner

  abbrev pub branches : List Tok → Option Step
  branches ts = value ts >>= closed_by_mark M.Then >>= (λ c. inner c.rest >>= (λ y. others y.left >>= ended M.EndIf >>= (λ n.
      Some (read_step (branch c.tree (acts_of y.acts) (acts_of n.acts)) (max (max c.deep y.most) n.most + 1) n.left))))

  abbrev pub withs : List Tok → Option Step
  withs ts = name_before M.Assign ts >>= (λ x. value x.next >>= closed_by_mark M.Do >>= (λ e. inner e.rest >>= ended M.EndWith >>= (λ b.
      Some (read_step (with_name x.called e.tree (acts_of b.acts)) (max e.deep b.most + 1) b.left))))

  -- one statement: none begins, or it isn't read, or it is
  abbrev pub one_act : List Tok → Option (Option Step)
  one_act ts = if_found (behind_name ts)
      (if_found (behind M.If ts)
      (if_found (behind M.With ts) (Some None) (λ us. withs us >>= (λ x. Some (Some x))))
      (λ us. branches us >>= (λ x. Some (Some x))))
      (λ o. assigns o.called o.next >>= (λ x. Some (Some x)))

-- where there is no room for depth
abbrev pub no_room : List Tok → Option (Option Step)
no_room ts = if begins_act ts then None else Some None

abbrev pub with_act : Done → Step → Done
with_act a x = done (a.acts ++ x.new ∷ []) (max a.most x.deep) x.rest

module _ (one : List Tok → Option (Option Step)) where
  unfoldable pub more_acts : ℕ → Done → Option Done
  more_acts zero a = Some a
  more_acts (suc n) a = one a.left >>= (λ o. if_found o (Some a) (λ x. more_acts n (with_act a x)))

-- statements that are at most so deep
unfoldable pub read_acts : ℕ → List Tok → Option Done
read_acts zero ts = more_acts no_room (length ts) (done [] 0 ts)
read_acts (suc d) ts = more_acts (one_act (read_tree d 7) (read_acts d)) (length ts) (done [] 0 ts)

-- one statement that is at most so deep
abbrev pub act_at : ℕ → List Tok → Option (Option Step)
act_at zero ts = no_room ts
act_at (suc d) ts = one_act (read_tree d 7) (read_acts d) ts
