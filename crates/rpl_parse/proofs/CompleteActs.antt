-- What statements are in the grammar are read, to those very trees.
use Rattle.rw_base.proofs.Common.{◌≡◌, ◌<◌, ◌≤◌, ◌+◌, ◌∙◌, ◌++◌, ℕ, ℤ, zero, suc, false, List, [], ◌∷◌, length, max, Some, None, refl, sym, ap, subst}
use Rattle.rw_base.proofs.Common.{arith, inl, inr}
use Rattle.std.proofs.lemmas.List.{append-nil, append_assoc}
use Rattle.rpl_tree.specs.Tree.{Tree, Act, Acts, assign, branch, with_name, no_acts, act}
use Rattle.rpl_parse.specs.declared.token.Mark.{Mark}
use Rattle.rpl_parse.specs.declared.token.Mark.TheVariants as M
use Rattle.rpl_parse.specs.Tokens.{Tok, mark, word, digits, same}
use Rattle.rpl_tree.specs.Depth.{depth, act_depth, acts_depth}
use Rattle.rpl_parse.specs.Grammar.{Part, ◌⨾◌, sign, token, Spells}
use Rattle.rpl_parse.specs.Statements.{SpellsAct, SpellsActs, if_none, if_zero, ◌or◌}
use Rattle.rpl_parse.specs.Reading.{got, ◌>>=◌, behind, behind_name, closed_by_mark, read_tree}
use Rattle.rpl_parse.specs.ReadingActs.{Done, done, read_step, behind_number, ahead_of, dated, acts_of, with_act, assigns, others, branches, withs}
use Rattle.rpl_parse.specs.ReadingActs.{one_act, no_room, more_acts, read_acts}
use Rattle.rpl_parse.proofs.Sound.{max_three}
use Rattle.rpl_parse.proofs.Beginnings.{Shrinks, one_shrinks, shrinks_then, mark_then, shrinks, behind_here, name_here, name_here_before, not_here}
use Rattle.rpl_parse.proofs.Complete.{Stops, Closes, closing, complete, Reads, loose_all, ends_then, ends_do}
use Rattle.rpl_parse.proofs.TurnsActs.{acts_stop, acts_turn}

-- Statements leave no more tokens than there were.

or_shrinks : (first_part second_part : Part) → Shrinks first_part → Shrinks second_part → Shrinks (first_part or second_part)
or_shrinks first_part second_part first_part_shrinks second_part_shrinks tokens_here rest (inl spells) = first_part_shrinks tokens_here rest spells
or_shrinks first_part second_part first_part_shrinks second_part_shrinks tokens_here rest (inr spells) = second_part_shrinks tokens_here rest spells

zero_shrinks : (number : ℤ) → Shrinks (if_zero number)
zero_shrinks number tokens_here rest none_ahead = let counted : length tokens_here ≡ length rest = ap length none_ahead.1 in omega arith

none_shrinks : (statements : Acts) → Shrinks (if_none statements)
none_shrinks no_acts tokens_here rest none_there = let counted : length tokens_here ≡ length rest = ap length none_there in omega arith
none_shrinks (act first more) tokens_here rest none_there = absurd none_there

abbrev pub Ahead : ℤ → Part
Ahead ahead = if_zero ahead or (sign M.Plus ⨾ token (digits ahead))

pub ahead_shrinks : (ahead : ℤ) → Shrinks (Ahead ahead)
ahead_shrinks ahead = or_shrinks (if_zero ahead) _ (zero_shrinks ahead) (mark_then (mark M.Plus) _ (one_shrinks (digits ahead)))

-- what of an assignment follows the name of its object
abbrev AssignedTo : List ℕ → ℤ → Tree → Part
AssignedTo slot_name ahead value_tree =
    sign M.Dot ⨾ token (word slot_name) ⨾ sign M.LeftBracket ⨾ sign M.Now ⨾ Ahead ahead ⨾ sign M.RightBracket ⨾ sign M.Assign ⨾ Spells value_tree
    ⨾ sign M.Semicolon

assigned_shrinks : (slot_name : List ℕ) (ahead : ℤ) (value_tree : Tree) → Shrinks (AssignedTo slot_name ahead value_tree)
assigned_shrinks slot_name ahead value_tree =
    mark_then (mark M.Dot) _ (mark_then (word slot_name) _ (mark_then (mark M.LeftBracket) _ (mark_then (mark M.Now) _
    (shrinks_then (Ahead ahead) _ (ahead_shrinks ahead) (mark_then (mark M.RightBracket) _ (mark_then (mark M.Assign) _
    (shrinks_then (Spells value_tree) _ (shrinks value_tree) (one_shrinks (mark M.Semicolon)))))))))

branch_shrinks : (condition : Tree) (first second : Acts) → Shrinks (SpellsActs first) → Shrinks (SpellsActs second)
    → Shrinks (Spells condition ⨾ sign M.Then ⨾ SpellsActs first ⨾ (if_none second or (sign M.Else ⨾ SpellsActs second)) ⨾ sign M.EndIf)
branch_shrinks condition first second first_shrink second_shrink =
    shrinks_then (Spells condition) _ (shrinks condition) (mark_then (mark M.Then) _ (shrinks_then (SpellsActs first) _ first_shrink
    (shrinks_then (if_none second or (sign M.Else ⨾ SpellsActs second)) _
    (or_shrinks (if_none second) _ (none_shrinks second) (mark_then (mark M.Else) _ second_shrink))
    (one_shrinks (mark M.EndIf)))))

with_shrinks : (new_name : List ℕ) (value_tree : Tree) (body : Acts) → Shrinks (SpellsActs body)
    → Shrinks (token (word new_name) ⨾ sign M.Assign ⨾ Spells value_tree ⨾ sign M.Do ⨾ SpellsActs body ⨾ sign M.EndWith)
with_shrinks new_name value_tree body body_shrinks =
    mark_then (word new_name) _ (mark_then (mark M.Assign) _ (shrinks_then (Spells value_tree) _ (shrinks value_tree) (mark_then (mark M.Do) _
    (shrinks_then (SpellsActs body) _ body_shrinks (one_shrinks (mark M.EndWith))))))

mutual
  act_shrinks : (statement : Act) → Shrinks (SpellsAct statement)
  act_shrinks (assign object slot_name ahead value_tree) = mark_then (word object) _ (assigned_shrinks slot_name ahead value_tree)
  act_shrinks (branch condition first second) =
      mark_then (mark M.If) _ (branch_shrinks condition first second (acts_shrink first) (acts_shrink second))
  act_shrinks (with_name new_name value_tree body) = mark_then (mark M.With) _ (with_shrinks new_name value_tree body (acts_shrink body))

  acts_shrink : (statements : Acts) → Shrinks (SpellsActs statements)
  acts_shrink no_acts = λ tokens_here rest tokens_are. let counted : length tokens_here ≡ length rest = ap length tokens_are in omega arith
  acts_shrink (act first more) = shrinks_then (SpellsAct first) _ (act_shrinks first) (acts_shrink more)

pub list_acts : Acts → List Act
list_acts no_acts = []
list_acts (act first more) = first ∷ list_acts more

pub acts_back : (statements : Acts) → acts_of (list_acts statements) ≡ statements
unfolding list_acts
acts_back no_acts = refl
acts_back (act first more) = ap (act first) (acts_back more)

count_acts : Acts → ℕ
count_acts no_acts = 0
count_acts (act first more) = suc (count_acts more)

takes_one : (statement : Act) (tokens_here rest : List Tok) → SpellsAct statement tokens_here rest → length rest < length tokens_here
takes_one (assign object slot_name ahead value_tree) tokens_here rest spells_act =
    let counted : length tokens_here ≡ suc (length spells_act.0) = ap length spells_act.1 in
    let others_fit = assigned_shrinks slot_name ahead value_tree spells_act.0 rest spells_act.2 in omega arith
takes_one (branch condition first second) tokens_here rest spells_act =
    let counted : length tokens_here ≡ suc (length spells_act.0) = ap length spells_act.1 in
    let others_fit = branch_shrinks condition first second (acts_shrink first) (acts_shrink second) spells_act.0 rest spells_act.2 in omega arith
takes_one (with_name new_name value_tree body) tokens_here rest spells_act =
    let counted : length tokens_here ≡ suc (length spells_act.0) = ap length spells_act.1 in
    let others_fit = with_shrinks new_name value_tree body (acts_shrink body) spells_act.0 rest spells_act.2 in omega arith

count_fits : (statements : Acts) (tokens_here rest : List Tok) → SpellsActs statements tokens_here rest → count_acts statements ≤ length tokens_here
unfolding count_acts
count_fits no_acts tokens_here rest spells_acts = omega arith
count_fits (act first more) tokens_here rest spells_acts =
    let counted = takes_one first tokens_here spells_acts.0 spells_acts.1 in
    let others_fit = count_fits more spells_acts.0 rest spells_acts.2 in omega arith

-- what may follow statements: a mark with which none begins
pub record Ends (rest : List Tok) : Type 0 where
  pub no_name : behind_name rest ≡ None
  pub no_if : behind M.If rest ≡ None
  pub no_with : behind M.With rest ≡ None
  pub no_act : no_room rest ≡ Some None

pub mark_ends : (a_mark : Mark) (tokens_here rest : List Tok) → same M.If a_mark ≡ false → same M.With a_mark ≡ false
    → ((further : List Tok) → no_room (mark a_mark ∷ further) ≡ Some None)
    → tokens_here ≡ mark a_mark ∷ rest → Ends tokens_here
mark_ends a_mark tokens_here rest not_if not_with no_act_there stands =
    record {
      no_name = rw stands refl;
      no_if = not_here M.If a_mark tokens_here rest not_if stands;
      no_with = not_here M.With a_mark tokens_here rest not_with stands;
      no_act = rw stands (no_act_there rest);
    }

ends_semicolon : Closes M.Semicolon
ends_semicolon = record { paren = refl; bracket = refl; dot = refl; no_operator = refl }

unfoldable pub ActsRead : ℕ → Type 0
ActsRead deepest =
    (statements : Acts) (tokens_here rest : List Tok) → acts_depth statements ≤ deepest → SpellsActs statements tokens_here rest → Ends rest
    → read_acts deepest tokens_here ≡ Some (done (list_acts statements) (acts_depth statements) rest)

pub value_reads : (deepest : ℕ) (a_mark : Mark) (expression : Tree) (tokens_here middle rest : List Tok) → depth expression ≤ deepest
    → Spells expression tokens_here middle → middle ≡ mark a_mark ∷ rest → Closes a_mark
    → (read_tree deepest 7 tokens_here >>= closed_by_mark a_mark) ≡ Some (got expression (depth expression) rest)
unfolding Reads
value_reads deepest a_mark expression tokens_here middle rest shallow spells closes_at closes =
    let stops_there : Stops 7 middle = subst (λ l. Stops 7 l) (sym closes_at) (closing a_mark rest 7 closes) in
    rw (complete deepest 7 expression tokens_here middle (loose_all expression) shallow spells stops_there, behind_here a_mark middle rest closes_at)
    refl

pub number_here : (number : ℤ) (tokens_here further : List Tok) → tokens_here ≡ digits number ∷ further
    → behind_number tokens_here ≡ Some (record { value = number; next = further })
number_here number tokens_here further tokens_here_is = rw tokens_here_is refl

ahead_reads : (ahead : ℤ) (tokens_here middle rest : List Tok) → Ahead ahead tokens_here middle → middle ≡ mark M.RightBracket ∷ rest
    → ahead_of tokens_here ≡ Some (record { value = ahead; next = middle })
ahead_reads ahead tokens_here middle rest (inl spells) closes_at =
    let plus_none : behind M.Plus tokens_here ≡ None = not_here M.Plus M.RightBracket tokens_here rest refl (spells.1 ∙ closes_at) in
    rw (plus_none, spells.0, spells.1) refl
ahead_reads ahead tokens_here middle rest (inr spells) closes_at =
    rw (behind_here M.Plus tokens_here spells.0 spells.1) (number_here ahead spells.0 middle spells.2)

dated_reads : (slot_name : List ℕ) (ahead : ℤ) (tokens_here rest : List Tok)
    → (sign M.LeftBracket ⨾ sign M.Now ⨾ Ahead ahead ⨾ sign M.RightBracket ⨾ sign M.Assign) tokens_here rest
    → dated slot_name tokens_here ≡ Some (record { slot = slot_name; ahead = ahead; next = rest })
dated_reads slot_name ahead tokens_here rest spells =
    let second_half = spells.2.2 in
    let last_part = second_half.2 in
    rw (
      behind_here M.LeftBracket tokens_here spells.0 spells.1,
      behind_here M.Now spells.0 spells.2.0 spells.2.1,
      ahead_reads ahead spells.2.0 second_half.0 last_part.0 second_half.1 last_part.1,
      behind_here M.RightBracket second_half.0 last_part.0 last_part.1,
      behind_here M.Assign last_part.0 rest last_part.2,
    ) refl

module _ (deepest : ℕ) (acts_read : ActsRead deepest) where
  others_read : (second : Acts) (tokens_here middle rest : List Tok) → acts_depth second ≤ deepest
      → (if_none second or (sign M.Else ⨾ SpellsActs second)) tokens_here middle
      → middle ≡ mark M.EndIf ∷ rest
      → others (read_tree deepest 7) (read_acts deepest) tokens_here ≡ Some (done (list_acts second) (acts_depth second) middle)
  unfolding ActsRead list_acts
  others_read no_acts tokens_here middle rest shallow (inl spells) closes_at =
      let stands : tokens_here ≡ mark M.EndIf ∷ rest = spells ∙ closes_at in
      let else_none : behind M.Else tokens_here ≡ None = rw stands refl in
      rw (else_none, spells) refl
  others_read (act first more) tokens_here middle rest shallow (inl spells) closes_at = absurd spells
  others_read second tokens_here middle rest shallow (inr spells) closes_at =
      rw (behind_here M.Else tokens_here spells.0 spells.1)
      (acts_read second spells.0 middle shallow spells.2 (mark_ends M.EndIf middle rest refl refl (λ further. refl) closes_at))

  -- what follows the first branch
  then_ends : (second : Acts) (tokens_here middle rest : List Tok) → (if_none second or (sign M.Else ⨾ SpellsActs second)) tokens_here middle
      → middle ≡ mark M.EndIf ∷ rest → Ends tokens_here
  then_ends no_acts tokens_here middle rest (inl spells) closes_at =
      mark_ends M.EndIf tokens_here rest refl refl (λ further. refl) (spells ∙ closes_at)
  then_ends (act first more) tokens_here middle rest (inl spells) closes_at = absurd spells
  then_ends second tokens_here middle rest (inr spells) closes_at = mark_ends M.Else tokens_here spells.0 refl refl (λ further. refl) spells.1

  assign_reads : (object slot_name : List ℕ) (ahead : ℤ) (value_tree : Tree) (tokens_here rest : List Tok) → depth value_tree ≤ deepest
      → AssignedTo slot_name ahead value_tree tokens_here rest
      → assigns (read_tree deepest 7) (read_acts deepest) object tokens_here
      ≡ Some (read_step (assign object slot_name ahead value_tree) (depth value_tree + 1) rest)
  assign_reads object slot_name ahead value_tree tokens_here rest shallow assigned_to =
      let date_part = assigned_to.2.2 in
      let value_part = date_part.2.2 in
      let end_part = value_part.2.2 in
      let date = dated_reads slot_name ahead assigned_to.2.0 end_part.0
      (date_part.0, date_part.1, (date_part.2.0, date_part.2.1, (value_part.0, value_part.1, (value_part.2.0, value_part.2.1, end_part.1)))) in
      rw (
        behind_here M.Dot tokens_here assigned_to.0 assigned_to.1,
        name_here slot_name assigned_to.0 assigned_to.2.0 assigned_to.2.1,
        date,
        value_reads deepest M.Semicolon value_tree end_part.0 end_part.2.0 rest shallow end_part.2.1 end_part.2.2 ends_semicolon,
      ) refl

  branch_reads : (condition : Tree) (first second : Acts) (tokens_here rest : List Tok) → act_depth (branch condition first second) ≤ suc deepest
      → (spells : (Spells condition ⨾ sign M.Then ⨾ SpellsActs first ⨾ (if_none second or (sign M.Else ⨾ SpellsActs second)) ⨾ sign M.EndIf)
      tokens_here rest)
      → branches (read_tree deepest 7) (read_acts deepest) tokens_here
      ≡ Some (read_step (branch condition first second) (act_depth (branch condition first second)) rest)
  unfolding ActsRead
  branch_reads condition first second tokens_here rest shallow spells =
      let then_part = spells.2.2 in
      let else_part = then_part.2 in
      rw (
        value_reads deepest M.Then condition tokens_here spells.0 spells.2.0 (omega arith) spells.1 spells.2.1 ends_then,
        acts_read first spells.2.0 then_part.0 (omega arith) then_part.1 (then_ends second then_part.0 else_part.0 rest else_part.1 else_part.2),
        others_read second then_part.0 else_part.0 rest (omega arith) else_part.1 else_part.2,
        behind_here M.EndIf else_part.0 rest else_part.2,
        acts_back first,
        acts_back second,
      ) refl

  with_reads : (new_name : List ℕ) (value_tree : Tree) (body : Acts) (tokens_here rest : List Tok)
      → act_depth (with_name new_name value_tree body) ≤ suc deepest
      → (spells : (token (word new_name) ⨾ sign M.Assign ⨾ Spells value_tree ⨾ sign M.Do ⨾ SpellsActs body ⨾ sign M.EndWith) tokens_here rest)
      → withs (read_tree deepest 7) (read_acts deepest) tokens_here
      ≡ Some (read_step (with_name new_name value_tree body) (act_depth (with_name new_name value_tree body)) rest)
  unfolding ActsRead
  with_reads new_name value_tree body tokens_here rest shallow spells =
      let date_part = spells.2.2 in
      let value_part = date_part.2.2 in
      rw (
        name_here_before M.Assign new_name tokens_here spells.0 spells.2.0 spells.1 spells.2.1,
        value_reads deepest M.Do value_tree spells.2.0 date_part.0 date_part.2.0 (omega arith) date_part.1 date_part.2.1 ends_do,
        acts_read body date_part.2.0 value_part.0 (omega arith) value_part.1
            (mark_ends M.EndWith value_part.0 rest refl refl (λ further. refl) value_part.2),
        behind_here M.EndWith value_part.0 rest value_part.2,
        acts_back body,
      ) refl

  one_reads : (statement : Act) (tokens_here rest : List Tok) → act_depth statement ≤ suc deepest → SpellsAct statement tokens_here rest
      → one_act (read_tree deepest 7) (read_acts deepest) tokens_here ≡ Some (Some (read_step statement (act_depth statement) rest))
  one_reads (assign object slot_name ahead value_tree) tokens_here rest shallow spells_act =
      rw (
        name_here object tokens_here spells_act.0 spells_act.1,
        assign_reads object slot_name ahead value_tree spells_act.0 rest (omega arith) spells_act.2,
      ) refl
  one_reads (branch condition first second) tokens_here rest shallow spells_act =
      let name_none : behind_name tokens_here ≡ None = rw spells_act.1 refl in
      rw (
        name_none,
        behind_here M.If tokens_here spells_act.0 spells_act.1,
        branch_reads condition first second spells_act.0 rest shallow spells_act.2,
      ) refl
  one_reads (with_name new_name value_tree body) tokens_here rest shallow spells_act =
      let name_none : behind_name tokens_here ≡ None = rw spells_act.1 refl in
      let if_none_there : behind M.If tokens_here ≡ None = not_here M.If M.With tokens_here spells_act.0 refl spells_act.1 in
      rw (
        name_none,
        if_none_there,
        behind_here M.With tokens_here spells_act.0 spells_act.1,
        with_reads new_name value_tree body spells_act.0 rest shallow spells_act.2,
      ) refl

  none_reads : (rest : List Tok) → Ends rest → one_act (read_tree deepest 7) (read_acts deepest) rest ≡ Some None
  none_reads rest ends = rw (ends.no_name, ends.no_if, ends.no_with) refl

  more_read : (statements : Acts) (turns : ℕ) (so_far : Done) (rest : List Tok) → acts_depth statements ≤ suc deepest
      → SpellsActs statements so_far.left rest → count_acts statements ≤ turns → Ends rest
      → more_acts (one_act (read_tree deepest 7) (read_acts deepest)) turns so_far
      ≡ Some (done (so_far.acts ++ list_acts statements) (max so_far.most (acts_depth statements)) rest)
  unfolding list_acts count_acts
  more_read no_acts turns so_far rest shallow spells_acts fits_so ends =
      let most_is : max so_far.most 0 ≡ so_far.most = omega arith in
      acts_stop (one_act (read_tree deepest 7) (read_acts deepest)) turns so_far (none_reads so_far.left (subst Ends (sym spells_acts) ends))
      ∙ rw (append-nil so_far.acts, most_is, ← spells_acts) refl
  more_read (act first more) zero so_far rest shallow spells_acts fits_so ends = absurd (omega arith)
  more_read (act first more) (suc turns) so_far rest shallow spells_acts fits_so ends =
      let new = read_step first (act_depth first) spells_acts.0 in
      acts_turn (one_act (read_tree deepest 7) (read_acts deepest)) turns so_far new
      (one_reads first so_far.left spells_acts.0 (omega arith) spells_acts.1)
      ∙ more_read more turns (with_act so_far new) rest (omega arith) spells_acts.2 (omega arith) ends
      ∙ rw (append_assoc so_far.acts (first ∷ []) (list_acts more), max_three so_far.most (act_depth first) (acts_depth more)) refl

act_pos : (statement : Act) → 1 ≤ act_depth statement
act_pos (assign object slot_name ahead value_tree) = omega arith
act_pos statement = omega arith

max_zero : (n : ℕ) → max 0 n ≡ n
max_zero n = omega arith

none_deep : (statements : Acts) (tokens_here rest : List Tok) → acts_depth statements ≤ 0 → SpellsActs statements tokens_here rest → Ends rest
    → read_acts 0 tokens_here ≡ Some (done (list_acts statements) (acts_depth statements) rest)
unfolding read_acts list_acts
none_deep no_acts tokens_here rest shallow spells_acts ends =
    acts_stop no_room (length tokens_here) (done [] 0 tokens_here) (rw spells_acts ends.no_act) ∙ rw spells_acts refl
none_deep (act first more) tokens_here rest shallow spells_acts ends = let some_depth = act_pos first in absurd (omega arith)

pub acts_complete : (deepest : ℕ) → ActsRead deepest
unfolding ActsRead read_acts list_acts
acts_complete zero = λ statements tokens_here rest shallow spells_acts ends. none_deep statements tokens_here rest shallow spells_acts ends
acts_complete (suc deepest) =
    λ statements tokens_here rest shallow spells_acts ends.
    more_read deepest (acts_complete deepest) statements (length tokens_here) (done [] 0 tokens_here) rest shallow spells_acts
    (count_fits statements tokens_here rest spells_acts) ends
    ∙ ap (λ most. Some (done (list_acts statements) most rest)) (max_zero (acts_depth statements))
