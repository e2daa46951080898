-- What statements are read is in the grammar.
use Rattle.rw_base.proofs.Common.{◌≡◌, ◌≤◌, ◌+◌, ◌∙◌, ◌++◌, ℕ, zero, suc, Bool, true, false, if◌then◌else◌, List, [], ◌∷◌, length, max, Option, Some}
use Rattle.rw_base.proofs.Common.{None, refl, sym, ap, subst, arith, inl, inr}
use Rattle.std.proofs.lemmas.List.{append-nil, append_assoc}
use Rattle.rpl_tree.specs.Tree.{Act, assign, branch, with_name}
use Rattle.rpl_parse.specs.declared.token.Mark.{Mark}
use Rattle.rpl_parse.specs.declared.token.Mark.TheVariants as M
use Rattle.rpl_parse.specs.Tokens.{Tok, mark, word, digits, text}
use Rattle.rpl_tree.specs.Depth.{depth, act_depth, acts_depth}
use Rattle.rpl_parse.specs.Grammar.{◌⨾◌, sign, token, Spells}
use Rattle.rpl_parse.specs.Statements.{SpellsAct, SpellsActs, if_none, if_zero, ◌or◌}
use Rattle.rpl_parse.specs.Reading.{Read, Got, ◌>>=◌, behind, behind_name, name_before, closed_by_mark, if_found, read_tree}
use Rattle.rpl_parse.specs.ReadingActs.{Done, done, Step, read_step, Numbered, behind_number, ahead_of, Target, dated, target_read, acts_of, with_act}
use Rattle.rpl_parse.specs.ReadingActs.{assigns, ended, others, branches, withs, one_act, no_room, begins_act, more_acts, read_acts}
use Rattle.rpl_parse.proofs.Sound.{some_one, and_then, found, behind_sound, name_sound, name_before_sound, sound, max_three, two_deep, three_deep}

record IsValue (deepest : ℕ) (a_mark : Mark) (tokens_here : List Tok) (so_read : Got) : Type 0 where
  spells : (Spells so_read.tree ⨾ sign a_mark) tokens_here so_read.rest
  deep : so_read.deep ≡ depth so_read.tree
  pub within : so_read.deep ≤ deepest

pub record IsActs (deepest : ℕ) (so_far all_done : Done) : Type 0 where
  pub more : List Act
  pub acts : all_done.acts ≡ so_far.acts ++ more
  pub spells : SpellsActs (acts_of more) so_far.left all_done.left
  pub most : all_done.most ≡ max so_far.most (acts_depth (acts_of more))
  pub within : so_far.most ≤ deepest → all_done.most ≤ deepest

record IsStep (deepest : ℕ) (tokens_here : List Tok) (a_step : Step) : Type 0 where
  spells : SpellsAct a_step.new tokens_here a_step.rest
  deep : a_step.deep ≡ act_depth a_step.new
  pub within : a_step.deep ≤ deepest

-- what is set, behind the name of its object
abbrev IsTarget : List Tok → Target → Type 0
IsTarget tokens_here target =
    (sign M.Dot ⨾ token (word target.slot) ⨾ sign M.LeftBracket ⨾ sign M.Now ⨾ (if_zero target.ahead or (sign M.Plus ⨾ token (digits target.ahead)))
    ⨾ sign
    M.RightBracket ⨾ sign M.Assign) tokens_here target.next

pub number_sound : (tokens_here : List Tok) (numbered_so : Numbered) → behind_number tokens_here ≡ Some numbered_so
    → tokens_here ≡ digits numbered_so.value ∷ numbered_so.next
number_sound [] numbered_so reads = absurd (cc reads)
number_sound (mark other_mark ∷ left_over) numbered_so reads = absurd (cc reads)
number_sound (word its_name ∷ left_over) numbered_so reads = absurd (cc reads)
number_sound (digits its_number ∷ left_over) numbered_so reads =
    subst (λ (any_number : Numbered). digits its_number ∷ left_over ≡ digits any_number.value ∷ any_number.next) (some_one _ numbered_so reads) refl
number_sound (text its_text ∷ left_over) numbered_so reads = absurd (cc reads)

ahead_sound : (tokens_here : List Tok) (numbered_so : Numbered) → ahead_of tokens_here ≡ Some numbered_so
    → (if_zero numbered_so.value or (sign M.Plus ⨾ token (digits numbered_so.value))) tokens_here numbered_so.next
ahead_sound tokens_here numbered_so reads = found (behind M.Plus tokens_here) _ _ numbered_so reads
    (λ none go.
    subst (λ (any_number : Numbered). (if_zero any_number.value or (sign M.Plus ⨾ token (digits any_number.value))) tokens_here any_number.next)
    (some_one _ numbered_so go) (inl (refl, refl)))
    (λ further stands go. inr (further, behind_sound M.Plus tokens_here further stands, number_sound further numbered_so go))

dated_sound : (slot_name : List ℕ) (tokens_here : List Tok) (target : Target) → dated slot_name tokens_here ≡ Some target
    → (target.slot ≡ slot_name)
    × (sign M.LeftBracket ⨾ sign M.Now ⨾ (if_zero target.ahead or (sign M.Plus ⨾ token (digits target.ahead))) ⨾ sign M.RightBracket ⨾ sign
    M.Assign) tokens_here target.next
dated_sound slot_name tokens_here target reads =
    let ahead_so = and_then (behind M.LeftBracket tokens_here >>= behind M.Now >>= ahead_of) _ target reads in
    let now_so = and_then (behind M.LeftBracket tokens_here >>= behind M.Now) ahead_of ahead_so.0 ahead_so.1 in
    let bracket_so = and_then (behind M.LeftBracket tokens_here) (behind M.Now) now_so.0 now_so.1 in
    let assign_so = and_then (behind M.RightBracket ahead_so.0.next >>= behind M.Assign) _ target ahead_so.2 in
    let close_so = and_then (behind M.RightBracket ahead_so.0.next) (behind M.Assign) assign_so.0 assign_so.1 in
    subst (λ (any_target : Target). (any_target.slot ≡ slot_name)
    × (sign M.LeftBracket ⨾ sign M.Now ⨾ (if_zero any_target.ahead or (sign M.Plus ⨾ token (digits any_target.ahead))) ⨾ sign
    M.RightBracket ⨾ sign M.Assign) tokens_here any_target.next)
    (some_one (record { slot = slot_name; ahead = ahead_so.0.value; next = assign_so.0 }) target assign_so.2) (
      refl,
      (
        bracket_so.0,
        behind_sound M.LeftBracket tokens_here bracket_so.0 bracket_so.1,
        (
          now_so.0,
          behind_sound M.Now bracket_so.0 now_so.0 bracket_so.2,
          (
            ahead_so.0.next,
            ahead_sound now_so.0 ahead_so.0 now_so.2,
            (close_so.0, behind_sound M.RightBracket ahead_so.0.next close_so.0 close_so.1, behind_sound M.Assign close_so.0 assign_so.0 close_so.2),
          ),
        ),
      ),
    )

target_sound : (tokens_here : List Tok) (target : Target) → target_read tokens_here ≡ Some target → IsTarget tokens_here target
target_sound tokens_here target reads =
    let slot_so = and_then (behind M.Dot tokens_here >>= behind_name) _ target reads in
    let dot_so = and_then (behind M.Dot tokens_here) behind_name slot_so.0 slot_so.1 in
    let dated_so = dated_sound slot_so.0.called slot_so.0.next target slot_so.2 in
    let name_so : dot_so.0 ≡ word target.slot ∷ slot_so.0.next = name_sound dot_so.0 slot_so.0 dot_so.2
    ∙ ap (λ x. word x ∷ slot_so.0.next) (sym dated_so.0) in
    (dot_so.0, behind_sound M.Dot tokens_here dot_so.0 dot_so.1, (slot_so.0.next, name_so, dated_so.1))

no_more : (deepest : ℕ) (so_far all_done : Done) → Some so_far ≡ Some all_done → IsActs deepest so_far all_done
no_more deepest so_far all_done alike =
    subst (IsActs deepest so_far) (some_one so_far all_done alike)
    (record { more = []; acts = sym (append-nil so_far.acts); spells = refl; most = omega arith; within = λ few_there. few_there })

module _ (deepest : ℕ) (value : List Tok → Read) (inner : List Tok → Option Done)
    (value_sound_there : (a_mark : Mark) (tokens_here : List Tok) (so_read : Got) → (value tokens_here >>= closed_by_mark a_mark) ≡ Some so_read
    → IsValue deepest a_mark tokens_here so_read)
    (inner_sound : (tokens_here : List Tok) (all_done : Done) → inner tokens_here ≡ Some all_done
    → IsActs deepest (done [] 0 tokens_here) all_done) where
  -- statements from the first on
  record IsBody (tokens_here : List Tok) (all_done : Done) : Type 0 where
    spells : SpellsActs (acts_of all_done.acts) tokens_here all_done.left
    most : all_done.most ≡ acts_depth (acts_of all_done.acts)
    within : all_done.most ≤ deepest

  body_sound : (tokens_here : List Tok) (all_done : Done) → inner tokens_here ≡ Some all_done → IsBody tokens_here all_done
  body_sound tokens_here all_done reads =
      let statements_sound = inner_sound tokens_here all_done reads in
      let all : all_done.acts ≡ statements_sound.more = statements_sound.acts in
      record {
        spells = subst (λ l. SpellsActs (acts_of l) tokens_here all_done.left) (sym all) statements_sound.spells;
        most = statements_sound.most
            ∙ subst (λ l. max 0 (acts_depth (acts_of statements_sound.more)) ≡ acts_depth (acts_of l)) (sym all) (omega arith);
        within = statements_sound.within (omega arith);
      }

  assigns_sound : (object : List ℕ) (tokens_here : List Tok) (a_step : Step) → assigns value inner object tokens_here ≡ Some a_step
      → IsStep (suc deepest) (word object ∷ tokens_here) a_step
  assigns_sound object tokens_here a_step reads =
      let target_so = and_then (target_read tokens_here) _ a_step reads in
      let value_so = and_then (value target_so.0.next >>= closed_by_mark M.Semicolon) _ a_step target_so.2 in
      let target_sound_there = target_sound tokens_here target_so.0 target_so.1 in
      let value_sound_so = value_sound_there M.Semicolon target_so.0.next value_so.0 value_so.1 in
      let value_within = value_sound_so.within in
      let date_part = target_sound_there.2.2.2 in
      let end_part = date_part.2.2 in
      subst (IsStep (suc deepest) (word object ∷ tokens_here))
      (some_one (read_step (assign object target_so.0.slot target_so.0.ahead value_so.0.tree) (value_so.0.deep + 1) value_so.0.rest) a_step
      value_so.2) (record {
        spells = (
          tokens_here,
          refl,
          (
            target_sound_there.0,
            target_sound_there.1,
            (
              target_sound_there.2.0,
              target_sound_there.2.1,
              (
                target_sound_there.2.2.0,
                target_sound_there.2.2.1,
                (
                  date_part.0,
                  date_part.1,
                  (date_part.2.0, date_part.2.1, (end_part.0, end_part.1, (target_so.0.next, end_part.2, value_sound_so.spells))),
                ),
              ),
            ),
          ),
        );
        deep = ap (λ n. n + 1) value_sound_so.deep;
        within = omega arith;
      })

  -- the branch that may be left out
  record IsOther (tokens_here : List Tok) (all_done : Done) : Type 0 where
    spells : (if_none (acts_of all_done.acts) or (sign M.Else ⨾ SpellsActs (acts_of all_done.acts))) tokens_here all_done.left
    most : all_done.most ≡ acts_depth (acts_of all_done.acts)
    within : all_done.most ≤ deepest

  others_sound : (tokens_here : List Tok) (all_done : Done) → others value inner tokens_here ≡ Some all_done → IsOther tokens_here all_done
  others_sound tokens_here all_done reads = found (behind M.Else tokens_here) (Some (done [] 0 tokens_here)) inner all_done reads
      (λ none same. subst (IsOther tokens_here) (some_one _ all_done same) (record { spells = inl refl; most = refl; within = omega arith }))
      (λ further stands go.
      let body_sound_there = body_sound further all_done go in
      record {
        spells = inr (further, behind_sound M.Else tokens_here further stands, body_sound_there.spells);
        most = body_sound_there.most;
        within = body_sound_there.within;
      })

  -- a mark behind statements
  ended_sound : (a_mark : Mark) (so_far all_done : Done) → ended value inner a_mark so_far ≡ Some all_done
      → (so_far.left ≡ mark a_mark ∷ all_done.left) × (all_done ≡ done so_far.acts so_far.most all_done.left)
  ended_sound a_mark so_far all_done reads =
      let mark_so = and_then (behind a_mark so_far.left) _ all_done reads in
      let same : done so_far.acts so_far.most mark_so.0 ≡ all_done = some_one _ all_done mark_so.2 in
      subst (λ (any_done : Done). (so_far.left ≡ mark a_mark ∷ any_done.left) × (any_done ≡ done so_far.acts so_far.most any_done.left)) same
      (behind_sound a_mark so_far.left mark_so.0 mark_so.1, refl)

  branches_sound : (tokens_here : List Tok) (a_step : Step) → branches value inner tokens_here ≡ Some a_step
      → IsStep (suc deepest) (mark M.If ∷ tokens_here) a_step
  branches_sound tokens_here a_step reads =
      let first_so = and_then (value tokens_here >>= closed_by_mark M.Then) _ a_step reads in
      let second_so = and_then (inner first_so.0.rest) _ a_step first_so.2 in
      let ended_so = and_then (others value inner second_so.0.left >>= ended value inner M.EndIf) _ a_step second_so.2 in
      let third_so = and_then (others value inner second_so.0.left) (ended value inner M.EndIf) ended_so.0 ended_so.1 in
      let first_sound = value_sound_there M.Then tokens_here first_so.0 first_so.1 in
      let second_sound = body_sound first_so.0.rest second_so.0 second_so.1 in
      let third_sound = others_sound second_so.0.left third_so.0 third_so.1 in
      let ended_sound_there = ended_sound M.EndIf third_so.0 ended_so.0 third_so.2 in
      let first_within = first_sound.within in
      let second_within = second_sound.within in
      let third_within = third_sound.within in
      let whole : IsStep (suc deepest) (mark M.If ∷ tokens_here)
      (read_step (branch first_so.0.tree (acts_of second_so.0.acts) (acts_of third_so.0.acts))
      (max (max first_so.0.deep second_so.0.most) third_so.0.most + 1) ended_so.0.left) = record {
        spells = (
          tokens_here,
          refl,
          (
            first_sound.spells.0,
            first_sound.spells.1,
            (
              first_so.0.rest,
              first_sound.spells.2,
              (second_so.0.left, second_sound.spells, (third_so.0.left, third_sound.spells, ended_sound_there.0)),
            ),
          ),
        );
        deep = three_deep first_sound.deep second_sound.most third_sound.most;
        within = omega arith;
      } in
      subst (IsStep (suc deepest) (mark M.If ∷ tokens_here)) (ap
      (λ (any_done : Done).
      read_step (branch first_so.0.tree (acts_of second_so.0.acts) (acts_of any_done.acts))
      (max (max first_so.0.deep second_so.0.most) any_done.most + 1) any_done.left) (sym ended_sound_there.1)
      ∙ some_one _ a_step ended_so.2) whole

  withs_sound : (tokens_here : List Tok) (a_step : Step) → withs value inner tokens_here ≡ Some a_step
      → IsStep (suc deepest) (mark M.With ∷ tokens_here) a_step
  withs_sound tokens_here a_step reads =
      let name_so = and_then (name_before M.Assign tokens_here) _ a_step reads in
      let first_so = and_then (value name_so.0.next >>= closed_by_mark M.Do) _ a_step name_so.2 in
      let ended_so = and_then (inner first_so.0.rest >>= ended value inner M.EndWith) _ a_step first_so.2 in
      let second_so = and_then (inner first_so.0.rest) (ended value inner M.EndWith) ended_so.0 ended_so.1 in
      let name_sound_there = name_before_sound M.Assign tokens_here name_so.0 name_so.1 in
      let first_sound = value_sound_there M.Do name_so.0.next first_so.0 first_so.1 in
      let second_sound = body_sound first_so.0.rest second_so.0 second_so.1 in
      let ended_sound_there = ended_sound M.EndWith second_so.0 ended_so.0 second_so.2 in
      let first_within = first_sound.within in
      let second_within = second_sound.within in
      let whole : IsStep (suc deepest) (mark M.With ∷ tokens_here)
      (read_step (with_name name_so.0.called first_so.0.tree (acts_of second_so.0.acts)) (max first_so.0.deep second_so.0.most + 1) ended_so.0.left) =
      record {
        spells = (
          tokens_here,
          refl,
          (
            name_sound_there.0,
            name_sound_there.1,
            (
              name_so.0.next,
              name_sound_there.2,
              (
                first_sound.spells.0,
                first_sound.spells.1,
                (first_so.0.rest, first_sound.spells.2, (second_so.0.left, second_sound.spells, ended_sound_there.0)),
              ),
            ),
          ),
        );
        deep = two_deep first_sound.deep second_sound.most;
        within = omega arith;
      } in
      subst (IsStep (suc deepest) (mark M.With ∷ tokens_here))
      (ap (λ (any_done : Done).
      read_step (with_name name_so.0.called first_so.0.tree (acts_of any_done.acts)) (max first_so.0.deep any_done.most + 1) any_done.left)
      (sym ended_sound_there.1)
      ∙ some_one _ a_step ended_so.2) whole

  two_somes : (found_there : Option Step) (a_step : Step) → (found_there >>= (λ y. Some (Some y))) ≡ Some (Some a_step) → found_there ≡ Some a_step
  two_somes None a_step reads = absurd (cc reads)
  two_somes (Some other_step) a_step reads = ap Some (some_one other_step a_step (some_one (Some other_step) (Some a_step) reads))

  one_sound : (tokens_here : List Tok) (a_step : Step) → one_act value inner tokens_here ≡ Some (Some a_step)
      → IsStep (suc deepest) tokens_here a_step
  one_sound tokens_here a_step reads = found (behind_name tokens_here) _ _ (Some a_step) reads
      (λ none go. found (behind M.If tokens_here) _ _ (Some a_step) go
      (λ none_there go_on. found (behind M.With tokens_here) _ _ (Some a_step) go_on
      (λ none3 same. absurd (cc (some_one _ _ same)))
      (λ further stands rest.
      subst (λ l. IsStep (suc deepest) l a_step) (sym (behind_sound M.With tokens_here further stands))
      (withs_sound further a_step (two_somes _ a_step rest))))
      (λ further stands rest.
      subst (λ l. IsStep (suc deepest) l a_step) (sym (behind_sound M.If tokens_here further stands))
      (branches_sound further a_step (two_somes _ a_step rest))))
      (λ object_there stands rest.
      subst (λ l. IsStep (suc deepest) l a_step) (sym (name_sound tokens_here object_there stands))
      (assigns_sound object_there.called object_there.next a_step (two_somes _ a_step rest)))

module _ (deepest : ℕ) (one : List Tok → Option (Option Step))
    (inner_sound : (tokens_here : List Tok) (a_step : Step) → one tokens_here ≡ Some (Some a_step) → IsStep deepest tokens_here a_step) where
  joined : (so_far : Done) (a_step : Step) (after_one : Done) → IsStep deepest so_far.left a_step → IsActs deepest (with_act so_far a_step) after_one
      → IsActs deepest so_far after_one
  joined so_far a_step after_one first_sound others_sound_there =
      record {
        more = a_step.new ∷ others_sound_there.more;
        acts = others_sound_there.acts ∙ append_assoc so_far.acts (a_step.new ∷ []) others_sound_there.more;
        spells = (a_step.rest, first_sound.spells, others_sound_there.spells);
        most =
            others_sound_there.most ∙ (ap (λ n. max (max so_far.most n) (acts_depth (acts_of others_sound_there.more))) first_sound.deep
            ∙ max_three so_far.most (act_depth a_step.new) (acts_depth (acts_of others_sound_there.more)));
        within = λ few_there. let first_within = first_sound.within in others_sound_there.within (omega arith);
      }

  more_sound : (turns : ℕ) (so_far all_done : Done) → more_acts one turns so_far ≡ Some all_done → IsActs deepest so_far all_done
  unfolding more_acts
  more_sound zero so_far all_done reads = no_more deepest so_far all_done reads
  more_sound (suc turns) so_far all_done reads =
      let one_so = and_then (one so_far.left) _ all_done reads in
      by_one one_so.0 one_so.1 one_so.2 (λ after_one reads_on. more_sound turns after_one all_done reads_on)
    where
      by_one : (found_there : Option Step) → one so_far.left ≡ Some found_there
          → if_found found_there (Some so_far) (λ x. more_acts one turns (with_act so_far x)) ≡ Some all_done
          → ((after_one : Done) → more_acts one turns after_one ≡ Some all_done → IsActs deepest after_one all_done) → IsActs deepest so_far all_done
      by_one None stands goes_on next = no_more deepest so_far all_done goes_on
      by_one (Some a_step) stands goes_on next =
          joined so_far a_step all_done (inner_sound so_far.left a_step stands) (next (with_act so_far a_step) goes_on)

value_sound : (deepest : ℕ) (a_mark : Mark) (tokens_here : List Tok) (so_read : Got)
    → (read_tree deepest 7 tokens_here >>= closed_by_mark a_mark) ≡ Some so_read → IsValue deepest a_mark tokens_here so_read
value_sound deepest a_mark tokens_here so_read reads =
    let value_so = and_then (read_tree deepest 7 tokens_here) (closed_by_mark a_mark) so_read reads in
    let mark_so = and_then (behind a_mark value_so.0.rest) _ so_read value_so.2 in
    let value_sound_there = sound deepest 7 tokens_here value_so.0 value_so.1 in
    subst (IsValue deepest a_mark tokens_here) (some_one _ so_read mark_so.2)
    (record {
      spells = (value_so.0.rest, value_sound_there.spells, behind_sound a_mark value_so.0.rest mark_so.0 mark_so.1);
      deep = value_sound_there.deep;
      within = value_sound_there.within;
    })

nothing_there : (tokens_here : List Tok) (a_step : Step) → no_room tokens_here ≡ Some (Some a_step) → IsStep 0 tokens_here a_step
nothing_there tokens_here a_step reads = by_test (begins_act tokens_here) reads
  where
    by_test : (test : Bool) → (if test then None else Some None) ≡ Some (Some a_step) → IsStep 0 tokens_here a_step
    by_test true reads_so = absurd (cc reads_so)
    by_test false reads_so = absurd (cc (some_one None (Some a_step) reads_so))

pub acts_sound : (deepest : ℕ) (tokens_here : List Tok) (all_done : Done) → read_acts deepest tokens_here ≡ Some all_done
    → IsActs deepest (done [] 0 tokens_here) all_done
unfolding read_acts
acts_sound zero tokens_here all_done reads = more_sound 0 no_room nothing_there (length tokens_here) (done [] 0 tokens_here) all_done reads
acts_sound (suc deepest) tokens_here all_done reads =
    more_sound (suc deepest) (one_act (read_tree deepest 7) (read_acts deepest))
    (one_sound deepest (read_tree deepest 7) (read_acts deepest) (value_sound deepest) (acts_sound deepest)) (length tokens_here)
    (done [] 0 tokens_here) all_done reads
