-- What is read is in the grammar.
use Rattle.rw_base.proofs.Common.{◌≡◌, ◌≤◌, ◌-◌, ◌+◌, ◌*◌, ◌==◌, ◌∙◌, ◌++◌, ℕ, zero, suc, Bool, true, false, List, [], ◌∷◌, length, max, Option, Some}
use Rattle.rw_base.proofs.Common.{None, refl, sym, ap, subst, arith, if◌then◌else◌, ltb-true, ltb}
use Rattle.std.proofs.lemmas.List.{append-nil, append_assoc}
use Rattle.rpl_parse.specs.declared.token.Mark.{Mark}
use Rattle.rpl_parse.specs.declared.token.Mark.TheVariants as M
use Rattle.rpl_tree.specs.declared.words.OneWord.{OneWord}
use Rattle.rpl_tree.specs.declared.words.OneWord.TheVariants as O
use Rattle.rpl_tree.specs.declared.words.TwoWord.{TwoWord}
use Rattle.rpl_tree.specs.declared.words.TwoWord.TheVariants as T
use Rattle.rpl_tree.specs.declared.words.ConvertWord.{ConvertWord}
use Rattle.rpl_tree.specs.declared.words.ConvertWord.TheVariants as C
use Rattle.rpl_parse.specs.Tokens.{Tok, mark, word, digits, text, same}
use Rattle.rpl_tree.specs.Tree.{Tree, literal, truth, now, slot, name, call, list, no_trees}
use Rattle.rpl_tree.specs.Depth.{depth, depths}
use Rattle.rpl_parse.specs.Grammar.{Part, ◌⨾◌, sign, form, Spells, SpellsMore, looseness, looseness_of, looseness_of_one, looseness_on_left, mark_of}
use Rattle.rpl_parse.specs.Grammar.{mark_of_one, mark_of_convert, is_prefix, is_operator}
use Rattle.rpl_parse.specs.Reading.{Read, Got, got, Many, many, Named, Turn, ◌>>=◌, behind, behind_name, name_before, kept, closed_by_mark, up_to}
use Rattle.rpl_parse.specs.Reading.{items, some_items, args, named, braces, loops, maps, word_of_one, word_of_two, converts, opened, prim, steps}
use Rattle.rpl_parse.specs.Reading.{turn, if_word, if_loose, operator, chain, guarded, if_found, prefix_of, level, read_tree, turns_of, trees_of}
use Rattle.rpl_parse.proofs.Marks.{same_mark}

pub some_one : {A : Type 0} (this other : A) → Some this ≡ Some other → this ≡ other
some_one this other alike = cc alike

pub and_then : {A B : Type 0} (maybe : Option A) (go_on : A → Option B) (given : B) → (maybe >>= go_on) ≡ Some given → (x : A) × (maybe ≡ Some x)
    × (go_on x ≡ Some given)
and_then None go_on given reads = absurd (cc reads)
and_then (Some this) go_on given reads = (this, refl, reads)

pub found : {A B P : Type 0} (maybe : Option A) (otherwise : Option B) (go_on : A → Option B) (given : B)
    → if_found maybe otherwise go_on ≡ Some given → (maybe ≡ None → otherwise ≡ Some given → P)
    → ((x : A) → maybe ≡ Some x → go_on x ≡ Some given → P) → P
found None otherwise go_on given reads stop go = stop refl reads
found (Some this) otherwise go_on given reads stop go = go this refl reads

guard_true : (test : Bool) (reading : Read) (given_read : Got) → guarded test reading ≡ Some given_read → (test ≡ true) × (reading ≡ Some given_read)
guard_true true reading given_read reads = (refl, reads)
guard_true false reading given_read reads = absurd (cc reads)

kept_one : (test : Bool) (left_over further : List Tok) → kept test left_over ≡ Some further → (test ≡ true) × (left_over ≡ further)
kept_one true left_over further reads = (refl, some_one left_over further reads)
kept_one false left_over further reads = absurd (cc reads)

pub behind_sound : (a_mark : Mark) (tokens_here further : List Tok) → behind a_mark tokens_here ≡ Some further → tokens_here ≡ mark a_mark ∷ further
behind_sound a_mark [] further reads = absurd (cc reads)
behind_sound a_mark (mark other_mark ∷ left_over) further reads =
    let kept_so = kept_one (same a_mark other_mark) left_over further reads in
    let marks_are = same_mark a_mark other_mark kept_so.0 in rw (marks_are, kept_so.1) refl
behind_sound a_mark (word its_name ∷ left_over) further reads = absurd (cc reads)
behind_sound a_mark (digits its_number ∷ left_over) further reads = absurd (cc reads)
behind_sound a_mark (text its_text ∷ left_over) further reads = absurd (cc reads)

pub name_sound : (tokens_here : List Tok) (named_so : Named) → behind_name tokens_here ≡ Some named_so
    → tokens_here ≡ word named_so.called ∷ named_so.next
name_sound [] named_so reads = absurd (cc reads)
name_sound (mark other_mark ∷ left_over) named_so reads = absurd (cc reads)
name_sound (word its_name ∷ left_over) named_so reads = let named_is : record { called = its_name; next = left_over } ≡ named_so =
    some_one _ named_so reads in subst (λ (any_name : Named). word its_name ∷ left_over ≡ word any_name.called ∷ any_name.next) named_is refl
name_sound (digits its_number ∷ left_over) named_so reads = absurd (cc reads)
name_sound (text its_text ∷ left_over) named_so reads = absurd (cc reads)

-- the mark of a word that stands between two expressions
pub record Operates (a_mark : Mark) (its_word : TwoWord) : Type 0 where
  pub is : a_mark ≡ mark_of its_word
  pub between : is_operator its_word ≡ true

operates : (other_word its_word : TwoWord) → Some other_word ≡ Some its_word → is_operator other_word ≡ true → Operates (mark_of other_word) its_word
operates other_word its_word reads holds =
    subst (Operates (mark_of other_word)) (some_one other_word its_word reads) (record { is = refl; between = holds })

operator_sound : (a_mark : Mark) (its_word : TwoWord) → operator a_mark ≡ Some its_word → Operates a_mark its_word
operator_sound M.Or its_word reads = operates T.Or its_word reads refl
operator_sound M.And its_word reads = operates T.And its_word reads refl
operator_sound M.Equal its_word reads = operates T.Equal its_word reads refl
operator_sound M.Unequal its_word reads = operates T.Unequal its_word reads refl
operator_sound M.Less its_word reads = operates T.Less its_word reads refl
operator_sound M.LessEqual its_word reads = operates T.LessEqual its_word reads refl
operator_sound M.Greater its_word reads = operates T.Greater its_word reads refl
operator_sound M.GreaterEqual its_word reads = operates T.GreaterEqual its_word reads refl
operator_sound M.Plus its_word reads = operates T.Plus its_word reads refl
operator_sound M.Minus its_word reads = operates T.Minus its_word reads refl
operator_sound M.Times its_word reads = operates T.Times its_word reads refl
operator_sound M.Divide its_word reads = operates T.Divide its_word reads refl
operator_sound _ its_word reads = absurd (cc reads)

loose_one : (test : Bool) (its_word : TwoWord) (tokens_here : List Tok) (a_turn : Turn) → if_loose test its_word tokens_here ≡ Some a_turn
    → (test ≡ true) × (record { op = its_word; more = tokens_here } ≡ a_turn)
loose_one true its_word tokens_here a_turn reads = (refl, some_one _ a_turn reads)
loose_one false its_word tokens_here a_turn reads = absurd (cc reads)

pub record IsTurn (loose : ℕ) (tokens_here : List Tok) (a_turn : Turn) : Type 0 where
  pub front : tokens_here ≡ mark (mark_of a_turn.op) ∷ a_turn.more
  pub level : looseness_of a_turn.op ≡ loose
  pub between : is_operator a_turn.op ≡ true

word_sound : (loose : ℕ) (a_mark : Mark) (reads_word : Option TwoWord) (tokens_here : List Tok) (a_turn : Turn) → operator a_mark ≡ reads_word
    → if_word loose reads_word tokens_here ≡ Some a_turn → IsTurn loose (mark a_mark ∷ tokens_here) a_turn
word_sound loose a_mark None tokens_here a_turn reads_word reads = absurd (cc reads)
word_sound loose a_mark (Some its_word) tokens_here a_turn reads_word reads =
    let loose_so = loose_one (looseness_of its_word == loose) its_word tokens_here a_turn reads in
    let is_level : looseness_of its_word ≡ loose = grind (arith, loose_so.0) in
    let is_operator_there = operator_sound a_mark its_word reads_word in
    subst (IsTurn loose (mark a_mark ∷ tokens_here)) loose_so.1
    (record { front = ap (λ n. mark n ∷ tokens_here) is_operator_there.is; level = is_level; between = is_operator_there.between })

pub turn_sound : (loose : ℕ) (tokens_here : List Tok) (a_turn : Turn) → turn loose tokens_here ≡ Some a_turn → IsTurn loose tokens_here a_turn
turn_sound loose [] a_turn reads = absurd (cc reads)
turn_sound loose (mark other_mark ∷ tokens_here) a_turn reads = word_sound loose other_mark (operator other_mark) tokens_here a_turn refl reads
turn_sound loose (word its_name ∷ tokens_here) a_turn reads = absurd (cc reads)
turn_sound loose (digits its_number ∷ tokens_here) a_turn reads = absurd (cc reads)
turn_sound loose (text its_text ∷ tokens_here) a_turn reads = absurd (cc reads)

-- what a reading at a level, at most d deep, gives
pub record Is (deepest bound : ℕ) (tokens_here : List Tok) (so_read : Got) : Type 0 where
  pub spells : Spells so_read.tree tokens_here so_read.rest
  pub loose : looseness so_read.tree ≤ bound
  pub deep : so_read.deep ≡ depth so_read.tree
  pub within : so_read.deep ≤ deepest

pub record IsUpTo (deepest : ℕ) (a_mark : Mark) (tokens_here : List Tok) (so_read : Got) : Type 0 where
  pub spells : (Spells so_read.tree ⨾ sign a_mark) tokens_here so_read.rest
  pub deep : so_read.deep ≡ depth so_read.tree
  pub within : so_read.deep ≤ deepest

pub record IsMore (deepest : ℕ) (so_far all_items : Many) : Type 0 where
  others : List Tree
  trees : all_items.trees ≡ so_far.trees ++ others
  pub spells : SpellsMore (trees_of others) so_far.left all_items.left
  most : all_items.most ≡ max so_far.most (depths (trees_of others))
  pub within : so_far.most ≤ deepest → all_items.most ≤ deepest

pub record IsList (deepest : ℕ) (tokens_here : List Tok) (all_items : Many) : Type 0 where
  first : Tree
  others : List Tree
  trees : all_items.trees ≡ first ∷ others
  pub spells : (Spells first ⨾ SpellsMore (trees_of others)) tokens_here all_items.left
  most : all_items.most ≡ max (depth first) (depths (trees_of others))
  pub within : all_items.most ≤ deepest

pub max_three : (first second third : ℕ) → max (max first second) third ≡ max first (max second third)
max_three first second third = omega arith

pub two_deep : {first second first_depth second_depth : ℕ} → first ≡ first_depth → second ≡ second_depth
    → max first second + 1 ≡ max first_depth second_depth + 1
two_deep first_is second_is = rw (first_is, second_is) refl

pub three_deep : {first second third first_depth second_depth third_depth : ℕ} → first ≡ first_depth → second ≡ second_depth → third ≡ third_depth
    → max (max first second) third + 1 ≡ max (max first_depth second_depth) third_depth + 1
three_deep first_is second_is third_is = rw (first_is, second_is, third_is) refl

left_at : (its_word : TwoWord) (loose : ℕ) (turns : ℕ) (left_loose : ℕ) → looseness_of its_word ≡ loose → left_loose ≤ loose
    → (loose ≡ 4 → 4 * suc turns + left_loose ≤ 7) → left_loose ≤ looseness_on_left its_word
left_at T.Equal loose turns left_loose is_level left_tight once = let once_so = once (sym is_level) in omega arith
left_at T.Unequal loose turns left_loose is_level left_tight once = let once_so = once (sym is_level) in omega arith
left_at T.Less loose turns left_loose is_level left_tight once = let once_so = once (sym is_level) in omega arith
left_at T.LessEqual loose turns left_loose is_level left_tight once = let once_so = once (sym is_level) in omega arith
left_at T.Greater loose turns left_loose is_level left_tight once = let once_so = once (sym is_level) in omega arith
left_at T.GreaterEqual loose turns left_loose is_level left_tight once = let once_so = once (sym is_level) in omega arith
left_at _ loose turns left_loose is_level left_tight once = omega arith

-- a part in one of two forms
pub first_form : (test : Bool) (first_part second_part : Part) (tokens_here rest : List Tok) → test ≡ true → first_part tokens_here rest
    → form test first_part second_part tokens_here rest
first_form true first_part second_part tokens_here rest is_form spells = spells
first_form false first_part second_part tokens_here rest is_form spells = absurd (cc is_form)

pub second_form : (test : Bool) (first_part second_part : Part) (tokens_here rest : List Tok) → test ≡ false → second_part tokens_here rest
    → form test first_part second_part tokens_here rest
second_form true first_part second_part tokens_here rest is_form spells = absurd (cc is_form)
second_form false first_part second_part tokens_here rest is_form spells = spells

-- a name, and a mark behind it
pub name_before_sound : (a_mark : Mark) (tokens_here : List Tok) (named_so : Named) → name_before a_mark tokens_here ≡ Some named_so
    → (middle : List Tok) × (tokens_here ≡ word named_so.called ∷ middle) × (middle ≡ mark a_mark ∷ named_so.next)
name_before_sound a_mark tokens_here named_so reads =
    let name_so = and_then (behind_name tokens_here) _ named_so reads in
    let mark_so = and_then (behind a_mark name_so.0.next) _ named_so name_so.2 in
    let named_is = some_one _ named_so mark_so.2 in
    subst (λ (any_name : Named). (middle : List Tok) × (tokens_here ≡ word any_name.called ∷ middle) × (middle ≡ mark a_mark ∷ any_name.next))
    named_is
    (name_so.0.next, name_sound tokens_here name_so.0 name_so.1, behind_sound a_mark name_so.0.next mark_so.0 mark_so.1)

-- a word that stands before an expression of its level
pub record IsPrefix (loose : ℕ) (its_word : OneWord) : Type 0 where
  pub level : looseness_of_one its_word ≡ loose
  pub before : is_prefix its_word ≡ true

prefix_is : (is_minus is_not : Bool) (loose : ℕ) (its_word : OneWord) → (is_minus ≡ true → loose ≡ 1) → (is_not ≡ true → loose ≡ 5)
    → (if is_minus then Some O.Minus else (if is_not then Some O.Not else None)) ≡ Some its_word → IsPrefix loose its_word
prefix_is true is_not loose its_word minus_level not_level reads =
    subst (IsPrefix loose) (some_one O.Minus its_word reads) (record { level = sym (minus_level refl); before = refl })
prefix_is false true loose its_word minus_level not_level reads =
    subst (IsPrefix loose) (some_one O.Not its_word reads) (record { level = sym (not_level refl); before = refl })
prefix_is false false loose its_word minus_level not_level reads = absurd (cc reads)

pub prefix_sound : (loose : ℕ) (its_word : OneWord) → prefix_of loose ≡ Some its_word → IsPrefix loose its_word
prefix_sound loose its_word reads =
    prefix_is (loose == 1) (loose == 5) loose its_word (λ minus_level. grind (arith, minus_level)) (λ minus_level. grind (arith, minus_level)) reads

module _ (inner : ℕ → List Tok → Read) (deepest : ℕ)
    (ih : (bound : ℕ) (tokens_here : List Tok) (so_read : Got) → inner bound tokens_here ≡ Some so_read → Is deepest bound tokens_here so_read) where
  up_to_sound : (a_mark : Mark) (tokens_here : List Tok) (so_read : Got) → up_to inner deepest a_mark tokens_here ≡ Some so_read
      → IsUpTo deepest a_mark tokens_here so_read
  up_to_sound a_mark tokens_here so_read reads =
      let read_first = and_then (inner 7 tokens_here) (closed_by_mark a_mark) so_read reads in
      let mark_so =
      and_then (behind a_mark read_first.0.rest) (λ further. Some (got read_first.0.tree read_first.0.deep further)) so_read read_first.2 in
      let sound_there = ih 7 tokens_here read_first.0 read_first.1 in
      subst (IsUpTo deepest a_mark tokens_here) (some_one _ so_read mark_so.2)
      (record {
        spells = (read_first.0.rest, sound_there.spells, behind_sound a_mark read_first.0.rest mark_so.0 mark_so.1);
        deep = sound_there.deep;
        within = sound_there.within;
      })

  items_sound : (turns : ℕ) (so_far all_items : Many) → items inner deepest turns so_far ≡ Some all_items → IsMore deepest so_far all_items
  unfolding items
  items_sound zero so_far all_items reads =
      subst (IsMore deepest so_far) (some_one so_far all_items reads) (record {
        others = [];
        trees = sym (append-nil so_far.trees);
        spells = refl;
        most = omega arith;
        within = λ few_there. few_there;
      })
  items_sound (suc turns) so_far all_items reads = found (behind M.Comma so_far.left) (Some so_far) _ all_items reads
      (λ none same. subst (IsMore deepest so_far) (some_one so_far all_items same)
      (record { others = []; trees = sym (append-nil so_far.trees); spells = refl; most = omega arith; within = λ few_there. few_there }))
      (λ further stands go.
      let read_first = and_then (inner 7 further) _ all_items go in
      let first_read = read_first.0 in
      let first_sound = ih 7 further first_read read_first.1 in
      let others_sound =
      items_sound turns (many (so_far.trees ++ first_read.tree ∷ []) (max so_far.most first_read.deep) first_read.rest) all_items read_first.2 in
      record {
        others = first_read.tree ∷ others_sound.others;
        trees = others_sound.trees ∙ append_assoc so_far.trees (first_read.tree ∷ []) others_sound.others;
        spells = (further, behind_sound M.Comma so_far.left further stands, (first_read.rest, first_sound.spells, others_sound.spells));
        most = others_sound.most
            ∙ (max_three so_far.most first_read.deep (depths (trees_of others_sound.others))
            ∙ ap (λ x. max so_far.most (max x (depths (trees_of others_sound.others)))) first_sound.deep);
        within = λ few_there. let first_within = first_sound.within in others_sound.within (omega arith);
      })

  list_sound : (tokens_here : List Tok) (all_items : Many) → some_items inner deepest tokens_here ≡ Some all_items
      → IsList deepest tokens_here all_items
  list_sound tokens_here all_items reads =
      let read_first = and_then (inner 7 tokens_here) _ all_items reads in
      let first_read = read_first.0 in
      let first_sound = ih 7 tokens_here first_read read_first.1 in
      let others_sound = items_sound (length first_read.rest) (many (first_read.tree ∷ []) first_read.deep first_read.rest) all_items read_first.2 in
      record {
        first = first_read.tree;
        others = others_sound.others;
        trees = others_sound.trees;
        spells = (first_read.rest, first_sound.spells, others_sound.spells);
        most = others_sound.most ∙ ap (λ x. max x (depths (trees_of others_sound.others))) first_sound.deep;
        within = others_sound.within first_sound.within;
      }

  closed_list : (a_mark : Mark) (tokens_here : List Tok) (made : Many → List Tok → Got) (so_read : Got)
      → (some_items inner deepest tokens_here >>= (λ a. behind a_mark a.left >>= (λ further. Some (made a further)))) ≡ Some so_read
      → (so_far : Many) × (further : List Tok) × IsList deepest tokens_here so_far × (so_far.left ≡ mark a_mark ∷ further)
      × (made so_far further ≡ so_read)
  closed_list a_mark tokens_here made so_read reads =
      let items_so = and_then (some_items inner deepest tokens_here) _ so_read reads in
      let mark_so = and_then (behind a_mark items_so.0.left) _ so_read items_so.2 in (
        items_so.0,
        mark_so.0,
        list_sound tokens_here items_so.0 items_so.1,
        behind_sound a_mark items_so.0.left mark_so.0 mark_so.1,
        some_one _ so_read mark_so.2,
      )

  as_is : (loose : ℕ) (tokens_here : List Tok) (one_read so_read : Got) → Is (suc deepest) loose tokens_here one_read → Some one_read ≡ Some so_read
      → Is (suc deepest) loose tokens_here so_read
  as_is loose tokens_here one_read so_read is_so reads = subst (Is (suc deepest) loose tokens_here) (some_one one_read so_read reads) is_so

  braces_sound : (tokens_here : List Tok) (so_read : Got) → braces inner deepest tokens_here ≡ Some so_read
      → Is (suc deepest) 0 (mark M.LeftBrace ∷ tokens_here) so_read
  braces_sound tokens_here so_read reads =
      let closed_so =
      closed_list M.RightBrace tokens_here
      (λ items_there further. got (list (trees_of items_there.trees)) (items_there.most + 1) further) so_read reads in
      let items_there = closed_so.0 in
      let further = closed_so.1 in
      let items_sound_there = closed_so.2 in
      let within_there = items_sound_there.within in
      let most_is = items_sound_there.most in
      subst (Is (suc deepest) 0 (mark M.LeftBrace ∷ tokens_here)) closed_so.4
      (subst (λ l. Is (suc deepest) 0 (mark M.LeftBrace ∷ tokens_here) (got (list (trees_of l)) (items_there.most + 1) further))
      (sym items_sound_there.trees)
      (record {
        spells = (
          tokens_here,
          refl,
          (items_sound_there.spells.0, items_sound_there.spells.1, (items_there.left, items_sound_there.spells.2, closed_so.3)),
        );
        loose = omega arith;
        deep = ap (λ n. n + 1) most_is;
        within = omega arith;
      }))

  args_sound : (called_so : List ℕ) (tokens_here further : List Tok) (so_read : Got) → tokens_here ≡ mark M.LeftParen ∷ further
      → args inner deepest called_so further ≡ Some so_read → Is (suc deepest) 0 (word called_so ∷ tokens_here) so_read
  args_sound called_so tokens_here further so_read front reads = found (behind M.RightParen further) _ _ so_read reads
      (λ none go.
      let closed_so =
      closed_list M.RightParen further
      (λ items_there left_over. got (call called_so (trees_of items_there.trees)) (items_there.most + 1) left_over) so_read go in
      let items_there = closed_so.0 in
      let items_sound_there = closed_so.2 in
      let within_there = items_sound_there.within in
      let most_is = items_sound_there.most in
      subst (Is (suc deepest) 0 (word called_so ∷ tokens_here)) closed_so.4
      (subst (λ l. Is (suc deepest) 0 (word called_so ∷ tokens_here) (got (call called_so (trees_of l)) (items_there.most + 1) closed_so.1))
      (sym items_sound_there.trees)
      (record {
        spells = (
          tokens_here,
          refl,
          (further, front, (items_there.left, (items_sound_there.spells.0, items_sound_there.spells.1, items_sound_there.spells.2), closed_so.3)),
        );
        loose = omega arith;
        deep = ap (λ n. n + 1) most_is;
        within = omega arith;
      })))
      (λ left_over stands go. as_is 0 (word called_so ∷ tokens_here) (got (call called_so no_trees) 1 left_over) so_read
      (record {
        spells = (tokens_here, refl, (further, front, (further, refl, behind_sound M.RightParen further left_over stands)));
        loose = omega arith;
        deep = refl;
        within = omega arith;
      }) go)

  named_sound : (called_so : List ℕ) (tokens_here : List Tok) (so_read : Got) → named inner deepest called_so tokens_here ≡ Some so_read
      → Is (suc deepest) 0 (word called_so ∷ tokens_here) so_read
  named_sound called_so tokens_here so_read reads = found (behind M.LeftParen tokens_here) _ _ so_read reads
      (λ none go. found (behind M.Dot tokens_here) _ _ so_read go
      (λ none_there go_on. as_is 0 (word called_so ∷ tokens_here) (got (name called_so) 1 tokens_here) so_read
      (record { spells = refl; loose = omega arith; deep = refl; within = omega arith }) go_on)
      (λ further stands go_on.
      let slot_so = and_then (behind_name further) _ so_read go_on in
      as_is 0 (word called_so ∷ tokens_here) (got (slot called_so slot_so.0.called) 1 slot_so.0.next) so_read
      (record {
        spells = (tokens_here, refl, (further, behind_sound M.Dot tokens_here further stands, name_sound further slot_so.0 slot_so.1));
        loose = omega arith;
        deep = refl;
        within = omega arith;
      }) slot_so.2))
      (λ further stands go. args_sound called_so tokens_here further so_read (behind_sound M.LeftParen tokens_here further stands) go)

  one_sound : (its_word : OneWord) (tokens_here : List Tok) (so_read : Got) → is_prefix its_word ≡ false → looseness_of_one its_word ≡ 0
      → word_of_one inner deepest its_word tokens_here ≡ Some so_read
      → Is (suc deepest) 0 (mark (mark_of_one its_word) ∷ tokens_here) so_read
  one_sound its_word tokens_here so_read plain tight reads =
      let operand_so = and_then (behind M.LeftParen tokens_here >>= up_to inner deepest M.RightParen) _ so_read reads in
      let paren_so = and_then (behind M.LeftParen tokens_here) (up_to inner deepest M.RightParen) operand_so.0 operand_so.1 in
      let operand_sound = up_to_sound M.RightParen paren_so.0 operand_so.0 paren_so.2 in
      let within = operand_sound.within in
      as_is 0 (mark (mark_of_one its_word) ∷ tokens_here) _ so_read (record {
        spells =
            second_form (is_prefix its_word) _ _ (mark (mark_of_one its_word) ∷ tokens_here) operand_so.0.rest plain
            (tokens_here, refl, (paren_so.0, behind_sound M.LeftParen tokens_here paren_so.0 paren_so.1, operand_sound.spells));
        loose = omega (arith, tight);
        deep = ap (λ n. n + 1) operand_sound.deep;
        within = omega arith;
      }) operand_so.2

  two_sound : (its_word : TwoWord) (tokens_here : List Tok) (so_read : Got) → is_operator its_word ≡ false → looseness_of its_word ≡ 0
      → word_of_two inner deepest its_word tokens_here ≡ Some so_read
      → Is (suc deepest) 0 (mark (mark_of its_word) ∷ tokens_here) so_read
  two_sound its_word tokens_here so_read plain tight reads =
      let left_so = and_then (behind M.LeftParen tokens_here >>= up_to inner deepest M.Comma) _ so_read reads in
      let paren_so = and_then (behind M.LeftParen tokens_here) (up_to inner deepest M.Comma) left_so.0 left_so.1 in
      let right_so = and_then (up_to inner deepest M.RightParen left_so.0.rest) _ so_read left_so.2 in
      let left_sound = up_to_sound M.Comma paren_so.0 left_so.0 paren_so.2 in
      let right_sound = up_to_sound M.RightParen left_so.0.rest right_so.0 right_so.1 in
      let left_within_so = left_sound.within in
      let right_within = right_sound.within in
      as_is 0 (mark (mark_of its_word) ∷ tokens_here) _ so_read (record {
        spells = second_form (is_operator its_word) _ _ (mark (mark_of its_word) ∷ tokens_here) right_so.0.rest plain (
          tokens_here,
          refl,
          (
            paren_so.0,
            behind_sound M.LeftParen tokens_here paren_so.0 paren_so.1,
            (left_sound.spells.0, left_sound.spells.1, (left_so.0.rest, left_sound.spells.2, right_sound.spells)),
          ),
        );
        loose = omega (arith, tight);
        deep = two_deep left_sound.deep right_sound.deep;
        within = omega arith;
      }) right_so.2

  convert_sound : (its_word : ConvertWord) (tokens_here : List Tok) (so_read : Got) → converts inner deepest its_word tokens_here ≡ Some so_read
      → Is (suc deepest) 0 (mark (mark_of_convert its_word) ∷ tokens_here) so_read
  convert_sound its_word tokens_here so_read reads =
      let object_so = and_then (behind M.LeftParen tokens_here >>= name_before M.Comma) _ so_read reads in
      let paren_so = and_then (behind M.LeftParen tokens_here) (name_before M.Comma) object_so.0 object_so.1 in
      let object_sound = name_before_sound M.Comma paren_so.0 object_so.0 paren_so.2 in
      let operand_so = and_then (up_to inner deepest M.RightParen object_so.0.next) _ so_read object_so.2 in
      let operand_sound = up_to_sound M.RightParen object_so.0.next operand_so.0 operand_so.1 in
      let within = operand_sound.within in
      as_is 0 (mark (mark_of_convert its_word) ∷ tokens_here) _ so_read (record {
        spells = (
          tokens_here,
          refl,
          (
            paren_so.0,
            behind_sound M.LeftParen tokens_here paren_so.0 paren_so.1,
            (object_sound.0, object_sound.1, (object_so.0.next, object_sound.2, operand_sound.spells)),
          ),
        );
        loose = omega arith;
        deep = ap (λ object_sound. object_sound + 1) operand_sound.deep;
        within = omega arith;
      }) operand_so.2

  loops_sound : (tokens_here : List Tok) (so_read : Got) → loops inner deepest tokens_here ≡ Some so_read
      → Is (suc deepest) 0 (mark M.For ∷ tokens_here) so_read
  loops_sound tokens_here so_read reads =
      let item_so = and_then (name_before M.In tokens_here) _ so_read reads in
      let source_so = and_then (up_to inner deepest M.With item_so.0.next) _ so_read item_so.2 in
      let total_so = and_then (name_before M.Assign source_so.0.rest) _ so_read source_so.2 in
      let initial_so = and_then (up_to inner deepest M.Do total_so.0.next) _ so_read total_so.2 in
      let body_so = and_then (up_to inner deepest M.EndFor initial_so.0.rest) _ so_read initial_so.2 in
      let item_sound = name_before_sound M.In tokens_here item_so.0 item_so.1 in
      let source_sound = up_to_sound M.With item_so.0.next source_so.0 source_so.1 in
      let total_sound = name_before_sound M.Assign source_so.0.rest total_so.0 total_so.1 in
      let initial_sound = up_to_sound M.Do total_so.0.next initial_so.0 initial_so.1 in
      let body_sound = up_to_sound M.EndFor initial_so.0.rest body_so.0 body_so.1 in
      let source_within = source_sound.within in
      let initial_within = initial_sound.within in
      let body_within = body_sound.within in
      as_is 0 (mark M.For ∷ tokens_here) _ so_read (record {
        spells = (
          tokens_here,
          refl,
          (
            item_sound.0,
            item_sound.1,
            (
              item_so.0.next,
              item_sound.2,
              (
                source_sound.spells.0,
                source_sound.spells.1,
                (
                  source_so.0.rest,
                  source_sound.spells.2,
                  (
                    total_sound.0,
                    total_sound.1,
                    (
                      total_so.0.next,
                      total_sound.2,
                      (initial_sound.spells.0, initial_sound.spells.1, (initial_so.0.rest, initial_sound.spells.2, body_sound.spells)),
                    ),
                  ),
                ),
              ),
            ),
          ),
        );
        loose = omega arith;
        deep = three_deep source_sound.deep initial_sound.deep body_sound.deep;
        within = omega arith;
      }) body_so.2

  maps_sound : (tokens_here : List Tok) (so_read : Got) → maps inner deepest tokens_here ≡ Some so_read
      → Is (suc deepest) 0 (mark M.Map ∷ tokens_here) so_read
  maps_sound tokens_here so_read reads =
      let item_so = and_then (name_before M.In tokens_here) _ so_read reads in
      let source_so = and_then (up_to inner deepest M.Do item_so.0.next) _ so_read item_so.2 in
      let body_so = and_then (up_to inner deepest M.EndMap source_so.0.rest) _ so_read source_so.2 in
      let item_sound = name_before_sound M.In tokens_here item_so.0 item_so.1 in
      let source_sound = up_to_sound M.Do item_so.0.next source_so.0 source_so.1 in
      let body_sound = up_to_sound M.EndMap source_so.0.rest body_so.0 body_so.1 in
      let source_within = source_sound.within in
      let body_within = body_sound.within in
      as_is 0 (mark M.Map ∷ tokens_here) _ so_read (record {
        spells = (
          tokens_here,
          refl,
          (
            item_sound.0,
            item_sound.1,
            (
              item_so.0.next,
              item_sound.2,
              (source_sound.spells.0, source_sound.spells.1, (source_so.0.rest, source_sound.spells.2, body_sound.spells)),
            ),
          ),
        );
        loose = omega arith;
        deep = two_deep source_sound.deep body_sound.deep;
        within = omega arith;
      }) body_so.2

  opened_sound : (a_mark : Mark) (tokens_here : List Tok) (so_read : Got) → opened inner deepest a_mark tokens_here ≡ Some so_read
      → Is (suc deepest) 0 (mark a_mark ∷ tokens_here) so_read
  opened_sound M.LeftParen tokens_here so_read reads =
      let first_so = and_then (up_to inner deepest M.RightParen tokens_here) _ so_read reads in
      let first_sound = up_to_sound M.RightParen tokens_here first_so.0 first_so.1 in
      let first_within = first_sound.within in
      as_is 0 (mark M.LeftParen ∷ tokens_here) _ so_read (record {
        spells = (tokens_here, refl, first_sound.spells);
        loose = omega arith;
        deep = ap (λ n. n + 1) first_sound.deep;
        within = omega arith;
      }) first_so.2
  opened_sound M.LeftBrace tokens_here so_read reads = braces_sound tokens_here so_read reads
  opened_sound M.If tokens_here so_read reads =
      let first_so = and_then (up_to inner deepest M.Then tokens_here) _ so_read reads in
      let second_so = and_then (up_to inner deepest M.Else first_so.0.rest) _ so_read first_so.2 in
      let third_so = and_then (up_to inner deepest M.EndIf second_so.0.rest) _ so_read second_so.2 in
      let first_sound = up_to_sound M.Then tokens_here first_so.0 first_so.1 in
      let second_sound = up_to_sound M.Else first_so.0.rest second_so.0 second_so.1 in
      let third_sound = up_to_sound M.EndIf second_so.0.rest third_so.0 third_so.1 in
      let first_within = first_sound.within in
      let second_within = second_sound.within in
      let third_within = third_sound.within in
      let first_deep = first_sound.deep in
      let second_deep = second_sound.deep in
      let third_deep = third_sound.deep in
      as_is 0 (mark M.If ∷ tokens_here) _ so_read (record {
        spells = (
          tokens_here,
          refl,
          (
            first_sound.spells.0,
            first_sound.spells.1,
            (
              first_so.0.rest,
              first_sound.spells.2,
              (second_sound.spells.0, second_sound.spells.1, (second_so.0.rest, second_sound.spells.2, third_sound.spells)),
            ),
          ),
        );
        loose = omega arith;
        deep = three_deep first_deep second_deep third_deep;
        within = omega arith;
      }) third_so.2
  opened_sound M.Let tokens_here so_read reads =
      let name_so = and_then (name_before M.Assign tokens_here) _ so_read reads in
      let first_so = and_then (up_to inner deepest M.In name_so.0.next) _ so_read name_so.2 in
      let second_so = and_then (up_to inner deepest M.EndLet first_so.0.rest) _ so_read first_so.2 in
      let name_sound_there = name_before_sound M.Assign tokens_here name_so.0 name_so.1 in
      let first_sound = up_to_sound M.In name_so.0.next first_so.0 first_so.1 in
      let second_sound = up_to_sound M.EndLet first_so.0.rest second_so.0 second_so.1 in
      let first_within = first_sound.within in
      let second_within = second_sound.within in
      as_is 0 (mark M.Let ∷ tokens_here) _ so_read (record {
        spells = (
          tokens_here,
          refl,
          (
            name_sound_there.0,
            name_sound_there.1,
            (
              name_so.0.next,
              name_sound_there.2,
              (first_sound.spells.0, first_sound.spells.1, (first_so.0.rest, first_sound.spells.2, second_sound.spells)),
            ),
          ),
        );
        loose = omega arith;
        deep = two_deep first_sound.deep second_sound.deep;
        within = omega arith;
      }) second_so.2
  opened_sound M.True tokens_here so_read reads =
      as_is 0 (mark M.True ∷ tokens_here) (got (truth true) 1 tokens_here) so_read
      (record { spells = refl; loose = omega arith; deep = refl; within = omega arith }) reads
  opened_sound M.False tokens_here so_read reads =
      as_is 0 (mark M.False ∷ tokens_here) (got (truth false) 1 tokens_here) so_read
      (record { spells = refl; loose = omega arith; deep = refl; within = omega arith }) reads
  opened_sound M.Now tokens_here so_read reads =
      as_is 0 (mark M.Now ∷ tokens_here) (got now 1 tokens_here) so_read
      (record { spells = refl; loose = omega arith; deep = refl; within = omega arith }) reads
  opened_sound M.For tokens_here so_read reads = loops_sound tokens_here so_read reads
  opened_sound M.Map tokens_here so_read reads = maps_sound tokens_here so_read reads
  opened_sound M.Known tokens_here so_read reads = one_sound O.Known tokens_here so_read refl refl reads
  opened_sound M.Length tokens_here so_read reads = one_sound O.Length tokens_here so_read refl refl reads
  opened_sound M.Month tokens_here so_read reads = one_sound O.Month tokens_here so_read refl refl reads
  opened_sound M.Day tokens_here so_read reads = one_sound O.Day tokens_here so_read refl refl reads
  opened_sound M.Year tokens_here so_read reads = one_sound O.Year tokens_here so_read refl refl reads
  opened_sound M.Append tokens_here so_read reads = two_sound T.Append tokens_here so_read refl refl reads
  opened_sound M.Item tokens_here so_read reads = two_sound T.Item tokens_here so_read refl refl reads
  opened_sound M.StorageToElevation tokens_here so_read reads = convert_sound C.StorageToElevation tokens_here so_read reads
  opened_sound M.ElevationToStorage tokens_here so_read reads = convert_sound C.ElevationToStorage tokens_here so_read reads
  opened_sound _ tokens_here so_read reads = absurd (cc reads)

  prim_sound : (tokens_here : List Tok) (so_read : Got) → prim inner deepest tokens_here ≡ Some so_read → Is (suc deepest) 0 tokens_here so_read
  prim_sound [] so_read reads = absurd (cc reads)
  prim_sound (mark other_mark ∷ tokens_here) so_read reads = opened_sound other_mark tokens_here so_read reads
  prim_sound (word its_name ∷ tokens_here) so_read reads = named_sound its_name tokens_here so_read reads
  prim_sound (text its_text ∷ tokens_here) so_read reads = absurd (cc reads)
  prim_sound (digits its_number ∷ []) so_read reads =
      as_is 0 _ (got (literal its_number None) 1 []) so_read (record { spells = refl; loose = omega arith; deep = refl; within = omega arith }) reads
  prim_sound (digits its_number ∷ (text its_text ∷ tokens_here)) so_read reads =
      as_is 0 _ (got (literal its_number (Some its_text)) 1 tokens_here) so_read
      (record { spells = (text its_text ∷ tokens_here, refl, refl); loose = omega arith; deep = refl; within = omega arith }) reads
  prim_sound (digits its_number ∷ (mark other_mark ∷ tokens_here)) so_read reads =
      as_is 0 _ (got (literal its_number None) 1 (mark other_mark ∷ tokens_here)) so_read
      (record { spells = refl; loose = omega arith; deep = refl; within = omega arith }) reads
  prim_sound (digits its_number ∷ (word its_name ∷ tokens_here)) so_read reads =
      as_is 0 _ (got (literal its_number None) 1 (word its_name ∷ tokens_here)) so_read
      (record { spells = refl; loose = omega arith; deep = refl; within = omega arith }) reads
  prim_sound (digits its_number ∷ (digits other_number ∷ tokens_here)) so_read reads =
      as_is 0 _ (got (literal its_number None) 1 (digits other_number ∷ tokens_here)) so_read
      (record { spells = refl; loose = omega arith; deep = refl; within = omega arith }) reads

  steps_sound : (tokens_here : List Tok) (turns : ℕ) (so_read all_read : Got) → Is (suc deepest) 0 tokens_here so_read
      → steps inner deepest turns so_read ≡ Some all_read → Is (suc deepest) 0 tokens_here all_read
  unfolding steps
  steps_sound tokens_here zero so_read all_read sound_so reads = as_is 0 tokens_here so_read all_read sound_so reads
  steps_sound tokens_here (suc turns) so_read all_read sound_so reads = found (behind M.LeftBracket so_read.rest) _ _ all_read reads
      (λ none same. as_is 0 tokens_here so_read all_read sound_so same)
      (λ further stands go.
      let guard_so = guard_true (ltb so_read.deep (suc deepest)) _ all_read go in
      let less = ltb-true so_read.deep (suc deepest) guard_so.0 in
      let date_so = and_then (up_to inner deepest M.RightBracket further) _ all_read guard_so.1 in
      let date_sound = up_to_sound M.RightBracket further date_so.0 date_so.1 in
      let date_within = date_sound.within in
      let date_deep = date_sound.deep in
      let slot_deep = sound_so.deep in
      steps_sound tokens_here turns _ all_read (record {
        spells = (
          so_read.rest,
          (sound_so.loose, sound_so.spells),
          (further, behind_sound M.LeftBracket so_read.rest further stands, date_sound.spells),
        );
        loose = omega arith;
        deep = two_deep slot_deep date_deep;
        within = omega arith;
      }) date_so.2)

  chain_sound : (tokens_here : List Tok) (loose turns : ℕ) (so_read all_read : Got) → Is (suc deepest) loose tokens_here so_read
      → (loose ≡ 4 → 4 * turns + looseness so_read.tree ≤ 7) → chain inner deepest loose turns so_read ≡ Some all_read
      → Is (suc deepest) loose tokens_here all_read
  unfolding chain
  chain_sound tokens_here loose zero so_read all_read sound_so room reads = as_is loose tokens_here so_read all_read sound_so reads
  chain_sound tokens_here loose (suc turns) so_read all_read sound_so room reads = found (turn loose so_read.rest) _ _ all_read reads
      (λ none same. as_is loose tokens_here so_read all_read sound_so same)
      (λ a_turn stands go.
      let guard_so = guard_true (ltb so_read.deep (suc deepest)) _ all_read go in
      let less = ltb-true so_read.deep (suc deepest) guard_so.0 in
      let right_so = and_then (inner (loose - 1) a_turn.more) _ all_read guard_so.1 in
      let right_sound = ih (loose - 1) a_turn.more right_so.0 right_so.1 in
      let turn_so = turn_sound loose so_read.rest a_turn stands in
      let turn_level = turn_so.level in
      let right_within = right_sound.within in
      let right_deep = right_sound.deep in
      let left_deep = sound_so.deep in
      let right_tight : looseness right_so.0.tree ≤ looseness_of a_turn.op - 1 = let right_loose = right_sound.loose in omega arith in
      chain_sound tokens_here loose turns _ all_read (record {
        spells =
            first_form (is_operator a_turn.op) _ _ tokens_here right_so.0.rest turn_so.between (
              so_read.rest,
              (left_at a_turn.op loose turns (looseness so_read.tree) turn_so.level sound_so.loose room, sound_so.spells),
              (a_turn.more, turn_so.front, (right_tight, right_sound.spells)),
            );
        loose = omega arith;
        deep = two_deep left_deep right_deep;
        within = omega arith;
      }) (λ four. let right_loose = room four in omega arith) right_so.2)

  looser : (lower loose : ℕ) (tokens_here : List Tok) (so_read : Got) → lower ≤ loose → Is (suc deepest) lower tokens_here so_read
      → Is (suc deepest) loose tokens_here so_read
  looser lower loose tokens_here so_read no_more is_so = let loose_there = is_so.loose in
      record { spells = is_so.spells; loose = omega arith; deep = is_so.deep; within = is_so.within }

  one_turn : (loose : ℕ) → loose ≡ 4 → turns_of loose deepest ≡ 1
  one_turn loose is_four = rw is_four refl

  level_sound : (loose : ℕ) (tokens_here : List Tok) (so_read : Got) → level inner deepest loose tokens_here ≡ Some so_read
      → Is (suc deepest) loose tokens_here so_read
  unfolding level
  level_sound zero tokens_here so_read reads =
      let first_so = and_then (prim inner deepest tokens_here) _ so_read reads in
      steps_sound tokens_here deepest first_so.0 so_read (prim_sound tokens_here first_so.0 first_so.1) first_so.2
  level_sound (suc lower) tokens_here so_read reads = found (prefix_of (suc lower)) _ _ so_read reads
      (λ none go.
      let first_so = and_then (level inner deepest lower tokens_here) _ so_read go in
      let first_sound = level_sound lower tokens_here first_so.0 first_so.1 in
      chain_sound tokens_here (suc lower) (turns_of (suc lower) deepest) first_so.0 so_read
      (looser lower (suc lower) tokens_here first_so.0 (omega arith) first_sound)
      (λ four. let loose_there = first_sound.loose in let one_there = one_turn (suc lower) four in omega arith) first_so.2)
      (λ its_word stands go. found (behind (mark_of_one its_word) tokens_here) _ _ so_read go
      (λ none go_on. looser lower (suc lower) tokens_here so_read (omega arith) (level_sound lower tokens_here so_read go_on))
      (λ further at go_on.
      let first_so = and_then (inner (suc lower) further) _ so_read go_on in
      let operand_sound = ih (suc lower) further first_so.0 first_so.1 in
      let within = operand_sound.within in
      let prefix_so = prefix_sound (suc lower) its_word stands in
      let operand_loose = operand_sound.loose in
      let level = prefix_so.level in
      as_is (suc lower) tokens_here _ so_read (record {
        spells = first_form (is_prefix its_word) _ _ tokens_here first_so.0.rest prefix_so.before
            (further, behind_sound (mark_of_one its_word) tokens_here further at, (omega (arith, operand_loose, level), operand_sound.spells));
        loose = omega (arith, level);
        deep = ap (λ n. n + 1) operand_sound.deep;
        within = omega arith;
      }) first_so.2))

pub sound : (deepest loose : ℕ) (tokens_here : List Tok) (so_read : Got) → read_tree deepest loose tokens_here ≡ Some so_read
    → Is deepest loose tokens_here so_read
unfolding read_tree
sound zero loose tokens_here so_read reads = absurd (cc reads)
sound (suc deepest) loose tokens_here so_read reads = level_sound (read_tree deepest) deepest (sound deepest) loose tokens_here so_read reads
