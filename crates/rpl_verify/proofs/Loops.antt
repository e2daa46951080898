-- Loops and jumps of a block that fits.
use Rattle.rw_base.proofs.Common.{◌≡◌, ℕ, zero, suc, ◌+◌, ◌≤◌, ◌<◌, Bool, true, false, nat_lt, List, [], ◌∷◌, length, drop, reverse, Option, Some}
use Rattle.rw_base.proofs.Common.{None, Ok, refl, sym, ap, ap₂, ◌∙◌, subst, arith, rules, if◌then◌else◌, slice_get, slice_index, nat_tests}
use Rattle.rpl_code.specs.declared.kind.ValueKind.{ValueKind}
use Rattle.rpl_code.specs.declared.instruction.Instruction.{Instruction}
use Rattle.rpl_code.specs.declared.instruction.Instruction.TheVariants as I
use Rattle.rpl_verify.specs.declared.verify_kind.VerifyKind.TheVariants.{BackwardJump, JumpOutside}
use Rattle.rpl_verify.specs.Kinds.{top_of}
use Rattle.rpl_verify.specs.Places.{Loop, is_same_loop, Bracket, opening, closing, level, bracket, Opener, closed as closed_by, declared_by}
use Rattle.rpl_verify.specs.Places.{ends_before, loop_end, loop_ends, openers_behind, rest_of, start_of, Spot, spots, spots_from}
use Rattle.rpl_verify.specs.Names.{Scope}
use Rattle.rpl_verify.specs.Fits.{Open, Before, before, before_at, befores, behind_loop, found, innermost, is_same_place, judged_at, landing}
use Rattle.rpl_verify.specs.Fits.{lands_on}
use Rattle.rpl_verify.proofs.KindFacts.{same_ok, test_ok}
use Rattle.rpl_verify.proofs.Judged.{LoopsGoOn, begins, carried_is, end_shut, named, parts, places_fit, loops_go_on, same_loop_refl}

pub drop_at : {A : Type 0} (things : List A) (place : ℕ) (thing : A) → slice_get things place ≡ Some thing
    → drop place things ≡ thing ∷ drop (suc place) things
drop_at [] place thing found = absurd (cc found)
drop_at (thing ∷ things) zero other_thing found = let thing_is : thing ≡ other_thing = cc found in ap (λ z. z ∷ things) thing_is
drop_at (thing ∷ things) (suc place) other_thing found = drop_at things place other_thing found

none_on : {A : Type 0} (things : List A) (place : ℕ) → slice_get things place ≡ None → slice_get things (suc place) ≡ None
none_on [] place found = refl
none_on (thing ∷ things) zero found = absurd (cc found)
none_on (thing ∷ things) (suc place) found = none_on things place found

abbrev pub openers : List Open → List Opener
openers [] = []
openers (open_loop ∷ open_loops) = record { start = open_loop.start; loop = open_loop.loop } ∷ openers open_loops

innermost_is : (open_loops : List Open) → start_of (top_of (openers open_loops)) ≡ innermost open_loops
innermost_is [] = refl
innermost_is (open_loop ∷ open_loops) = refl

openers_by : (place : ℕ) (bracket : Bracket) (open_loops : List Open) (there : Before) → LoopsGoOn place bracket open_loops there
    → openers_behind bracket place (openers open_loops) ≡ openers there.loops
openers_by place (opening loop) open_loops there loops_so =
    let openers_behind_is : openers_behind (opening loop) place (openers open_loops) ≡ openers (loops_so.0 ∷ open_loops) =
    ap₂ (λ n l. record { start = n; loop = l } ∷ openers open_loops) (sym loops_so.3) (sym loops_so.4) in
    openers_behind_is ∙ ap openers (sym loops_so.1)
openers_by place (closing loop) open_loops there loops_so =
    ap (λ os. closed_by loop (openers os)) loops_so.1 ∙ ap (λ l. closed_by l (openers (loops_so.0 ∷ there.loops))) (sym loops_so.3)
    ∙ by (is_same_loop loops_so.0.loop loops_so.0.loop) (same_loop_refl loops_so.0.loop)
  where
    by : (truth : Bool) → truth ≡ true → (if truth then openers there.loops else openers (loops_so.0 ∷ there.loops)) ≡ openers there.loops
    by true truth_is = refl
    by false truth_is = absurd (cc truth_is)
openers_by place level open_loops there loops_so = ap openers (sym loops_so)

same_place_is : (found an_option : Option ℕ) → is_same_place found an_option ≡ true → found ≡ an_option
same_place_is None None is_same_place_is = refl
same_place_is (Some found) (Some an_option) is_same_place_is = let found_is : found ≡ an_option = search rules in ap Some found_is
same_place_is _ _ is_same_place_is = absurd (cc is_same_place_is)

module _ (scope : Scope) where
  -- what a jump asks of a place is what is there
  spot_is : (place : ℕ) (here : Before) (lines : List Instruction) (befores_there : List Before) (index : ℕ) (spot : Spot)
      → befores scope place here lines ≡ Ok befores_there
      → slice_get (spots_from place (openers here.loops) lines) index ≡ Some spot
      → (instruction : Instruction) × (slice_get lines index ≡ Some instruction) × (spot.declares ≡ declared_by instruction)
      × (spot.innermost ≡ innermost (before_at befores_there index).loops)
  spot_is place here [] befores_there index spot befores_is found = absurd (cc found)
  spot_is place here (instruction ∷ lines) befores_there zero spot befores_is found =
      let is_spot : record { innermost = start_of (top_of (openers here.loops)); declares = declared_by instruction } ≡ spot = cc found in
      let begins_so = begins scope place here (instruction ∷ lines) befores_there befores_is in (
        instruction,
        refl,
        ap (λ (s : Spot). s.declares) (sym is_spot),
        ap (λ (s : Spot). s.innermost) (sym is_spot) ∙ innermost_is here.loops ∙ ap (λ (k : Before). innermost k.loops) (sym begins_so),
      )
  spot_is place here (instruction ∷ lines) befores_there (suc index) spot befores_is found =
      let parts_so = parts scope place here instruction lines befores_there befores_is in
      let openers_by_so =
      openers_by place (bracket instruction) here.loops parts_so.onto (loops_go_on scope place here instruction parts_so.onto parts_so.here) in
      let spot_is_so =
      spot_is (suc place) parts_so.onto lines parts_so.others index spot parts_so.there
      (ap (λ os. slice_get (spots_from (suc place) os lines) index) (sym openers_by_so) ∙ found) in
      (spot_is_so.0, spot_is_so.1, spot_is_so.2, spot_is_so.3 ∙ ap (λ l. innermost (before_at l (suc index)).loops) parts_so.whole)

module _ (scope : Scope) (lines : List Instruction) (befores_there : List Before) (spotted : scope.spots ≡ spots lines)
    (fits : befores scope 0 (before [] []) lines ≡ Ok befores_there) where
  abbrev pub before_place : ℕ → Before
  before_place place = before_at befores_there place

  abbrev pub ends_ahead : ℕ → List ℕ
  ends_ahead place = loop_ends place (drop place lines)

  pub judged_there : (place : ℕ) (instruction : Instruction) → slice_get lines place ≡ Some instruction
      → judged_at scope place (before_place place) instruction ≡ Ok (before_place (suc place))
  judged_there place instruction found =
      let same : 0 + place ≡ place = omega arith in
      subst (λ n. judged_at scope n (before_place place) instruction ≡ Ok (before_place (suc place))) same
      (places_fit scope 0 (before [] []) lines befores_there place instruction fits found)

  pub loops_go_on_at : (place : ℕ) (instruction : Instruction) → slice_get lines place ≡ Some instruction
      → LoopsGoOn place (bracket instruction) ((before_place place).loops) (before_place (suc place))
  loops_go_on_at place instruction found =
      loops_go_on scope place (before_place place) instruction (before_place (suc place)) (judged_there place instruction found)

  pub ends_at : (place : ℕ) (instruction : Instruction) → slice_get lines place ≡ Some instruction
      → ends_ahead place ≡ ends_before (bracket instruction) place (ends_ahead (suc place))
  ends_at place instruction found = ap (loop_ends place) (drop_at lines place instruction found)

  -- where the loop that begins at a place ends
  abbrev pub past : ℕ → ℕ
  past start = loop_end (suc start) (drop (suc start) lines)

  -- where each open loop goes on is what is found from here
  abbrev pub Linked : List ℕ → ℕ → List Open → Type 0
  Linked ends depth [] = Unit {0}
  Linked ends depth (open_loop ∷ open_loops) = (past open_loop.start ≡ slice_index ends depth) × Linked ends (suc depth) open_loops

  index_rest : (ends : List ℕ) (depth : ℕ) → slice_index (rest_of ends) depth ≡ slice_index ends (suc depth)
  index_rest [] depth = refl
  index_rest (end ∷ ends) depth = refl

  linked_up : (ends : List ℕ) (depth : ℕ) (open_loops : List Open) → Linked (rest_of ends) depth open_loops → Linked ends (suc depth) open_loops
  linked_up ends depth [] linked = tt
  linked_up ends depth (open_loop ∷ open_loops) linked = (linked.0 ∙ index_rest ends depth, linked_up ends (suc depth) open_loops linked.1)

  linked_down : (end : ℕ) (ends : List ℕ) (depth : ℕ) (open_loops : List Open) → Linked (end ∷ ends) (suc depth) open_loops
      → Linked ends depth open_loops
  linked_down end ends depth [] linked = tt
  linked_down end ends depth (open_loop ∷ open_loops) linked = (linked.0, linked_down end ends (suc depth) open_loops linked.1)

  linked_by : (place : ℕ) (bracket : Bracket) (open_loops : List Open) (there : Before)
      → ends_ahead place ≡ ends_before bracket place (ends_ahead (suc place)) → LoopsGoOn place bracket open_loops there
      → Linked (ends_ahead place) 0 open_loops
      → Linked (ends_ahead (suc place)) 0 there.loops
  linked_by place (opening loop) open_loops there ends_ahead_is loops_so linked =
      let past_is : past loops_so.0.start ≡ slice_index (ends_ahead (suc place)) 0 = ap past loops_so.3 in
      subst (λ l. Linked (ends_ahead (suc place)) 0 l) (sym loops_so.1)
      (past_is, linked_up (ends_ahead (suc place)) 0 open_loops (subst (λ ends. Linked ends 0 open_loops) ends_ahead_is linked))
  linked_by place (closing loop) open_loops there ends_ahead_is loops_so linked =
      linked_down (suc place) (ends_ahead (suc place)) 0 there.loops
      ((subst (λ os. Linked (suc place ∷ ends_ahead (suc place)) 0 os) loops_so.1 (subst (λ ends. Linked ends 0 open_loops) ends_ahead_is linked)).1)
  linked_by place level open_loops there ends_ahead_is loops_so linked =
      subst (λ l. Linked (ends_ahead (suc place)) 0 l) (sym loops_so) (subst (λ ends. Linked ends 0 open_loops) ends_ahead_is linked)

  pub shut_at : (place : ℕ) → slice_get lines place ≡ None → (before_place place).loops ≡ []
  shut_at place found = end_shut scope 0 (before [] []) lines befores_there place fits found

  linked_next : (place : ℕ) (found : Option Instruction) → slice_get lines place ≡ found → Linked (ends_ahead place) 0 ((before_place place).loops)
      → Linked (ends_ahead (suc place)) 0 ((before_place (suc place)).loops)
  linked_next place None found linked = subst (λ l. Linked (ends_ahead (suc place)) 0 l) (sym (shut_at (suc place) (none_on lines place found))) tt
  linked_next place (Some instruction) found linked =
      linked_by place (bracket instruction) ((before_place place).loops) (before_place (suc place)) (ends_at place instruction found)
      (loops_go_on_at place instruction found) linked

  pub first_is : before_place 0 ≡ before [] []
  first_is = begins scope 0 (before [] []) lines befores_there fits

  pub linked : (place : ℕ) → Linked (ends_ahead place) 0 ((before_place place).loops)
  linked zero = subst (λ (b : Before). Linked (ends_ahead 0) 0 b.loops) (sym first_is) tt
  linked (suc place) = linked_next place (slice_get lines place) refl (linked place)

  -- behind its beginning each open loop was the newest
  abbrev pub Opened : List Open → Type 0
  Opened [] = Unit {0}
  Opened (open_loop ∷ open_loops) =
      ((before_place (suc open_loop.start)).kinds ≡ open_loop.under) × ((before_place (suc open_loop.start)).loops ≡ open_loop ∷ open_loops)
      × Opened open_loops

  opened_by : (place : ℕ) (bracket : Bracket) (open_loops : List Open) → LoopsGoOn place bracket open_loops (before_place (suc place))
      → Opened open_loops → Opened ((before_place (suc place)).loops)
  opened_by place (opening loop) open_loops loops_so opened =
      let same : suc place ≡ suc loops_so.0.start = ap suc (sym loops_so.3) in
      subst Opened (sym loops_so.1) (
        subst (λ n. (before_place n).kinds ≡ loops_so.0.under) same loops_so.2,
        subst (λ n. (before_place n).loops ≡ loops_so.0 ∷ open_loops) same loops_so.1,
        opened,
      )
  opened_by place (closing loop) open_loops loops_so opened = (subst Opened loops_so.1 opened).2
  opened_by place level open_loops loops_so opened = subst Opened (sym loops_so) opened

  opened_next : (place : ℕ) (found : Option Instruction) → slice_get lines place ≡ found → Opened ((before_place place).loops)
      → Opened ((before_place (suc place)).loops)
  opened_next place None found opened = subst Opened (sym (shut_at (suc place) (none_on lines place found))) tt
  opened_next place (Some instruction) found opened =
      opened_by place (bracket instruction) ((before_place place).loops) (loops_go_on_at place instruction found) opened

  pub opened : (place : ℕ) → Opened ((before_place place).loops)
  opened zero = subst (λ (b : Before). Opened b.loops) (sym first_is) tt
  opened (suc place) = opened_next place (slice_get lines place) refl (opened place)

  -- two places whose innermost loops begin at one place lie in the same loops
  same_loops : (open_loops other_open_loops : List Open) → Opened open_loops → Opened other_open_loops
      → innermost open_loops ≡ innermost other_open_loops → open_loops ≡ other_open_loops
  same_loops [] [] opened opened_so innermost_is = refl
  same_loops (open_loop ∷ open_loops) (other_open_loop ∷ other_open_loops) opened opened_so innermost_is =
      let start_is : open_loop.start ≡ other_open_loop.start = cc innermost_is in
      sym opened.1 ∙ ap (λ n. (before_place (suc n)).loops) start_is ∙ opened_so.1
  same_loops [] (open_loop ∷ other_open_loops) opened opened_so innermost_is = absurd (cc innermost_is)
  same_loops (open_loop ∷ open_loops) [] opened opened_so innermost_is = absurd (cc innermost_is)

  -- a jump lands at a target that declares these operands, in the same loops
  pub record Landed (place : ℕ) (kinds : List ValueKind) (open_loops : List Open) : Type 0 where
    pub target : Instruction
    pub at : slice_get lines place ≡ Some target
    pub declares : declared_by target ≡ Some kinds
    pub same : (before_place place).loops ≡ open_loops
    pub known : (before_place place).kinds ≡ kinds

  target_known : (place : ℕ) (instruction : Instruction) (kinds : List ValueKind) → declared_by instruction ≡ Some kinds
      → slice_get lines place ≡ Some instruction → (before_place place).kinds ≡ kinds
  target_known place (I.Target kinds) its_kinds declared_by_is found =
      let reverse_is : reverse kinds ≡ its_kinds = cc declared_by_is in
      sym ((carried_is scope (reverse kinds) (before_place place) (before_place (suc place))
      ((named scope place (before_place place) (I.Target kinds) (before_place (suc place)) (judged_there place (I.Target kinds) found)).1)).0)
      ∙ reverse_is
  target_known place _ kinds declared_by_is found = absurd (cc declared_by_is)

  pub land : (place next_place : ℕ) (left_kinds : List ValueKind) → found scope place next_place (before_place place) ≡ Ok left_kinds
      → (place < next_place) × Landed next_place left_kinds ((before_place place).loops)
  land place next_place left_kinds found_is =
      let test_ok_so =
      test_ok (nat_lt place next_place) (landing (innermost (before_place place).loops) (slice_get scope.spots next_place))
      BackwardJump left_kinds found_is in
      (grind (arith, nat_tests, test_ok_so.0), by (slice_get scope.spots next_place) refl test_ok_so.1)
    where
      told : (spot : Spot) (found : Option (List ValueKind)) → slice_get scope.spots next_place ≡ Some spot → spot.declares ≡ found
          → lands_on (innermost (before_place place).loops) spot found ≡ Ok left_kinds → Landed next_place left_kinds ((before_place place).loops)
      told spot None found declares_is lands_on_is = absurd (cc lands_on_is)
      told spot (Some kinds) found declares_is lands_on_is =
          let test_ok_so =
          test_ok (is_same_place (innermost (before_place place).loops) spot.innermost) (Ok kinds) JumpOutside left_kinds lands_on_is in
          let kinds_is : kinds ≡ left_kinds = same_ok kinds left_kinds test_ok_so.1 in
          let spot_is_so =
          spot_is scope 0 (before [] []) lines befores_there next_place spot fits (ap (λ ss. slice_get ss next_place) (sym spotted) ∙ found) in
          let declared_by_is : declared_by spot_is_so.0 ≡ Some left_kinds = sym spot_is_so.2 ∙ declares_is ∙ ap Some kinds_is in
          record {
            target = spot_is_so.0;
            at = spot_is_so.1;
            declares = declared_by_is;
            same =
                same_loops ((before_place next_place).loops) ((before_place place).loops) (opened next_place) (opened place)
                (sym (same_place_is _ spot.innermost test_ok_so.0 ∙ spot_is_so.3));
            known = target_known next_place spot_is_so.0 left_kinds declared_by_is spot_is_so.1;
          }

      by : (found : Option Spot) → slice_get scope.spots next_place ≡ found → landing (innermost (before_place place).loops) found ≡ Ok left_kinds
          → Landed next_place left_kinds ((before_place place).loops)
      by None found landing_is = absurd (cc landing_is)
      by (Some spot) found landing_is = told spot spot.declares found refl landing_is

  -- the loops opened since
  abbrev pub Since : ℕ → List Open → List Open → Type 0
  Since zero open_loops now = now ≡ open_loops
  Since (suc depth) open_loops now = (open_loop : Open) × (later : List Open) × (now ≡ open_loop ∷ later) × Since depth open_loops later

  -- behind the beginning of a loop its end is found
  pub record Closed (place ends : ℕ) (open_loops : List Open) : Type 0 where
    pub end : ℕ
    pub is : ends ≡ suc end
    pub later : place ≤ end
    pub loop : Loop
    pub closer : Instruction
    pub at : slice_get lines end ≡ Some closer
    pub closes : bracket closer ≡ closing loop
    pub same : (before_place end).loops ≡ open_loops

  inside : (depth : ℕ) (open_loop : Open) (open_loops now : List Open) → Since depth (open_loop ∷ open_loops) now → now ≡ [] → ⊥
  inside zero open_loop open_loops now since now_is = cc (since, now_is)
  inside (suc depth) open_loop open_loops now since now_is = cc (since.2, now_is)

  past_end : (instructions : List Instruction) (place : ℕ) (instruction : Instruction) → slice_get instructions place ≡ Some instruction
      → length instructions ≤ place → ⊥
  past_end [] place instruction found at_most = cc found
  past_end (instruction ∷ instructions) zero line found at_most = omega (arith, at_most)
  past_end (instruction ∷ instructions) (suc place) line found at_most = past_end instructions place line found (omega (arith, at_most))

  further : (place ends : ℕ) (open_loops : List Open) → Closed (suc place) ends open_loops → Closed place ends open_loops
  further place ends open_loops closed =
      record {
        end = closed.end;
        is = closed.is;
        later = omega (arith, closed.later);
        loop = closed.loop;
        closer = closed.closer;
        at = closed.at;
        closes = closed.closes;
        same = closed.same;
      }

  -- so many instructions are left, at most
  close : (left place depth : ℕ) (open_loop : Open) (open_loops : List Open) (found : Option Instruction) → slice_get lines place ≡ found
      → length lines ≤ place + left
      → Since depth (open_loop ∷ open_loops) ((before_place place).loops)
      → Closed place (slice_index (ends_ahead place) depth) (open_loop ∷ open_loops)
  close left place depth open_loop open_loops None found at_most since = absurd (inside depth open_loop open_loops _ since (shut_at place found))
  close zero place depth open_loop open_loops (Some instruction) found at_most since =
      absurd (past_end lines place instruction found (omega (arith, at_most)))
  close (suc left) place depth open_loop open_loops (Some instruction) found at_most since =
      by (bracket instruction) depth refl (ends_at place instruction found) (loops_go_on_at place instruction found) since
      (λ m v. close left (suc place) m open_loop open_loops (slice_get lines (suc place)) refl (omega (arith, at_most)) v)
    where
      by : (its_bracket : Bracket) (depth : ℕ) → bracket instruction ≡ its_bracket
          → ends_ahead place ≡ ends_before its_bracket place (ends_ahead (suc place))
          → LoopsGoOn place its_bracket ((before_place place).loops) (before_place (suc place))
          → Since depth (open_loop ∷ open_loops) ((before_place place).loops)
          → ((m : ℕ) → Since m (open_loop ∷ open_loops) ((before_place (suc place)).loops)
          → Closed (suc place) (slice_index (ends_ahead (suc place)) m) (open_loop ∷ open_loops))
          → Closed place (slice_index (ends_ahead place) depth) (open_loop ∷ open_loops)
      by (opening loop) depth bracket_is ends_ahead_is loops_so since closed =
          subst (λ n. Closed place n (open_loop ∷ open_loops))
          (sym (ap (λ ends. slice_index ends depth) ends_ahead_is ∙ index_rest (ends_ahead (suc place)) depth))
          (further place _ (open_loop ∷ open_loops) (closed (suc depth) (loops_so.0, (before_place place).loops, loops_so.1, since)))
      by (closing loop) zero bracket_is ends_ahead_is loops_so since closed =
          record {
            end = place;
            is = ap (λ ends. slice_index ends 0) ends_ahead_is;
            later = omega arith;
            loop = loop;
            closer = instruction;
            at = found;
            closes = bracket_is;
            same = since;
          }
      by (closing loop) (suc depth) bracket_is ends_ahead_is loops_so since closed =
          let later_is : since.1 ≡ (before_place (suc place)).loops = cc (since.2, loops_so.1) in
          subst (λ n. Closed place n (open_loop ∷ open_loops)) (sym (ap (λ ends. slice_index ends (suc depth)) ends_ahead_is))
          (further place _ (open_loop ∷ open_loops) (closed depth (subst (λ l. Since depth (open_loop ∷ open_loops) l) later_is since.3)))
      by level depth bracket_is ends_ahead_is loops_so since closed =
          subst (λ n. Closed place n (open_loop ∷ open_loops)) (sym (ap (λ ends. slice_index ends depth) ends_ahead_is))
          (further place _ (open_loop ∷ open_loops) (closed depth (subst (λ l. Since depth (open_loop ∷ open_loops) l) (sym loops_so) since)))

  -- behind a loop: its end lies behind its beginning, with the operands and loops that were there before, and a mapping's list
  pub record Past (start : ℕ) (open_loop : Open) (open_loops : List Open) : Type 0 where
    pub end : ℕ
    pub is : past start ≡ suc end
    pub later : suc start ≤ end
    pub closer : Instruction
    pub at : slice_get lines end ≡ Some closer
    pub kinds : (before_place (suc end)).kinds ≡ behind_loop open_loop.loop open_loop.room open_loop.under
    pub loops : (before_place (suc end)).loops ≡ open_loops

  pub past_it : (start : ℕ) (open_loop : Open) (open_loops : List Open) → (before_place (suc start)).loops ≡ open_loop ∷ open_loops
      → Past start open_loop open_loops
  past_it start open_loop open_loops same =
      let close_so = close (length lines) (suc start) 0 open_loop open_loops (slice_get lines (suc start)) refl (omega arith) same in
      let loops_so : LoopsGoOn close_so.end (closing close_so.loop) ((before_place close_so.end).loops) (before_place (suc close_so.end)) =
      subst (λ b. LoopsGoOn close_so.end b ((before_place close_so.end).loops) (before_place (suc close_so.end))) close_so.closes
      (loops_go_on_at close_so.end close_so.closer close_so.at) in
      let open_loop_is : open_loop ≡ loops_so.0 = cc (close_so.same, loops_so.1) in
      let same_so : (before_place (suc close_so.end)).loops ≡ open_loops = cc (close_so.same, loops_so.1) in
      record {
        end = close_so.end;
        is = close_so.is;
        later = close_so.later;
        closer = close_so.closer;
        at = close_so.at;
        kinds = loops_so.2 ∙ ap (λ (o : Open). behind_loop o.loop o.room o.under) (sym open_loop_is);
        loops = same_so;
      }
