-- A walk's fields.
use Rattle.rw_base.proofs.Common.{◌≡◌, ℕ, zero, suc, ◌+◌, ◌≤◌, ◌<◌, Bool, true, ◌&&◌, List, [], ◌∷◌, ◌++◌, length, map, reverse, get_or, Option, Some}
use Rattle.rw_base.proofs.Common.{None, Ok, drop, append_assoc, refl, sym, ap, ap₂, ◌∙◌, arith, length-append, All, drop_more, map-append}
use Rattle.rw_base.proofs.Common.{reverse-append, All-get_or, All-push}
use Rattle.rpl_code.specs.declared.kind.ValueKind.{ValueKind}
use Rattle.rpl_code.specs.declared.instruction.Instruction.{Instruction}
use Rattle.rpl_verify.specs.declared.walk.OpenLoop.{OpenLoop}
use Rattle.rpl_verify.specs.declared.walk.Landing.{Landing}
use Rattle.rpl_verify.specs.Kinds.{are_same_kinds, top_of}
use Rattle.rpl_verify.specs.declared.list_loop.Loop.{Loop as ListLoop}
use Rattle.rpl_verify.specs.Places.{Loop, Opener, Spot, bracket, declared_by, is_same_loop, loop_of, openers_behind, spots, spots_from, start_of}
use Rattle.rpl_verify.specs.Fits.{Open, before, behind_loop, if_fits, shut}
use Rattle.rpl_verify.specs.Budget.{words_of_loops}
use Rattle.rpl_verify.specs.Walked.{Walked, declares, with_kinds}
use Rattle.rpl_verify.specs.Stacks.{at, Grows, IsPushed}
use Rattle.rpl_verify.specs.Walks.{open_of, opens_of, kinds_at, spot_of, spots_of, walked, IsBelowIt, IsSoundWalk, IsRooted, IsDeclared}
use Rattle.rpl_verify.proofs.KindFacts.{and_true, same_kinds_true}
use Rattle.rpl_verify.proofs.Judged.{same_loop_true}
use Rattle.rpl_verify.proofs.StackFacts.{at-append}

-- ---- lists that grow

map_like : {X Y : Type 0} (P : X → Type 0) (one other : X → Y) (things : List X) → ((thing : X) → P thing → one thing ≡ other thing)
    → ((index : ℕ) (other_thing : X) → index < length things → P (get_or things index other_thing)) → map one things ≡ map other things
map_like P one other [] same all_are = refl
map_like P one other (thing ∷ things) same all_are =
    ap₂ (λ y ys. y ∷ ys) (same thing (all_are 0 thing (omega arith)))
    (map_like P one other things same (λ i d lt. all_are (suc i) d (omega (arith, lt))))

open_kept : (lists more : List (List ValueKind)) (open_loop : OpenLoop) → open_loop.under < length lists
    → open_of (lists ++ more) open_loop ≡ open_of lists open_loop
open_kept lists more open_loop below =
    ap (λ k. record { start = open_loop.start; loop = (open_of lists open_loop).loop; room = open_loop.room; under = k })
    (at-append lists more open_loop.under below)

declared_kept : (lists more : List (List ValueKind)) (n : Option ℕ) → IsBelowIt (length lists) n → kinds_at (lists ++ more) n ≡ kinds_at lists n
declared_kept lists more None below_it = refl
declared_kept lists more (Some n) below_it = ap Some (at-append lists more n below_it)

spot_kept : (lists more : List (List ValueKind)) (landing : Landing) → IsBelowIt (length lists) landing.declares
    → spot_of (lists ++ more) landing ≡ spot_of lists landing
spot_kept lists more landing below_it =
    ap (λ k. record { innermost = landing.innermost; declares = k }) (declared_kept lists more landing.declares below_it)

pub opens_kept : (lists more : List (List ValueKind)) (open_loops : List OpenLoop) → All (λ (o : OpenLoop). o.under < length lists) open_loops
    → opens_of (lists ++ more) open_loops ≡ opens_of lists open_loops
opens_kept lists more open_loops all =
    ap reverse (map_like (λ (o : OpenLoop). o.under < length lists) (open_of (lists ++ more)) (open_of lists) open_loops (open_kept lists more)
    (λ i d lt. All-get_or (λ (o : OpenLoop). o.under < length lists) open_loops i d lt all))

pub spots_kept : (lists more : List (List ValueKind)) (landings : List Landing) → All (λ (x : Landing). IsBelowIt (length lists) x.declares) landings
    → spots_of (lists ++ more) landings ≡ spots_of lists landings
spots_kept lists more landings all =
    map_like (λ (x : Landing). IsBelowIt (length lists) x.declares) (spot_of (lists ++ more)) (spot_of lists) landings (spot_kept lists more)
    (λ i d lt. All-get_or (λ (x : Landing). IsBelowIt (length lists) x.declares) landings i d lt all)

pub grown_length : (lists ls2 : List (List ValueKind)) → Grows lists ls2 → length lists ≤ length ls2
grown_length lists ls2 grows = let length_so = ap length grows.is in let lengths = length-append lists grows.more in omega (arith, length_so, lengths)

below_grown : (n m : ℕ) (found : Option ℕ) → n ≤ m → IsBelowIt n found → IsBelowIt m found
below_grown n m None at_most below_it = tt
below_grown n m (Some index) at_most below_it = omega (arith, at_most, below_it)

landings_grown : (n m : ℕ) (landings : List Landing) → n ≤ m → All (λ (x : Landing). IsBelowIt n x.declares) landings
    → All (λ (x : Landing). IsBelowIt m x.declares) landings
landings_grown n m landings at_most all = λ k d lt. below_grown n m ((get_or landings k d).declares) at_most (all k d lt)

opens_grown : (n m : ℕ) (open_loops : List OpenLoop) → n ≤ m → All (λ (o : OpenLoop). o.under < n) open_loops
    → All (λ (o : OpenLoop). o.under < m) open_loops
opens_grown n m open_loops at_most all = λ k d lt. let within = all k d lt in omega (arith, at_most, within)

-- a kind on top
pub pushed : (lists ls2 : List (List ValueKind)) (n number : ℕ) (open_loops : List OpenLoop) (landings : List Landing) (words : ℕ)
    (next_walked : Walked) (kind : ValueKind)
    → walked lists n open_loops landings ≡ next_walked → IsSoundWalk lists n open_loops landings words → Grows lists ls2
    → IsPushed lists ls2 kind n number
    → walked ls2 number open_loops landings ≡ with_kinds next_walked (kind ∷ next_walked.before.kinds)
pushed lists ls2 n number open_loops landings words next_walked kind walked_is sound_walk grows pushed_so =
    let made : at ls2 number ≡ kind ∷ at lists n = pushed_so.made in
    let opens_of_is : opens_of ls2 open_loops ≡ opens_of lists open_loops =
    ap (λ l. opens_of l open_loops) grows.is ∙ opens_kept lists grows.more open_loops sound_walk.opens_in in
    let spots_of_is : spots_of ls2 landings ≡ spots_of lists landings =
    ap (λ l. spots_of l landings) grows.is ∙ spots_kept lists grows.more landings sound_walk.landings_in in
    let made2 : walked ls2 number open_loops landings
    ≡ record { before = before (kind ∷ at lists n) (opens_of lists open_loops); spots = spots_of lists landings } =
    rw (made, opens_of_is, spots_of_is) refl in
    made2 ∙ ap (λ (w : Walked). with_kinds w (kind ∷ w.before.kinds)) walked_is

pub sound_grown : (lists ls2 : List (List ValueKind)) (n number : ℕ) (open_loops : List OpenLoop) (landings : List Landing) (words : ℕ)
    → IsSoundWalk lists n open_loops landings words
    → Grows lists ls2 → number < length ls2 → IsSoundWalk ls2 number open_loops landings words
sound_grown lists ls2 n number open_loops landings words sound_walk grows below =
    let opens_of_is : opens_of ls2 open_loops ≡ opens_of lists open_loops =
    ap (λ l. opens_of l open_loops) grows.is ∙ opens_kept lists grows.more open_loops sound_walk.opens_in in
    record {
      now_in = below;
      opens_in = opens_grown (length lists) (length ls2) open_loops (grown_length lists ls2 grows) sound_walk.opens_in;
      landings_in = landings_grown (length lists) (length ls2) landings (grown_length lists ls2 grows) sound_walk.landings_in;
      words_are = sound_walk.words_are ∙ ap words_of_loops (sym opens_of_is);
    }

-- ---- the end of a loop

pub shut_is : (loop : Loop) (kinds : List ValueKind) (open_loop : Open) (open_loops : List Open) → is_same_loop loop open_loop.loop ≡ true
    → are_same_kinds open_loop.under kinds ≡ true
    → shut loop kinds (open_loop ∷ open_loops) ≡ Ok (before (behind_loop loop open_loop.room kinds) open_loops)
shut_is loop kinds open_loop open_loops is_same_loop_is are_same_kinds_is =
    let loop_is : loop ≡ open_loop.loop = same_loop_true loop open_loop.loop is_same_loop_is in
    let under_is : open_loop.under ≡ kinds = same_kinds_true open_loop.under kinds are_same_kinds_is in
    ap₂ (λ x y. if_fits (x && y) (before (behind_loop open_loop.loop open_loop.room open_loop.under) open_loops)) is_same_loop_is are_same_kinds_is
    ∙ ap₂ (λ x y. Ok (before (behind_loop x open_loop.room y) open_loops)) (sym loop_is) under_is

opens_push : (lists : List (List ValueKind)) (open_loops : List OpenLoop) (open_loop : OpenLoop)
    → opens_of lists (open_loops ++ open_loop ∷ []) ≡ open_of lists open_loop ∷ opens_of lists open_loops
opens_push lists open_loops open_loop =
    ap reverse (map-append (open_of lists) open_loops (open_loop ∷ []))
    ∙ reverse-append (map (open_of lists) open_loops) (open_of lists open_loop ∷ [])

-- the last loop that was begun ends
pub closes : (lists : List (List ValueKind)) (n : ℕ) (open_loops os2 : List OpenLoop) (open_loop : OpenLoop) (landings : List Landing)
    (next_walked : Walked) (sort : ListLoop)
    → walked lists n open_loops landings ≡ next_walked → open_loops ≡ os2 ++ open_loop ∷ []
    → (is_same_loop (loop_of sort) (loop_of open_loop.sort) && are_same_kinds (at lists open_loop.under) (at lists n)) ≡ true
    → (shut (loop_of sort) next_walked.before.kinds next_walked.before.loops
    ≡ Ok (before (behind_loop (loop_of sort) open_loop.room (at lists n)) (opens_of lists os2)))
    × (spots_of lists landings ≡ next_walked.spots)
closes lists n open_loops os2 open_loop landings next_walked sort walked_is open_loops_is is_same_loop_is =
    let both =
    and_true (is_same_loop (loop_of sort) (loop_of open_loop.sort)) (are_same_kinds (at lists open_loop.under) (at lists n)) is_same_loop_is in
    let opens_of_is : opens_of lists open_loops ≡ open_of lists open_loop ∷ opens_of lists os2 =
    ap (opens_of lists) open_loops_is ∙ opens_push lists os2 open_loop in (
      ap (λ (w : Walked). shut (loop_of sort) w.before.kinds w.before.loops) (sym walked_is) ∙ ap (shut (loop_of sort) (at lists n)) opens_of_is
          ∙ shut_is (loop_of sort) (at lists n) (open_of lists open_loop) (opens_of lists os2) both.0 both.1,
      ap (λ (w : Walked). w.spots) walked_is,
    )

-- ---- the first pass

-- the next instruction, and those behind it
pub next_is : (lines : List Instruction) (place : ℕ) (instruction : Instruction) → place < length lines → instruction ≡ get_or lines place instruction
    → drop place lines ≡ instruction ∷ drop (place + 1) lines
next_is lines place instruction below instruction_is =
    drop_more lines place instruction below ∙ ap (λ y. y ∷ drop (place + 1) lines) (sym instruction_is)

spots_push : (lists : List (List ValueKind)) (landings : List Landing) (landing : Landing)
    → spots_of lists (landings ++ landing ∷ []) ≡ spots_of lists landings ++ spot_of lists landing ∷ []
spots_push lists [] landing = refl
spots_push lists (landing ∷ landings) landing_so = ap (λ l. spot_of lists landing ∷ l) (spots_push lists landings landing_so)

-- the spots so far, and those of what is left
pub record IsBegun (lists : List (List ValueKind)) (landings : List Landing) (openers : List Opener) (place : ℕ) (lines all : List Instruction)
    : Type 0 where
  pub rooted : IsRooted lists
  pub within : All (λ (x : Landing). IsBelowIt (length lists) x.declares) landings
  pub left : spots_of lists landings ++ spots_from place openers lines ≡ spots all

rooted_grown : (lists ls2 : List (List ValueKind)) → Grows lists ls2 → IsRooted lists → IsRooted ls2
rooted_grown lists ls2 grows rooted =
    let is_so = grows.is in
    record {
      within =
          let length_so = ap length is_so in
          let lengths = length-append lists grows.more in let within_so = rooted.within in omega (arith, length_so, lengths, within_so);
      empty = ap (λ l. at l 0) is_so ∙ at-append lists grows.more 0 rooted.within ∙ rooted.empty;
    }

told : (lists : List (List ValueKind)) (n : Option ℕ) (found : Option (List ValueKind)) → IsDeclared lists n found → kinds_at lists n ≡ found
told lists None found declared = sym declared
told lists (Some n) found declared = sym declared.1

told_within : (lists : List (List ValueKind)) (n : Option ℕ) (found : Option (List ValueKind)) → IsDeclared lists n found → IsBelowIt (length lists) n
told_within lists None found declared = tt
told_within lists (Some n) found declared = declared.0

pub begun_on : (lists ls2 : List (List ValueKind)) (landings : List Landing) (openers os2 : List Opener) (place : ℕ) (instruction : Instruction)
    (lines left all : List Instruction)
    (landing : Landing) → IsBegun lists landings openers place left all → left ≡ instruction ∷ lines → Grows lists ls2
    → IsDeclared ls2 landing.declares (declared_by instruction)
    → landing.innermost ≡ start_of (top_of openers) → os2 ≡ openers_behind (bracket instruction) place openers
    → IsBegun ls2 (landings ++ landing ∷ []) os2 (place + 1) lines all
begun_on lists ls2 landings openers os2 place instruction lines left all landing begun left_is grows declared innermost_is os2_is =
    let is_so = grows.is in
    let wide : length lists ≤ length ls2 = grown_length lists ls2 grows in
    let same : spots_of ls2 landings ≡ spots_of lists landings =
    ap (λ l. spots_of l landings) is_so ∙ spots_kept lists grows.more landings begun.within in
    let spot : Spot = record { innermost = start_of (top_of openers); declares = declared_by instruction } in
    let new : spot_of ls2 landing ≡ spot =
    ap₂ (λ a c. record { innermost = a; declares = c }) innermost_is (told ls2 landing.declares (declared_by instruction) declared) in
    let place_is : place + 1 ≡ suc place = omega arith in
    let rest : spots_from (place + 1) os2 lines ≡ spots_from (suc place) (openers_behind (bracket instruction) place openers) lines =
    ap₂ (λ n os. spots_from n os lines) place_is os2_is in
    record {
      rooted = rooted_grown lists ls2 grows begun.rooted;
      within =
          All-push (λ (x : Landing). IsBelowIt (length ls2) x.declares) landings landing
          (landings_grown (length lists) (length ls2) landings wide begun.within)
          (told_within ls2 landing.declares (declared_by instruction) declared);
      left =
          ap (λ l. l ++ spots_from (place + 1) os2 lines) (spots_push ls2 landings landing ∙ ap₂ (λ a c. a ++ c ∷ []) same new)
          ∙ append_assoc (spots_of lists landings) (spot ∷ []) (spots_from (place + 1) os2 lines)
          ∙ ap (λ r. spots_of lists landings ++ spot ∷ r) rest ∙ ap (λ is. spots_of lists landings ++ spots_from place openers is) (sym left_is)
          ∙ begun.left;
    }

-- what is declared at a place is what the instruction there declares
pub spots_at : (lines : List Instruction) (place : ℕ) (openers : List Opener) (other_place : ℕ) (instruction : Instruction)
    (instructions : List Instruction) → drop other_place lines ≡ instruction ∷ instructions
    → declares (spots_from place openers lines) other_place ≡ declared_by instruction
spots_at [] place openers zero instruction instructions drop_is = absurd (cc drop_is)
spots_at [] place openers (suc other_place) instruction instructions drop_is = absurd (cc drop_is)
spots_at (instruction ∷ lines) place openers zero line instructions drop_is =
    let instruction_is : instruction ≡ line = cc drop_is in ap declared_by instruction_is
spots_at (instruction ∷ lines) place openers (suc other_place) line instructions drop_is =
    spots_at lines (suc place) (openers_behind (bracket instruction) place openers) other_place line instructions drop_is
