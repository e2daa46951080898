-- What stands from a place of a block on (`HasAt`): its instructions, which loops are open, and where a jump may go.
use Rattle.rpl_compile.proofs.Common.{BackwardJump, Before, Bool, Bracket, Err, Instruction, JumpOutside, List, Loop, Ok, Open, Opener, Scope, Some}
use Rattle.rpl_compile.proofs.Common.{Spot, ValueKind, [], ap, ap₂, arith, bracket, closed, closing, declared_by, found, if◌then◌else◌, innermost}
use Rattle.rpl_compile.proofs.Common.{is_same_loop, is_same_place, judged_at, landing, length, level, map, nat_lt, nat_tests, openers_behind, opening}
use Rattle.rpl_compile.proofs.Common.{refl, reverse, reverse-reverse, slice_get, spots, spots_from, start_of, subst, suc, sym, true, zero, ℕ, ◌++◌}
use Rattle.rpl_compile.proofs.Common.{◌+◌, ◌<◌, ◌∙◌, ◌∷◌, ◌≡◌}
use Rattle.rpl_code.specs.declared.instruction.Instruction.TheVariants as I
use Rattle.rpl_verify.specs.Kinds.{top_of}
use Rattle.rpl_verify.proofs.Judged.{LoopsGoOn, loops_go_on, same_loop_refl}

-- ---- lists

-- these stand there from that place on
abbrev pub HasAt : {A : Type 0} → List A → ℕ → List A → Type 0
HasAt xs place [] = Unit {0}
HasAt xs place (y ∷ ys) = (slice_get xs place ≡ Some y) × HasAt xs (suc place) ys

pub has_front : {A : Type 0} (xs : List A) (place : ℕ) (ys zs : List A) → HasAt xs place (ys ++ zs) → HasAt xs place ys
has_front xs place [] zs placed = tt
has_front xs place (y ∷ ys) zs placed = (placed.0, has_front xs (suc place) ys zs placed.1)

pub has_back : {A : Type 0} (xs : List A) (place : ℕ) (ys zs : List A) → HasAt xs place (ys ++ zs) → HasAt xs (place + length ys) zs
has_back xs place [] zs placed = let place_is : place ≡ place + 0 = omega arith in subst (λ n. HasAt xs n zs) place_is placed
has_back xs place (y ∷ ys) zs placed = let same_place : suc place + length ys ≡ place + suc (length ys) =
    omega arith in subst (λ n. HasAt xs n zs) same_place (has_back xs (suc place) ys zs placed.1)

later_at : {A : Type 0} (x : A) (xs : List A) (place : ℕ) (ys : List A) → HasAt xs place ys → HasAt (x ∷ xs) (suc place) ys
later_at x xs place [] placed = tt
later_at x xs place (y ∷ ys) placed = (placed.0, later_at x xs (suc place) ys placed.1)

pub has_all : {A : Type 0} (xs : List A) → HasAt xs 0 xs
has_all [] = tt
has_all (x ∷ xs) = (refl, later_at x xs 0 xs (has_all xs))

pub has_behind : {A : Type 0} (xs ys : List A) → HasAt (xs ++ ys) (length xs) ys
has_behind [] ys = has_all ys
has_behind (x ∷ xs) ys = later_at x (xs ++ ys) (length xs) ys (has_behind xs ys)

-- ---- open loops

abbrev pub opener_of : Open → Opener
opener_of open_loop = record { start = open_loop.start; loop = open_loop.loop }

abbrev pub openers_of : List Open → List Opener
openers_of open_loops = map opener_of open_loops

openers_go : (place : ℕ) (of_bracket : Bracket) (open_loops : List Open) (there : Before) → LoopsGoOn place of_bracket open_loops there
    → openers_behind of_bracket place (openers_of open_loops) ≡ openers_of there.loops
openers_go place (opening loop) open_loops there loops_so =
    ap₂ (λ (start : ℕ) (l : Loop). record { start = start; loop = l } ∷ openers_of open_loops) (sym loops_so.3) (sym loops_so.4)
    ∙ sym (ap openers_of loops_so.1)
openers_go place (closing loop) open_loops there loops_so =
    ap (λ (open_loops : List Open). closed loop (openers_of open_loops)) loops_so.1
    ∙ ap (λ (test : Bool). if test then openers_of there.loops else opener_of loops_so.0 ∷ openers_of there.loops)
    (ap (is_same_loop loop) loops_so.3 ∙ same_loop_refl loop)
openers_go place level open_loops there loops_so = ap openers_of (sym loops_so)

-- the openers before a place
abbrev pub openers_at : ℕ → List Opener → List Instruction → ℕ → List Opener
openers_at place openers lines zero = openers
openers_at place openers [] (suc n) = openers
openers_at place openers (line ∷ lines) (suc n) = openers_at (suc place) (openers_behind (bracket line) place openers) lines n

openers_next : (place : ℕ) (openers : List Opener) (lines : List Instruction) (n : ℕ) (line : Instruction) → slice_get lines n ≡ Some line
    → openers_at place openers lines (suc n) ≡ openers_behind (bracket line) (place + n) (openers_at place openers lines n)
openers_next place openers [] n line stands = absurd (cc stands)
openers_next place openers (first ∷ lines) zero line stands =
    let line_is : first ≡ line = cc stands in let place_is : place ≡ place + 0 = omega arith in
    ap₂ (λ (line : Instruction) n. openers_behind (bracket line) n openers) line_is place_is
openers_next place openers (first ∷ lines) (suc n) line stands =
    let same_place : suc place + n ≡ place + suc n = omega arith in
    let here = openers_behind (bracket first) place openers in
    openers_next (suc place) here lines n line stands ∙ ap (λ m. openers_behind (bracket line) m (openers_at (suc place) here lines n)) same_place

spot_there : (place : ℕ) (openers : List Opener) (lines : List Instruction) (n : ℕ) (line : Instruction) → slice_get lines n ≡ Some line
    → slice_get (spots_from place openers lines) n
    ≡ Some (record { innermost = start_of (top_of (openers_at place openers lines n)); declares = declared_by line })
spot_there place openers [] n line stands = absurd (cc stands)
spot_there place openers (first ∷ lines) zero line stands =
    let line_is : first ≡ line = cc stands in
    ap (λ (line : Instruction). Some (record { innermost = start_of (top_of openers); declares = declared_by line })) line_is
spot_there place openers (first ∷ lines) (suc n) line stands =
    spot_there (suc place) (openers_behind (bracket first) place openers) lines n line stands

same_innermost : (open_loops : List Open) → is_same_place (innermost open_loops) (start_of (top_of (openers_of open_loops))) ≡ true
same_innermost [] = refl
same_innermost (open_loop ∷ open_loops) = grind (arith, nat_tests)

-- in a block of these lines
abbrev pub openers_before : List Instruction → ℕ → List Opener
openers_before lines place = openers_at 0 [] lines place

pub level_on : (lines : List Instruction) (place : ℕ) (line : Instruction) → slice_get lines place ≡ Some line → bracket line ≡ level
    → openers_before lines (suc place) ≡ openers_before lines place
level_on lines place line stands is_level = openers_next 0 [] lines place line stands
    ∙ ap (λ b. openers_behind b (0 + place) (openers_before lines place)) is_level

module _ (scope : Scope) (lines : List Instruction) (spots_are : scope.spots ≡ spots lines) where
  -- an instruction that fits leads from the loops that are open to those that are open behind it
  pub opens_on : (place : ℕ) (here there : Before) (line : Instruction) → slice_get lines place ≡ Some line
      → judged_at scope place here line ≡ Ok there
      → openers_before lines place ≡ openers_of here.loops
      → openers_before lines (suc place) ≡ openers_of there.loops
  opens_on place here there line stands judged same =
      let same_place : 0 + place ≡ place = omega arith in
      openers_next 0 [] lines place line stands ∙ ap₂ (λ n open_loops. openers_behind (bracket line) n open_loops) same_place same
      ∙ openers_go place (bracket line) here.loops there (loops_go_on scope place here line there judged)

  -- a jump to a target in the same loop lands there
  pub lands : (place to : ℕ) (here : Before) (kinds : List ValueKind) → place < to → slice_get lines to ≡ Some (I.Target (reverse kinds))
      → openers_before lines to ≡ openers_of here.loops
      → found scope place to here ≡ Ok kinds
  lands place to here kinds less stands same =
      let forward : nat_lt place to ≡ true = grind (arith, nat_tests, less) in
      let spot : slice_get scope.spots to ≡ Some (record { innermost = start_of (top_of (openers_of here.loops)); declares = Some kinds }) =
      ap (λ (spots_there : List Spot). slice_get spots_there to) spots_are ∙ spot_there 0 [] lines to (I.Target (reverse kinds)) stands
      ∙ ap₂ (λ (os : List Opener) ks. Some (record { innermost = start_of (top_of os); declares = Some ks })) same (reverse-reverse kinds) in
      ap (λ t. if t then landing (innermost here.loops) (slice_get scope.spots to) else Err BackwardJump) forward
      ∙ ap (landing (innermost here.loops)) spot ∙ ap (λ t. if t then Ok kinds else Err JumpOutside) (same_innermost here.loops)

  -- what is declared at a place
  pub declares_at : (place : ℕ) (kinds : List ValueKind) → slice_get lines place ≡ Some (I.Target (reverse kinds))
      → slice_get scope.spots place ≡ Some (record { innermost = start_of (top_of (openers_before lines place)); declares = Some kinds })
  declares_at place kinds stands =
      ap (λ (spots_there : List Spot). slice_get spots_there place) spots_are ∙ spot_there 0 [] lines place (I.Target (reverse kinds)) stands
      ∙ ap (λ ks. Some (record { innermost = start_of (top_of (openers_before lines place)); declares = Some ks })) (reverse-reverse kinds)
