-- Accepted code is safe: its blocks fit, and their budgets are what they may come to.
use Rattle.rw_base.proofs.Common.{◌≡◌, ℕ, zero, suc, ◌+◌, ◌-◌, ◌≤◌, ◌<◌, ◌==◌, ℤ, Bool, true, false, nat_lt, nat_le, List, [], ◌∷◌, ◌++◌, length}
use Rattle.rw_base.specs.declared.limits.TheConstants.{RULES_MAX}
use Rattle.rw_base.proofs.Common.{take, Option, Some, None, Result, Ok, Err, refl, sym, ap, ap₂, ◌∙◌, subst, arith, append_assoc, append-nil}
use Rattle.rw_base.proofs.Common.{length-append, if◌then◌else◌, slice_get, option_and_then, option_map, slice_get_within, length-take, nat_tests}
use Rattle.rw_base.specs.declared.number.Cell.{Cell}
use Rattle.rw_model.proofs.Common.{Draft, numbered}
use Rattle.rw_firing.specs.Fire.{Fire}
use Rattle.rpl_code.specs.declared.block.Block.{Block}
use Rattle.rpl_code.specs.declared.block.BlockHead.{BlockHead}
use Rattle.rpl_code.specs.declared.block.BlockHead.TheVariants.{Rule, Function}
use Rattle.rpl_tree.proofs.Common.{Budget, capped, limits, Answer, Trail, ended, stuck, value, World, fire_of}
use Rattle.rpl_verify.specs.declared.verify_kind.VerifyKind.TheVariants.{TooMany}
use Rattle.rpl_verify.specs.Names.{Scope}
use Rattle.rpl_verify.specs.Fits.{Before, Misplaced, at_place, before, befores, block_befores, count_alike, each_block, is_alike, parameters_of}
use Rattle.rpl_verify.specs.Fits.{scope_of}
use Rattle.rpl_verify.specs.Budget.{AreAccepted, IsWithinLimits, at_a_time, block_ruling, budget_by, count_of, looks_of, most, part_of, puts_of}
use Rattle.rpl_verify.specs.Budget.{summed, within_limits}
use Rattle.rpl_verify.specs.Machine.{Frame, begin, fired, first_frame, most_steps, rule_from, run}
use Rattle.rpl_verify.specs.Safety.{AreSafe, firing_from, look_count_in, most_words, puts_from, states}
use Rattle.rpl_verify.proofs.Rulings.{at_place_ok, in_block_ok, same_budget, within}
use Rattle.rpl_verify.proofs.KindFacts.{then_do_ok}
use Rattle.rpl_verify.proofs.Costs.{costs_ahead, words_ahead}
use Rattle.rpl_verify.proofs.States.{Covers, Fits, begun, block_or}
use Rattle.rpl_verify.proofs.Running.{EndsOn, Ran, runs}

-- ---- lists

pub numbered_is : {A : Type 0} (things : List A) (number : ℕ) (thing : A) → numbered things number ≡ Some thing
    → (slice_get things (number - 1) ≡ Some thing) × (1 ≤ number)
numbered_is things number thing numbered_so = by (nat_le 1 number) refl numbered_so
  where
    by : (truth : Bool) → nat_le 1 number ≡ truth → (if truth then slice_get things (number - 1) else None) ≡ Some thing
        → (slice_get things (number - 1) ≡ Some thing) × (1 ≤ number)
    by true nat_le_is if_is = (if_is, grind (arith, nat_tests, nat_le_is))
    by false nat_le_is if_is = absurd (cc if_is)

pub numbered_by : {A : Type 0} (things : List A) (number : ℕ) (thing : A) → slice_get things (number - 1) ≡ Some thing → 1 ≤ number
    → numbered things number ≡ Some thing
numbered_by things number thing found at_most = by (nat_le 1 number) (grind (arith, nat_tests, at_most))
  where
    by : (truth : Bool) → truth ≡ true → (if truth then slice_get things (number - 1) else None) ≡ Some thing
    by true truth_is = found
    by false truth_is = absurd (cc truth_is)

pub get_behind : {A : Type 0} (things other_things : List A) (thing : A)
    → slice_get ((things ++ thing ∷ []) ++ other_things) (length things) ≡ Some thing
get_behind [] other_things thing = refl
get_behind (thing ∷ things) other_things other_thing = get_behind things other_things other_thing

take_front : {A : Type 0} (things other_things : List A) → take (length things) (things ++ other_things) ≡ things
take_front [] other_things = refl
take_front (thing ∷ things) other_things = ap (λ l. thing ∷ l) (take_front things other_things)

get_taken : {A : Type 0} (n index : ℕ) (things : List A) (thing : A) → index < n → slice_get things index ≡ Some thing
    → slice_get (take n things) index ≡ Some thing
get_taken zero index things thing below found = absurd (omega (arith, below))
get_taken (suc n) index [] thing below found = absurd (cc found)
get_taken (suc n) zero (thing ∷ things) other_thing below found = found
get_taken (suc n) (suc index) (thing ∷ things) other_thing below found = get_taken n index things other_thing (omega (arith, below)) found

-- ---- blocks, one after the other

module _ {A : Type 0} (judge : List Block → List A → Block → Result A Misplaced) where
  front : (earlier : List Block) (done : List A) (blocks : List Block) (all : List A) → each_block judge earlier done blocks ≡ Ok all
      → (things : List A) × (done ++ things ≡ all)
  front earlier done [] all each_block_is = ([], append-nil done ∙ cc each_block_is)
  front earlier done (block ∷ blocks) all each_block_is =
      let in_block_ok_so =
      in_block_ok (suc (length earlier)) (judge earlier done block) (λ a. each_block judge (earlier ++ block ∷ []) (done ++ a ∷ []) blocks)
      all each_block_is in
      let front_so = front (earlier ++ block ∷ []) (done ++ in_block_ok_so.0 ∷ []) blocks all in_block_ok_so.2 in
      (in_block_ok_so.0 ∷ front_so.0, sym (append_assoc done (in_block_ok_so.0 ∷ []) front_so.0) ∙ front_so.1)

  pub judged_at : (earlier : List Block) (done : List A) (blocks : List Block) (all : List A) (index : ℕ) (block : Block)
      → each_block judge earlier done blocks ≡ Ok all → slice_get blocks index ≡ Some block
      → (thing : A) × (judge (earlier ++ take index blocks) (take (length done + index) all) block ≡ Ok thing)
      × (slice_get all (length done + index) ≡ Some thing)
  judged_at earlier done [] all index block each_block_is found = absurd (cc found)
  judged_at earlier done (other_block ∷ blocks) all zero block each_block_is found =
      let in_block_ok_so =
      in_block_ok (suc (length earlier)) (judge earlier done other_block)
      (λ a. each_block judge (earlier ++ other_block ∷ []) (done ++ a ∷ []) blocks) all each_block_is in
      let front_so = front (earlier ++ other_block ∷ []) (done ++ in_block_ok_so.0 ∷ []) blocks all in_block_ok_so.2 in
      let other_block_is : other_block ≡ block = cc found in
      let length_is : length done ≡ length done + 0 = omega arith in
      let take_is : take (length done) all ≡ done =
      ap (take (length done)) (sym front_so.1 ∙ append_assoc done (in_block_ok_so.0 ∷ []) front_so.0)
      ∙ take_front done (in_block_ok_so.0 ∷ front_so.0) in (
        in_block_ok_so.0,
        ap₂ (λ es ds. judge es ds block) (append-nil earlier) (ap (λ n. take n all) (sym length_is) ∙ take_is)
            ∙ ap (judge earlier done) (sym other_block_is) ∙ in_block_ok_so.1,
        ap₂ (λ ds n. slice_get ds n) (sym front_so.1) (sym length_is) ∙ get_behind done front_so.0 in_block_ok_so.0,
      )
  judged_at earlier done (other_block ∷ blocks) all (suc index) block each_block_is found =
      let in_block_ok_so =
      in_block_ok (suc (length earlier)) (judge earlier done other_block)
      (λ a. each_block judge (earlier ++ other_block ∷ []) (done ++ a ∷ []) blocks) all each_block_is in
      let judged_at_so = judged_at (earlier ++ other_block ∷ []) (done ++ in_block_ok_so.0 ∷ []) blocks all index block in_block_ok_so.2 found in
      let length_is : length (done ++ in_block_ok_so.0 ∷ []) + index ≡ length done + suc index =
      omega (arith, length-append done (in_block_ok_so.0 ∷ [])) in (
        judged_at_so.0,
        ap₂ (λ es n. judge es (take n all) block) (sym (append_assoc earlier (other_block ∷ []) (take index blocks))) (sym length_is)
            ∙ judged_at_so.1,
        ap (slice_get all) (sym length_is) ∙ judged_at_so.2,
      )

uncapped : (limit n : ℕ) → capped limit n ≤ limit → capped limit n ≡ n
uncapped limit n at_most = omega (arith, at_most)

abbrev pub befores_or : Result (List Before) Misplaced → List Before
befores_or (Ok befores_there) = befores_there
befores_or (Err misplaced) = []

module _ (basin : Draft) (code : List Block) (budgets : List Budget) (accepted : AreAccepted basin code budgets) where
  -- what is before each place of each block, and the budgets of the blocks before it
  abbrev pub accepted_befores : ℕ → List Before
  accepted_befores number =
      befores_or (befores (scope_of basin code number (block_or (numbered code number))) 0 (before [] []) (block_or (numbered code number)).lines)

  abbrev pub earlier : ℕ → List Budget
  earlier n = take (n - 1) budgets

  pub record Ruled (number : ℕ) (block : Block) : Type 0 where
    pub places : List Before
    pub fit : befores (scope_of basin code number block) 0 (before [] []) block.lines ≡ Ok places
    pub budget_is : Budget
    pub at : numbered budgets number ≡ Some budget_is
    pub same : budget_by (scope_of basin code number block) (earlier number) places block.lines ≡ budget_is
    pub limited : IsWithinLimits budget_is

  pub ruled : (number : ℕ) (block : Block) → numbered code number ≡ Some block → Ruled number block
  ruled number block numbered_so =
      let stands = numbered_is code number block numbered_so in
      let index : ℕ = number - 1 in
      let judged_at_so = judged_at (block_ruling basin code) [] [] code budgets index block accepted stands.0 in
      let same : 0 + index ≡ index = omega arith in
      let same_so : suc (length (take index code)) ≡ number =
      omega (arith, length-take index code, slice_get_within code index block stands.0, stands.1) in
      let judged = then_do_ok (block_befores basin code (take index code) block) (λ (places : List Before).
      at_place (length block.lines) (within_limits
      (budget_by (scope_of basin code (suc (length (take index code))) block) (take (0 + index) budgets) places block.lines))
      (λ d. Ok d)) judged_at_so.0 judged_at_so.1 in
      let spends : Budget = budget_by (scope_of basin code (suc (length (take index code))) block) (take (0 + index) budgets) judged.0 block.lines in
      let at_place_ok_so = at_place_ok (length block.lines) (within_limits spends) judged_at_so.0 judged.2 in
      record {
        places = judged.0;
        fit =
            ap (λ m. befores (scope_of basin code m block) 0 (before [] []) block.lines) (sym same_so)
            ∙ few (nat_lt (count_alike block.head (take index code)) RULES_MAX) _ judged.0 judged.1;
        budget_is = judged_at_so.0;
        at = numbered_by budgets number judged_at_so.0 (ap (slice_get budgets) (sym same) ∙ judged_at_so.2) stands.1;
        same =
            ap₂ (λ m i. budget_by (scope_of basin code m block) (take i budgets) judged.0 block.lines) (sym same_so) (sym same)
            ∙ same_budget spends judged_at_so.0 at_place_ok_so;
        limited = within spends judged_at_so.0 at_place_ok_so;
      }
    where
      few : (truth : Bool) (result : Result (List Before) Misplaced) (befores_there : List Before)
          → (if truth then result else Err (record { misfit = TooMany; place = 0 })) ≡ Ok befores_there → result ≡ Ok befores_there
      few true result befores_there if_is = if_is
      few false result befores_there if_is = absurd (cc if_is)

  befores_are : (number : ℕ) (block : Block) (numbered_so : numbered code number ≡ Some block)
      → accepted_befores number ≡ (ruled number block numbered_so).places
  befores_are number block numbered_so =
      ap (λ (y : Block). befores_or (befores (scope_of basin code number y) 0 (before [] []) y.lines)) (ap block_or numbered_so)
      ∙ ap befores_or (ruled number block numbered_so).fit

  pub fits : (number : ℕ) (block : Block) → numbered code number ≡ Some block
      → befores (scope_of basin code number block) 0 (before [] []) block.lines ≡ Ok (accepted_befores number)
  fits number block numbered_so = (ruled number block numbered_so).fit ∙ ap Ok (sym (befores_are number block numbered_so))

  -- a block's budget is what it may come to
  pub record Exact (n : ℕ) (block : Block) (its_budget : Budget) : Type 0 where
    pub count : costs_ahead (scope_of basin code n block) (earlier n) (count_of (scope_of basin code n block) (earlier n)) block.lines
        (accepted_befores n) 0 ≡ its_budget.count
    pub looks : costs_ahead (scope_of basin code n block) (earlier n) (looks_of (scope_of basin code n block) (earlier n)) block.lines
        (accepted_befores n) 0 ≡ its_budget.looks
    pub puts : costs_ahead (scope_of basin code n block) (earlier n) (puts_of (scope_of basin code n block) (earlier n)) block.lines
        (accepted_befores n) 0 ≡ its_budget.puts
    pub words : words_ahead (scope_of basin code n block) (earlier n) block.lines (accepted_befores n) 0 ≡ its_budget.words

  pub exact : (number : ℕ) (block : Block) (numbered_so : numbered code number ≡ Some block)
      → Exact number block (ruled number block numbered_so).budget_is
  exact number block numbered_so =
      let ruling = ruled number block numbered_so in
      let scope : Scope = scope_of basin code number block in
      let same : budget_by scope (earlier number) (accepted_befores number) block.lines ≡ ruling.budget_is =
      ap (λ l. budget_by scope (earlier number) l block.lines) (befores_are number block numbered_so) ∙ ruling.same in
      let count_is : capped limits.count (most (summed scope (earlier number) (count_of scope (earlier number))) (accepted_befores number)
      block.lines) ≡ ruling.budget_is.count =
      ap (λ (d : Budget). d.count) same in
      let looks_is : capped limits.looks (most (summed scope (earlier number) (looks_of scope (earlier number))) (accepted_befores number)
      block.lines) ≡ ruling.budget_is.looks =
      ap (λ (d : Budget). d.looks) same in
      let puts_is : capped limits.puts (most (summed scope (earlier number) (puts_of scope (earlier number))) (accepted_befores number) block.lines)
      ≡ ruling.budget_is.puts =
      ap (λ (d : Budget). d.puts) same in
      let words_is : capped limits.words (most (at_a_time scope (earlier number)) (accepted_befores number) block.lines) ≡ ruling.budget_is.words =
      ap (λ (d : Budget). d.words) same in
      record {
        count = sym (uncapped limits.count _ (omega (arith, count_is, ruling.limited.count))) ∙ count_is;
        looks = sym (uncapped limits.looks _ (omega (arith, looks_is, ruling.limited.looks))) ∙ looks_is;
        puts = sym (uncapped limits.puts _ (omega (arith, puts_is, ruling.limited.puts))) ∙ puts_is;
        words = sym (uncapped limits.words _ (omega (arith, words_is, ruling.limited.words))) ∙ words_is;
      }

  module _ (values : Cell → Option ℤ) (now : ℕ) where
    pub covered : (number callee : ℕ) (block other_block : Block) → numbered code number ≡ Some block → nat_lt callee number ≡ true
        → numbered code callee ≡ Some other_block
        → Covers basin code values now accepted_befores earlier fits number callee
    covered number callee block other_block numbered_so nat_lt_is numbered_too =
        let ruling = ruled callee other_block numbered_too in
        let comes_to = exact callee other_block numbered_too in
        let block_or_is : block_or (numbered code callee) ≡ other_block = ap block_or numbered_too in
        let stands = numbered_is budgets callee ruling.budget_is ruling.at in
        let less : callee < number = grind (arith, nat_tests, nat_lt_is) in
        let numbered_here : numbered (earlier number) callee ≡ Some ruling.budget_is =
        numbered_by (earlier number) callee ruling.budget_is
        (get_taken (number - 1) (callee - 1) budgets ruling.budget_is (omega (arith, less, stands.1)) stands.0) stands.1 in
        let count_is : costs_ahead (scope_of basin code callee (block_or (numbered code callee))) (earlier callee)
        (count_of (scope_of basin code callee (block_or (numbered code callee))) (earlier callee)) (block_or (numbered code callee)).lines
        (accepted_befores callee) 0
        ≡ ruling.budget_is.count =
        ap (λ (z : Block). costs_ahead (scope_of basin code callee z) (earlier callee) (count_of (scope_of basin code callee z) (earlier callee))
        z.lines (accepted_befores callee) 0) block_or_is ∙ comes_to.count in
        let looks_is : costs_ahead (scope_of basin code callee (block_or (numbered code callee))) (earlier callee)
        (looks_of (scope_of basin code callee (block_or (numbered code callee))) (earlier callee)) (block_or (numbered code callee)).lines
        (accepted_befores callee) 0
        ≡ ruling.budget_is.looks =
        ap (λ (z : Block). costs_ahead (scope_of basin code callee z) (earlier callee) (looks_of (scope_of basin code callee z) (earlier callee))
        z.lines (accepted_befores callee) 0) block_or_is ∙ comes_to.looks in
        let puts_is : costs_ahead (scope_of basin code callee (block_or (numbered code callee))) (earlier callee)
        (puts_of (scope_of basin code callee (block_or (numbered code callee))) (earlier callee)) (block_or (numbered code callee)).lines
        (accepted_befores callee) 0
        ≡ ruling.budget_is.puts =
        ap (λ (z : Block). costs_ahead (scope_of basin code callee z) (earlier callee) (puts_of (scope_of basin code callee z) (earlier callee))
        z.lines (accepted_befores callee) 0) block_or_is ∙ comes_to.puts in
        let words_is : words_ahead (scope_of basin code callee (block_or (numbered code callee))) (earlier callee)
        (block_or (numbered code callee)).lines (accepted_befores callee) 0 ≡ ruling.budget_is.words =
        ap (λ (z : Block). words_ahead (scope_of basin code callee z) (earlier callee) z.lines (accepted_befores callee) 0) block_or_is
        ∙ comes_to.words in
        record {
          count = omega (arith, count_is, ap (part_of (λ (d : Budget). d.count)) numbered_here);
          looks = omega (arith, looks_is, ap (part_of (λ (d : Budget). d.looks)) numbered_here);
          puts = omega (arith, puts_is, ap (part_of (λ (d : Budget). d.puts)) numbered_here);
          words = omega (arith, words_is, ap (part_of (λ (d : Budget). d.words)) numbered_here);
        }

    abbrev pub the_world : World
    the_world = record { basin = basin; values = values; step = now }

    -- a rule that there is begins, with no arguments
    alike_rule : (head : BlockHead) → is_alike Rule head ≡ true → head ≡ Rule
    alike_rule Rule is_alike_is = refl
    alike_rule (Function result kinds) is_alike_is = absurd (cc is_alike_is)

    pub rule_there : (m : ℕ) (blocks : List Block) (rule number : ℕ) → rule_from m blocks rule ≡ Some number
        → (block : Block) × (slice_get blocks (number - m) ≡ Some block) × (block.head ≡ Rule) × (m ≤ number)
    rule_there m [] rule number rule_from_is = absurd (cc rule_from_is)
    rule_there m (block ∷ blocks) rule number rule_from_is =
        by (is_alike Rule block.head) refl rule_from_is (λ r e. further (rule_there (suc m) blocks r number e))
      where
        shifted : (more : ℕ) (other_block : Block) → suc m ≤ number → number - suc m ≡ more → slice_get blocks more ≡ Some other_block
            → slice_get (block ∷ blocks) (number - m) ≡ Some other_block
        shifted more other_block at_most number_is found =
            let number_is_so : number - m ≡ suc more = omega (arith, number_is, at_most) in ap (slice_get (block ∷ blocks)) number_is_so ∙ found

        further : (other_block : Block) × (slice_get blocks (number - suc m) ≡ Some other_block) × (other_block.head ≡ Rule) × (suc m ≤ number)
            → (other_block : Block) × (slice_get (block ∷ blocks) (number - m) ≡ Some other_block) × (other_block.head ≡ Rule) × (m ≤ number)
        further both = (both.0, shifted (number - suc m) both.0 both.3 refl both.1, both.2, omega (arith, both.3))

        here : is_alike Rule block.head ≡ true → Some m ≡ Some number
            → (other_block : Block) × (slice_get (block ∷ blocks) (number - m) ≡ Some other_block) × (other_block.head ≡ Rule) × (m ≤ number)
        here is_alike_is some_is = let m_is : m ≡ number = cc some_is in let number_is : number - m ≡ 0 =
            omega (arith, m_is) in (block, ap (slice_get (block ∷ blocks)) number_is, alike_rule block.head is_alike_is, omega (arith, m_is))

        by_number : (truth : Bool) → is_alike Rule block.head ≡ true → (if truth then Some m else rule_from (suc m) blocks (rule - 1)) ≡ Some number
            → ((other_number : ℕ) → rule_from (suc m) blocks other_number ≡ Some number
            → (other_block : Block) × (slice_get (block ∷ blocks) (number - m) ≡ Some other_block) × (other_block.head ≡ Rule) × (m ≤ number))
            → (other_block : Block) × (slice_get (block ∷ blocks) (number - m) ≡ Some other_block) × (other_block.head ≡ Rule) × (m ≤ number)
        by_number true is_alike_is if_is later = here is_alike_is if_is
        by_number false is_alike_is if_is later = later (rule - 1) if_is

        by : (truth : Bool) → is_alike Rule block.head ≡ truth
            → (if truth then (if rule == 1 then Some m else rule_from (suc m) blocks (rule - 1)) else rule_from (suc m) blocks rule) ≡ Some number
            → ((other_number : ℕ) → rule_from (suc m) blocks other_number ≡ Some number
            → (other_block : Block) × (slice_get (block ∷ blocks) (number - m) ≡ Some other_block) × (other_block.head ≡ Rule) × (m ≤ number))
            → (other_block : Block) × (slice_get (block ∷ blocks) (number - m) ≡ Some other_block) × (other_block.head ≡ Rule) × (m ≤ number)
        by true is_alike_is if_is later = by_number (rule == 1) is_alike_is if_is later
        by false is_alike_is if_is later = later rule if_is

    -- what a firing comes to that is not stuck
    record Comes (frame : Frame) (answer : Answer (Unit {0})) (trail : Trail) : Type 0 where
      fire : Fire
      is : fire_of answer trail ≡ Some fire
      ran : Ran basin code values now accepted_befores earlier fits (frame ∷ []) (states code the_world most_steps (frame ∷ [])) trail
      count : fire.count ≡ trail.count
      looked : fire.looked ≡ trail.looked

    comes : (frame : Frame) (answer : Answer (Unit {0})) (trail : Trail)
        → EndsOn basin code values now accepted_befores earlier fits (frame ∷ []) (states code the_world most_steps (frame ∷ [])) answer trail
        → Comes frame answer trail
    comes frame (value done) trail ends_on = record { fire = _; is = refl; ran = ends_on; count = refl; looked = refl }
    comes frame (ended end) trail ends_on = record { fire = _; is = refl; ran = ends_on; count = refl; looked = refl }
    comes frame stuck trail ends_on = absurd ends_on

  pub safe : AreSafe basin code budgets
  safe rule number step values rule_is =
      let its_rule = rule_there values step 1 code rule number rule_is in
      let stands = numbered_by code number its_rule.0 its_rule.1 its_rule.3 in
      let ruling = ruled number its_rule.0 stands in
      let its_budget : Budget = ruling.budget_is in
      let comes_to = exact number its_rule.0 stands in
      let frame : Frame = begin number its_rule.0 [] in
      let fits_first : Fits basin code values step accepted_befores earlier fits [] frame =
      begun basin code values step accepted_befores earlier fits number its_rule.0 [] stands (ap parameters_of (sym its_rule.2)) tt in
      let block_or_is : block_or (numbered code number) ≡ its_rule.0 = ap block_or stands in
      let count_is : costs_ahead (scope_of basin code number (block_or (numbered code number))) (earlier number)
      (count_of (scope_of basin code number (block_or (numbered code number))) (earlier number)) (block_or (numbered code number)).lines
      (accepted_befores number) 0 ≡ its_budget.count =
      ap (λ (z : Block). costs_ahead (scope_of basin code number z) (earlier number) (count_of (scope_of basin code number z) (earlier number))
      z.lines (accepted_befores number) 0) block_or_is ∙ comes_to.count in
      let looks_is : costs_ahead (scope_of basin code number (block_or (numbered code number))) (earlier number)
      (looks_of (scope_of basin code number (block_or (numbered code number))) (earlier number)) (block_or (numbered code number)).lines
      (accepted_befores number) 0 ≡ its_budget.looks =
      ap (λ (z : Block). costs_ahead (scope_of basin code number z) (earlier number) (looks_of (scope_of basin code number z) (earlier number))
      z.lines (accepted_befores number) 0) block_or_is ∙ comes_to.looks in
      let puts_is : costs_ahead (scope_of basin code number (block_or (numbered code number))) (earlier number)
      (puts_of (scope_of basin code number (block_or (numbered code number))) (earlier number)) (block_or (numbered code number)).lines
      (accepted_befores number) 0 ≡ its_budget.puts =
      ap (λ (z : Block). costs_ahead (scope_of basin code number z) (earlier number) (puts_of (scope_of basin code number z) (earlier number)) z.lines
      (accepted_befores number) 0) block_or_is ∙ comes_to.puts in
      let words_is : words_ahead (scope_of basin code number (block_or (numbered code number))) (earlier number)
      (block_or (numbered code number)).lines (accepted_befores number) 0 ≡ its_budget.words =
      ap (λ (z : Block). words_ahead (scope_of basin code number z) (earlier number) z.lines (accepted_befores number) 0) block_or_is
      ∙ comes_to.words in
      let limit : its_budget.count ≤ limits.count = ruling.limited.count in
      let done =
      comes values step frame (run code (the_world values step) most_steps (frame ∷ [])).answer
      (run code (the_world values step) most_steps (frame ∷ [])).trail
      (runs basin code values step accepted_befores earlier fits (covered values step) most_steps (frame ∷ []) (fits_first, tt)
      (omega (arith, count_is, limit))) in
      let first_frame_is : first_frame code rule ≡ Some frame =
      ap (option_and_then (λ n. option_map (λ x. begin n x []) (numbered code n))) rule_is ∙ ap (option_map (λ x. begin number x [])) stands in (
        its_budget,
        ruling.at,
        record {
          fire = done.fire;
          fires = ap (fired code (the_world values step)) first_frame_is ∙ done.is;
          count = omega (arith, done.count, done.ran.count, count_is);
          cells = omega (arith, ap (λ (l : List _). length l) done.looked, done.ran.cells, done.ran.looks, looks_is);
          looks =
              subst (λ o. look_count_in code (firing_from code (the_world values step) o) ≤ its_budget.looks) (sym first_frame_is)
              (omega (arith, done.ran.looks, looks_is));
          puts = subst (λ o. puts_from code (the_world values step) o ≤ its_budget.puts) (sym first_frame_is) (omega (arith, done.ran.puts, puts_is));
          words =
              subst (λ o. most_words (firing_from code (the_world values step) o) ≤ its_budget.words) (sym first_frame_is)
              (omega (arith, done.ran.words, words_is));
        },
      )
