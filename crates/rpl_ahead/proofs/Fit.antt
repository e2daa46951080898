-- Code that fits a basin fits one whose rules may put further ahead, and puts no further ahead than the first lets it.
use Rattle.rw_base.proofs.Common.{AllByRecursion, ap, arith, Bool, Err, false, if◌then◌else◌, length, List, nat_le, nat_lt, nat_tests, None}
use Rattle.rw_base.proofs.Common.{Ok, Option, refl, Result, slice_get, Some, suc, sym, true, zero, ℕ, ◌++◌, ◌-◌, ◌∙◌, ◌∷◌, ◌≡◌, ◌≤◌, []}
use Rattle.rw_model.specs.Draft.{Draft}
use Rattle.rw_model.specs.Objects.{numbered, slot_named}
use Rattle.rpl_code.specs.declared.block.Block.{Block}
use Rattle.rpl_code.specs.declared.block.BlockHead.{BlockHead}
use Rattle.rpl_code.specs.declared.block.BlockHead.TheVariants.{Function, Rule}
use Rattle.rpl_code.specs.declared.instruction.Instruction.{Instruction}
use Rattle.rpl_code.specs.declared.instruction.Instruction.TheVariants as I
use Rattle.rpl_tree.specs.World.{can_set}
use Rattle.rpl_verify.specs.declared.verify_kind.VerifyKind.{VerifyKind}
use Rattle.rpl_verify.specs.declared.verify_kind.VerifyKind.TheVariants.{NotSettable, TargetStep, TooMany}
use Rattle.rpl_verify.specs.Fits.{Before, Misplaced, Refusal, at_place, before, befores, behind_instruction, block_befores, count_alike, each_block}
use Rattle.rpl_verify.specs.Fits.{fitting}
use Rattle.rpl_verify.specs.Fits.{in_block, judged_at, scope_of, then_do, unless_misfit}
use Rattle.rpl_verify.specs.Names.{Scope, name_misfit, put_misfit, put_step_misfit}
use Rattle.rw_ahead.specs.Ahead.{ahead_to}
use Rattle.rpl_ahead.specs.Puts.{LinesFit, PutsUpTo}

module _ (most : ℕ) where
  abbrev pub farther : Scope → Scope
  farther s = record { basin = ahead_to most s.basin; heads = s.heads; number = s.number; head = s.head; locals = s.locals; spots = s.spots }

  -- ---- an instruction

  record IsPassed (near far : Option VerifyKind) (ahead limit : ℕ) (r : Result Before VerifyKind) (c : Before) : Type 0 where
    passes : unless_misfit far r ≡ Ok c
    few : ahead ≤ limit

  step_far : (can : Bool) (head : BlockHead) (ahead limit : ℕ) (r : Result Before VerifyKind) (c : Before) → limit ≤ most
      → unless_misfit (if can then put_step_misfit limit head ahead else Some NotSettable) r ≡ Ok c
      → IsPassed (if can then put_step_misfit limit head ahead else Some NotSettable)
      (if can then put_step_misfit most head ahead else Some NotSettable) ahead limit r c
  step_far false head ahead limit r c more is = absurd (cc)
  step_far true (Function result parameters) ahead limit r c more is = absurd (cc)
  step_far true Rule ahead limit r c more is = by (nat_le ahead limit) refl is
    where
      by : (test : Bool) → nat_le ahead limit ≡ test → unless_misfit (if test then None else Some TargetStep) r ≡ Ok c
          → IsPassed (if nat_le ahead limit then None else Some TargetStep) (if nat_le ahead most then None else Some TargetStep) ahead limit r c
      by true within is =
          let far : nat_le ahead most ≡ true = grind (arith, nat_tests, within, more) in
          record { passes = ap (λ t. unless_misfit (if t then None else Some TargetStep) r) far ∙ is; few = grind (arith, nat_tests, within) }
      by false beyond is = absurd (cc)

  put_far : (s : Scope) (slot : Option ℕ) (ahead : ℕ) (r : Result Before VerifyKind) (c : Before) → s.basin.control.ahead ≤ most
      → unless_misfit (put_misfit s slot ahead) r ≡ Ok c
      → IsPassed (put_misfit s slot ahead) (put_misfit (farther s) slot ahead) ahead s.basin.control.ahead r c
  put_far s None ahead r c more is = absurd (cc)
  put_far s (Some n) ahead r c more is = step_far (can_set s.basin n) s.head ahead s.basin.control.ahead r c more is

  record IsJudged (s : Scope) (place : ℕ) (b : Before) (i : Instruction) (c : Before) : Type 0 where
    far : judged_at (farther s) place b i ≡ Ok c
    puts : PutsUpTo s.basin.control.ahead i

  judged_far : (s : Scope) (place : ℕ) (b : Before) (i : Instruction) (c : Before) → s.basin.control.ahead ≤ most
      → judged_at s place b i ≡ Ok c → IsJudged s place b i c
  judged_far s place b (I.Put object slot ahead) c more is =
      let passed = put_far s (slot_named s.basin.objects object slot) ahead (behind_instruction s place b (I.Put object slot ahead)) c more is in
      record { far = passed.passes; puts = passed.few }
  judged_far s place b (I.Jump to) c more is = record { far = is; puts = tt }
  judged_far s place b (I.Branch to) c more is = record { far = is; puts = tt }
  judged_far s place b (I.Target kinds) c more is = record { far = is; puts = tt }
  judged_far s place b (I.Foreach n) c more is = record { far = is; puts = tt }
  judged_far s place b I.Next c more is = record { far = is; puts = tt }
  judged_far s place b (I.Map n) c more is = record { far = is; puts = tt }
  judged_far s place b I.Yield c more is = record { far = is; puts = tt }
  judged_far s place b i c more is = record { far = is; puts = tt }

  -- ---- a block

  abbrev LinesUpTo : ℕ → List Instruction → Type 0
  LinesUpTo limit lines = AllByRecursion (PutsUpTo limit) lines

  record AreJudged (s : Scope) (place : ℕ) (b : Before) (lines : List Instruction) (bs : List Before) : Type 0 where
    far : befores (farther s) place b lines ≡ Ok bs
    puts : LinesUpTo s.basin.control.ahead lines

  lines_far : (s : Scope) (lines : List Instruction) (place : ℕ) (b : Before) (bs : List Before) → s.basin.control.ahead ≤ most
      → befores s place b lines ≡ Ok bs → AreJudged s place b lines bs
  lines_far s [] place b bs more is = record { far = is; puts = tt }
  lines_far s (i ∷ lines) place b bs more is =
      by (judged_at s place b i) refl is (λ c rest. lines_far s lines (suc place) c rest more)
    where
      go : Before → Result (List Before) Misplaced
      go c = then_do (befores (farther s) (suc place) c lines) (λ rest. Ok (b ∷ rest))

      then_by : (c : Before) (found : Result (List Before) Misplaced) → befores s (suc place) c lines ≡ found → IsJudged s place b i c
          → then_do found (λ rest. Ok (b ∷ rest)) ≡ Ok bs
          → ((rest : List Before) → befores s (suc place) c lines ≡ Ok rest → AreJudged s (suc place) c lines rest)
          → AreJudged s place b (i ∷ lines) bs
      then_by c (Err wrong) found judged is later = absurd (cc)
      then_by c (Ok rest) found judged is later =
          let behind = later rest found in
          record {
            far = ap (λ j. at_place place j (λ c. then_do (befores (farther s) (suc place) c lines) (λ rest. Ok (b ∷ rest)))) judged.far
                ∙ ap (λ r. then_do r (λ rest. Ok (b ∷ rest))) behind.far ∙ is;
            puts = (judged.puts, behind.puts);
          }

      by : (judged : Result Before VerifyKind) → judged_at s place b i ≡ judged
          → at_place place judged (λ c. then_do (befores s (suc place) c lines) (λ rest. Ok (b ∷ rest))) ≡ Ok bs
          → ((c : Before) (rest : List Before) → befores s (suc place) c lines ≡ Ok rest → AreJudged s (suc place) c lines rest)
          → AreJudged s place b (i ∷ lines) bs
      by (Err misfit) judged is later = absurd (cc)
      by (Ok c) judged is later = then_by c (befores s (suc place) c lines) refl (judged_far s place b i c more judged) is (later c)

  pub record IsBlockJudged (basin : Draft) (all earlier : List Block) (block : Block) (bs : List Before) : Type 0 where
    pub far : block_befores (ahead_to most basin) all earlier block ≡ Ok bs
    pub puts : LinesUpTo basin.control.ahead block.lines
    pub here : befores (scope_of basin all (suc (length earlier)) block) 0 (before [] []) block.lines ≡ Ok bs
    pub there : befores (scope_of (ahead_to most basin) all (suc (length earlier)) block) 0 (before [] []) block.lines ≡ Ok bs

  pub block_far : (basin : Draft) (all earlier : List Block) (block : Block) (bs : List Before) → basin.control.ahead ≤ most
      → block_befores basin all earlier block ≡ Ok bs → IsBlockJudged basin all earlier block bs
  block_far basin all earlier block bs more is = by (nat_lt (count_alike block.head earlier) 200) refl is
    where
      by : (few : Bool) → nat_lt (count_alike block.head earlier) 200 ≡ few
          → (if few then befores (scope_of basin all (suc (length earlier)) block) 0 (before [] []) block.lines
          else Err (record { misfit = TooMany; place = 0 })) ≡ Ok bs
          → IsBlockJudged basin all earlier block bs
      by false many is = absurd (cc)
      by true few is =
          let judged = lines_far (scope_of basin all (suc (length earlier)) block) block.lines 0 (before [] []) bs more is in
          record {
            far = ap (λ t. if t then befores (scope_of (ahead_to most basin) all (suc (length earlier)) block) 0 (before [] []) block.lines
                else Err (record { misfit = TooMany; place = 0 })) few ∙ judged.far;
            puts = judged.puts;
            here = is;
            there = judged.far;
          }

pub lines_fit : (basin : Draft) (most : ℕ) (all earlier : List Block) (block : Block) (bs : List Before) → basin.control.ahead ≤ most
    → block_befores basin all earlier block ≡ Ok bs → LinesFit basin most all earlier block bs
lines_fit basin most all earlier block bs more is =
    let judged = block_far most basin all earlier block bs more is in record { far = judged.far; puts = judged.puts }
