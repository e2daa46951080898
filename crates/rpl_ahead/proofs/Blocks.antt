-- The same of all blocks of a code.
use Rattle.rw_base.proofs.Common.{AllByRecursion, ap, Bool, Err, false, if◌then◌else◌, length, List, nat_le, None, Ok, Option, refl, Result}
use Rattle.rw_base.proofs.Common.{slice_get, Some, subst, suc, true, zero, none-some, same_Some, ℕ, ◌++◌, ◌-◌, ◌∙◌, ◌∷◌, ◌≡◌, ◌≤◌, []}
use Rattle.rw_model.specs.Draft.{Draft}
use Rattle.rw_model.specs.Objects.{numbered}
use Rattle.rpl_code.specs.declared.block.Block.{Block}
use Rattle.rpl_code.specs.declared.instruction.Instruction.{Instruction}
use Rattle.rpl_verify.specs.Fits.{Before, Misplaced, Refusal, block_befores, each_block, fitting, in_block}
use Rattle.rw_ahead.specs.Ahead.{ahead_to}
use Rattle.rpl_ahead.specs.Puts.{AllPutUpTo, FitsFurther, LinesFit, PutsUpTo}
use Rattle.rpl_ahead.proofs.Fit.{lines_fit}

at_slice : {A : Type 0} (P : A → Type 0) (xs : List A) (k : ℕ) (x : A) → AllByRecursion P xs → slice_get xs k ≡ Some x → P x
at_slice P [] k x all is = absurd (none-some x is)
at_slice P (y ∷ ys) zero x all is = subst P (same_Some _ _ is) all.0
at_slice P (y ∷ ys) (suc k) x all is = at_slice P ys k x all.1 is

module _ (basin : Draft) (most : ℕ) (more : basin.control.ahead ≤ most) (all : List Block) where
  abbrev Lines : Block → Type 0
  Lines block = AllByRecursion (PutsUpTo basin.control.ahead) block.lines

  abbrev near : List Block → List (List Before) → Block → Result (List Before) Misplaced
  near earlier done block = block_befores basin all earlier block

  abbrev far : List Block → List (List Before) → Block → Result (List Before) Misplaced
  far earlier done block = block_befores (ahead_to most basin) all earlier block

  record AreFitting (earlier : List Block) (done : List (List Before)) (blocks : List Block) (bs : List (List Before)) : Type 0 where
    fits : each_block far earlier done blocks ≡ Ok bs
    puts : AllByRecursion Lines blocks

  each_far : (blocks earlier : List Block) (done bs : List (List Before)) → each_block near earlier done blocks ≡ Ok bs
      → AreFitting earlier done blocks bs
  each_far [] earlier done bs is = record { fits = is; puts = tt }
  each_far (block ∷ blocks) earlier done bs is =
      by (block_befores basin all earlier block) refl is (λ x. each_far blocks (earlier ++ block ∷ []) (done ++ x ∷ []) bs)
    where
      by : (judged : Result (List Before) Misplaced) → block_befores basin all earlier block ≡ judged
          → in_block (suc (length earlier)) judged (λ x. each_block near (earlier ++ block ∷ []) (done ++ x ∷ []) blocks) ≡ Ok bs
          → ((x : List Before) → each_block near (earlier ++ block ∷ []) (done ++ x ∷ []) blocks ≡ Ok bs
          → AreFitting (earlier ++ block ∷ []) (done ++ x ∷ []) blocks bs)
          → AreFitting earlier done (block ∷ blocks) bs
      by (Err wrong) judged is later = absurd (cc)
      by (Ok x) judged is later =
          let rest = later x is in
          let own = lines_fit basin most all earlier block x more judged in
          record {
            fits =
                ap (λ j. in_block (suc (length earlier)) j (λ x. each_block far (earlier ++ block ∷ []) (done ++ x ∷ []) blocks)) own.far ∙ rest.fits;
            puts = (own.puts, rest.puts);
          }

in_numbers : (code : List Block) (number : ℕ) (block : Block) (first : Bool) → nat_le 1 number ≡ first
    → (if first then slice_get code (number - 1) else None) ≡ Some block → slice_get code (number - 1) ≡ Some block
in_numbers code number block true first is = is
in_numbers code number block false first is = absurd (none-some block is)

pub all_put : (basin : Draft) (code : List Block) → AllByRecursion (λ (block : Block). AllByRecursion (PutsUpTo basin.control.ahead) block.lines) code
    → AllPutUpTo basin.control.ahead code
all_put basin code all number place block i there found =
    at_slice (PutsUpTo basin.control.ahead) block.lines place i
    (at_slice (λ (b : Block). AllByRecursion (PutsUpTo basin.control.ahead) b.lines) code (number - 1) block all
    (in_numbers code number block (nat_le 1 number) refl there)) found

pub fits_further : (basin : Draft) (most : ℕ) (code : List Block) (bs : List (List Before)) → basin.control.ahead ≤ most
    → fitting basin code ≡ Ok bs → FitsFurther basin most code bs
fits_further basin most code bs more is =
    let all = each_far basin most more code code [] [] bs is in record { fits = all.fits; puts = all_put basin code all.puts }
