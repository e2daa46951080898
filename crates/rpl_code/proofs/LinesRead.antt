-- What is written of a line is read as the same.
use Rattle.rw_base.proofs.Common.{◌≡◌, ℕ, List, [], ◌∷◌, Bool, true, false, refl, ap, ◌∙◌, ◌<◌, ◌≤◌, ◌^◌, arith, ℤ, pos, negsuc, suc, ◌==◌, Some, map}
use Rattle.rw_base.proofs.Common.{codes, AllByRecursion, list_all, decimal, signed_decimal, ints, and_parts, ltb-true}
use Rattle.std.specs.Prelude.{ltb}
use Rattle.rw_base.specs.Quantity.{IsQuantity}
use Rattle.rpl_code.specs.declared.kind.ValueKind.{ValueKind}
use Rattle.rpl_code.specs.declared.kind.ValueKind.TheVariants as K
use Rattle.rpl_code.specs.declared.instruction.Instruction.{Instruction}
use Rattle.rpl_code.specs.declared.instruction.Instruction.TheVariants as I
use Rattle.rpl_code.specs.declared.block.BlockHead.{BlockHead}
use Rattle.rpl_code.specs.declared.block.BlockHead.TheVariants.{Rule, Function}
use Rattle.rpl_code.specs.declared.said.Said.{Said}
use Rattle.rpl_code.specs.declared.said.Said.TheVariants as S
use Rattle.rpl_code.specs.Bounds.{IsCodeName, IsCodeKind, AreKinds, IsInstruction, IsHead}
use Rattle.rpl_code.specs.Parting.{parted}
use Rattle.rpl_code.specs.Spelling.{each_after, texts_joined, kind_text, kinds_text, slot_text, truth_text, word_of, operands_of, instruction_line}
use Rattle.rpl_code.specs.Spelling.{head_line, locals_line}
use Rattle.rpl_code.specs.Reading.{said_by}
use Rattle.rpl_code.proofs.Parted.{Lacks, Above, all_append, lacks_above, above_less, parted_joined}
use Rattle.rpl_code.proofs.WordsRead.{decimal_above, number_is, count_is, length_is, quantity_is, truth_is, name_above, name_is, slot_is, kind_is}
use Rattle.rpl_code.proofs.WordsRead.{kinds_are}

-- ---- no blank and no line feed stands in a word

abbrev pub AreInk : List (List ℕ) → Type 0
AreInk = AllByRecursion (Above 32)

count_ink : (n : ℕ) → n < 2 ^ 32 → Above 32 (decimal n)
count_ink n h = above_less 46 32 (decimal n) (omega arith) (decimal_above n (omega (arith, h)))

name_ink : (name : List ℕ) → IsCodeName name → Above 32 name
name_ink name h = above_less 46 32 name (omega arith) (name_above name h)

slot_ink : (object slot : List ℕ) → IsCodeName object → IsCodeName slot → Above 32 (slot_text object slot)
slot_ink object slot o s = all_append (λ b. 32 < b) object (46 ∷ slot) (name_ink object o) (omega arith, name_ink slot s)

quantity_ink : (z : ℤ) → IsQuantity z → Above 32 (signed_decimal z)
quantity_ink (pos n) q = let most : n ≤ 100000000000000000 = omega (arith, ints, q.high) in
    above_less 46 32 (decimal n) (omega arith) (decimal_above n (omega (arith, most)))
quantity_ink (negsuc n) q = let most : suc n ≤ 100000000000000000 = omega (arith, ints, q.low) in
    (omega arith, above_less 46 32 (decimal (suc n)) (omega arith) (decimal_above (suc n) (omega (arith, most))))

truth_ink : (b : Bool) → Above 32 (truth_text b)
truth_ink true = (omega arith, (omega arith, (omega arith, (omega arith, tt))))
truth_ink false = (omega arith, (omega arith, (omega arith, (omega arith, (omega arith, tt)))))

kind_ink : (kind : ValueKind) → IsCodeKind kind → Above 32 (kind_text kind)
kind_ink K.N h = (omega arith, tt)
kind_ink K.B h = (omega arith, tt)
kind_ink K.D h = (omega arith, tt)
kind_ink K.S h = (omega arith, tt)
kind_ink (K.NList most) h = (omega arith, (omega arith, count_ink most (omega (arith, h.1))))
kind_ink (K.SList most) h = (omega arith, (omega arith, count_ink most (omega (arith, h.1))))

further_ink : (kinds : List ValueKind) → AreKinds kinds → Above 32 (each_after 44 (map kind_text kinds))
further_ink [] h = tt
further_ink (kind ∷ kinds) h = (omega arith, all_append (λ b. 32 < b) (kind_text kind) _ (kind_ink kind h.0) (further_ink kinds h.1))

kinds_ink : (kinds : List ValueKind) → AreKinds kinds → Above 32 (kinds_text kinds)
kinds_ink [] h = (omega arith, tt)
kinds_ink (kind ∷ kinds) h = all_append (λ b. 32 < b) (kind_text kind) _ (kind_ink kind h.0) (further_ink kinds h.1)

-- whether a text that is written out has no blank and no line feed
abbrev pub is_ink : List ℕ → Bool
is_ink = list_all (λ b. ltb 32 b)

ink_of : (text : List ℕ) → is_ink text ≡ true → Above 32 text
ink_of [] h = tt
ink_of (b ∷ bs) h = let parts = and_parts (ltb 32 b) (is_ink bs) h in (ltb-true 32 b parts.0, ink_of bs parts.1)

word_ink : (i : Instruction) → Above 32 (word_of i)
word_ink i = ink_of (word_of i) (word_test i)
  where
    word_test : (i : Instruction) → is_ink (word_of i) ≡ true
    word_test (I.Num x) = refl
    word_test (I.Bool x) = refl
    word_test (I.Slot x y) = refl
    word_test (I.Load x) = refl
    word_test (I.Store x) = refl
    word_test (I.ToElevation x) = refl
    word_test (I.ToStorage x) = refl
    word_test (I.Call x) = refl
    word_test (I.Invoke x) = refl
    word_test (I.List x) = refl
    word_test (I.Widen x) = refl
    word_test (I.Jump x) = refl
    word_test (I.Branch x) = refl
    word_test (I.Target x) = refl
    word_test (I.Foreach x) = refl
    word_test (I.Map x) = refl
    word_test (I.Put x y z) = refl
    word_test I.Now = refl
    word_test I.Add = refl
    word_test I.Sub = refl
    word_test I.Mul = refl
    word_test I.Div = refl
    word_test I.Neg = refl
    word_test I.Shift = refl
    word_test I.Back = refl
    word_test I.Between = refl
    word_test I.Eq = refl
    word_test I.Lt = refl
    word_test I.Le = refl
    word_test I.Deq = refl
    word_test I.Dlt = refl
    word_test I.Dle = refl
    word_test I.Not = refl
    word_test I.Read = refl
    word_test I.Known = refl
    word_test I.Month = refl
    word_test I.Day = refl
    word_test I.Year = refl
    word_test I.Append = refl
    word_test I.Item = refl
    word_test I.Length = refl
    word_test I.Next = refl
    word_test I.Yield = refl

operands_ink : (i : Instruction) → IsInstruction i → AreInk (operands_of i)
operands_ink (I.Num v) h = (quantity_ink v h, tt)
operands_ink (I.Bool b) h = (truth_ink b, tt)
operands_ink (I.Slot object slot) h = (slot_ink object slot h.0 h.1, tt)
operands_ink (I.Load n) h = (count_ink n h, tt)
operands_ink (I.Store n) h = (count_ink n h, tt)
operands_ink (I.ToElevation object) h = (name_ink object h, tt)
operands_ink (I.ToStorage object) h = (name_ink object h, tt)
operands_ink (I.Call name) h = (name_ink name h, tt)
operands_ink (I.Invoke n) h = (count_ink n h, tt)
operands_ink (I.List n) h = (count_ink n (omega (arith, h.1)), tt)
operands_ink (I.Widen n) h = (count_ink n (omega (arith, h.1)), tt)
operands_ink (I.Jump n) h = (count_ink n h, tt)
operands_ink (I.Branch n) h = (count_ink n h, tt)
operands_ink (I.Target kinds) h = (kinds_ink kinds h, tt)
operands_ink (I.Foreach n) h = (count_ink n h, tt)
operands_ink (I.Map n) h = (count_ink n h, tt)
operands_ink (I.Put object slot ahead) h = (slot_ink object slot h.0 h.1, (count_ink ahead (omega (arith, h.2)), tt))
operands_ink I.Now h = tt
operands_ink I.Add h = tt
operands_ink I.Sub h = tt
operands_ink I.Mul h = tt
operands_ink I.Div h = tt
operands_ink I.Neg h = tt
operands_ink I.Shift h = tt
operands_ink I.Back h = tt
operands_ink I.Between h = tt
operands_ink I.Eq h = tt
operands_ink I.Lt h = tt
operands_ink I.Le h = tt
operands_ink I.Deq h = tt
operands_ink I.Dlt h = tt
operands_ink I.Dle h = tt
operands_ink I.Not h = tt
operands_ink I.Read h = tt
operands_ink I.Known h = tt
operands_ink I.Month h = tt
operands_ink I.Day h = tt
operands_ink I.Year h = tt
operands_ink I.Append h = tt
operands_ink I.Item h = tt
operands_ink I.Length h = tt
operands_ink I.Next h = tt
operands_ink I.Yield h = tt

-- ---- a line of words without blanks

pub lacks_each : (texts : List (List ℕ)) → AreInk texts → AllByRecursion (Lacks 32) texts
lacks_each [] ink = tt
lacks_each (text ∷ texts) ink = (lacks_above 32 32 text (omega arith) ink.0, lacks_each texts ink.1)

after_lacks : (texts : List (List ℕ)) → AreInk texts → Lacks 10 (each_after 32 texts)
after_lacks [] ink = tt
after_lacks (text ∷ texts) ink =
    (refl, all_append (λ b. (b == 10) ≡ false) text _ (lacks_above 32 10 text (omega arith) ink.0) (after_lacks texts ink.1))

pub line_lacks : (text : List ℕ) (texts : List (List ℕ)) → AreInk (text ∷ texts) → Lacks 10 (texts_joined 32 (text ∷ texts))
line_lacks text texts ink = all_append (λ b. (b == 10) ≡ false) text _ (lacks_above 32 10 text (omega arith) ink.0) (after_lacks texts ink.1)

pub line_parted : (text : List ℕ) (texts : List (List ℕ)) → AreInk (text ∷ texts) → parted 32 (texts_joined 32 (text ∷ texts)) ≡ text ∷ texts
line_parted text texts ink = parted_joined 32 text texts (lacks_each (text ∷ texts) ink)

-- ---- what the words of a line say

instruction_said : (i : Instruction) → IsInstruction i → said_by (word_of i ∷ operands_of i) ≡ Some (S.Instruction i)
instruction_said (I.Num v) h = rw (quantity_is v h) refl
instruction_said (I.Bool b) h = rw (truth_is b) refl
instruction_said (I.Slot object slot) h = rw (slot_is object slot h.0 h.1) refl
instruction_said (I.Load n) h = rw (count_is n h) refl
instruction_said (I.Store n) h = rw (count_is n h) refl
instruction_said (I.ToElevation object) h = rw (name_is object h) refl
instruction_said (I.ToStorage object) h = rw (name_is object h) refl
instruction_said (I.Call name) h = rw (name_is name h) refl
instruction_said (I.Invoke n) h = rw (count_is n h) refl
instruction_said (I.List n) h = rw (length_is n h) refl
instruction_said (I.Widen n) h = rw (length_is n h) refl
instruction_said (I.Jump n) h = rw (count_is n h) refl
instruction_said (I.Branch n) h = rw (count_is n h) refl
instruction_said (I.Target kinds) h = rw (kinds_are kinds h) refl
instruction_said (I.Foreach n) h = rw (count_is n h) refl
instruction_said (I.Map n) h = rw (count_is n h) refl
instruction_said (I.Put object slot ahead) h =
    rw (slot_is object slot h.0 h.1, number_is 0 255 ahead (omega arith) h.2 (omega (arith, h.2))) refl
instruction_said I.Now h = refl
instruction_said I.Add h = refl
instruction_said I.Sub h = refl
instruction_said I.Mul h = refl
instruction_said I.Div h = refl
instruction_said I.Neg h = refl
instruction_said I.Shift h = refl
instruction_said I.Back h = refl
instruction_said I.Between h = refl
instruction_said I.Eq h = refl
instruction_said I.Lt h = refl
instruction_said I.Le h = refl
instruction_said I.Deq h = refl
instruction_said I.Dlt h = refl
instruction_said I.Dle h = refl
instruction_said I.Not h = refl
instruction_said I.Read h = refl
instruction_said I.Known h = refl
instruction_said I.Month h = refl
instruction_said I.Day h = refl
instruction_said I.Year h = refl
instruction_said I.Append h = refl
instruction_said I.Item h = refl
instruction_said I.Length h = refl
instruction_said I.Next h = refl
instruction_said I.Yield h = refl

-- a line that says this, and has no line feed
pub record Shows (line : List ℕ) (says : Said) : Type 0 where
  pub said : said_by (parted 32 line) ≡ Some says
  pub whole : Lacks 10 line

shows : (word : List ℕ) (words : List (List ℕ)) (says : Said) → AreInk (word ∷ words) → said_by (word ∷ words) ≡ Some says
    → Shows (texts_joined 32 (word ∷ words)) says
shows word words says ink is = record { said = ap said_by (line_parted word words ink) ∙ is; whole = line_lacks word words ink }

pub instruction_shows : (i : Instruction) → IsInstruction i → Shows (instruction_line i) (S.Instruction i)
instruction_shows i h = shows (word_of i) (operands_of i) (S.Instruction i) (word_ink i, operands_ink i h) (instruction_said i h)

pub locals_show : (kinds : List ValueKind) → AreKinds kinds → Shows (locals_line kinds) (S.Locals kinds)
locals_show kinds h =
    shows (codes "LOCALS") (kinds_text kinds ∷ []) (S.Locals kinds) (ink_of (codes "LOCALS") refl, (kinds_ink kinds h, tt))
    (rw (kinds_are kinds h) refl)

pub head_shows : (head : BlockHead) → IsHead head → Shows (head_line head) (S.Opening head)
head_shows Rule h = record { said = refl; whole = (refl, (refl, (refl, (refl, tt)))) }
head_shows (Function result parameters) h =
    shows (codes "FUNCTION") (kind_text result ∷ kinds_text parameters ∷ []) (S.Opening (Function result parameters))
    (ink_of (codes "FUNCTION") refl, (kind_ink result h.0, (kinds_ink parameters h.1, tt)))
    (rw (kind_is result h.0, kinds_are parameters h.1) refl)

pub end_shows : Shows (codes "END") S.Ending
end_shows = record { said = refl; whole = (refl, (refl, (refl, tt))) }
