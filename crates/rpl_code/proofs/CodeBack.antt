-- A text that is read is what is written of the code that it is read as.
use Rattle.rw_base.specs.declared.limits.TheConstants.{TEXT_MAX}
use Rattle.rw_base.proofs.Common.{◌≡◌, ℕ, List, [], ◌∷◌, ◌++◌, refl, sym, ap, ap₂, subst, ◌∙◌, append_assoc, ◌+◌, ◌<◌, ◌≤◌, ◌^◌, arith, Result, Ok}
use Rattle.rw_base.proofs.Common.{Err, Bool, true, false, ◌&&◌, ◌==◌, if◌then◌else◌, Option, Some, None, length, map, flat_map, codes, is_ok}
use Rattle.rw_base.proofs.Common.{AllByRecursion, bytes_eq, bytes_eq-Decides, and_parts, false≢true}
use Rattle.rpl_code.specs.declared.kind.ValueKind.{ValueKind}
use Rattle.rpl_code.specs.declared.instruction.Instruction.{Instruction}
use Rattle.rpl_code.specs.declared.block.BlockHead.{BlockHead}
use Rattle.rpl_code.specs.declared.block.BlockHead.TheVariants.{Rule, Function}
use Rattle.rpl_code.specs.declared.block.Block.{Block}
use Rattle.rpl_code.specs.declared.said.Said.{Said}
use Rattle.rpl_code.specs.declared.said.Said.TheVariants as S
use Rattle.rpl_code.specs.Bounds.{AreKinds, IsInstruction, IsHead, IsBlock, IsCode}
use Rattle.rpl_code.specs.Parting.{parted, in_front}
use Rattle.rpl_code.specs.Words.{if_so}
use Rattle.rpl_code.specs.Spelling.{texts_joined, instruction_line, head_line, locals_line, block_lines, lines_ended, spelt}
use Rattle.rpl_code.specs.Reading.{Stage, top, between, headed, inside, stage_behind, said_by, may_say, may_end, said_at, CodeRefusal, bad_line}
use Rattle.rpl_code.specs.Reading.{truncated, all_said, and_then_all, unless_bad, locals_said, lines_said, blocks_said, result_of, read}
use Rattle.rpl_code.proofs.WordsBack.{if_so_back, then_back, joined_parted}
use Rattle.rpl_code.proofs.LinesBack.{IsSaid, line_said, line_back}

-- each line is allowed where it stands, and no `END` is due behind the last
abbrev pub Follows : Stage → List Said → Type 0
Follows stage [] = may_end stage ≡ true
Follows stage (says ∷ rest) = (may_say stage says ≡ true) × Follows (stage_behind says) rest

-- what is known of parts that say this
pub record Told (stage : Stage) (parts : List (List ℕ)) (says : List Said) : Type 0 where
  pub lines : parts ≡ map line_said says ++ [] ∷ []
  pub each : AllByRecursion IsSaid says
  pub follows : Follows stage says

abbrev pub Answer : Type 0
Answer = Result (List Said) CodeRefusal

abbrev pub ok : List Said → Answer
ok says = Ok says

abbrev pub err : CodeRefusal → Answer
err refusal = Err refusal

err_ok : {B : Type 0} (refusal : CodeRefusal) (says : List Said) → err refusal ≡ ok says → B
err_ok refusal says e = absurd (false≢true (ap is_ok e))

abbrev pub said_or : List Said → Answer → List Said
said_or other (Ok says) = says
said_or other (Err refusal) = other

same_ok : (xs ys : List Said) → ok xs ≡ ok ys → xs ≡ ys
same_ok xs ys e = ap (said_or xs) e

last_part : (t : Bool) (stage : Stage) (part : List ℕ) (says : List Said) → (may_end stage && bytes_eq part []) ≡ t
    → (if t then Ok [] else Err truncated) ≡ Ok says → Told stage (part ∷ []) says
last_part true stage part says same e =
    let parts = and_parts (may_end stage) (bytes_eq part []) same in
    subst (λ xs. Told stage (part ∷ []) xs) (same_ok [] says e)
    (record { lines = ap (λ p. p ∷ []) ((bytes_eq-Decides part []).0 parts.1); each = tt; follows = parts.0 })
last_part false stage part says same e = err_ok truncated says e

one_more : (first : Said) (rest : Result (List Said) CodeRefusal) (says : List Said) → and_then_all first rest ≡ Ok says
    → (others : List Said) × (rest ≡ Ok others) × ((first ∷ others) ≡ says)
one_more first (Ok others) says e = (others, refl, same_ok (first ∷ others) says e)
one_more first (Err refusal) says e = err_ok refusal says e

told_more : (stage : Stage) (line : List ℕ) (parts : List (List ℕ)) (first : Said) (others : List Said)
    → said_at stage line ≡ Some first → Told (stage_behind first) parts others → Told stage (line ∷ parts) (first ∷ others)
told_more stage line parts first others e told =
    let found = then_back (λ says. if_so (may_say stage says) says) (said_by (parted 32 line)) first e in
    let allowed = if_so_back (may_say stage found.0) found.0 first found.2 in
    let back = line_back line found.0 found.1 in
    record {
      lines = ap₂ (λ l ls. l ∷ ls) (back.0 ∙ ap line_said allowed.1) told.lines;
      each = (subst IsSaid allowed.1 back.1, told.each);
      follows = (subst (λ says. may_say stage says ≡ true) allowed.1 allowed.0, told.follows);
    }

by_line : (n : ℕ) (stage : Stage) (line : List ℕ) (parts : List (List ℕ)) (found : Option Said) (says : List Said)
    → said_at stage line ≡ found
    → ((first : Said) (others : List Said) → all_said (n + 1) (stage_behind first) parts ≡ Ok others → Told (stage_behind first) parts others)
    → unless_bad n found (λ s. all_said (n + 1) (stage_behind s) parts) ≡ Ok says → Told stage (line ∷ parts) says
by_line n stage line parts None says same later e = err_ok (bad_line n) says e
by_line n stage line parts (Some first) says same later e =
    let more = one_more first (all_said (n + 1) (stage_behind first) parts) says e in
    subst (λ xs. Told stage (line ∷ parts) xs) more.2 (told_more stage line parts first more.0 same (later first more.0 more.1))

told : (n : ℕ) (stage : Stage) (parts : List (List ℕ)) (says : List Said) → all_said n stage parts ≡ Ok says → Told stage parts says
told n stage [] says e = err_ok truncated says e
told n stage (part ∷ []) says e = last_part (may_end stage && bytes_eq part []) stage part says refl e
told n stage (line ∷ next ∷ parts) says e =
    by_line n stage line (next ∷ parts) (said_at stage line) says refl
    (λ first others f. told (n + 1) (stage_behind first) (next ∷ parts) others f) e

-- ---- the blocks that lines say

pub record Blocks (says : List Said) : Type 0 where
  pub lines : map line_said says ≡ flat_map block_lines (blocks_said says)
  pub each : AllByRecursion IsBlock (blocks_said says)

pub record Inside (says : List Said) : Type 0 where
  pub lines : map line_said says ≡ map instruction_line (lines_said says) ++ codes "END" ∷ flat_map block_lines (blocks_said says)
  pub instructions : AllByRecursion IsInstruction (lines_said says)
  pub each : AllByRecursion IsBlock (blocks_said says)

pub record Declared (says : List Said) : Type 0 where
  pub lines : map line_said says
      ≡ locals_line (locals_said says) ∷ (map instruction_line (lines_said says) ++ codes "END" ∷ flat_map block_lines (blocks_said says))
  pub locals : AreKinds (locals_said says)
  pub instructions : AllByRecursion IsInstruction (lines_said says)
  pub each : AllByRecursion IsBlock (blocks_said says)

abbrev pub Grouped : Stage → List Said → Type 0
Grouped top says = Unit {0}
Grouped between says = Blocks says
Grouped headed says = Declared says
Grouped inside says = Inside says

lines_fewer : (says : List Said) → length (lines_said says) ≤ length says
lines_fewer [] = omega arith
lines_fewer (S.Heading ∷ says) = omega arith
lines_fewer (S.Opening head ∷ says) = omega arith
lines_fewer (S.Locals kinds ∷ says) = omega (arith, lines_fewer says)
lines_fewer (S.Instruction i ∷ says) = omega (arith, lines_fewer says)
lines_fewer (S.Ending ∷ says) = omega arith

blocks_fewer : (says : List Said) → length (blocks_said says) ≤ length says
blocks_fewer [] = omega arith
blocks_fewer (S.Heading ∷ says) = omega (arith, blocks_fewer says)
blocks_fewer (S.Opening head ∷ says) = omega (arith, blocks_fewer says)
blocks_fewer (S.Locals kinds ∷ says) = omega (arith, blocks_fewer says)
blocks_fewer (S.Instruction i ∷ says) = omega (arith, blocks_fewer says)
blocks_fewer (S.Ending ∷ says) = omega (arith, blocks_fewer says)

head_same : (head : BlockHead) → line_said (S.Opening head) ≡ head_line head
head_same Rule = refl
head_same (Function result parameters) = refl

block_begins : (head : BlockHead) (says : List Said) → IsHead head → length says < 2 ^ 32 → Declared says → Blocks (S.Opening head ∷ says)
block_begins head says h few declared = record {
  lines = ap₂ (λ l ls. l ∷ ls) (head_same head) declared.lines
      ∙ ap (λ ls. head_line head ∷ locals_line (locals_said says) ∷ ls)
      (sym (append_assoc (map instruction_line (lines_said says)) (codes "END" ∷ []) (flat_map block_lines (blocks_said says))));
  each = (record { head = h; locals = declared.locals; lines = declared.instructions; places = omega (arith, few, lines_fewer says) }, declared.each);
}

not_whole : {B : Type 0} → false ≡ true → B
not_whole e = absurd (false≢true e)

inside_ends : (says : List Said) → Blocks says → Inside (S.Ending ∷ says)
inside_ends says blocks = record { lines = ap (λ ls. codes "END" ∷ ls) blocks.lines; instructions = tt; each = blocks.each }

inside_goes : (i : Instruction) (says : List Said) → IsInstruction i → Inside says → Inside (S.Instruction i ∷ says)
inside_goes i says h rest = record { lines = ap (λ ls. instruction_line i ∷ ls) rest.lines; instructions = (h, rest.instructions); each = rest.each }

declares : (kinds : List ValueKind) (says : List Said) → AreKinds kinds → Inside says → Declared (S.Locals kinds ∷ says)
declares kinds says h rest =
    record { lines = ap (λ ls. locals_line kinds ∷ ls) rest.lines; locals = h; instructions = rest.instructions; each = rest.each }

grouped : (says : List Said) (stage : Stage) → AllByRecursion IsSaid says → Follows stage says → length says < 2 ^ 32 → Grouped stage says
grouped [] top h f few = tt
grouped [] between h f few = record { lines = refl; each = tt }
grouped [] headed h f few = not_whole f
grouped [] inside h f few = not_whole f
grouped (says ∷ rest) top h f few = tt
grouped (S.Opening head ∷ rest) between h f few = block_begins head rest h.0 (omega (arith, few)) (grouped rest headed h.1 f.1 (omega (arith, few)))
grouped (S.Locals kinds ∷ rest) headed h f few = declares kinds rest h.0 (grouped rest inside h.1 f.1 (omega (arith, few)))
grouped (S.Instruction i ∷ rest) inside h f few = inside_goes i rest h.0 (grouped rest inside h.1 f.1 (omega (arith, few)))
grouped (S.Ending ∷ rest) inside h f few = inside_ends rest (grouped rest between h.1 f.1 (omega (arith, few)))
grouped (S.Heading ∷ rest) between h f few = not_whole f.0
grouped (S.Locals kinds ∷ rest) between h f few = not_whole f.0
grouped (S.Instruction i ∷ rest) between h f few = not_whole f.0
grouped (S.Ending ∷ rest) between h f few = not_whole f.0
grouped (S.Heading ∷ rest) headed h f few = not_whole f.0
grouped (S.Opening head ∷ rest) headed h f few = not_whole f.0
grouped (S.Instruction i ∷ rest) headed h f few = not_whole f.0
grouped (S.Ending ∷ rest) headed h f few = not_whole f.0
grouped (S.Heading ∷ rest) inside h f few = not_whole f.0
grouped (S.Opening head ∷ rest) inside h f few = not_whole f.0
grouped (S.Locals kinds ∷ rest) inside h f few = not_whole f.0

-- ---- the whole text

ended_joined : (lines : List (List ℕ)) → texts_joined 10 (lines ++ [] ∷ []) ≡ lines_ended lines
ended_joined [] = refl
ended_joined (line ∷ []) = refl
ended_joined (line ∷ next ∷ lines) = ap (λ text. line ++ 10 ∷ text) (ended_joined (next ∷ lines))

front_count : (b : ℕ) (texts : List (List ℕ)) → length (in_front b texts) ≤ length texts + 1
front_count b [] = omega arith
front_count b (text ∷ texts) = omega arith

count_by : (t : Bool) (b n : ℕ) (texts : List (List ℕ)) → length texts ≤ n + 1 → length (if t then [] ∷ texts else in_front b texts) ≤ n + 2
count_by true b n texts le = omega (arith, le)
count_by false b n texts le = omega (arith, le, front_count b texts)

parts_few : (c : ℕ) (text : List ℕ) → length (parted c text) ≤ length text + 1
parts_few c [] = omega arith
parts_few c (b ∷ bs) = omega (arith, count_by (b == c) b (length bs) (parted c bs) (parts_few c bs))

abbrev pub blocks_or : List Block → Result (List Block) CodeRefusal → List Block
blocks_or other (Ok blocks) = blocks
blocks_or other (Err refusal) = other

abbrev pub none_but : List Block → Result (List Block) CodeRefusal
none_but blocks = Ok blocks

-- what was read has lines that say it
lines_of : (answer : Answer) (blocks : List Block) → result_of answer ≡ none_but blocks
    → (says : List Said) × (answer ≡ ok says) × (blocks_said says ≡ blocks)
lines_of (Ok says) blocks e = (says, refl, ap (blocks_or blocks) e)
lines_of (Err refusal) blocks e = absurd (false≢true (ap is_ok e))

-- all that is known of a text of these parts
pub record Back (text : List ℕ) (blocks : List Block) : Type 0 where
  pub is : text ≡ spelt blocks
  pub code : IsCode blocks

-- the first line is the heading, and blocks come behind it
text_back : (text : List ℕ) (says : List Said) → Told top (parted 10 text) says → length says < 2 ^ 32 → Back text (blocks_said says)
text_back text [] is few = not_whole is.follows
text_back text (S.Heading ∷ rest) is few =
    let blocks : Blocks rest = grouped rest between is.each.1 is.follows.1 (omega (arith, few)) in
    record {
      is =
          sym (joined_parted 10 text) ∙ ap (texts_joined 10) is.lines ∙ ended_joined (map line_said (S.Heading ∷ rest))
          ∙ ap (λ ls. lines_ended (codes "CODE 1" ∷ ls)) blocks.lines;
      code = record { each = blocks.each; numbers = omega (arith, few, blocks_fewer rest) };
    }
text_back text (S.Opening head ∷ rest) is few = not_whole is.follows.0
text_back text (S.Locals kinds ∷ rest) is few = not_whole is.follows.0
text_back text (S.Instruction i ∷ rest) is few = not_whole is.follows.0
text_back text (S.Ending ∷ rest) is few = not_whole is.follows.0

said_count : (says : List Said) (parts : List (List ℕ)) → parts ≡ map line_said says ++ [] ∷ [] → length says ≤ length parts
said_count says parts e = rw e (count says)
  where
    count : (says : List Said) → length says ≤ length (map line_said says ++ [] ∷ [])
    count [] = omega arith
    count (first ∷ rest) = omega (arith, count rest)

pub read_back : (text : List ℕ) (blocks : List Block) → length text ≤ TEXT_MAX → read text ≡ Ok blocks → Back text blocks
read_back text blocks short e =
    let lines = lines_of (all_said 1 top (parted 10 text)) blocks e in
    let is = told 1 top (parted 10 text) lines.0 lines.1 in
    subst (λ bs. Back text bs) lines.2
    (text_back text lines.0 is (omega (arith, short, parts_few 10 text, said_count lines.0 (parted 10 text) is.lines)))
