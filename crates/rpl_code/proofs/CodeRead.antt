-- What is written of a code is read as that code.
use Rattle.rw_base.proofs.Common.{◌≡◌, ℕ, List, [], ◌∷◌, ◌++◌, true, refl, ap, ◌∙◌, append_assoc, ◌+◌, Ok, Some, map, flat_map, codes, AllByRecursion}
use Rattle.rpl_code.specs.declared.instruction.Instruction.{Instruction}
use Rattle.rpl_code.specs.declared.block.Block.{Block}
use Rattle.rpl_code.specs.declared.said.Said.{Said}
use Rattle.rpl_code.specs.declared.said.Said.TheVariants as S
use Rattle.rpl_code.specs.Bounds.{IsInstruction, IsBlock, IsCode}
use Rattle.rpl_code.specs.Spelling.{instruction_line, head_line, locals_line, block_lines, code_lines, spelt}
use Rattle.rpl_code.specs.Reading.{Stage, top, between, headed, inside, stage_behind, may_say, said_at, all_said, and_then_all, unless_bad}
use Rattle.rpl_code.specs.Reading.{lines_said, blocks_said, result_of, read}
use Rattle.rpl_code.proofs.Parted.{Lacks, parted_ended}
use Rattle.rpl_code.proofs.LinesRead.{Shows, instruction_shows, locals_show, head_shows, end_shows}

-- ---- lines that have no line feed

instructions_whole : (is : List Instruction) (rest : List (List ℕ)) → AllByRecursion IsInstruction is → AllByRecursion (Lacks 10) rest
    → AllByRecursion (Lacks 10) (map instruction_line is ++ rest)
instructions_whole [] rest h r = r
instructions_whole (i ∷ is) rest h r = ((instruction_shows i h.0).whole, instructions_whole is rest h.1 r)

block_whole : (b : Block) → IsBlock b → AllByRecursion (Lacks 10) (block_lines b)
block_whole b h = (
  (head_shows b.head h.head).whole,
  (
    (locals_show b.locals h.locals).whole,
    instructions_whole b.lines (codes "END" ∷ []) h.lines (end_shows.whole, tt),
  ),
)

lines_append : (xs ys : List (List ℕ)) → AllByRecursion (Lacks 10) xs → AllByRecursion (Lacks 10) ys → AllByRecursion (Lacks 10) (xs ++ ys)
lines_append [] ys p q = q
lines_append (x ∷ xs) ys p q = (p.0, lines_append xs ys p.1 q)

blocks_whole : (bs : List Block) → AllByRecursion IsBlock bs → AllByRecursion (Lacks 10) (flat_map block_lines bs)
blocks_whole [] h = tt
blocks_whole (b ∷ bs) h = lines_append (block_lines b) (flat_map block_lines bs) (block_whole b h.0) (blocks_whole bs h.1)

-- ---- what lines say, one after the other

abbrev pub IsMore : List (List ℕ) → Type 0
IsMore [] = ⊥
IsMore (part ∷ parts) = Unit {0}

-- from whatever line on, these parts say this
abbrev pub Say : Stage → List (List ℕ) → List Said → Type 0
Say stage parts says = (n : ℕ) → all_said n stage parts ≡ Ok says

line_at : (stage : Stage) (line : List ℕ) (says : Said) → Shows line says → may_say stage says ≡ true → said_at stage line ≡ Some says
line_at stage line says shows may = rw (shows.said, may) refl

next_said : (stage : Stage) (line : List ℕ) (parts : List (List ℕ)) (says : Said) (rest : List Said)
    → Shows line says → may_say stage says ≡ true → IsMore parts → Say (stage_behind says) parts rest → Say stage (line ∷ parts) (says ∷ rest)
next_said stage line [] says rest shows may more said n = absurd more
next_said stage line (part ∷ parts) says rest shows may more said n =
    ap (λ found. unless_bad n found (λ s. all_said (n + 1) (stage_behind s) (part ∷ parts))) (line_at stage line says shows may)
    ∙ ap (and_then_all says) (said (n + 1))

more_behind : (is : List Instruction) (rest : List (List ℕ)) → IsMore rest → IsMore (map instruction_line is ++ rest)
more_behind [] rest more = more
more_behind (i ∷ is) rest more = tt

-- the instructions of a block and its end
instructions_said : (is : List Instruction) (parts : List (List ℕ)) (rest : List Said)
    → AllByRecursion IsInstruction is → IsMore parts → Say between parts rest
    → Say inside (map instruction_line is ++ codes "END" ∷ parts) (map S.Instruction is ++ S.Ending ∷ rest)
instructions_said [] parts rest h more said = next_said inside (codes "END") parts S.Ending rest end_shows refl more said
instructions_said (i ∷ is) parts rest h more said =
    next_said inside (instruction_line i) (map instruction_line is ++ codes "END" ∷ parts) (S.Instruction i) (map S.Instruction is ++ S.Ending ∷ rest)
    (instruction_shows i h.0) refl (more_behind is (codes "END" ∷ parts) tt) (instructions_said is parts rest h.1 more said)

abbrev pub block_says : Block → List Said → List Said
block_says b rest = S.Opening b.head ∷ S.Locals b.locals ∷ (map S.Instruction b.lines ++ S.Ending ∷ rest)

abbrev pub block_parts : Block → List (List ℕ) → List (List ℕ)
block_parts b parts = head_line b.head ∷ locals_line b.locals ∷ (map instruction_line b.lines ++ codes "END" ∷ parts)

block_said : (b : Block) (parts : List (List ℕ)) (rest : List Said)
    → IsBlock b → IsMore parts → Say between parts rest → Say between (block_parts b parts) (block_says b rest)
block_said b parts rest h more said =
    let lines = map instruction_line b.lines ++ codes "END" ∷ parts in
    let says = map S.Instruction b.lines ++ S.Ending ∷ rest in
    next_said between (head_line b.head) (locals_line b.locals ∷ lines) (S.Opening b.head) (S.Locals b.locals ∷ says)
    (head_shows b.head h.head) refl tt
    (next_said headed (locals_line b.locals) lines (S.Locals b.locals) says (locals_show b.locals h.locals) refl
    (more_behind b.lines (codes "END" ∷ parts) tt)
    (instructions_said b.lines parts rest h.lines more said))

-- the lines of blocks, with the text behind the last line feed
abbrev pub blocks_parts : List Block → List (List ℕ)
blocks_parts [] = [] ∷ []
blocks_parts (b ∷ bs) = block_parts b (blocks_parts bs)

abbrev pub blocks_say : List Block → List Said
blocks_say [] = []
blocks_say (b ∷ bs) = block_says b (blocks_say bs)

blocks_more : (bs : List Block) → IsMore (blocks_parts bs)
blocks_more [] = tt
blocks_more (b ∷ bs) = tt

blocks_are_said : (bs : List Block) → AllByRecursion IsBlock bs → Say between (blocks_parts bs) (blocks_say bs)
blocks_are_said [] h = λ n. refl
blocks_are_said (b ∷ bs) h = block_said b (blocks_parts bs) (blocks_say bs) h.0 (blocks_more bs) (blocks_are_said bs h.1)

-- ---- the blocks that these lines say

lines_back : (is : List Instruction) (rest : List Said) → lines_said (map S.Instruction is ++ S.Ending ∷ rest) ≡ is
lines_back [] rest = refl
lines_back (i ∷ is) rest = ap (λ more. i ∷ more) (lines_back is rest)

blocks_behind : (is : List Instruction) (rest : List Said) → blocks_said (map S.Instruction is ++ S.Ending ∷ rest) ≡ blocks_said rest
blocks_behind [] rest = refl
blocks_behind (i ∷ is) rest = blocks_behind is rest

blocks_back : (bs : List Block) → blocks_said (blocks_say bs) ≡ bs
blocks_back [] = refl
blocks_back (b ∷ bs) = rw (lines_back b.lines (blocks_say bs), blocks_behind b.lines (blocks_say bs), blocks_back bs) refl

-- ---- the whole text

block_parts_are : (b : Block) (parts : List (List ℕ)) → block_lines b ++ parts ≡ block_parts b parts
block_parts_are b parts =
    ap (λ lines. head_line b.head ∷ locals_line b.locals ∷ lines) (append_assoc (map instruction_line b.lines) (codes "END" ∷ []) parts)

parts_are : (bs : List Block) → flat_map block_lines bs ++ [] ∷ [] ≡ blocks_parts bs
parts_are [] = refl
parts_are (b ∷ bs) = append_assoc (block_lines b) (flat_map block_lines bs) ([] ∷ [])
    ∙ ap (λ parts. block_lines b ++ parts) (parts_are bs) ∙ block_parts_are b (blocks_parts bs)

heading_shows : Shows (codes "CODE 1") S.Heading
heading_shows = record { said = refl; whole = (refl, (refl, (refl, (refl, (refl, (refl, tt)))))) }

pub read_spelt : (bs : List Block) → IsCode bs → read (spelt bs) ≡ Ok bs
read_spelt bs h =
    let parts = parted_ended (code_lines bs) (heading_shows.whole, blocks_whole bs h.each) ∙ ap (λ rest. codes "CODE 1" ∷ rest) (parts_are bs) in
    let said = next_said top (codes "CODE 1") (blocks_parts bs) S.Heading (blocks_say bs) heading_shows refl (blocks_more bs)
    (blocks_are_said bs h.each) 1 in
    ap (λ texts. result_of (all_said 1 top texts)) parts ∙ ap result_of said ∙ ap Ok (blocks_back bs)
