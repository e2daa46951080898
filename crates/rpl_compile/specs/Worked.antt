-- The code of worked rules.
use Rattle.std.specs.Prelude.{ℕ, List, [], ◌∷◌, ◌++◌, flat_map, pos, codes}
use Rattle.rpl_code.specs.declared.instruction.Instruction.{Instruction}
use Rattle.rpl_code.specs.declared.instruction.Instruction.TheVariants as I
use Rattle.rpl_code.specs.declared.block.Block.{Block}
use Rattle.rpl_tree.specs.Tree.{Tree, Act}
use Rattle.rpl_tree.specs.Worked.{rule_of, with_functions, x_put}
use Rattle.rpl_compile.specs.Translate.{translate}

-- the lines of all blocks, one after the other
abbrev pub lines_of : List Block → List Instruction
lines_of blocks = flat_map (λ (block : Block). block.lines) blocks

-- of a rule of these statements, and of `D.X[t] := e;`
abbrev pub lines_of_acts : List Act → List Instruction
lines_of_acts statements = lines_of (translate (rule_of statements ∷ []))

abbrev pub lines_of_tree : Tree → List Instruction
lines_of_tree e = lines_of_acts (x_put e ∷ [])

-- the same beside a function `Count` of a list with room for three and a number, and a function `Both` whose result is such a list
abbrev pub lines_beside_functions : Tree → List Instruction
lines_beside_functions e = lines_of (translate (with_functions e))

abbrev pub number_instruction : ℕ → Instruction
number_instruction n = I.Num (pos n)

-- `put D.X 0`
abbrev pub put_dx : Instruction
put_dx = I.Put (codes "D") (codes "X") 0

-- these lines, and then `put D.X 0`
abbrev pub putting : List Instruction → List Instruction
putting lines = lines ++ put_dx ∷ []

-- the lines of both functions, and then these
abbrev pub behind_functions : List Instruction → List Instruction
behind_functions lines = I.Load 0 ∷ I.Length ∷ number_instruction 7 ∷ number_instruction 8 ∷ I.List 2 ∷ I.Widen 3 ∷ lines
