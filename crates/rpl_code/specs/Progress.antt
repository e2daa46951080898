-- Within the crate: what has been read of a code, and what comes of it with the lines that are left.
use Rattle.std.specs.Prelude.{◌≡◌, ℕ, ◌+◌, List, ◌∷◌, ◌++◌, true, Result, Ok, Err}
use Rattle.rpl_code.specs.declared.block.Block.{Block}
use Rattle.rpl_code.specs.declared.said.Said.{Said}
use Rattle.rpl_code.specs.declared.progress.Progress.{Progress}
use Rattle.rpl_code.specs.declared.progress.Progress.TheVariants as P
use Rattle.rpl_code.specs.Reading.{Stage, top, between, headed, inside, stage_behind, may_say, CodeRefusal, locals_said, lines_said, blocks_said, all_said}

-- where the next line stands
abbrev pub stage_of : Progress → Stage
stage_of P.Top = top
stage_of P.Between = between
stage_of (P.Headed head) = headed
stage_of (P.Inside block) = inside

-- the block that was begun, with what the next lines say, and the blocks behind it
abbrev pub blocks_begun : Progress → List Said → List Block
blocks_begun P.Top says = blocks_said says
blocks_begun P.Between says = blocks_said says
blocks_begun (P.Headed head) says = record { head = head; locals = locals_said says; lines = lines_said says } ∷ blocks_said says
blocks_begun (P.Inside block) says = record { head = block.head; locals = block.locals; lines = block.lines ++ lines_said says } ∷ blocks_said says

-- the code of the blocks that were read and of the lines that are left
abbrev pub code_with : List Block → Progress → Result (List Said) CodeRefusal → Result (List Block) CodeRefusal
code_with blocks progress (Ok says) = Ok (blocks ++ blocks_begun progress says)
code_with blocks progress (Err refusal) = Err refusal

-- the same, of lines from line n on
abbrev pub reading_with : List Block → Progress → ℕ → List (List ℕ) → Result (List Block) CodeRefusal
reading_with blocks progress n parts = code_with blocks progress (all_said n (stage_of progress) parts)

-- what is said may be said there, and is gone over: the code is the same
pub record Takes (blocks : List Block) (progress : Progress) (says : Said) (blocks_after : List Block) (after : Progress) : Type 0 where
  pub may : may_say (stage_of progress) says ≡ true
  pub stage : stage_of after ≡ stage_behind says
  pub code : (rest : List Said) → blocks_after ++ blocks_begun after rest ≡ blocks ++ blocks_begun progress (says ∷ rest)

-- the same of a line, whichever it is and whatever comes behind it
abbrev pub TakesLine : List Block → Progress → List ℕ → List Block → Progress → Type 0
TakesLine blocks progress line blocks_after after = (n : ℕ) (part : List ℕ) (parts : List (List ℕ))
    → reading_with blocks_after after (n + 1) (part ∷ parts) ≡ reading_with blocks progress n (line ∷ part ∷ parts)
