-- What is left of a text is read as the whole of it would be.
use Rattle.rw_base.proofs.Common.{◌≡◌, ℕ, List, [], ◌∷◌, ◌++◌, refl, sym, ap, subst, ◌∙◌, ◌+◌, append-nil, ◌&&◌, if◌then◌else◌, true, None, Result}
use Rattle.rw_base.proofs.Common.{Ok, Err, is_ok, MatchResult, bytes_eq, false≢true}
use Rattle.rw_base.specs.Answers.{Answers}
use Rattle.rpl_code.specs.declared.block.Block.{Block}
use Rattle.rpl_code.specs.declared.progress.Progress.{Progress}
use Rattle.rpl_code.specs.declared.progress.Progress.TheVariants as P
use Rattle.rpl_code.specs.declared.fault.CodeFault.{CodeFault}
use Rattle.rpl_code.specs.declared.fault.CodeFault.TheVariants.{BadLine, Truncated, NoMemory}
use Rattle.rpl_code.specs.Bounds.{IsCode}
use Rattle.rpl_code.specs.Spelling.{spelt}
use Rattle.rpl_code.specs.Answers.{code_refusal_of}
use Rattle.rpl_code.proofs.CodeRead.{read_spelt}
use Rattle.rpl_code.specs.Parting.{parted}
use Rattle.rpl_code.specs.Reading.{may_end, truncated, CodeRefusal, bad_line, stage_behind, said_at, unless_bad, all_said, read}
use Rattle.rpl_code.specs.Progress.{stage_of, blocks_begun, code_with, reading_with, TakesLine}
use Rattle.rpl_code.proofs.WordsBack.{IsMore, parted_more}

-- the loop's turn: with the parts of a text behind the line
pub reads_on : (blocks : List Block) (progress : Progress) (n : ℕ) (left line rest : List ℕ) (blocks_after : List Block) (after : Progress)
    (whole : Result (List Block) CodeRefusal)
    → parted 10 left ≡ line ∷ parted 10 rest → TakesLine blocks progress line blocks_after after
    → reading_with blocks progress n (parted 10 left) ≡ whole → reading_with blocks_after after (n + 1) (parted 10 rest) ≡ whole
reads_on blocks progress n left line rest blocks_after after whole e takes is =
    by_parts (parted 10 rest) (parted_more 10 rest) (sym (ap (reading_with blocks progress n) e) ∙ is)
  where
    by_parts : (parts : List (List ℕ)) → IsMore parts → reading_with blocks progress n (line ∷ parts) ≡ whole
        → reading_with blocks_after after (n + 1) parts ≡ whole
    by_parts [] more h = absurd more
    by_parts (part ∷ parts) more h = takes n part parts ∙ h

-- the loop's end by a line that is refused
pub reads_bad : (blocks : List Block) (progress : Progress) (n : ℕ) (left line rest : List ℕ) (whole : Result (List Block) CodeRefusal)
    → parted 10 left ≡ line ∷ parted 10 rest → said_at (stage_of progress) line ≡ None
    → reading_with blocks progress n (parted 10 left) ≡ whole → whole ≡ Err (bad_line n)
reads_bad blocks progress n left line rest whole e none is =
    by_parts (parted 10 rest) (parted_more 10 rest) (sym (ap (reading_with blocks progress n) e) ∙ is)
  where
    by_parts : (parts : List (List ℕ)) → IsMore parts → reading_with blocks progress n (line ∷ parts) ≡ whole → whole ≡ Err (bad_line n)
    by_parts [] more h = absurd more
    by_parts (part ∷ parts) more h =
        sym h ∙ ap (λ found. code_with blocks progress (unless_bad n found (λ s. all_said (n + 1) (stage_behind s) (part ∷ parts)))) none

-- the loop's end behind the last line
pub reads_all : (blocks : List Block) (progress : Progress) (n : ℕ) (left : List ℕ) (whole : Result (List Block) CodeRefusal)
    → parted 10 left ≡ left ∷ [] → (may_end (stage_of progress) && bytes_eq left []) ≡ true
    → reading_with blocks progress n (parted 10 left) ≡ whole → whole ≡ Ok blocks
reads_all blocks progress n left whole e ends is =
    sym is ∙ ap (reading_with blocks progress n) e ∙ ap (λ t. code_with blocks progress (if t then Ok [] else Err truncated)) ends
    ∙ ap Ok (nothing_more progress ends)
  where
    nothing_more : (progress : Progress) → (may_end (stage_of progress) && bytes_eq left []) ≡ true → blocks ++ blocks_begun progress [] ≡ blocks
    nothing_more P.Top h = append-nil blocks
    nothing_more P.Between h = append-nil blocks
    nothing_more (P.Headed head) h = absurd (false≢true h)
    nothing_more (P.Inside block) h = absurd (false≢true h)

-- what was written is read again
abbrev pub blocks_or : List Block → Result (List Block) CodeRefusal → List Block
blocks_or other (Ok blocks) = blocks
blocks_or other (Err refusal) = other

abbrev Tells : List Block → Result (List Block) CodeFault → Type 0
Tells blocks result = Answers NoMemory code_refusal_of (λ code. code) result (Ok blocks)

answered : (blocks : List Block) (result : Result (List Block) CodeFault) → Tells blocks result
    → MatchResult result (λ code. code ≡ blocks) (λ fault. fault ≡ NoMemory)
answered blocks (Ok code) e = sym (ap (blocks_or code) e)
answered blocks (Err (BadLine line)) why = absurd (false≢true (sym (ap is_ok (why.0 (bad_line line) refl))))
answered blocks (Err Truncated) why = absurd (false≢true (sym (ap is_ok (why.0 truncated refl))))
answered blocks (Err NoMemory) why = refl

pub read_again : (blocks : List Block) (result : Result (List Block) CodeFault) → IsCode blocks
    → Answers NoMemory code_refusal_of (λ code. code) result (read (spelt blocks))
    → MatchResult result (λ code. code ≡ blocks) (λ fault. fault ≡ NoMemory)
read_again blocks result is answers =
    answered blocks result (subst (λ reading. Answers NoMemory code_refusal_of (λ code. code) result reading) (read_spelt blocks is) answers)
