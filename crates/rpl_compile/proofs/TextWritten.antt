-- Blocks, and their text, that grow block by block.
use Rattle.rpl_compile.proofs.Common.{Declared, List, [], ap, ap₂, arith, drop, length, map, refl, sym, ℕ, ◌++◌, ◌+◌, ◌∙◌, ◌∷◌, ◌≡◌}
use Rattle.rw_base.proofs.Common.{flat_map}
use Rattle.std.proofs.lemmas.List.{append_assoc, length-append}
use Rattle.rpl_code.specs.declared.block.Block.{Block}
use Rattle.rpl_code.specs.Spelling.{block_lines, lines_ended}
use Rattle.rpl_code.proofs.Growing.{further}
use Rattle.rpl_tree.specs.declared.rules.Declaration.{Declaration}
use Rattle.rpl_tree.specs.Seen.{declared_of}
use Rattle.rpl_compile.specs.Translate.{Callee}
use Rattle.rpl_compile.specs.Written.{and_callee, written_block, written_from}

-- one block more behind those that were written
pub text_more : (ds : List Declaration) (k : ℕ) (d : Declaration) (callees behind : List Callee) (b : Block) (text new all : List ℕ)
    → drop k ds ≡ d ∷ drop (k + 1) ds
    → text ++ lines_ended (flat_map block_lines (written_from callees (k + 1) (map declared_of (drop k ds)))) ≡ all
    → b ≡ written_block callees (declared_of d)
    → behind ≡ and_callee callees (k + 1) (declared_of d)
    → new ≡ text ++ lines_ended (block_lines b)
    → new ++ lines_ended (flat_map block_lines (written_from behind (k + 1 + 1) (map declared_of (drop (k + 1) ds)))) ≡ all
text_more ds k d callees behind b text new all step is block known added =
    further text new (block_lines b) (flat_map block_lines (written_from behind (k + 1 + 1) (map declared_of (drop (k + 1) ds)))) added
    ∙ ap₂ (λ one others. text ++ lines_ended (block_lines one
    ++ flat_map block_lines (written_from others (k + 1 + 1) (map declared_of (drop (k + 1) ds))))) block known
    ∙ ap (λ left. text ++ lines_ended (flat_map block_lines (written_from callees (k + 1) (map declared_of left)))) (sym step)
    ∙ is

pub none_left : {X : Type 0} (xs : List X) → length xs ≡ 0 → xs ≡ []
none_left [] none = refl
none_left (x ∷ xs) none = absurd (omega arith)

-- the same of the blocks themselves
pub block_more : (blocks : List Block) (callees behind : List Callee) (b : Block) (d : Declared) (ds : List Declared) (new all : List Block)
    → blocks ++ written_from callees (length blocks + 1) (d ∷ ds) ≡ all
    → b ≡ written_block callees d
    → behind ≡ and_callee callees (length blocks + 1) d
    → new ≡ blocks ++ b ∷ []
    → new ++ written_from behind (length new + 1) ds ≡ all
block_more blocks callees behind b d ds new all is block known added =
    let longer : length (blocks ++ b ∷ []) ≡ length blocks + 1 = length-append blocks (b ∷ []) in
    rw (added, longer, known)
    (append_assoc blocks (b ∷ []) _
    ∙ ap (λ one. blocks ++ one ∷ written_from (and_callee callees (length blocks + 1) d) (length blocks + 1 + 1) ds) block
    ∙ is)
