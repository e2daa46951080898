-- A text that grows line by line.
use Rattle.rw_base.proofs.Common.{◌≡◌, ℕ, List, [], ◌∷◌, ◌++◌, refl, sym, ap, ◌∙◌, append_assoc, codes, flat_map, drop, ◌+◌}
use Rattle.rpl_code.specs.declared.block.Block.{Block}
use Rattle.rpl_code.specs.Spelling.{lines_ended, block_lines}

pub ended_append : (xs ys : List (List ℕ)) → lines_ended (xs ++ ys) ≡ lines_ended xs ++ lines_ended ys
ended_append [] ys = refl
ended_append (x ∷ xs) ys = ap (λ rest. x ++ 10 ∷ rest) (ended_append xs ys) ∙ sym (append_assoc x (10 ∷ lines_ended xs) (lines_ended ys))

-- more lines behind those that were written
pub further : (text new : List ℕ) (xs ys : List (List ℕ)) → new ≡ text ++ lines_ended xs → new ++ lines_ended ys ≡ text ++ lines_ended (xs ++ ys)
further text new xs ys e =
    ap (λ t. t ++ lines_ended ys) e ∙ append_assoc text (lines_ended xs) (lines_ended ys) ∙ ap (λ rest. text ++ rest) (sym (ended_append xs ys))

seven : (a h n l e z : List ℕ) → (((((a ++ h) ++ n) ++ l) ++ n) ++ e) ++ z ≡ a ++ (h ++ (n ++ (l ++ (n ++ (e ++ z)))))
seven a h n l e z = simp append_assoc refl

-- the lines of a block, one after the other
pub block_written : (text head locals : List ℕ) (lines : List (List ℕ)) (t1 t2 t3 t4 t5 t6 : List ℕ)
    → t1 ≡ text ++ head → t2 ≡ t1 ++ 10 ∷ [] → t3 ≡ t2 ++ locals → t4 ≡ t3 ++ 10 ∷ [] → t5 ≡ t4 ++ lines_ended lines → t6 ≡ t5 ++ codes "END\n"
    → t6 ≡ text ++ lines_ended (head ∷ locals ∷ (lines ++ codes "END" ∷ []))
block_written text head locals lines t1 t2 t3 t4 t5 t6 e1 e2 e3 e4 e5 e6 =
    rw (e6, e5, e4, e3, e2, e1)
    (seven text head (10 ∷ []) locals (lines_ended lines) (codes "END\n")
    ∙ ap (λ rest. text ++ (head ++ 10 ∷ (locals ++ 10 ∷ rest))) (sym (ended_append lines (codes "END" ∷ []))))

-- one block more behind those that were written
pub block_more : (bs : List Block) (i : ℕ) (b : Block) (text new all : List ℕ)
    → drop i bs ≡ b ∷ drop (i + 1) bs
    → text ++ lines_ended (flat_map block_lines (drop i bs)) ≡ all
    → new ≡ text ++ lines_ended (block_lines b)
    → new ++ lines_ended (flat_map block_lines (drop (i + 1) bs)) ≡ all
block_more bs i b text new all step is added =
    further text new (block_lines b) (flat_map block_lines (drop (i + 1) bs)) added
    ∙ ap (λ rest. text ++ lines_ended (flat_map block_lines rest)) (sym step) ∙ is
