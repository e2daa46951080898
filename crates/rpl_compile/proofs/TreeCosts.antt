-- What trees cost, in words that the proofs on their code use.
use Rattle.rpl_compile.proofs.Common.{And, Costed, IsElement, Kind, List, Or, Price, TwoWord, ValueKind, [], ap, append_assoc, arith, code_kind}
use Rattle.rpl_compile.proofs.Common.{code_kinds, inl, inr, list_kind, max, refl, replicate, reverse, reverse-append, subst, suc, sym, two_cost}
use Rattle.rpl_compile.proofs.Common.{weight, weights, words_of, words_of_all, zero, ℕ, ◌++◌, ◌+◌, ◌∙◌, ◌∷◌, ◌≡◌}
use Rattle.rpl_tree.specs.Words.{two_words}
use Rattle.rpl_compile.proofs.WordLines.{IsLine, two_step}
use Rattle.rpl_compile.proofs.OfKind.{words_coded}

pub again : (count : ℕ) (kind : ValueKind) (kinds : List ValueKind) → replicate count kind ++ (kind ∷ kinds) ≡ replicate (count + 1) kind ++ kinds
again count kind kinds = by count ∙ ap (λ m. replicate m kind ++ kinds) more
  where
    more : suc count ≡ count + 1
    more = omega arith

    by : (n : ℕ) → replicate n kind ++ (kind ∷ kinds) ≡ replicate (suc n) kind ++ kinds
    by zero = refl
    by (suc n) = ap (λ l. kind ∷ l) (by n)

pub turned : (kind : ValueKind) (kinds under : List ValueKind) → reverse kinds ++ (kind ∷ under) ≡ reverse (kind ∷ kinds) ++ under
turned kind kinds under = sym (append_assoc (reverse kinds) (kind ∷ []) under) ∙ ap (λ l. l ++ under) (sym (reverse-append (kind ∷ []) kinds))

-- ---- words

pub words_added : (kinds under : List ValueKind) → words_of_all (kinds ++ under) ≡ words_of_all kinds + words_of_all under
words_added [] under = omega arith
words_added (kind ∷ kinds) under = let others = words_added kinds under in omega (arith, others)

pub words_turned : (kinds : List Kind) (under : List ValueKind)
    → words_of_all (reverse (code_kinds kinds) ++ under) ≡ weights kinds + words_of_all under
words_turned [] under = omega arith
words_turned (kind ∷ kinds) under =
    let others = words_turned kinds (code_kind kind ∷ under) in
    let turned_words = ap words_of_all (turned (code_kind kind) (code_kinds kinds) under) in
    let own_words = words_coded kind in
    omega (arith, others, turned_words, own_words)

pub element_words : (count : ℕ) (kind : Kind) → IsElement kind → (words_of (code_kind kind) ≡ 1)
    × (words_of (code_kind (list_kind count kind)) ≡ count + 1)
element_words count kind (inl e) =
    subst (λ k. (words_of (code_kind k) ≡ 1) × (words_of (code_kind (list_kind count k)) ≡ count + 1)) (sym e) (refl, refl)
element_words count kind (inr e) =
    subst (λ k. (words_of (code_kind k) ≡ 1) × (words_of (code_kind (list_kind count k)) ≡ count + 1)) (sym e) (refl, refl)

-- ---- what a tree costs

pub two_costs : (pays : Price) (functions : List Costed) (word : TwoWord) (left right : ℕ) (kind : Kind) → IsLine word
    → two_cost pays functions word left right kind ≡ left + (right + pays.step (two_step word kind))
two_costs pays functions Or left right kind is_line = absurd is_line
two_costs pays functions And left right kind is_line = absurd is_line
two_costs pays functions _ left right kind is_line = refl

pub two_heights : (word : TwoWord) (kind : Kind) (left right : ℕ) → IsLine word → two_words word kind left right ≡ max left (weight kind + right)
two_heights Or kind left right is_line = absurd is_line
two_heights And kind left right is_line = absurd is_line
two_heights _ kind left right is_line = refl
