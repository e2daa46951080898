-- A ruleset that a text spells has at most 200 rules and 200 functions.
use Rattle.rw_base.proofs.Common.{ap, arith, Err, inl, inr, List, Ok, refl, subst, sym, false, ℕ, ◌++◌, ◌+◌, ◌==◌, ◌∷◌, ◌≡◌, ◌≤◌, []}
use Rattle.rpl_tree.proofs.Common.{Declared, function, rule}
use Rattle.rpl_tree.specs.Bounds.{function_count, rule_count}
use Rattle.rpl_parse.specs.Declarations.{Due, IsDue, IsDueOf, IsReading, Piece, begins_function, begins_rule, is_full, one_more_if, pieces}
use Rattle.rpl_parse.specs.Scan.{Scanned, all, bad_at, tokens}
use Rattle.rpl_parse.specs.Statements.{IsDeclaration}
use Rattle.rpl_parse.specs.Tokens.{Tok}

rules_end : (ds : List Declared) (d : Declared) → rule_count (ds ++ d ∷ []) ≡ rule_count ds + rule_count (d ∷ [])
rules_end [] d = let e : 0 + rule_count (d ∷ []) ≡ rule_count (d ∷ []) = omega arith in sym e
rules_end (rule x body ∷ ds) d = let h = rules_end ds d in omega (arith, h)
rules_end (function x ps k b ∷ ds) d = rules_end ds d

functions_end : (ds : List Declared) (d : Declared) → function_count (ds ++ d ∷ []) ≡ function_count ds + function_count (d ∷ [])
functions_end [] d = let e : 0 + function_count (d ∷ []) ≡ function_count (d ∷ []) = omega arith in sym e
functions_end (rule x body ∷ ds) d = functions_end ds d
functions_end (function x ps k b ∷ ds) d = let h = functions_end ds d in omega (arith, h)

record Begins (ts : List Tok) (d : Declared) (r f : ℕ) : Type 0 where
  rules : one_more_if (begins_rule ts) r ≡ r + rule_count (d ∷ [])
  functions : one_more_if (begins_function ts) f ≡ f + function_count (d ∷ [])
  rules_left : is_full ts r f ≡ false → r ≤ 200 → r + rule_count (d ∷ []) ≤ 200
  functions_left : is_full ts r f ≡ false → f ≤ 200 → f + function_count (d ∷ []) ≤ 200

not_so_many : (n : ℕ) → (n == 200) ≡ false → n ≤ 200 → n + 1 ≤ 200
not_so_many n e le = grind (arith, e, le)

begins : (ts : List Tok) (d : Declared) (r f : ℕ) → IsDeclaration ts d → Begins ts d r f
begins ts (rule x body) r f h =
    rw h.0.1 (record { rules = refl; functions = omega arith; rules_left = λ e le. not_so_many r e le; functions_left = λ e le. omega arith })
begins ts (function x ps k b) r f h =
    rw h.0.1 (record { rules = omega arith; functions = refl; rules_left = λ e le. omega arith; functions_left = λ e le. not_so_many f e le })

pub record AreFew (ds : List Declared) : Type 0 where
  pub rules : rule_count ds ≤ 200
  pub functions : function_count ds ≤ 200

listed : Due → List Declared
listed (Ok ds) = ds
listed (Err why) = []

counted : (k r f : ℕ) (before : List Declared) (ps : List Piece) (ds : List Declared) → IsDue k r f before ps (Ok ds)
    → rule_count before ≡ r → function_count before ≡ f → r ≤ 200 → f ≤ 200 → AreFew ds
unfolding listed
counted k r f before [] ds due er ef lr lf =
    subst AreFew (sym (ap listed due)) (record { rules = omega (arith, er, lr); functions = omega (arith, ef, lf) })
counted k r f before (p ∷ ps) ds (inl h) er ef lr lf = absurd (cc h.1)
counted k r f before (p ∷ ps) ds (inr (inl h)) er ef lr lf = absurd (cc h.2)
counted k r f before (p ∷ ps) ds (inr (inr h)) er ef lr lf =
    let d = h.1.0 in
    let b = begins p.toks d r f h.1.1 in
    let br = b.rules in
    let bf = b.functions in
    let lr2 = b.rules_left h.0 lr in
    let lf2 = b.functions_left h.0 lf in
    let nr = rules_end before d in
    let nf = functions_end before d in
    counted (k + 1) (one_more_if (begins_rule p.toks) r) (one_more_if (begins_function p.toks) f) (before ++ d ∷ []) ps ds h.1.2
    (omega (arith, nr, er, br)) (omega (arith, nf, ef, bf)) (omega (arith, br, lr2)) (omega (arith, bf, lf2))

of_scanned : (s : Scanned) (ds : List Declared) → IsDueOf s (Ok ds) → AreFew ds
of_scanned (all ts) ds h = counted 1 0 0 [] (pieces ts) ds h refl refl (omega arith) (omega arith)
of_scanned (bad_at line) ds h = absurd (cc h)

pub few_declared : (text : List ℕ) (ds : List Declared) → IsReading text (Ok ds) → AreFew ds
few_declared text ds h = of_scanned (tokens text) ds h
