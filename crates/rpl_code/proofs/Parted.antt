-- A text that was joined is parted again, and a text that was parted is joined again.
use Rattle.rw_base.proofs.Common.{◌≡◌, ℕ, List, [], ◌∷◌, ◌++◌, true, false, refl, sym, ap, subst, ◌∙◌, append-nil, ◌+◌, ◌-◌, ◌<◌, ◌≤◌, arith, length}
use Rattle.rw_base.proofs.Common.{get_or, take, drop, drop-cons, length-drop, add-one, take-append-drop, take_all, ◌==◌, AllByRecursion, eq-eqb}
use Rattle.rw_base.proofs.Common.{ne_eqb}
use Rattle.rpl_code.specs.Parting.{parted}
use Rattle.rpl_code.specs.Spelling.{texts_joined, lines_ended}

-- the byte c stands nowhere
abbrev pub Lacks : ℕ → List ℕ → Type 0
Lacks c = AllByRecursion (λ b. (b == c) ≡ false)

-- each byte is greater than t
abbrev pub Above : ℕ → List ℕ → Type 0
Above t = AllByRecursion (λ b. t < b)

pub all_append : (P : ℕ → Type 0) (xs ys : List ℕ) → AllByRecursion P xs → AllByRecursion P ys → AllByRecursion P (xs ++ ys)
all_append P [] ys p q = q
all_append P (x ∷ xs) ys p q = (p.0, all_append P xs ys p.1 q)

pub lacks_above : (t c : ℕ) (text : List ℕ) → c ≤ t → Above t text → Lacks c text
lacks_above t c [] le above = tt
lacks_above t c (b ∷ bs) le above = (ne_eqb b c (λ e. omega (arith, e, le, above.0)), lacks_above t c bs le above.1)

pub above_less : (t u : ℕ) (text : List ℕ) → u ≤ t → Above t text → Above u text
above_less t u [] le above = tt
above_less t u (b ∷ bs) le above = (omega (arith, le, above.0), above_less t u bs le above.1)

-- ---- parting what was joined

pub parted_whole : (c : ℕ) (text : List ℕ) → Lacks c text → parted c text ≡ text ∷ []
parted_whole c [] lacks = refl
parted_whole c (b ∷ bs) lacks = rw (lacks.0, parted_whole c bs lacks.1) refl

same_byte : (c : ℕ) → (c == c) ≡ true
same_byte c = eq-eqb c c refl

pub parted_at : (c : ℕ) (text rest : List ℕ) → Lacks c text → parted c (text ++ c ∷ rest) ≡ text ∷ parted c rest
parted_at c [] rest lacks = rw (same_byte c) refl
parted_at c (b ∷ bs) rest lacks = rw (lacks.0, parted_at c bs rest lacks.1) refl

pub parted_joined : (c : ℕ) (text : List ℕ) (texts : List (List ℕ)) → AllByRecursion (Lacks c) (text ∷ texts)
    → parted c (texts_joined c (text ∷ texts)) ≡ text ∷ texts
parted_joined c text [] lacks = ap (parted c) (append-nil text) ∙ parted_whole c text lacks.0
parted_joined c text (next ∷ texts) lacks =
    parted_at c text (texts_joined c (next ∷ texts)) lacks.0 ∙ ap (λ rest. text ∷ rest) (parted_joined c next texts lacks.1)

pub parted_ended : (lines : List (List ℕ)) → AllByRecursion (Lacks 10) lines → parted 10 (lines_ended lines) ≡ lines ++ [] ∷ []
parted_ended [] lacks = refl
parted_ended (line ∷ lines) lacks =
    parted_at 10 line (lines_ended lines) lacks.0 ∙ ap (λ rest. line ∷ rest) (parted_ended lines lacks.1)

-- ---- cutting at the first such byte

stands_at : (c : ℕ) (text : List ℕ) (k : ℕ) → k < length text → get_or text k 0 ≡ c → text ≡ take k text ++ c ∷ drop (k + 1) text
stands_at c text k near same =
    sym (take-append-drop k text) ∙ ap (λ rest. take k text ++ rest) (at_place text k near ∙ ap (λ b. b ∷ drop (k + 1) text) same)
  where
    at_place : (text : List ℕ) (k : ℕ) → k < length text → drop k text ≡ get_or text k 0 ∷ drop (k + 1) text
    at_place text k near = rw (add-one k) (drop-cons text k 0 near)

-- it stands at a place, and nowhere before that
pub parted_found : (c : ℕ) (text : List ℕ) (k : ℕ) → k < length text → get_or text k 0 ≡ c → Lacks c (take k text)
    → parted c text ≡ take k text ∷ parted c (take (length text - (k + 1)) (drop (k + 1) text))
parted_found c text k near same lacks =
    ap (parted c) (stands_at c text k near same) ∙ parted_at c (take k text) (drop (k + 1) text) lacks
    ∙ ap (λ rest. take k text ∷ parted c rest) (sym (take_all (length text - (k + 1)) (drop (k + 1) text) (omega (arith, length-drop (k + 1) text))))

-- it stands at no place
pub parted_lacking : (c : ℕ) (text : List ℕ) (k : ℕ) → length text ≤ k → Lacks c (take k text) → parted c text ≡ text ∷ []
parted_lacking c text k whole lacks = parted_whole c text (subst (Lacks c) (take_all k text whole) lacks)
