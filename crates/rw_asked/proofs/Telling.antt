-- The text of lines, one after another.
use Rattle.rw_base.proofs.Common.{◌≡◌, ◌<◌, ◌+◌, ℕ, codes, drop, drop-cons, length, slice_index_or, suc, suc-eq-add-one, List, [], ◌∷◌, ◌++◌, refl}
use Rattle.rw_base.proofs.Common.{sym, ap, ◌∙◌, append_assoc}
use Rattle.rw_model.specs.Draft.{Draft}
use Rattle.rw_report.proofs.Growing.{written}
use Rattle.rw_run.specs.Log.{Asked}
use Rattle.rw_asked.specs.declared.fate.Fate.{Fate}
use Rattle.rw_asked.specs.Asked.{Ask, AskedLine, lines_of_asks, put_lines}
use Rattle.rw_asked.specs.Words.{asked_line_words, asked_lines_words}

pub words_joined : (basin : Draft) (xs ys : List AskedLine)
    → asked_lines_words basin (xs ++ ys) ≡ asked_lines_words basin xs ++ asked_lines_words basin ys
words_joined basin [] ys = refl
words_joined basin (x ∷ xs) ys =
    ap (λ t. (asked_line_words basin x ++ codes "\n") ++ t) (words_joined basin xs ys)
    ∙ sym (append_assoc (asked_line_words basin x ++ codes "\n") (asked_lines_words basin xs) (asked_lines_words basin ys))

-- the lines of one put more
pub one_more_put : (basin : Draft) (put : Asked) (fate : Fate) (asks : List Ask) (these : List Ask) (text new whole : List ℕ)
    → these ≡ record { put = put; fate = fate } ∷ asks
    → text ++ asked_lines_words basin (lines_of_asks these) ≡ whole
    → new ≡ text ++ asked_lines_words basin (put_lines put fate)
    → new ++ asked_lines_words basin (lines_of_asks asks) ≡ whole
one_more_put basin put fate asks these text new whole are left is =
    written text new (asked_lines_words basin (put_lines put fate)) (asked_lines_words basin (lines_of_asks asks)) whole
    (ap (λ t. text ++ t) (sym (words_joined basin (put_lines put fate) (lines_of_asks asks)))
    ∙ ap (λ (those : List Ask). text ++ asked_lines_words basin (lines_of_asks those)) (sym are)
    ∙ left)
    is

-- the item in a place is the first of those from there on
pub from_place : {A : Type 0} (items : List A) (place : ℕ) (item : A) → place < length items → item ≡ slice_index_or items place item
    → drop place items ≡ item ∷ drop (place + 1) items
from_place items place item near is =
    drop-cons items place item near
    ∙ ap (λ x. x ∷ drop (suc place) items) (sym is)
    ∙ ap (λ n. item ∷ drop n items) (suc-eq-add-one place)

-- a line is what it begins with, up to its slot, and the timestep and the content behind that
pub word_told : (text front indent word gap slot step value end new : List ℕ) → front ≡ text ++ (indent ++ (word ++ (gap ++ (slot ++ gap))))
    → new ≡ front ++ (step ++ (gap ++ (value ++ end)))
    → new ≡ text ++ ((indent ++ (word ++ ((gap ++ (slot ++ (gap ++ step))) ++ (gap ++ value)))) ++ end)
word_told text front indent word gap slot step value end new begun is =
    is ∙ ap (λ t. t ++ (step ++ (gap ++ (value ++ end)))) begun ∙ joined text indent word gap slot step value end
  where
    joined : (text indent word gap slot step value end : List ℕ)
        → (text ++ (indent ++ (word ++ (gap ++ (slot ++ gap))))) ++ (step ++ (gap ++ (value ++ end)))
        ≡ text ++ ((indent ++ (word ++ ((gap ++ (slot ++ (gap ++ step))) ++ (gap ++ value)))) ++ end)
    joined text indent word gap slot step value end = simp append_assoc refl

-- the same, with what was held behind it
pub held_told : (text front asked indent word gap slot step value between held end new : List ℕ)
    → front ≡ text ++ (indent ++ (word ++ (gap ++ (slot ++ gap))))
    → asked ≡ front ++ (step ++ (gap ++ value)) → new ≡ asked ++ (between ++ (held ++ end))
    → new ≡ text ++ (((indent ++ (word ++ ((gap ++ (slot ++ (gap ++ step))) ++ (gap ++ value)))) ++ (between ++ held)) ++ end)
held_told text front asked indent word gap slot step value between held end new begun put is =
    is ∙ ap (λ t. t ++ (between ++ (held ++ end))) (put ∙ ap (λ t. t ++ (step ++ (gap ++ value))) begun)
    ∙ joined text indent word gap slot step value between held end
  where
    joined : (text indent word gap slot step value between held end : List ℕ)
        → ((text ++ (indent ++ (word ++ (gap ++ (slot ++ gap))))) ++ (step ++ (gap ++ value))) ++ (between ++ (held ++ end))
        ≡ text ++ (((indent ++ (word ++ ((gap ++ (slot ++ (gap ++ step))) ++ (gap ++ value)))) ++ (between ++ held)) ++ end)
    joined text indent word gap slot step value between held end = simp append_assoc refl
