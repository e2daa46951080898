-- Worked texts, with their numbers as texts.
use Rattle.rw_base.proofs.Common.{◌≡◌, ◌++◌, ◌∷◌, ◌∙◌, Bool, List, ℕ, [], ap, arith, codes, decimal, decimal_digit, decimal_step, false, true}
use Rattle.rw_report.specs.Lines.{ending_words}

-- the numbers of these texts
pub record Numbers : Type 0 where
  pub d0 : List ℕ
  pub d1 : List ℕ
  pub d2 : List ℕ
  pub d3 : List ℕ
  pub d5 : List ℕ
  pub d6 : List ℕ
  pub d7 : List ℕ
  pub d10 : List ℕ

abbrev pub printed : Numbers
printed = record {
  d0 = decimal 0;
  d1 = decimal 1;
  d2 = decimal 2;
  d3 = decimal 3;
  d5 = decimal 5;
  d6 = decimal 6;
  d7 = decimal 7;
  d10 = decimal 10;
}

abbrev pub written : Numbers
written = record {
  d0 = codes "0";
  d1 = codes "1";
  d2 = codes "2";
  d3 = codes "3";
  d5 = codes "5";
  d6 = codes "6";
  d7 = codes "7";
  d10 = codes "10";
}

ten : decimal 10 ≡ codes "10"
ten = decimal_step 10 (omega arith) (omega arith) ∙ ap (λ d. d ++ 48 ∷ []) (decimal_digit 1 (omega arith))

alike : printed ≡ written
alike = λ i. record {
  d0 = decimal_digit 0 (omega arith) i;
  d1 = decimal_digit 1 (omega arith) i;
  d2 = decimal_digit 2 (omega arith) i;
  d3 = decimal_digit 3 (omega arith) i;
  d5 = decimal_digit 5 (omega arith) i;
  d6 = decimal_digit 6 (omega arith) i;
  d7 = decimal_digit 7 (omega arith) i;
  d10 = ten i;
}

-- a text with these numbers is the text with them as they are written
pub same : (text : Numbers → List ℕ) → text printed ≡ text written
same text = ap text alike

-- ---- lines of a trace

abbrev pub line : List ℕ → List ℕ → List ℕ
line word number = (word ++ number) ++ codes "\n"

abbrev pub firing : List ℕ → Bool → List ℕ → List ℕ
firing rule done count = ((codes "fire " ++ rule) ++ (ending_words done ++ count)) ++ codes "\n"

abbrev pub put : (slot step value flag : List ℕ) → List ℕ
put slot step value flag =
    ((codes "  " ++ (slot ++ (codes " " ++ step))) ++ (codes " " ++ (value ++ (codes " " ++ flag)))) ++ codes "\n"

abbrev pub traced : List ℕ → List ℕ
traced lines = codes "# trace\n" ++ lines

abbrev pub raised : Numbers → List ℕ
raised n = traced (
    line (codes "open ") n.d1 ++ (firing n.d1 false n.d3 ++ (firing n.d2 true n.d2 ++ (put (codes "D.X") n.d1 n.d0 (codes "R" ++ n.d2)
    ++ (firing n.d1 true n.d6 ++ (put (codes "D.X") n.d1 n.d10 (codes "R" ++ n.d1)
    ++ (firing n.d1 true n.d6 ++ (line (codes "close ") n.d1 ++ []))))))))

abbrev pub dropped : Numbers → List ℕ
dropped n = traced (
    line (codes "open ") n.d1 ++ (firing n.d1 true n.d2 ++ (put (codes "D.X") n.d1 n.d1 (codes "R" ++ n.d1)
    ++ (firing n.d2 true n.d2 ++ (line (codes "close ") n.d1 ++ [])))))

abbrev pub faulty : Numbers → List ℕ
faulty n = traced (
    line (codes "open ") n.d1
    ++ (line (codes "fault ") (codes "division by zero rule " ++ (n.d1 ++ (codes " step " ++ n.d1))) ++ []))

abbrev pub objects : Numbers → List ℕ
objects n = traced (
    line (codes "open ") n.d1 ++ (codes "idle D\n" ++ (codes "solve D\n"
    ++ (put (codes "D.Y") n.d1 (codes "-" ++ n.d5) (codes "O" ++ n.d2) ++ (line (codes "close ") n.d1 ++ [])))))

-- ---- why

abbrev pub told : (step writer value flag : List ℕ) → List ℕ
told step writer value flag =
    (codes "step " ++ (step ++ (codes " " ++ writer))) ++ (codes " " ++ ((value ++ (codes " " ++ flag)) ++ codes "\n"))

abbrev pub holds : (value flag : List ℕ) → List ℕ
holds value flag = codes "holds " ++ ((value ++ (codes " " ++ flag)) ++ codes "\n")

abbrev pub linked : Numbers → List ℕ
linked n =
    (told n.d1 (codes "rule " ++ n.d2) n.d0 (codes "R" ++ n.d2) ++ (told n.d1 (codes "rule " ++ n.d1) n.d10 (codes "R" ++ n.d1) ++ []))
    ++ holds n.d10 (codes "R" ++ n.d1)

abbrev pub ahead : Numbers → List ℕ
ahead n = (told n.d1 (codes "rule " ++ n.d1) n.d7 (codes "R" ++ n.d1) ++ []) ++ holds n.d7 (codes "R" ++ n.d1)

abbrev pub given : Numbers → List ℕ
given n = (codes "given " ++ (n.d5 ++ codes "\n")) ++ holds n.d5 (codes "I" ++ n.d0)

-- ---- other parts

abbrev pub flags : Numbers → List ℕ
flags n = codes "# flags\nstep,D.X,D.Y\n" ++ (n.d1 ++ (((codes "," ++ (codes "R" ++ n.d1)) ++ codes ",") ++ codes "\n"))

abbrev pub again : Numbers → List ℕ
again n = codes "# reran" ++ (((codes " " ++ n.d2) ++ ((codes " " ++ n.d5) ++ [])) ++ codes "\n")
