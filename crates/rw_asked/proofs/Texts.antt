-- Worked texts, with their numbers as texts.
use Rattle.rw_base.proofs.Common.{◌≡◌, ◌++◌, ◌∷◌, List, ℕ, [], ap, codes, true}
use Rattle.rw_report.proofs.Worked.{Numbers, firing, line, put, traced}

abbrev pub word_text : (word slot step value flag : List ℕ) → List ℕ
word_text word slot step value flag =
    codes "  " ++ (word ++ ((codes " " ++ (slot ++ (codes " " ++ step))) ++ (codes " " ++ (value ++ (codes " " ++ flag)))))

abbrev pub left_text : (fate slot step value flag held : List ℕ) → List ℕ
left_text fate slot step value flag held = (word_text fate slot step value flag ++ held) ++ codes "\n"

abbrev pub held_part : (value flag : List ℕ) → List ℕ
held_part value flag = codes " held " ++ (value ++ (codes " " ++ flag))

abbrev pub denied : Numbers → List ℕ
denied n = traced (
    line (codes "open ") n.d1 ++ (firing n.d1 true n.d2 ++ (put (codes "D.X") n.d1 n.d1 (codes "R" ++ n.d1)
    ++ (firing n.d2 true n.d2
    ++ (left_text (codes "denied") (codes "D.X") n.d1 n.d2 (codes "R" ++ n.d2) (held_part n.d1 (codes "R" ++ n.d1))
    ++ (line (codes "close ") n.d1 ++ []))))))

abbrev pub kept : Numbers → List ℕ
kept n = traced (
    left_text (codes "kept") (codes "D.X") n.d1 n.d10 (codes "R" ++ n.d1) (held_part n.d10 (codes "R" ++ n.d1)) ++ [])

abbrev pub again : Numbers → List ℕ
again n = traced (left_text (codes "again") (codes "D.X") n.d1 n.d1 (codes "R" ++ n.d1) [] ++ [])

abbrev pub late : Numbers → List ℕ
late n = traced (left_text (codes "late") (codes "D.X") n.d2 n.d7 (codes "R" ++ n.d1) [] ++ [])

abbrev pub over : Numbers → List ℕ
over n = traced (
    put (codes "D.X") n.d1 n.d2 (codes "R" ++ n.d1)
    ++ ((word_text (codes "over") (codes "D.X") n.d1 n.d10 (codes "R" ++ n.d2) ++ codes "\n") ++ []))
