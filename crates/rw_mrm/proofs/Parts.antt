-- A text that grew by three parts.
use Rattle.rw_base.proofs.Common.{◌≡◌, ℕ, List, ◌++◌, ap, ◌∙◌, append_assoc, Result, Ok, Err, OnOk}

pub three_parts : {A B : Type 0} (result : Result A B) (front one two new first second third : List ℕ) → one ≡ front ++ first → two ≡ one ++ second
    → OnOk result (new ≡ two ++ third) → OnOk result (new ≡ front ++ (first ++ (second ++ third)))
three_parts (Ok x) front one two new first second third has more added =
    added ∙ ap (λ t. t ++ third) (more ∙ ap (λ t. t ++ second) has)
    ∙ append_assoc (front ++ first) second third ∙ append_assoc front first (second ++ third)
three_parts (Err e) front one two new first second third has more added = tt
