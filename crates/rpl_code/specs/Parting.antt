-- Texts cut at a byte.
use Rattle.std.specs.Prelude.{ℕ, ◌==◌, if◌then◌else◌, List, [], ◌∷◌}

-- the byte in front of the first text
abbrev pub in_front : ℕ → List (List ℕ) → List (List ℕ)
in_front b [] = (b ∷ []) ∷ []
in_front b (text ∷ texts) = (b ∷ text) ∷ texts

-- what stands between the bytes c: one text more than there are such bytes
abbrev pub parted : ℕ → List ℕ → List (List ℕ)
parted c [] = [] ∷ []
parted c (b ∷ bs) = if b == c then [] ∷ parted c bs else in_front b (parted c bs)
