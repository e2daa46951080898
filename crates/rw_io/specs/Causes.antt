-- Counts of faults: they never fall, and a fault has risen one.
use Rattle.std.specs.Prelude.{ℕ, ◌+◌, ◌-◌, ◌^◌, ◌≤◌, min, List, Option, None, Some}

-- the count has risen, or stands at its type's end
abbrev pub Rose : ℕ → ℕ → Type 0
Rose before now = min (before + 1) (2 ^ 64 - 1) ≤ now

-- no path's count has fallen
abbrev pub NoneFell : (List ℕ → ℕ) → (List ℕ → ℕ) → Type 0
NoneFell before now = (path : List ℕ) → before path ≤ now path

-- a path is started, and its count has risen
abbrev pub PathRose : Option (List ℕ) → (List ℕ → ℕ) → (List ℕ → ℕ) → Type 0
PathRose None before now = ⊥
PathRose (Some path) before now = Rose (before path) (now path)
