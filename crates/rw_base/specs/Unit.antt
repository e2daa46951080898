-- The table of units.
use Rattle.std.specs.Prelude.{ℕ, ℤ, pos, List, [], ◌∷◌, map, Option, Some, None, if◌then◌else◌, codes, bytes_eq}
use Rattle.rw_base.specs.Dimension.{Dimension, dimension, per_of}

abbrev pub volume : Dimension
volume = dimension (pos 1) (pos 0) (pos 0) (pos 0)

abbrev pub length : Dimension
length = dimension (pos 0) (pos 1) (pos 0) (pos 0)

abbrev pub timestep : Dimension
timestep = dimension (pos 0) (pos 0) (pos 1) (pos 0)

abbrev pub energy : Dimension
energy = dimension (pos 0) (pos 0) (pos 0) (pos 1)

abbrev pub plain_number : Dimension
plain_number = dimension (pos 0) (pos 0) (pos 0) (pos 0)

-- each unit: its word, the dimension of what is measured in it, and its factor, which is how many base units it is
abbrev pub units : List (List ℕ × Dimension × ℤ)
units =
    (codes "m3", volume, pos 1) ∷
    (codes "dam3", volume, pos 1000) ∷
    (codes "Mm3", volume, pos 1000000) ∷
    (codes "mm", length, pos 1) ∷
    (codes "m", length, pos 1000) ∷
    (codes "step", timestep, pos 1) ∷
    (codes "m3/step", per_of volume timestep, pos 1) ∷
    (codes "dam3/step", per_of volume timestep, pos 1000) ∷
    (codes "mm/step", per_of length timestep, pos 1) ∷
    (codes "m3/mm", per_of volume length, pos 1) ∷
    (codes "kWh", energy, pos 1) ∷
    (codes "", plain_number, pos 1) ∷
    []

-- the words of a table
abbrev pub words_of_units : List (List ℕ × Dimension × ℤ) → List (List ℕ)
words_of_units rows = map (λ row. row.0) rows

-- the dimension and the factor that stand beside the word in a table
abbrev pub unit_in : List (List ℕ × Dimension × ℤ) → List ℕ → Option (Dimension × ℤ)
unit_in [] word = None
unit_in (row ∷ rows) word = if bytes_eq row.0 word then Some (row.1, row.2) else unit_in rows word
