-- In what a firing depends on the cells: in what it looks at.
use Rattle.std.specs.Prelude.{◌≡◌, List, [], ◌∷◌}
use Rattle.rw_base.specs.declared.number.Cell.{Cell}

-- each of these cells is alike in both
abbrev pub AgreeAt : {A : Type 0} → (Cell → A) → (Cell → A) → List Cell → Type 0
AgreeAt one other [] = Unit {0}
AgreeAt one other (cell ∷ cells) = (one cell ≡ other cell) × AgreeAt one other cells
