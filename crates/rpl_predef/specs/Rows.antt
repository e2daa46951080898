-- Which functions are rows of the table of predefined functions, and where they stand.
use Rattle.std.specs.Prelude.{◌≡◌, ℕ, ◌+◌, ◌≤◌, ℤ, ◌==◌, if◌then◌else◌, List, [], ◌∷◌, Option, Some, None}
use Rattle.rw_base.specs.Quantity.{IsQuantity}
use Rattle.rw_base.specs.Predefined.{predefined_of}

-- the table's rows, by number
abbrev pub IsRow : ℕ → Type 0
IsRow k = (1 ≤ k) × (k ≤ 7)

-- whatever is answered on quantities is what row k of the table says
abbrev pub ComputesRow : ℕ → (ℤ → ℤ → ℤ → ℤ → Type 0) → Type 0
ComputesRow k IsAnswer = (a b c r : ℤ) → IsQuantity a → IsQuantity b → IsQuantity c → IsAnswer a b c r → r ≡ predefined_of k a b c

-- the first place, counted from n, that has not its own number
abbrev pub first_wrong_row : ℕ → List ℕ → Option ℕ
first_wrong_row n [] = None
first_wrong_row n (k ∷ ks) = if k == n then first_wrong_row (n + 1) ks else Some n

-- each place, counted from 1, has its own number
abbrev pub AreRowsInOrder : List ℕ → Type 0
AreRowsInOrder ks = first_wrong_row 1 ks ≡ None
