-- The order of the methods in a catalogue.
use Rattle.std.specs.Prelude.{ℕ, ◌+◌, ◌==◌, ◌≡◌, if◌then◌else◌, List, [], ◌∷◌, Option, None, Some}

-- the first place, counted on from this one, that has another code than its own number
abbrev pub first_wrong : ℕ → List ℕ → Option ℕ
first_wrong place [] = None
first_wrong place (code ∷ codes) = if code == place then first_wrong (place + 1) codes else Some place

-- each place, counted from 1, has its own number as its code
abbrev pub AreInOrder : List ℕ → Type 0
AreInOrder codes = first_wrong 1 codes ≡ None
