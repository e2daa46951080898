-- The text of a start, as `2020-01-31T06:00`.
use Rattle.std.specs.Prelude.{ℕ, ◌+◌, ◌-◌, ◌*◌, pos, List, [], ◌∷◌, Bool, true, false, ◌==◌, ◌&&◌, ◌||◌, if◌then◌else◌, Option, Some, None, slice_index, codes}
use Rattle.rw_calendar.specs.declared.start.Start.{Start}
use Rattle.rw_base.specs.Byte.{is_digit}

-- one of the letters Y, M, D and H, for which digits stand
abbrev pub is_open : ℕ → Bool
is_open b = (b == 89) || (b == 77) || (b == 68) || (b == 72)

-- a digit where the form is open, and otherwise the form's own byte
abbrev pub fits_byte : ℕ → ℕ → Bool
fits_byte form b = if is_open form then is_digit b else b == form

abbrev pub fits_forms : List ℕ → List ℕ → Bool
fits_forms [] [] = true
fits_forms [] (b ∷ text) = false
fits_forms (form ∷ forms) [] = false
fits_forms (form ∷ forms) (b ∷ text) = fits_byte form b && fits_forms forms text

-- the number in two digits from this place on
abbrev pub two_digits : List ℕ → ℕ → ℕ
two_digits text place = (slice_index text place - 48) * 10 + (slice_index text (place + 1) - 48)

-- the start that the text names, if it has the form
abbrev pub start_in : List ℕ → Option Start
start_in text =
    if fits_forms (codes "YYYY-MM-DDTHH:00") text
    then Some (record {
      year = pos (two_digits text 0 * 100 + two_digits text 2);
      month = pos (two_digits text 5);
      day = pos (two_digits text 8);
      hour = pos (two_digits text 11);
    })
    else None
