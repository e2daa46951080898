-- What a value has to be.
use Rattle.std.specs.Prelude.{ℕ, ℤ, List, Bool, ◌||◌, if◌then◌else◌, int_lt, pos, unsigned_abs, Option, Some, Result, Ok, Err}
use Rattle.toml.specs.Data.{Data, string, integer, boolean, array, table, Items, Members}
use Rattle.rw_model_toml.specs.Refusal.{ModelRefusal, ◌>>=◌, wrong_kind, out_of_range}

-- the value at the path is an integer, a text, a truth value, an array, a table
abbrev pub integer_of : List ℕ → Data → Result ℤ ModelRefusal
integer_of path (integer z) = Ok z
integer_of path _ = Err (wrong_kind path)

abbrev pub text_of : List ℕ → Data → Result (List ℕ) ModelRefusal
text_of path (string text) = Ok text
text_of path _ = Err (wrong_kind path)

abbrev pub truth_of : List ℕ → Data → Result Bool ModelRefusal
truth_of path (boolean b) = Ok b
truth_of path _ = Err (wrong_kind path)

abbrev pub items_of : List ℕ → Data → Result Items ModelRefusal
items_of path (array items) = Ok items
items_of path _ = Err (wrong_kind path)

abbrev pub members_of : List ℕ → Data → Result Members ModelRefusal
members_of path (table members) = Ok members
members_of path _ = Err (wrong_kind path)

-- a whole number from low to high
abbrev pub within_or_refused : ℤ → ℤ → List ℕ → ℤ → Result ℤ ModelRefusal
within_or_refused low high path z = if int_lt z low || int_lt high z then Err (out_of_range path) else Ok z

abbrev pub number_read : ℤ → ℤ → List ℕ → Data → Result ℤ ModelRefusal
number_read low high path value = integer_of path value >>= within_or_refused low high path

-- a whole number from low to high, neither below 0
abbrev pub count_read : ℕ → ℕ → List ℕ → Data → Result ℕ ModelRefusal
count_read low high path value = number_read (pos low) (pos high) path value >>= λ z. Ok (unsigned_abs z)

-- the same, of a key that may be left out
abbrev pub given_number : ℤ → ℤ → List ℕ → Data → Result (Option ℤ) ModelRefusal
given_number low high path value = number_read low high path value >>= λ z. Ok (Some z)
