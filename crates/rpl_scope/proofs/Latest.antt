-- Of the entries that pass a test, the last of a list is the first of the list in reverse.
use Rattle.rw_base.proofs.Common.{◌≡◌, Bool, List, [], ◌∷◌, ◌++◌, reverse, refl, sym, ap, ◌∙◌, if◌then◌else◌, reverse-append}

module _ {A B : Type 0} (passes : A → Bool) (value : A → B) where
  abbrev pub first_of_all : B → List A → B
  first_of_all otherwise [] = otherwise
  first_of_all otherwise (entry ∷ entries) = if passes entry then value entry else first_of_all otherwise entries

  abbrev pub last_of_all : B → List A → B
  last_of_all otherwise [] = otherwise
  last_of_all otherwise (entry ∷ entries) = last_of_all (if passes entry then value entry else otherwise) entries

  one_behind : (otherwise : B) (entries : List A) (entry : A)
      → first_of_all (if passes entry then value entry else otherwise) entries ≡ first_of_all otherwise (entries ++ entry ∷ [])
  one_behind otherwise [] entry = refl
  one_behind otherwise (first ∷ others) entry = ap (λ found. if passes first then value first else found) (one_behind otherwise others entry)

  pub last_is_first : (otherwise : B) (entries : List A) → last_of_all otherwise entries ≡ first_of_all otherwise (reverse entries)
  last_is_first otherwise [] = refl
  last_is_first otherwise (entry ∷ entries) =
      last_is_first (if passes entry then value entry else otherwise) entries ∙ one_behind otherwise (reverse entries) entry
      ∙ ap (first_of_all otherwise) (sym (reverse-append (entry ∷ []) entries))
