-- What is found by name in a basin has a name that code can spell.
use Rattle.rpl_compile.proofs.Common.{Draft, IsBasin, IsSome, List, None, Object, Option, Some, object_at, object_named, option_and_then}
use Rattle.rpl_compile.proofs.Common.{refl, table_in, table_named, true, ℕ, ◌≡◌}
use Rattle.rw_model.specs.Name.{is_plain}
use Rattle.rw_model.proofs.Plain.{object_is_plain}

-- a name as code spells it
abbrev pub CanBeSpelt : List ℕ → Type 0
CanBeSpelt name = is_plain name ≡ true

module _ (basin : Draft) (valid : IsBasin basin) where
  -- of a table
  pub table_object : (object : List ℕ) → IsSome (table_named basin object) → IsSome (object_named basin.objects object)
  table_object object has = by (object_named basin.objects object) has
    where
      by : (found : Option ℕ)
          → IsSome (option_and_then (λ (object : Object). table_in object.kind) (option_and_then (λ number. object_at basin.objects number) found))
          → IsSome found
      by None has = absurd (cc has)
      by (Some owner) has = refl

  -- of a reservoir with a table
  pub table_found : (object : List ℕ) → IsSome (table_named basin object) → CanBeSpelt object
  table_found object has = object_is_plain basin valid object (table_object object has)
