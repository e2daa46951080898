-- A model in format 2.
use Rattle.rw_commands.proofs.Common.{FilesRead, IsSomeAnd, List, Some, refl, subst, sym, [], ℕ, ◌∷◌, ◌≡◌}
use Rattle.rw_model_toml.specs.Migrated.{IsMigrated}
use Rattle.rw_commands.specs.Written.{IsOne}
use Rattle.rw_words.specs.declared.job.Job.TheVariants.{Migrate}
use Rattle.rw_commands.specs.declared.extras.Extras.{Extras}

pub one_migrated : (extras : Extras) (files : FilesRead) (old new : List ℕ) → files.text ≡ Some old → IsMigrated old new
    → IsOne Migrate extras files 0 new
one_migrated extras files old new there is =
    let its : IsSomeAnd files.text (λ old. (text : List ℕ) × ((new ∷ []) ≡ text ∷ []) × IsMigrated old text) =
    subst (λ o. IsSomeAnd o (λ old. (text : List ℕ) × ((new ∷ []) ≡ text ∷ []) × IsMigrated old text)) (sym there) (new, refl, is) in
    ((refl, its), its)
