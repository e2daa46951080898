-- The place of a path among files, as a search from the front finds it.
use Rattle.rw_base.proofs.Common.{◌≡◌, ℕ, ◌+◌, ◌<◌, List, [], ◌++◌, None, Some, length, drop, get_or, refl, String, Vec, Option, slice_get, ForSome}
use Rattle.rw_base.proofs.Common.{slice_get_read, Consumes, IsAtEnd, Global}
use Rattle.rw_io.specs.Files.{Files, left_at}

-- what a read takes from the started file, and that it takes nothing only at the end
pub left_at-read : (files : Files) (started : Option (String Global)) (place at n room : ℕ) (taken : List ℕ) (file : String Global × Vec ℕ Global)
    → ForSome started (λ path. place < length files) → file ≡ get_or files place file
    → drop at file.1.items ≡ taken ++ drop (at + n) file.1.items
    → (n ≡ 0 → 0 < room → drop (at + n) file.1.items ≡ [])
    → Consumes (left_at files started place at) (left_at files started place (at + n)) taken
    × (n ≡ 0 → 0 < room → IsAtEnd (left_at files started place (at + n)))
left_at-read files None place at n room taken file inside is parts end = (tt, λ _ _. tt)
left_at-read files (Some path) place at n room taken file inside is parts end =
    let held : slice_get files place ≡ Some file = slice_get_read files (length files) place file refl (inside path refl) is in
    rw held (parts, end)
