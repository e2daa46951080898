-- Names that stand for something. The innermost is the first of a list.
use Rattle.std.specs.Prelude.{◌≡◌, ℕ, List, [], ◌∷◌, map, length, Option, None, Some, bytes_eq, if◌then◌else◌}
use Rattle.std.specs.Borrow.{Bor}
use Rattle.std.specs.BTreeMap.{BTreeMap, get_by}
use Rattle.std.specs.Cmp.Lexicographic.{slice_cmp}
use Rattle.std.specs.Ordering.{nat_cmp}
use Rattle.rpl_scope.specs.declared.scope.Entry.{Entry}

-- what a map has at a name
abbrev pub place_in : BTreeMap (Bor (List ℕ)) ℕ → List ℕ → Option ℕ
place_in places x = get_by (λ (key : Bor (List ℕ)). slice_cmp nat_cmp x key.now) places

module _ {T : Type 0} where
  -- what the innermost of a name stands for
  abbrev pub first_named : List (List ℕ × T) → List ℕ → Option T
  first_named [] x = None
  first_named (entry ∷ entries) x = if bytes_eq entry.0 x then Some entry.1 else first_named entries x

  -- all but the innermost
  abbrev pub outer_entries : List (List ℕ × T) → List (List ℕ × T)
  outer_entries [] = []
  outer_entries (entry ∷ entries) = entries

  abbrev pub entries_of : List (Entry T) → List (List ℕ × T)
  entries_of entries = map (λ (e : Entry T). (e.name.now, e.means)) entries

  -- ---- places: that of the outermost is 0

  abbrev pub place_named : List (Entry T) → List ℕ → Option ℕ
  place_named [] x = None
  place_named (e ∷ entries) x = if bytes_eq e.name.now x then Some (length entries) else place_named entries x

  -- each entry knows where the next outer one of its name is
  abbrev pub KnowOuter : List (Entry T) → Type 0
  KnowOuter [] = Unit {0}
  KnowOuter (e ∷ entries) = (e.outer ≡ place_named entries e.name.now) × KnowOuter entries

  -- entries, innermost first, and a map that has the innermost of each name
  pub record IsKept (entries : List (Entry T)) (places : BTreeMap (Bor (List ℕ)) ℕ) : Type 0 where
    pub found : (x : List ℕ) → place_in places x ≡ place_named entries x
    pub outer : KnowOuter entries
