-- That a map keeps the innermost place of each name, as names come and go.
use Rattle.rw_base.proofs.Common.{◌≡◌, ℕ, ◌<◌, Bool, true, false, List, [], ◌∷◌, ◌++◌, reverse, length, Option, None, Some, bytes_eq, refl, sym, ap}
use Rattle.rw_base.proofs.Common.{◌∙◌, arith, get_or, if◌then◌else◌, Bor, BTreeMap, slice_cmp, nat_cmp, get_or_append_left, length-reverse}
use Rattle.rw_base.proofs.Common.{reverse-append, get_or-append_seam, bytes_eq-Decides, btree_map_updates_str}
use Rattle.std.specs.BTreeMap as tree
use Rattle.rpl_scope.specs.declared.scope.Entry.{Entry}
use Rattle.rpl_scope.specs.Scope.{IsKept, entries_of, first_named, outer_entries, place_in, place_named}

abbrev pub Places : Type 0
Places = BTreeMap (Bor (List ℕ)) ℕ

-- one name has another place, or none
abbrev pub Changes : Places → Places → List ℕ → Option ℕ → Type 0
Changes old new name place =
    tree.UpdatesBy (λ (x y : Bor (List ℕ)). slice_cmp nat_cmp x.now y.now) (λ (k : Bor (List ℕ)). slice_cmp nat_cmp name k.now) old new place

changed : (old new : Places) (name : List ℕ) (place : Option ℕ) → Changes old new name place
    → (x : List ℕ) → place_in new x ≡ if bytes_eq name x then place else place_in old x
changed old new name place h x = btree_map_updates_str name old new place h x

-- of a list that stands in the other order
pub last_first : {A : Type 0} (xs ys : List A) (a : A) → xs ≡ ys ++ a ∷ [] → reverse xs ≡ a ∷ reverse ys
last_first xs ys a e = ap reverse e ∙ reverse-append ys (a ∷ [])

module _ {T : Type 0} where
  pub kept_push : (es : List (Entry T)) (old new : Places) (e : Entry T) (place : ℕ) → IsKept es old → e.outer ≡ place_in old e.name.now
      → place ≡ length es → Changes old new e.name.now (Some place) → IsKept (e ∷ es) new
  kept_push es old new e place kept outer last h = record {
    found = λ x. changed old new e.name.now (Some place) h x
        ∙ ap (λ found. if bytes_eq e.name.now x then Some place else found) (kept.found x)
        ∙ ap (λ p. if bytes_eq e.name.now x then Some p else place_named es x) last;
    outer = (outer ∙ kept.found e.name.now, kept.outer);
  }

  -- where the innermost entry goes away, its name is where the next outer one is
  same_place : (t : Bool) (e : Entry T) (x : List ℕ) (es : List (Entry T)) (found : Option ℕ) → bytes_eq e.name.now x ≡ t
      → e.outer ≡ place_named es e.name.now → found ≡ place_named (e ∷ es) x
      → (if bytes_eq e.name.now x then e.outer else found) ≡ place_named es x
  same_place true e x es found same p f = rw same (p ∙ ap (place_named es) ((bytes_eq-Decides e.name.now x).0 same))
  same_place false e x es found same p f = rw same (rw same at f)

  pub kept_pop : (es : List (Entry T)) (old new : Places) (e : Entry T) → IsKept (e ∷ es) old → Changes old new e.name.now e.outer → IsKept es new
  kept_pop es old new e kept h = record {
    found = λ x. changed old new e.name.now e.outer h x
        ∙ same_place (bytes_eq e.name.now x) e x es (place_in old x) refl kept.outer.0 (kept.found x);
    outer = kept.outer.1;
  }

  -- the name of an entry is in the map
  pub never_absent : (es : List (Entry T)) (old : Places) (e : Entry T) → IsKept (e ∷ es) old → place_in old e.name.now ≡ None → ⊥
  never_absent es old e kept none =
      let same : bytes_eq e.name.now e.name.now ≡ true = (bytes_eq-Decides e.name.now e.name.now).1 refl in
      let there : place_in old e.name.now ≡ Some (length es) = kept.found e.name.now ∙ rw same refl in
      grind (arith, none, there)

  -- ---- what is found

  at_none : (t : Bool) (e : Entry T) (x : List ℕ) (es : List (Entry T)) → bytes_eq e.name.now x ≡ t → place_named (e ∷ es) x ≡ None
      → (place_named es x ≡ None → first_named (entries_of es) x ≡ None) → first_named (entries_of (e ∷ es)) x ≡ None
  at_none true e x es same none rest = let there : Some (length es) ≡ None = rw same at none in absurd (grind (arith, there))
  at_none false e x es same none rest = rw same (rest (rw same at none))

  pub none_found : (es : List (Entry T)) (x : List ℕ) → place_named es x ≡ None → first_named (entries_of es) x ≡ None
  none_found [] x none = refl
  none_found (e ∷ es) x none = at_none (bytes_eq e.name.now x) e x es refl none (none_found es x)

  -- at a place that is found there is an entry, which has what the name stands for
  pub record IsFound (es : List (Entry T)) (x : List ℕ) (place : ℕ) : Type 0 where
    pub within : place < length es
    pub means : (d : Entry T) → first_named (entries_of es) x ≡ Some (get_or (reverse es) place d).means

  at_some : (t : Bool) (e : Entry T) (x : List ℕ) (es : List (Entry T)) (place : ℕ) → bytes_eq e.name.now x ≡ t
      → place_named (e ∷ es) x ≡ Some place → (place_named es x ≡ Some place → IsFound es x place) → IsFound (e ∷ es) x place
  at_some true e x es place same here rest =
      let there : Some (length es) ≡ Some place = rw same at here in
      let is : place ≡ length (reverse es) = grind (arith, there, length-reverse es) in record {
        within = omega (arith, is, length-reverse es);
        means = λ d. rw (same, reverse-append (e ∷ []) es, is) (ap (λ (f : Entry T). Some f.means) (sym (get_or-append_seam (reverse es) e [] d)));
      }
  at_some false e x es place same here rest =
      let found = rest (rw same at here) in
      let within : place < length (reverse es) = omega (arith, found.within, length-reverse es) in record {
        within = omega (arith, found.within);
        means = λ d.
            let behind : get_or (reverse (e ∷ es)) place d ≡ get_or (reverse es) place d =
            ap (λ xs. get_or xs place d) (reverse-append (e ∷ []) es) ∙ get_or_append_left (reverse es) (e ∷ []) d place within in
            rw same (found.means d ∙ ap (λ (f : Entry T). Some f.means) (sym behind));
      }

  pub some_found : (es : List (Entry T)) (x : List ℕ) (place : ℕ) → place_named es x ≡ Some place → IsFound es x place
  some_found [] x place here = absurd (grind (arith, here))
  some_found (e ∷ es) x place here = at_some (bytes_eq e.name.now x) e x es place refl here (some_found es x place)

  -- ---- nothing is left

  pub none_left : (xs ys : List (Entry T)) → length xs ≡ 0 → length ys ≡ 0 → entries_of (reverse ys) ≡ outer_entries (entries_of (reverse xs))
  none_left [] [] e f = refl
  none_left [] (y ∷ ys) e f = absurd (omega (arith, f))
  none_left (x ∷ xs) ys e f = absurd (omega (arith, e))
