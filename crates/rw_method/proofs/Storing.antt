-- A kind whose contents are given by its storage or by its elevation: what a dispatch puts in these two slots, and what they hold then.
use Rattle.rw_method.proofs.Common.{All, AllByRecursion, AllFit, Balanced, Basis, Bool, Conflict, Conflicts, Contains, Content, Decides-int_eq}
use Rattle.rw_method.proofs.Common.{Elevation, Given, Holds, Idle, IsShare, Kind, List, None, Nothing, Option, OutOfRange, Put, Row, Solved, Solves}
use Rattle.rw_method.proofs.Common.{Some, Storage, Term, View, [], agree, and_parts, ap, ap₂, are_both_zero, arith, balanced_of, basis_of}
use Rattle.rw_method.proofs.Common.{beside_basis, beside_given, can_hold, contents_by, disagreement, elev_of, elevation_of, false, fault_of_basis}
use Rattle.rw_method.proofs.Common.{fault_of_level, fault_of_past, fits, given, held_by, if◌then◌else◌, inl, inr, is_held, is_some, is_this, known}
use Rattle.rw_method.proofs.Common.{known_after, known_value, level_puts, map, nat_le, nat_tests, none-some, not, option_map, or_else, pos, put}
use Rattle.rw_method.proofs.Common.{put_found, refl, same_Some, subst, sym, true, unwrap_or, vol_of, volume_of, ℕ, ℤ, ◌&&◌, ◌<◌, ◌==◌, ◌||◌, ◌∙◌, ◌∷◌}
use Rattle.rw_method.proofs.Common.{◌≡◌, ◌≢◌, ◌≤◌, ◌⊎◌}
use Rattle.rw_method.specs.Left.{IsGivenUpTo, is_own, rest, rests_of}
use Rattle.rw_method.specs.Passing.{IsAfterOwn}
use Rattle.rw_method.proofs.Answering.{Answered}
use Rattle.rw_method.proofs.Leaving.{IsBase, LeftBy, PutIs, Solving, holds_given, place_in, rests}
use Rattle.rw_method.proofs.Among.{Among, all_at, among, contains}
use Rattle.rw_method.proofs.Netting.{put_value}
use Rattle.rw_method.proofs.PutFacts.{first_fits}
use Rattle.rw_method.proofs.PlainKinds.{of_solving, solved_at, solving_facts}
use Rattle.rw_method.proofs.BalanceFacts.{balanced_code}
use Rattle.rw_method.proofs.Terms.{Sort, among_terms, given_as, given_number, given_of, given_other, same_given, shape_of, stored, term_in}
use Rattle.rw_method.proofs.Terms.{to_contents}
use Rattle.rw_base.proofs.Lists.{some_there}

-- ---- the basis

record ByStorage (table : Option (List Row)) (storage elevation : Option Given) (held : Given) : Type 0 where
  is : storage ≡ Some held
  basis : basis_of storage elevation ≡ Storage held

record ByElevation (table : Option (List Row)) (storage elevation : Option Given) (held : Given) : Type 0 where
  from : Given
  is : elevation ≡ Some from
  number : held.number ≡ from.number
  basis : basis_of storage elevation ≡ Elevation from
  lesser : (other : Given) → storage ≡ Some other → from.number < other.number

basis_cases : (table : Option (List Row)) (storage elevation : Option Given) (held : Given)
    → contents_by table (basis_of storage elevation) ≡ Some held
    → ByStorage table storage elevation held ⊎ ByElevation table storage elevation held
basis_cases table None None held is = absurd (none-some held is)
basis_cases table (Some s) None held is = inl (record { is = is; basis = ap Storage (same_Some _ _ is) })
basis_cases table None (Some e) held is =
    inr (record {
      from = e;
      is = refl;
      number = ap (λ (g : Given). g.number) (sym (same_Some _ _ is));
      basis = refl;
      lesser = λ other is. absurd (none-some other is);
    })
basis_cases table (Some s) (Some e) held is = by (nat_le s.number e.number) refl is
  where
    by : (test : Bool) → nat_le s.number e.number ≡ test → contents_by table (if test then Storage s else Elevation e) ≡ Some held
        → ByStorage table (Some s) (Some e) held ⊎ ByElevation table (Some s) (Some e) held
    by true less found =
        let same : s ≡ held = same_Some _ _ found in
        inl (record { is = found; basis = ap (λ test. if test then Storage s else Elevation e) less ∙ ap Storage same })
    by false more found = inr (record {
      from = e;
      is = refl;
      number = ap (λ (g : Given). g.number) (sym (same_Some _ _ found));
      basis = ap (λ test. if test then Storage s else Elevation e) more;
      lesser = λ other is. let same : s.number ≡ other.number =
          ap (λ (g : Given). g.number) (same_Some _ _ is) in grind (arith, nat_tests, more, same);
    })

-- the basis is the storage or the elevation that is given
abbrev IsFrom : Option Given → Option Given → Basis → Type 0
IsFrom storage elevation Nothing = Unit {0}
IsFrom storage elevation (Storage held) = storage ≡ Some held
IsFrom storage elevation (Elevation held) = elevation ≡ Some held

basis_from : (storage elevation : Option Given) → IsFrom storage elevation (basis_of storage elevation)
basis_from None None = tt
basis_from (Some s) None = refl
basis_from None (Some e) = refl
basis_from (Some s) (Some e) = by (nat_le s.number e.number)
  where
    by : (test : Bool) → IsFrom (Some s) (Some e) (if test then Storage s else Elevation e)
    by true = refl
    by false = refl

pub none_first : (a b : Option Solved) → or_else a b ≡ None → (a ≡ None) × (b ≡ None)
none_first None b e = (refl, e)
none_first (Some found) b e = absurd (none-some found (sym e))

fit_at : (fit : Put → Bool) (xs : List Put) (put : Put) → AllFit fit xs → Among xs put → fit put ≡ true
fit_at fit [] put all has = absurd has
fit_at fit (x ∷ xs) put all (inl same) = subst (λ p. fit p ≡ true) same (first_fits fit x xs all).0
fit_at fit (x ∷ xs) put all (inr later) = fit_at fit xs put (first_fits fit x xs all).1 later

pub elevation_there : (table : Option (List Row)) (rows : List Row) → table ≡ Some rows → (value : ℤ) → can_hold table value ≡ true
    → (read : ℤ) × (elevation_of table value ≡ Some read)
elevation_there table rows at value holds = by (elevation_of table value) refl
  where
    by : (found : Option ℤ) → elevation_of table value ≡ found → (read : ℤ) × (elevation_of table value ≡ Some read)
    by (Some read) e = (read, e)
    by None e =
        let has : is_some (elevation_of table value) ≡ true =
        ap (λ z. is_some (elevation_of z value)) at ∙ sym (ap (λ z. can_hold z value) at) ∙ holds in
        absurd (let no : false ≡ true = sym (ap is_some e) ∙ has in cc)

-- what is known of the storage before where nothing is wrong with it
pub past_held : (table : Option (List Row)) (rows : List Row) (past : Option ℤ) → table ≡ Some rows → fault_of_past true table past ≡ None
    → (value : ℤ) → past ≡ Some value
    → (e : ℤ) × (elev_of rows value ≡ Some e)
past_held table rows past at fine value is =
    let read = elevation_there table rows at value (by (can_hold table value) refl) in (read.0, sym (ap (λ z. elevation_of z value) at) ∙ read.1)
  where
    by : (test : Bool) → can_hold table value ≡ test → can_hold table value ≡ true
    by true e = e
    by false e = absurd (none-some (OutOfRange 2 value)
        (sym fine ∙ ap (fault_of_past true table) is ∙ ap (λ (holds : Bool). if not holds then Some (OutOfRange 2 value) else None) e))

-- what is to be known of the puts of a kind that stores
pub record IsStoring (kind : Kind) (table : Option (List Row)) (view : View) (puts : List Put) : Type 0 where
  pub shares : All (λ (term : Term). IsShare term.share) (map (term_in view) (shape_of kind))
  pub has : Among (shape_of kind) (stored table)
  pub low : AllByRecursion (λ (s : Sort). s.place ≤ 2) (shape_of kind)
  pub fine : fault_of_level table view ≡ None
  pub holds : (value : ℤ) (number : ℕ) → is_held kind (put 2 value number) ≡ true → can_hold table value ≡ true
  pub pairs : (rows : List Row) → table ≡ Some rows → Contains (rests_of kind) (rest 2 3) × Contains (rests_of kind) (rest 3 2)
  pub solved : (solving : Solving kind view) → Among puts (of_solving kind view solving)
  pub level : (put : Put) → Among (level_puts table (given view 2) (given view 3) (balanced_of kind view)) put → Among puts put
  pub others : (put : Put) → Among puts put
      → (balanced_of kind view ≡ Solves put.place put.value put.number)
      ⊎ (Among (level_puts table (given view 2) (given view 3) (balanced_of kind view)) put ⊎ ((put.place ≢ 2) × (put.place ≢ 3)))

module _ (kind : Kind) (table : Option (List Row)) (view : View) (puts : List Put) (is : Answered kind view puts)
    (storing : IsStoring kind table view puts) where
  abbrev storage : Option Given
  storage = given view 2

  abbrev elevation : Option Given
  elevation = given view 3

  abbrev pub NoneStores : Type 0
  NoneStores = (solving : Solving kind view) → 2 ≢ solving.place

  pub low_place : (solving : Solving kind view) → solving.place ≤ 2
  low_place solving =
      let at = solved_at kind view puts storing.shares is solving in
      let there = at.there in
      let low = all_at (λ (s : Sort). s.place ≤ 2) (shape_of kind) at.at storing.low at.has in omega (arith, low, there)

  -- a put of storage or elevation beside what was solved
  pub record IsLevelPut (put : Put) : Type 0 where
    pub is_put : PutIs kind view puts put
    pub high : 2 ≤ put.place
    pub few : put.place ≤ 3
    by_storage : (held : Given) → basis_of storage elevation ≡ Storage held → NoneStores → put.place ≢ 2
    by_elevation : (from : Given) → basis_of storage elevation ≡ Elevation from → NoneStores → put.place ≢ 3
    by_zeros : are_both_zero storage elevation ≡ true → NoneStores → put.place ≢ 3

  abbrev basis_code : Basis → ℕ
  basis_code Nothing = 0
  basis_code (Storage held) = 1
  basis_code (Elevation held) = 2

  -- where another term is solved, or none, a slot holds what it held
  pub not_solved : (balanced : Balanced) → balanced_of kind view ≡ balanced → (place : ℕ) → ((solving : Solving kind view) → solving.place ≢ place)
      → known_after view balanced place ≡ held_by (known view place)
  not_solved (Solves at value number) e place none = by (at == place) refl
    where
      by : (test : Bool) → (at == place) ≡ test
          → (if test then record { value = value; number = number } else held_by (known view place)) ≡ held_by (known view place)
      by true same = absurd (none (record { place = at; value = value; number = number; is = e }) (grind (arith, nat_tests, same)))
      by false apart = refl
  not_solved balanced e place none = refl

  held_number : (place : ℕ) (held : Given) → given view place ≡ Some held
      → (content : Content) × ((known view place ≡ Some content) × ((held_by (known view place)).number ≡ held.number))
  held_number place held given_is =
      let seen = given_as view place held given_is in
      (seen.content, (seen.there, ap (λ h. (held_by h).number) seen.there ∙ seen.number))

  rows_of : (found : Option (List Row)) → table ≡ found → (value read : ℤ)
      → (elevation_of found value ≡ Some read) ⊎ (volume_of found value ≡ Some read) → (rows : List Row) × (table ≡ Some rows)
  rows_of None at value read e = absurd (elim e [ inl found ↦ none-some read found | inr found ↦ none-some read found ])
  rows_of (Some rows) at value read e = (rows, at)

  found_all : (P : Put → Type 0) (place : ℕ) (found : Option ℤ) (number : ℕ)
      → ((read : ℤ) → found ≡ Some read → P (record { place = place; value = read; number = number }))
      → AllByRecursion P (put_found place found number)
  found_all P place None number f = tt
  found_all P place (Some read) number f = (f read refl, tt)

  elevation_good : (read : ℤ) (number : ℕ) → (rows : List Row) × (table ≡ Some rows) → number ≡ (known_after view (balanced_of kind view) 2).number
      → IsBase view (balanced_of kind view) 2
      → ((from : Given) → basis_of storage elevation ≡ Elevation from → NoneStores → ⊥) → (are_both_zero storage elevation ≡ true → NoneStores → ⊥)
      → IsLevelPut (record { place = 3; value = read; number = number })
  elevation_good read number rows is_number base never never_zeros = record {
    is_put = rests (record { on = 2; has = (storing.pairs rows.0 rows.1).1; number = is_number; base = base });
    high = omega arith;
    few = omega arith;
    by_storage = λ held basis none same. omega (arith, same);
    by_elevation = λ from basis none same. never from basis none;
    by_zeros = λ zeros none same. never_zeros zeros none;
  }

  volume_good : (read : ℤ) (number : ℕ) → (rows : List Row) × (table ≡ Some rows) → number ≡ (known_after view (balanced_of kind view) 3).number
      → IsBase view (balanced_of kind view) 3
      → ((held : Given) → basis_of storage elevation ≡ Storage held → ⊥) → IsLevelPut (record { place = 2; value = read; number = number })
  volume_good read number rows is_number base never = record {
    is_put = rests (record { on = 3; has = (storing.pairs rows.0 rows.1).0; number = is_number; base = base });
    high = omega arith;
    few = omega arith;
    by_storage = λ held basis none same. never held basis;
    by_elevation = λ from basis none same. omega (arith, same);
    by_zeros = λ zeros none same. omega (arith, same);
  }

  none_at_three : (solving : Solving kind view) → solving.place ≢ 3
  none_at_three solving same = let few = low_place solving in omega (arith, few, same)

  basis_good : (none : (solving : Solving kind view) → solving.place ≢ 2) → (are_both_zero storage elevation ≡ true → ⊥) → (basis : Basis)
      → basis_of storage elevation ≡ basis → IsFrom storage elevation basis
      → AllByRecursion IsLevelPut (beside_basis table basis)
  basis_good none differ Nothing at is_from = tt
  basis_good none differ (Storage held) at is_from = found_all IsLevelPut 3 (elevation_of table held.value) held.number (λ read e.
      let h = held_number 2 held is_from in
      elevation_good read held.number (rows_of table refl held.value read (inl e))
      (sym h.1.1 ∙ sym (ap (λ (g : Given). g.number) (not_solved (balanced_of kind view) refl 2 none))) (inl (h.0, h.1.0))
      (λ from other stores. let no : 1 ≡ 2 = sym (ap basis_code at) ∙ ap basis_code other in omega (arith, no)) (λ zeros stores. differ zeros))
  basis_good none differ (Elevation from) at is_from = found_all IsLevelPut 2 (volume_of table from.value) from.number (λ read e.
      let h = held_number 3 from is_from in
      volume_good read from.number (rows_of table refl from.value read (inr e))
      (sym h.1.1 ∙ sym (ap (λ (g : Given). g.number) (not_solved (balanced_of kind view) refl 3 none_at_three))) (inl (h.0, h.1.0))
      (λ held other. let no : 2 ≡ 1 = sym (ap basis_code at) ∙ ap basis_code other in omega (arith, no)))

  given_good : (none : (solving : Solving kind view) → solving.place ≢ 2) → (test : Bool) → are_both_zero storage elevation ≡ test
      → AllByRecursion IsLevelPut (if test then [] else beside_basis table (basis_of storage elevation))
  given_good none true zeros = tt
  given_good none false zeros =
      basis_good none (λ both. let differ : true ≡ false = sym both ∙ zeros in cc) (basis_of storage elevation) refl (basis_from storage elevation)

  level_is_good : (balanced : Balanced) → balanced_of kind view ≡ balanced → AllByRecursion IsLevelPut (level_puts table storage elevation balanced)
  level_is_good Idle e =
      given_good (λ solving same. let no : 0 ≡ 2 = ap balanced_code (sym e ∙ solving.is) in omega (arith, no)) (are_both_zero storage elevation) refl
  level_is_good Holds e =
      given_good (λ solving same. let no : 1 ≡ 2 = ap balanced_code (sym e ∙ solving.is) in omega (arith, no)) (are_both_zero storage elevation) refl
  level_is_good (Conflicts place held found) e =
      given_good (λ solving same. let no : 3 ≡ 2 = ap balanced_code (sym e ∙ solving.is) in omega (arith, no)) (are_both_zero storage elevation) refl
  level_is_good (Solves place value number) e = by (place == 2) refl
    where
      by : (test : Bool) → (place == 2) ≡ test
          → AllByRecursion IsLevelPut (if test then put_found 3 (elevation_of table value) number else beside_given table storage elevation)
      by false apart =
          given_good (λ solving same. let at : place ≡ solving.place = ap place_in (sym e ∙ solving.is) in
          absurd (grind (arith, nat_tests, apart, at, same))) (are_both_zero storage elevation) refl
      by true same =
          let at : place ≡ 2 = grind (arith, nat_tests, same) in
          let solves_two : balanced_of kind view ≡ Solves 2 value number = e ∙ ap (λ p. Solves p value number) at in
          found_all IsLevelPut 3 (elevation_of table value) number (λ read found.
          elevation_good read number (rows_of table refl value read (inl found)) (sym (ap (λ b. (known_after view b 2).number) solves_two))
          (inr (value, (number, solves_two)))
          (λ from basis none. none (record { place = 2; value = value; number = number; is = solves_two }) refl)
          (λ zeros none. none (record { place = 2; value = value; number = number; is = solves_two }) refl))

  pub level_good : AllByRecursion IsLevelPut (level_puts table storage elevation (balanced_of kind view))
  level_good = level_is_good (balanced_of kind view) refl

  -- of all puts
  not_two : (held : Given) → basis_of storage elevation ≡ Storage held → NoneStores → (put : Put) → Contains puts put → put.place ≢ 2
  not_two held basis none put has = elim (storing.others put (among puts put has)) [
    | inl solves ↦ λ same. none (record { place = put.place; value = put.value; number = put.number; is = solves }) (sym same)
    | inr (inl level) ↦ (all_at IsLevelPut (level_puts table storage elevation (balanced_of kind view)) put level_good level).by_storage
        held basis none
    | inr (inr far) ↦ far.0
  ]

  not_three : ((put : Put) → IsLevelPut put → put.place ≢ 3) → (put : Put) → Contains puts put → put.place ≢ 3
  not_three apart put has = elim (storing.others put (among puts put has)) [
    | inl solves ↦ none_at_three (record { place = put.place; value = put.value; number = put.number; is = solves })
    | inr (inl level) ↦ apart put (all_at IsLevelPut (level_puts table storage elevation (balanced_of kind view)) put level_good level)
    | inr (inr far) ↦ far.1
  ]

  -- nothing is wrong with the contents
  faultless : (fault_of_basis table (basis_of storage elevation) ≡ None) × (disagreement table storage elevation ≡ None)
  faultless = none_first (fault_of_basis table (basis_of storage elevation)) (disagreement table storage elevation) storing.fine

  -- with contents that are solved their elevation is put
  pub solved_level : (solving : Solving kind view) → solving.place ≡ 2 → (rows : List Row) → table ≡ Some rows
      → (read : ℤ) × ((elevation_of table solving.value ≡ Some read) × Among puts (record { place = 3; value = read; number = solving.number }))
  solved_level solving two rows at =
      let held : is_held kind (of_solving kind view solving) ≡ true =
      (and_parts _ _ (fit_at (fits kind view) puts (of_solving kind view solving) is.fit (storing.solved solving))).0 in
      let at_two : (solving.place == 2) ≡ true = grind (arith, nat_tests, two) in
      let holds : can_hold table solving.value ≡ true =
      storing.holds solving.value solving.number
      (subst (λ p. is_held kind (record { place = p; value = solving.value; number = solving.number }) ≡ true) two held) in
      let read = elevation_there table rows at solving.value holds in
      let put : Put = record { place = 3; value = read.0; number = solving.number } in
      let in_level : Among (level_puts table storage elevation (balanced_of kind view)) put =
      subst (λ b. Among (level_puts table storage elevation b) put) (sym solving.is)
      (subst (λ (test : Bool). Among (if test then put_found 3 (elevation_of table solving.value) solving.number else beside_given table storage
      elevation) put) (sym at_two)
      (subst (λ found. Among (put_found 3 found solving.number) put) (sym read.1) (inl refl))) in
      (read.0, (read.1, storing.level put in_level))

  -- ---- contents have no lower a priority than the storage that is held

  no_fault_basis : (from : Given) → basis_of storage elevation ≡ Elevation from → (read : ℤ) × (volume_of table from.value ≡ Some read)
  no_fault_basis from basis = by (volume_of table from.value) refl
    where
      by : (found : Option ℤ) → volume_of table from.value ≡ found → (read : ℤ) × (volume_of table from.value ≡ Some read)
      by (Some read) e = (read, e)
      by None e =
          absurd (none-some (OutOfRange 3 from.value)
          (sym faultless.0 ∙ ap (fault_of_basis table) basis
          ∙ ap (λ (z : Option ℤ). if is_some z then None else Some (OutOfRange 3 from.value)) e))

  pub contents_below : LeftBy kind view → (held : Given) (content : Content) → contents_by table (basis_of storage elevation) ≡ Some held
      → known view 2 ≡ Some content → held.number ≤ content.number
  contents_below left held content given_is there = elim (basis_cases table storage elevation held given_is) [
    | inl by_storage ↦ given_number view 2 held content by_storage.is there
    | inr by_elevation ↦ by by_elevation (is_own view content) refl
  ]
    where
      by : (e : ByElevation table storage elevation held) → (test : Bool) → is_own view content ≡ test → held.number ≤ content.number
      by e true own =
          let rows = rows_of table refl e.from.value (no_fault_basis e.from e.basis).0 (inr (no_fault_basis e.from e.basis).1) in
          let up = left.rests (rest 2 3) content (storing.pairs rows.0 rows.1).0 there own in
          let seen = given_as view 3 e.from e.is in
          let same : seen.content ≡ up.content = same_Some _ _ (sym seen.there ∙ up.is) in
          let n : seen.content.number ≡ up.content.number = ap (λ (c : Content). c.number) same in
          let m = seen.number in let most = up.most in let h = e.number in omega (arith, n, m, most, h)
      by e false other =
          let lesser = e.lesser (given_of content) (given_other view 2 content there other) in
          let h = e.number in omega (arith, lesser, h)

  -- ---- what isn't solved stays given
  -- ---- what isn't solved stays given

  pub contents_stay : (none : NoneStores) (new : View) → IsAfterOwn view new puts → (number : ℕ)
      → IsGivenUpTo number (contents_by table (basis_of storage elevation))
      → IsGivenUpTo number (contents_by table (basis_of (given new 2) (given new 3)))
  contents_stay none new after number up = elim (basis_cases table storage elevation up.held up.is) [
    | inl by_storage ↦ to_contents table (given new 2) (given new 3) number (inl (record {
      held = up.held;
      is = same_given view new 2 after.own (after.rest 2 (not_two up.held by_storage.basis none)) ∙ by_storage.is;
      most = up.most;
    }))
    | inr by_elevation ↦ to_contents table (given new 2) (given new 3) number (inr (record {
      held = by_elevation.from;
      is =
          same_given view new 3 after.own (after.rest 3 (not_three (λ put good. good.by_elevation by_elevation.from by_elevation.basis none)))
          ∙ by_elevation.is;
      most = let most = up.most in let n = by_elevation.number in omega (arith, most, n);
    }))
  ]

  contents_value : (held from : Given) → contents_by table (basis_of storage elevation) ≡ Some held → basis_of storage elevation ≡ Elevation from
      → (found : ℤ) → volume_of table from.value ≡ Some found
      → held.value ≡ found
  contents_value held from given_is basis found found_is =
      ap value_or (sym given_is ∙ ap (contents_by table) basis) ∙ ap (λ v. unwrap_or v (pos 0)) found_is
    where
      value_or : Option Given → ℤ
      value_or None = pos 0
      value_or (Some g) = g.value

  -- ---- what it holds then

  module _ (new : View) (after : IsAfterOwn view new puts) where
    abbrev value_at : ℕ → Option ℤ
    value_at place = known_value new place

    pub put_held : (put : Put) → Among puts put → known_value new put.place ≡ Some put.value
    put_held put has = put_value view new puts after put (contains puts put has)

    -- what was given in a slot that isn't put
    pub given_held : (place : ℕ) (held : Given) → given view place ≡ Some held → ((put : Put) → Contains puts put → put.place ≢ place)
        → known_value new place ≡ Some held.value
    given_held place held given_is none =
        let seen = given_as view place held given_is in
        ap (option_map (λ (content : Content). content.value)) (after.rest place none ∙ seen.there) ∙ ap Some seen.value

    -- beside the basis, where another term than the contents was solved, or none
    beside_there : (none : NoneStores) → are_both_zero storage elevation ≡ false → (put : Put)
        → Among (beside_basis table (basis_of storage elevation)) put → Among puts put
    beside_there none zeros put has = storing.level put (by (balanced_of kind view) refl)
      where
        given_there : Among (beside_given table storage elevation) put
        given_there = subst (λ (test : Bool). Among (if test then [] else beside_basis table (basis_of storage elevation)) put) (sym zeros) has

        by : (balanced : Balanced) → balanced_of kind view ≡ balanced → Among (level_puts table storage elevation balanced) put
        by (Solves place value number) e =
            let apart : 2 ≢ place = none (record { place = place; value = value; number = number; is = e }) in
            let differ : (place == 2) ≡ false = other place apart in
            subst (λ (test : Bool). Among (if test then put_found 3 (elevation_of table value) number else beside_given table storage elevation) put)
            (sym differ) given_there
          where
            other : (place : ℕ) → 2 ≢ place → (place == 2) ≡ false
            other place apart = by_test (place == 2) refl
              where
                by_test : (test : Bool) → (place == 2) ≡ test → (place == 2) ≡ false
                by_test true same = absurd (let at : 2 ≡ place = grind (arith, nat_tests, same) in apart at)
                by_test false differ = differ
        by balanced e = given_there

    -- the contents that are given are the storage that is held then
    pub contents_held : (none : NoneStores) (held : Given) → contents_by table (basis_of storage elevation) ≡ Some held
        → known_value new 2 ≡ Some held.value
    contents_held none held given_is = elim (basis_cases table storage elevation held given_is) [
      | inl by_storage ↦ given_held 2 held by_storage.is (not_two held by_storage.basis none)
      | inr by_elevation ↦
          let found = no_fault_basis by_elevation.from by_elevation.basis in
          let put : Put = record { place = 2; value = found.0; number = by_elevation.from.number } in
          let in_basis : Among (beside_basis table (basis_of storage elevation)) put =
          subst (λ b. Among (beside_basis table b) put) (sym by_elevation.basis)
          (subst (λ v. Among (put_found 2 v by_elevation.from.number) put) (sym found.1) (inl refl)) in
          let value : held.value ≡ found.0 = contents_value held by_elevation.from given_is by_elevation.basis found.0 found.1 in
          put_held put (beside_there none (not_zeros by_elevation) put in_basis) ∙ ap Some (sym value)
    ]
      where
        not_zeros : ByElevation table storage elevation held → are_both_zero storage elevation ≡ false
        not_zeros e = by storage elevation e.is e.lesser
          where
            test_false : (a b : Bool) → a ≡ false → (a && b) ≡ false
            test_false true b is = absurd (cc)
            test_false false b is = refl

            by : (s p : Option Given) → p ≡ Some e.from → ((other : Given) → s ≡ Some other → e.from.number < other.number)
                → are_both_zero s p ≡ false
            by None p is lesser = refl
            by (Some s) None is lesser = refl
            by (Some s) (Some p) is lesser = let less = lesser s refl in test_false (s.number == 0) (p.number == 0) (grind (arith, nat_tests, less))

    -- where the contents weren't solved they were given
    contents_given : (none : NoneStores) → (held : Given) × (contents_by table (basis_of storage elevation) ≡ Some held)
    contents_given none = elim is.ends [
      | inl holds ↦ some_there (contents_by table (basis_of storage elevation))
          (holds_given view (shape_of kind) is.steady (is.comes_to ∙ holds) (stored table) storing.has)
      | inr solving ↦
          let up = (solving_facts kind view puts storing.shares is solving).others (term_in view (stored table))
          (contains (map (term_in view) (shape_of kind)) (term_in view (stored table)) (among_terms view (shape_of kind) (stored table) storing.has))
          (none solving) in (up.held, up.is)
    ]

    -- ---- storage and elevation go together

    pub level_held : (rows : List Row) → table ≡ Some rows → (stores : ℤ) → known_value new 2 ≡ Some stores
        → (read : ℤ) × ((known_value new 3 ≡ Some read) × ((elev_of rows stores ≡ Some read) ⊎ (vol_of rows read ≡ Some stores)))
    level_held rows at stores held_storage = by_ends is.ends
      where
        as_rows : (value read : ℤ) → elevation_of table value ≡ Some read → elev_of rows value ≡ Some read
        as_rows value read e = sym (ap (λ z. elevation_of z value) at) ∙ e

        -- the contents were solved
        solved_two : (solving : Solving kind view) → solving.place ≡ 2
            → (read : ℤ) × ((known_value new 3 ≡ Some read) × ((elev_of rows stores ≡ Some read) ⊎ (vol_of rows read ≡ Some stores)))
        solved_two solving two =
            let level = solved_level solving two rows at in
            let value : known_value new 2 ≡ Some solving.value =
            ap (known_value new) (sym two) ∙ put_held (of_solving kind view solving) (storing.solved solving) in
            let same : solving.value ≡ stores = same_Some _ _ (sym value ∙ held_storage) in
            (level.0, (put_held _ level.1.1, inl (as_rows stores level.0 (ap (elevation_of table) (sym same) ∙ level.1.0))))

        holds_basis : (held : Given) → basis_of storage elevation ≡ Storage held → can_hold table held.value ≡ true
        holds_basis held basis = by_hold (can_hold table held.value) refl
          where
            by_hold : (test : Bool) → can_hold table held.value ≡ test → can_hold table held.value ≡ true
            by_hold true e = e
            by_hold false e = absurd (none-some (OutOfRange 2 held.value)
                (sym faultless.0 ∙ ap (fault_of_basis table) basis ∙ ap (λ (test : Bool). if test then None else Some (OutOfRange 2 held.value)) e))

        is_that : (found : Option ℤ) (value : ℤ) → is_this found value ≡ true → found ≡ Some value
        is_that None value e = absurd (cc)
        is_that (Some found) value e = ap Some ((Decides-int_eq found value).0 e)

        either_true : (a b : Bool) → (a || b) ≡ true → (a ≡ true) ⊎ (b ≡ true)
        either_true true b e = inl refl
        either_true false b e = inr e

        both_zero : (s p : Option Given) → are_both_zero s p ≡ true → (pool : Given) × (p ≡ Some pool)
        both_zero None p zeros = absurd (cc)
        both_zero (Some s) None zeros = absurd (cc)
        both_zero (Some s) (Some p) zeros = (p, refl)

        agree_by : (s p : Given) → are_both_zero (Some s) (Some p) ≡ true → disagreement table (Some s) (Some p) ≡ None
            → agree table s.value p.value ≡ true
        agree_by s p zeros none = by_zero (s.number == 0 && p.number == 0) zeros none
          where
            by_zero : (test : Bool) → test ≡ true → (if test
                && not (agree table s.value p.value) then Some (Conflict 3 p.value (unwrap_or (elevation_of table s.value) (pos 0))) else None) ≡ None
                → agree table s.value p.value ≡ true
            by_zero false e none = absurd (cc)
            by_zero true e none = by_agree (agree table s.value p.value) refl none
              where
                by_agree : (test : Bool) → agree table s.value p.value ≡ test
                    → (if not test then Some (Conflict 3 p.value (unwrap_or (elevation_of table s.value) (pos 0))) else None) ≡ None
                    → agree table s.value p.value ≡ true
                by_agree true e none = e
                by_agree false e none = absurd (none-some (Conflict 3 p.value (unwrap_or (elevation_of table s.value) (pos 0))) (sym none))

        zero_level : (none : NoneStores) (held : Given) → storage ≡ Some held → basis_of storage elevation ≡ Storage held
            → are_both_zero storage elevation ≡ true
            → (read : ℤ) × ((known_value new 3 ≡ Some read) × ((elev_of rows stores ≡ Some read) ⊎ (vol_of rows read ≡ Some stores)))
        zero_level none held s_is basis zeros =
            let pool = both_zero storage elevation zeros in
            let at_two = given_held 2 held s_is (not_two held basis none) in
            let same : held.value ≡ stores = same_Some _ _ (sym at_two ∙ held_storage) in
            let at_three = given_held 3 pool.0 pool.1 (not_three (λ put good. good.by_zeros zeros none)) in
            let agrees =
            agree_by held pool.0 (ap₂ (λ a b. are_both_zero a b) (sym s_is) (sym pool.1) ∙ zeros)
            (ap₂ (λ a b. disagreement table a b) (sym s_is) (sym pool.1) ∙ faultless.1) in (
              pool.0.value,
              (
                at_three,
                elim (either_true (is_this (elevation_of table held.value) pool.0.value) (is_this (volume_of table pool.0.value) held.value) agrees) [
                  | inl e ↦ inl (as_rows stores pool.0.value
                      (ap (elevation_of table) (sym same) ∙ is_that (elevation_of table held.value) pool.0.value e))
                  | inr e ↦ inr (sym (ap (λ z. volume_of z pool.0.value) at) ∙ is_that (volume_of table pool.0.value) held.value e ∙ ap Some same)
                ],
              ),
            )

        put_level : (none : NoneStores) (held : Given) → storage ≡ Some held → basis_of storage elevation ≡ Storage held
            → are_both_zero storage elevation ≡ false
            → (read : ℤ) × ((known_value new 3 ≡ Some read) × ((elev_of rows stores ≡ Some read) ⊎ (vol_of rows read ≡ Some stores)))
        put_level none held s_is basis zeros =
            let at_two = given_held 2 held s_is (not_two held basis none) in
            let same : held.value ≡ stores = same_Some _ _ (sym at_two ∙ held_storage) in
            let read = elevation_there table rows at held.value (holds_basis held basis) in
            let put : Put = record { place = 3; value = read.0; number = held.number } in
            let in_basis : Among (beside_basis table (basis_of storage elevation)) put =
            subst (λ b. Among (beside_basis table b) put) (sym basis) (subst (λ v. Among (put_found 3 v held.number) put) (sym read.1) (inl refl)) in
            (read.0, (put_held put (beside_there none zeros put in_basis), inl (as_rows stores read.0 (ap (elevation_of table) (sym same) ∙ read.1))))

        pool_level : (none : NoneStores) (held : Given) → contents_by table (basis_of storage elevation) ≡ Some held
            → (e : ByElevation table storage elevation held)
            → (read : ℤ) × ((known_value new 3 ≡ Some read) × ((elev_of rows stores ≡ Some read) ⊎ (vol_of rows read ≡ Some stores)))
        pool_level none held given_is e =
            let at_two = contents_held none held given_is in
            let same : held.value ≡ stores = same_Some _ _ (sym at_two ∙ held_storage) in
            let at_three = given_held 3 e.from e.is (not_three (λ put good. good.by_elevation e.from e.basis none)) in
            let found = no_fault_basis e.from e.basis in
            let value : held.value ≡ found.0 = contents_value held e.from given_is e.basis found.0 found.1 in
            (e.from.value, (at_three, inr (sym (ap (λ z. volume_of z e.from.value) at) ∙ found.1 ∙ ap Some (sym value ∙ same))))

        given_two : (none : NoneStores) → (read : ℤ)
            × ((known_value new 3 ≡ Some read) × ((elev_of rows stores ≡ Some read) ⊎ (vol_of rows read ≡ Some stores)))
        given_two none =
            let held = contents_given none in
            elim (basis_cases table storage elevation held.0 held.1) [
              | inl s ↦ by_zeros_or s (are_both_zero storage elevation) refl
              | inr e ↦ pool_level none held.0 held.1 e
            ]
          where
            by_zeros_or : (s : ByStorage table storage elevation (contents_given none).0) → (test : Bool) → are_both_zero storage elevation ≡ test
                → (read : ℤ) × ((known_value new 3 ≡ Some read) × ((elev_of rows stores ≡ Some read) ⊎ (vol_of rows read ≡ Some stores)))
            by_zeros_or s true zeros = zero_level none (contents_given none).0 s.is s.basis zeros
            by_zeros_or s false zeros = put_level none (contents_given none).0 s.is s.basis zeros

        by_ends : (balanced_of kind view ≡ Holds) ⊎ Solving kind view
            → (read : ℤ) × ((known_value new 3 ≡ Some read) × ((elev_of rows stores ≡ Some read) ⊎ (vol_of rows read ≡ Some stores)))
        by_ends (inl holds) = given_two (λ solving same. let differ : 1 ≡ 2 = ap balanced_code (sym holds ∙ solving.is) in omega (arith, differ))
        by_ends (inr solving) = by_place (solving.place == 2) refl
          where
            by_place : (test : Bool) → (solving.place == 2) ≡ test
                → (read : ℤ) × ((known_value new 3 ≡ Some read) × ((elev_of rows stores ≡ Some read) ⊎ (vol_of rows read ≡ Some stores)))
            by_place true two = solved_two solving (grind (arith, nat_tests, two))
            by_place false apart =
                given_two (λ other same. let one : other.place ≡ solving.place = ap place_in (sym other.is ∙ solving.is) in
                absurd (grind (arith, nat_tests, apart, one, same)))
