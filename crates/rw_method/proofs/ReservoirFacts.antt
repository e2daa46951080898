-- The reservoir, whose contents are given by its storage or by its elevation.
use Rattle.rw_method.proofs.Common.{All, AllByRecursion, Balanced, Bool, Brings, Contains, Given, IsShare, IsStored, Kind, List, None, Option, Put}
use Rattle.rw_method.proofs.Common.{Reservoir, Row, Solves, Some, Takes, Term, View, [], ap, arith, balanced_of, elev_of, evaporation_of}
use Rattle.rw_method.proofs.Common.{evaporation_put, false, fault_of_level, fault_of_past, given, if◌then◌else◌, inl, inr, is_some, known_after}
use Rattle.rw_method.proofs.Common.{known_value, level_puts, map, nat_tests, refl, release_puts, solved_put, subst, suc, sym, true, zero, ℕ, ℤ, ◌++◌}
use Rattle.rw_method.proofs.Common.{◌==◌, ◌∙◌, ◌∷◌, ◌≡◌, ◌≢◌, ◌≤◌, ◌⊎◌}
use Rattle.rw_method.specs.Left.{IsGivenUpTo, Rest, rest, rests_of}
use Rattle.rw_method.specs.Passing.{IsAfterOwn}
use Rattle.rw_method.proofs.Answering.{Answered}
use Rattle.rw_method.proofs.Leaving.{DispatchFacts, IsFalling, PutIs, Solving, alone, falls_from, rests, solved}
use Rattle.rw_method.proofs.Among.{Among, all_among, all_at, among, among_left, among_right, contains}
use Rattle.rw_method.proofs.PlainKinds.{base_in, of_solving, shares_three}
use Rattle.rw_method.proofs.Terms.{Sort, Source, asked, contents, given_in, given_number, same_given, shape_of, slot, sort, stored, term_in}
use Rattle.rw_method.proofs.Storing.{IsLevelPut, IsStoring, contents_below, contents_held, contents_stay, given_held, level_good, low_place}
use Rattle.rw_method.proofs.Storing.{none_first, past_held, solved_level}
use Rattle.rw_base.proofs.Lists.{all_append, weaker_all}

module _ (initial_storage : ℤ) (table : Option (List Row)) (local_inflow diversion return_flow evaporation : Bool) (max_release : Option ℤ) where
  abbrev kind : Kind
  kind = Reservoir initial_storage table local_inflow diversion return_flow evaporation max_release

  shares : (view : View) → All (λ (term : Term). IsShare term.share) (map (term_in view) (shape_of kind))
  shares view = shares_three (term_in view (sort Brings 0)) (term_in view (sort Takes 1)) (term_in view (stored table)) tt tt tt

  by_sort : (P : Sort → Type 0) → P (sort Brings 0) → P (sort Takes 1) → P (stored table) → (s : Sort) → Among (shape_of kind) s → P s
  by_sort P a b c s (inl same) = subst P same a
  by_sort P a b c s (inr (inl same)) = subst P same b
  by_sort P a b c s (inr (inr (inl same))) = subst P same c
  by_sort P a b c s (inr (inr (inr never))) = absurd never

  -- ---- what rests on what

  table_rests : (rows : List Row) → table ≡ Some rows → rests_of kind ≡ rest 2 3 ∷ rest 3 2 ∷ rest 9 1 ∷ rest 10 1 ∷ []
  table_rests rows is = ap (λ z. (if is_some z then rest 2 3 ∷ rest 3 2 ∷ [] else []) ++ rest 9 1 ∷ rest 10 1 ∷ []) is

  bare_rests : table ≡ None → rests_of kind ≡ rest 9 1 ∷ rest 10 1 ∷ []
  bare_rests is = ap (λ z. (if is_some z then rest 2 3 ∷ rest 3 2 ∷ [] else []) ++ rest 9 1 ∷ rest 10 1 ∷ []) is

  released : (place : ℕ) → (place ≡ 9) ⊎ (place ≡ 10) → Among (rests_of kind) (rest place 1)
  released place at = by table refl
    where
      by : (found : Option (List Row)) → table ≡ found → Among (rests_of kind) (rest place 1)
      by (Some rows) is =
          subst (λ ps. Among ps (rest place 1)) (sym (table_rests rows is))
          (elim at [ inl e ↦ inr (inr (inl (ap (λ p. rest p 1) (sym e)))) | inr e ↦ inr (inr (inr (inl (ap (λ p. rest p 1) (sym e))))) ])
      by None is =
          subst (λ ps. Among ps (rest place 1)) (sym (bare_rests is))
          (elim at [ inl e ↦ inl (ap (λ p. rest p 1) (sym e)) | inr e ↦ inr (inl (ap (λ p. rest p 1) (sym e))) ])

  -- each place rests on this one
  abbrev on_of : ℕ → ℕ
  on_of place = if place == 2 then 3 else (if place == 3 then 2 else 1)

  abbrev IsOne : Rest → Type 0
  IsOne pair = (pair.on ≡ on_of pair.place) × ((pair.place ≢ 8) × ((pair.place ≢ 0) × (pair.place ≢ 1)))

  one_each : AllByRecursion IsOne (rests_of kind)
  one_each = by table refl
    where
      far : (place other : ℕ) → (place == other) ≡ false → place ≢ other
      far place other apart same = absurd (grind (arith, nat_tests, apart, same))

      by : (found : Option (List Row)) → table ≡ found → AllByRecursion IsOne (rests_of kind)
      by (Some rows) is = subst (AllByRecursion IsOne) (sym (table_rests rows is)) (
        (refl, (far 2 8 refl, (far 2 0 refl, far 2 1 refl))),
        (
          (refl, (far 3 8 refl, (far 3 0 refl, far 3 1 refl))),
          ((refl, (far 9 8 refl, (far 9 0 refl, far 9 1 refl))), ((refl, (far 10 8 refl, (far 10 0 refl, far 10 1 refl))), tt)),
        ),
      )
      by None is =
          subst (AllByRecursion IsOne) (sym (bare_rests is))
          ((refl, (far 9 8 refl, (far 9 0 refl, far 9 1 refl))), ((refl, (far 10 8 refl, (far 10 0 refl, far 10 1 refl))), tt))

  unique : (pair other : Rest) → Contains (rests_of kind) pair → Contains (rests_of kind) other → pair.place ≡ other.place → pair.on ≡ other.on
  unique pair other has there same =
      (all_at IsOne (rests_of kind) pair one_each (among (rests_of kind) pair has)).0 ∙ ap on_of same
      ∙ sym (all_at IsOne (rests_of kind) other one_each (among (rests_of kind) other there)).0

  -- ---- one dispatch

  module _ (view : View) (puts : List Put) (sound : IsStored initial_storage table evaporation max_release) (is : Answered kind view puts) where
    abbrev level : List Put
    level = level_puts table (given view 2) (given view 3) (balanced_of kind view)

    -- where a put comes from
    record IsFrom (put : Put) : Type 0 where
      from : (balanced_of kind view ≡ Solves put.place put.value put.number) ⊎ (Among level put ⊎ (8 ≤ put.place))

    solved_from : (balanced : Balanced) → balanced_of kind view ≡ balanced → AllByRecursion IsFrom (solved_put balanced)
    solved_from (Solves place value number) e = (record { from = inl e }, tt)
    solved_from balanced e = tt

    evaporation_from_eight : (chosen : Bool) (amount : Option ℤ) → AllByRecursion IsFrom (evaporation_put chosen amount)
    evaporation_from_eight true amount = (record { from = inr (inr (omega arith)) }, tt)
    evaporation_from_eight false amount = tt

    releases_from : (most : Option ℤ) → AllByRecursion IsFrom (release_puts most (known_after view (balanced_of kind view) 1))
    releases_from None = tt
    releases_from (Some most) = (record { from = inr (inr (omega arith)) }, (record { from = inr (inr (omega arith)) }, tt))

    all_from : AllByRecursion IsFrom puts
    all_from = subst (AllByRecursion IsFrom) is.same
        (all_append IsFrom _ _ (all_append IsFrom _ _ (all_append IsFrom _ _ (solved_from (balanced_of kind view) refl)
        (all_among IsFrom level (λ put has. record { from = inr (inl has) })))
        (evaporation_from_eight evaporation (evaporation_of evaporation table view))) (releases_from max_release))

    -- ---- the solved term is put, and with it the elevation

    solved_there : (solving : Solving kind view) → Among puts (of_solving kind view solving)
    solved_there solving = subst (λ ps. Among ps (of_solving kind view solving)) is.same
        (among_left _ (release_puts max_release (known_after view (balanced_of kind view) 1)) (of_solving kind view solving)
        (among_left _ (evaporation_put evaporation (evaporation_of evaporation table view)) (of_solving kind view solving)
        (among_left (solved_put (balanced_of kind view)) (level_puts table (given view 2) (given view 3) (balanced_of kind view))
        (of_solving kind view solving)
        (subst (λ b. Among (solved_put b) (of_solving kind view solving)) (sym solving.is) (inl refl)))))

    level_there : (put : Put) → Among (level_puts table (given view 2) (given view 3) (balanced_of kind view)) put → Among puts put
    level_there put has = subst (λ ps. Among ps put) is.same
        (among_left _ (release_puts max_release (known_after view (balanced_of kind view) 1)) put
        (among_left _ (evaporation_put evaporation (evaporation_of evaporation table view)) put
        (among_right (solved_put (balanced_of kind view)) (level_puts table (given view 2) (given view 3) (balanced_of kind view)) put has)))

    -- nothing is wrong with the storage before, and with what is given
    faultless : (fault_of_past evaporation table view.past ≡ None) × (fault_of_level table view ≡ None)
    faultless = none_first (fault_of_past evaporation table view.past) (fault_of_level table view) is.fine

    -- where evaporation is chosen, the storage before has an elevation
    pub past_elevation : (rows : List Row) → table ≡ Some rows → evaporation ≡ true → (past : ℤ) → view.past ≡ Some past
        → (e : ℤ) × (elev_of rows past ≡ Some e)
    past_elevation rows at choice past past_is =
        past_held table rows view.past at (ap (λ chosen. fault_of_past chosen table view.past) (sym choice) ∙ faultless.0) past past_is

    has_rows : (rows : List Row) → table ≡ Some rows → (Contains (rests_of kind) (rest 2 3)) × (Contains (rests_of kind) (rest 3 2))
    has_rows rows at = (
      subst (λ ps. Contains ps (rest 2 3)) (sym (table_rests rows at)) (0, omega arith, refl),
      subst (λ ps. Contains ps (rest 3 2)) (sym (table_rests rows at)) (1, omega arith, refl),
    )

    pub storing : IsStoring kind table view puts
    storing = record {
      shares = shares view;
      has = inr (inr (inl refl));
      low = (omega arith, (omega arith, (omega arith, tt)));
      fine = faultless.1;
      holds = λ value number held. held;
      pairs = has_rows;
      solved = solved_there;
      level = level_there;
      others = λ put has. elim (all_at IsFrom puts put all_from has).from [
        | inl solves ↦ inl solves
        | inr (inl there) ↦ inr (inl there)
        | inr (inr far) ↦ inr (inr (λ same. omega (arith, far, same), λ same. omega (arith, far, same)))
      ];
    }

    -- none in the places of the flows at the sides and of the rate
    pub no_middle : (place : ℕ) → 4 ≤ place → place ≤ 7 → (put : Put) → Contains puts put → put.place ≢ place
    no_middle place low high put has same = elim (all_at IsFrom puts put all_from (among puts put has)).from [
      | inl solves ↦ let few =
          low_place kind table view puts is storing (record { place = put.place; value = put.value; number = put.number; is = solves }) in
          omega (arith, few, same, low)
      | inr (inl there) ↦ let few =
          (all_at (IsLevelPut kind table view puts is storing) level put (level_good kind table view puts is storing) there).few in
          omega (arith, few, same, low)
      | inr (inr far) ↦ omega (arith, far, same, high)
    ]

    -- ---- what each put is

    solved_is : (balanced : Balanced) → balanced_of kind view ≡ balanced → AllByRecursion (PutIs kind view puts) (solved_put balanced)
    solved_is (Solves place value number) e = (solved e, tt)
    solved_is balanced e = tt

    evaporation_is : (chosen : Bool) (amount : Option ℤ) → AllByRecursion (PutIs kind view puts) (evaporation_put chosen amount)
    evaporation_is true amount = (
      alone (λ left content there own. omega arith)
          (λ pair has. (all_at IsOne (rests_of kind) pair one_each (among (rests_of kind) pair has)).1.0),
      tt,
    )
    evaporation_is false amount = tt

    release_is : (place : ℕ) (value : ℤ) → (place ≡ 9) ⊎ (place ≡ 10)
        → PutIs kind view puts (record { place = place; value = value; number = (known_after view (balanced_of kind view) 1).number })
    release_is place value at = rests (record {
      on = 1;
      has = contains (rests_of kind) (rest place 1) (released place at);
      number = refl;
      base = base_in kind view puts (shares view) is (sort Takes 1) (inr (inl refl)) refl;
    })

    releases_are : (most : Option ℤ) → AllByRecursion (PutIs kind view puts) (release_puts most (known_after view (balanced_of kind view) 1))
    releases_are None = tt
    releases_are (Some most) = (release_is 9 _ (inl refl), (release_is 10 _ (inr refl), tt))

    all_are : AllByRecursion (PutIs kind view puts) puts
    all_are = subst (AllByRecursion (PutIs kind view puts)) is.same
        (all_append (PutIs kind view puts) _ _ (all_append (PutIs kind view puts) _ _
        (all_append (PutIs kind view puts) _ _ (solved_is (balanced_of kind view) refl)
        (weaker_all (IsLevelPut kind table view puts is storing) (PutIs kind view puts) level (λ put good. good.is_put)
        (level_good kind table view puts is storing)))
        (evaporation_is evaporation (evaporation_of evaporation table view))) (releases_are max_release))

    stored_beside : (solving : Solving kind view) (on : ℕ) → Contains (rests_of kind) (rest solving.place on)
        → (put : Put) × (Contains puts put × (put.place ≡ on) × (put.number ≡ solving.number))
    stored_beside solving on has = by table refl
      where
        one : IsOne (rest solving.place on)
        one = all_at IsOne (rests_of kind) (rest solving.place on) one_each (among (rests_of kind) (rest solving.place on) has)

        two : solving.place ≡ 2
        two = let few = low_place kind table view puts is storing solving in by_two solving.place few one.1.1.0 one.1.1.1
          where
            by_two : (place : ℕ) → place ≤ 2 → place ≢ 0 → place ≢ 1 → place ≡ 2
            by_two zero few none one = absurd (none refl)
            by_two (suc zero) few none one = absurd (one refl)
            by_two (suc (suc zero)) few none one = refl
            by_two (suc (suc (suc place))) few none one = absurd (omega (arith, few))

        three : on ≡ 3
        three = one.0 ∙ ap on_of two

        by : (found : Option (List Row)) → table ≡ found → (put : Put) × (Contains puts put × (put.place ≡ on) × (put.number ≡ solving.number))
        by None at =
            absurd (none_bare (subst (λ ps. Among ps (rest solving.place on)) (bare_rests at) (among (rests_of kind) (rest solving.place on) has)))
          where
            none_bare : Among (rest 9 1 ∷ rest 10 1 ∷ []) (rest solving.place on) → ⊥
            none_bare (inl same) = let differ : 9 ≡ 2 = ap (λ (p : Rest). p.place) same ∙ two in omega (arith, differ)
            none_bare (inr (inl same)) = let differ : 10 ≡ 2 = ap (λ (p : Rest). p.place) same ∙ two in omega (arith, differ)
            none_bare (inr (inr never)) = never
        by (Some rows) at = let level =
            solved_level kind table view puts is storing solving two rows at in (_, (contains puts _ level.1.1, sym three, refl))

    -- ---- what isn't solved stays given

    untouched_at : (place : ℕ) → (place ≡ 0) ⊎ (place ≡ 1) → ((solving : Solving kind view) → place ≢ solving.place) → (put : Put) → Contains puts put
        → put.place ≢ place
    untouched_at place low none put has same = elim (all_at IsFrom puts put all_from (among puts put has)).from [
      | inl solves ↦ none (record { place = put.place; value = put.value; number = put.number; is = solves }) (sym same)
      | inr (inl there) ↦
          let far = (all_at (IsLevelPut kind table view puts is storing) level put (level_good kind table view puts is storing) there).high in
          elim low [ inl e ↦ omega (arith, same, e, far) | inr e ↦ omega (arith, same, e, far) ]
      | inr (inr far) ↦ elim low [ inl e ↦ omega (arith, same, e, far) | inr e ↦ omega (arith, same, e, far) ]
    ]

    slot_stays : (place : ℕ) → (place ≡ 0) ⊎ (place ≡ 1) → ((solving : Solving kind view) → place ≢ solving.place) → (new : View)
        → IsAfterOwn view new puts → given new place ≡ given view place
    slot_stays place low none new after = same_given view new place after.own (after.rest place (untouched_at place low none))

    below_at : (s : Sort) (held : Given) → Among (shape_of kind) s → given_in view s ≡ Some held → IsFalling kind view s.place held.number
    below_at s held has = by_sort (λ s. given_in view s ≡ Some held → IsFalling kind view s.place held.number)
        (λ given_is left content there. given_number view 0 held content given_is there)
        (λ given_is left content there. given_number view 1 held content given_is there)
        (λ given_is left content there. contents_below kind table view puts is storing left held content given_is there) s has

    given_stays : (new : View) → IsAfterOwn view new puts → (s : Sort) → Among (shape_of kind) s
        → ((solving : Solving kind view) → s.place ≢ solving.place)
        → (number : ℕ) → IsGivenUpTo number (given_in view s) → IsGivenUpTo number (given_in new s)
    given_stays new after s has apart number =
        by_sort (λ s. ((solving : Solving kind view) → s.place ≢ solving.place) → IsGivenUpTo number (given_in view s)
        → IsGivenUpTo number (given_in new s))
        (λ apart. subst (IsGivenUpTo number) (sym (slot_stays 0 (inl refl) apart new after)))
        (λ apart. subst (IsGivenUpTo number) (sym (slot_stays 1 (inr refl) apart new after)))
        (λ apart. contents_stay kind table view puts is storing apart new after number) s has apart

    abbrev is_slot : Source → Bool
    is_slot slot = true
    is_slot (contents table) = false
    is_slot (asked plant) = false

    low_untouched : (s : Sort) → Among (shape_of kind) s → s.source ≡ slot → ((solving : Solving kind view) → s.place ≢ solving.place) → (put : Put)
        → Contains puts put → put.place ≢ s.place
    low_untouched s has =
        by_sort (λ s. s.source ≡ slot → ((solving : Solving kind view) → s.place ≢ solving.place) → (put : Put) → Contains puts put
        → put.place ≢ s.place)
        (λ source. untouched_at 0 (inl refl)) (λ source. untouched_at 1 (inr refl))
        (λ source. absurd (let differ : false ≡ true = ap is_slot source in cc)) s has

    pub reservoir_facts : DispatchFacts kind view puts
    reservoir_facts = record {
      steady = is.steady;
      comes_to = is.comes_to;
      ends = is.ends;
      shares = shares view;
      each = all_are;
      has_solved = λ solving. contains puts (of_solving kind view solving) (solved_there solving);
      beside = stored_beside;
      stays = given_stays;
      untouched = low_untouched;
      falls = λ solving. falls_from kind view is.steady is.comes_to (shares view) solving (λ s has at held given_is. below_at s held has given_is);
      unique = unique;
    }

    -- ---- what it holds then

    module _ (new : View) (after : IsAfterOwn view new puts) where
      pub agreed : (s : Sort) → Among (shape_of kind) s → ((solving : Solving kind view) → s.place ≢ solving.place) → (g : Given)
          → given_in view s ≡ Some g → known_value new s.place ≡ Some g.value
      agreed s has =
          by_sort (λ s. ((solving : Solving kind view) → s.place ≢ solving.place) → (g : Given) → given_in view s ≡ Some g
          → known_value new s.place ≡ Some g.value)
          (λ apart g is_given. given_held kind table view puts is storing new after 0 g is_given (untouched_at 0 (inl refl) apart))
          (λ apart g is_given. given_held kind table view puts is storing new after 1 g is_given (untouched_at 1 (inr refl) apart))
          (contents_held kind table view puts is storing new after) s has
