-- Rules that are met, going from watch to watch.
use Rattle.rw_base.proofs.Common.{◌≡◌, ◌∙◌, ◌+◌, ◌-◌, ◌<◌, ◌≤◌, ◌==◌, ◌||◌, ◌&&◌, ℕ, zero, suc, Bool, true, false, List, [], ◌∷◌, ◌++◌, Option, None, Some}
use Rattle.rw_base.proofs.Common.{◌⊎◌, cases_lt, inl, inr, get_or_default, IfSome, IsSomeAnd, ap, ap₂, arith, if◌then◌else◌, false≢true, get_or}
use Rattle.rw_base.proofs.Common.{get_or-set_other, get_or-set_same, get_or_append_left, get_or_from_slice_get, length, length-append, nat_eq}
use Rattle.rw_base.proofs.Common.{nat_eq_equiv, nat_tests, none-some, option_map, refl, set, slice_get-get_or, slice_get_within}
use Rattle.rw_base.proofs.Common.{slice_index_or, subst, sym, unwrap_or}
use Rattle.std.proofs.lemmas.List.{get_or_push}
use Rattle.rw_base.specs.declared.number.Cell.{Cell}
use Rattle.rw_model.proofs.Numbered.{numbered-found, numbered-known}
use Rattle.rw_model.specs.Objects.{numbered}
use Rattle.rw_firing.specs.declared.look.Look.{Look}
use Rattle.rw_agenda.specs.CellIndex.{CellIndex, has_watch, is_met, is_watching, newest_at, index_position, watch_numbered}
use Rattle.rw_agenda.specs.declared.watch.Watch.{Watch}

-- what is found of a watch, and of what it leads to
abbrev met_in : List Watch → ℕ → ℕ → ℕ → ℕ → Option Watch → Bool
met_in watches past times rule step found =
    unwrap_or (option_map (λ (watch : Watch). (watch.rule == rule && watch.step == step) || is_met watches past times watch.before rule step) found)
    false

numbered_first : (watches : List Watch) (number : ℕ) (watch : Watch) → numbered watches number ≡ Some watch → 1 ≤ number
numbered_first watches zero watch is = absurd (none-some watch is)
numbered_first watches (suc number) watch is = omega arith

numbered_more : (watches more : List Watch) (number : ℕ) (watch : Watch) → numbered watches number ≡ Some watch
    → numbered (watches ++ more) number ≡ Some watch
numbered_more watches more number watch is =
    let found = numbered-found watches number watch is in
    let near = slice_get_within watches (number - 1) watch found in
    let all : number - 1 < length (watches ++ more) = omega (arith, near, length-append watches more) in
    numbered-known (watches ++ more) number (numbered_first watches number watch is) ∙ slice_get-get_or (watches ++ more) (number - 1) watch all
    ∙ ap Some (get_or_append_left watches more watch (number - 1) near ∙ get_or_from_slice_get watches (number - 1) watch watch found)

or_either : (x y z : Bool) → (y ≡ true → z ≡ true) → x || y ≡ true → x || z ≡ true
or_either true y z gives is = refl
or_either false y z gives is = gives is

-- who was met still is, with more watches and more times
pub met_more : (watches more : List Watch) (past times most number rule step : ℕ) → times ≤ most
    → is_met watches past times number rule step ≡ true → is_met (watches ++ more) past most number rule step ≡ true
met_more watches more past zero most number rule step few is = absurd (grind (arith, is))
met_more watches more past (suc times) zero number rule step few is = absurd (omega (arith, few))
met_more watches more past (suc times) (suc most) number rule step few is =
    by (watch_numbered watches past number) refl (λ before. met_more watches more past times most before rule step (omega (arith, few))) is
  where
    by : (found : Option Watch) → watch_numbered watches past number ≡ found
        → ((before : ℕ) → is_met watches past times before rule step ≡ true → is_met (watches ++ more) past most before rule step ≡ true)
        → met_in watches past times rule step found ≡ true
        → met_in (watches ++ more) past most rule step (watch_numbered (watches ++ more) past number) ≡ true
    by None there later is = absurd (false≢true is)
    by (Some watch) there later is =
        ap (met_in (watches ++ more) past most rule step) (numbered_more watches more (number - past) watch there)
        ∙ or_either (watch.rule == rule && watch.step == step) (is_met watches past times watch.before rule step)
        (is_met (watches ++ more) past most watch.before rule step)
        (later watch.before) is

-- ---- going on from watch to watch

pub met_last : (watches : List Watch) (past times left number rule step : ℕ) → times ≡ suc left → watch_numbered watches past number ≡ None
    → is_met watches past times number rule step ≡ false
met_last watches past times left number rule step is none =
    ap (λ k. is_met watches past k number rule step) is ∙ ap (met_in watches past left rule step) none

pub met_next : (watches : List Watch) (past times left number rule step : ℕ) (watch : Watch) → times ≡ suc left
    → watch_numbered watches past number ≡ Some watch
    → is_met watches past times number rule step
    ≡ ((watch.rule == rule && watch.step == step) || is_met watches past left watch.before rule step)
met_next watches past times left number rule step watch is found =
    ap (λ k. is_met watches past k number rule step) is ∙ ap (met_in watches past left rule step) found

-- a number of those that are past
pub numbered_past : (watches : List Watch) (past number : ℕ) → number ≤ past → watch_numbered watches past number ≡ None
numbered_past watches past number is =
    let none : number - past ≡ 0 = omega (arith, is) in ap (numbered watches) none

last_watch : (watches : List Watch) (watch : Watch) → numbered (watches ++ watch ∷ []) (suc (length watches)) ≡ Some watch
last_watch watches watch =
    numbered-known (watches ++ watch ∷ []) (suc (length watches)) (omega arith)
    ∙ slice_get-get_or (watches ++ watch ∷ []) (suc (length watches) - 1) watch (omega (arith, length-append watches (watch ∷ [])))
    ∙ ap Some (get_or_push watches watch watch (suc (length watches) - 1) (omega arith))

pub or_right : (x y : Bool) → y ≡ true → x || y ≡ true
or_right true y is = refl
or_right false y is = is

-- the newest watch is met
pub met_newest : (watches : List Watch) (watch : Watch) (past rule step : ℕ)
    → is_met (watches ++ watch ∷ []) past (length (watches ++ watch ∷ [])) (past + length (watches ++ watch ∷ [])) rule step
    ≡ ((watch.rule == rule && watch.step == step) || is_met (watches ++ watch ∷ []) past (length watches) watch.before rule step)
met_newest watches watch past rule step =
    let many : length (watches ++ watch ∷ []) ≡ suc (length watches) = omega (arith, length-append watches (watch ∷ [])) in
    let last : past + length (watches ++ watch ∷ []) - past ≡ suc (length watches) = omega (arith, many) in
    met_next (watches ++ watch ∷ []) past (length (watches ++ watch ∷ [])) (length watches) (past + length (watches ++ watch ∷ [])) rule step watch
    many
    (ap (numbered (watches ++ watch ∷ [])) last ∙ last_watch watches watch)

-- ---- an index with one watch more

module _ (slots past room : ℕ) (newest : List ℕ) (watches : List Watch) (full : Bool) (place rule step : ℕ) where
  abbrev before_it : ℕ
  before_it = slice_index_or newest place 0

  abbrev whole : List Watch
  whole = watches ++ record { rule = rule; step = step; before = before_it } ∷ []

  abbrev old : CellIndex
  old = record { slots = slots; newest = newest; watches = watches; past = past; room = room; is_full = full }

  abbrev new : CellIndex
  new = record {
    slots = slots;
    newest = set newest place (past + length whole);
    watches = whole;
    past = past;
    room = room;
    is_full = full;
  }

  met_here : (earlier time : ℕ) → is_met watches past (length watches) (slice_index_or newest place 0) earlier time ≡ true
      → is_met whole past (length whole) (past + length whole) earlier time ≡ true
  met_here earlier time is =
      met_newest watches (record { rule = rule; step = step; before = before_it }) past earlier time
      ∙ or_right (rule == earlier && step == time) _
      (met_more watches _ past (length watches) (length watches) before_it earlier time (omega arith) is)

  pub kept_watch : place < length newest → (other : Cell) (earlier : ℕ) → is_watching old other earlier ≡ true → is_watching new other earlier ≡ true
  kept_watch near other earlier is =
      or_either full (is_met watches past (length watches) (newest_at old other) earlier other.step.0)
      (is_met whole past (length whole) (newest_at new other) earlier other.step.0)
      (by (index_position slots other)) is
    where
      time : ℕ
      time = other.step.0

      by : (p : ℕ) → is_met watches past (length watches) (slice_index_or newest p 0) earlier time ≡ true
          → is_met whole past (length whole) (slice_index_or (set newest place (past + length whole)) p 0) earlier time ≡ true
      by p met = at (nat_eq p place) refl
        where
          at : (same : Bool) → nat_eq p place ≡ same
              → is_met whole past (length whole) (slice_index_or (set newest place (past + length whole)) p 0) earlier time ≡ true
          at true same =
              let is_place : p ≡ place = grind (arith, nat_tests, same) in
              ap (λ n. is_met whole past (length whole) n earlier time)
              (ap (λ k. get_or (set newest place (past + length whole)) k 0) is_place
              ∙ get_or-set_same newest place (past + length whole) 0 near)
              ∙ met_here earlier time (ap (λ k. is_met watches past (length watches) (get_or newest k 0) earlier time) (sym is_place) ∙ met)
          at false apart =
              ap (λ n. is_met whole past (length whole) n earlier time)
              (get_or-set_other newest place p (past + length whole) 0 (grind (arith, nat_tests, apart)))
              ∙ met_more watches _ past (length watches) (length whole) (get_or newest p 0) earlier time
              (omega (arith, length-append watches (record { rule = rule; step = step; before = before_it } ∷ []))) met

  pub new_watch : place < length newest → (cell : Cell) → cell.step.0 ≡ step → index_position slots cell ≡ place
      → is_watching new cell rule ≡ true
  new_watch near cell same is =
      or_right full _
      (ap (is_met whole past (length whole) (newest_at new cell) rule) same
      ∙ ap (λ p. is_met whole past (length whole) (slice_index_or (set newest place (past + length whole)) p 0) rule step) is
      ∙ ap (λ n. is_met whole past (length whole) n rule step) (get_or-set_same newest place (past + length whole) 0 near)
      ∙ met_newest watches (record { rule = rule; step = step; before = before_it }) past rule step
      ∙ ap₂ (λ a b. (a && b) || is_met whole past (length watches) before_it rule step) (nat_eq_equiv.refl rule) (nat_eq_equiv.refl step))

  -- the same of what the code has
  module _ (seen count : ℕ) (pushed : List Watch) (saw : seen ≡ slice_index_or newest place 0)
      (is : pushed ≡ watches ++ record { rule = rule; step = step; before = seen } ∷ []) (many : count ≡ past + length pushed) where
    abbrev made : List Watch → ℕ → CellIndex
    made all number = record { slots = slots; newest = set newest place number; watches = all; past = past; room = room; is_full = full }

    whole_is : pushed ≡ whole
    whole_is = is ∙ ap (λ n. watches ++ record { rule = rule; step = step; before = n } ∷ []) saw

    pub watching_now : place < length newest → (cell : Cell) → cell.step.0 ≡ step → index_position slots cell ≡ place
        → is_watching (made pushed count) cell rule ≡ true
    watching_now near cell same at =
        subst (λ k. is_watching (made pushed k) cell rule ≡ true) (sym many)
        (subst (λ all. is_watching (made all (past + length all)) cell rule ≡ true) (sym whole_is) (new_watch near cell same at))

    pub watching_still : place < length newest → (other : Cell) (earlier : ℕ) → is_watching old other earlier ≡ true
        → is_watching (made pushed count) other earlier ≡ true
    watching_still near other earlier watching =
        subst (λ k. is_watching (made pushed k) other earlier ≡ true) (sym many)
        (subst (λ all. is_watching (made all (past + length all)) other earlier ≡ true) (sym whole_is) (kept_watch near other earlier watching))

-- ---- cells that are watched one after another

-- those up to a place are watched, and then the cell of the look there: so are those behind it at the same cell
pub watching_on : (index more : CellIndex) (rule : ℕ) (looks : List Look) (place next : ℕ) (look : Look) → place < length looks
    → look ≡ get_or looks place look
    → ((k : ℕ) (d : Look) → place ≤ k → k < next → (get_or looks k d).cell ≡ (get_or looks place d).cell)
    → ((other : Cell) (earlier : ℕ) → is_watching index other earlier ≡ true → is_watching more other earlier ≡ true)
    → ((k : ℕ) (d : Look) → k < place → is_watching index (get_or looks k d).cell rule ≡ true) → is_watching more look.cell rule ≡ true
    → (k : ℕ) (d : Look) → k < next → is_watching more (get_or looks k d).cell rule ≡ true
watching_on index more rule looks place next look near is same kept before watching k d behind = by (cases_lt k place)
  where
    by : (k < place) ⊎ (place ≤ k) → is_watching more (get_or looks k d).cell rule ≡ true
    by (inl below) = kept (get_or looks k d).cell rule (before k d below)
    by (inr above) =
        ap (λ cell. is_watching more cell rule)
        (same k d above behind ∙ ap (λ (l : Look). l.cell) (get_or_default looks place d look near ∙ sym is))
        ∙ watching

-- an index without watches
pub idle : (index : CellIndex) → length index.watches ≡ 0 → (cell : Cell) (rule : ℕ) → has_watch index cell rule ≡ false
idle index none cell rule = ap (λ n. is_met index.watches index.past n (newest_at index cell) rule cell.step.0) none
