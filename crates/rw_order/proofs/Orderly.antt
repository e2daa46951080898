-- Logs in any order, event by event: each object that doesn't wait is at rest.
use Rattle.rw_order.proofs.Common.{Bool, ByObject, Cell, Cells, Contains, Content, Draft, Event, Input, IsFault, Kind, Log, None, Object, Option}
use Rattle.rw_order.proofs.Common.{Some, Standing, [], ap, arith, both_ways, cases_eq, cases_lt, cell_at, cells_of, closed, dispatched, dispatches}
use Rattle.rw_order.proofs.Common.{false, held_after, if◌then◌else◌, inl, inr, inside, is_data, is_same_object, is_some, length, none-some, not}
use Rattle.rw_order.proofs.Common.{object_at, opened, over, refl, rests, same_Some, since, slot_in_place, standing, subst, suc, sym, true, waiting}
use Rattle.rw_order.proofs.Common.{written_by, ℕ, ◌+◌, ◌<◌, ◌∙◌, ◌∷◌, ◌≡◌, ◌≢◌, ◌≤◌, ◌⊎◌}
use Rattle.rw_order.proofs.Writing.{or_none}
use Rattle.rw_order.proofs.Resting.{IsAtRest}
use Rattle.rw_order.proofs.Sounds.{IsLaidOut, IsSound}
use Rattle.rw_order.proofs.Leaving.{HasSaid, Leaves, WroteNothing, leaves}
use Rattle.rw_order.proofs.Carried.{rest_earlier, rest_unreached, said_carries}
use Rattle.rw_order.proofs.Counting.{count_grows, count_rises, known_count, one_if, one_few, reached_by, some_or}
use Rattle.rw_order.proofs.Turns.{counts_other, counts_own, nobody_waits, opening, other_rests, other_woken, own_rests, ready_object, since_ready}
use Rattle.rw_order.proofs.Turns.{still_inside, still_opened, waits_since}
use Rattle.rw_dispatch.proofs.Viewed.{content-slot}

-- where a log stands: at the timestep that was opened last. Where it rests nobody waits
abbrev pub StandsAt : Draft → Log → Standing → Type 0
StandsAt basin log (rests step) = (step ≡ opening log) × ((step ≤ basin.control.stamps.count)
    × ((object : ℕ) (found : Object) → 1 ≤ step → object_at basin.objects object ≡ Some found → is_data basin object ≡ false
    → since basin log object ≡ None))
StandsAt basin log (inside step) = (step ≡ opening log) × ((1 ≤ step) × (step ≤ basin.control.stamps.count))
StandsAt basin log over = ⊥

-- an object was dispatched once more at most than places of it are known, with the dispatch for which it waits
abbrev pub IsFew : Draft → Log → Cells → ℕ → ℕ → Type 0
IsFew basin log cells object step = dispatches log object + one_if (is_some (since basin log object)) ≤ 1 + known_count basin cells object step

pub record IsOrderly (basin : Draft) (start : Cells) (log : Log) : Type 0 where
  pub sound : IsSound basin start (opening log) (cells_of basin log)
  pub stands : StandsAt basin log (standing log)
  pub said : (object at : ℕ) (found : Object) → object_at basin.objects object ≡ Some found → is_data basin object ≡ false → 1 ≤ at → at ≤ opening log
      → HasSaid basin start (cells_of basin log) object at found.kind
  pub rest : (object at : ℕ) (found : Object) → object_at basin.objects object ≡ Some found → is_data basin object ≡ false → 1 ≤ at → at ≤ opening log
      → (at < opening log) ⊎ (since basin log object ≡ None) → IsAtRest basin start (cells_of basin log) object at found.kind
  pub few : (object : ℕ) (found : Object) → object_at basin.objects object ≡ Some found → is_data basin object ≡ false → 1 ≤ opening log
      → IsFew basin log (cells_of basin log) object (opening log)

some_not : (test : Bool) (place : ℕ) → test ≡ false → (if not test then Some place else None) ≡ None → ⊥
some_not true place is none = both_ways true is refl
some_not false place is none = none-some _ (sym none)

module _ (basin : Draft) (start : Cells) (laid : IsLaidOut basin)
    (inputs_alone : (cell : Cell) (content : Content) → start cell ≡ Some content → content.writer ≡ Input) where
  sound_later : (last next : ℕ) (cells : Cells) → last ≤ next → IsSound basin start last cells → IsSound basin start next cells
  sound_later last next cells le sound = record {
    zeros = sound.zeros;
    kept = sound.kept;
    made = λ cell content is. elim (sound.made cell content is) [
      | inl there ↦ inl there
      | inr made ↦ let before = made.step in
          inr (record { object = made.object; writer = made.writer; ready = made.ready; owns = made.owns; step = omega (arith, before, le) })
    ];
    inside = sound.inside;
    shared = sound.shared;
  }

  -- ---- a timestep is opened

  nothing_new : (last step : ℕ) (cells : Cells) (object : ℕ) → last < step → IsSound basin start last cells → WroteNothing basin cells object step
  nothing_new last step cells object before sound place content is = by (slot_in_place basin.objects object place) refl
    where
      by : (slot : Option ℕ) → slot_in_place basin.objects object place ≡ slot
          → is_same_object content.writer (ByObject (record { 0 = object })) ≡ false
      by None at = absurd (none-some _ (sym (content-slot basin cells object step place None at) ∙ is))
      by (Some slot) at = elim (sound.made (cell_at slot step) content (sym (content-slot basin cells object step place (Some slot) at) ∙ is)) [
        | inl there ↦ ap (λ w. is_same_object w (ByObject (record { 0 = object }))) (inputs_alone (cell_at slot step) content there)
        | inr made ↦ let late = made.step in absurd (omega (arith, before, late))
      ]

  pub opens : (log : Log) (step : ℕ) → IsOrderly basin start log → standing log ≡ rests step → step < basin.control.stamps.count
      → IsOrderly basin start (opened (step + 1) ∷ log)
  opens log step is rest before =
      let here : StandsAt basin log (rests step) = subst (StandsAt basin log) rest is.stands in
      let last : step ≡ opening log = here.0 in
      record {
        sound = sound_later (opening log) (step + 1) (cells_of basin log) (omega (arith, last)) is.sound;
        stands = (refl, (omega arith, omega (arith, before)));
        said = λ object at found there ready first final. elim (cases_lt (opening log) at) [
          | inl later ↦ inr (nothing_new (opening log) at (cells_of basin log) object later is.sound)
          | inr old ↦ is.said object at found there ready first old
        ];
        rest = λ object at found there ready first final quiet. elim quiet [
          | inl earlier ↦
              let old : at ≤ opening log = omega (arith, earlier, last) in
              is.rest object at found there ready first old (inr (here.1.1 object found (omega (arith, first, old, last)) there ready))
          | inr none ↦ absurd (some_not (is_data basin object) (length log) ready none)
        ];
        few = λ object found there ready some. let one = one_few (is_some (since basin (opened (step + 1) ∷ log) object)) in omega (arith, one);
      }

  -- ---- it is closed

  pub closes : (log : Log) (step : ℕ) → IsOrderly basin start log → standing log ≡ inside step → waiting basin log ≡ []
      → IsOrderly basin start (closed step ∷ log)
  closes log step is open_step empty =
      let here : StandsAt basin log (inside step) = subst (StandsAt basin log) open_step is.stands in
      record {
        sound = is.sound;
        stands = (
          here.0,
          (
            here.1.1,
            λ object found first there ready. or_none (since basin log object)
                ∙ nobody_waits basin log object found empty there,
          ),
        );
        said = is.said;
        rest =
            λ object at found there ready first final quiet.
            is.rest object at found there ready first final (inr (nobody_waits basin log object found empty there));
        few = λ object found there ready some.
            subst (λ s. dispatches log object + one_if (is_some s) ≤ 1 + known_count basin (cells_of basin log) object (opening log))
            (sym (or_none (since basin log object)))
            (is.few object found there ready some);
      }

  -- ---- an object is dispatched

  module _ (log : Log) (step object : ℕ) (own : Object) (event : Event) (is : IsOrderly basin start log)
      (is_own : object_at basin.objects object ≡ Some own)
      (last : step ≡ opening log) (waits : is_some (since basin log object) ≡ true)
      (left : Leaves basin start step object own.kind (cells_of basin log) event) where
    abbrev after : Cells
    after = held_after basin event (cells_of basin log)

    -- what is known of the object at the timestep, said of any that are the same
    own_too : (P : ℕ → ℕ → Kind → Type 0) (other at : ℕ) (found : Object) → P object step own.kind → at ≡ step → other ≡ object
        → object_at basin.objects other ≡ Some found
        → P other at found.kind
    own_too P other at found holds at_step is_object is_there =
        let kinds : own ≡ found = same_Some _ _ (sym is_own ∙ ap (object_at basin.objects) (sym is_object) ∙ is_there) in
        subst (λ (k : Object). P other at k.kind) kinds
        (subst (λ o. P o at own.kind) (sym is_object) (subst (λ t. P object t own.kind) (sym at_step) holds))

    still_said : (other at : ℕ) (found : Object) → object_at basin.objects other ≡ Some found → is_data basin other ≡ false → 1 ≤ at
        → at ≤ opening log
        → HasSaid basin start after other at found.kind
    still_said other at found is_there ready low high = elim (cases_eq at step) [
      | inl at_step ↦ elim (cases_eq other object) [
        | inl same ↦ own_too (λ o t k. HasSaid basin start after o t k) other at found left.said at_step same is_there
        | inr differs ↦ said_carries basin start step object own.kind laid (cells_of basin log) event left other at found.kind (inr differs)
            (is.said other at found is_there ready low high)
      ]
      | inr apart ↦ said_carries basin start step object own.kind laid (cells_of basin log) event left other at found.kind (inl apart)
          (is.said other at found is_there ready low high)
    ]

    still_rests : (other at : ℕ) (found : Object) → object_at basin.objects other ≡ Some found → is_data basin other ≡ false → 1 ≤ at
        → at ≤ opening log
        → (at < step) ⊎ (since basin (event ∷ log) other ≡ None) → IsAtRest basin start after other at found.kind
    still_rests other at found is_there ready low high quiet = elim (cases_eq at step) [
      | inl at_step ↦ elim (cases_eq other object) [
        | inl same ↦ own_too (λ o t k. IsAtRest basin start after o t k) other at found left.rest at_step same is_there
        | inr differs ↦ elim quiet [
          | inl earlier ↦ absurd (omega (arith, earlier, at_step))
          | inr none ↦
              let facts = other_rests basin log object step event left.asked other differs ready none in
              subst (λ t. IsAtRest basin start after other t found.kind) (sym at_step)
              (rest_unreached basin start step object own.kind laid (cells_of basin log) event left other found.kind facts.1
              (subst (λ t. IsAtRest basin start (cells_of basin log) other t found.kind) at_step
              (is.rest other at found is_there ready low high (inr facts.0))))
        ]
      ]
      | inr apart ↦
          let earlier : at < step = by apart in
          rest_earlier basin start step object own.kind laid (cells_of basin log) event left other at found.kind earlier
          (is.rest other at found is_there ready low high (inl (omega (arith, earlier, last))))
    ]
      where
        by : at ≢ step → at < step
        by apart = elim (cases_lt at step) [
          | inl earlier ↦ earlier
          | inr later ↦ absurd (apart (omega (arith, later, high, last)))
        ]

    still_few : (other : ℕ) (found : Object) → object_at basin.objects other ≡ Some found → is_data basin other ≡ false → 1 ≤ opening log
        → IsFew basin (event ∷ log) after other (opening log)
    still_few other found is_there ready some =
        let before = is.few other found is_there ready some in
        let more = count_grows basin (cells_of basin log) after other (opening log) left.grows in
        elim (cases_eq other object) [
          | inl same ↦
              let own_count : dispatches (event ∷ log) other ≡ dispatches log other + 1 =
              subst (λ o. dispatches (event ∷ log) o ≡ dispatches log o + 1) (sym same) (counts_own basin log object step event left.asked) in
              let none : one_if (is_some (since basin (event ∷ log) other)) ≡ 0 =
              ap (λ s. one_if (is_some s)) (subst (λ o. since basin (event ∷ log) o ≡ None) (sym same)
              (own_rests basin log object step event left.asked)) in
              let one : one_if (is_some (since basin log other)) ≡ 1 = ap one_if (subst (λ o. is_some (since basin log o) ≡ true) (sym same) waits) in
              omega (arith, before, own_count, none, one, more)
          | inr apart ↦
              let same_count = counts_other basin log object step event left.asked other apart in
              elim (other_woken basin log object step event left.asked other apart ready) [
                | inl no_more ↦ omega (arith, before, same_count, no_more, more)
                | inr woken ↦
                    let reached = reached_by basin (cells_of basin log) other step (written_by event) laid is.sound.shared left.new woken.1 in
                    let rises : suc (known_count basin (cells_of basin log) other step) ≤ known_count basin after other step =
                    count_rises basin (cells_of basin log) after other step left.grows reached.place reached.slot
                    (laid.few other reached.place reached.slot found is_there reached.at) reached.at reached.none (some_or _ _ reached.some) in
                    let rises_here : suc (known_count basin (cells_of basin log) other (opening log)) ≤ known_count basin after other (opening log) =
                    subst (λ t. suc (known_count basin (cells_of basin log) other t) ≤ known_count basin after other t) last rises in
                    let none : one_if (is_some (since basin log other)) ≡ 0 = ap (λ s. one_if (is_some s)) woken.0 in
                    let one = one_few (is_some (since basin (event ∷ log) other)) in
                    omega (arith, before, same_count, rises_here, none, one)
              ]
        ]

  pub dispatched_orderly : (log : Log) (step object : ℕ) (event : Event) → IsOrderly basin start log → standing log ≡ inside step
      → Contains (waiting basin log) object → dispatched basin (cells_of basin log) object step ≡ event → ¬ IsFault event
      → IsOrderly basin start (event ∷ log)
  dispatched_orderly log step object event is open_step contains e fine =
      let here : StandsAt basin log (inside step) = subst (StandsAt basin log) open_step is.stands in
      let waits = waits_since basin log object contains in
      let ready = since_ready basin log object waits in
      let there = ready_object basin object ready in
      let sound : IsSound basin start step (cells_of basin log) =
      subst (λ last. IsSound basin start last (cells_of basin log)) (sym here.0) is.sound in
      let left = leaves basin start step object there.0 laid there.1 ready (cells_of basin log) sound event e fine
      (is.said object step there.0 there.1 ready here.1.0 (omega (arith, here.0))) in
      let opened_one = still_opened basin log object step event left.asked in
      let now : step ≡ opening (event ∷ log) = here.0 ∙ sym opened_one in
      record {
        sound = subst (λ last. IsSound basin start last (held_after basin event (cells_of basin log))) now left.sound;
        stands = subst (StandsAt basin (event ∷ log)) (sym (still_inside basin log object step event left.asked)) (now, here.1);
        said = λ other at found is_there is_ready low high.
            still_said log step object there.0 event is there.1 here.0 waits left other at found is_there is_ready low
            (omega (arith, high, opened_one));
        rest = λ other at found is_there is_ready low high quiet.
            still_rests log step object there.0 event is there.1 here.0 waits left other at found is_there is_ready low
            (omega (arith, high, opened_one))
            (elim quiet [ inl earlier ↦ inl (omega (arith, earlier, now)) | inr none ↦ inr none ]);
        few = λ other found is_there is_ready some.
            subst (IsFew basin (event ∷ log) (held_after basin event (cells_of basin log)) other) (sym opened_one)
            (still_few log step object there.0 event is there.1 here.0 waits left other found is_there is_ready (omega (arith, some, opened_one)));
      }
