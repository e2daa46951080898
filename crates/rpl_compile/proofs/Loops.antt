-- The turns of FOR and MAP, from a body that does what it means: by recursion on the elements that are left (`each_goes`, `map_goes`).
-- `Entering` has the steps that begin and end a turn; `Visits` and `Mappings` put the forms together.
use Rattle.rpl_compile.proofs.Common.{Frame, Kind, List, Outcome, Running, Some, State, Value, [], a_number, after, ap, append-nil, append_assoc, ap₂}
use Rattle.rpl_compile.proofs.Common.{arith, behind_loop, gives, length, mapping, number_kind, numbers, numbers_for, refl, set, slice_get}
use Rattle.rpl_compile.proofs.Common.{slice_get_within, spent, subst, suc, sym, turns, visiting, weight, with_left, with_number, ℕ, ℤ, ◌++◌, ◌+◌, ◌<◌}
use Rattle.rpl_compile.proofs.Common.{◌>>=◌, ◌∙◌, ◌∷◌, ◌≡◌, ◌≤◌}
use Rattle.rpl_code.specs.declared.instruction.Instruction.TheVariants as I
use Rattle.rpl_compile.proofs.Goes.{Goes, after_after, goes_bind, goes_first, goes_none}
use Rattle.rpl_compile.proofs.OfKind.{HasKind, number_is, set_behind, set_here, set_long}
use Rattle.rpl_compile.proofs.Setting.{Kept, Left, Setting, frame_at, goes_at, part, then_kept}
use Rattle.rpl_compile.proofs.Steps.{stores}
use Rattle.rpl_compile.proofs.Bindings.{kept_set}
use Rattle.rpl_compile.proofs.Rows.{AllHave}
use Rattle.rpl_compile.proofs.Entering.{loop_at, next_step, turn, yield_step}

module _ (setting : Setting) where
  -- ---- FOR, turn by turn, from a body that does what it means

  -- what it leaves: its last total, in its local
  pub record Looped (kind : Kind) (free end : ℕ) (locals operands : List Value) (loops : List Running) (callers : List Frame) (a_value : Value)
      (next_state : State) : Type 0 where
    pub locals_behind : List Value
    pub is : next_state ≡ frame_at setting end locals_behind operands loops ∷ callers
    pub of_kind : HasKind kind a_value
    pub kept : Kept free locals locals_behind
    pub total : slice_get locals_behind (free + 1) ≡ Some a_value

  module _ (element_kind kind : Kind) (free next place body_size past : ℕ) (running : Running) (locals operands : List Value) (loops : List Running)
      (callers : List Frame)
      (body : Value → Value → Outcome Value)
      (long : length locals ≡ length setting.kinds) (has : slice_get setting.kinds free ≡ Some element_kind)
      (has_total : slice_get setting.kinds (free + 1) ≡ Some kind)
      (at_most : free + 2 ≤ next)
      (starts : running.start ≡ place) (names_local : running.local ≡ free) (is_for : running.loop ≡ visiting)
      (keeps : slice_get setting.block.lines (suc place + body_size) ≡ Some (I.Store (free + 1)))
      (turns_back : slice_get setting.block.lines (suc place + body_size + 1) ≡ Some I.Next)
      (ends : suc place + body_size + 2 ≡ past)
      (does : (a_value total_so_far : Value) (locals_now values : List Value) → HasKind element_kind a_value → HasKind kind total_so_far
      → Kept free locals locals_now → slice_get locals_now free ≡ Some a_value
      → slice_get locals_now (free + 1) ≡ Some total_so_far
      → Goes setting.code setting.world (frame_at setting (suc place) locals_now operands (with_left values running ∷ loops) ∷ callers)
      (body a_value total_so_far)
      (Left setting kind next (suc place + body_size) locals_now operands (with_left values running ∷ loops) callers)) where
    entry_is : (a_value : Value) (values locals_now : List Value)
        → turn setting past running (a_value ∷ values) locals_now operands loops
        ≡ frame_at setting (suc place) (set locals_now free a_value) operands (with_left values running ∷ loops)
    entry_is a_value values locals_now =
        ap₂ (λ a b. frame_at setting (suc a) (set locals_now b a_value) operands (with_left values running ∷ loops)) starts names_local

    pub each_goes : (values locals_now : List Value) (total_so_far : Value) → AllHave element_kind values → HasKind kind total_so_far
        → Kept free locals locals_now → slice_get locals_now (free + 1) ≡ Some total_so_far
        → Goes setting.code setting.world (turn setting past running values locals_now operands loops ∷ callers)
        (turns (weight kind) body total_so_far values) (Looped kind free past locals operands loops callers)
    each_goes [] locals_now total_so_far all_have has_kind kept total_stands =
        goes_none setting.code setting.world
        (frame_at setting past locals_now (behind_loop running.loop running.room running.made operands) loops ∷ callers) total_so_far
        (Looped kind free past locals operands loops callers)
        (record {
          locals_behind = locals_now;
          is = ap (λ l. frame_at setting past locals_now (behind_loop l running.room running.made operands) loops ∷ callers) is_for;
          of_kind = has_kind;
          kept = kept;
          total = total_stands;
        })
    each_goes (a_value ∷ values) locals_now total_so_far all_have has_kind kept total_stands =
        let locals_in_turn : List Value = set locals_now free a_value in
        let there : free < length locals_now = omega (arith, slice_get_within setting.kinds free element_kind has, kept.0, long) in
        let total_kept : slice_get locals_in_turn (free + 1) ≡ Some total_so_far = set_behind locals_now free (free + 1) a_value (omega arith)
        ∙ total_stands in
        let end : ℕ = suc place + body_size in
        let Wanted = Looped kind free past locals operands loops callers in
        subst (λ (frame : Frame). Goes setting.code setting.world (frame ∷ callers) (turns (weight kind) body total_so_far (a_value ∷ values)) Wanted)
        (sym (entry_is a_value values locals_now))
        (part setting kind next end locals_in_turn operands (with_left values running ∷ loops) callers
        (frame_at setting (suc place) locals_in_turn operands (with_left values running ∷ loops) ∷ callers) (body a_value total_so_far)
        (λ new. after (spent (weight kind + 1)) (turns (weight kind) body new values)) Wanted
        (does a_value total_so_far locals_in_turn values all_have.0 has_kind (kept_set free free locals locals_now a_value (omega arith) kept)
        (set_here locals_now free a_value there) total_kept)
        (λ new locals_then new_has_kind kept_then.
        let locals_next : List Value = set locals_then (free + 1) new in
        let kept_next = kept_set free (free + 1) locals locals_then new (omega arith)
        (then_kept free next locals locals_in_turn locals_then (omega (arith, at_most))
        (kept_set free free locals locals_now a_value (omega arith) kept) kept_then) in
        let far : free + 1 < length locals_then =
        omega (arith, slice_get_within setting.kinds (free + 1) kind has_total, kept_then.0, set_long locals_now free a_value, kept.0, long) in
        let same_place : end + 1 ≡ suc end = omega arith in
        let same_past : suc (end + 1) ≡ past = omega (arith, ends) in
        let outcome : Outcome Value = turns (weight kind) body new values in
        subst (λ m.
        Goes setting.code setting.world (frame_at setting end locals_then (new ∷ operands) (with_left values running ∷ loops) ∷ callers) m Wanted)
        (after_after (spent (weight kind)) (spent 1) outcome)
        (goes_first setting.code setting.world (frame_at setting end locals_then (new ∷ operands) (with_left values running ∷ loops)) callers
        (frame_at setting (suc end) locals_next operands (with_left values running ∷ loops) ∷ callers)
        (spent (weight kind)) (after (spent 1) outcome) Wanted
        (stores setting end (free + 1) locals_then operands (with_left values running ∷ loops) callers new kind keeps has_total new_has_kind
        ∙ ap (λ k. gives (frame_at setting (suc end) locals_next operands (with_left values running ∷ loops) ∷ callers) (weight k)) new_has_kind.0)
        (goes_at setting (end + 1) (suc end) locals_next operands (with_left values running ∷ loops) callers
        (after (spent 1) outcome) Wanted same_place
        (goes_first setting.code setting.world (frame_at setting (end + 1) locals_next operands (with_left values running ∷ loops)) callers
        (turn setting past running values locals_next operands loops ∷ callers) (spent 1) outcome Wanted
        (next_step setting (end + 1) past running values locals_next operands loops callers is_for turns_back same_past)
        (each_goes values locals_next new all_have.1 new_has_kind kept_next (set_here locals_then (free + 1) new far)))))))

  -- ---- MAP, turn by turn

  -- what it leaves: the numbers that it made, behind those that were made before
  pub record Mapped (room free end : ℕ) (made : List ℤ) (many : ℕ) (locals operands : List Value) (loops : List Running) (callers : List Frame)
      (quantities : List ℤ)
      (next_state : State) : Type 0 where
    pub locals_behind : List Value
    pub is : next_state ≡ frame_at setting end locals_behind (numbers room (made ++ quantities) ∷ operands) loops ∷ callers
    pub kept : Kept free locals locals_behind
    pub as_many : length quantities ≡ many

  module _ (element_kind : Kind) (free next place body_size past room : ℕ) (locals operands : List Value) (loops : List Running)
      (callers : List Frame) (body : Value → Outcome Value)
      (long : length locals ≡ length setting.kinds) (has : slice_get setting.kinds free ≡ Some element_kind) (at_most : free + 1 ≤ next)
      (yields : slice_get setting.block.lines (suc place + body_size) ≡ Some I.Yield) (ends : suc (suc place + body_size) ≡ past)
      (does : (a_value : Value) (locals_now : List Value) (loops_now : List Running) → HasKind element_kind a_value → Kept free locals locals_now
      → slice_get locals_now free ≡ Some a_value
      → Goes setting.code setting.world (frame_at setting (suc place) locals_now operands loops_now ∷ callers) (body a_value)
      (Left setting number_kind next (suc place + body_size) locals_now operands loops_now callers)) where
    abbrev running : List Value → List ℤ → Running
    running values made = loop_at place mapping room free values made

    pub map_goes : (values locals_now : List Value) (made : List ℤ) → AllHave element_kind values → Kept free locals locals_now
        → Goes setting.code setting.world (turn setting past (running [] made) values locals_now operands loops ∷ callers) (numbers_for body values)
        (Mapped room free past made (length values) locals operands loops callers)
    map_goes [] locals_now made all_have kept =
        goes_none setting.code setting.world (frame_at setting past locals_now (numbers room made ∷ operands) loops ∷ callers) []
        (Mapped room free past made 0 locals operands loops callers)
        (record {
          locals_behind = locals_now;
          is = ap (λ l. frame_at setting past locals_now (numbers room l ∷ operands) loops ∷ callers) (sym (append-nil made));
          kept = kept;
          as_many = refl;
        })
    map_goes (a_value ∷ values) locals_now made all_have kept =
        let locals_in_turn : List Value = set locals_now free a_value in
        let there : free < length locals_now = omega (arith, slice_get_within setting.kinds free element_kind has, kept.0, long) in
        let end : ℕ = suc place + body_size in
        let loops_now : List Running = running values made ∷ loops in
        let Wanted = Mapped room free past made (suc (length values)) locals operands loops callers in
        let kept_here = kept_set free free locals locals_now a_value (omega arith) kept in
        part setting number_kind next end locals_in_turn operands loops_now callers
        (frame_at setting (suc place) locals_in_turn operands loops_now ∷ callers) (body a_value)
        (λ new. with_number new (λ z. after (spent 1) (numbers_for body values >>= (λ quantities. gives (z ∷ quantities) 0)))) Wanted
        (does a_value locals_in_turn loops_now all_have.0 kept_here (set_here locals_now free a_value there))
        (λ new locals_then has_kind kept_then.
        let number_so = number_is new has_kind in
        let kept_next = then_kept free next locals locals_in_turn locals_then (omega (arith, at_most)) kept_here kept_then in
        subst (λ a_value. Goes setting.code setting.world (frame_at setting end locals_then (a_value ∷ operands) loops_now ∷ callers)
        (with_number a_value (λ z. after (spent 1) (numbers_for body values >>= (λ quantities. gives (z ∷ quantities) 0)))) Wanted) (sym number_so.1)
        (goes_first setting.code setting.world (frame_at setting end locals_then (a_number number_so.0 ∷ operands) loops_now) callers
        (turn setting past (running [] (made ++ number_so.0 ∷ [])) values locals_then operands loops ∷ callers)
        (spent 1) (numbers_for body values >>= (λ quantities. gives (number_so.0 ∷ quantities) 0)) Wanted
        (yield_step setting end past (running [] made) number_so.0 values locals_then operands loops callers refl yields ends)
        (goes_bind setting.code setting.world (turn setting past (running [] (made ++ number_so.0 ∷ [])) values locals_then operands loops ∷ callers)
        (numbers_for body values) (λ quantities. gives (number_so.0 ∷ quantities) 0)
        (Mapped room free past (made ++ number_so.0 ∷ []) (length values) locals operands loops callers) Wanted
        (map_goes values locals_then (made ++ number_so.0 ∷ []) all_have.1 kept_next)
        (λ quantities next_state leaves.
        goes_none setting.code setting.world next_state (number_so.0 ∷ quantities) Wanted
        (record {
          locals_behind = leaves.locals_behind;
          is = leaves.is
              ∙ ap (λ l. frame_at setting past leaves.locals_behind (numbers room l ∷ operands) loops ∷ callers)
              (append_assoc made (number_so.0 ∷ []) quantities);
          kept = leaves.kept;
          as_many = ap suc leaves.as_many;
        })))))
