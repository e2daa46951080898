-- A value is given the room of its place: what the lines of `widening` do, and a tree with these lines behind it (`in_room`).
use Rattle.rpl_compile.proofs.Common.{Bool, Env, FitsIn, Frame, IsKinded, Kind, List, None, Running, Site, Some, Tree, Value, [], ap, arith, code_of}
use Rattle.rpl_compile.proofs.Common.{false, gives, if◌then◌else◌, inl, inr, is_same_kind, is_stuck, kind_at, kind_of_value, local_kinds, names_in}
use Rattle.rpl_compile.proofs.Common.{nat_le, nat_lt, nat_tests, numbers, numbers_kind, or_wrong, refl, room_lines, roomier, size, slice_get, slots}
use Rattle.rpl_compile.proofs.Common.{slots_kind, subst, sym, true, value_of, widened, widening, widening_size, ℕ, ◌++◌, ◌+◌, ◌<◌, ◌==◌, ◌>>=◌, ◌∙◌}
use Rattle.rpl_compile.proofs.Common.{◌∷◌, ◌≡◌, ◌⊎◌}
use Rattle.rpl_code.specs.declared.kind.ValueKind.TheVariants as K
use Rattle.rpl_code.specs.declared.instruction.Instruction.TheVariants as I
use Rattle.rpl_compile.proofs.Goes.{Goes, goes_none}
use Rattle.rpl_compile.proofs.OfKind.{At, HasKind, at_back, at_front, at_head, other_room, same_kind_refl}
use Rattle.rpl_compile.proofs.Sizes.{code-size}
use Rattle.rpl_compile.proofs.Setting.{Claim, Here, Left, Setting, frame_at, goes_left, heads_in, left, part, same_kept}
use Rattle.rpl_compile.proofs.Steps.{operates}

lower : (place_room room : ℕ) → room < place_room → nat_lt room place_room ≡ true
lower place_room room less = grind (arith, nat_tests, less)

not_higher : (place_room room : ℕ) → room < place_room → nat_le room place_room ≡ true
not_higher place_room room less = grind (arith, nat_tests, less)

module _ (setting : Setting) where
  -- from a value of one kind, the value that stands in a place of the other
  abbrev Widens : Kind → Kind → Type 0
  Widens place kind = (free end : ℕ) (locals_now operands : List Value) (loops : List Running) (callers : List Frame) (a_value : Value)
      → At setting.block.lines end (widening place kind) → HasKind kind a_value
      → Goes setting.code setting.world (frame_at setting end locals_now (a_value ∷ operands) loops ∷ callers) (widened place a_value)
      (Left setting place free (end + widening_size place kind) locals_now operands loops callers)

  as_it_is : (kind : Kind) → Widens kind kind
  as_it_is kind free end locals_now operands loops callers a_value placed has_kind =
      let end_is : end ≡ end + 0 = omega arith in
      let same_end : end ≡ end + widening_size kind kind = end_is ∙ ap (λ (test : Bool). end + (if test then 0 else 1)) (sym (same_kind_refl kind)) in
      let is_same : is_same_kind kind (kind_of_value a_value) ≡ true = ap (is_same_kind kind) has_kind.0 ∙ same_kind_refl kind in
      subst (λ (test : Bool).
      Goes setting.code setting.world (frame_at setting end locals_now (a_value ∷ operands) loops ∷ callers)
      (if test then gives a_value 0 else roomier kind a_value)
      (Left setting kind free (end + widening_size kind kind) locals_now operands loops callers)) (sym is_same)
      (goes_none setting.code setting.world (frame_at setting end locals_now (a_value ∷ operands) loops ∷ callers) a_value
      (Left setting kind free (end + widening_size kind kind) locals_now operands loops callers)
      (left setting kind free (end + widening_size kind kind) end locals_now locals_now operands loops callers a_value same_end has_kind
      (same_kept free locals_now)))

  -- a list that is widened, where its line and its test are known
  wider : (place kind : Kind) (place_room end free : ℕ) (locals_now operands : List Value) (loops : List Running) (callers : List Frame)
      (a_value : Value)
      → is_same_kind place kind ≡ false → is_same_kind place (kind_of_value a_value) ≡ false
      → At setting.block.lines end (if is_same_kind place kind then [] else I.Widen place_room ∷ [])
      → (slice_get setting.block.lines end ≡ Some (I.Widen place_room)
      → Goes setting.code setting.world (frame_at setting end locals_now (a_value ∷ operands) loops ∷ callers) (roomier place a_value)
      (Left setting place free (end + 1) locals_now operands loops callers))
      → Goes setting.code setting.world (frame_at setting end locals_now (a_value ∷ operands) loops ∷ callers) (widened place a_value)
      (Left setting place free (end + widening_size place kind) locals_now operands loops callers)
  wider place kind place_room end free locals_now operands loops callers a_value kinds_differ value_differs placed go =
      let line : At setting.block.lines end (I.Widen place_room ∷ []) =
      subst (λ (test : Bool). At setting.block.lines end (if test then [] else I.Widen place_room ∷ [])) kinds_differ placed in
      subst (λ (test : Bool).
      Goes setting.code setting.world (frame_at setting end locals_now (a_value ∷ operands) loops ∷ callers) (widened place a_value)
      (Left setting place free (end + (if test then 0 else 1)) locals_now operands loops callers)) (sym kinds_differ)
      (subst (λ (test : Bool).
      Goes setting.code setting.world (frame_at setting end locals_now (a_value ∷ operands) loops ∷ callers)
      (if test then gives a_value 0 else roomier place a_value)
      (Left setting place free (end + 1) locals_now operands loops callers)) (sym value_differs)
      (go (at_head setting.block.lines end (I.Widen place_room) [] line)))

  numbers_wider : (place_room kind_room : ℕ) → kind_room < place_room → Widens (numbers_kind place_room) (numbers_kind kind_room)
  numbers_wider place_room kind_room less free end locals_now operands loops callers (numbers room quantities) placed has_kind =
      let room_is : room ≡ kind_room = cc has_kind.0 in
      wider (numbers_kind place_room) (numbers_kind kind_room) place_room end free locals_now operands loops callers (numbers room quantities)
      (other_room place_room kind_room less) (ap (λ j. place_room == j) room_is ∙ other_room place_room kind_room less) placed
      (λ line.
      let holds : nat_le room place_room ≡ true = ap (λ j. nat_le j place_room) room_is ∙ not_higher place_room kind_room less in
      subst (λ r.
      Goes setting.code setting.world (frame_at setting end locals_now (numbers room quantities ∷ operands) loops ∷ callers) r
      (Left setting (numbers_kind place_room) free (end + 1) locals_now operands loops callers))
      (ap (λ (test : Bool). if test then gives (numbers place_room quantities) (place_room + 1) else is_stuck)
      (holds ∙ sym (ap (λ j. nat_lt j place_room) room_is ∙ lower place_room kind_room less)))
      (operates setting (numbers_kind place_room) free end locals_now (numbers room quantities ∷ []) operands loops callers
      (I.Widen place_room) tt refl line (has_kind.1, tt) refl
      (ap (λ (test : Bool). or_wrong (if test then Some (K.NList place_room ∷ []) else None)) holds)))
  numbers_wider place_room kind_room less free end locals_now operands loops callers _ placed has_kind = absurd (cc has_kind.0)

  slots_wider : (place_room kind_room : ℕ) → kind_room < place_room → Widens (slots_kind place_room) (slots_kind kind_room)
  slots_wider place_room kind_room less free end locals_now operands loops callers (slots room slot_numbers) placed has_kind =
      let room_is : room ≡ kind_room = cc has_kind.0 in
      wider (slots_kind place_room) (slots_kind kind_room) place_room end free locals_now operands loops callers (slots room slot_numbers)
      (other_room place_room kind_room less) (ap (λ j. place_room == j) room_is ∙ other_room place_room kind_room less) placed
      (λ line.
      let holds : nat_le room place_room ≡ true = ap (λ j. nat_le j place_room) room_is ∙ not_higher place_room kind_room less in
      subst (λ r.
      Goes setting.code setting.world (frame_at setting end locals_now (slots room slot_numbers ∷ operands) loops ∷ callers) r
      (Left setting (slots_kind place_room) free (end + 1) locals_now operands loops callers))
      (ap (λ (test : Bool). if test then gives (slots place_room slot_numbers) (place_room + 1) else is_stuck)
      (holds ∙ sym (ap (λ j. nat_lt j place_room) room_is ∙ lower place_room kind_room less)))
      (operates setting (slots_kind place_room) free end locals_now (slots room slot_numbers ∷ []) operands loops callers
      (I.Widen place_room) tt refl line (has_kind.1, tt) refl
      (ap (λ (test : Bool). or_wrong (if test then Some (K.SList place_room ∷ []) else None)) holds)))
  slots_wider place_room kind_room less free end locals_now operands loops callers _ placed has_kind = absurd (cc has_kind.0)

  by_wider : (place kind : Kind) (place_room kind_room : ℕ) → kind_room < place_room
      → (((place ≡ numbers_kind place_room) × (kind ≡ numbers_kind kind_room)) ⊎ ((place ≡ slots_kind place_room) × (kind ≡ slots_kind kind_room)))
      → Widens place kind
  by_wider place kind place_room kind_room less (inl e) =
      subst (λ p. Widens p kind) (sym e.0) (subst (λ k. Widens (numbers_kind place_room) k) (sym e.1) (numbers_wider place_room kind_room less))
  by_wider place kind place_room kind_room less (inr e) =
      subst (λ p. Widens p kind) (sym e.0) (subst (λ k. Widens (slots_kind place_room) k) (sym e.1) (slots_wider place_room kind_room less))

  pub widens : (place kind : Kind) → FitsIn place kind → Widens place kind
  widens place kind (inl e) = subst (λ p. Widens p kind) (sym e) (as_it_is kind)
  widens place kind (inr wider_so) = by_wider place kind wider_so.0 wider_so.1 wider_so.2 wider_so.3

  -- a tree and its room, at a site
  pub in_room : (place : Kind) (expression : Tree) (site : Site) (environment : Env) (locals operands : List Value) (loops : List Running)
      (callers : List Frame) → Claim setting expression
      → At setting.block.lines site.place (code_of setting.callees site expression ++ room_lines setting.callees place site expression)
      → At setting.kinds site.free (local_kinds (heads_in setting) (names_in site.scope) expression)
      → IsKinded setting.world.basin (heads_in setting) (names_in site.scope) expression → FitsIn place (kind_at (heads_in setting) site expression)
      → Here setting site environment locals operands
      → Goes setting.code setting.world (frame_at setting site.place locals operands loops ∷ callers)
      (value_of setting.world setting.functions environment expression >>= widened place)
      (Left setting place site.free
      (site.place + (size (heads_in setting) (names_in site.scope) expression + widening_size place (kind_at (heads_in setting) site expression)))
      locals operands loops callers)
  in_room place expression site environment locals operands loops callers claim_of_expression placed locals_at kinded fits here =
      let own_size = size (heads_in setting) (names_in site.scope) expression in
      let kind = kind_at (heads_in setting) site expression in
      let room_size = widening_size place kind in
      let Wanted = Left setting place site.free (site.place + (own_size + room_size)) locals operands loops callers in
      part setting kind site.free (site.place + own_size) locals operands loops callers (frame_at setting site.place locals operands loops ∷ callers)
      (value_of setting.world setting.functions environment expression) (widened place) Wanted
      (claim_of_expression site environment locals operands loops callers (
        at_front setting.block.lines site.place (code_of setting.callees site expression) (room_lines setting.callees place site expression) placed,
        locals_at,
        kinded,
      ) here)
      (λ a_value locals_now has_kind kept_so.
      goes_left setting place site.free site.free (site.place + own_size + room_size)
      (site.place + (own_size + room_size)) locals locals_now operands loops callers
      (frame_at setting (site.place + own_size) locals_now (a_value ∷ operands) loops ∷ callers) (widened place a_value) (omega arith)
      (omega arith) kept_so
      (widens place kind fits site.free (site.place + own_size) locals_now operands loops callers a_value
      (at_back setting.block.lines site.place own_size (code_of setting.callees site expression) (room_lines setting.callees place site expression)
      (code-size setting.world.basin setting.callees site expression kinded) placed) has_kind))
