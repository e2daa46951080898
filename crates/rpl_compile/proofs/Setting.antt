-- What the proof for a tree goes by: the code, the block that the tree's code stands in, and the functions that can be called (`Setting`).
-- `Claim` is what is proved of each tree: where its code stands (`Wants`) and its names have their values (`Here`), the machine comes to its value,
-- on top of the operands, and the locals of names are as they were (`Left`).
use Rattle.rpl_compile.proofs.Common.{Block, BoundName, Callee, Env, Frame, Function, HasHead, Head, Instruction, IsKinded, Kind, List, Names}
use Rattle.rpl_compile.proofs.Common.{Outcome, Running, Site, Some, State, Tree, Value, World, [], ap, ap₂, arith, call_line, called, callee_heads}
use Rattle.rpl_compile.proofs.Common.{code_kinds, code_of, function_heads, keeping, kind_at, kinds_of, length, local_kinds, locals_of, names_in}
use Rattle.rpl_compile.proofs.Common.{names_of_env, numbered, over, refl, result_named, reverse, size, slice_get, subst, suc, sym, takes_named}
use Rattle.rpl_compile.proofs.Common.{value_of, ℕ, ◌++◌, ◌+◌, ◌<◌, ◌>>=◌, ◌∙◌, ◌∷◌, ◌≡◌, ◌≤◌}
use Rattle.rpl_compile.proofs.Goes.{Goes, goes_bind, goes_weaker}
use Rattle.rpl_compile.proofs.OfKind.{At, HasKind, HaveKinds, kind_coded}

-- ---- functions

-- wherever the instruction stands, it does with arguments what the function does
abbrev pub DoesCall : List Block → World → Instruction → Function → Type 0
DoesCall code world line known =
    (own : ℕ) (block : Block) (place : ℕ) (locals arguments operands : List Value) (loops : List Running) (callers : List Frame)
    → numbered code own ≡ Some block → slice_get block.lines place ≡ Some line → HaveKinds known.head.takes arguments
    → Goes code world (record { block = own; place = place; locals = locals; operands = reverse arguments ++ operands; loops = loops } ∷ callers)
    (known.does arguments)
    (λ a_value next_state.
    (next_state ≡ record { block = own; place = suc place; locals = locals; operands = a_value ∷ operands; loops = loops } ∷ callers)
    × HasKind known.head.result a_value)

-- a function that is called so
pub record Known (code : List Block) (world : World) (callees : List Callee) (functions : List Function) (function_name : List ℕ) : Type 0 where
  pub known : Function
  pub found : (go : Function → Outcome Value) → called functions function_name go ≡ go known
  pub takes : takes_named (callee_heads callees) function_name ≡ known.head.takes
  pub result : result_named (callee_heads callees) function_name ≡ known.head.result
  pub does : DoesCall code world (call_line callees function_name) known

abbrev pub CanCall : List Block → World → List Callee → List Function → Type 0
CanCall code world callees functions = (function_name : List ℕ) → HasHead (callee_heads callees) function_name
    → Known code world callees functions function_name

-- ---- a block

pub record Setting : Type 0 where
  pub code : List Block
  pub world : World
  pub own : ℕ
  pub block : Block
  pub kinds : List Kind
  pub callees : List Callee
  pub functions : List Function
  pub stands : numbered code own ≡ Some block
  pub locals_are : locals_of block ≡ code_kinds kinds
  pub same_heads : function_heads functions ≡ callee_heads callees
  pub calls : CanCall code world callees functions

-- ---- names

-- names, their values, and the locals that hold them
abbrev pub Holds : List Kind → List BoundName → Env → List Value → ℕ → Type 0
Holds kinds [] [] locals free = Unit {0}
Holds kinds (bound_name ∷ scope) (entry ∷ environment) locals free =
    (bound_name.name ≡ entry.0) × HasKind bound_name.kind entry.1 × (slice_get locals bound_name.local ≡ Some entry.1) × (bound_name.local < free)
    × (slice_get kinds bound_name.local ≡ Some bound_name.kind)
    × Holds kinds scope environment locals free
Holds kinds _ _ locals free = ⊥

-- as many locals, of which the first are as they were
abbrev pub Kept : ℕ → List Value → List Value → Type 0
Kept free locals locals_now = (length locals_now ≡ length locals) × ((i : ℕ) → i < free → slice_get locals_now i ≡ slice_get locals i)

pub same_kept : (free : ℕ) (locals : List Value) → Kept free locals locals
same_kept free locals = (refl, λ i less. refl)

pub then_kept : (free more : ℕ) (locals locals_now locals_then : List Value) → free ≤ more → Kept free locals locals_now
    → Kept more locals_now locals_then → Kept free locals locals_then
then_kept free more locals locals_now locals_then at_most kept kept_then =
    (kept_then.0 ∙ kept.0, λ i less. kept_then.1 i (omega (arith, less, at_most)) ∙ kept.1 i less)

pub kept_less : (free more : ℕ) (locals locals_now : List Value) → free ≤ more → Kept more locals locals_now → Kept free locals locals_now
kept_less free more locals locals_now at_most kept = (kept.0, λ i less. kept.1 i (omega (arith, less, at_most)))

pub holds_kept : (kinds : List Kind) (scope : List BoundName) (environment : Env) (locals locals_now : List Value) (free more : ℕ)
    → Holds kinds scope environment locals free
    → free ≤ more → Kept free locals locals_now → Holds kinds scope environment locals_now more
holds_kept kinds [] [] locals locals_now free more holds at_most kept = tt
holds_kept kinds (bound_name ∷ scope) (entry ∷ environment) locals locals_now free more holds at_most kept = (
  holds.0,
  holds.1,
  kept.1 bound_name.local holds.3
      ∙ holds.2,
  omega (arith, holds.3, at_most),
  holds.4,
  holds_kept kinds scope environment locals locals_now free more holds.5 at_most kept,
)
holds_kept kinds [] (entry ∷ environment) locals locals_now free more holds at_most kept = absurd holds
holds_kept kinds (bound_name ∷ scope) [] locals locals_now free more holds at_most kept = absurd holds

pub names_same : (kinds : List Kind) (scope : List BoundName) (environment : Env) (locals : List Value) (free : ℕ)
    → Holds kinds scope environment locals free
    → names_of_env environment ≡ names_in scope
names_same kinds [] [] locals free holds = refl
names_same kinds (bound_name ∷ scope) (entry ∷ environment) locals free holds =
    ap₂ (λ (entry : List ℕ × Kind) (names : Names). entry ∷ names)
    (ap₂ (λ (called_so : List ℕ) (kind : Kind). (called_so, kind)) (sym holds.0) holds.1.0)
    (names_same kinds scope environment locals free holds.5)
names_same kinds [] (entry ∷ environment) locals free holds = absurd holds
names_same kinds (bound_name ∷ scope) [] locals free holds = absurd holds

-- ---- a tree

module _ (setting : Setting) where
  abbrev pub heads_in : List Head
  heads_in = callee_heads setting.callees

  abbrev pub frame_at : ℕ → List Value → List Value → List Running → Frame
  frame_at place locals operands loops = record { block = setting.own; place = place; locals = locals; operands = operands; loops = loops }

  -- at a site the names have their values, there are as many locals as the block has, and the operands are of the kinds below
  abbrev pub Here : Site → Env → List Value → List Value → Type 0
  Here site environment locals operands = Holds setting.kinds site.scope environment locals site.free × (length locals ≡ length setting.kinds)
      × (kinds_of operands ≡ code_kinds site.below)

  -- its code stands at the site, its locals are kept for it, and its parts are of the kinds that they have to be
  abbrev pub Wants : Site → Tree → Type 0
  Wants site expression =
      At setting.block.lines site.place (code_of setting.callees site expression)
      × At setting.kinds site.free (local_kinds heads_in (names_in site.scope) expression)
      × IsKinded setting.world.basin heads_in (names_in site.scope) expression

  -- what a tree leaves: its value on top, at the place behind it, with the locals below `free` as they were
  pub record Left (kind : Kind) (free end : ℕ) (locals operands : List Value) (loops : List Running) (callers : List Frame) (a_value : Value)
      (next_state : State) : Type 0 where
    pub locals_behind : List Value
    pub is : next_state ≡ frame_at end locals_behind (a_value ∷ operands) loops ∷ callers
    pub of_kind : HasKind kind a_value
    pub kept : Kept free locals locals_behind

  abbrev pub Claim : Tree → Type 0
  Claim expression = (site : Site) (environment : Env) (locals operands : List Value) (loops : List Running) (callers : List Frame)
      → Wants site expression → Here site environment locals operands
      → Goes setting.code setting.world (frame_at site.place locals operands loops ∷ callers)
      (value_of setting.world setting.functions environment expression)
      (Left (kind_at heads_in site expression) site.free (site.place + size heads_in (names_in site.scope) expression) locals operands loops callers)

  pub left : (kind : Kind) (free end place : ℕ) (locals locals_now operands : List Value) (loops : List Running) (callers : List Frame)
      (a_value : Value) → place ≡ end → HasKind kind a_value
      → Kept free locals locals_now
      → Left kind free end locals operands loops callers a_value (frame_at place locals_now (a_value ∷ operands) loops ∷ callers)
  left kind free end place locals locals_now operands loops callers a_value place_is has_kind kept =
      record {
        locals_behind = locals_now;
        is = ap (λ n. frame_at n locals_now (a_value ∷ operands) loops ∷ callers) place_is;
        of_kind = has_kind;
        kept = kept;
      }

  -- the same, from earlier locals and at the place by another name
  pub left_from : (kind : Kind) (free more end same_end : ℕ) (locals locals_now operands : List Value) (loops : List Running) (callers : List Frame)
      (a_value : Value) (next_state : State)
      → end ≡ same_end → free ≤ more → Kept free locals locals_now → Left kind more end locals_now operands loops callers a_value next_state
      → Left kind free same_end locals operands loops callers a_value next_state
  left_from kind free more end same_end locals locals_now operands loops callers a_value next_state end_is at_most kept leaves =
      record {
        locals_behind = leaves.locals_behind;
        is = leaves.is ∙ ap (λ n. frame_at n leaves.locals_behind (a_value ∷ operands) loops ∷ callers) end_is;
        of_kind = leaves.of_kind;
        kept = then_kept free more locals locals_now leaves.locals_behind at_most kept leaves.kept;
      }

  pub goes_left : (kind : Kind) (free more end same_end : ℕ) (locals locals_now operands : List Value) (loops : List Running) (callers : List Frame)
      (state : State) (outcome : Outcome Value)
      → end ≡ same_end → free ≤ more → Kept free locals locals_now
      → Goes setting.code setting.world state outcome (Left kind more end locals_now operands loops callers)
      → Goes setting.code setting.world state outcome (Left kind free same_end locals operands loops callers)
  goes_left kind free more end same_end locals locals_now operands loops callers state outcome end_is at_most kept goes =
      goes_weaker setting.code setting.world state outcome (Left kind more end locals_now operands loops callers)
      (Left kind free same_end locals operands loops callers)
      (λ a_value next_state leaves.
      left_from kind free more end same_end locals locals_now operands loops callers a_value next_state end_is at_most kept leaves) goes

  -- what follows a part goes on from where the part leaves
  pub part : {A : Type 0} (kind : Kind) (free end : ℕ) (locals operands : List Value) (loops : List Running) (callers : List Frame) (state : State)
      (outcome : Outcome Value)
      (next : Value → Outcome A) (Wanted : A → State → Type 0)
      → Goes setting.code setting.world state outcome (Left kind free end locals operands loops callers)
      → ((a_value : Value) (locals_now : List Value) → HasKind kind a_value → Kept free locals locals_now
      → Goes setting.code setting.world (frame_at end locals_now (a_value ∷ operands) loops ∷ callers) (next a_value) Wanted)
      → Goes setting.code setting.world state (outcome >>= next) Wanted
  part kind free end locals operands loops callers state outcome next Wanted goes go =
      goes_bind setting.code setting.world state outcome next (Left kind free end locals operands loops callers) Wanted goes
      (λ a_value next_state leaves.
      subst (λ t. Goes setting.code setting.world t (next a_value) Wanted) (sym leaves.is)
      (go a_value leaves.locals_behind leaves.of_kind leaves.kept))

  pub goes_at : {A : Type 0} (place same_place : ℕ) (locals operands : List Value) (loops : List Running) (callers : List Frame) (outcome : Outcome A)
      (Wanted : A → State → Type 0)
      → place ≡ same_place → Goes setting.code setting.world (frame_at place locals operands loops ∷ callers) outcome Wanted
      → Goes setting.code setting.world (frame_at same_place locals operands loops ∷ callers) outcome Wanted
  goes_at place same_place locals operands loops callers outcome Wanted place_is goes =
      subst (λ n. Goes setting.code setting.world (frame_at n locals operands loops ∷ callers) outcome Wanted) place_is goes

  -- further on
  pub here_on : (site : Site) (environment : Env) (locals locals_now operands : List Value) (number : ℕ) → Here site environment locals operands
      → Kept site.free locals locals_now
      → Here (keeping number site) environment locals_now operands
  here_on site environment locals locals_now operands number here kept = (
    holds_kept setting.kinds site.scope environment locals locals_now site.free (site.free + number) here.0 (omega arith) kept,
    kept.0
        ∙ here.1,
    here.2,
  )

  pub here_over : (site : Site) (environment : Env) (locals operands : List Value) (kind : Kind) (a_value : Value) → HasKind kind a_value
      → Here site environment locals operands
      → Here (over kind site) environment locals (a_value ∷ operands)
  here_over site environment locals operands kind a_value has_kind here =
      (here.0, here.1, ap₂ (λ a b. a ∷ b) (kind_coded kind a_value has_kind) here.2)
