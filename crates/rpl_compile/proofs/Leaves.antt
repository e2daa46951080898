-- The claims of forms without parts: literals, words and names.
use Rattle.rpl_compile.proofs.Common.{Bool, BoundName, Dimension, Env, Frame, HasName, IsLiteral, IsSome, IsTrue, Kind, List, None, Option, Running}
use Rattle.rpl_compile.proofs.Common.{Some, Tree, Value, [], a_number, ap, brackets, bytes_eq, date_kind, factor_of, false, gives, if◌then◌else◌}
use Rattle.rpl_compile.proofs.Common.{is_stuck, kind_named, kind_of_value, list_any, literal, local_named, name, named, names_in, now, number_kind}
use Rattle.rpl_compile.proofs.Common.{quantity_or_stuck, refl, slice_get, slot, slot_kind, slot_named, subst, sym, true, truth, truth_kind, unit_in}
use Rattle.rpl_compile.proofs.Common.{units, unless_there, unwrap_or, weight, ℕ, ℤ, ◌*ℤ◌, ◌+◌, ◌||◌, ◌∙◌, ◌∷◌, ◌≡◌}
use Rattle.rpl_code.specs.declared.instruction.Instruction.TheVariants as I
use Rattle.rpl_compile.proofs.Goes.{Goes}
use Rattle.rpl_compile.proofs.OfKind.{HasKind, at_head}
use Rattle.rpl_compile.proofs.Setting.{Claim, Holds, Left, Setting, frame_at}
use Rattle.rpl_compile.proofs.Steps.{loads, operates}

-- what a name stands for
record Named (kinds : List Kind) (scope : List BoundName) (environment : Env) (locals : List Value) (sought : List ℕ) : Type 0 where
  it : Value
  called_so : named environment sought ≡ gives it (weight (kind_of_value it))
  of_kind : HasKind (kind_named (names_in scope) sought) it
  holds : slice_get locals (local_named scope sought) ≡ Some it
  kind : Kind
  has : slice_get kinds (local_named scope sought) ≡ Some kind

named_at : (kinds : List Kind) (scope : List BoundName) (environment : Env) (locals : List Value) (free : ℕ) (new_name : List ℕ)
    → Holds kinds scope environment locals free
    → HasName (names_in scope) new_name → Named kinds scope environment locals new_name
named_at kinds [] [] locals free new_name holds has_name = absurd (cc has_name)
named_at kinds [] (entry ∷ environment) locals free new_name holds has_name = absurd holds
named_at kinds (bound_name ∷ scope) [] locals free new_name holds has_name = absurd holds
named_at kinds (bound_name ∷ scope) (entry ∷ environment) locals free new_name holds has_name =
    by (bytes_eq bound_name.name new_name) refl has_name (λ m. named_at kinds scope environment locals free new_name holds.5 m)
  where
    by : (test : Bool) → bytes_eq bound_name.name new_name ≡ test
        → IsTrue (test || list_any (λ (entry : List ℕ × Kind). bytes_eq entry.0 new_name) (names_in scope))
        → (HasName (names_in scope) new_name → Named kinds scope environment locals new_name)
        → Named kinds (bound_name ∷ scope) (entry ∷ environment) locals new_name
    by true equal has_name later =
        let equal_there : bytes_eq entry.0 new_name ≡ true = ap (λ l. bytes_eq l new_name) (sym holds.0) ∙ equal in
        record {
          it = entry.1;
          called_so = ap (λ (test : Bool). if test then gives entry.1 (weight (kind_of_value entry.1)) else named environment new_name) equal_there;
          of_kind = subst (λ (test : Bool). HasKind (if test then bound_name.kind else kind_named (names_in scope) new_name) entry.1)
              (sym equal) holds.1;
          holds = ap (λ (test : Bool). slice_get locals (if test then bound_name.local else local_named scope new_name)) equal ∙ holds.2;
          kind = bound_name.kind;
          has = ap (λ (test : Bool). slice_get kinds (if test then bound_name.local else local_named scope new_name)) equal ∙ holds.4;
        }
    by false equal has_name later =
        let equal_there : bytes_eq entry.0 new_name ≡ false = ap (λ l. bytes_eq l new_name) (sym holds.0) ∙ equal in
        let later_so = later has_name in
        record {
          it = later_so.it;
          called_so = ap (λ (test : Bool). if test then gives entry.1 (weight (kind_of_value entry.1)) else named environment new_name) equal_there
              ∙ later_so.called_so;
          of_kind = subst (λ (test : Bool). HasKind (if test then bound_name.kind else kind_named (names_in scope) new_name) later_so.it)
              (sym equal) later_so.of_kind;
          holds = ap (λ (test : Bool). slice_get locals (if test then bound_name.local else local_named scope new_name)) equal ∙ later_so.holds;
          kind = later_so.kind;
          has = ap (λ (test : Bool). slice_get kinds (if test then bound_name.local else local_named scope new_name)) equal ∙ later_so.has;
        }

pub is_there : {A : Type 0} (found : Option A) → IsSome found → unless_there found ≡ None
is_there None has = absurd (cc has)
is_there (Some x) has = refl

module _ (setting : Setting) where
  number_pushed : (number : ℤ) (found : Option (Dimension × ℤ)) (free place : ℕ) (locals operands : List Value) (loops : List Running)
      (callers : List Frame) → IsLiteral number found
      → slice_get setting.block.lines place ≡ Some (I.Num (number *ℤ factor_of found))
      → Goes setting.code setting.world (frame_at setting place locals operands loops ∷ callers) (quantity_or_stuck number found)
      (Left setting number_kind free (place + 1) locals operands loops callers)
  number_pushed number None free place locals operands loops callers is_literal stands = absurd is_literal
  number_pushed number (Some unit) free place locals operands loops callers is_literal stands =
      subst (λ (test : Bool).
      Goes setting.code setting.world (frame_at setting place locals operands loops ∷ callers)
      (if test then gives (a_number (number *ℤ unit.1)) 1 else is_stuck)
      (Left setting number_kind free (place + 1) locals operands loops callers)) (sym is_literal)
      (operates setting number_kind free place locals [] operands loops callers (I.Num (number *ℤ unit.1)) tt refl stands tt refl refl)

  pub on_literal : (number : ℤ) (unit : Option (List ℕ)) → Claim setting (literal number unit)
  on_literal number unit site environment locals operands loops callers wants here =
      number_pushed number (unit_in units (unwrap_or unit [])) site.free site.place locals operands loops callers wants.2
      (at_head setting.block.lines site.place _ [] wants.0)

  pub on_truth : (is_so : Bool) → Claim setting (truth is_so)
  on_truth is_so site environment locals operands loops callers wants here =
      operates setting truth_kind site.free site.place locals [] operands loops callers (I.Bool is_so) tt refl
      (at_head setting.block.lines site.place (I.Bool is_so) [] wants.0) tt refl refl

  pub on_now : Claim setting now
  on_now site environment locals operands loops callers wants here =
      operates setting date_kind site.free site.place locals [] operands loops callers I.Now tt refl
      (at_head setting.block.lines site.place I.Now [] wants.0) tt refl refl

  pub on_slot : (object slot_name : List ℕ) → Claim setting (slot object slot_name)
  on_slot object slot_name site environment locals operands loops callers wants here =
      operates setting slot_kind site.free site.place locals [] operands loops callers (I.Slot object slot_name) tt
      (is_there (slot_named setting.world.basin.objects object slot_name) wants.2)
      (at_head setting.block.lines site.place (I.Slot object slot_name) [] wants.0) tt refl refl

  pub on_name : (sought : List ℕ) → Claim setting (name sought)
  on_name sought site environment locals operands loops callers wants here =
      let named_so = named_at setting.kinds site.scope environment locals site.free sought here.0 wants.2 in
      let kind = kind_named (names_in site.scope) sought in
      subst (λ m.
      Goes setting.code setting.world (frame_at setting site.place locals operands loops ∷ callers) m
      (Left setting kind site.free (site.place + 1) locals operands loops callers)) (sym named_so.called_so)
      (loads setting kind site.free site.place (local_named site.scope sought) locals operands loops callers named_so.it named_so.kind
      (at_head setting.block.lines site.place (I.Load (local_named site.scope sought)) [] wants.0) named_so.has named_so.holds named_so.of_kind)

  pub on_brackets : (expression : Tree) → Claim setting expression → Claim setting (brackets expression)
  on_brackets expression claim_of_expression = claim_of_expression
