-- Whatever a firing of code asks for, it can ask for: a slot that can be set, and a value that it can have.
use Rattle.rw_base.proofs.Common.{◌≡◌, ℕ, zero, suc, ◌-◌, ◌<◌, ◌≤◌, ℤ, pos, unsigned_abs, Bool, true, false, ◌&&◌, nat_le, List, [], ◌∷◌, drop}
use Rattle.rw_base.proofs.Common.{length, take, reverse, All, All-append, All-cons, All-nil, Option, Some, None, refl, sym, subst, arith}
use Rattle.rw_base.proofs.Common.{if◌then◌else◌, nat_tests, none-some, slice_get, slice_get_within}
use Rattle.std.specs.Prelude.{is_ok}
use Rattle.rw_base.specs.declared.number.Cell.{Cell}
use Rattle.rw_base.proofs.Tests.{Decides-from_to}
use Rattle.rw_model.proofs.Common.{Draft, Placed, all_slots, numbered, slot_at, slot_named}
use Rattle.rw_model.proofs.Numbered.{numbered-found}
use Rattle.rw_firing.specs.Fire.{Fire}
use Rattle.rw_firing.specs.declared.fire.RulePut.{RulePut}
use Rattle.rw_run.specs.Policy.{CanAsk}
use Rattle.rpl_code.specs.declared.block.Block.{Block}
use Rattle.rpl_code.specs.declared.instruction.Instruction.{Instruction}
use Rattle.rpl_code.specs.declared.instruction.Instruction.TheVariants as I
use Rattle.rpl_tree.proofs.Common.{Answer, Outcome, Trail, Value, World, a_number, a_truth, bounds_at, can_set, ended, fire_of, gives, goes_on}
use Rattle.rpl_tree.proofs.Common.{is_stuck, is_within, put_of, stuck, value, with_elements, within_or_end, ◌>>=◌}
use Rattle.rpl_tree.specs.World.{can_put_ahead, is_settable_slot, put_ahead}
use Rattle.rpl_tree.proofs.PutsAhead.{is_near}
use Rattle.rpl_tree.specs.Operators.{elements_of}
use Rattle.rpl_tree.proofs.FramedTrees.{puts_in}
use Rattle.rpl_verify.specs.Fits.{end_kinds, locals_of}
use Rattle.rpl_verify.specs.Kinds.{are_same_kinds, element_kind, is_that_kind}
use Rattle.rpl_verify.specs.Machine.{Frame, Running, State, act, at_place, branched, entered, fire_of_code, fired, first_frame, handed_back, in_loop}
use Rattle.rpl_verify.specs.Machine.{invoked, loaded, most_steps, onward, operated, put_by_frame, returned, row_in, run, step, step_at, step_by}
use Rattle.rpl_verify.specs.Machine.{step_in, stored, turned, with_made, yielded}
use Rattle.rpl_verify.specs.Operations.{kind_of, kinds_of, operation}
use Rattle.rpl_verify.specs.Places.{Loop, is_same_loop, mapping, visiting}
use Rattle.rpl_verify.specs.Table.{operand_count, operands_behind}
use Rattle.rpl_verify.proofs.QuietOperations.{puts_nothing}

-- ---- a put

first_known : {A : Type 0} (things : List A) (number : ℕ) (thing : A) → numbered things number ≡ Some thing → 1 ≤ number
first_known things number thing is = by (nat_le 1 number) refl is
  where
    by : (t : Bool) → nat_le 1 number ≡ t → (if t then slice_get things (number - 1) else None) ≡ Some thing → 1 ≤ number
    by true t is = grind (arith, nat_tests, t)
    by false t is = absurd (none-some thing is)

slot_there : (found : Option Placed) → is_settable_slot found ≡ true → (placed : Placed) × (found ≡ Some placed)
slot_there None can = absurd (cc can)
slot_there (Some placed) can = (placed, refl)

can_ask : (basin : Draft) (s : ℕ) (ahead z : ℤ) → can_set basin s ≡ true → can_put_ahead basin ahead ≡ true
    → is_within (bounds_at basin s) z ≡ true → CanAsk basin (put_ahead s (unsigned_abs ahead) z)
can_ask basin s ahead z can near within =
    let there = slot_there (slot_at basin.objects s) can in
    let first : 1 ≤ s = first_known (all_slots basin.objects) s there.0 there.1 in
    let below : s - 1 < length (all_slots basin.objects) =
    slice_get_within (all_slots basin.objects) (s - 1) there.0 (numbered-found (all_slots basin.objects) s there.0 there.1) in
    let between = (Decides-from_to (bounds_at basin s).0 (bounds_at basin s).1 z).0 within in
    record {
      slot = record { first = first; last = omega (arith, first, below) };
      settable = λ placed found. subst (λ (o : Option Placed). is_settable_slot o ≡ true) found can;
      within = record { low = between.0; high = between.1 };
      ahead = is_near basin ahead near;
    }

-- ---- outcomes

module _ (basin : Draft) where
  abbrev pub Asks : {A : Type 0} → Outcome A → Type 0
  Asks r = All (CanAsk basin) r.trail.puts

  nothing : {A : Type 0} (r : Outcome A) → r.trail.puts ≡ [] → Asks r
  nothing r none = subst (λ (puts : List RulePut). All (CanAsk basin) puts) (sym none) (All-nil (CanAsk basin))

  on : {A B : Type 0} (a : Answer A) (t : Trail) (f : A → Outcome B) → All (CanAsk basin) t.puts → ((x : A) → Asks (f x)) → Asks (goes_on a t f)
  on (value x) t f asks later = All-append (CanAsk basin) t.puts (f x).trail.puts asks (later x)
  on (ended e) t f asks later = asks
  on stuck t f asks later = asks

  bind : {A B : Type 0} (r : Outcome A) (f : A → Outcome B) → Asks r → ((x : A) → Asks (f x)) → Asks (r >>= f)
  bind r f asks later = on r.answer r.trail f asks later

  by_test : {A : Type 0} (b : Bool) (r s : Outcome A) → Asks r → Asks s → Asks (if b then r else s)
  by_test true r s ar as_ = ar
  by_test false r s ar as_ = as_

  put_asks : (slot : Option ℕ) (ahead : ℤ) (v : Value) → Asks (put_of basin slot ahead v)
  put_asks (Some s) ahead (a_number z) = by (can_set basin s) (can_put_ahead basin ahead) (is_within (bounds_at basin s) z) refl refl refl
    where
      by : (can near within : Bool) → can_set basin s ≡ can → can_put_ahead basin ahead ≡ near → is_within (bounds_at basin s) z ≡ within
          → Asks (if can && near then within_or_end within s (unsigned_abs ahead) z else is_stuck)
      by true true true can near within =
          All-cons (CanAsk basin) (put_ahead s (unsigned_abs ahead) z) [] (can_ask basin s ahead z can near within) (All-nil (CanAsk basin))
      by true true false can near within = All-nil (CanAsk basin)
      by true false w can near within = All-nil (CanAsk basin)
      by false n w can near within = All-nil (CanAsk basin)
  put_asks _ ahead _ = All-nil (CanAsk basin)

  module _ (values : Cell → Option ℤ) (now : ℕ) (code : List Block) where
    abbrev w : World
    w = record { basin = basin; values = values; step = now }

    -- ---- instructions

    loaded_asks : (found : Option Value) (f : Frame) → Asks (loaded found f)
    loaded_asks None f = All-nil (CanAsk basin)
    loaded_asks (Some v) f = All-nil (CanAsk basin)

    stored_asks : (n : ℕ) (vs : List Value) (f : Frame) → Asks (stored n vs f)
    stored_asks n [] f = All-nil (CanAsk basin)
    stored_asks n (v ∷ vs) f = All-nil (CanAsk basin)

    jumped_asks : (b : Bool) (to : ℕ) (vs : List Value) (f : Frame) → Asks (if b then gives (at_place to vs f) 1 else is_stuck)
    jumped_asks b to vs f = by_test b (gives (at_place to vs f) 1) is_stuck (All-nil (CanAsk basin)) (All-nil (CanAsk basin))

    branched_asks : (x : Block) (to : ℕ) (vs : List Value) (f : Frame) → Asks (branched x to vs f)
    branched_asks x to (a_truth true ∷ vs) f = All-nil (CanAsk basin)
    branched_asks x to (a_truth false ∷ vs) f = jumped_asks _ to vs f
    branched_asks x to _ f = All-nil (CanAsk basin)

    met_asks : (b : Bool) (f : Frame) → Asks (if b then gives (onward f.operands f) 1 else is_stuck)
    met_asks b f = by_test b (gives (onward f.operands f) 1) is_stuck (All-nil (CanAsk basin)) (All-nil (CanAsk basin))

    elements_ask : (found : Option (List Value)) (go : List Value → Outcome Frame) → ((vs : List Value) → Asks (go vs))
        → Asks (with_elements found go)
    elements_ask None go asks = All-nil (CanAsk basin)
    elements_ask (Some vs) go asks = asks vs

    entered_asks : (x : Block) (loop : Loop) (n : ℕ) (vs : List Value) (f : Frame) → Asks (entered x loop n vs f)
    entered_asks x loop n [] f = All-nil (CanAsk basin)
    entered_asks x loop n (v ∷ vs) f =
        by_test (is_that_kind (slice_get (locals_of x) n) (element_kind (kind_of v))) _ is_stuck
        (elements_ask (elements_of v) _ (λ elements. All-nil (CanAsk basin))) (All-nil (CanAsk basin))

    in_loop_asks : (loop : Loop) (running : List Running) (go : Running → List Running → Outcome Frame)
        → ((r : Running) (rs : List Running) → Asks (go r rs)) → Asks (in_loop loop running go)
    in_loop_asks loop [] go asks = All-nil (CanAsk basin)
    in_loop_asks loop (r ∷ others) go asks = by_test (is_same_loop loop r.loop) (go r others) is_stuck (asks r others) (All-nil (CanAsk basin))

    yielded_asks : (vs : List Value) (f : Frame) → Asks (yielded vs f)
    yielded_asks (a_number z ∷ vs) f =
        in_loop_asks mapping f.loops (λ r others. gives (turned (suc f.place) (with_made z r) r.left others (at_place f.place vs f)) 1)
        (λ r rs. All-nil (CanAsk basin))
    yielded_asks _ f = All-nil (CanAsk basin)

    did_put : (slot : Option ℕ) (ahead : ℕ) (vs : List Value) (f : Frame) → Asks (put_by_frame basin slot ahead vs f)
    did_put slot ahead [] f = All-nil (CanAsk basin)
    did_put slot ahead (v ∷ vs) f =
        bind (put_of basin slot (pos ahead) v) (λ done. gives (onward vs f) 0) (put_asks slot (pos ahead) v) (λ done. All-nil (CanAsk basin))

    operated_asks : (x : Block) (i : Instruction) (f : Frame) → Asks (operated code w x i f)
    operated_asks x i f =
        let n : ℕ = operand_count (row_in code w x i) in
        bind (operation w i (reverse (take n f.operands))) (λ v. gives (onward (v ∷ drop n f.operands) f) 0)
        (nothing (operation w i (reverse (take n f.operands))) (puts_nothing w i (reverse (take n f.operands)))) (λ v. All-nil (CanAsk basin))

    act_asks : (x : Block) (i : Instruction) (f : Frame) → Asks (act code w x i f)
    act_asks x (I.Load n) f = loaded_asks (slice_get f.locals n) f
    act_asks x (I.Store n) f = stored_asks n f.operands f
    act_asks x (I.Jump to) f = jumped_asks _ to f.operands f
    act_asks x (I.Branch to) f = branched_asks x to f.operands f
    act_asks x (I.Target kinds) f = met_asks _ f
    act_asks x (I.Foreach n) f = entered_asks x visiting n f.operands f
    act_asks x I.Next f =
        in_loop_asks visiting f.loops (λ r others. gives (turned (suc f.place) r r.left others f) 1) (λ r rs. All-nil (CanAsk basin))
    act_asks x (I.Map n) f = entered_asks x mapping n f.operands f
    act_asks x I.Yield f = yielded_asks f.operands f
    act_asks x (I.Put object slot ahead) f = did_put (slot_named basin.objects object slot) ahead f.operands f
    act_asks x i f = operated_asks x i f

    -- ---- steps

    invoked_asks : (number : ℕ) (found : Option Block) (f : Frame) (callers : List Frame) → Asks (invoked number found f callers)
    invoked_asks number None f callers = All-nil (CanAsk basin)
    invoked_asks number (Some x) f callers = All-nil (CanAsk basin)

    by_asks : (x : Block) (i : Instruction) (f : Frame) (callers : List Frame) → Asks (step_by code w x i f callers)
    by_asks x (I.Invoke b) f callers = invoked_asks b (numbered code b) f callers
    by_asks x i f callers = bind (act code w x i f) (λ g. gives (g ∷ callers) 0) (act_asks x i f) (λ g. All-nil (CanAsk basin))

    at_asks : (o : Option Instruction) (x : Block) (f : Frame) (callers : List Frame) → Asks (step_at code w o x f callers)
    at_asks None x f callers =
        by_test _ (returned x f callers) is_stuck
        (by_test (are_same_kinds (end_kinds x.head) (kinds_of f.operands)) (gives (handed_back f.operands callers) 0) is_stuck
        (All-nil (CanAsk basin)) (All-nil (CanAsk basin)))
        (All-nil (CanAsk basin))
    at_asks (Some i) x f callers =
        by_test (is_ok (operands_behind (row_in code w x i) (kinds_of f.operands))) (step_by code w x i f callers) is_stuck (by_asks x i f callers)
        (All-nil (CanAsk basin))

    in_asks : (o : Option Block) (f : Frame) (callers : List Frame) → Asks (step_in code w o f callers)
    in_asks None f callers = All-nil (CanAsk basin)
    in_asks (Some x) f callers = at_asks (slice_get x.lines f.place) x f callers

    run_asks : (n : ℕ) (s : State) → Asks (run code w n s)
    run_asks n [] = All-nil (CanAsk basin)
    run_asks zero (f ∷ callers) = All-nil (CanAsk basin)
    run_asks (suc n) (f ∷ callers) = bind (step code w f callers) (run code w n) (in_asks (numbered code f.block) f callers) (run_asks n)

    -- ---- firings

    told_asks : (a : Answer (Unit {0})) (t : Trail) (fire : Fire) → All (CanAsk basin) t.puts → fire_of a t ≡ Some fire → All (CanAsk basin) fire.puts
    told_asks (value done) t fire asks is = subst (λ (o : Option Fire). All (CanAsk basin) (puts_in o)) is asks
    told_asks (ended e) t fire asks is = subst (λ (o : Option Fire). All (CanAsk basin) (puts_in o)) is (All-nil (CanAsk basin))
    told_asks stuck t fire asks is = absurd (none-some fire is)

    fired_asks : (o : Option Frame) (fire : Fire) → fired code w o ≡ Some fire → All (CanAsk basin) fire.puts
    fired_asks None fire is = absurd (none-some fire is)
    fired_asks (Some f) fire is =
        told_asks (run code w most_steps (f ∷ [])).answer (run code w most_steps (f ∷ [])).trail fire (run_asks most_steps (f ∷ [])) is

pub code_asks : (code : List Block) (basin : Draft) (rule step : ℕ) (values : Cell → Option ℤ) (fire : Fire)
    → fire_of_code code basin rule step values ≡ Some fire → All (CanAsk basin) fire.puts
code_asks code basin rule step values fire is = fired_asks basin values step code (first_frame code rule) fire is
