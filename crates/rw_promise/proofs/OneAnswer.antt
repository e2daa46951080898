-- Runs with edits have one text, with the timesteps that are run again too, and a cell has one reason.
use Rattle.rw_commands.proofs.Common.{List, None, Option, RunEnd, Some, IsSomeAnd, [], ap, ap₂, length, refl, subst, sym, told_section, true, false, ℕ, ℤ}
use Rattle.rw_commands.proofs.Common.{◌++◌, ◌+◌, ◌∙◌, ◌∷◌}
use Rattle.rw_commands.proofs.Common.{Bool, ◌≡◌}
use Rattle.rw_base.proofs.Common.{All-contains, Contains, arith, none-some, suc, zero, ◌<◌, ◌≤◌}
use Rattle.std.specs.Prelude.{◌↔◌}
use Rattle.std.proofs.lemmas.List.Elements.{Contains-append_right}
use Rattle.std.proofs.lemmas.Map.Made.{Contains-tail}
use Rattle.rw_base.specs.declared.number.Cell.{Cell}
use Rattle.rw_base.specs.declared.number.StepNo.{StepNo}
use Rattle.rw_model.proofs.Common.{Draft, all_slots}
use Rattle.rw_inputs.specs.Edits.{Batch, Values, after_batch}
use Rattle.rw_inputs.specs.Inputs.{Inputs, kept_slot, value_at}
use Rattle.rw_inputs.specs.Placings.{placings}
use Rattle.rw_report.specs.Outcome.{outcome_by}
use Rattle.rw_report.specs.Why.{holds_words, source_words}
use Rattle.rw_rerun.specs.Session.{numbers_of_steps}
use Rattle.rw_run.proofs.Common.{IsRun, Log, Policy, end_of}
use Rattle.rw_run.specs.Reuse.{AreRerun, AreRising}
use Rattle.rw_promise.proofs.OneText.{same_to}
use Rattle.rw_commands.specs.Policy.{PolicyFile as Rules}
use Rattle.rw_commands.specs.RunText.{IsRerun, IsRulesText, IsWhyOfRules, policy_in_run}
use Rattle.rw_commands.specs.Sections.{AreFirstSections, AreSections, GivenInputs, edited_given, first_given}
use Rattle.rw_commands.specs.declared.extras.Extras.{Extras}

-- ---- rising lists of the same numbers

none_in_none : (step : ℕ) → Contains {X = ℕ} [] step → ⊥
none_in_none step has = let less = has.1 in omega (arith, less)

least : (first : ℕ) (rest : List ℕ) (step : ℕ) → AreRising (first ∷ rest) → Contains (first ∷ rest) step → first ≤ step
least first rest step rising (zero, less, is) = omega (arith, is)
least first rest step rising (suc k, less, is) =
    let below = All-contains (λ later. first < later) rest step rising.0 (k, omega (arith, less), is) in omega (arith, below)

in_rest : (first other step : ℕ) (rest others : List ℕ) → AreRising (first ∷ rest) → first ≡ other
    → (Contains (first ∷ rest) step → Contains (other ∷ others) step) → Contains rest step → Contains others step
in_rest first other step rest others rising same there has =
    let below = All-contains (λ later. first < later) rest step rising.0 has in
    Contains-tail other others step (λ equal. omega (arith, below, same, equal)) (there (Contains-append_right (first ∷ []) rest step has))

one_rising : (steps others : List ℕ) → AreRising steps → AreRising others
    → ((step : ℕ) → Contains steps step ↔ Contains others step) → steps ≡ others
one_rising [] [] rising higher same = refl
one_rising [] (other ∷ others) rising higher same = absurd (none_in_none other ((same other).1 (0, omega arith, refl)))
one_rising (first ∷ rest) [] rising higher same = absurd (none_in_none first ((same first).0 (0, omega arith, refl)))
one_rising (first ∷ rest) (other ∷ others) rising higher same =
    let low = least first rest other rising ((same other).1 (0, omega arith, refl)) in
    let high = least other others first higher ((same first).0 (0, omega arith, refl)) in
    let equal : first ≡ other = omega (arith, low, high) in
    ap₂ (λ x xs. x ∷ xs) equal (one_rising rest others rising.1 higher.1 (λ step.
    (in_rest first other step rest others rising equal (same step).0, in_rest other first step others rest higher (sym equal) (same step).1)))

-- which timesteps aren't as in an earlier run is one list
one_rerun : (basin : Draft) (earlier later : Log) (steps others : List ℕ) → AreRerun basin earlier later steps → AreRerun basin earlier later others
    → steps ≡ others
one_rerun basin earlier later steps others a b =
    one_rising steps others a.rising b.rising
    (λ step. (λ has. (b.those step).1 ((a.those step).0 has), λ has. (a.those step).1 ((b.those step).0 has)))

one_numbered : (steps others : List StepNo) → numbers_of_steps steps ≡ numbers_of_steps others → steps ≡ others
one_numbered [] [] same = refl
one_numbered [] (other ∷ others) same = absurd cc
one_numbered (step ∷ steps) [] same = absurd cc
one_numbered (step ∷ steps) (other ∷ others) same =
    let first : step.0 ≡ other.0 = cc in
    let rest : numbers_of_steps steps ≡ numbers_of_steps others = cc in
    ap₂ (λ (n : ℕ) (xs : List StepNo). record { 0 = n } ∷ xs) first (one_numbered steps others rest)

-- ---- what is given

abbrev pub AreBoth : Option Inputs → Option Inputs → Type 0
AreBoth None None = Unit {0}
AreBoth None (Some other) = ⊥
AreBoth (Some one) None = ⊥
AreBoth (Some one) (Some other) = value_at one ≡ value_at other

-- the same values, and the same before the last batch
record GiveSame (a b : GivenInputs) : Type 0 where
  values : value_at a.inputs ≡ value_at b.inputs
  before : AreBoth a.before b.before

as_before : (one : Option Inputs) → AreBoth one one
as_before None = tt
as_before (Some one) = refl

none_and_some : (one other : Option Inputs) (P : Inputs → Type 0) → AreBoth one other → one ≡ None → IsSomeAnd other P → ⊥
none_and_some None None P same is has = has
none_and_some None (Some y) P same is has = same
none_and_some (Some x) other P same is has = none-some _ (sym is)

some_and_none : (one other : Option Inputs) (P : Inputs → Type 0) → AreBoth one other → IsSomeAnd one P → other ≡ None → ⊥
some_and_none None other P same has is = has
some_and_none (Some x) None P same has is = same
some_and_none (Some x) (Some y) P same has is = none-some _ (sym is)

module _ (one_run : (basin : Draft) (policy : Policy) (inputs : List (Cell × ℤ)) (log other : Log) → IsRun basin policy inputs log
    → IsRun basin policy inputs other → log ≡ other) (basin : Draft) where
  -- inputs with the same values have one run
  pub one_log : (policy : Policy) (inputs others : Inputs) (log other : Log) → value_at inputs ≡ value_at others
      → IsRun basin policy (placings basin inputs) log → IsRun basin policy (placings basin others) other → log ≡ other
  one_log policy inputs others log other same left right =
      let at : (slot step : ℕ) → value_at inputs slot step ≡ value_at others slot step = λ slot step. ap (λ (v : Values). v slot step) same in
      let given = same_to inputs others at (length (all_slots basin.objects)) basin.control.stamps.count in
      one_run basin policy (placings basin others) log other (subst (λ xs. IsRun basin policy xs log) given left) right

  both_told : (policy : Policy) (one other : Option Inputs) (log : Log) (steps others : List StepNo) → AreBoth one other
      → IsSomeAnd one (λ before. (earlier : Log) × IsRun basin policy (placings basin before) earlier
      × AreRerun basin earlier log (numbers_of_steps steps))
      → IsSomeAnd other (λ before. (earlier : Log) × IsRun basin policy (placings basin before) earlier
      × AreRerun basin earlier log (numbers_of_steps others))
      → steps ≡ others
  both_told policy None other log steps others same left right = absurd left
  both_told policy (Some x) None log steps others same left right = absurd right
  both_told policy (Some x) (Some y) log steps others same left right =
      let earlier = one_log policy x y left.0 right.0 same left.1 right.1 in
      one_numbered steps others (one_rerun basin right.0 log (numbers_of_steps steps) (numbers_of_steps others)
      (subst (λ l. AreRerun basin l log (numbers_of_steps steps)) earlier left.2) right.2)

  one_told : (policy : Policy) (reuse : Bool) (a b : GivenInputs) (log : Log) (told other : Option (List StepNo)) → AreBoth a.before b.before
      → IsRerun basin policy reuse a log told → IsRerun basin policy reuse b log other → told ≡ other
  one_told policy false a b log told other same left right = left ∙ sym right
  one_told policy true a b log None None same left right = refl
  one_told policy true a b log None (Some steps) same left right = absurd (none_and_some a.before b.before _ same left right)
  one_told policy true a b log (Some steps) None same left right = absurd (some_and_none a.before b.before _ same left right)
  one_told policy true a b log (Some steps) (Some others) same left right =
      ap (λ (xs : List StepNo). Some xs) (both_told policy a.before b.before log steps others same left right)

  module _ (policy : Rules) where
    one_given_text : (extras : Extras) (number : ℕ) (a b : GivenInputs) (end other : RunEnd) (text more : List ℕ) → GiveSame a b
        → IsRulesText basin policy extras number a end text → IsRulesText basin policy extras number b other more → (end ≡ other) × (text ≡ more)
    one_given_text extras number a b end other text more same left right =
        let by : Policy = policy_in_run basin policy in
        let log = one_log by a.inputs b.inputs left.run_text.log right.run_text.log same.values left.run_text.run right.run_text.run in
        let told = one_told by extras.reuse a b right.run_text.log left.reran right.reran same.before
        (subst (λ l. IsRerun basin by extras.reuse a l left.reran) log left.rerun) right.rerun in (
          left.run_text.end_is ∙ ap end_of log ∙ sym right.run_text.end_is,
          left.run_text.text_is ∙ ap₂ (λ r l. told_section basin by extras number r l) told log ∙ sym right.run_text.text_is,
        )

    pub one_section : (extras : Extras) (number : ℕ) (given : GivenInputs) (end other : RunEnd) (text more : List ℕ)
        → IsRulesText basin policy extras number given end text → IsRulesText basin policy extras number given other more
        → (end ≡ other) × (text ≡ more)
    one_section extras number given end other text more left right =
        one_given_text extras number given given end other text more (record { values = refl; before = as_before given.before }) left right

    sections_from : (extras : Extras) (number : ℕ) (a b : GivenInputs) (batches : List Batch) (end other : RunEnd) (texts more : List (List ℕ))
        → GiveSame a b → AreSections (IsRulesText basin policy extras) number a batches end texts
        → AreSections (IsRulesText basin policy extras) number b batches other more → (end ≡ other) × (texts ≡ more)
    sections_from extras number a b [] end other texts more same left right =
        let one = one_given_text extras number a b end other left.0 right.0 same left.2 right.2 in
        (one.0, left.1 ∙ ap (λ (t : List ℕ). t ∷ []) one.1 ∙ sym right.1)
    sections_from extras number a b (batch ∷ batches) end other texts more same left right =
        let one = one_given_text extras number a b left.0 right.0 left.1 right.1 same left.4 right.4 in
        let x : Inputs = left.5.0 in
        let y : Inputs = right.5.0 in
        let values : value_at x ≡ value_at y = left.5.1 ∙ ap (after_batch batch) same.values ∙ sym right.5.1 in
        let rest = sections_from extras (number + 1) (edited_given a x) (edited_given b y) batches end other left.2 right.2
        (record { values = values; before = same.values }) left.5.2 right.5.2 in
        (rest.0, left.3 ∙ ap₂ (λ (t : List ℕ) (ts : List (List ℕ)). t ∷ ts) one.1 rest.1 ∙ sym right.3)

    pub one_sections : (extras : Extras) (inputs others : Inputs) (batches : List Batch) (end other : RunEnd) (texts more : List (List ℕ))
        → ((slot step : ℕ) → value_at inputs slot step ≡ value_at others slot step)
        → AreSections (IsRulesText basin policy extras) 0 (first_given inputs) batches end texts
        → AreSections (IsRulesText basin policy extras) 0 (first_given others) batches other more → (end ≡ other) × (texts ≡ more)
    one_sections extras inputs others batches end other texts more same left right =
        let values : value_at inputs ≡ value_at others = λ i slot step. (same slot step) i in
        sections_from extras 0 (first_given inputs) (first_given others) batches end other texts more
        (record { values = values; before = tt }) left right

    sections_begin : (extras : Extras) (number : ℕ) (a b : GivenInputs) (batches : List Batch) (end : RunEnd) (texts front : List (List ℕ))
        → GiveSame a b → AreSections (IsRulesText basin policy extras) number a batches end texts
        → AreFirstSections (IsRulesText basin policy extras) number b batches front → (rest : List (List ℕ)) × (texts ≡ front ++ rest)
    sections_begin extras number a b batches end texts [] same left right = (texts, refl)
    sections_begin extras number a b [] end texts (text ∷ []) same left right =
        let one = one_given_text extras number a b end right.0 left.0 text same left.2 right.1 in
        ([], left.1 ∙ ap (λ (t : List ℕ). t ∷ []) one.1)
    sections_begin extras number a b [] end texts (text ∷ next ∷ more) same left right = absurd right
    sections_begin extras number a b (batch ∷ batches) end texts (text ∷ []) same left right =
        let one = one_given_text extras number a b left.0 right.0 left.1 text same left.4 right.1 in
        (left.2, left.3 ∙ ap (λ (t : List ℕ). t ∷ left.2) one.1)
    sections_begin extras number a b (batch ∷ batches) end texts (text ∷ next ∷ more) same left right =
        let one = one_given_text extras number a b left.0 right.0.0 left.1 text same left.4 right.0.1 in
        let x : Inputs = left.5.0 in
        let y : Inputs = right.1.0 in
        let values : value_at x ≡ value_at y = left.5.1 ∙ ap (after_batch batch) same.values ∙ sym right.1.1 in
        let rest = sections_begin extras (number + 1) (edited_given a x) (edited_given b y) batches end left.2 (next ∷ more)
        (record { values = values; before = same.values }) left.5.2 right.1.2 in
        (rest.0, left.3 ∙ ap₂ (λ (t : List ℕ) (ts : List (List ℕ)). t ∷ ts) one.1 rest.1)

    pub first_sections : (extras : Extras) (number : ℕ) (given : GivenInputs) (batches : List Batch) (end : RunEnd) (texts front : List (List ℕ))
        → AreSections (IsRulesText basin policy extras) number given batches end texts
        → AreFirstSections (IsRulesText basin policy extras) number given batches front → (rest : List (List ℕ)) × (texts ≡ front ++ rest)
    first_sections extras number given batches end texts front left right =
        sections_begin extras number given given batches end texts front (record { values = refl; before = as_before given.before }) left right

    pub one_why : (inputs others : Inputs) (cell : Cell) (end other : RunEnd) (text more : List ℕ)
        → ((slot step : ℕ) → value_at inputs slot step ≡ value_at others slot step)
        → IsWhyOfRules basin policy inputs cell end text → IsWhyOfRules basin policy others cell other more → (end ≡ other) × (text ≡ more)
    one_why inputs others cell end other text more same left right =
        let values : value_at inputs ≡ value_at others = λ i slot step. (same slot step) i in
        let by : Policy = policy_in_run basin policy in
        let log = one_log by inputs others left.run_text.log right.run_text.log values left.run_text.run right.run_text.run in (
          left.run_text.end_is ∙ ap end_of log ∙ sym right.run_text.end_is,
          left.run_text.text_is
              ∙ ap₂ (λ (v : Option ℤ) (l : Log). source_words basin cell (outcome_by basin l).lines v
              ++ holds_words ((outcome_by basin l).cells cell))
              (same (kept_slot basin cell.slot.0) cell.step.0) log
              ∙ sym right.run_text.text_is,
        )
