-- A run has one end and one text.
use Rattle.rw_commands.proofs.Common.{IsRunText, List, None, RunEnd, [], ap, ap₂, length, refl, subst, suc, sym, told_section, zero, ℕ, ℤ, ◌++◌, ◌∙◌, ◌∷◌}
use Rattle.rw_commands.proofs.Common.{◌≡◌}
use Rattle.rw_base.specs.declared.number.Cell.{Cell}
use Rattle.rw_model.proofs.Common.{Draft, all_slots}
use Rattle.rw_inputs.specs.Inputs.{Inputs, value_at}
use Rattle.rw_run.specs.declared.run.Run.{Run}
use Rattle.rw_run.proofs.Common.{Log, Policy, IsRun, end_of}
use Rattle.rw_inputs.specs.Placings.{if_placed, placings_of, placings_to, placings}
use Rattle.rw_engine.specs.Passing.{ComesTo}
use Rattle.rw_base.proofs.Common.{Bool, IsSome, IsTrue, Option}
use Rattle.rw_base.specs.declared.number.StepNo.{StepNo}
use Rattle.rw_report.specs.Outcome.{outcome_by, outcome_of}
use Rattle.rw_report.specs.Whole.{whole_of}
use Rattle.rw_run.specs.RunOf.{IsRunOf}
use Rattle.rw_base.proofs.Common.{none-some, same_Some}
use Rattle.rw_dispatch.specs.Pick.{IsPickedRun, LeadsPicked, Picking, follows_picked, newest, picked}
use Rattle.rw_run.proofs.OneRun.{none_follows}
use Rattle.rw_run.specs.Log.{Event}
use Rattle.rw_run.specs.Next.{no_rules}
use Rattle.rw_run.specs.Runs.{with_inputs, standing}
use Rattle.rw_run.specs.Waiting.{waiting}
use Rattle.rw_words.specs.declared.order.Order.{Order}
use Rattle.rw_words.specs.declared.order.Order.TheVariants.{Oldest, Newest}
use Rattle.rw_commands.specs.RunText.{IsSimulated}
use Rattle.rw_commands.specs.declared.extras.Extras.{Extras}

module _ (inputs others : Inputs) (same : (slot step : ℕ) → value_at inputs slot step ≡ value_at others slot step) where
  same_of : (slot steps : ℕ) → placings_of inputs slot steps ≡ placings_of others slot steps
  same_of slot zero = refl
  same_of slot (suc steps) = ap₂ (λ xs value. xs ++ if_placed slot (suc steps) value) (same_of slot steps) (same slot (suc steps))

  pub same_to : (slots steps : ℕ) → placings_to inputs slots steps ≡ placings_to others slots steps
  same_to zero steps = refl
  same_to (suc slots) steps = ap₂ (λ xs ys. xs ++ ys) (same_to slots steps) (same_of (suc slots) steps)

  -- all that counts of inputs are their values
  pub of_values : (basin : Draft) (policy : Policy) (extras : Extras) (reran : Option (List StepNo)) (number : ℕ) (end : RunEnd) (text : List ℕ)
      → IsRunText basin policy extras reran number inputs end text → IsRunText basin policy extras reran number others end text
  of_values basin policy extras reran number end text is =
      let given = same_to (length (all_slots basin.objects)) basin.control.stamps.count in
      record { log = is.log; run = subst (λ xs. IsRun basin policy xs is.log) given is.run; end_is = is.end_is; text_is = is.text_is }

-- two texts of one basin and of inputs with the same values
pub one_text : ((basin : Draft) (policy : Policy) (inputs : List (Cell × ℤ)) (log other : Log) → IsRun basin policy inputs log
    → IsRun basin policy inputs other → log ≡ other)
    → (basin : Draft) (policy : Policy) (extras : Extras) (reran : Option (List StepNo)) (number : ℕ) (inputs others : Inputs) (end other : RunEnd)
    (text more : List ℕ)
    → ((slot step : ℕ) → value_at inputs slot step ≡ value_at others slot step)
    → IsRunText basin policy extras reran number inputs end text → IsRunText basin policy extras reran number others other more
    → (end ≡ other) × (text ≡ more)
one_text one_run basin policy extras reran number inputs others end other text more same left right =
    let given = same_to inputs others same (length (all_slots basin.objects)) basin.control.stamps.count in
    let log =
    one_run basin policy (placings basin others) left.log right.log (subst (λ xs. IsRun basin policy xs left.log) given left.run) right.run in
    (left.end_is ∙ ap end_of log ∙ sym right.end_is, left.text_is ∙ ap (told_section basin policy extras number reran) log ∙ sym right.text_is)

-- a rule that picks has one run, too
same_picked : (basin : Draft) (policy : Policy) (rule : Picking) (old : Log) (xs ys : List Event) (x y : Log) → LeadsPicked basin policy rule old xs x
    → LeadsPicked basin policy rule old ys y → follows_picked basin policy rule x ≡ None → follows_picked basin policy rule y ≡ None → x ≡ y
same_picked basin policy rule old [] [] x y l m u v = l ∙ sym m
same_picked basin policy rule old [] (e ∷ es) x y l m u v = absurd (none-some _ (sym (sym m.0 ∙ ap (follows_picked basin policy rule) (sym l) ∙ u)))
same_picked basin policy rule old (e ∷ es) [] x y l m u v = absurd (none-some _ (sym (sym l.0 ∙ ap (follows_picked basin policy rule) (sym m) ∙ v)))
same_picked basin policy rule old (e ∷ es) (f ∷ fs) x y l m u v =
    let same : f ≡ e = same_Some _ _ (sym m.0 ∙ l.0) in
    same_picked basin policy rule (e ∷ old) es fs x y l.1 (subst (λ z. LeadsPicked basin policy rule (z ∷ old) fs y) same m.1) u v

one_picked : (basin : Draft) (policy : Policy) (rule : Picking) (inputs : List (Cell × ℤ)) (one other : Log)
    → IsPickedRun basin policy rule inputs one
    → IsPickedRun basin policy rule inputs other → one ≡ other
one_picked basin policy rule inputs one other r s =
    same_picked basin policy rule (with_inputs [] inputs) r.events s.events one other r.leads s.leads
    (none_follows basin policy one (picked rule one (waiting basin one)) (standing one) r.end)
    (none_follows basin policy other (picked rule other (waiting basin other)) (standing other) s.end)

-- so the text is one in each order of dispatches
pub one_simulated : ((basin : Draft) (policy : Policy) (inputs : List (Cell × ℤ)) (log other : Log) → IsRun basin policy inputs log
    → IsRun basin policy inputs other → log ≡ other)
    → (order : Order) (basin : Draft) (extras : Extras) (number : ℕ) (inputs others : Inputs) (end other : RunEnd) (text more : List ℕ)
    → ((slot step : ℕ) → value_at inputs slot step ≡ value_at others slot step)
    → IsSimulated order basin extras number inputs end text → IsSimulated order basin extras number others other more → (end ≡ other) × (text ≡ more)
one_simulated one_run Oldest basin extras number inputs others end other text more same left right =
    one_text one_run basin no_rules extras None number inputs others end other text more same left right
one_simulated one_run Newest basin extras number inputs others end other text more same left right =
    let given = same_to inputs others same (length (all_slots basin.objects)) basin.control.stamps.count in
    let log = one_picked basin no_rules newest (placings basin others) left.log right.log
    (subst (λ xs. IsPickedRun basin no_rules newest xs left.log) given left.run) right.run in
    (left.end_is ∙ ap end_of log ∙ sym right.end_is, left.text_is ∙ ap (told_section basin no_rules extras number None) log ∙ sym right.text_is)
