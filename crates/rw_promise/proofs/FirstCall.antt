-- A call on one plain reservoir, by the law on the text of its run.
use Rattle.rw_commands.proofs.Common.{Call, Command, Fault, GrowsBy, IfOk, IsRunText, IsSomeAnd, IsTextOf, List, None, Option, Promise, Reads}
use Rattle.rw_commands.proofs.Common.{ReadsInputs, RunEnd, SaysAt, Settled, Some, WritesAll, [], ap, arith, false, model_of, refl, simulation_of}
use Rattle.rw_commands.proofs.Common.{status_of_end, subst, sym, ℕ, ℤ, ◌↔◌, ◌∙◌, ◌∷◌, ◌≡◌, ◌≤◌}
use Rattle.rw_plain_reservoir.specs.Table.{IsFirstText}
use Rattle.rw_plain_reservoir.specs.FirstForm.{FirstModel, IsFirstForm, IsFirstFlows}
use Rattle.rw_inputs.specs.Inputs.{Inputs as Given}
use Rattle.rw_model.proofs.Common.{IsBasin, Draft}
use Rattle.rw_run.specs.Next.{no_rules}
use Rattle.rw_commands.specs.Sections.{AreSections}
use Rattle.rw_commands.proofs.SectionLemmas.{one_grown}
use Rattle.rw_promise.specs.FirstCall.{IsFirstCall}
use Rattle.rw_words.specs.declared.job.Job.TheVariants.{Simulate}
use Rattle.rw_commands.specs.declared.refusal.File.TheVariants.{Inputs}
use Rattle.rw_commands.proofs.CommandLemmas.{of_command}
use Rattle.rw_commands.proofs.Findings.{one_basin, same_text}
use Rattle.rw_commands.proofs.OneReading.{same_values}
use Rattle.rw_commands.specs.RunText.{IsPlainText, no_extras}
use Rattle.rw_commands.specs.Sections.{first_given}
use Rattle.rw_promise.proofs.OneText.{of_values}

is_settled : (end : RunEnd) → status_of_end end ≡ 0 → end ≡ Settled
is_settled Settled is = refl
is_settled (Fault why) is = absurd (omega (arith, is))

-- what was written is the text of the basin and the inputs that the shelf tells
its_text : (call : Call) (model : FirstModel) (inflows outflows : List ℤ)
    (first : IsFirstCall call model inflows outflows) (end : RunEnd) (texts : List (List ℕ)) (basin : Draft) (inputs : Option Given)
    → SaysAt (simulation_of first.model_path first.inputs_path) Inputs inputs
    (ReadsInputs (simulation_of first.model_path first.inputs_path) call.shelf.before.holds basin)
    → IsSomeAnd inputs (λ given. AreSections (IsPlainText basin no_extras) 0 (first_given given) [] end texts)
    → (text : List ℕ) × (texts ≡ text ∷ []) × IsRunText first.basin no_rules no_extras None 0 first.inputs end text
its_text call model inflows outflows first end texts basin None says is = absurd is
its_text call model inflows outflows first end texts basin (Some inputs) says is =
    let command : Command = simulation_of first.model_path first.inputs_path in
    let holds = call.shelf.before.holds in
    let same = one_basin command holds basin first.basin first.told_model says.model first.read.model in
    let bytes = same_text command holds Inputs says.text first.read.text first.told_inputs says.read first.read.read in
    let reads : Reads first.basin first.read.text inputs =
    subst (λ t. Reads first.basin t inputs) bytes (subst (λ d. Reads d says.text inputs) same says.are) in
    let here : IsRunText first.basin no_rules no_extras None 0 inputs end is.0 =
    subst (λ d. IsRunText d no_rules no_extras None 0 inputs end is.0) same is.2 in (
      is.0,
      is.1,
      of_values inputs first.inputs (same_values first.basin first.read.text inputs first.inputs reads first.read.are) first.basin no_rules no_extras
          None 0 end is.0 here,
    )

pub first_call : ((basin : Draft) (model : FirstModel) (inputs : Given) (inflows outflows : List ℤ)
    → IsBasin basin → IsFirstForm basin model → IsFirstFlows inputs model.run.count inflows outflows
    → (end : RunEnd) (text : List ℕ) → IsRunText basin no_rules no_extras None 0 inputs end text
    → (fault : Option ℤ) × IsFirstText model inflows outflows fault text × ((fault ≡ None) ↔ (end ≡ Settled)))
    → ((bytes : List ℕ) → IfOk (model_of bytes) IsBasin)
    → (call : Call) (status : ℕ) (model : FirstModel) (inflows outflows : List ℤ)
    → Promise call status → status ≤ 1 → IsFirstCall call model inflows outflows
    → (fault : Option ℤ) × (text : List ℕ) × IsFirstText model inflows outflows fault text
    × GrowsBy call.out.before.contents call.out.after.contents text × ((fault ≡ None) ↔ (status ≡ 0))
first_call first_form basins call status model inflows outflows promise low first =
    let done = promise.done low in
    let command : Command = simulation_of first.model_path first.inputs_path in
    let wrote = of_command call.words done.command command done.asked first.asked
    (λ it. WritesAll it call.shelf.before.holds call.out status) done.text in
    let files = wrote.0 in
    let its : IsTextOf Simulate no_extras files status wrote.2.texts = wrote.2.is in
    let end = its.0 in
    let valid : IsBasin first.basin = rw first.read.model.is at (basins first.read.model.text) in
    let section = its_text call model inflows outflows first end wrote.2.texts files.basin files.inputs wrote.1.inputs its.2 in
    let table = first_form first.basin model first.inputs inflows outflows valid first.form first.flows end section.0 section.2 in (
      table.0,
      section.0,
      table.1,
      one_grown call.out.before.contents call.out.after.contents wrote.2.texts section.0 section.1 wrote.2.grew,
      (λ none. its.1 ∙ ap status_of_end (table.2.0 none), λ zero. table.2.1 (is_settled end (sym its.1 ∙ zero))),
    )
