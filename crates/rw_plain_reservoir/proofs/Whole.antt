-- The section of the run of a plain reservoir is the text of its run.
use Rattle.rw_plain_reservoir.proofs.Common.{All, Cell, Fault, FirstModel, Inputs, IsFirstFlows, IsFirstForm, IsFirstText, List, None, Option, RunEnd}
use Rattle.rw_plain_reservoir.proofs.Common.{Settled, Some, [], ap, arith, placings, none-some, option_map, plain_reservoir, refl, subst, sym, ℕ, ℤ}
use Rattle.rw_plain_reservoir.proofs.Common.{◌+◌, ◌↔◌, ◌∙◌, ◌∷◌, ◌≡◌}
use Rattle.rw_calendar.specs.Stamps.{Timesteps}
use Rattle.rw_model.proofs.Common.{IsBasin, IsLink, Draft, bounds_in}
use Rattle.rw_run.proofs.Common.{Log, cells_of, Policy, input_content, no_rules, end_of, last_closed, IsRun, with_inputs}
use Rattle.rw_report.specs.Section.{section_of, values_in}
use Rattle.rw_run.proofs.Placed.{standing-placed, end-placed, closed-placed}
use Rattle.rw_plain_reservoir.proofs.Alone.{Case, basin_of, count_of, model_of, no-links}
use Rattle.rw_plain_reservoir.proofs.Placed.{inflow-placed, outflow-placed, storage-placed}
use Rattle.rw_plain_reservoir.proofs.Steps.{IsCase, Stands, Ends, Comes, run_end, runs_on}
use Rattle.rw_plain_reservoir.proofs.Texts.{same-text}

-- the log once the inputs are placed
abbrev first_log : Case → Inputs → Log
first_log s inputs = with_inputs [] (placings (basin_of s) inputs)

starts : (s : Case) (inputs : Inputs) → IsFirstFlows inputs (count_of s) s.inflows s.outflows → Stands s 0 (first_log s inputs)
starts s inputs flows = record {
  standing = standing-placed [] (placings (basin_of s) inputs) refl;
  end = end-placed [] (placings (basin_of s) inputs) refl;
  closed = closed-placed [] (placings (basin_of s) inputs);
  inflow =
      λ t lt. inflow-placed s inputs (t + 1) (count_of s) (omega arith) (omega (arith, lt)) ∙ ap (option_map input_content) (flows.inflow.each t lt);
  outflow =
      λ t lt. outflow-placed s inputs (t + 1) (count_of s) (omega arith) (omega (arith, lt))
      ∙ ap (option_map input_content) (flows.outflow.each t lt);
  stored = λ t lt. absurd (omega (arith, lt));
  unknown =
      λ t le lt. storage-placed s inputs (t + 1) (count_of s) (omega arith) (omega (arith, lt)) ∙ ap (option_map input_content) (flows.storage t lt);
  inside = λ t lt. absurd (omega (arith, lt));
}

-- inputs have one run
abbrev IsOneRun : Type 0
IsOneRun =
    (basin : Draft) (policy : Policy) (inputs : List (Cell × ℤ)) (log other : Log) → IsRun basin policy inputs log → IsRun basin policy inputs other
    → log ≡ other

-- what the law says of a basin and a model
abbrev Tells : Draft → FirstModel → List ℤ → List ℤ → Log → Type 0
Tells basin model inflows outflows log =
    (fault : Option ℤ)
    × IsFirstText model inflows outflows fault
    (section_of basin 0 (end_of log) (last_closed log) (values_in (cells_of basin log)))
    × ((fault ≡ None) ↔ (end_of log ≡ Settled))

abbrev is_settled : RunEnd → Option (Unit {0})
is_settled Settled = None
is_settled (Fault why) = Some tt

settled_where : (steps : ℕ) (fault : Option ℤ) → (fault ≡ None) ↔ (run_end steps fault ≡ Settled)
settled_where steps None = (λ e. refl, λ e. refl)
settled_where steps (Some value) = (λ e. absurd (none-some _ (sym e)), λ e. absurd (none-some _ (sym (ap is_settled e))))

tells : (s : Case) (log : Log) → Ends s log → Tells (basin_of s) (model_of s) s.inflows s.outflows log
tells s log h =
    let basin = basin_of s in
    let values : (ℕ → ℕ → Option ℤ) = values_in (cells_of basin log) in (
      h.fault,
      record {
        closed = h.closed;
        run = h.run;
        text_is =
            ap (λ e. section_of basin 0 e (last_closed log) values) h.end ∙ ap (λ n. section_of basin 0 (run_end h.closed h.fault) n values) h.last
            ∙ same-text s (cells_of basin log) h.closed h.fault h.values;
      },
      subst (λ e. (h.fault ≡ None) ↔ (e ≡ Settled)) (sym h.end) (settled_where h.closed h.fault),
    )

comes : (s : Case) (inputs : Inputs) → IsCase s → IsFirstFlows inputs (count_of s) s.inflows s.outflows → Comes s (first_log s inputs)
comes s inputs is flows = runs_on s (count_of s) 0 (first_log s inputs) is (omega arith) (starts s inputs flows)

run_of : (s : Case) (inputs : Inputs) (run : Comes s (first_log s inputs)) → IsRun (basin_of s) no_rules (placings (basin_of s) inputs) run.log
run_of s inputs run = record { events = run.events; leads = run.leads; end = run.over }

-- any basin in the first form is such a one
alone : (basin : Draft) (model : FirstModel) → IsBasin basin → IsFirstForm basin model
    → basin ≡ record { control = basin.control; objects = plain_reservoir model.name model.initial ∷ []; links = []; bounds = basin.bounds }
alone basin model valid form =
    let objects = plain_reservoir model.name model.initial ∷ [] in
    let none : basin.links ≡ [] =
    no-links model.name model.initial basin.links (subst (λ o. All (IsLink o) basin.links) form.alone valid.whole.links) in
    ap (λ o. record { control = basin.control; objects = o; links = basin.links; bounds = basin.bounds }) form.alone
    ∙ ap (λ l. record { control = basin.control; objects = objects; links = l; bounds = basin.bounds }) none

-- so that what holds of each such one holds of it
in_first_form : (basin : Draft) (model : FirstModel) (inputs : Inputs) (inflows outflows : List ℤ) (P : Draft → FirstModel → List ℤ → List ℤ → Type 0)
    → IsBasin basin → IsFirstForm basin model → IsFirstFlows inputs model.run.count inflows outflows
    → ((s : Case) → IsCase s → IsFirstFlows inputs (count_of s) s.inflows s.outflows → P (basin_of s) (model_of s) s.inflows s.outflows)
    → P basin model inflows outflows
in_first_form basin model inputs inflows outflows P valid form flows all =
    let s : Case =
    record {
      control = basin.control;
      name = model.name;
      initial = model.initial;
      bounds = basin.bounds;
      inflows = inflows;
      outflows = outflows;
    } in
    let same = alone basin model valid form in
    let here = subst (λ (r : Timesteps). IsFirstFlows inputs r.count inflows outflows) (sym form.run) flows in
    let is : IsCase s = record {
      limit = valid.whole.control.least_object;
      usual = ap (λ (b : Draft). bounds_in b.objects b.links b.bounds 3) (sym same) ∙ form.storage;
      inflows = here.inflow.count;
      outflows = here.outflow.count;
    } in
    let with_run : (Timesteps → FirstModel) = λ r. record { name = model.name; initial = model.initial; run = r } in
    subst (λ b. P b model inflows outflows) (sym same) (subst (λ r. P (basin_of s) (with_run r) inflows outflows) form.run (all s is here))

pub first_run : (basin : Draft) (model : FirstModel) (inputs : Inputs) (inflows outflows : List ℤ)
    → IsBasin basin → IsFirstForm basin model → IsFirstFlows inputs model.run.count inflows outflows
    → (log : Log) × IsRun basin no_rules (placings basin inputs) log
first_run basin model inputs inflows outflows valid form flows =
    in_first_form basin model inputs inflows outflows (λ b m ins outs. (log : Log) × IsRun b no_rules (placings b inputs) log) valid form flows
    (λ s is here. let run = comes s inputs is here in (run.log, run_of s inputs run))

pub first-text : IsOneRun → (basin : Draft) (model : FirstModel) (inputs : Inputs) (inflows outflows : List ℤ) (log : Log)
    → IsBasin basin → IsFirstForm basin model → IsFirstFlows inputs model.run.count inflows outflows
    → IsRun basin no_rules (placings basin inputs) log
    → Tells basin model inflows outflows log
first-text one basin model inputs inflows outflows log valid form flows run =
    in_first_form basin model inputs inflows outflows (λ b m ins outs. IsRun b no_rules (placings b inputs) log → Tells b m ins outs log)
    valid form flows
    (λ s is here that.
    let run = comes s inputs is here in
    let same = one (basin_of s) no_rules (placings (basin_of s) inputs) run.log log (run_of s inputs run) that in
    tells s log (subst (Ends s) same run.ends))
    run
