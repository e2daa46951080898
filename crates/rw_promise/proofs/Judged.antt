-- The table of the sample's model makes a basin. Names are computed with their digits in place of decimals.
use Rattle.rw_base.proofs.Common.{◌≡◌, ℕ, zero, suc, ◌+◌, ◌/◌, ◌%◌, ◌<◌, nat_lt, if◌then◌else◌, false, true, Bool, ◌&&◌, List, [], ◌∷◌, ◌++◌}
use Rattle.rw_base.proofs.Common.{codes, Ok, Some, None, Result, refl, sym, subst, ap, ap₂, ◌∙◌, arith, ints, decimal}
use Rattle.rw_base.proofs.Common.{cases_lt, inl, inr, nat_tests, decimal_digit, decimal_step}
use Rattle.toml.specs.Data.{Data, Items, no_items, push_item}
use Rattle.rw_calendar.specs.Moment.{hours_later, months_later}
use Rattle.rw_model.specs.declared.control.RunControl.{RunControl}
use Rattle.rw_model.specs.Objects.{Object}
use Rattle.rw_model.specs.Draft.{Draft}
use Rattle.rw_model.specs.Basin.{finish_refusal}
use Rattle.rw_model_toml.specs.Model.{basin_of, control_in, draft_of, empty_draft, file_keys, filled, in_turn, model_of, table_or}
use Rattle.rw_model_toml.specs.Refusal.{ModelRefusal, ◌>>=◌, bad_build, refused_as}
use Rattle.rw_model_toml.specs.Run.{run_of}
use Rattle.rw_model_toml.specs.Key.{only_listed}
use Rattle.rw_model_toml.specs.Kinds.{kind_read, reach_of, reservoir_of}
use Rattle.rw_model_toml.specs.Told.{object_read, object_told, link_read, link_told}
use Rattle.rw_base.specs.Answers.{unless_refused}
use Rattle.rw_inputs.specs.Inputs.{kept_slot}
use Rattle.rw_inputs.specs.Reading.{inputs_of}
use Rattle.rw_sample.specs.Texts.{sample_inputs, sample_model}
use Rattle.rw_promise.specs.Cascade.{cascade_links, cascade_reservoirs, sample_basin, sample_reach, sample_reservoir, with_reaches, year_of_days}
use Rattle.rw_promise.specs.Inflows.{TakesInflows, inflow_at}
use Rattle.rw_promise.specs.ModelTable.{link_sections, object_sections, reach_named, reach_section, reservoir_named, sample_table, with_each}
use Rattle.rw_promise.specs.ModelTable.{with_links}
use Rattle.rw_promise.proofs.Accepted.{inputs_accepted}
use Rattle.rw_promise.proofs.Ascii.{text_utf8}
use Rattle.rw_promise.proofs.TableRead.{toml_read}

-- ---- with digits in place of decimals

abbrev pub digits_of : ℕ → List ℕ
digits_of n = if nat_lt n 10 then (48 + n) ∷ [] else (48 + n / 10) ∷ (48 + n % 10) ∷ []

pub in_digits : (n : ℕ) → n < 100 → decimal n ≡ digits_of n
in_digits n small = elim (cases_lt n 10) [
  | inl less ↦ let one : nat_lt n 10 ≡ true = grind (arith, nat_tests, less) in rw one (decimal_digit n less)
  | inr most ↦
      let two : nat_lt n 10 ≡ false = grind (arith, nat_tests, most) in
      rw two (decimal_step n most (omega (arith, small)) ∙ ap (λ front. front ++ (48 + n % 10) ∷ []) (decimal_digit (n / 10) (omega (arith, small))))
]

abbrev reservoir_by : List ℕ → Data
reservoir_by digits = reservoir_named (codes "D" ++ digits)

abbrev reach_by : List ℕ → Data
reach_by digits = reach_named (codes "R" ++ digits)

abbrev links_in_digits : ℕ → Items
links_in_digits zero = no_items
links_in_digits (suc before) = with_links (links_in_digits before) (digits_of (suc before)) (digits_of (suc before + 1))

abbrev objects_in_digits : (reservoirs reaches : ℕ) → Items
objects_in_digits reservoirs reaches =
    with_each (with_each no_items (λ n. reservoir_by (digits_of n)) reservoirs) (λ n. reach_by (digits_of n)) reaches

same_each : (items : Items) (by : List ℕ → Data) (count : ℕ) → count < 100
    → with_each items (λ n. by (decimal n)) count ≡ with_each items (λ n. by (digits_of n)) count
same_each items by zero few = refl
same_each items by (suc before) few =
    ap₂ (λ front digits. push_item front (by digits)) (same_each items by before (omega (arith, few))) (in_digits (suc before) few)

same_links : (count : ℕ) → count < 99 → link_sections count ≡ links_in_digits count
same_links zero few = refl
same_links (suc before) few =
    ap (λ front. with_links front (decimal (suc before)) (decimal (suc before + 1))) (same_links before (omega (arith, few)))
    ∙ ap₂ (λ digits next. with_links (links_in_digits before) digits next) (in_digits (suc before) (omega (arith, few)))
    (in_digits (suc before + 1) (omega (arith, few)))

same_objects : object_sections 20 19 ≡ objects_in_digits 20 19
same_objects = ap (λ items. with_each items reach_section 19) (same_each no_items reservoir_by 20 (omega arith))
    ∙ same_each (with_each no_items (λ n. reservoir_by (digits_of n)) 20) reach_by 19 (omega arith)

-- ---- the basin

abbrev reservoirs_in_digits : ℕ → List Object
reservoirs_in_digits zero = []
reservoirs_in_digits (suc before) = reservoirs_in_digits before ++ sample_reservoir (codes "D" ++ digits_of (suc before)) ∷ []

abbrev reaches_in_digits : List Object → ℕ → List Object
reaches_in_digits objects zero = objects
reaches_in_digits objects (suc before) = reaches_in_digits objects before ++ sample_reach (codes "R" ++ digits_of (suc before)) ∷ []

abbrev pub drafted : RunControl → ℕ → ℕ → ℕ → Draft
drafted control reservoirs reaches links =
    record { control = control; objects = reaches_in_digits (reservoirs_in_digits reservoirs) reaches; links = cascade_links links; bounds = [] }

same_reservoirs : (count : ℕ) → count < 100 → cascade_reservoirs count ≡ reservoirs_in_digits count
same_reservoirs zero few = refl
same_reservoirs (suc before) few =
    ap₂ (λ front digits. front ++ sample_reservoir (codes "D" ++ digits) ∷ [])
    (same_reservoirs before (omega (arith, few))) (in_digits (suc before) few)

same_reaches : (objects : List Object) (count : ℕ) → count < 100 → with_reaches objects count ≡ reaches_in_digits objects count
same_reaches objects zero few = refl
same_reaches objects (suc before) few =
    ap₂ (λ front digits. front ++ sample_reach (codes "R" ++ digits) ∷ [])
    (same_reaches objects before (omega (arith, few))) (in_digits (suc before) few)

pub same_basin : sample_basin ≡ drafted year_of_days 20 19 19
unfolding sample_basin
same_basin = ap (λ (objects : List Object). record { control = year_of_days; objects = objects; links = cascade_links 19; bounds = [] })
    (ap (λ objects. with_reaches objects 19) (same_reservoirs 20 (omega arith)) ∙ same_reaches (reservoirs_in_digits 20) 19 (omega arith))

-- ---- what the table is judged to be

control_read : control_in sample_table ≡ Ok year_of_days
unfolding control_in run_of sample_table hours_later months_later
control_read = refl

objects_made : (control : RunControl)
    → in_turn object_read (codes "object") 1 (objects_in_digits 20 19) (empty_draft control) ≡ Ok (drafted control 20 19 0)
unfolding object_read object_told kind_read reach_of reservoir_of
objects_made control = refl

links_made : (control : RunControl)
    → in_turn link_read (codes "link") 1 (links_in_digits 19) (drafted control 20 19 0) ≡ Ok (drafted control 20 19 19)
unfolding link_read link_told
links_made control = refl

finishes : finish_refusal (drafted year_of_days 20 19 19) ≡ None
finishes = refl

all_filled : (control : RunControl) → filled sample_table (empty_draft control) ≡ Ok (drafted control 20 19 19)
unfolding filled sample_table
all_filled control =
    ap (λ items. in_turn object_read (codes "object") 1 items (empty_draft control)
    >>= λ objects. in_turn link_read (codes "link") 1 (link_sections 19) objects >>= λ (links : Draft). Ok links) same_objects
    ∙ ap (λ (read : Result Draft ModelRefusal). read
    >>= λ objects. in_turn link_read (codes "link") 1 (link_sections 19) objects >>= λ (links : Draft). Ok links) (objects_made control)
    ∙ ap (λ items. in_turn link_read (codes "link") 1 items (drafted control 20 19 0) >>= λ (links : Draft). Ok links) (same_links 19 (omega arith))
    ∙ ap (λ (read : Result Draft ModelRefusal). read >>= λ (links : Draft). Ok links) (links_made control)

listed : only_listed file_keys [] sample_table ≡ Ok tt
unfolding sample_table
listed = refl

basin_made : basin_of sample_table ≡ Ok (drafted year_of_days 20 19 19)
unfolding basin_of draft_of
basin_made =
    ap (λ (read : Result RunControl ModelRefusal). (read >>= λ control. filled sample_table (empty_draft control) >>= λ draft.
    only_listed file_keys [] sample_table >>= λ listed. Ok draft) >>= λ draft.
    refused_as (bad_build (codes "basin")) (unless_refused (finish_refusal draft) draft)) control_read
    ∙ ap (λ (read : Result Draft ModelRefusal). (read >>= λ draft. only_listed file_keys [] sample_table >>= λ listed. Ok draft) >>= λ draft.
    refused_as (bad_build (codes "basin")) (unless_refused (finish_refusal draft) draft)) (all_filled year_of_days)
    ∙ ap (λ (read : Result (Unit {0}) ModelRefusal). (read >>= λ listed. Ok (drafted year_of_days 20 19 19)) >>= λ draft.
    refused_as (bad_build (codes "basin")) (unless_refused (finish_refusal draft) draft)) listed
    ∙ ap (λ refusal. refused_as (bad_build (codes "basin")) (unless_refused refusal (drafted year_of_days 20 19 19))) finishes

pub model_accepted : model_of sample_model ≡ Ok sample_basin
model_accepted = ap (λ found. table_or found >>= basin_of) toml_read ∙ basin_made ∙ ap Ok (sym same_basin)

-- ---- and it takes the inputs

takes : TakesInflows (drafted year_of_days 20 19 19) 1
takes = record {
  named = ap₂ (λ (object slot : Bool). if object && slot then Some 1 else None) (text_utf8 (codes "D1") refl) (text_utf8 (codes "Inflow") refl);
  settable = refl;
  steps = omega arith;
  least = record { low = omega (arith, ints); high = omega (arith, ints) };
  most = record { low = omega (arith, ints); high = omega (arith, ints) };
}

kept : kept_slot sample_basin 1 ≡ 1
unfolding sample_basin
kept = refl

pub inputs_taken : (seed : ℕ) → inputs_of sample_basin (sample_inputs seed) ≡ Ok (inflow_at 1 seed 365)
inputs_taken seed =
    inputs_accepted sample_basin 1 seed (subst (λ basin. TakesInflows basin 1) (sym same_basin) takes)
    ∙ ap (λ slot. Ok (inflow_at slot seed 365)) kept
