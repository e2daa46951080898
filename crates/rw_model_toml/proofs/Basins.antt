-- What a file is read as is a valid basin.
use Rattle.rw_base.proofs.Common.{◌≡◌, ℕ, ◌+◌, ◌≤◌, ℤ, pos, ◌<ℤ◌, int_lt, unsigned_abs, Bool, true, false, ◌||◌, if◌then◌else◌, List, [], ◌∷◌, ◌++◌}
use Rattle.rw_base.proofs.Common.{Option, None, Some, Result, Ok, Err, codes, refl, arith, IfOk, ints, ◌⊎◌, inl, inr, ◌==◌}
use Rattle.toml.specs.Data.{Data, string, integer, float, boolean, datetime, array, table, Items, no_items, item, Members, get_member}
use Rattle.rw_model.proofs.Common.{link_refusal, Draft, IsControl, IsDraft, IsBasin, finish_refusal, object_refusal, bound_refusal, object-iff}
use Rattle.rw_model.proofs.Common.{bound-iff, IsDraft-begin, IsDraft-object, IsDraft-link, IsDraft-bound, basin_iff}
use Rattle.rw_model_toml.specs.declared.run.Run.{Run}
use Rattle.rw_model_toml.specs.Refusal.{ModelRefusal, missing, ◌>>=◌, refused_as, bad_build, bad_calendar, out_of_range}
use Rattle.rw_model_toml.specs.Path.{key_path, element_path}
use Rattle.rw_model_toml.specs.Value.{integer_of, text_of, items_of, members_of, within_or_refused, count_read}
use Rattle.rw_model_toml.specs.Key.{judged_or, required, optional, only_listed}
use Rattle.rw_model_toml.specs.ListOf.{list_read}
use Rattle.rw_model_toml.specs.Run.{start_read, step_length_of, agenda_read, run_keys, run_of}
use Rattle.rw_model_toml.specs.Control.{ahead_in, control_of}
use Rattle.rw_model_toml.specs.Names.{name_of}
use Rattle.rw_model_toml.specs.Kinds.{kind_read}
use Rattle.rw_model_toml.specs.Told as told
use Rattle.rw_model_toml.specs.Told.{object_told, link_told, bound_told, object_read, link_read, slot_read, few_linked, slot_number}
use Rattle.rw_model_toml.specs.Model.{in_turn, control_in, empty_draft, objects_from, links_from, bounds_from, filled, file_keys, draft_of, basin_of}
use Rattle.rw_model_toml.specs.Model.{toml_of, table_or, model_of}
use Rattle.rw_base.specs.Answers.{unless_refused}
use Rattle.rw_base.proofs.Tests.{denied, Decides-int_lt}
use Rattle.std.proofs.lemmas.Bool.{or_parts}
use Rattle.rw_calendar.specs.declared.limits.TheConstants.{STEPS_MAX}
use Rattle.rw_calendar.specs.Stamps.{AreTimesteps, stamps_refusal, stamps_of, timesteps_of}
use Rattle.rw_calendar.proofs.Refusals.{stamped-iff}
use Rattle.rw_calendar.proofs.TimestepFacts.{are_stamped}

-- what is read next, whatever was read before it
next : {A B : Type 0} (P : B → Type 0) (reading : Result A ModelRefusal) (then_ : A → Result B ModelRefusal) → ((x : A) → IfOk (then_ x) P)
    → IfOk (reading >>= then_) P
next P (Ok x) then_ h = h x
next P (Err refusal) then_ h = tt

-- what is read next, by what was read before it
next-by : {A B : Type 0} (Q : A → Type 0) (P : B → Type 0) (reading : Result A ModelRefusal) (then_ : A → Result B ModelRefusal) → IfOk reading Q
    → ((x : A) → Q x → IfOk (then_ x) P) → IfOk (reading >>= then_) P
next-by Q P (Ok x) then_ q h = h x q
next-by Q P (Err refusal) then_ q h = tt

-- what isn't refused below
kept-by : {R A : Type 0} (P : A → Type 0) (tell : R → ModelRefusal) (refusal : Option R) (x : A) → (refusal ≡ None → P x)
    → IfOk (refused_as tell (unless_refused refusal x)) P
kept-by P tell None x h = h refl
kept-by P tell (Some r) x h = tt

-- ---- the limits of a run

abbrev IsFromTo : ℕ → ℕ → ℕ → Type 0
IsFromTo low high n = (low ≤ n) × (n ≤ high)

by-test : (low high : ℕ) (refusal : ModelRefusal) (z : ℤ) (b : Bool) → (b ≡ false → IsFromTo low high (unsigned_abs z))
    → IfOk ((if b then Err refusal else Ok z) >>= λ y. Ok (unsigned_abs y)) (IsFromTo low high)
by-test low high refusal z true h = tt
by-test low high refusal z false h = h refl

inside-is : (low high : ℕ) (path : List ℕ) (z : ℤ)
    → IfOk (within_or_refused (pos low) (pos high) path z >>= λ y. Ok (unsigned_abs y)) (IsFromTo low high)
inside-is low high path z = by-test low high (out_of_range path) z (int_lt z (pos low) || int_lt (pos high) z)
    (λ e.
    let parts = or_parts (int_lt z (pos low)) (int_lt (pos high) z) e in
    let least : ¬ (z <ℤ pos low) = denied _ (Decides-int_lt z (pos low)) parts.0 in
    let most : ¬ (pos high <ℤ z) = denied _ (Decides-int_lt (pos high) z) parts.1 in
    (omega (arith, ints), omega (arith, ints)))

count-inside : (low high : ℕ) (path : List ℕ) (d : Data) → IfOk (count_read low high path d) (IsFromTo low high)
count-inside low high path (string s) = tt
count-inside low high path (integer z) = inside-is low high path z
count-inside low high path (float x) = tt
count-inside low high path (boolean b) = tt
count-inside low high path (datetime dt) = tt
count-inside low high path (array ds) = tt
count-inside low high path (table ms) = tt

judged-inside : {A : Type 0} (Q : A → Type 0) (absent : Result A ModelRefusal) (judge : Data → Result A ModelRefusal) (found : Option Data)
    → IfOk absent Q → ((d : Data) → IfOk (judge d) Q) → IfOk (judged_or absent judge found) Q
judged-inside Q absent judge None p q = p
judged-inside Q absent judge (Some d) p q = q d

abbrev InLimits : Run → Type 0
InLimits run = IsFromTo 16 100 run.object_limit × IsFromTo 1 100 run.rule_limit × IsFromTo 1 STEPS_MAX run.steps

limit-inside : (default low high : ℕ) (key : List ℕ) (ms : Members) → IsFromTo low high default
    → IfOk (optional default (count_read low high) (codes "run") key ms) (IsFromTo low high)
limit-inside default low high key ms within_ =
    judged-inside (IsFromTo low high) (Ok default) (count_read low high (key_path (codes "run") key)) (get_member key ms) within_
    (count-inside low high (key_path (codes "run") key))

steps-inside : (ms : Members) → IfOk (required (count_read 1 STEPS_MAX) (codes "run") (codes "steps") ms) (IsFromTo 1 STEPS_MAX)
steps-inside ms =
    judged-inside (IsFromTo 1 STEPS_MAX) (Err (missing (key_path (codes "run") (codes "steps"))))
    (count_read 1 STEPS_MAX (key_path (codes "run") (codes "steps")))
    (get_member (codes "steps") ms) tt (count-inside 1 STEPS_MAX (key_path (codes "run") (codes "steps")))

run-inside : (ms : Members) → IfOk (run_of ms) InLimits
unfolding run_of
run-inside ms = next InLimits (start_read ms) _ (λ start. next InLimits (step_length_of ms) _
    (λ length. next-by (IsFromTo 1 STEPS_MAX) InLimits (required (count_read 1 STEPS_MAX) (codes "run") (codes "steps") ms) _ (steps-inside ms)
    (λ steps r. next InLimits (agenda_read ms) _
    (λ agenda. next-by (IsFromTo 16 100) InLimits (optional 50 (count_read 16 100) (codes "run") (codes "object_limit") ms) _
    (limit-inside 50 16 100 (codes "object_limit") ms (omega arith, omega arith))
    (λ objects p. next-by (IsFromTo 1 100) InLimits (optional 20 (count_read 1 100) (codes "run") (codes "rule_limit") ms) _
    (limit-inside 20 1 100 (codes "rule_limit") ms (omega arith, omega arith))
    (λ rules q. next InLimits (only_listed run_keys (codes "run") ms) _ (λ listed. (p, q, r))))))))

abbrev IsAhead : ℕ → Type 0
IsAhead ahead = (ahead ≡ 0) ⊎ (ahead ≡ 30)

ahead-inside : (format : ℕ) → IsAhead (ahead_in format)
ahead-inside format = by (format == 1)
  where
    by : (first : Bool) → IsAhead (if first then 0 else 30)
    by true = inl refl
    by false = inr refl

control-inside : (ahead : ℕ) (run : Run) → IsAhead ahead → InLimits run → IfOk (control_of ahead run) IsControl
control-inside ahead run steps p = next-by AreTimesteps IsControl (refused_as bad_calendar (stamps_of run.start run.step_length run.steps)) _
    (kept-by AreTimesteps bad_calendar (stamps_refusal run.start run.step_length run.steps) (timesteps_of run.start run.step_length run.steps)
    (λ none. are_stamped run.start run.step_length run.steps p.2.0 p.2.1 ((stamped-iff run.start run.step_length run.steps).0 none)))
    (λ stamps are. record { timesteps = are; least_object = p.0.0; most_object = p.0.1; least_rule = p.1.0; most_rule = p.1.1; ahead = steps })

in-control : (ms : Members) → IfOk (control_in ms) IsControl
unfolding control_in
in-control ms = next IsControl (required (count_read 1 2) [] (codes "format") ms) _
    (λ format. next IsControl (required members_of [] (codes "run") ms) _
    (λ run_table. next-by InLimits IsControl (run_of run_table) _ (run-inside run_table)
    (λ run p. control-inside (ahead_in format) run (ahead-inside format) p)))

-- ---- what a builder is told

-- each table keeps what was told in order
abbrev Keeps : (List ℕ → Data → Draft → Result Draft ModelRefusal) → Type 0
Keeps step = (at : List ℕ) (d : Data) (draft : Draft) → IsDraft draft → IfOk (step at d draft) IsDraft

object-keeps : Keeps object_read
unfolding object_read object_told
object-keeps at d draft is = next IsDraft (members_of at d) _ (λ ms. next IsDraft (name_of at ms) _
    (λ name. next IsDraft (required text_of at (codes "kind") ms) _ (λ word. next IsDraft (kind_read at word ms) _
    (λ kind. kept-by IsDraft (bad_build at) (object_refusal draft.objects (record { name = name; kind = kind }))
    (record draft { objects = draft.objects ++ record { name = name; kind = kind } ∷ [] })
    (λ free. IsDraft-object draft (record { name = name; kind = kind }) is
    ((object-iff draft.objects (record { name = name; kind = kind })).0 free))))))

link-keeps : Keeps link_read
unfolding link_read link_told
link-keeps at d draft is = next IsDraft (members_of at d) _ (λ ms. next IsDraft (required items_of at (codes "slots") ms) _
    (λ ds. next IsDraft (list_read (slot_read draft.objects) (key_path at (codes "slots")) 1 ds) _
    (λ slots. next IsDraft (few_linked (key_path at (codes "slots")) slots) _
    (λ few. next IsDraft (only_listed (codes "slots" ∷ []) at ms) _
    (λ listed. kept-by IsDraft (bad_build at) (link_refusal draft.objects draft.links slots) (record draft { links = draft.links ++ slots ∷ [] })
    (IsDraft-link draft slots is))))))

bound-keeps : Keeps told.bound_read
unfolding told.bound_read bound_told
bound-keeps at d draft is = next IsDraft (members_of at d) _ (λ ms. next IsDraft (required text_of at (codes "slot") ms) _
    (λ text. next IsDraft (required integer_of at (codes "min") ms) _ (λ min. next IsDraft (required integer_of at (codes "max") ms) _
    (λ max. next IsDraft (only_listed (codes "slot" ∷ codes "min" ∷ codes "max" ∷ []) at ms) _
    (λ listed. kept-by IsDraft (bad_build at) (bound_refusal draft.objects draft.bounds (slot_number draft.objects text) (min, max))
    (record draft { bounds = draft.bounds ++ record { slot = slot_number draft.objects text; bounds = (min, max) } ∷ [] })
    (λ free. IsDraft-bound draft (slot_number draft.objects text) (min, max) is
    ((bound-iff draft.objects draft.bounds (slot_number draft.objects text) (min, max)).0 free)))))))

turn-keeps : (step : List ℕ → Data → Draft → Result Draft ModelRefusal) (path : List ℕ) (number : ℕ) (ds : Items) (draft : Draft) → Keeps step
    → IsDraft draft
    → IfOk (in_turn step path number ds draft) IsDraft
turn-keeps step path number no_items draft keeps is = is
turn-keeps step path number (item d ds) draft keeps is =
    next-by IsDraft IsDraft (step (element_path path number) d draft) (in_turn step path (number + 1) ds)
    (keeps (element_path path number) d draft is)
    (λ more more_is. turn-keeps step path (number + 1) ds more keeps more_is)

-- ---- the file

objects-keep : (ms : Members) (draft : Draft) → IsDraft draft → IfOk (objects_from ms draft) IsDraft
objects-keep ms draft is = next IsDraft (required items_of [] (codes "object") ms) _
    (λ items. turn-keeps object_read (codes "object") 1 items draft object-keeps is)

links-keep : (ms : Members) (draft : Draft) → IsDraft draft → IfOk (links_from ms draft) IsDraft
links-keep ms draft is = next IsDraft (optional no_items items_of [] (codes "link") ms) _
    (λ items. turn-keeps link_read (codes "link") 1 items draft link-keeps is)

bounds-keep : (ms : Members) (draft : Draft) → IsDraft draft → IfOk (bounds_from ms draft) IsDraft
bounds-keep ms draft is = next IsDraft (optional no_items items_of [] (codes "bound") ms) _
    (λ items. turn-keeps told.bound_read (codes "bound") 1 items draft bound-keeps is)

filled-keeps : (ms : Members) (draft : Draft) → IsDraft draft → IfOk (filled ms draft) IsDraft
unfolding filled
filled-keeps ms draft is = next-by IsDraft IsDraft (objects_from ms draft) _ (objects-keep ms draft is)
    (λ with_objects objects_are. next-by IsDraft IsDraft (links_from ms with_objects) _ (links-keep ms with_objects objects_are)
    (λ with_links links_are. bounds-keep ms with_links links_are))

-- what a file says is a valid basin
pub model_valid : (bytes : List ℕ) → IfOk (model_of bytes) IsBasin
unfolding basin_of draft_of
model_valid bytes = next IsBasin (table_or (toml_of bytes)) basin_of
    (λ ms. next-by IsDraft IsBasin (draft_of ms) _
    (next-by IsControl IsDraft (control_in ms) _ (in-control ms)
    (λ control limits. next-by IsDraft IsDraft (filled ms (empty_draft control)) _
    (filled-keeps ms (empty_draft control) (IsDraft-begin control limits))
    (λ draft is. next IsDraft (only_listed file_keys [] ms) _ (λ listed. is))))
    (λ draft is. kept-by IsBasin (bad_build (codes "basin")) (finish_refusal draft) draft (basin_iff draft is).0))
