-- A table with 2 as its format is read as the basin that it was, where rules may put further ahead.
use Rattle.rw_base.proofs.Common.{ap, bytes_eq, bytes_eq-Decides, cases_Bool, codes, Err, false, if◌then◌else◌, inl, inr, IsSomeAnd, List}
use Rattle.rw_base.proofs.Common.{None, Ok, Option, pos, refl, Result, same_Some, slice_cmp, Some, sym, nat_cmp, ℕ, ◌+◌, ◌++◌, ◌∙◌, ◌∷◌, ◌≡◌, ◌≢◌, []}
use Rattle.std.proofs.lemmas.Map.Text.{is_eq-slice_cmp}
use Rattle.std.proofs.Common.{Equal, Greater, Less, Ordering, is_eq}
use Rattle.std.specs.Ordering.{match_ordering}
use Rattle.toml.specs.Data.{Data, Items, Members, get_member, integer, item, member, no_items, no_members, same_key}
use Rattle.rw_base.specs.Answers.{unless_refused}
use Rattle.rw_calendar.specs.Stamps.{Timesteps, stamps_of}
use Rattle.rw_model.specs.declared.control.AgendaOrder.{AgendaOrder}
use Rattle.rw_model.specs.declared.control.RunControl.{RunControl}
use Rattle.rw_model.specs.Basin.{finish_refusal}
use Rattle.rw_model.specs.Build.{bound_refusal, finished, object_refusal}
use Rattle.rw_model.specs.Draft.{Draft}
use Rattle.rw_model.specs.Links.{link_refusal}
use Rattle.rw_model_toml.specs.Control.{ahead_in, control_of}
use Rattle.rw_model_toml.specs.Key.{judged_or, only_listed, optional, required}
use Rattle.rw_model_toml.specs.Kinds.{kind_read}
use Rattle.rw_model_toml.specs.ListOf.{list_read}
use Rattle.rw_model_toml.specs.Migrated.{IsMigrated, with_format_2}
use Rattle.rw_model_toml.specs.Model.{basin_of, bounds_from, control_in, draft_of, empty_draft, file_keys, filled, in_turn, links_from, model_of}
use Rattle.rw_model_toml.specs.Model.{objects_from, table_or, toml_of}
use Rattle.rw_model_toml.specs.Names.{name_of}
use Rattle.rw_model_toml.specs.Path.{element_path, key_path}
use Rattle.rw_model_toml.specs.Refusal.{ModelRefusal, ◌>>=◌, bad_build, bad_calendar, missing, refused_as}
use Rattle.rw_model_toml.specs.Run.{run_of}
use Rattle.rw_model_toml.specs.Told as told
use Rattle.rw_model_toml.specs.Told.{bound_told, few_linked, link_read, link_told, object_read, object_told, slot_number, slot_read}
use Rattle.rw_model_toml.specs.Value.{count_read, integer_of, items_of, members_of, text_of}
use Rattle.rw_ahead.specs.Ahead.{ahead_to}

-- ---- keys

abbrev format : List ℕ
format = codes "format"

skipped : {A : Type 0} (order : Ordering) (rest : Option A) (here there : A) → is_eq order ≡ false
    → match_ordering order rest (Some here) rest ≡ match_ordering order rest (Some there) rest
skipped Less rest here there other = refl
skipped Equal rest here there other = absurd (cc)
skipped Greater rest here there other = refl

-- what is found at another key
key_stays : (key : List ℕ) (table : Members) → is_eq (slice_cmp nat_cmp key format) ≡ false
    → get_member key (with_format_2 table) ≡ get_member key table
key_stays key no_members other = refl
key_stays key (member l value rest) other = elim (cases_Bool (same_key format l)) [
  | inl same ↦
      let here : format ≡ l = (bytes_eq-Decides format l).0 (rw (← is_eq-slice_cmp format l) same) in
      rw same (skipped (slice_cmp nat_cmp key l) (get_member key rest) (integer (pos 2)) value (rw here at other))
  | inr differs ↦ rw (differs, key_stays key rest other) refl
]

-- the keys are those that they were
listed_stays : (keys : List (List ℕ)) (at : List ℕ) (table : Members) → only_listed keys at (with_format_2 table) ≡ only_listed keys at table
listed_stays keys at no_members = refl
listed_stays keys at (member key value rest) = elim (cases_Bool (same_key format key)) [
  | inl same ↦ rw same refl
  | inr differs ↦ rw (differs, listed_stays keys at rest) refl
]

pub format_is_2 : (table : Members) (value : Data) → get_member format table ≡ Some value
    → get_member format (with_format_2 table) ≡ Some (integer (pos 2))
format_is_2 no_members value there = absurd (cc)
format_is_2 (member key own rest) value there = by (slice_cmp nat_cmp format key) refl there (format_is_2 rest value)
  where
    by : (order : Ordering) → slice_cmp nat_cmp format key ≡ order
        → match_ordering order (get_member format rest) (Some own) (get_member format rest) ≡ Some value
        → (get_member format rest ≡ Some value → get_member format (with_format_2 rest) ≡ Some (integer (pos 2)))
        → get_member format (if is_eq order then member key (integer (pos 2)) rest else member key own (with_format_2 rest)) ≡ Some (integer (pos 2))
    by Less is there later = rw is (later there)
    by Equal is there later = rw is refl
    by Greater is there later = rw is (later there)

pub others_stay : (table : Members) (key : List ℕ) → key ≢ codes "format" → get_member key (with_format_2 table) ≡ get_member key table
others_stay table key other = elim (cases_Bool (bytes_eq key format)) [
  | inl same ↦ absurd (other ((bytes_eq-Decides key format).0 same))
  | inr differs ↦ key_stays key table (is_eq-slice_cmp key format ∙ differs)
]

pub format_2_stays : (table : Members) → get_member format table ≡ Some (integer (pos 2)) → with_format_2 table ≡ table
format_2_stays no_members there = refl
format_2_stays (member key own rest) there = by (slice_cmp nat_cmp format key) there (format_2_stays rest)
  where
    by : (order : Ordering) → match_ordering order (get_member format rest) (Some own) (get_member format rest) ≡ Some (integer (pos 2))
        → (get_member format rest ≡ Some (integer (pos 2)) → with_format_2 rest ≡ rest)
        → (if is_eq order then member key (integer (pos 2)) rest else member key own (with_format_2 rest)) ≡ member key own rest
    by Less there later = ap (member key own) (later there)
    by Equal there later = ap (λ value. member key value rest) (sym (same_Some _ _ there))
    by Greater there later = ap (member key own) (later there)

-- ---- readings

-- what is made of what is read
abbrev made : {A B : Type 0} → (A → B) → Result A ModelRefusal → Result B ModelRefusal
made f (Ok x) = Ok (f x)
made f (Err refusal) = Err refusal

-- the same is read first, and from then on the one goes as the other
same_first : {A B C : Type 0} (reading : Result A ModelRefusal) (near : A → Result B ModelRefusal) (far : A → Result C ModelRefusal) (f : B → C)
    → ((x : A) → far x ≡ made f (near x)) → (reading >>= far) ≡ made f (reading >>= near)
same_first (Ok x) near far f each = each x
same_first (Err refusal) near far f each = refl

-- what is read behind it goes as it did
then_same : {A B C D : Type 0} (reading : Result A ModelRefusal) (g : A → C) (near : A → Result B ModelRefusal) (far : C → Result D ModelRefusal)
    (f : B → D) → ((x : A) → far (g x) ≡ made f (near x)) → (made g reading >>= far) ≡ made f (reading >>= near)
then_same (Ok x) g near far f each = each x
then_same (Err refusal) g near far f each = refl

-- what was read whole was read in parts
record IsReadBy {A B : Type 0} (reading : Result A ModelRefusal) (near : A → Result B ModelRefusal) (whole : B) : Type 0 where
  first : A
  reads : reading ≡ Ok first
  rest : near first ≡ Ok whole

parts : {A B : Type 0} (reading : Result A ModelRefusal) (near : A → Result B ModelRefusal) (whole : B) → (reading >>= near) ≡ Ok whole
    → IsReadBy reading near whole
parts (Ok x) near whole is = record { first = x; reads = refl; rest = is }
parts (Err refusal) near whole is = absurd (cc)

told_same : {R A B : Type 0} (tell : R → ModelRefusal) (refusal : Option R) (x : A) (f : A → B)
    → refused_as tell (unless_refused refusal (f x)) ≡ made f (refused_as tell (unless_refused refusal x))
told_same tell None x f = refl
told_same tell (Some refusal) x f = refl

-- ---- what a builder is told

module _ (most : ℕ) where
  abbrev far : Draft → Draft
  far draft = ahead_to most draft

  -- the tables of one key go as they did
  abbrev GoesAlike : (List ℕ → Data → Draft → Result Draft ModelRefusal) → Type 0
  GoesAlike step = (at : List ℕ) (value : Data) (draft : Draft) → step at value (far draft) ≡ made far (step at value draft)

  object_same : GoesAlike object_read
  unfolding object_read object_told
  object_same at value draft = same_first (members_of at value) _ _ far (λ table. same_first (name_of at table) _ _ far
      (λ name. same_first (required text_of at (codes "kind") table) _ _ far (λ word. same_first (kind_read at word table) _ _ far
      (λ kind. told_same (bad_build at) (object_refusal draft.objects (record { name = name; kind = kind }))
      (record draft { objects = draft.objects ++ record { name = name; kind = kind } ∷ [] }) far))))

  link_same : GoesAlike link_read
  unfolding link_read link_told
  link_same at value draft = same_first (members_of at value) _ _ far (λ table. same_first (required items_of at (codes "slots") table) _ _ far
      (λ items. same_first (list_read (slot_read draft.objects) (key_path at (codes "slots")) 1 items) _ _ far
      (λ slots. same_first (few_linked (key_path at (codes "slots")) slots) _ _ far
      (λ few. same_first (only_listed (codes "slots" ∷ []) at table) _ _ far
      (λ listed. told_same (bad_build at) (link_refusal draft.objects draft.links slots) (record draft { links = draft.links ++ slots ∷ [] }) far)))))

  bound_same : GoesAlike told.bound_read
  unfolding told.bound_read bound_told
  bound_same at value draft = same_first (members_of at value) _ _ far (λ table. same_first (required text_of at (codes "slot") table) _ _ far
      (λ text. same_first (required integer_of at (codes "min") table) _ _ far (λ min. same_first (required integer_of at (codes "max") table) _ _ far
      (λ max. same_first (only_listed (codes "slot" ∷ codes "min" ∷ codes "max" ∷ []) at table) _ _ far
      (λ listed. told_same (bad_build at) (bound_refusal draft.objects draft.bounds (slot_number draft.objects text) (min, max))
      (record draft { bounds = draft.bounds ++ record { slot = slot_number draft.objects text; bounds = (min, max) } ∷ [] }) far)))))

  turn_same : (step : List ℕ → Data → Draft → Result Draft ModelRefusal) (path : List ℕ) (number : ℕ) (items : Items) (draft : Draft)
      → GoesAlike step → in_turn step path number items (far draft) ≡ made far (in_turn step path number items draft)
  turn_same step path number no_items draft alike = refl
  turn_same step path number (item value rest) draft alike =
      ap (λ reading. reading >>= in_turn step path (number + 1) rest) (alike (element_path path number) value draft)
      ∙ then_same (step (element_path path number) value draft) far (in_turn step path (number + 1) rest) (in_turn step path (number + 1) rest) far
      (λ more. turn_same step path (number + 1) rest more alike)

  -- ---- the file

  objects_same : (table : Members) (draft : Draft) → objects_from (with_format_2 table) (far draft) ≡ made far (objects_from table draft)
  objects_same table draft =
      ap (λ found. judged_or (Err (missing (codes "object"))) (items_of (codes "object")) found
      >>= λ items. in_turn object_read (codes "object") 1 items (far draft)) (key_stays (codes "object") table refl)
      ∙ same_first (required items_of [] (codes "object") table) _ _ far
      (λ items. turn_same object_read (codes "object") 1 items draft object_same)

  links_same : (table : Members) (draft : Draft) → links_from (with_format_2 table) (far draft) ≡ made far (links_from table draft)
  links_same table draft =
      ap (λ found. judged_or (Ok no_items) (items_of (codes "link")) found
      >>= λ items. in_turn link_read (codes "link") 1 items (far draft)) (key_stays (codes "link") table refl)
      ∙ same_first (optional no_items items_of [] (codes "link") table) _ _ far
      (λ items. turn_same link_read (codes "link") 1 items draft link_same)

  bounds_same : (table : Members) (draft : Draft) → bounds_from (with_format_2 table) (far draft) ≡ made far (bounds_from table draft)
  bounds_same table draft =
      ap (λ found. judged_or (Ok no_items) (items_of (codes "bound")) found
      >>= λ items. in_turn told.bound_read (codes "bound") 1 items (far draft)) (key_stays (codes "bound") table refl)
      ∙ same_first (optional no_items items_of [] (codes "bound") table) _ _ far
      (λ items. turn_same told.bound_read (codes "bound") 1 items draft bound_same)

  filled_same : (table : Members) (draft : Draft) → filled (with_format_2 table) (far draft) ≡ made far (filled table draft)
  unfolding filled
  filled_same table draft =
      ap (λ reading. reading >>= λ objects. links_from (with_format_2 table) objects >>= λ links. bounds_from (with_format_2 table) links)
      (objects_same table draft)
      ∙ then_same (objects_from table draft) far _ _ far
      (λ objects. ap (λ reading. reading >>= λ links. bounds_from (with_format_2 table) links) (links_same table objects)
      ∙ then_same (links_from table objects) far _ _ far (λ links. bounds_same table links))

-- how the run goes, where rules may put so many timesteps ahead
abbrev far_control : ℕ → RunControl → RunControl
far_control most control = record {
  stamps = control.stamps;
  agenda = control.agenda;
  object_limit = control.object_limit;
  rule_limit = control.rule_limit;
  ahead = most;
}

abbrev stamped : AgendaOrder → ℕ → ℕ → ℕ → Timesteps → RunControl
stamped agenda object_limit rule_limit ahead stamps = record {
  stamps = stamps;
  agenda = agenda;
  object_limit = object_limit;
  rule_limit = rule_limit;
  ahead = ahead;
}

stamped_same : (reading : Result Timesteps ModelRefusal) (agenda : AgendaOrder) (object_limit rule_limit ahead most : ℕ) (control : RunControl)
    → (reading >>= λ stamps. Ok (stamped agenda object_limit rule_limit ahead stamps)) ≡ Ok control
    → (reading >>= λ stamps. Ok (stamped agenda object_limit rule_limit most stamps)) ≡ Ok (far_control most control)
stamped_same (Ok stamps) agenda object_limit rule_limit ahead most control is = ap (made (far_control most)) is
stamped_same (Err refusal) agenda object_limit rule_limit ahead most control is = absurd (cc)

-- there is a format, which is 2 now
format_read : (table : Members) (first : ℕ) → required (count_read 1 2) [] format table ≡ Ok first
    → required (count_read 1 2) [] format (with_format_2 table) ≡ Ok 2
format_read table first is = by (get_member format table) is (λ value there.
    ap (λ found. judged_or (Err (missing format)) (count_read 1 2 format) found) (format_is_2 table value there)) refl
  where
    by : (found : Option Data) → judged_or (Err (missing format)) (count_read 1 2 format) found ≡ Ok first
        → ((value : Data) → get_member format table ≡ Some value → required (count_read 1 2) [] format (with_format_2 table) ≡ Ok 2)
        → get_member format table ≡ found → required (count_read 1 2) [] format (with_format_2 table) ≡ Ok 2
    by None is known there = absurd (cc)
    by (Some value) is known there = known value there

control_far : (table : Members) (control : RunControl) → control_in table ≡ Ok control
    → control_in (with_format_2 table) ≡ Ok (far_control 30 control)
unfolding control_in
control_far table control is =
    let format = parts (required (count_read 1 2) [] (codes "format") table) _ control is in
    let tables = parts (required members_of [] (codes "run") table) _ control format.rest in
    let run = parts (run_of tables.first) _ control tables.rest in
    ap (λ reading. reading >>= λ format. required members_of [] (codes "run") (with_format_2 table) >>= λ run_table. run_of run_table
    >>= λ run. control_of (ahead_in format) run) (format_read table format.first format.reads)
    ∙ ap (λ found. judged_or (Err (missing (codes "run"))) (members_of (codes "run")) found >>= λ run_table. run_of run_table
    >>= λ run. control_of 30 run) (key_stays (codes "run") table refl)
    ∙ ap (λ reading. reading >>= λ run_table. run_of run_table >>= λ run. control_of 30 run) tables.reads
    ∙ ap (λ reading. reading >>= λ run. control_of 30 run) run.reads
    ∙ stamped_same (refused_as bad_calendar (stamps_of run.first.start run.first.step_length run.first.steps)) run.first.agenda
    run.first.object_limit run.first.rule_limit (ahead_in format.first) 30 control run.rest

draft_far : (table : Members) (draft : Draft) → draft_of table ≡ Ok draft → draft_of (with_format_2 table) ≡ Ok (ahead_to 30 draft)
unfolding draft_of
draft_far table draft is =
    let control = parts (control_in table) _ draft is in
    ap (λ reading. reading >>= λ control. filled (with_format_2 table) (empty_draft control) >>= λ draft.
    only_listed file_keys [] (with_format_2 table) >>= λ listed. Ok draft) (control_far table control.first control.reads)
    ∙ ap (λ listing. filled (with_format_2 table) (ahead_to 30 (empty_draft control.first)) >>= λ draft. listing >>= λ listed. Ok draft)
    (listed_stays file_keys [] table)
    ∙ ap (λ reading. reading >>= λ draft. only_listed file_keys [] table >>= λ listed. Ok draft)
    (filled_same 30 table (empty_draft control.first))
    ∙ then_same (filled table (empty_draft control.first)) (ahead_to 30) _ _ (ahead_to 30)
    (λ draft. same_first (only_listed file_keys [] table) (λ listed. Ok draft) (λ listed. Ok (ahead_to 30 draft)) (ahead_to 30) (λ listed. refl))
    ∙ ap (made (ahead_to 30)) control.rest

table_far : (table : Members) (basin : Draft) → basin_of table ≡ Ok basin → basin_of (with_format_2 table) ≡ Ok (ahead_to 30 basin)
unfolding basin_of
table_far table basin is =
    let draft = parts (draft_of table) _ basin is in
    ap (λ reading. reading >>= λ draft. refused_as (bad_build (codes "basin")) (finished draft)) (draft_far table draft.first draft.reads)
    ∙ told_same (bad_build (codes "basin")) (finish_refusal draft.first) draft.first (ahead_to 30)
    ∙ ap (made (ahead_to 30)) draft.rest

pub basin_far : (old new : List ℕ) (basin : Draft) → IsMigrated old new → model_of old ≡ Ok basin → model_of new ≡ Ok (ahead_to 30 basin)
basin_far old new basin migrated is = by (toml_of old) migrated is
  where
    by : (found : Option Members) → IsSomeAnd found (λ table. toml_of new ≡ Some (with_format_2 table)) → (table_or found >>= basin_of) ≡ Ok basin
        → model_of new ≡ Ok (ahead_to 30 basin)
    by None migrated is = absurd (cc)
    by (Some table) migrated is = ap (λ found. table_or found >>= basin_of) migrated ∙ table_far table basin is
