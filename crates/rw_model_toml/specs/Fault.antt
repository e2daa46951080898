-- What a fault of the code tells of the model.
use Rattle.std.specs.Prelude.{Option, Some, None, option_map, Result, string_bytes}
use Rattle.rw_base.specs.Answers as answers
use Rattle.rw_calendar.specs.Stamps as calendar
use Rattle.rw_table.specs.Table as rows
use Rattle.rw_model.specs.Refusal as build
use Rattle.rw_model_toml.specs.declared.fault.ModelFault.{ModelFault}
use Rattle.rw_model_toml.specs.declared.fault.ModelFault.TheVariants.{NotToml, Missing, WrongKind, UnknownKey, UnknownKind, Build, Table, Calendar, NoMemory}
use Rattle.rw_model_toml.specs.Refusal.{ModelRefusal, not_toml, missing, wrong_kind, unknown_key, unknown_kind, bad_build, bad_table, bad_calendar}

-- why the model is refused. Want of memory tells nothing of it, nor does a fault that has it inside
abbrev pub model_refusal_of : ModelFault → Option ModelRefusal
model_refusal_of NotToml = Some not_toml
model_refusal_of (Missing path) = Some (missing (string_bytes path))
model_refusal_of (WrongKind path) = Some (wrong_kind (string_bytes path))
model_refusal_of (UnknownKey path) = Some (unknown_key (string_bytes path))
model_refusal_of (UnknownKind path) = Some (unknown_kind (string_bytes path))
model_refusal_of (Build path fault) = option_map (bad_build (string_bytes path)) (build.build_refusal_of fault)
model_refusal_of (Table path fault) = option_map (bad_table (string_bytes path)) (rows.rows_refusal_of fault)
model_refusal_of (Calendar fault) = option_map bad_calendar (calendar.calendar_refusal_of fault)
model_refusal_of NoMemory = None

-- the fault tells why nothing is read, or is want of memory
abbrev pub IsModelWhy : {A : Type 0} → Result A ModelRefusal → ModelFault → Type 0
IsModelWhy reading fault = answers.IsWhy NoMemory model_refusal_of reading fault

-- the call answers what is read, or why nothing is, unless there was no memory
abbrev pub Gives : {X A : Type 0} → (X → A) → Result X ModelFault → Result A ModelRefusal → Type 0
Gives seen result reading = answers.Answers NoMemory model_refusal_of seen result reading
