-- What the bytes of a model's file are read as: a basin, or the first thing that is wrong.
use Rattle.std.specs.Prelude.{ℕ, ◌+◌, List, [], ◌∷◌, if◌then◌else◌, Option, Some, None, Result, Ok, Err, codes}
use Rattle.std.specs.Str.{is_utf8}
use Rattle.toml.specs.Data.{Data, Items, no_items, item, Members}
use Rattle.toml.specs.Parse.{parse_document}
use Rattle.rw_model.specs.declared.control.RunControl.{RunControl}
use Rattle.rw_model.specs.Draft.{Draft}
use Rattle.rw_model.specs.Build.{finished}
use Rattle.rw_model_toml.specs.Refusal.{ModelRefusal, ◌>>=◌, refused_as, not_toml, bad_build}
use Rattle.rw_model_toml.specs.Path.{element_path}
use Rattle.rw_model_toml.specs.Value.{items_of, members_of, count_read}
use Rattle.rw_model_toml.specs.Key.{required, optional, only_listed}
use Rattle.rw_model_toml.specs.Run.{run_of}
use Rattle.rw_model_toml.specs.Control.{ahead_in, control_of}
use Rattle.rw_model_toml.specs.Told.{object_read, link_read, bound_read}

-- the items of the array at a path one after another, each told to what was built by those before it, where they are
-- numbered from the one that is given
abbrev pub in_turn : (List ℕ → Data → Draft → Result Draft ModelRefusal) → List ℕ → ℕ → Items → Draft → Result Draft ModelRefusal
in_turn told path number no_items draft = Ok draft
in_turn told path number (item value rest) draft = told (element_path path number) value draft >>= in_turn told path (number + 1) rest

-- what the file says first: its format, which is 1 or 2, and the run
unfoldable pub control_in : Members → Result RunControl ModelRefusal
control_in table = do
  format ← required (count_read 1 2) [] (codes "format") table
  run_table ← required members_of [] (codes "run") table
  run ← run_of run_table
  control_of (ahead_in format) run

abbrev pub empty_draft : RunControl → Draft
empty_draft control = record { control = control; objects = []; links = []; bounds = [] }

-- the objects that the file adds to what was built
abbrev pub objects_from : Members → Draft → Result Draft ModelRefusal
objects_from table draft = do
  items ← required items_of [] (codes "object") table
  in_turn object_read (codes "object") 1 items draft

-- the links that it adds
abbrev pub links_from : Members → Draft → Result Draft ModelRefusal
links_from table draft = do
  items ← optional no_items items_of [] (codes "link") table
  in_turn link_read (codes "link") 1 items draft

-- the bounds that it adds
abbrev pub bounds_from : Members → Draft → Result Draft ModelRefusal
bounds_from table draft = do
  items ← optional no_items items_of [] (codes "bound") table
  in_turn bound_read (codes "bound") 1 items draft

-- objects, links and bounds, in this order
unfoldable pub filled : Members → Draft → Result Draft ModelRefusal
filled table draft = do
  with_objects ← objects_from table draft
  with_links ← links_from table with_objects
  bounds_from table with_links

-- the keys of the file
abbrev pub file_keys : List (List ℕ)
file_keys = codes "format" ∷ codes "run" ∷ codes "object" ∷ codes "link" ∷ codes "bound" ∷ []

-- all that the file says
unfoldable pub draft_of : Members → Result Draft ModelRefusal
draft_of table = do
  control ← control_in table
  draft ← filled table (empty_draft control)
  listed ← only_listed file_keys [] table
  Ok draft

-- what the bytes are as TOML, if they are that
abbrev pub toml_of : List ℕ → Option Members
toml_of bytes = if is_utf8 bytes then parse_document bytes else None

-- the table that the bytes are
abbrev pub table_or : Option Members → Result Members ModelRefusal
table_or None = Err not_toml
table_or (Some table) = Ok table

-- a basin, if what the file says makes one
unfoldable pub basin_of : Members → Result Draft ModelRefusal
basin_of table = draft_of table >>= λ draft. refused_as (bad_build (codes "basin")) (finished draft)

-- the basin that the bytes of a file are read as, or the first thing that is wrong
abbrev pub model_of : List ℕ → Result Draft ModelRefusal
model_of bytes = table_or (toml_of bytes) >>= basin_of
