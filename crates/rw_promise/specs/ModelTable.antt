-- The table of TOML that the sample's model is.
use Rattle.std.specs.Prelude.{ℕ, zero, suc, ◌+◌, List, ◌++◌, pos, codes}
use Rattle.std.specs.Fmt.{decimal}
use Rattle.toml.specs.Data.{Data, string, integer, array, table, Items, no_items, item, Members, no_members, member, push_item}

-- a year of days
abbrev pub run_section : Data
run_section = table (member (codes "start") (string (codes "2020-01-01T00:00")) (member (codes "step") (string (codes "24h"))
    (member (codes "steps") (integer (pos 365)) no_members)))

-- ---- objects

-- a reservoir of this name, which holds 100000 m3
abbrev pub reservoir_named : List ℕ → Data
reservoir_named name = table (member (codes "initial_storage") (integer (pos 100000)) (member (codes "kind") (string (codes "reservoir"))
    (member (codes "name") (string name) no_members)))

-- a reach of this name, with a lag of a day, into which 100 m3 flowed on the day before the run
abbrev pub reach_named : List ℕ → Data
reach_named name = table (member (codes "history") (array (item (integer (pos 100)) no_items)) (member (codes "kind") (string (codes "reach"))
    (member (codes "lag") (integer (pos 1)) (member (codes "name") (string name) no_members))))

abbrev pub reservoir_section : ℕ → Data
reservoir_section number = reservoir_named (codes "D" ++ decimal number)

abbrev pub reach_section : ℕ → Data
reach_section number = reach_named (codes "R" ++ decimal number)

-- the items, and behind them one for each number up to this one
abbrev pub with_each : Items → (ℕ → Data) → ℕ → Items
with_each items each zero = items
with_each items each (suc before) = push_item (with_each items each before) (each (suc before))

-- so many reservoirs, and then so many reaches
abbrev pub object_sections : (reservoirs reaches : ℕ) → Items
object_sections reservoirs reaches = with_each (with_each no_items reservoir_section reservoirs) reach_section reaches

-- ---- links

-- of the outflow of one object, a letter and digits, and the inflow of another
abbrev pub link_section : (upper upper_digits lower lower_digits : List ℕ) → Data
link_section upper upper_digits lower lower_digits =
    table (member (codes "slots") (array (item (string (upper ++ (upper_digits ++ codes ".Outflow")))
    (item (string (lower ++ (lower_digits ++ codes ".Inflow"))) no_items))) no_members)

-- the items, and behind them the links of a reservoir with the reach below it, and of that with the next reservoir
abbrev pub with_links : Items → (digits next_digits : List ℕ) → Items
with_links items digits next_digits =
    push_item (push_item items (link_section (codes "D") digits (codes "R") digits)) (link_section (codes "R") digits (codes "D") next_digits)

-- those of so many reaches
abbrev pub link_sections : ℕ → Items
link_sections zero = no_items
link_sections (suc before) = with_links (link_sections before) (decimal (suc before)) (decimal (suc before + 1))

-- ---- the table

-- of so many reservoirs and reaches, and the links of so many reaches
abbrev pub cascade_table : (reservoirs reaches links : ℕ) → Members
cascade_table reservoirs reaches links =
    member (codes "format") (integer (pos 1)) (member (codes "link") (array (link_sections links))
    (member (codes "object") (array (object_sections reservoirs reaches)) (member (codes "run") run_section no_members)))

-- twenty reservoirs, and a reach between each two
unfoldable pub sample_table : Members
sample_table = cascade_table 20 19 19
