-- What a part of a tree adds to the budgets: how much it counts, looks and puts, how high its operands stand, and what its locals
-- take. Each number stops at the first above its limit.
use Rattle.std.specs.Prelude.{ℕ, ◌+◌, ◌*◌, max, if◌then◌else◌}
use Rattle.rpl_tree.specs.Budget.{capped, limits}
use Rattle.rpl_tree.specs.Value.{Kind, is_same_kind, weight}
use Rattle.rpl_budget.specs.declared.load.Load.{Load}

abbrev pub load : ℕ → ℕ → ℕ → ℕ → ℕ → Load
load count looks puts height locals = record { count = count; looks = looks; puts = puts; height = height; locals = locals }

abbrev pub no_load : Load
no_load = load 0 0 0 0 0

abbrev pub steps : ℕ → Load
steps n = load (capped limits.count n) 0 0 0 0

abbrev pub one_look : Load
one_look = load 1 1 0 0 0

abbrev pub one_put : Load
one_put = load 1 0 1 0 0

-- of a value that is made, or fetched from a local
abbrev pub fetched : Kind → Load
fetched kind = load (capped limits.count (weight kind)) 0 0 (capped limits.words (weight kind)) 0

-- of a value that is kept in a local
abbrev pub load_kept : Kind → Load
load_kept kind = load (capped limits.count (weight kind)) 0 0 0 (capped limits.words (weight kind))

-- of a local that is there for a value of the kind
abbrev pub local : Kind → Load
local kind = load 0 0 0 0 (capped limits.words (weight kind))

-- of so many words that stand at once
abbrev pub load_standing : ℕ → Load
load_standing words = load 0 0 0 (capped limits.words words) 0

-- one, and behind it another
abbrev pub load_both : Load → Load → Load
load_both a b =
    load (capped limits.count (a.count + b.count)) (capped limits.looks (a.looks + b.looks)) (capped limits.puts (a.puts + b.puts))
    (max a.height b.height) (capped limits.words (a.locals + b.locals))

-- one of the two
abbrev pub either : Load → Load → Load
either a b =
    load (max a.count b.count) (max a.looks b.looks) (max a.puts b.puts) (max a.height b.height)
    (capped limits.words (a.locals + b.locals))

-- so often
abbrev pub load_times : ℕ → Load → Load
load_times m a =
    load (capped limits.count (m * a.count)) (capped limits.looks (m * a.looks)) (capped limits.puts (m * a.puts)) a.height a.locals

-- where so many words wait below it
abbrev pub above : ℕ → Load → Load
above words a = load a.count a.looks a.puts (capped limits.words (words + a.height)) a.locals

abbrev pub locals_alone : Load → Load
locals_alone a = load 0 0 0 0 a.locals

-- what nobody evaluates, as it stands in the code
abbrev pub unspent : Load → Load
unspent a = load 0 0 0 a.height a.locals

-- a value of a kind that is given the room of its place
abbrev pub widening_weight : Kind → Kind → ℕ
widening_weight place kind = if is_same_kind place kind then 0 else weight place

abbrev pub fitted : Kind → Kind → Load → Load
fitted place kind a = load_both a (load_both (steps (widening_weight place kind)) (load_standing (weight place)))

-- a look at a slot at a date
abbrev pub looked : Load → Load → Load
looked slot date = load_both slot (load_both (above 1 date) one_look)
