-- What the crate's own types hold, as the definitions see it.
use Rattle.std.specs.Prelude.{ℕ, List, [], ◌∷◌, length, map, Option, None, Some, reverse}
use Rattle.rpl_tree.specs.Budget.{Budget, budget}
use Rattle.rpl_tree.specs.Kinds.{Names}
use Rattle.rpl_tree.specs.Value.{Kind, number_kind, truth_kind, date_kind, slot_kind, numbers_kind, slots_kind}
use Rattle.rpl_budget.specs.declared.cost.TreeCost.{TreeCost}
use Rattle.rpl_budget.specs.declared.kind.TreeKind.{TreeKind}
use Rattle.rpl_budget.specs.declared.kind.TreeKind.TheVariants.{Number, Truth, Date, Slot, Numbers, Slots}
use Rattle.rpl_budget.specs.declared.known.Known.{Known}
use Rattle.rpl_budget.specs.declared.named.Named.{Named}
use Rattle.rpl_budget.specs.declared.work.Work.{Work}
use Rattle.rpl_budget.specs.Pass.{Measured, Priced, measured, no_function}

abbrev pub budget_seen : TreeCost → Budget
budget_seen cost = budget cost.instructions cost.reads cost.puts cost.words

abbrev pub tree_kind_seen : TreeKind → Kind
tree_kind_seen Number = number_kind
tree_kind_seen Truth = truth_kind
tree_kind_seen Date = date_kind
tree_kind_seen Slot = slot_kind
tree_kind_seen (Numbers m) = numbers_kind m
tree_kind_seen (Slots m) = slots_kind m

abbrev pub tree_kinds_seen : List TreeKind → List Kind
tree_kinds_seen kinds = map tree_kind_seen kinds

abbrev pub measured_seen : Work → Measured
measured_seen work = measured (tree_kind_seen work.kind) work.load

abbrev pub named_seen : Named → List ℕ × Kind
named_seen n = (n.name.now, tree_kind_seen n.kind)

abbrev pub names_of : List (List ℕ × TreeKind) → Names
names_of names = map (λ (entry : List ℕ × TreeKind). (entry.0, tree_kind_seen entry.1)) names

abbrev pub priced_seen : Known → Priced
priced_seen f = record {
  head = record { name = f.name.now; takes = tree_kinds_seen f.takes.items; result = tree_kind_seen f.result };
  room = f.room;
  most = budget_seen f.most;
}

abbrev pub priced_or_none : Option Known → Priced
priced_or_none None = no_function
priced_or_none (Some f) = priced_seen f

-- the function that was declared last stands last
abbrev pub functions_of : List Known → List Priced
functions_of known = map priced_seen (reverse known)

-- the place of each function by its name, where the last function stands first
abbrev pub places_of : List Known → List (List ℕ × ℕ)
places_of [] = []
places_of (f ∷ all) = (f.name.now, length all) ∷ places_of all
