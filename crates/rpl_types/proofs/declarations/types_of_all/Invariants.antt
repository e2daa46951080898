use Rattle.std.proofs.Common.{◌≡◌, ◌+◌, ◌++◌, drop, length, map}
use Rattle.rpl_budget.specs.Budgets.{budgets_of}
use Rattle.rpl_budget.specs.Pass.{passed_from}
use Rattle.rpl_budget.specs.Seen.{budget_seen}
use Rattle.rpl_tree.specs.Seen.{declared_of}
use Rattle.rpl_types.specs.Declarations.{behind_found}
use Rattle.rpl_types.specs.Judged.{rules_judged, judged_from}
use Rattle.rpl_types.proofs.declarations.types_of_all.Given as goal

-- what is found and what is left make the whole
abbrev pub invariant-loop-place : goal.invariant-loop-place
invariant-loop-place l = record {
  types : rules_judged l.basin (map declared_of l.declarations)
      ≡ behind_found (map (λ types. types.items) l.all.items)
      (judged_from l.basin (map declared_of l.declarations) (l.place + 1) l.earlier
      (map declared_of (drop l.place l.declarations)));
  costs : map budget_seen l.costs.items ++ passed_from l.turn (map declared_of (drop l.place l.declarations))
      ≡ budgets_of (map declared_of l.declarations);
  many : length (map budget_seen l.costs.items) ≡ l.place;
}
