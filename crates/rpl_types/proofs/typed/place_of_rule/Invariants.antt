use Rattle.std.proofs.Common.{◌≡◌, ◌+◌, drop, map}
use Rattle.rpl_tree.specs.Seen.{declared_of}
use Rattle.rpl_types.specs.Checked.{declaration_from, declaration_of_rule}
use Rattle.rpl_types.proofs.typed.place_of_rule.Given as goal

abbrev pub invariant-loop-place : goal.invariant-loop-place
invariant-loop-place l =
    declaration_from (l.place + 1) (map declared_of (drop l.place l.declarations)) l.left
    ≡ declaration_of_rule (map declared_of l.declarations) l.rule
