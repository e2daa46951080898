use Rattle.std.proofs.Common.{◌≡◌, ◌+◌, map, drop}
use Rattle.rpl_predef.specs.Rows.{first_wrong_row}
use Rattle.rpl_predef.proofs.predefs.first_wrong.Given as goal

-- what is left from the place on is what was to be judged
abbrev pub invariant-loop-predef : goal.invariant-loop-predef
invariant-loop-predef g l =
    (l.place ≡ l.predef-index + 1)
    × (first_wrong_row 1 (map (λ p. p.row) l.rows) ≡ first_wrong_row l.place (map (λ p. p.row) (drop l.predef-index l.rows)))
