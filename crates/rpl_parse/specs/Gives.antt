-- Within the crate: what a result of the code says of a reading.
use Rattle.std.specs.Prelude.{◌≡◌, ◌≤◌, ℕ, List, Option, Some, None, Result, Ok, Err, map}
use Rattle.std.specs.Borrow.{Bor}
use Rattle.std.specs.declared.vec.Vec.{Vec}
use Rattle.std.specs.declared.alloc.Global.{Global}
use Rattle.rpl_tree.specs.declared.expression.Expr.{Expr}
use Rattle.rpl_tree.specs.Seen.{tree_of}
use Rattle.rpl_parse.specs.declared.token.TokenAt.{TokenAt}
use Rattle.rpl_parse.specs.declared.stop.Stop.{Stop}
use Rattle.rpl_parse.specs.declared.stop.Stop.TheVariants as S
use Rattle.rpl_parse.specs.Tokens.{toks}
use Rattle.rpl_parse.specs.Reading.{Read, got, Many, many}

-- nothing is read, unless memory ran out
abbrev pub Fails : {A : Type 0} → Stop → Option A → Type 0
Fails S.NoMemory read = Unit {0}
Fails S.Bad read = read ≡ None

abbrev pub GivesExpression : List ℕ → ℕ → Result (Expr × ℕ × Bor (List TokenAt)) Stop → Read → Type 0
GivesExpression source d (Ok x) read = (read ≡ Some (got (tree_of x.0) x.1 (toks source x.2.now))) × (x.1 ≤ d)
GivesExpression source d (Err f) read = Fails f read

abbrev pub GivesMany : List ℕ → ℕ → Result (Vec Expr Global × ℕ × Bor (List TokenAt)) Stop → Option Many → Type 0
GivesMany source d (Ok x) read = (read ≡ Some (many (map tree_of x.0.items) x.1 (toks source x.2.now))) × (x.1 ≤ d)
GivesMany source d (Err f) read = Fails f read
