-- Within the crate: what a result of the code says of a reading of statements.
use Rattle.std.specs.Prelude.{◌≡◌, ◌≤◌, ℕ, List, Option, Some, None, Result, Ok, Err, map}
use Rattle.std.specs.Borrow.{Bor}
use Rattle.std.specs.declared.vec.Vec.{Vec}
use Rattle.std.specs.declared.alloc.Global.{Global}
use Rattle.rpl_tree.specs.declared.statement.Statement.{Statement}
use Rattle.rpl_tree.specs.Seen.{act_of}
use Rattle.rpl_parse.specs.declared.token.TokenAt.{TokenAt}
use Rattle.rpl_parse.specs.declared.stop.Stop.{Stop}
use Rattle.rpl_parse.specs.Tokens.{toks}
use Rattle.rpl_parse.specs.Gives.{Fails}
use Rattle.rpl_parse.specs.ReadingActs.{Done, done, Step, read_step}

abbrev pub GivesActs : List ℕ → ℕ → Result (Vec Statement Global × ℕ × Bor (List TokenAt)) Stop → Option Done → Type 0
GivesActs source d (Ok x) read = (read ≡ Some (done (map act_of x.0.items) x.1 (toks source x.2.now))) × (x.1 ≤ d)
GivesActs source d (Err f) read = Fails f read

abbrev pub GivesStep : List ℕ → ℕ → Result (Statement × ℕ × Bor (List TokenAt)) Stop → Option Step → Type 0
GivesStep source d (Ok x) read = (read ≡ Some (read_step (act_of x.0) x.1 (toks source x.2.now))) × (x.1 ≤ d)
GivesStep source d (Err f) read = Fails f read

-- a statement, if one begins
abbrev pub GivesOne : List ℕ → ℕ → Result (Option (Statement × ℕ × Bor (List TokenAt))) Stop → Option (Option Step) → Type 0
GivesOne source d (Ok (Some x)) read = (read ≡ Some (Some (read_step (act_of x.0) x.1 (toks source x.2.now)))) × (x.1 ≤ d)
GivesOne source d (Ok None) read = read ≡ Some None
GivesOne source d (Err f) read = Fails f read
