-- Within the crate: what a result of the code says of a reading of types, parameters and declarations.
use Rattle.std.specs.Prelude.{◌≡◌, ℕ, List, Option, Some, Result, Ok, Err, map}
use Rattle.std.specs.Borrow.{Bor}
use Rattle.std.specs.declared.vec.Vec.{Vec}
use Rattle.std.specs.declared.alloc.Global.{Global}
use Rattle.rpl_tree.specs.declared.rules.Declaration.{Declaration}
use Rattle.rpl_tree.specs.declared.rules.Param.{Param}
use Rattle.rpl_tree.specs.declared.rules.TypeText.{TypeText}
use Rattle.rpl_tree.specs.Tree.{Declared}
use Rattle.rpl_tree.specs.Seen.{type_of, parameter_of, declared_of}
use Rattle.rpl_parse.specs.declared.token.TokenAt.{TokenAt}
use Rattle.rpl_parse.specs.declared.stop.Stop.{Stop}
use Rattle.rpl_parse.specs.Tokens.{toks}
use Rattle.rpl_parse.specs.Gives.{Fails}
use Rattle.rpl_parse.specs.Reading.{Named}
use Rattle.rpl_parse.specs.ReadingDeclared.{TypeRead, typed, Given, ParametersRead, params_read}

abbrev pub GivesUnit : List ℕ → Result (Vec ℕ Global × Bor (List TokenAt)) Stop → Option Named → Type 0
GivesUnit source (Ok x) read = read ≡ Some (record { called = x.0.items; next = toks source x.1.now })
GivesUnit source (Err f) read = Fails f read

abbrev pub GivesType : List ℕ → Result (TypeText × Bor (List TokenAt)) Stop → Option TypeRead → Type 0
GivesType source (Ok x) read = read ≡ Some (typed (type_of x.0) (toks source x.1.now))
GivesType source (Err f) read = Fails f read

abbrev pub GivesParameter : List ℕ → Result (Param × Bor (List TokenAt)) Stop → Option Given → Type 0
GivesParameter source (Ok x) read = read ≡ Some (record { it = parameter_of x.0; next = toks source x.1.now })
GivesParameter source (Err f) read = Fails f read

abbrev pub GivesParameters : List ℕ → Result (Vec Param Global × Bor (List TokenAt)) Stop → Option ParametersRead → Type 0
GivesParameters source (Ok x) read = read ≡ Some (params_read (map parameter_of x.0.items) (toks source x.1.now))
GivesParameters source (Err f) read = Fails f read

abbrev pub GivesDeclared : Result Declaration Stop → Option Declared → Type 0
GivesDeclared (Ok d) read = read ≡ Some (declared_of d)
GivesDeclared (Err f) read = Fails f read
