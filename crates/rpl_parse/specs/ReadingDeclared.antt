-- Within the crate: how types, parameters and declarations are read.
use Rattle.std.specs.Prelude.{◌++◌, ℕ, zero, suc, ℤ, List, [], ◌∷◌, length, Option, Some, None}
use Rattle.rw_base.specs.declared.limits.TheConstants.{DEPTH_MAX}
use Rattle.rpl_tree.specs.Tree.{TypeName, numeric, boolean, datetime, slot_type, numeric_list, slot_list, Parameter, Declared, rule, function}
use Rattle.rpl_parse.specs.declared.token.Mark.{Mark}
use Rattle.rpl_parse.specs.declared.token.Mark.TheVariants as M
use Rattle.rpl_parse.specs.Tokens.{Tok, mark, text}
use Rattle.rpl_parse.specs.Reading.{◌>>=◌, Named, read_tree, behind, behind_name, closed_by_mark, if_found}
use Rattle.rpl_parse.specs.ReadingActs.{behind_number, read_acts, acts_of}

-- a string, and the tokens behind it
abbrev pub behind_text : List Tok → Option Named
behind_text (text s ∷ ts) = Some (record { called = s; next = ts })
behind_text _ = None

-- a type, and the tokens behind it
pub record TypeRead : Type 0 where
  pub of_type : TypeName
  pub next : List Tok

abbrev pub typed : TypeName → List Tok → TypeRead
typed k ts = record { of_type = k; next = ts }

abbrev pub in_unit : (List ℕ → TypeName) → List Tok → Option TypeRead
in_unit f ts = behind_text ts >>= (λ u. Some (typed (f u.called) u.next))

abbrev pub element : ℤ → List Tok → Option TypeRead
element m ts = if_found (behind M.Numeric ts) (behind M.Slot ts >>= in_unit (slot_list m)) (in_unit (numeric_list m))

abbrev pub list_type_read : List Tok → Option TypeRead
list_type_read ts = behind_number ts >>= (λ m. behind M.Of m.next >>= element m.value)

abbrev pub type_by : Mark → List Tok → Option TypeRead
type_by M.Numeric ts = in_unit numeric ts
type_by M.Boolean ts = Some (typed boolean ts)
type_by M.Datetime ts = Some (typed datetime ts)
type_by M.Slot ts = in_unit slot_type ts
type_by M.List ts = list_type_read ts
type_by _ ts = None

abbrev pub read_type : List Tok → Option TypeRead
read_type (mark m ∷ ts) = type_by m ts
read_type _ = None

-- a parameter, and the tokens behind it
pub record Given : Type 0 where
  pub it : Parameter
  pub next : List Tok

abbrev pub parameter : TypeName → List ℕ → Parameter
parameter k x = record { name = x; of_type = k }

abbrev pub parameter_read : TypeName → List ℕ → List Tok → Given
parameter_read k x ts = record { it = parameter k x; next = ts }

abbrev pub read_parameter : List Tok → Option Given
read_parameter ts = read_type ts >>= (λ k. behind_name k.next >>= (λ x. Some (parameter_read k.of_type x.called x.next)))

-- parameters, and the tokens behind them
pub record ParametersRead : Type 0 where
  pub params : List Parameter
  pub left : List Tok

abbrev pub params_read : List Parameter → List Tok → ParametersRead
params_read ps ts = record { params = ps; left = ts }

unfoldable pub more_parameters : ℕ → ParametersRead → Option ParametersRead
more_parameters zero a = Some a
more_parameters (suc n) a = if_found (behind M.Comma a.left) (Some a) (λ us. read_parameter us >>= (λ p. more_parameters n (params_read (a.params ++ p.it ∷ []) p.next)))

abbrev pub some_parameters : List Tok → Option ParametersRead
some_parameters ts = read_parameter ts >>= (λ p. more_parameters (length p.next) (params_read (p.it ∷ []) p.next))

abbrev pub closed_parameters : ParametersRead → Option ParametersRead
closed_parameters a = behind M.RightParen a.left >>= (λ us. Some (params_read a.params us))

-- behind the bracket of a function's name
abbrev pub parameters : List Tok → Option ParametersRead
parameters ts = if_found (behind M.RightParen ts) (some_parameters ts >>= closed_parameters) (λ us. Some (params_read [] us))

abbrev pub if_all : List Tok → Declared → Option Declared
if_all [] d = Some d
if_all (t ∷ ts) d = None

abbrev pub rule_behind : List Tok → Option Declared
rule_behind ts = behind_text ts >>= (λ t. behind M.Colon t.next >>= read_acts DEPTH_MAX >>= (λ b. behind M.EndRule b.left >>= (λ us. if_all us (rule t.called (acts_of b.acts)))))

-- the body of a function that is called so and takes these parameters, behind its bracket
abbrev pub body_behind : List ℕ → List Parameter → List Tok → Option Declared
body_behind x ps ts = behind M.Colon ts >>= read_type >>= (λ k. behind M.Is k.next >>= read_tree DEPTH_MAX 7 >>= closed_by_mark M.EndFunction >>= (λ b. if_all b.rest (function x ps k.of_type b.tree)))

abbrev pub function_behind : List Tok → Option Declared
function_behind ts = behind_name ts >>= (λ x. behind M.LeftParen x.next >>= parameters >>= (λ a. body_behind x.called a.params a.left))

-- all tokens are those of a declaration
abbrev pub read_declared : List Tok → Option Declared
read_declared ts = if_found (behind M.Rule ts) (behind M.Function ts >>= function_behind) rule_behind
