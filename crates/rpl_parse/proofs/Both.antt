-- Reading a declaration, and the grammar.
use Rattle.rw_base.proofs.Common.{◌≡◌, ◌≤◌, ◌<◌, ◌∙◌, ◌++◌, ℕ, zero, suc, List, [], ◌∷◌, length, Some, None, refl, sym, ap, subst, arith}
use Rattle.std.proofs.lemmas.List.{append-nil, append_assoc}
use Rattle.rpl_tree.specs.Tree.{TypeName, numeric, boolean, datetime, slot_type, numeric_list, slot_list, Tree, Acts, Parameter, Declared, rule}
use Rattle.rpl_tree.specs.Tree.{function}
use Rattle.rpl_parse.specs.declared.token.Mark.{Mark}
use Rattle.rpl_parse.specs.declared.token.Mark.TheVariants as M
use Rattle.rpl_parse.specs.declared.token.TokenAt.{TokenAt}
use Rattle.rpl_parse.specs.Tokens.{Tok, mark, word, digits, text, toks}
use Rattle.rpl_tree.specs.Depth.{depth, acts_depth}
use Rattle.rpl_parse.specs.Grammar.{◌⨾◌, sign, token, Spells}
use Rattle.rpl_parse.specs.Statements.{SpellsActs, SpellsType, SpellsParameter, SpellsParameters, SpellsMoreParameters, IsDeclaration}
use Rattle.rpl_parse.specs.Reading.{◌>>=◌, Got, got, Named, read_tree, behind, behind_name, closed_by_mark}
use Rattle.rpl_parse.specs.ReadingActs.{behind_number, read_acts, acts_of}
use Rattle.rpl_parse.specs.ReadingDeclared.{behind_text, TypeRead, typed, in_unit, element, list_type_read, type_by, read_type, Given, parameter_read}
use Rattle.rpl_parse.specs.ReadingDeclared.{read_parameter, ParametersRead, params_read, more_parameters, some_parameters, closed_parameters}
use Rattle.rpl_parse.specs.ReadingDeclared.{parameters, if_all, rule_behind, body_behind, function_behind, read_declared}
use Rattle.rpl_parse.proofs.Sound.{some_one, and_then, found, behind_sound, name_sound, sound}
use Rattle.rpl_parse.proofs.SoundActs.{number_sound, acts_sound}
use Rattle.rpl_parse.proofs.Beginnings.{Shrinks, one_shrinks, shrinks_then, mark_then, behind_here, name_here, not_here}
use Rattle.rpl_parse.proofs.Complete.{Closes}
use Rattle.rpl_parse.proofs.TurnsParameters.{more_stops, more_turn}
use Rattle.rpl_parse.proofs.CompleteActs.{acts_complete, ActsRead, mark_ends, acts_back, value_reads}

text_sound : (tokens_here : List Tok) (named_so : Named) → behind_text tokens_here ≡ Some named_so
    → tokens_here ≡ text named_so.called ∷ named_so.next
text_sound [] named_so reads = absurd (cc reads)
text_sound (mark other_mark ∷ left_over) named_so reads = absurd (cc reads)
text_sound (word its_name ∷ left_over) named_so reads = absurd (cc reads)
text_sound (digits its_number ∷ left_over) named_so reads = absurd (cc reads)
text_sound (text its_text ∷ left_over) named_so reads =
    subst (λ (any_name : Named). text its_text ∷ left_over ≡ text any_name.called ∷ any_name.next) (some_one _ named_so reads) refl

text_here : (slot_name : List ℕ) (tokens_here further : List Tok) → tokens_here ≡ text slot_name ∷ further
    → behind_text tokens_here ≡ Some (record { called = slot_name; next = further })
text_here slot_name tokens_here further tokens_here_is = rw tokens_here_is refl

-- Types.

abbrev IsTyped : List Tok → TypeRead → Type 0
IsTyped tokens_here type_here = SpellsType type_here.of_type tokens_here type_here.next

-- a type in a unit, behind its words
unit_sound : (made : List ℕ → TypeName) (tokens_here : List Tok) (type_here : TypeRead) → in_unit made tokens_here ≡ Some type_here
    → (unit : List ℕ) × (tokens_here ≡ text unit ∷ type_here.next) × (type_here ≡ typed (made unit) type_here.next)
unit_sound made tokens_here type_here reads =
    let unit_so = and_then (behind_text tokens_here) _ type_here reads in
    let same : typed (made unit_so.0.called) unit_so.0.next ≡ type_here = some_one _ type_here unit_so.2 in (
      unit_so.0.called,
      subst (λ (any_type : TypeRead). tokens_here ≡ text unit_so.0.called ∷ any_type.next) same (text_sound tokens_here unit_so.0 unit_so.1),
      subst (λ (any_type : TypeRead). any_type ≡ typed (made unit_so.0.called) any_type.next) same refl,
    )

list_type_sound : (tokens_here : List Tok) (type_here : TypeRead) → list_type_read tokens_here ≡ Some type_here
    → IsTyped (mark M.List ∷ tokens_here) type_here
list_type_sound tokens_here type_here reads =
    let room_so = and_then (behind_number tokens_here) _ type_here reads in
    let of_so = and_then (behind M.Of room_so.0.next) (element room_so.0.value) type_here room_so.2 in
    let room_sound = number_sound tokens_here room_so.0 room_so.1 in
    let of_sound = behind_sound M.Of room_so.0.next of_so.0 of_so.1 in
    found (behind M.Numeric of_so.0) _ _ type_here of_so.2
    (λ none go.
    let slot_so = and_then (behind M.Slot of_so.0) (in_unit (slot_list room_so.0.value)) type_here go in
    let unit_so = unit_sound (slot_list room_so.0.value) slot_so.0 type_here slot_so.2 in
    subst (IsTyped (mark M.List ∷ tokens_here)) (sym unit_so.2) (
      tokens_here,
      refl,
      (room_so.0.next, room_sound, (of_so.0, of_sound, (slot_so.0, behind_sound M.Slot of_so.0 slot_so.0 slot_so.1, unit_so.1))),
    ))
    (λ further stands go.
    let unit_so = unit_sound (numeric_list room_so.0.value) further type_here go in
    subst (IsTyped (mark M.List ∷ tokens_here)) (sym unit_so.2)
    (tokens_here, refl, (room_so.0.next, room_sound, (of_so.0, of_sound, (further, behind_sound M.Numeric of_so.0 further stands, unit_so.1)))))

type_by_sound : (a_mark : Mark) (tokens_here : List Tok) (type_here : TypeRead) → type_by a_mark tokens_here ≡ Some type_here
    → IsTyped (mark a_mark ∷ tokens_here) type_here
type_by_sound M.Numeric tokens_here type_here reads = let unit_so = unit_sound numeric tokens_here type_here reads in
    subst (IsTyped (mark M.Numeric ∷ tokens_here)) (sym unit_so.2) (tokens_here, refl, unit_so.1)
type_by_sound M.Boolean tokens_here type_here reads =
    subst (IsTyped (mark M.Boolean ∷ tokens_here)) (some_one (typed boolean tokens_here) type_here reads) refl
type_by_sound M.Datetime tokens_here type_here reads =
    subst (IsTyped (mark M.Datetime ∷ tokens_here)) (some_one (typed datetime tokens_here) type_here reads) refl
type_by_sound M.Slot tokens_here type_here reads = let unit_so = unit_sound slot_type tokens_here type_here reads in
    subst (IsTyped (mark M.Slot ∷ tokens_here)) (sym unit_so.2) (tokens_here, refl, unit_so.1)
type_by_sound M.List tokens_here type_here reads = list_type_sound tokens_here type_here reads
type_by_sound _ tokens_here type_here reads = absurd (cc reads)

type_sound : (tokens_here : List Tok) (type_here : TypeRead) → read_type tokens_here ≡ Some type_here → IsTyped tokens_here type_here
type_sound [] type_here reads = absurd (cc reads)
type_sound (mark other_mark ∷ tokens_here) type_here reads = type_by_sound other_mark tokens_here type_here reads
type_sound (word its_name ∷ tokens_here) type_here reads = absurd (cc reads)
type_sound (digits its_number ∷ tokens_here) type_here reads = absurd (cc reads)
type_sound (text its_text ∷ tokens_here) type_here reads = absurd (cc reads)

type_reads : (type_name : TypeName) (tokens_here rest : List Tok) → SpellsType type_name tokens_here rest
    → read_type tokens_here ≡ Some (typed type_name rest)
type_reads (numeric unit) tokens_here rest spells_type = rw (spells_type.1, spells_type.2) refl
type_reads boolean tokens_here rest spells_type = rw spells_type refl
type_reads datetime tokens_here rest spells_type = rw spells_type refl
type_reads (slot_type unit) tokens_here rest spells_type = rw (spells_type.1, spells_type.2) refl
type_reads (numeric_list room unit) tokens_here rest spells_type =
    rw (spells_type.1, spells_type.2.1, spells_type.2.2.1, spells_type.2.2.2.1, spells_type.2.2.2.2) refl
type_reads (slot_list room unit) tokens_here rest spells_type =
    rw (spells_type.1, spells_type.2.1, spells_type.2.2.1, spells_type.2.2.2.1, spells_type.2.2.2.2) refl

pub type_shrinks : (type_name : TypeName) → Shrinks (SpellsType type_name)
type_shrinks (numeric unit) = mark_then (mark M.Numeric) _ (one_shrinks (text unit))
type_shrinks boolean = one_shrinks (mark M.Boolean)
type_shrinks datetime = one_shrinks (mark M.Datetime)
type_shrinks (slot_type unit) = mark_then (mark M.Slot) _ (one_shrinks (text unit))
type_shrinks (numeric_list room unit) =
    mark_then (mark M.List) _ (mark_then (digits room) _ (mark_then (mark M.Of) _ (mark_then (mark M.Numeric) _ (one_shrinks (text unit)))))
type_shrinks (slot_list room unit) =
    mark_then (mark M.List) _ (mark_then (digits room) _ (mark_then (mark M.Of) _ (mark_then (mark M.Slot) _ (one_shrinks (text unit)))))

-- no type begins with a bracket
type_first : (type_name : TypeName) (tokens_here rest : List Tok) → SpellsType type_name tokens_here rest → behind M.RightParen tokens_here ≡ None
type_first (numeric unit) tokens_here rest spells_type = not_here M.RightParen M.Numeric tokens_here spells_type.0 refl spells_type.1
type_first boolean tokens_here rest spells_type = not_here M.RightParen M.Boolean tokens_here rest refl spells_type
type_first datetime tokens_here rest spells_type = not_here M.RightParen M.Datetime tokens_here rest refl spells_type
type_first (slot_type unit) tokens_here rest spells_type = not_here M.RightParen M.Slot tokens_here spells_type.0 refl spells_type.1
type_first (numeric_list room unit) tokens_here rest spells_type = not_here M.RightParen M.List tokens_here spells_type.0 refl spells_type.1
type_first (slot_list room unit) tokens_here rest spells_type = not_here M.RightParen M.List tokens_here spells_type.0 refl spells_type.1

-- Parameters.

abbrev IsGiven : List Tok → Given → Type 0
IsGiven tokens_here given_here = SpellsParameter given_here.it tokens_here given_here.next

parameter_sound : (tokens_here : List Tok) (given_here : Given) → read_parameter tokens_here ≡ Some given_here → IsGiven tokens_here given_here
parameter_sound tokens_here given_here reads =
    let type_so = and_then (read_type tokens_here) _ given_here reads in
    let name_so = and_then (behind_name type_so.0.next) _ given_here type_so.2 in
    subst (IsGiven tokens_here) (some_one (parameter_read type_so.0.of_type name_so.0.called name_so.0.next) given_here name_so.2)
    (type_so.0.next, type_sound tokens_here type_so.0 type_so.1, name_sound type_so.0.next name_so.0 name_so.1)

parameter_reads : (parameter : Parameter) (tokens_here rest : List Tok) → SpellsParameter parameter tokens_here rest
    → read_parameter tokens_here ≡ Some (record { it = parameter; next = rest })
parameter_reads parameter tokens_here rest spells_parameter =
    rw (
      type_reads parameter.of_type tokens_here spells_parameter.0 spells_parameter.1,
      name_here parameter.name spells_parameter.0 rest spells_parameter.2,
    ) refl

parameter_shrinks : (parameter : Parameter) → Shrinks (SpellsParameter parameter)
parameter_shrinks parameter = shrinks_then (SpellsType parameter.of_type) _ (type_shrinks parameter.of_type) (one_shrinks (word parameter.name))

more_shrink : (taken : List Parameter) → Shrinks (SpellsMoreParameters taken)
more_shrink [] = λ tokens_here rest tokens_are. let counted : length tokens_here ≡ length rest = ap length tokens_are in omega arith
more_shrink (parameter ∷ taken) =
    mark_then (mark M.Comma) _ (shrinks_then (SpellsParameter parameter) _ (parameter_shrinks parameter) (more_shrink taken))

pub parameters_shrink : (taken : List Parameter) → Shrinks (SpellsParameters taken)
parameters_shrink [] = λ tokens_here rest tokens_are. let counted : length tokens_here ≡ length rest = ap length tokens_are in omega arith
parameters_shrink (parameter ∷ taken) = shrinks_then (SpellsParameter parameter) _ (parameter_shrinks parameter) (more_shrink taken)

record IsTaken (so_far all_parameters : ParametersRead) : Type 0 where
  others : List Parameter
  params : all_parameters.params ≡ so_far.params ++ others
  spells : SpellsMoreParameters others so_far.left all_parameters.left

more_sound : (turns : ℕ) (so_far all_parameters : ParametersRead) → more_parameters turns so_far ≡ Some all_parameters → IsTaken so_far all_parameters
unfolding more_parameters
more_sound zero so_far all_parameters reads =
    subst (IsTaken so_far) (some_one so_far all_parameters reads) (record { others = []; params = sym (append-nil so_far.params); spells = refl })
more_sound (suc turns) so_far all_parameters reads = found (behind M.Comma so_far.left) (Some so_far) _ all_parameters reads
    (λ none same.
    subst (IsTaken so_far) (some_one so_far all_parameters same) (record { others = []; params = sym (append-nil so_far.params); spells = refl }))
    (λ further stands go.
    let first_so = and_then (read_parameter further) _ all_parameters go in
    let first_sound = parameter_sound further first_so.0 first_so.1 in
    let others_so = more_sound turns (params_read (so_far.params ++ first_so.0.it ∷ []) first_so.0.next) all_parameters first_so.2 in
    record {
      others = first_so.0.it ∷ others_so.others;
      params = others_so.params ∙ append_assoc so_far.params (first_so.0.it ∷ []) others_so.others;
      spells = (further, behind_sound M.Comma so_far.left further stands, (first_so.0.next, first_sound, others_so.spells));
    })

count_within : (taken : List Parameter) (tokens_here rest : List Tok) → SpellsMoreParameters taken tokens_here rest
    → length taken ≤ length tokens_here
count_within [] tokens_here rest spells_more_parameters = omega arith
count_within (parameter ∷ taken) tokens_here rest spells_more_parameters =
    let counted : length tokens_here ≡ suc (length spells_more_parameters.0) = ap length spells_more_parameters.1 in
    let first_shorter = parameter_shrinks parameter spells_more_parameters.0 spells_more_parameters.2.0 spells_more_parameters.2.1 in
    let others_fit = count_within taken spells_more_parameters.2.0 rest spells_more_parameters.2.2 in
    omega arith

more_reads : (taken : List Parameter) (turns : ℕ) (so_far : ParametersRead) (middle rest : List Tok) → SpellsMoreParameters taken so_far.left middle
    → middle ≡ mark M.RightParen ∷ rest → length taken ≤ turns → more_parameters turns so_far ≡ Some (params_read (so_far.params ++ taken) middle)
more_reads [] turns so_far middle rest spells_more_parameters closes no_more =
    more_stops turns so_far (not_here M.Comma M.RightParen so_far.left rest refl (spells_more_parameters ∙ closes))
    ∙ rw (append-nil so_far.params, ← spells_more_parameters) refl
more_reads (parameter ∷ taken) zero so_far middle rest spells_more_parameters closes no_more = absurd (omega arith)
more_reads (parameter ∷ taken) (suc turns) so_far middle rest spells_more_parameters closes no_more =
    more_turn turns so_far spells_more_parameters.0 (record { it = parameter; next = spells_more_parameters.2.0 })
    (behind_here M.Comma so_far.left spells_more_parameters.0 spells_more_parameters.1)
    (parameter_reads parameter spells_more_parameters.0 spells_more_parameters.2.0 spells_more_parameters.2.1)
    ∙ more_reads taken turns (params_read (so_far.params ++ parameter ∷ []) spells_more_parameters.2.0) middle rest spells_more_parameters.2.2 closes
    (omega arith)
    ∙ ap (λ l. Some (params_read l middle)) (append_assoc so_far.params (parameter ∷ []) taken)

abbrev IsTakes : List Tok → ParametersRead → Type 0
IsTakes tokens_here so_far = (SpellsParameters so_far.params ⨾ sign M.RightParen) tokens_here so_far.left

closed_sound : (so_far all_parameters : ParametersRead) → closed_parameters so_far ≡ Some all_parameters
    → (so_far.left ≡ mark M.RightParen ∷ all_parameters.left) × (all_parameters ≡ params_read so_far.params all_parameters.left)
closed_sound so_far all_parameters reads =
    let closed_so = and_then (behind M.RightParen so_far.left) _ all_parameters reads in
    subst (λ (any_parameters : ParametersRead). (so_far.left ≡ mark M.RightParen ∷ any_parameters.left)
    × (any_parameters ≡ params_read so_far.params any_parameters.left))
    (some_one (params_read so_far.params closed_so.0) all_parameters closed_so.2)
    (behind_sound M.RightParen so_far.left closed_so.0 closed_so.1, refl)

parameters_sound : (tokens_here : List Tok) (all_parameters : ParametersRead) → parameters tokens_here ≡ Some all_parameters
    → IsTakes tokens_here all_parameters
parameters_sound tokens_here all_parameters reads = found (behind M.RightParen tokens_here) _ _ all_parameters reads
    (λ none go.
    let closed_so = and_then (some_parameters tokens_here) closed_parameters all_parameters go in
    let first_so = and_then (read_parameter tokens_here) _ closed_so.0 closed_so.1 in
    let first_sound = parameter_sound tokens_here first_so.0 first_so.1 in
    let more_so = more_sound (length first_so.0.next) (params_read (first_so.0.it ∷ []) first_so.0.next) closed_so.0 first_so.2 in
    let close_sound = closed_sound closed_so.0 all_parameters closed_so.2 in
    subst (IsTakes tokens_here) (sym close_sound.1)
    (subst (λ l. (SpellsParameters l ⨾ sign M.RightParen) tokens_here all_parameters.left) (sym more_so.params)
    (closed_so.0.left, (first_so.0.next, first_sound, more_so.spells), close_sound.0)))
    (λ further stands go.
    subst (IsTakes tokens_here) (some_one (params_read [] further) all_parameters go)
    (tokens_here, refl, behind_sound M.RightParen tokens_here further stands))

parameters_read : (taken : List Parameter) (tokens_here middle rest : List Tok) → SpellsParameters taken tokens_here middle
    → middle ≡ mark M.RightParen ∷ rest
    → parameters tokens_here ≡ Some (params_read taken rest)
parameters_read [] tokens_here middle rest spells_parameters closes = rw (spells_parameters ∙ closes) refl
parameters_read (parameter ∷ taken) tokens_here middle rest spells_parameters closes =
    let none : behind M.RightParen tokens_here ≡ None = type_first parameter.of_type tokens_here spells_parameters.1.0 spells_parameters.1.1 in
    rw (
      none,
      parameter_reads parameter tokens_here spells_parameters.0 spells_parameters.1,
      more_reads taken (length spells_parameters.0) (params_read (parameter ∷ []) spells_parameters.0) middle rest spells_parameters.2 closes
          (count_within taken spells_parameters.0 middle spells_parameters.2),
      behind_here M.RightParen middle rest closes,
    ) refl

-- Declarations.

all_one : (more_tokens : List Tok) (declaration other_declaration : Declared) → if_all more_tokens declaration ≡ Some other_declaration
    → (more_tokens ≡ []) × (declaration ≡ other_declaration)
all_one [] declaration other_declaration reads = (refl, some_one declaration other_declaration reads)
all_one (a_token ∷ more_tokens) declaration other_declaration reads = absurd (cc reads)

rule_sound : (tokens_here further : List Tok) (declaration : Declared) → tokens_here ≡ mark M.Rule ∷ further → rule_behind further ≡ Some declaration
    → IsDeclaration tokens_here declaration
rule_sound tokens_here further declaration front reads =
    let text_so = and_then (behind_text further) _ declaration reads in
    let body_so = and_then (behind M.Colon text_so.0.next >>= read_acts 100) _ declaration text_so.2 in
    let colon_so = and_then (behind M.Colon text_so.0.next) (read_acts 100) body_so.0 body_so.1 in
    let end_so = and_then (behind M.EndRule body_so.0.left) _ declaration body_so.2 in
    let ends_so = all_one end_so.0 _ declaration end_so.2 in
    let body_sound = acts_sound 100 colon_so.0 body_so.0 colon_so.2 in
    let all : body_so.0.acts ≡ body_sound.more = body_sound.acts in
    let most : acts_depth (acts_of body_so.0.acts) ≤ 100 =
    subst (λ l. acts_depth (acts_of l) ≤ 100) (sym all)
    (let most_there = body_sound.most in let within_there = body_sound.within (omega arith) in omega arith) in
    subst (IsDeclaration tokens_here) ends_so.1 (
      (
        further,
        front,
        (
          text_so.0.next,
          text_sound further text_so.0 text_so.1,
          (
            colon_so.0,
            behind_sound M.Colon text_so.0.next colon_so.0 colon_so.1,
            (
              body_so.0.left,
              subst (λ l. SpellsActs (acts_of l) colon_so.0 body_so.0.left) (sym all) body_sound.spells,
              behind_sound M.EndRule body_so.0.left end_so.0 end_so.1 ∙ ap (λ l. mark M.EndRule ∷ l) ends_so.0,
            ),
          ),
        ),
      ),
      most,
    )

rule_complete : (called : List ℕ) (body : Acts) (further : List Tok) → acts_depth body ≤ 100
    → (token (text called) ⨾ sign M.Colon ⨾ SpellsActs body ⨾ sign M.EndRule) further [] → rule_behind further ≡ Some (rule called body)
unfolding ActsRead
rule_complete called body further shallow spells =
    let behind_colon = spells.2.2 in
    rw (
      text_here called further spells.0 spells.1,
      behind_here M.Colon spells.0 spells.2.0 spells.2.1,
      acts_complete 100 body spells.2.0 behind_colon.0 shallow behind_colon.1
          (mark_ends M.EndRule behind_colon.0 [] refl refl (λ tokens_here. refl) behind_colon.2),
      behind_here M.EndRule behind_colon.0 [] behind_colon.2,
      acts_back body,
    ) refl

body_sound : (called_so : List ℕ) (taken : List Parameter) (tokens_here : List Tok) (declaration : Declared)
    → body_behind called_so taken tokens_here ≡ Some declaration
    → (type_name : TypeName) × (body : Tree) × (declaration ≡ function called_so taken type_name body) × (depth body ≤ 100)
    × (sign M.Colon ⨾ SpellsType type_name ⨾ sign M.Is ⨾ Spells body ⨾ sign M.EndFunction) tokens_here []
body_sound called_so taken tokens_here declaration reads =
    let type_so = and_then (behind M.Colon tokens_here >>= read_type) _ declaration reads in
    let colon_so = and_then (behind M.Colon tokens_here) read_type type_so.0 type_so.1 in
    let body_so = and_then (behind M.Is type_so.0.next >>= read_tree 100 7 >>= closed_by_mark M.EndFunction) _ declaration type_so.2 in
    let value_so = and_then (behind M.Is type_so.0.next >>= read_tree 100 7) (closed_by_mark M.EndFunction) body_so.0 body_so.1 in
    let is_so = and_then (behind M.Is type_so.0.next) (read_tree 100 7) value_so.0 value_so.1 in
    let end_so = and_then (behind M.EndFunction value_so.0.rest) _ body_so.0 value_so.2 in
    let ends_so = all_one body_so.0.rest _ declaration body_so.2 in
    let value_sound = sound 100 7 is_so.0 value_so.0 is_so.2 in
    let same : got value_so.0.tree value_so.0.deep end_so.0 ≡ body_so.0 = some_one _ body_so.0 end_so.2 in
    let none : end_so.0 ≡ [] = ap (λ (deep_there : Got). deep_there.rest) same ∙ ends_so.0 in
    let one : value_so.0.tree ≡ body_so.0.tree = ap (λ (deep_there : Got). deep_there.tree) same in (
      type_so.0.of_type,
      value_so.0.tree,
      sym ends_so.1 ∙ ap (function called_so taken type_so.0.of_type) (sym one),
      (let within_there = value_sound.within in let deep_there = value_sound.deep in omega arith),
      (
        colon_so.0,
        behind_sound M.Colon tokens_here colon_so.0 colon_so.1,
        (
          type_so.0.next,
          type_sound colon_so.0 type_so.0 colon_so.2,
          (
            is_so.0,
            behind_sound M.Is type_so.0.next is_so.0 is_so.1,
            (
              value_so.0.rest,
              value_sound.spells,
              behind_sound M.EndFunction value_so.0.rest end_so.0 end_so.1
                  ∙ ap (λ l. mark M.EndFunction ∷ l) none,
            ),
          ),
        ),
      ),
    )

function_sound : (tokens_here further : List Tok) (declaration : Declared) → tokens_here ≡ mark M.Function ∷ further
    → function_behind further ≡ Some declaration → IsDeclaration tokens_here declaration
function_sound tokens_here further declaration front reads =
    let name_so = and_then (behind_name further) _ declaration reads in
    let parameters_so = and_then (behind M.LeftParen name_so.0.next >>= parameters) _ declaration name_so.2 in
    let paren_so = and_then (behind M.LeftParen name_so.0.next) parameters parameters_so.0 parameters_so.1 in
    let parameters_sound_so = parameters_sound paren_so.0 parameters_so.0 paren_so.2 in
    let body_so = body_sound name_so.0.called parameters_so.0.params parameters_so.0.left declaration parameters_so.2 in
    subst (IsDeclaration tokens_here) (sym body_so.2) (
      (
        further,
        front,
        (
          name_so.0.next,
          name_sound further name_so.0 name_so.1,
          (
            paren_so.0,
            behind_sound M.LeftParen name_so.0.next paren_so.0 paren_so.1,
            (parameters_sound_so.0, parameters_sound_so.1, (parameters_so.0.left, parameters_sound_so.2, body_so.4)),
          ),
        ),
      ),
      body_so.3,
    )

ends_function : Closes M.EndFunction
ends_function = record { paren = refl; bracket = refl; dot = refl; no_operator = refl }

function_complete : (called_so : List ℕ) (taken : List Parameter) (type_name : TypeName) (body : Tree) (further : List Tok) → depth body ≤ 100
    → (token (word called_so) ⨾ sign M.LeftParen ⨾ SpellsParameters taken ⨾ sign M.RightParen ⨾ sign M.Colon ⨾ SpellsType type_name ⨾ sign M.Is
    ⨾ Spells body ⨾ sign M.EndFunction) further []
    → function_behind further ≡ Some (function called_so taken type_name body)
function_complete called_so taken type_name body further shallow spells =
    let parameters_part = spells.2.2 in
    let type_part = parameters_part.2.2 in
    let body_part = type_part.2.2 in
    rw (
      name_here called_so further spells.0 spells.1,
      behind_here M.LeftParen spells.0 spells.2.0 spells.2.1,
      parameters_read taken spells.2.0 parameters_part.0 parameters_part.2.0 parameters_part.1 parameters_part.2.1,
      behind_here M.Colon parameters_part.2.0 type_part.0 type_part.1,
      type_reads type_name type_part.0 type_part.2.0 type_part.2.1,
      behind_here M.Is type_part.2.0 body_part.0 body_part.1,
      value_reads 100 M.EndFunction body body_part.0 body_part.2.0 [] shallow body_part.2.1 body_part.2.2 ends_function,
    ) refl

-- what is read is a declaration
pub declared_sound : (tokens_here : List Tok) (declaration : Declared) → read_declared tokens_here ≡ Some declaration
    → IsDeclaration tokens_here declaration
declared_sound tokens_here declaration reads = found (behind M.Rule tokens_here) _ _ declaration reads
    (λ none go.
    let function_so = and_then (behind M.Function tokens_here) function_behind declaration go in
    function_sound tokens_here function_so.0 declaration (behind_sound M.Function tokens_here function_so.0 function_so.1) function_so.2)
    (λ further stands go. rule_sound tokens_here further declaration (behind_sound M.Rule tokens_here further stands) go)

-- a declaration is read
pub declared_complete : (tokens_here : List Tok) (declaration : Declared) → IsDeclaration tokens_here declaration
    → read_declared tokens_here ≡ Some declaration
declared_complete tokens_here (rule called_so body) is_declaration =
    rw (behind_here M.Rule tokens_here is_declaration.0.0 is_declaration.0.1)
    (rule_complete called_so body is_declaration.0.0 is_declaration.1 is_declaration.0.2)
declared_complete tokens_here (function called_so taken type_name body) is_declaration =
    let none : behind M.Rule tokens_here ≡ None = not_here M.Rule M.Function tokens_here is_declaration.0.0 refl is_declaration.0.1 in
    rw (none, behind_here M.Function tokens_here is_declaration.0.0 is_declaration.0.1)
    (function_complete called_so taken type_name body is_declaration.0.0 is_declaration.1 is_declaration.0.2)

pub one_declaration : (tokens_here : List Tok) (declaration other_declaration : Declared) → IsDeclaration tokens_here declaration
    → IsDeclaration tokens_here other_declaration → declaration ≡ other_declaration
one_declaration tokens_here declaration other_declaration first_is second_is =
    some_one declaration other_declaration
    (sym (declared_complete tokens_here declaration first_is) ∙ declared_complete tokens_here other_declaration second_is)

pub no_declaration : (tokens_here : List Tok) → read_declared tokens_here ≡ None → (declaration : Declared) → IsDeclaration tokens_here declaration
    → ⊥
no_declaration tokens_here reads_none declaration is_declaration = cc (sym reads_none ∙ declared_complete tokens_here declaration is_declaration)

-- tokens that are left behind a function
pub function_over : (source called_so : List ℕ) (taken : List Parameter) (tokens_here further left_over : List Tok) (type_here : TypeRead)
    (expression : Tree) (deep : ℕ) (left : List TokenAt)
    → Some further ≡ behind M.Colon tokens_here → read_type further ≡ Some type_here → Some left_over ≡ behind M.Is type_here.next
    → (read_tree 100 7 left_over >>= closed_by_mark M.EndFunction) ≡ Some (got expression deep (toks source left)) → 0 < length left
    → body_behind called_so taken tokens_here ≡ None
function_over source called_so taken tokens_here further left_over type_here expression deep [] colon_stands type_reads_so is_stands body_reads less =
    absurd (omega arith)
function_over source called_so taken tokens_here further left_over type_here expression deep
    (a_token ∷ more_tokens) colon_stands type_reads_so is_stands body_reads less = rw (← colon_stands, type_reads_so, ← is_stands, body_reads) refl
