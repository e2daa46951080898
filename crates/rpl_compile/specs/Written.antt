-- Within the crate: how code is written on one way over a tree: line after line, and a jump's place once it is known. What TRANSLATE can't say of a
-- ruleset that isn't kinded, as a name that is no text or a list with too much room, is written here in some way.
use Rattle.std.specs.Prelude.{ℕ, ◌+◌, ◌-◌, ◌*ℤ◌, ℤ, nat_lt, pos, unsigned_abs, true, false, List, [], ◌∷◌, ◌++◌, drop, length, map, take, Option, Some, None, unwrap_or, bytes_eq, slice_set, if◌then◌else◌}
use Rattle.std.specs.Str.{is_utf8}
use Rattle.rw_base.specs.Unit.{units, unit_in}
use Rattle.rpl_code.specs.declared.kind.ValueKind.{ValueKind}
use Rattle.rpl_code.specs.declared.instruction.Instruction.{Instruction}
use Rattle.rpl_code.specs.declared.instruction.Instruction.TheVariants as I
use Rattle.rpl_code.specs.declared.block.BlockHead.TheVariants.{Rule, Function}
use Rattle.rpl_code.specs.declared.block.Block.{Block}
use Rattle.rpl_tree.specs.declared.words.OneWord.{OneWord}
use Rattle.rpl_tree.specs.declared.words.OneWord.TheVariants.{Known}
use Rattle.rpl_tree.specs.declared.words.TwoWord.{TwoWord}
use Rattle.rpl_tree.specs.declared.words.TwoWord.TheVariants.{Or, And, Equal, Unequal, Less, LessEqual, Greater, GreaterEqual, Plus, Minus as Less_by, Times, Divide, Append, Item}
use Rattle.rpl_tree.specs.Operators.{is_quantity}
use Rattle.rpl_tree.specs.Value.{Kind, number_kind, truth_kind, date_kind, slot_kind, numbers_kind, slots_kind, element_of, is_same_kind, list_kind, room_of}
use Rattle.rpl_tree.specs.Tree.{TypeName, numeric, boolean, datetime, slot_type, numeric_list, slot_list, Tree, Trees, literal, truth, now, slot, name, call, brackets, list, choice, bind, each, mapped, one, two, convert, at, no_trees, tree, Act, Acts, assign, branch, with_name as with, no_acts, act, Parameter, Declared, rule, function}
use Rattle.rpl_tree.specs.Kinds.{Names, count_of, join, kind_named, one_kind, two_kind}
use Rattle.rpl_compile.specs.Operations.{code_kind, code_kinds, convert_line, difference_line, factor_of, one_line, sum_line, test_line}
use Rattle.rpl_compile.specs.Site.{BoundName, bound, local_named, names_in}
use Rattle.rpl_compile.specs.Translate.{Callee}

-- ---- what an instruction can hold

-- a number of 16 bits, or 0; and one of 8
abbrev pub short : ℕ → ℕ
short n = if nat_lt n 65536 then n else 0

abbrev pub byte : ℕ → ℕ
byte n = if nat_lt n 256 then n else 0

-- a text, or an empty one
abbrev pub spelt_name : List ℕ → List ℕ
spelt_name word = if is_utf8 word then word else []

-- a quantity, or 0
abbrev pub within : ℤ → ℤ
within z = if is_quantity z then z else pos 0

abbrev pub number_in_units : ℤ → Option (List ℕ) → ℤ
number_in_units n unit = within (n *ℤ factor_of (unit_in units (unwrap_or unit [])))

-- ---- functions

abbrev pub no_callee : Callee
no_callee = record { head = record { name = []; takes = []; result = number_kind }; block = None }

abbrev pub callee_named : List Callee → List ℕ → Callee
callee_named [] f = no_callee
callee_named (c ∷ callees) f = if bytes_eq c.head.name f then c else callee_named callees f

abbrev pub call_instruction : List ℕ → Option ℕ → Instruction
call_instruction f None = I.Call (spelt_name f)
call_instruction f (Some number) = I.Invoke number

-- ---- kinds

abbrev pub kind_of_two : TwoWord → Kind → Kind → Kind
kind_of_two Append a b = list_kind (short (room_of a + 1)) b
kind_of_two word a b = two_kind word a b

abbrev pub written_kind : TypeName → Kind
written_kind (numeric unit) = number_kind
written_kind boolean = truth_kind
written_kind datetime = date_kind
written_kind (slot_type unit) = slot_kind
written_kind (numeric_list m unit) = numbers_kind (short (unsigned_abs m))
written_kind (slot_list m unit) = slots_kind (short (unsigned_abs m))

-- the kind of an expression whose code isn't written yet
module _ (callees : List Callee) where
  abbrev mutual
    pub kind_ahead : Names → Tree → Kind
    kind_ahead names (literal n unit) = number_kind
    kind_ahead names (truth b) = truth_kind
    kind_ahead names now = date_kind
    kind_ahead names (slot o s) = slot_kind
    kind_ahead names (name x) = kind_named names x
    kind_ahead names (call f ts) = (callee_named callees f).head.result
    kind_ahead names (brackets t) = kind_ahead names t
    kind_ahead names (list ts) = list_kind (short (count_of ts)) (first_ahead names ts)
    kind_ahead names (choice c y n) = join (kind_ahead names y) (kind_ahead names n)
    kind_ahead names (bind x e b) = kind_ahead ((x, kind_ahead names e) ∷ names) b
    kind_ahead names (each x l a f b) = kind_ahead names f
    kind_ahead names (mapped x l b) = numbers_kind (room_of (kind_ahead names l))
    kind_ahead names (one word e) = one_kind word
    kind_ahead names (two word l r) = kind_of_two word (kind_ahead names l) (kind_ahead names r)
    kind_ahead names (convert word o e) = number_kind
    kind_ahead names (at s d) = number_kind

    pub first_ahead : Names → Trees → Kind
    first_ahead names no_trees = number_kind
    first_ahead names (tree t ts) = kind_ahead names t

-- ---- what is written

-- the names that can be used, innermost first; the kinds of all locals so far; those of the operands that are there, the last one last;
-- and the lines
pub record Written : Type 0 where
  pub scope : List BoundName
  pub locals : List ValueKind
  pub below : List ValueKind
  pub lines : List Instruction

abbrev pub written : List BoundName → List ValueKind → List ValueKind → List Instruction → Written
written scope locals below lines = record { scope = scope; locals = locals; below = below; lines = lines }

abbrev pub with_line : Instruction → Written → Written
with_line i w = written w.scope w.locals w.below (w.lines ++ i ∷ [])

-- the line at a place is another
abbrev pub at_line : ℕ → Instruction → Written → Written
at_line place i w = written w.scope w.locals w.below (slice_set w.lines place i)

abbrev pub with_operand : Kind → Written → Written
with_operand kind w = written w.scope w.locals (w.below ++ code_kind kind ∷ []) w.lines

abbrev pub without_operands : ℕ → Written → Written
without_operands n w = written w.scope w.locals (take (length w.below - n) w.below) w.lines

-- a local whose kind isn't known yet, and its kind
abbrev pub with_local : Written → Written
with_local w = written w.scope (w.locals ++ code_kind number_kind ∷ []) w.below w.lines

abbrev pub with_kind : ℕ → Kind → Written → Written
with_kind local kind w = written w.scope (slice_set w.locals local (code_kind kind)) w.below w.lines

abbrev pub with_name : BoundName → Written → Written
with_name b w = written (b ∷ w.scope) w.locals w.below w.lines

abbrev pub outer : List BoundName → List BoundName
outer [] = []
outer (b ∷ scope) = scope

abbrev pub without_name : Written → Written
without_name w = written (outer w.scope) w.locals w.below w.lines

-- an expression's kind, and what is written with its code
pub record WrittenStep : Type 0 where
  pub kind : Kind
  pub on : Written

abbrev pub written_step : Kind → Written → WrittenStep
written_step kind w = record { kind = kind; on = w }

-- ---- forms

-- with the room of a place
abbrev pub written_with_room : Kind → WrittenStep → Written
written_with_room kind s = if is_same_kind kind s.kind then s.on else with_line (I.Widen (room_of kind)) s.on

-- a branch to a place that isn't known yet
abbrev pub with_branch : Written → Written
with_branch w = with_line (I.Branch 0) w

-- the first part ends, and the branch leads behind it, to the second part
abbrev pub with_second : ℕ → Written → Written
with_second place w =
    with_line (I.Target w.below) (with_line (I.Jump 0) (at_line place (I.Branch (length w.lines + 1)) w))

-- the second part ends, and the jump at the end of the first leads behind it; these operands are there then
abbrev pub with_end : ℕ → List ValueKind → Written → Written
with_end place kinds w = with_line (I.Target kinds) (at_line place (I.Jump (length w.lines)) w)

abbrev pub with_value_end : ℕ → Kind → Written → Written
with_value_end place kind w = with_end place (w.below ++ code_kind kind ∷ []) w

-- KNOWN of what is asked, or a word of an expression
abbrev pub one_step : OneWord → Written → WrittenStep → WrittenStep
one_step Known asked part = written_step (one_kind Known) (with_line I.Known asked)
one_step word asked part = written_step (one_kind word) (with_line (one_line word) part.on)

abbrev pub written_with_two : TwoWord → Kind → Kind → Written → Written
written_with_two Or k l w = w
written_with_two And k l w = w
written_with_two Equal k l w = with_line (test_line k I.Eq I.Deq) w
written_with_two Unequal k l w = with_line I.Not (with_line (test_line k I.Eq I.Deq) w)
written_with_two Less k l w = with_line (test_line k I.Lt I.Dlt) w
written_with_two LessEqual k l w = with_line (test_line k I.Le I.Dle) w
written_with_two Greater k l w = with_line I.Not (with_line (test_line k I.Le I.Dle) w)
written_with_two GreaterEqual k l w = with_line I.Not (with_line (test_line k I.Lt I.Dlt) w)
written_with_two Plus k l w = with_line (sum_line k) w
written_with_two Less_by k l w = with_line (difference_line k l) w
written_with_two Times k l w = with_line I.Mul w
written_with_two Divide k l w = with_line I.Div w
written_with_two Append k l w = with_line I.Append w
written_with_two Item k l w = with_line I.Item w

abbrev pub first_of_kinds : List Kind → List Kind
first_of_kinds [] = []
first_of_kinds (k ∷ ks) = k ∷ []

abbrev pub kinds_behind_first : List Kind → List Kind
kinds_behind_first [] = []
kinds_behind_first (k ∷ ks) = ks

-- an argument that fills the parameter of a kind
abbrev pub with_argument : Kind → WrittenStep → Written
with_argument kind s = with_operand kind (written_with_room kind s)

-- an element and an accumulator, each in its local, that a turn begins with
abbrev pub written_with_turn : ℕ → ℕ → Kind → Kind → Written → Written
written_with_turn item total item_kind total_kind w =
    with_line (I.Foreach item) (with_line (I.Store total) (with_kind total total_kind (with_kind item item_kind (without_operands 1 w))))

abbrev pub with_turns_end : ℕ → Written → Written
with_turns_end total w = with_line (I.Load total) (with_line I.Next (with_line (I.Store total) w))

module _ (callees : List Callee) where
  abbrev mutual
    pub compiled : Written → Tree → WrittenStep
    compiled w (literal n unit) = written_step number_kind (with_line (I.Num (number_in_units n unit)) w)
    compiled w (truth b) = written_step truth_kind (with_line (I.Bool b) w)
    compiled w now = written_step date_kind (with_line I.Now w)
    compiled w (slot o s) = written_step slot_kind (with_line (I.Slot (spelt_name o) (spelt_name s)) w)
    compiled w (name x) = written_step (kind_named (names_in w.scope) x) (with_line (I.Load (local_named w.scope x)) w)
    compiled w (call f ts) =
        let c = callee_named callees f in
        written_step c.head.result
        (with_line (call_instruction f c.block) (without_operands (length c.head.takes) (compiled_arguments w c.head.takes ts)))
    compiled w (brackets t) = compiled w t
    compiled w (list ts) =
        written_step (list_kind (short (count_of ts)) (first_ahead callees (names_in w.scope) ts))
        (with_line (I.List (short (count_of ts))) (without_operands (count_of ts) (compiled_all w ts)))
    compiled w (choice c y n) =
        let test = (compiled w c).on in
        let first = compiled (with_branch test) y in
        let kind = join first.kind (kind_ahead callees (names_in first.on.scope) n) in
        let middle = written_with_room kind first in
        let second = compiled (with_second (length test.lines) middle) n in
        written_step kind (with_value_end (length middle.lines) kind (written_with_room kind second))
    compiled w (bind x e b) =
        let local = length w.locals in
        let value = compiled (with_local w) e in
        let ahead = with_line (I.Store local) (with_kind local value.kind value.on) in
        let body = compiled (with_name (bound x value.kind local) ahead) b in
        written_step body.kind (without_name body.on)
    compiled w (each x l a f b) =
        let local = length w.locals in
        let sum = length (with_local w).locals in
        let all = compiled (with_local (with_local w)) l in
        let total = compiled (with_operand all.kind all.on) f in
        let item = element_of all.kind in
        let ahead = written_with_turn local sum item total.kind total.on in
        let body = compiled (with_name (bound a total.kind sum) (with_name (bound x item local) ahead)) b in
        let turn = written_with_room total.kind (written_step body.kind (without_name (without_name body.on))) in
        written_step total.kind (with_turns_end sum turn)
    compiled w (mapped x l b) =
        let local = length w.locals in
        let all = compiled (with_local w) l in
        let item = element_of all.kind in
        let ahead = with_line (I.Map local) (with_kind local item all.on) in
        let body = compiled (with_name (bound x item local) ahead) b in
        written_step (numbers_kind (room_of all.kind)) (with_line I.Yield (without_name body.on))
    compiled w (one word e) = one_step word (asked w e) (compiled w e)
    compiled w (two Or l r) =
        let test = (compiled w l).on in
        let middle = with_line (I.Bool true) (with_branch test) in
        let second = (compiled (with_second (length test.lines) middle) r).on in
        written_step truth_kind (with_value_end (length middle.lines) truth_kind second)
    compiled w (two And l r) =
        let test = (compiled w l).on in
        let middle = (compiled (with_branch test) r).on in
        let second = with_line (I.Bool false) (with_second (length test.lines) middle) in
        written_step truth_kind (with_value_end (length middle.lines) truth_kind second)
    compiled w (two word l r) =
        let left = compiled w l in
        let right = compiled (with_operand left.kind left.on) r in
        written_step (kind_of_two word left.kind right.kind) (written_with_two word left.kind right.kind (without_operands 1 right.on))
    compiled w (convert word o e) = written_step number_kind (with_line (convert_line word (spelt_name o)) (compiled w e).on)
    compiled w (at s d) =
        let place = compiled w s in
        written_step number_kind (with_line I.Read (without_operands 1 (compiled (with_operand place.kind place.on) d).on))

    -- a slot, and the date at which it is looked at
    pub asked : Written → Tree → Written
    asked w (at s d) =
        let place = compiled w s in
        without_operands 1 (compiled (with_operand place.kind place.on) d).on
    asked w _ = w

    -- each waits for those behind it
    pub compiled_all : Written → Trees → Written
    compiled_all w no_trees = w
    compiled_all w (tree t ts) = let first = compiled w t in compiled_all (with_operand first.kind first.on) ts

    pub compiled_arguments : Written → List Kind → Trees → Written
    compiled_arguments w kinds no_trees = w
    compiled_arguments w [] (tree t ts) = w
    compiled_arguments w (kind ∷ kinds) (tree t ts) = compiled_arguments (with_argument kind (compiled w t)) kinds ts

  -- a value under a name
  abbrev pub with_value : List ℕ → Tree → Written → Written
  with_value x e w =
      let local = length w.locals in
      let value = compiled (with_local w) e in
      with_name (bound x value.kind local) (with_line (I.Store local) (with_kind local value.kind value.on))

  abbrev mutual
    pub compiled_act : Written → Act → Written
    compiled_act w (assign o s ahead e) = with_line (I.Put (spelt_name o) (spelt_name s) (byte (unsigned_abs ahead))) (compiled w e).on
    compiled_act w (branch c first second) =
        let test = (compiled w c).on in
        let middle = compiled_acts (with_branch test) first in
        let last = compiled_acts (with_second (length test.lines) middle) second in
        with_end (length middle.lines) last.below last
    compiled_act w (with x e body) = without_name (compiled_acts (with_value x e w) body)

    pub compiled_acts : Written → Acts → Written
    compiled_acts w no_acts = w
    compiled_acts w (act a rest) = compiled_acts (compiled_act w a) rest

-- ---- rulesets

-- at the beginning of a block whose parameters have these kinds
abbrev pub begun : List BoundName → List ValueKind → Written
begun scope locals = written scope locals [] []

-- parameters are the first locals
abbrev pub written_parameters : ℕ → List Parameter → List BoundName
written_parameters n [] = []
written_parameters n (p ∷ ps) = bound p.name (written_kind p.of_type) n ∷ written_parameters (n + 1) ps

abbrev pub written_takes : List Parameter → List Kind
written_takes ps = map (λ (p : Parameter). written_kind p.of_type) ps

abbrev pub written_rule : List Callee → Acts → Block
written_rule callees body =
    let w = compiled_acts callees (begun [] []) body in
    record { head = Rule; locals = w.locals; lines = w.lines }

abbrev pub begun_function : List Parameter → Written
begun_function params = begun (written_parameters 0 params) (code_kinds (written_takes params))

-- of a function whose body is written
abbrev pub function_block : List Parameter → Kind → Written → Block
function_block params result w =
    record { head = Function (code_kind result) (code_kinds (written_takes params)); locals = drop (length params) w.locals; lines = w.lines }

abbrev pub written_function : List Callee → List Parameter → Kind → Tree → Block
written_function callees params result body =
    function_block params result (written_with_room result (compiled callees (begun_function params) body))

abbrev pub written_block : List Callee → Declared → Block
written_block callees (rule called_so body) = written_rule callees body
written_block callees (function called_so params result body) = written_function callees params (written_kind result) body

-- a function of numbers that there is in each ruleset
abbrev pub of_numbers : List ℕ → List Kind → Callee
of_numbers called_so takes = record { head = record { name = called_so; takes = takes; result = number_kind }; block = None }

-- what those behind a declaration of a number may call
abbrev pub and_callee : List Callee → ℕ → Declared → List Callee
and_callee callees number (rule called_so body) = callees
and_callee callees number (function called_so params result body) =
    record { head = record { name = called_so; takes = written_takes params; result = written_kind result }; block = Some number } ∷ callees

abbrev pub written_from : List Callee → ℕ → List Declared → List Block
written_from callees number [] = []
written_from callees number (d ∷ ds) = written_block callees d ∷ written_from (and_callee callees number d) (number + 1) ds
