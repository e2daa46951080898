-- The code of a ruleset: a block for each declaration, in order.
use Rattle.std.specs.Prelude.{ℕ, ◌+◌, unsigned_abs, true, false, List, [], ◌∷◌, ◌++◌, length, map, Option, Some, None, bytes_eq, if◌then◌else◌}
use Rattle.rpl_code.specs.declared.instruction.Instruction.{Instruction}
use Rattle.rpl_code.specs.declared.instruction.Instruction.TheVariants as I
use Rattle.rpl_code.specs.declared.block.BlockHead.TheVariants.{Rule, Function}
use Rattle.rpl_code.specs.declared.block.Block.{Block}
use Rattle.rpl_tree.specs.declared.words.OneWord.{OneWord}
use Rattle.rpl_tree.specs.declared.words.OneWord.TheVariants.{Known}
use Rattle.rpl_tree.specs.declared.words.TwoWord.TheVariants.{Or, And}
use Rattle.rpl_tree.specs.Value.{Kind, truth_kind, element_of}
use Rattle.rpl_tree.specs.Tree.{Tree, Trees, literal, truth, now, slot, name, call, brackets, list, choice, bind, each, mapped, one, two, convert, at, no_trees, tree, Act, Acts, assign, branch, with_name, no_acts, act, Parameter, Declared, rule, function}
use Rattle.rpl_tree.specs.Kinds.{Head, count_of, kind_of_type, takes_named}
use Rattle.rpl_tree.specs.Locals.{local_kinds, acts_local_kinds}
use Rattle.rpl_tree.specs.Mean.{function_heads, param_kinds, predefined_functions}
use Rattle.rpl_compile.specs.Operations.{code_kind, code_kinds, convert_line, number_line, one_line, target, two_lines, widening, widening_size}
use Rattle.rpl_compile.specs.Site.{Site, behind, behind_act, behind_acts, bound, keeping, kind_at, knowing, local_named, names_in, on, over, parameters_from, start}

-- a function that can be called, and its block, but of a predefined one
pub record Callee : Type 0 where
  pub head : Head
  pub block : Option ℕ

abbrev pub callee_heads : List Callee → List Head
callee_heads callees = map (λ (c : Callee). c.head) callees

-- a block is called by its number
abbrev pub call_by : List ℕ → Option ℕ → Instruction
call_by f None = I.Call f
call_by f (Some number) = I.Invoke number

abbrev pub call_line : List Callee → List ℕ → Instruction
call_line [] f = I.Call f
call_line (c ∷ callees) f = if bytes_eq c.head.name f then call_by f c.block else call_line callees f

-- an IF: the branch goes to the second part, the first part jumps over it
abbrev pub choice_lines : Site → Site → List Kind → List Instruction → List Instruction → List Instruction → List Instruction
choice_lines middle last result c first second =
    c ++ (I.Branch (middle.place + 1) ∷ (first ++ (I.Jump last.place ∷ target middle.below ∷ (second ++ target result ∷ []))))

-- KNOWN asks where others look
abbrev pub one_lines : OneWord → List Instruction → List Instruction → List Instruction
one_lines Known e asked = asked ++ I.Known ∷ []
one_lines word e asked = e ++ one_line word ∷ []

module _ (callees : List Callee) where
  abbrev pub kind_of_tree : Site → Tree → Kind
  kind_of_tree = kind_at (callee_heads callees)

  abbrev pub after_tree : Tree → Site → Site
  after_tree = behind (callee_heads callees)

  -- what gives an expression the room of its place
  abbrev pub room_lines : Kind → Site → Tree → List Instruction
  room_lines kind site t = widening kind (kind_of_tree site t)

  -- behind that
  abbrev pub after_room : Kind → Site → Tree → Site
  after_room kind site t = on (widening_size kind (kind_of_tree site t)) (after_tree t site)

  abbrev pub after_act : Act → Site → Site
  after_act = behind_act (callee_heads callees)

  abbrev pub after_acts : Acts → Site → Site
  after_acts = behind_acts (callee_heads callees)

  abbrev mutual
    pub code_of : Site → Tree → List Instruction
    code_of site (literal n unit) = number_line n unit ∷ []
    code_of site (truth b) = I.Bool b ∷ []
    code_of site now = I.Now ∷ []
    code_of site (slot o s) = I.Slot o s ∷ []
    code_of site (name x) = I.Load (local_named site.scope x) ∷ []
    code_of site (call f ts) = arguments_code site (takes_named (callee_heads callees) f) ts ++ call_line callees f ∷ []
    code_of site (brackets t) = code_of site t
    code_of site (list ts) = all_code site ts ++ I.List (count_of ts) ∷ []
    code_of site (choice c y n) =
        let kind = kind_of_tree site (choice c y n) in
        let first = on 1 (after_tree c site) in
        let middle = after_room kind first y in
        let second = on 2 middle in
        choice_lines middle (after_room kind second n) (kind ∷ site.below) (code_of site c)
        (code_of first y ++ room_lines kind first y) (code_of second n ++ room_lines kind second n)
    code_of site (bind x e b) =
        let value = keeping 1 site in
        let inside = knowing (bound x (kind_of_tree site e) site.free) (on 1 (after_tree e value)) in
        code_of value e ++ (I.Store site.free ∷ code_of inside b)
    code_of site (each x l a f b) =
        let element = element_of (kind_of_tree site l) in
        let total = kind_of_tree site f in
        let items = keeping 2 site in
        let first = over (kind_of_tree site l) (after_tree l items) in
        let inside = knowing (bound a total (site.free + 1)) (knowing (bound x element site.free) (on 2 (after_tree f (after_tree l items)))) in
        code_of items l ++ (code_of first f ++ (I.Store (site.free + 1) ∷ I.Foreach site.free ∷ (code_of inside b ++ (room_lines total inside b
        ++ (I.Store (site.free + 1) ∷ I.Next ∷ I.Load (site.free + 1) ∷ [])))))
    code_of site (mapped x l b) =
        let items = keeping 1 site in
        let inside = knowing (bound x (element_of (kind_of_tree site l)) site.free) (on 1 (after_tree l items)) in
        code_of items l ++ (I.Map site.free ∷ (code_of inside b ++ I.Yield ∷ []))
    code_of site (one word e) = one_lines word (code_of site e) (asked_code site e)
    code_of site (two Or l r) =
        let first = on 1 (after_tree l site) in
        let middle = on 1 first in
        let second = on 2 middle in
        choice_lines middle (after_tree r second) (truth_kind ∷ site.below) (code_of site l) (I.Bool true ∷ []) (code_of second r)
    code_of site (two And l r) =
        let first = on 1 (after_tree l site) in
        let middle = after_tree r first in
        choice_lines middle (on 3 middle) (truth_kind ∷ site.below) (code_of site l) (code_of first r) (I.Bool false ∷ [])
    code_of site (two word l r) =
        code_of site l ++ (code_of (over (kind_of_tree site l) (after_tree l site)) r
        ++ two_lines word (kind_of_tree site l) (kind_of_tree site r))
    code_of site (convert word o e) = code_of site e ++ convert_line word o ∷ []
    code_of site (at s d) =
        code_of site s ++ (code_of (over (kind_of_tree site s) (after_tree s site)) d ++ I.Read ∷ [])

    -- a slot, and the date at which it is looked at
    pub asked_code : Site → Tree → List Instruction
    asked_code site (at s d) = code_of site s ++ code_of (over (kind_of_tree site s) (after_tree s site)) d
    asked_code site _ = []

    pub all_code : Site → Trees → List Instruction
    all_code site no_trees = []
    all_code site (tree t ts) = code_of site t ++ all_code (over (kind_of_tree site t) (after_tree t site)) ts

    -- with the room of the parameters
    pub arguments_code : Site → List Kind → Trees → List Instruction
    arguments_code site (kind ∷ kinds) (tree t ts) =
        code_of site t ++ (room_lines kind site t ++ arguments_code (over kind (after_room kind site t)) kinds ts)
    arguments_code site _ _ = []

  abbrev mutual
    pub act_code : Site → Act → List Instruction
    act_code site (assign o s ahead e) = code_of site e ++ I.Put o s (unsigned_abs ahead) ∷ []
    act_code site (branch c first second) =
        let ahead = on 1 (after_tree c site) in
        let middle = after_acts first ahead in
        let behind = on 2 middle in
        choice_lines middle (after_acts second behind) site.below (code_of site c) (acts_code ahead first) (acts_code behind second)
    act_code site (with_name x e body) =
        let value = keeping 1 site in
        let inside = knowing (bound x (kind_of_tree site e) site.free) (on 1 (after_tree e value)) in
        code_of value e ++ (I.Store site.free ∷ acts_code inside body)

    pub acts_code : Site → Acts → List Instruction
    acts_code site no_acts = []
    acts_code site (act a rest) = act_code site a ++ acts_code (after_act a site) rest

  -- ---- blocks

  abbrev pub rule_block : Acts → Block
  rule_block body = record {
    head = Rule;
    locals = code_kinds (acts_local_kinds (callee_heads callees) [] body);
    lines = acts_code (start [] 0) body;
  }

  abbrev pub function_block : List Parameter → Kind → Tree → Block
  function_block params result body =
      let scope = parameters_from 0 params in
      let site = start scope (length params) in
      record {
        head = Function (code_kind result) (code_kinds (param_kinds params));
        locals = code_kinds (local_kinds (callee_heads callees) (names_in scope) body);
        lines = code_of site body ++ room_lines result site body;
      }

abbrev pub predefined_callees : List Callee
predefined_callees = map (λ (head : Head). record { head = head; block = None }) (function_heads predefined_functions)

-- of the declarations from a number on, where these functions may be called, the last one first
abbrev pub blocks_from : List Callee → ℕ → List Declared → List Block
blocks_from callees number [] = []
blocks_from callees number (rule called_so body ∷ rest) = rule_block callees body ∷ blocks_from callees (number + 1) rest
blocks_from callees number (function called_so params result body ∷ rest) =
    let kind = kind_of_type result in
    let callee : Callee = record {
      head = record { name = called_so; takes = param_kinds params; result = kind };
      block = Some number;
    } in
    function_block callees params kind body ∷ blocks_from (callee ∷ callees) (number + 1) rest

abbrev pub translate : List Declared → List Block
translate rules = blocks_from predefined_callees 1 rules
