-- Worked codes and texts.
use Rattle.std.specs.Prelude.{ℕ, true, false, List, [], ◌∷◌, pos, negsuc, codes}
use Rattle.rpl_code.specs.declared.kind.ValueKind.TheVariants as K
use Rattle.rpl_code.specs.declared.instruction.Instruction.{Instruction}
use Rattle.rpl_code.specs.declared.instruction.Instruction.TheVariants as I
use Rattle.rpl_code.specs.declared.block.BlockHead.TheVariants.{Rule, Function}
use Rattle.rpl_code.specs.declared.block.Block.{Block}
use Rattle.rpl_code.specs.Spelling.{lines_ended}

-- a rule without locals, and its lines
abbrev pub plain_rule : List Instruction → List Block
plain_rule lines = record { head = Rule; locals = []; lines = lines } ∷ []

-- the storage of a dam is capped
abbrev pub capped_code : List Block
capped_code = plain_rule (I.Slot (codes "Dam") (codes "Storage") ∷ I.Now ∷ I.Read ∷ I.Num (pos 1020) ∷ I.Call (codes "Min")
    ∷ I.Put (codes "Dam") (codes "Storage") 0 ∷ [])

abbrev pub capped_text : List ℕ
capped_text = lines_ended (codes "CODE 1" ∷ codes "RULE" ∷ codes "LOCALS -" ∷ codes "slot Dam.Storage" ∷ codes "now" ∷ codes "read"
    ∷ codes "num 1020" ∷ codes "call Min" ∷ codes "put Dam.Storage 0" ∷ codes "END" ∷ [])

-- a function of two parameters, and a rule with three locals that uses each instruction with words behind it
abbrev pub mixed : List Block
mixed =
    record { head = Function K.N (K.N ∷ K.SList 12 ∷ []); locals = K.B ∷ K.D ∷ []; lines = I.Load 0 ∷ I.Neg ∷ [] }
    ∷ record {
      head = Rule;
      locals = K.N ∷ K.S ∷ K.NList 4096 ∷ [];
      lines = I.Num (negsuc 6) ∷ I.Bool true ∷ I.Bool false ∷ I.Store 4294967295 ∷ I.ToElevation (codes "Dam")
          ∷ I.ToStorage (codes "_d2") ∷ I.Invoke 1 ∷ I.List 2 ∷ I.Widen 4096 ∷ I.Jump 9 ∷ I.Branch 10
          ∷ I.Target [] ∷ I.Target (K.NList 2 ∷ K.D ∷ []) ∷ I.Foreach 0 ∷ I.Next ∷ I.Map 1 ∷ I.Yield ∷ [];
    }
    ∷ []

abbrev pub mixed_text : List ℕ
mixed_text = lines_ended (codes "CODE 1" ∷ codes "FUNCTION N N,S*12" ∷ codes "LOCALS B,D" ∷ codes "load 0" ∷ codes "neg" ∷ codes "END"
    ∷ codes "RULE" ∷ codes "LOCALS N,S,N*4096" ∷ codes "num -7" ∷ codes "bool true" ∷ codes "bool false" ∷ codes "store 4294967295"
    ∷ codes "toelevation Dam" ∷ codes "tostorage _d2" ∷ codes "invoke 1" ∷ codes "list 2" ∷ codes "widen 4096" ∷ codes "jump 9"
    ∷ codes "branch 10" ∷ codes "target -" ∷ codes "target N*2,D" ∷ codes "foreach 0" ∷ codes "next" ∷ codes "map 1"
    ∷ codes "yield" ∷ codes "END" ∷ [])

-- a rule of one line, which is a whole text
abbrev pub rule_text : List ℕ → List ℕ
rule_text line = lines_ended (codes "CODE 1" ∷ codes "RULE" ∷ codes "LOCALS -" ∷ line ∷ codes "END" ∷ [])

-- a rule with one local
abbrev pub rule_with_local : List Instruction → List Block
rule_with_local lines = record { head = Rule; locals = K.N ∷ []; lines = lines } ∷ []

-- 50 is put, and 7 only kept, as no compiler does
abbrev pub seven_kept : List Block
seven_kept = rule_with_local (I.Num (pos 7) ∷ I.Store 0 ∷ I.Num (pos 50) ∷ I.Put (codes "Dam") (codes "Outflow") 0 ∷ [])

abbrev pub seven_kept_text : List ℕ
seven_kept_text = lines_ended (codes "CODE 1" ∷ codes "RULE" ∷ codes "LOCALS N" ∷ codes "num 7" ∷ codes "store 0" ∷ codes "num 50"
    ∷ codes "put Dam.Outflow 0" ∷ codes "END" ∷ [])

-- two numbers are put, one after the other
abbrev pub two_puts : List Block
two_puts = rule_with_local (I.Num (pos 4) ∷ I.Num (pos 5) ∷ I.List 2 ∷ I.Foreach 0 ∷ I.Load 0 ∷ I.Put (codes "Dam") (codes "Outflow") 0
    ∷ I.Next ∷ [])

abbrev pub two_puts_text : List ℕ
two_puts_text = lines_ended (codes "CODE 1" ∷ codes "RULE" ∷ codes "LOCALS N" ∷ codes "num 4" ∷ codes "num 5" ∷ codes "list 2"
    ∷ codes "foreach 0" ∷ codes "load 0" ∷ codes "put Dam.Outflow 0" ∷ codes "next" ∷ codes "END" ∷ [])
