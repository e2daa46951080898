-- Within the crate: what a call that writes leaves, unless memory was wanting.
use Rattle.std.specs.Prelude.{◌≡◌, Result, IfOk, OnOk}
use Rattle.rw_base.specs.declared.memory.NoMemory.{NoMemory}
use Rattle.rpl_code.specs.declared.kind.ValueKind.{ValueKind}
use Rattle.rpl_compile.specs.declared.writing.Writing.{Writing}
use Rattle.rpl_compile.specs.Seen.{kind_seen, written_of}
use Rattle.rpl_compile.specs.Written.{WrittenStep, Written, written_step}

-- a call that answers a kind
abbrev pub WritesKind : Writing → Result ValueKind NoMemory → WrittenStep → Type 0
WritesKind left result given = IfOk result (λ kind. written_step (kind_seen kind) (written_of left) ≡ given)

-- a call that answers nothing
abbrev pub LeavesWritten : Writing → Result (Unit {0}) NoMemory → Written → Type 0
LeavesWritten left result given = OnOk result (written_of left ≡ given)
