-- What the faults of the readers say of a text.
use Rattle.std.specs.Prelude.{◌≡◌, Option, Some, None, Result, Ok, Err}
use Rattle.rpl_code.specs.declared.fault.CodeFault.{CodeFault}
use Rattle.rpl_code.specs.declared.fault.CodeFault.TheVariants.{BadLine, Truncated, NoMemory}
use Rattle.rpl_code.specs.declared.line_fault.LineFault.{LineFault}
use Rattle.rpl_code.specs.declared.line_fault.LineFault.TheVariants.{Bad}
use Rattle.rpl_code.specs.Reading.{CodeRefusal, bad_line, truncated}

-- what a line or a word stands for is answered, or that it stands for nothing; nothing is said of it for want of memory
abbrev pub Says : {A : Type 0} → Option A → Result A LineFault → Type 0
Says meant (Ok x) = meant ≡ Some x
Says meant (Err fault) = fault ≡ Bad → meant ≡ None

-- why a text is no code. Want of memory tells nothing of it
abbrev pub code_refusal_of : CodeFault → Option CodeRefusal
code_refusal_of (BadLine line) = Some (bad_line line)
code_refusal_of Truncated = Some truncated
code_refusal_of NoMemory = None
