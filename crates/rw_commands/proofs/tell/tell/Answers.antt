use Rattle.rw_commands.proofs.tell.tell.Goals as goal

pub returns-in-CannotRead : goal.returns-in-CannotRead
returns-in-CannotRead g c = rw c.in-CannotRead.is (rw c.told_path.ensures at c.tell_line.ensures)

pub returns-in-TooLong : goal.returns-in-TooLong
returns-in-TooLong g c = rw c.in-TooLong.is (rw c.told_path-in-TooLong.ensures at c.tell_line-in-TooLong.ensures)

pub returns-in-CannotWrite : goal.returns-in-CannotWrite
returns-in-CannotWrite g c = rw c.in-CannotWrite.is c.tell_line-in-CannotWrite.ensures

pub returns-in-NoMemory : goal.returns-in-NoMemory
returns-in-NoMemory g c = rw c.in-NoMemory.is c.tell_memory.ensures

pub returns-in-Inputs : goal.returns-in-Inputs
returns-in-Inputs g c = rw c.in-Inputs.is c.tell_inputs.ensures

pub returns-in-Types : goal.returns-in-Types
returns-in-Types g c = rw c.in-Types.is c.tell_types.ensures

pub returns-in-Block : goal.returns-in-Block
returns-in-Block g c = rw c.in-Block.is c.tell_block.ensures

pub returns-in-Edits : goal.returns-in-Edits
returns-in-Edits g c = rw c.in-Edits.is c.tell_edits.ensures

pub returns-in-Traces : goal.returns-in-Traces
returns-in-Traces g c = rw c.in-Traces.is c.tell_traces.ensures
