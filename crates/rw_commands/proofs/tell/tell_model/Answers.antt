use Rattle.rw_commands.proofs.tell.tell_model.Goals as goal

pub returns-in-Missing : goal.returns-in-Missing
returns-in-Missing g c = rw c.in-Missing.is (rw c.as_str.ensures.value at c.tell_line-in-Missing.ensures)

pub returns-in-WrongKind : goal.returns-in-WrongKind
returns-in-WrongKind g c = rw c.in-WrongKind.is (rw c.as_str-in-WrongKind.ensures.value at c.tell_line-in-WrongKind.ensures)

pub returns-in-UnknownKey : goal.returns-in-UnknownKey
returns-in-UnknownKey g c = rw c.in-UnknownKey.is (rw c.as_str-in-UnknownKey.ensures.value at c.tell_line-in-UnknownKey.ensures)

pub returns-in-UnknownKind : goal.returns-in-UnknownKind
returns-in-UnknownKind g c = rw c.in-UnknownKind.is (rw c.as_str-in-UnknownKind.ensures.value at c.tell_line-in-UnknownKind.ensures)

pub returns-in-Build : goal.returns-in-Build
returns-in-Build g c = rw c.in-Build.is (rw (c.as_str-in-Build.ensures.value, c.build_words.ensures) at c.tell_wrong.ensures)

pub returns-in-Table : goal.returns-in-Table
returns-in-Table g c = rw c.in-Table.is (rw (c.as_str-in-Table.ensures.value, c.table_words.ensures) at c.tell_wrong-in-Table.ensures)

pub returns-in-Calendar : goal.returns-in-Calendar
returns-in-Calendar g c = rw c.in-Calendar.is (rw c.calendar_words.ensures at c.tell_line-in-Calendar.ensures)

pub returns-in-NoMemory : goal.returns-in-NoMemory
returns-in-NoMemory g c = rw c.in-NoMemory.is c.tell_line-in-NoMemory.ensures
