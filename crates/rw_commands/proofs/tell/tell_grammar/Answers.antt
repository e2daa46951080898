use Rattle.rw_commands.proofs.tell.tell_grammar.Goals as goal

pub returns-in-BadDeclaration : goal.returns-in-BadDeclaration
returns-in-BadDeclaration g c = rw c.in-BadDeclaration.is c.tell_place.ensures

pub returns-in-TooMany : goal.returns-in-TooMany
returns-in-TooMany g c = rw c.in-TooMany.is c.tell_number-in-TooMany.ensures

pub returns-in-NoMemory : goal.returns-in-NoMemory
returns-in-NoMemory g c = rw c.in-NoMemory.is c.tell_line.ensures
