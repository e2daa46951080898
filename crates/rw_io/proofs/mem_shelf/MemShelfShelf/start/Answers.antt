use Rattle.std.proofs.Common.{rules}
use Rattle.rw_io.proofs.mem_shelf.MemShelfShelf.start.Goals as goal

pub returns-then-next_fails-clause-starts : goal.returns-then-next_fails-clause-starts
returns-then-next_fails-clause-starts c = record {
  held = search rules;
  started = search rules;
  left = search rules;
  taken = search rules;
  nothing = search rules;
  stays = search rules;
  later = search rules;
  cause = search rules;
}

pub returns-clause-starts : goal.returns-clause-starts
returns-clause-starts c = record {
  held = search rules;
  started = search rules;
  left = search rules;
  taken = search rules;
  nothing = search rules;
  stays = search rules;
  later = search rules;
  cause = search rules;
}
