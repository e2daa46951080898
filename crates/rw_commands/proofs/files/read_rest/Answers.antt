use Rattle.rw_commands.proofs.FilesRead.{no_cell}
use Rattle.rw_commands.proofs.files.read_rest.Goals as goal

pub returns-in-Ok-find_cell-clause-read : goal.returns-in-Ok-find_cell-clause-read
returns-in-Ok-find_cell-clause-read g c = (c.in-Ok.ensures.read, c.in-Ok-find_cell.ensures)

pub returns-in-Err-find_cell-clause-read : goal.returns-in-Err-find_cell-clause-read
returns-in-Err-find_cell-clause-read g c =
    no_cell _ _ c.args.basin.now c.in-Ok.behind c.in-Err-find_cell.refusal c.requires.model c.in-Ok.ensures.read c.in-Err-find_cell.ensures
