use Rattle.std.proofs.Common.{length, rules}
use Rattle.rw_io.proofs.FilesLemmas.{left_at-read}
use Rattle.rw_io.proofs.mem_shelf.MemShelfShelf.read.Goals as goal

pub returns-clause-gives : goal.returns-clause-gives
returns-clause-gives c =
    let shelf = c.args.self.now in
    let copied = rw c.deref.ensures.value at c.copy_from-count.ensures.copied in
    let end = rw c.deref.ensures.value at c.copy_from-count.ensures.end in
    record {
      held = search rules;
      started = search rules;
      bound = search rules;
      bytes = left_at-read shelf.files.items shelf.started shelf.place shelf.at c.copy_from-count.result
          (length c.copy_from-count.new.buf) _ c.index.result.now shelf.inside c.index.ensures copied end;
      idle = search rules;
      taken = search rules;
      later = search rules;
      cause = search rules;
    }
