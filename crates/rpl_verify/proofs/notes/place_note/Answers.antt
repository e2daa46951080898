use Rattle.std.proofs.Common.{refl}
use Rattle.rpl_verify.specs.Steps.{scope_in}
use Rattle.rpl_verify.proofs.notes.place_note.Goals as goal

pub returns : goal.returns
returns c = λ basin number head spots.
    let scope = scope_in basin c.args.blocks.now number head c.args.locals.now spots in
    let b = c.args.walk.now.before in
    let words = c.words.ensures scope c.requires in
    rw (c.room.ensures, c.room_below.ensures, c.count.ensures basin number head spots, c.looks.ensures scope b, c.puts.ensures scope b, words) refl
