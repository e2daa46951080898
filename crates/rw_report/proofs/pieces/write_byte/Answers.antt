use Rattle.std.proofs.Common.{◌≡◌, ◌+◌, ◌-◌, ◌∷◌, ap, ◌∙◌, drop, arith}
use Rattle.std.proofs.lemmas.List.{drop-set}
use Rattle.rw_report.proofs.pieces.write_byte.Goals as goal

pub returns-clause-written : goal.returns-clause-written
returns-clause-written c =
    let e : c.args.end - 1 + 1 ≡ c.args.end = omega (arith, c.requires.room.0) in
    drop-set c.args.buffer.now (c.args.end - 1) c.args.byte (omega (arith, c.requires.room.0, c.requires.room.1, c.told-buffer))
    ∙ ap (λ n. c.args.byte ∷ drop n c.args.buffer.now) e
