use Rattle.std.proofs.Common.{◌≡◌, ◌+◌, ◌-◌, ◌∷◌, ap, ◌∙◌, drop, arith}
use Rattle.std.proofs.lemmas.List.{drop-set}
use Rattle.std.proofs.lemmas.Str.Ascii.{IsAscii-cons}
use Rattle.rw_report.proofs.table.write_value.Goals as goal

pub returns-clause-written : goal.returns-clause-written
returns-clause-written c =
    let w = c.write_content-start in
    let e : w.result - 1 + 1 ≡ w.result = omega (arith, w.ensures.start.0, w.ensures.start.1, c.requires.room.0, c.requires.room.1) in
    drop-set w.new.buffer (w.result - 1) 44 (omega (arith, w.ensures.start.0, w.ensures.start.1, c.requires.room.0, c.requires.room.1, w.array_long))
    ∙ ap (λ n. 44 ∷ drop n w.new.buffer) e ∙ ap (λ t. 44 ∷ t) w.ensures.written

pub returns-clause-ascii : goal.returns-clause-ascii
returns-clause-ascii c = IsAscii-cons 44 _ (omega arith) c.write_content-start.ensures.ascii
