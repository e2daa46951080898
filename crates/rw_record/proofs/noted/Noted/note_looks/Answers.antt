use Rattle.rw_record.proofs.Common.{[], cells_looked, held, refl, rules, ◌∷◌, ◌≡◌}
use Rattle.std.specs.Prelude.{Err}
use Rattle.rw_record.proofs.Adding.{looks_sum, stopped, turned}
use Rattle.rw_record.proofs.noted.Noted.note_looks.Goals as goal

pub returns-in_err-note : goal.returns-in_err-note
returns-in_err-note c =
    let err : c.from_residual.result ≡ Err c.in_err-note.field-0.0 = search rules in
    stopped cells_looked looks_sum (held c.args.series.now) c.args.looks.now c.loop-look.look-index c.look-item.result c.loop-look-test.true
    c.look-item.is
    (c.look-item.result.cell ∷ []) refl c.args.self.now c.loop-look.self c.note.new.self c.loop-look.invariant c.from_residual.result
    c.in_err-note.field-0.0 err
    c.in_err-note.ensures.noted

pub loop-look-preserved : goal.loop-look-preserved
loop-look-preserved c =
    turned cells_looked looks_sum (held c.args.series.now) c.args.looks.now c.loop-look.look-index c.look-item.result c.loop-look-test.true
    c.look-item.is
    (c.look-item.result.cell ∷ []) refl c.args.self.now c.loop-look.self c.note.new.self c.loop-look.invariant c.in_ok-note.ensures.noted
