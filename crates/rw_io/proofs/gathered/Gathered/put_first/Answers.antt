use Rattle.rw_base.proofs.Common.{◌≡◌, List, ℕ, ◌++◌, [], subst, sym}
use Rattle.rw_io.specs.Handed.{IsOnItsWay}
use Rattle.rw_io.proofs.Handing.{breaks, passes}
use Rattle.rw_io.proofs.gathered.Gathered.put_first.Goals as goal

pub returns-in-Ok : goal.returns-in-Ok
returns-in-Ok g c = λ before text way.
    let P : List ℕ → Type 0 = λ gathered. IsOnItsWay before (g.K.Sink.seen c.args.out.now) gathered text in
    let Q : List ℕ → Type 0 = λ gathered. IsOnItsWay before (g.K.Sink.seen c.write_all.new.sink) gathered (text ++ c.args.piece.now) in
    subst Q (sym c.requires) (passes before _ _ c.args.piece.now text (subst P c.requires way) c.in-Ok.ensures.whole c.write_all.ensures.later)

pub returns-in-Err : goal.returns-in-Err
returns-in-Err g c = λ before text way.
    let P : List ℕ → Type 0 = λ gathered. IsOnItsWay before (g.K.Sink.seen c.args.out.now) gathered text in
    breaks before _ _ [] c.args.piece.now text (subst P c.requires way) c.in-Err.ensures.prefix c.in-Err.ensures.cause
