use Rattle.rw_base.proofs.Common.{List, ℕ, ◌++◌, [], append-nil, subst}
use Rattle.rw_io.specs.Handed.{BrokeOff}
use Rattle.rw_io.proofs.Handing.{broke_before}
use Rattle.rw_io.proofs.gathered.Gathered.put.Goals as goal

pub returns-in-Err : goal.returns-in-Err
returns-in-Err g c = λ before text way.
    let P : List ℕ → Type 0 = λ front. BrokeOff before (g.K.Sink.seen c.hand_over.new.out) (front ++ c.args.piece.now) in
    subst P (append-nil text) (broke_before before _ (text ++ []) c.args.piece.now (c.in-Err.ensures.hands before text way))
