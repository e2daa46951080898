use Rattle.rw_rerun.proofs.spare.bring_back.Goals as goal

pub go_back-requires-clause-stands : goal.go_back-requires-clause-stands
go_back-requires-clause-stands c =
    let was = c.requires.stands in record {
      policy = was.policy;
      start = was.start;
      end = was.end;
      stands = c.loop-spare.invariant.brings.stands was.policy was.start was.end was.stands;
    }
