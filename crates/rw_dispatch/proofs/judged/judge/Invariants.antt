use Rattle.rw_dispatch.proofs.Common.{drop, ◌≡◌}
use Rattle.rw_run.proofs.Common.{Cells, view_of}
use Rattle.rw_dispatch.proofs.Judgement.{IsJudging, IsNoted}
use Rattle.rw_dispatch.proofs.judged.judge.Given as goal

abbrev pub invariant-loop-put : goal.invariant-loop-put
invariant-loop-put l = record {
  judging : (cells : Cells) → l.view ≡ view_of l.basin cells l.object.0 l.step.0
      → IsJudging l.basin cells l.object.0 l.step.0 l.asked (drop l.put-index l.asked) l.writes;
  noted : IsNoted l.basin l.put-index l.writes;
}
