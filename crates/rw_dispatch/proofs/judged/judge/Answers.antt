use Rattle.rw_dispatch.proofs.Common.{[], ap, cond, drop, rules, subst, sym, ◌++◌, ◌+◌, ◌∙◌, ◌∷◌, ◌≡◌}
use Rattle.std.proofs.lemmas.List.{append-nil}
use Rattle.std.specs.Prelude.{Result, Ok, Err, IfErr, IsErrAnd}
use Rattle.rw_model.specs.Put.{end_of_put}
use Rattle.rw_run.proofs.Common.{Asked, Cells, Event, asked_by, asked_for, denied_by, judged, or_fault, view_of}
use Rattle.rw_dispatch.specs.declared.judged.Clash.{Clash}
use Rattle.rw_dispatch.specs.Putting.{CanPut, IsPassed, conflict}
use Rattle.rw_dispatch.proofs.CanPuts.{held_in_view}
use Rattle.rw_dispatch.proofs.Makes.{can_write, next-put}
use Rattle.rw_dispatch.proofs.Judgement.{judging-more, judged-denied, noted-more}
use Rattle.rw_dispatch.proofs.judged.judge.Goals as goal
use Rattle.rw_dispatch.proofs.judged.judge.Goals.{then-branch, else-branch}

pub loop-put-preserved : goal.loop-put-preserved
loop-put-preserved c =
    let basin = c.args.basin.now in
    let object = c.args.object.0 in
    let step = c.args.step.0 in
    let place = c.loop-put.put-index in
    let put = c.put-item.result in
    let left = next-put _ c.args.asked.now place put c.as_slice-put-items.ensures c.loop-put-test.true c.put-item.is in
    let is = c.in_ok-judge_one.field-0 in
    let write = c.asked_by-write.ensures basin c.row-row.ensures in
    let more : c.if-branch.writes ≡ c.loop-put.writes ++ cond is (c.asked_by-write.result ∷ []) [] = elim c.if-branch.branch [
      | then-branch w ↦ w.writes-is ∙ w.push.ensures
          ∙ ap (λ test. c.loop-put.writes ++ cond test (c.asked_by-write.result ∷ []) []) (sym w.if-branch.true)
      | else-branch w ↦ w.writes-is ∙ sym (append-nil c.loop-put.writes)
          ∙ ap (λ test. c.loop-put.writes ++ cond test (c.asked_by-write.result ∷ []) []) (sym w.if-branch.false)
    ] in
    let added = more ∙ ap (λ (asked : Asked). c.loop-put.writes ++ cond is (asked ∷ []) []) write in
    let can : CanPut basin object put = search rules in
    record {
      judging = λ cells seen.
          judging-more basin cells object step c.args.asked.now (drop place c.args.asked.now) (drop (place + 1) c.args.asked.now)
          c.loop-put.writes put
          c.known.result left (c.loop-put.invariant.judging cells seen)
          (held_in_view basin cells object step c.args.view.now put seen can ∙ sym c.known.ensures)
          c.if-branch.writes is (subst (λ (asked : Asked). IsPassed c.known.result asked is) write c.in_ok-judge_one.ensures.passed) added;
      noted =
          noted-more basin place c.loop-put.writes c.if-branch.writes (asked_by basin object step put) is c.loop-put.invariant.noted
          (can_write basin object step put c.requires.turn can) added;
    }

-- what is so of a fault is so of the answer that hands it on
handed_on : {X E : Type 0} (P : E → Type 0) (result : Result X E) (why : E) → IsErrAnd result (λ fault. fault ≡ why) → P why → IfErr result P
handed_on P (Ok x) why is holds = absurd is
handed_on P (Err fault) why is holds = subst P (sym is) holds

pub returns-in_err-judge_one-clause-clash : goal.returns-in_err-judge_one-clause-clash
returns-in_err-judge_one-clause-clash c =
    let basin = c.args.basin.now in
    let object = c.args.object.0 in
    let step = c.args.step.0 in
    let all = c.args.asked.now in
    let place = c.loop-put.put-index in
    let put = c.put-item.result in
    let left = next-put _ all place put c.as_slice-put-items.ensures c.loop-put-test.true c.put-item.is in
    let clash = c.in_err-judge_one.field-0.0 in
    handed_on (λ (clash : Clash). (cells : Cells) (rest : Event) → c.args.view.now ≡ view_of basin cells object step
    → judged cells object (asked_for basin object step all) rest ≡ conflict object step clash.slot clash.held clash.solved)
    c.from_residual.result clash c.from_residual.ensures.1
    (λ cells rest seen.
    judged-denied basin cells object step all (drop place all) (drop (place + 1) all) c.loop-put.writes put c.known.result left
    (c.loop-put.invariant.judging cells seen) (held_in_view basin cells object step c.args.view.now put seen (search rules) ∙ sym c.known.ensures)
    (conflict object step clash.slot clash.held clash.solved)
    (subst (λ (asked : Asked). (event : Event) → or_fault (denied_by (end_of_put c.known.result asked.content) asked) object asked event
    ≡ conflict object asked.cell.step.0 clash.slot clash.held clash.solved)
    (c.asked_by-write.ensures basin c.row-row.ensures) (λ event. c.in_err-judge_one.ensures.clash object event))
    rest)
