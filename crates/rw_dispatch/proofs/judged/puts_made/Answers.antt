use Rattle.rw_dispatch.proofs.Common.{CanPut, [], ap, ap₂, cond, rules, sym, ◌++◌, ◌∙◌, ◌∷◌, ◌≡◌}
use Rattle.std.proofs.lemmas.List.{append-nil}
use Rattle.rw_model.specs.Put.{end_of_put}
use Rattle.rw_method.specs.declared.put.Put.{Put}
use Rattle.rw_run.proofs.Common.{Asked, asked_by, end_in, is_written}
use Rattle.rw_dispatch.proofs.CanPuts.{held_in_view}
use Rattle.rw_dispatch.proofs.Judgement.{few_more, filtered-more}
use Rattle.rw_dispatch.proofs.judged.puts_made.Goals as goal
use Rattle.rw_dispatch.proofs.judged.puts_made.Goals.{then-is_written, else-is_written}

pub loop-put-preserved : goal.loop-put-preserved
loop-put-preserved c =
    let basin = c.args.basin.now in
    let object = c.args.object.0 in
    let step = c.args.step.0 in
    let place = c.loop-put.put-index in
    let put = c.put-item.result in
    let is = c.is_written.result in
    let can : CanPut basin object put = search rules in
    let added : c.if-is_written.made ≡ c.loop-put.made ++ cond is (put ∷ []) [] = elim c.if-is_written.branch [
      | then-is_written w ↦ w.made-is ∙ w.push.ensures ∙ ap (λ test. c.loop-put.made ++ cond test (put ∷ []) []) (sym w.if-is_written.true)
      | else-is_written w ↦ w.made-is ∙ sym (append-nil c.loop-put.made)
          ∙ ap (λ test. c.loop-put.made ++ cond test (put ∷ []) []) (sym w.if-is_written.false)
    ] in
    record {
      few = few_more c.loop-put.made c.if-is_written.made put place is added c.loop-put.invariant.few;
      made = λ cells seen.
          filtered-more (λ (one : Put). is_written (end_in cells (asked_by basin object step one))) _ c.args.asked.now place put c.loop-put.made
          c.if-is_written.made is c.as_slice-put-items.ensures c.loop-put-test.true c.put-item.is (c.loop-put.invariant.made cells seen) added
          (c.is_written.ensures
          ∙ ap₂ (λ held (asked : Asked). is_written (end_of_put held asked.content))
          (c.known.ensures ∙ sym (held_in_view basin cells object step c.args.view.now put seen can))
          (c.asked_by-write.ensures basin c.row-row.ensures));
    }
