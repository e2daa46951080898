use Rattle.rw_dispatch.proofs.Common.{ObjectNo, [], ap, arith, cond, length, option_map, refl, rules, sym, ◌+◌, ◌++◌, ◌∙◌, ◌∷◌, ◌≡◌}
use Rattle.rw_run.specs.Waiting.{is_woken}
use Rattle.rw_dispatch.proofs.Queues.{more_passed, woken-later}
use Rattle.rw_dispatch.proofs.Reaching.{none_before, none_behind}
use Rattle.rw_dispatch.proofs.queue.Queue.wake_reached.Goals as goal

pub loop-place-init : goal.loop-place-init
loop-place-init c = record {
  objects = refl;
  waiting =
      λ slots has. none_before c.args.basin.now (option_map (λ (object : ObjectNo). object.0) c.args.but) c.args.self.now.waiting slots
      c.args.reached.now has c.lesser-place.result (search rules);
}

pub loop-place-preserved : goal.loop-place-preserved
loop-place-preserved c = record {
  objects = search rules;
  waiting = λ slots has.
      let basin = c.args.basin.now in
      let but = option_map (λ (object : ObjectNo). object.0) c.args.but in
      let old = c.args.self.now.waiting in
      let is = c.loop-place.invariant.waiting slots has in
      more_passed (is_woken basin but old slots) c.loop-place.place old c.loop-place.self.waiting _ c.is_woken-woken.result is
      (c.is_woken-woken.ensures.woken slots has
      ∙ ap (is_woken basin but c.loop-place.self.waiting slots) c.object_in-object.ensures
      ∙ ap (λ queue. is_woken basin but queue slots (c.loop-place.place + 1)) is
      ∙ woken-later basin but (is_woken basin but old slots) old slots (c.loop-place.place + 1) c.loop-place.place (omega arith))
      (c.append_if.ensures.appended
      ∙ ap (λ object. c.loop-place.self.waiting ++ cond c.is_woken-woken.result (object ∷ []) []) c.object_in-object.ensures);
}

pub returns-clause-woken : goal.returns-clause-woken
returns-clause-woken c = λ slots has.
    let last = c.loop-place-test.false in
    let end = c.loop-place.auto.place-end in
    let at : c.loop-place.place ≡ c.lesser-last.result = omega arith in
    none_behind c.args.basin.now (option_map (λ (object : ObjectNo). object.0) c.args.but) c.args.self.now.waiting slots c.args.reached.now has
    c.loop-place.self.waiting c.loop-place.place (length c.args.basin.now.objects) c.lesser-last.result c.from.result at
    c.lesser-last.ensures.other
    (sym c.object_count.ensures.count ∙ sym c.from.ensures) c.lesser-last.ensures.least (c.loop-place.invariant.waiting slots has)
