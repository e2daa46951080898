use Rattle.rw_dispatch.proofs.Common.{ObjectNo, and_parts, not, option_map, sym, ◌∙◌}
use Rattle.rw_run.specs.Waiting.{is_but, is_owner}
use Rattle.rw_dispatch.proofs.Queues.{woken-unreached}
use Rattle.rw_dispatch.proofs.queue.Queue.is_woken.Goals as goal

pub returns-then-has_mark-clause-woken : goal.returns-then-has_mark-clause-woken
returns-then-has_mark-clause-woken c = λ slots has.
    let but = option_map (λ (other : ObjectNo). other.0) c.args.but in
    c.is_free.ensures.woken slots (and_parts (not (is_but but c.args.object)) (is_owner c.args.basin.now slots c.args.object)
    (sym (has.marked c.args.object c.requires.known.first) ∙ sym c.has_mark.ensures ∙ c.if-has_mark.true)).1

pub returns-else-has_mark-clause-woken : goal.returns-else-has_mark-clause-woken
returns-else-has_mark-clause-woken c = λ slots has.
    sym (woken-unreached c.args.basin.now (option_map (λ (other : ObjectNo). other.0) c.args.but) c.args.self.now.waiting slots c.args.object
    (sym (has.marked c.args.object c.requires.known.first) ∙ sym c.has_mark.ensures ∙ c.if-has_mark.false))
