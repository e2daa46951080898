use Rattle.rw_base.proofs.Common.{None, Some, ap, drop, if◌then◌else◌, map, sym, ◌∙◌}
use Rattle.std.proofs.lemmas.List.{drop-map}
use Rattle.rw_run.specs.Line.{line_event}
use Rattle.rw_run.specs.Trace.{lines_in}
use Rattle.rw_run.proofs.trace.Trace.kept_from.Goals as goal

pub returns-then-self : goal.returns-then-self
returns-then-self c =
    let lines = c.self.inside.lines.items in
    ap (map line_event) (c.from_place.ensures ∙ ap (drop c.args.place) c.deref.ensures.value) ∙ sym (drop-map line_event c.args.place lines)
    ∙ ap (λ kept. drop c.args.place (lines_in (if kept then Some (map line_event lines) else None))) (sym c.if-self.true)
    ∙ ap (λ trace. drop c.args.place (lines_in trace)) c.self.view_is
