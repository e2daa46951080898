use Rattle.rw_base.proofs.Common.{◌≡◌, ℕ, Bool, true, false, List, Some, None, if◌then◌else◌, refl, ap, sym, ◌∙◌, take, map, take-map, option_map}
use Rattle.rw_run.specs.declared.line.Line.{Line}
use Rattle.rw_run.specs.Line.{line_event}
use Rattle.rw_run.proofs.trace.Trace.truncate.Goals as goal

shorter : (kept : Bool) (count : ℕ) (lines : List Line)
    → (if kept then Some (map line_event (take count lines)) else None) ≡ option_map (take count) (if kept then Some (map line_event lines) else None)
shorter true count lines = ap Some (sym (take-map line_event count lines))
shorter false count lines = refl

pub returns : goal.returns
returns c =
    ap (λ lines. if c.self.inside.kept then Some (map line_event lines) else None) c.truncate.ensures.items
    ∙ shorter c.self.inside.kept c.args.count c.self.inside.lines.items
    ∙ ap (option_map (take c.args.count)) c.self.view_is
