use Rattle.rw_engine.proofs.Common.{[], placings, refl, rules, sym, ◌∙◌}
use Rattle.rw_run.proofs.Placed.{trace-placed, closed-placed, end-placed}
use Rattle.rw_engine.proofs.Traces.{kept_where, shows_nothing}
use Rattle.rw_engine.specs.Shows.{NotesAlike}
use Rattle.rw_engine.proofs.state.State.for_run.Goals as goal

pub place-requires-clause-made : goal.place-requires-clause-made
place-requires-clause-made c = record {
  made = c.in_ok-parts.ensures.series;
  bounded = λ cell content known is. let none = sym (c.in_ok-parts.ensures.unknown cell) ∙ is in absurd (cc);
}

pub returns-clause-begun : goal.returns-clause-begun
returns-clause-begun c =
    let fits = c.requires.can.fits in
    let notes : NotesAlike c.args.noted c.trace_where-lines.result c.args.trace = record {
      same = kept_where c.trace_where-lines.result _ c.trace_where-lines.ensures ∙ c.is_kept.ensures;
      traced = c.requires.notes;
    } in
    let given = placings c.args.basin.now c.args.inputs.now in record {
      made = record {
        engine = search (rules, notes, fits);
        keeps = c.new.ensures ∙ c.is_kept-2.ensures;
        counts = c.in_ok-parts.ensures.counts;
        firings = c.in_ok-parts.ensures.firings ∙ sym c.in_ok-parts.ensures.rules.many;
      };
      shows = record {
        cells = c.place.ensures.placed [] c.in_ok-parts.ensures.unknown;
        trace = shows_nothing c.args.trace _ (trace-placed [] given) c.requires.fresh;
        closed_steps = sym (closed-placed [] given);
        end = sym (end-placed [] given refl);
      };
      turns = refl;
    }
