use Rattle.rw_base.proofs.Common.{rules}
use Rattle.rw_agenda.specs.Agenda.{is_marked, looked_by}
use Rattle.rw_rules.proofs.Kept.{indexed_on}
use Rattle.rw_rules.proofs.rules.Rules.touched.Goals as goal

pub returns : goal.returns
returns c = λ before after cells. record {
  order = search rules;
  rules = search rules;
  written = search rules;
  indexed = λ indexed.
      indexed_on c.args.basin.now c.self.inside.agenda c.mark.new.agenda before after c.args.writes.now
      (c.index.ensures c.args.basin.now before c.args.writes.now (looked_by c.mark.new.agenda) (is_marked c.self.inside.agenda)
      (is_marked c.mark.new.agenda) c.mark.ensures.marked)
      c.mark.ensures.rules cells (search rules);
}
