use Rattle.rw_base.proofs.Common.{rules, subst}
use Rattle.rw_series.specs.Series.{held}
use Rattle.rw_agenda.specs.Agenda.{is_marked, looked_by}
use Rattle.rw_dispatch.specs.Writes.{AreWrites}
use Rattle.rw_rules.proofs.Kept.{indexed_on}
use Rattle.rw_rules.proofs.rules.Rules.write.Goals as goal

pub make-requires-clause-can : goal.make-requires-clause-can
make-requires-clause-can c = subst (AreWrites c.args.basin.now) (search rules) c.requires.can

pub wake_written-requires-clause-can : goal.wake_written-requires-clause-can
wake_written-requires-clause-can c = subst (AreWrites c.args.basin.now) (search rules) c.requires.can

pub mark-requires : goal.mark-requires
mark-requires c = record { can = subst (AreWrites c.args.basin.now) (search rules) c.requires.can }

pub returns-clause-keeps : goal.returns-clause-keeps
returns-clause-keeps c =
    let writes = c.written-writes.result.now in record {
      order = search rules;
      rules = search rules;
      written = search rules;
      indexed = λ indexed.
          indexed_on c.args.basin.now c.self.inside.agenda c.mark.new.agenda (held c.args.series.now) (held c.make.new.series) writes
          (c.index.ensures c.args.basin.now (held c.args.series.now) writes (looked_by c.mark.new.agenda) (is_marked c.self.inside.agenda)
          (is_marked c.mark.new.agenda) c.mark.ensures.marked)
          c.mark.ensures.rules c.make.ensures.cells (search rules);
    }
