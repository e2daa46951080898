use Rattle.rw_commands.proofs.Common.{None, refl, sym, ◌∙◌}
use Rattle.rw_io.specs.Outside.{change}
use Rattle.rw_run.specs.Next.{no_rules}
use Rattle.rw_commands.specs.RunText.{IsNewestText}
use Rattle.rw_commands.specs.Sections.{first_given}
use Rattle.rw_commands.proofs.OneSection.{told_one}
use Rattle.rw_commands.proofs.RulesText.{told_plain}
use Rattle.rw_commands.proofs.simulate.write_newest.Goals as goal

pub returns-in-Ok : goal.returns-in-Ok
returns-in-Ok g c =
    let basin = c.args.setup.now.basin.now in
    let inputs = c.args.inputs.now in
    let comes = c.in-Ok.ensures.run in
    told_one (λ number given. IsNewestText basin c.args.extras number given.inputs) 0 (first_given inputs)
    (change (g.K.Sink.seen c.args.out.now) (g.K.Sink.seen c.write_run.new.out)) c.in-Ok.run'.end _
    (record {
      log = comes.log;
      run = comes.whole;
      end_is = comes.is.end;
      text_is =
          c.texts_of_runs.ensures.whole basin 0 comes.log c.in-Ok.run' None c.args.extras.flags c.args.extras.trace comes.is c.in-Ok.ensures.told
          ∙ sym (told_plain basin no_rules c.args.extras 0 None comes.log c.requires.silent);
    })
    c.write_run.result c.write_run.ensures.end c.write_run.ensures.text
