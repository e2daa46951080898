use Rattle.rw_commands.proofs.Common.{None, Ok, ap, refl, subst, sym, ◌≡◌}
use Rattle.rw_io.specs.Outside.{change}
use Rattle.rpl_verify.specs.Verified.{Accepted, verified}
use Rattle.rw_run.specs.Next.{no_rules}
use Rattle.rw_commands.specs.RunText.{IsRunText}
use Rattle.rw_commands.specs.Sections.{first_given}
use Rattle.rw_commands.proofs.OneSection.{told_one}
use Rattle.rw_commands.proofs.PlainText.{text_is_run}
use Rattle.rw_commands.proofs.RulesText.{without_rules}
use Rattle.rw_commands.proofs.simulate.write_oldest.Goals as goal

pub run_all_of-requires-clause-can : goal.run_all_of-requires-clause-can
run_all_of-requires-clause-can g c = record {
  fits = subst (λ (a : Accepted). verified c.args.setup.now.basin.now a.blocks ≡ Ok a) (sym c.requires.none) refl;
  inputs = c.requires.inputs;
}

pub returns-in-Ok : goal.returns-in-Ok
returns-in-Ok g c =
    let basin = c.args.setup.now.basin.now in
    let inputs = c.args.inputs.now in
    told_one (λ number given. IsRunText basin no_rules c.args.extras None number given.inputs) 0 (first_given inputs)
    (change (g.K.Sink.seen c.args.out.now) (g.K.Sink.seen c.write_run.new.out)) c.in-Ok.run'.end _
    (without_rules c.same_runs.ensures.alike basin _ c.args.extras None _ inputs _ _ (ap (λ (a : Accepted). a.blocks) c.requires.none) c.requires.silent
    (text_is_run c.texts_of_runs.ensures.whole basin _ c.args.extras None _ inputs c.in-Ok.run' _ c.in-Ok.ensures.run c.in-Ok.ensures.kept
    c.requires.silent refl))
    c.write_run.result c.write_run.ensures.end c.write_run.ensures.text
