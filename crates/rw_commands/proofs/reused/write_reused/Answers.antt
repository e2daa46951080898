use Rattle.rw_commands.proofs.Common.{change, length, refl}
use Rattle.rw_commands.specs.Policy.{PolicyFile as Rules}
use Rattle.rw_commands.specs.Reused.{WritesFrom}
use Rattle.rw_commands.specs.RunText.{IsCodeOf, IsRulesText}
use Rattle.rw_commands.specs.Sections.{first_given}
use Rattle.rw_commands.specs.declared.refusal.Refusal.TheVariants.{NoMemory}
use Rattle.rw_commands.proofs.SectionLemmas.{stops_here}
use Rattle.rw_commands.proofs.SessionSections.{all_counted, first_next}
use Rattle.rw_commands.proofs.reused.write_reused.Goals as goal

pub returns-in-Err-clause-text : goal.returns-in-Err-clause-text
returns-in-Err-clause-text g c = λ policy means.
    stops_here (IsRulesText c.args.setup.now.basin.now policy c.args.extras) 0 (first_given c.args.inputs) c.args.batches.now _ NoMemory refl

pub returns-in-Ok-clause-text : goal.returns-in-Ok-clause-text
returns-in-Ok-clause-text g c = λ policy means.
    let setup = c.in-Ok.ensures.setup in
    let next =
    first_next c.args.setup.now.basin.now policy c.args.setup.now.policy.now means c.args.inputs c.in-Ok.session.state c.in-Ok.ensures.started in
    let writes : WritesFrom c.args.setup.now.basin.now policy c.args.extras 0 (first_given c.args.inputs) c.args.batches.now
    (length c.in-Ok.session.state.reran) (change (g.K.Sink.seen c.args.out.now) (g.K.Sink.seen c.write_session.new.out))
    (change c.start_of.new.steps c.write_session.new.steps) c.write_session.result =
    rw setup at (c.write_session.ensures policy (first_given c.args.inputs) (rw setup means) (rw setup next)) in
    writes.text

pub returns-in-Ok-clause-counted : goal.returns-in-Ok-clause-counted
returns-in-Ok-clause-counted g c = λ policy means.
    let setup = c.in-Ok.ensures.setup in
    let next =
    first_next c.args.setup.now.basin.now policy c.args.setup.now.policy.now means c.args.inputs c.in-Ok.session.state c.in-Ok.ensures.started in
    let writes : WritesFrom c.args.setup.now.basin.now policy c.args.extras 0 (first_given c.args.inputs) c.args.batches.now
    (length c.in-Ok.session.state.reran) (change (g.K.Sink.seen c.args.out.now) (g.K.Sink.seen c.write_session.new.out))
    (change c.start_of.new.steps c.write_session.new.steps) c.write_session.result =
    rw setup at (c.write_session.ensures policy (first_given c.args.inputs) (rw setup means) (rw setup next)) in
    all_counted c.args.setup.now.basin.now policy c.args.inputs c.args.batches.now (length c.in-Ok.session.state.reran) c.args.steps.now
    c.start_of.new.steps
    c.write_session.new.steps c.write_session.result c.in-Ok.ensures.counted.each writes.counted

pub start_of-requires-clause-can : goal.start_of-requires-clause-can
start_of-requires-clause-can g c = record { fits = c.requires.fits; inputs = c.requires.inputs }

pub write_session-requires-clause-made : goal.write_session-requires-clause-made
write_session-requires-clause-made g c = let setup = c.in-Ok.ensures.setup in rw setup c.in-Ok.ensures.started.is

pub write_session-requires-clause-order : goal.write_session-requires-clause-order
write_session-requires-clause-order g c = let setup = c.in-Ok.ensures.setup in rw setup c.requires.order

pub write_session-requires-clause-batches : goal.write_session-requires-clause-batches
write_session-requires-clause-batches g c = let setup = c.in-Ok.ensures.setup in rw setup c.requires.batches
