use Rattle.rw_commands.proofs.Common.{MatchResult, Some, ap, arith, change, length, subst, sym, ◌∙◌}
use Rattle.rw_inputs.specs.Edits.{IsBatch}
use Rattle.rw_commands.specs.RunText.{IsRulesText}
use Rattle.rw_commands.specs.Sections.{AppendsAll, StopsAmong}
use Rattle.rw_commands.proofs.SectionLemmas.{first_of_all, goes_on, last_section, rest_of, stops_behind, stops_here}
use Rattle.rw_commands.proofs.sections.+write_from.Goals as goal

pub returns-in-Err : goal.returns-in-Err
returns-in-Err g t c = λ policy before means.
    stops_here (IsRulesText c.args.setup.now.basin.now policy c.args.extras) c.args.left.number
    (record { before = before; inputs = c.args.left.inputs }) c.args.left.batches.now _ c.in-Err.refusal (c.in-Err.ensures.out policy before means)

pub returns-in-None : goal.returns-in-None
returns-in-None g t c = λ policy before means.
    subst
    (λ batches. AppendsAll (IsRulesText c.args.setup.now.basin.now policy c.args.extras) c.args.left.number
    (record { before = before; inputs = c.args.left.inputs }) batches (change (g.K.Sink.seen c.args.out.now) (g.K.Sink.seen c.write_section.new.out))
    c.in-Ok.end)
    (sym c.in-None.ensures)
    (last_section (IsRulesText c.args.setup.now.basin.now policy c.args.extras) c.args.left.number
    (record { before = before; inputs = c.args.left.inputs }) _ c.in-Ok.end (c.in-Ok.ensures.out policy before means))

pub returns-in-Err-changed : goal.returns-in-Err-changed
returns-in-Err-changed g t c = λ policy before means.
    let some = ap length c.in-Some.ensures in
    stops_behind (IsRulesText c.args.setup.now.basin.now policy c.args.extras) c.args.left.number
    (record { before = before; inputs = c.args.left.inputs }) c.args.left.batches.now
    (change (g.K.Sink.seen c.args.out.now) (g.K.Sink.seen c.write_section.new.out)) c.in-Ok.end
    (omega (arith, some)) (c.in-Ok.ensures.out policy before means)

pub write_from-requires : goal.write_from-requires
write_from-requires g t c κs within =
    let shorter = ap length c.in-Some.ensures in
    let few = c.requires.few in
    let batches =
    rest_of (IsBatch c.args.setup.now.basin.now) c.args.left.batches.now c.in-Some.batch.now c.in-Some.rest.now c.in-Some.ensures
    c.requires.batches in (
      omega (arith, c.decreases, shorter),
      (
        within.0,
        (
          within.1.0,
          (
            within.1.1,
            (
              c.requires.order,
              (
                c.requires.fits,
                (
                  c.in-Ok-changed.ensures.made,
                  (batches, (omega (arith, few, shorter), (c.requires.plain, c.in-Ok.ensures.sheet ∙ c.requires.sheet))),
                ),
              ),
            ),
          ),
        ),
      ),
    )

pub changed-requires-clause-batch : goal.changed-requires-clause-batch
changed-requires-clause-batch g t c =
    first_of_all (IsBatch c.args.setup.now.basin.now) c.args.left.batches.now c.in-Some.batch.now c.in-Some.rest.now c.in-Some.ensures c.requires.batches

pub returns-in-Ok-changed : goal.returns-in-Ok-changed
returns-in-Ok-changed g t c = λ policy before means.
    subst
    (λ batches. MatchResult c.write_from.result
    (AppendsAll (IsRulesText c.args.setup.now.basin.now policy c.args.extras) c.args.left.number
    (record { before = before; inputs = c.args.left.inputs }) batches (change (g.K.Sink.seen c.args.out.now) (g.K.Sink.seen c.write_from.new.out)))
    (StopsAmong (IsRulesText c.args.setup.now.basin.now policy c.args.extras) c.args.left.number
    (record { before = before; inputs = c.args.left.inputs }) batches (change (g.K.Sink.seen c.args.out.now) (g.K.Sink.seen c.write_from.new.out))))
    (sym c.in-Some.ensures)
    (goes_on (IsRulesText c.args.setup.now.basin.now policy c.args.extras) c.args.left.number
    (record { before = before; inputs = c.args.left.inputs }) c.in-Ok-changed.edited c.in-Some.batch.now c.in-Some.rest.now
    (g.K.Sink.seen c.args.out.now) (g.K.Sink.seen c.write_section.new.out) (g.K.Sink.seen c.write_from.new.out) c.in-Ok.end
    (c.in-Ok.ensures.out policy before means)
    c.in-Ok-changed.ensures.values c.write_from.result (c.write_from.ensures policy (Some c.args.left.inputs) means))
