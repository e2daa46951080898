use Rattle.rw_base.proofs.Common.{◌∙◌, sym, ◌∷◌, [], length, map, map-append}
use Rattle.rpl_tree.specs.Seen.{parameter_of}
use Rattle.rpl_parse.specs.ReadingDeclared.{params_read, read_parameter}
use Rattle.rpl_parse.specs.Tokens.{toks}
use Rattle.rpl_parse.proofs.Faults.{fails_on}
use Rattle.rpl_parse.proofs.TurnsParameters.{more_stops, more_goes, more_fails, parameters_fault}
use Rattle.rpl_parse.proofs.types.more_parameters.Goals as goal

pub returns-in_default : goal.returns-in_default
returns-in_default c =
    let e = rw c.in_default.is at c.behind.ensures in
    sym c.loop-turn.invariant ∙ more_stops _
    (params_read (map parameter_of c.loop-turn.params.items) (toks c.args.text.now c.loop-turn.rest.now)) (sym e)

pub loop-turn-preserved : goal.loop-turn-preserved
loop-turn-preserved c =
    let e = rw c.in-Some.is at c.behind.ensures in
    let go =
    more_goes (length c.args.tokens.now) c.loop-turn._turn
    (params_read (map parameter_of c.loop-turn.params.items) (toks c.args.text.now c.loop-turn.rest.now))
    (toks c.args.text.now c.in-Some.next.now)
    (record { it = parameter_of c.in_ok-param.param; next = toks c.args.text.now c.in_ok-param.after.now }) c.loop-turn-test.true (sym e)
    c.in_ok-param.ensures in
    rw (c.in_ok-pushed.ensures.ok, map-append parameter_of c.loop-turn.params.items (c.in_ok-param.param ∷ [])) (sym go ∙ c.loop-turn.invariant)

pub returns-in_err-param : goal.returns-in_err-param
returns-in_err-param c =
    let e = rw c.in-Some.is at c.behind.ensures in
    parameters_fault c.args.text.now c.from_residual.result _ c.in_err-param.field-0.0 c.from_residual.ensures.1
    (fails_on c.in_err-param.field-0.0 (read_parameter (toks c.args.text.now c.in-Some.next.now)) _
    (λ none. sym c.loop-turn.invariant ∙ more_fails (length c.args.tokens.now) c.loop-turn._turn
    (params_read (map parameter_of c.loop-turn.params.items) (toks c.args.text.now c.loop-turn.rest.now))
    (toks c.args.text.now c.in-Some.next.now) c.loop-turn-test.true (sym e) none)
    c.in_err-param.ensures)
